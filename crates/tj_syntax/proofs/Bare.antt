-- What is so of short tokens whatever their names and numbers are, and of the tokens that they stand for.
use Rattle.std.proofs.Common.{◌≡◌, ◌≤◌, ◌-◌, ℕ, List, [], ◌∷◌, length, map, take, take_all, drop, get_or, refl, ap, sym, ◌∙◌, suc, arith}
use Rattle.std.specs.List.{slice_range}
use Rattle.std.proofs.lemmas.List.{length-map}
use Rattle.tj_lex.specs.declared.shorts.Kind.{Kind}
use Rattle.tj_lex.specs.declared.shorts.Kind.TheVariants as kinds
use Rattle.tj_lex.specs.declared.shorts.Short.{Short}
use Rattle.tj_lex.specs.declared.token.Key.TheVariants as k
use Rattle.tj_lex.specs.declared.token.Mark.TheVariants as m
use Rattle.tj_lex.specs.declared.token.Tok.{Tok}
use Rattle.tj_lex.specs.declared.token.Tok.TheVariants as toks
use Rattle.tj_lex.specs.Shorts.{tok_of, what_of, whole_tokens}
use Rattle.tj_syntax.specs.Faults.{kinds_of}
use Rattle.tj_syntax.specs.Marks.{Name}
use Rattle.tj_syntax.specs.Inner.Input.{Head, count_params, with_front, with_head}
use Rattle.tj_syntax.specs.Inner.State.{bare}

-- one token in front of those that are counted
count_one : (kind : Kind) (bytes : List ℕ) (a b : List Tok) → count_params a ≡ count_params b
    → count_params (tok_of kind bytes ∷ a) ≡ count_params (tok_of kind [] ∷ b)
count_one kinds.Name bytes a b e = ap suc e
count_one kinds.Num bytes a b e = refl
count_one (kinds.Key key) bytes a b e = refl
count_one (kinds.Mark m.ParenOpen) bytes a b e = e
count_one (kinds.Mark m.Comma) bytes a b e = e
count_one (kinds.Mark mark) bytes a b e = refl
count_one kinds.End bytes a b e = refl

-- how many parameters stand at the front
pub bare_count : (text : List ℕ) (shorts : List Short)
    → count_params (map (what_of text) shorts) ≡ count_params (map bare shorts)
bare_count text [] = refl
bare_count text (short ∷ shorts) = count_one short.what _ _ _ (bare_count text shorts)

-- the head of a task
pub bare_head : (text : List ℕ) (found : List Head) (name : Name) (shorts : List Short)
    → with_head found name (map bare shorts) ≡ with_head found name (map (what_of text) shorts)
bare_head text found name shorts =
    let size : length (map bare shorts) ≡ length (map (what_of text) shorts) =
    length-map shorts bare ∙ sym (length-map shorts (what_of text)) in
    rw (bare_count text shorts, size) refl

-- the head at the front
pub bare_front : (text : List ℕ) (found : List Head) (shorts : List Short) (d e : Short) (name : Name)
    → 2 ≤ length shorts → (get_or shorts 0 d).what ≡ kinds.Key k.Task
    → what_of text (get_or shorts 1 e) ≡ toks.Name name
    → with_head found name (map bare (take (length shorts - 2) (drop 2 shorts)))
    ≡ with_front found (map (what_of text) shorts)
bare_front text found [] d e name two task named = absurd (omega arith)
bare_front text found (t ∷ []) d e name two task named = absurd (omega arith)
bare_front text found (t ∷ n ∷ rest) d e name two task named =
    let first : what_of text t ≡ toks.Key k.Task =
    ap (λ kind. tok_of kind (slice_range text t.from t.to)) task in
    let whole : take (length (t ∷ n ∷ rest) - 2) rest ≡ rest = take_all _ rest (omega arith) in
    ap (λ ts. with_head found name (map bare ts)) whole ∙ bare_head text found name rest
    ∙ sym (ap (λ what. with_front found (what ∷ what_of text n ∷ map (what_of text) rest)) first
    ∙ ap (λ what. with_front found (toks.Key k.Task ∷ what ∷ map (what_of text) rest)) named)

-- what the tokens are that short ones stand for
pub kinds_whole : (text : List ℕ) (shorts : List Short)
    → kinds_of (whole_tokens text shorts) ≡ map (what_of text) shorts
kinds_whole text [] = refl
kinds_whole text (short ∷ shorts) = ap (λ ts. what_of text short ∷ ts) (kinds_whole text shorts)
