-- The names of a script's tasks and variables stand in its tokens, whose bytes are letters, digits and underscores: so
-- none has a line feed.
use Rattle.std.proofs.Common.{◌≡◌, ◌⊎◌, ℕ, zero, suc, true, false, List, [], ◌∷◌, ◌++◌, Some}
use Rattle.std.proofs.Common.{length, refl, sym, ap, subst, ◌∙◌, inl, inr, ⊎_elim}
use Rattle.std.specs.Prelude.{drop, slice_get, take_while}
use Rattle.std.specs.List.{list_all, slice_range}
use Rattle.tj_body.specs.Points.{IsIn}
use Rattle.tj_body.proofs.Lists.{in_either, in_left, in_map, in_right, to_map}
use Rattle.tj_lex.specs.Bytes.{is_name_byte}
use Rattle.tj_lex.specs.Tokens.{HasTokens, IsToken, Spells}
use Rattle.tj_lex.specs.declared.token.Mark.TheVariants as m
use Rattle.tj_lex.specs.declared.token.Tok.TheVariants as toks
use Rattle.tj_lex.specs.declared.token.Token.{Token}
use Rattle.tj_lex.proofs.Stretches.{both, list_all-prefix}
use Rattle.tj_mean.proofs.Lists.Elements.{some_is}
use Rattle.tj_syntax.specs.Faults.{tokens_of}
use Rattle.tj_syntax.specs.Grammar as g
use Rattle.tj_syntax.specs.Grammar.{IsBlock, IsElse, IsMoreParams, IsParams, IsStatement, IsStatements, IsTask, IsTasks}
use Rattle.tj_syntax.specs.Marks.{Name, Note, Noted, declaration, declares, fine, mark, most_tasks, most_vars}
use Rattle.tj_syntax.specs.ScriptTexts.{IsScriptOf}
use Rattle.tj_syntax.specs.Trees.{Otherwise, Statement, Statements, Task}
use Rattle.tj_findings.specs.LinesTold.{IsPlain}
use Rattle.tj_findings.proofs.PlainTexts.{plain_byte}

-- bytes of names have no line feed
plain_bytes : (text : List ℕ) → list_all is_name_byte text ≡ true → IsPlain text
plain_bytes [] e = refl
plain_bytes (b ∷ text) e =
    let h = both (is_name_byte b) (list_all is_name_byte text) e in
    plain_byte b text (λ f. let z : false ≡ true = ap is_name_byte (sym f) ∙ h.0 in cc) (plain_bytes text h.1)

-- a token that is a name
plain_token : (text : List ℕ) (start : ℕ) (t : Token) (x : List ℕ) → IsToken text start t → toks.Name x ≡ t.what
    → IsPlain x
plain_token text start t x is e =
    let h : Spells (drop t.from text) (slice_range text t.from t.to) (toks.Name x) =
    subst (Spells (drop t.from text) (slice_range text t.from t.to)) (sym e) is.spelled in
    subst IsPlain (sym (h.3 ∙ h.1))
    (plain_bytes (take_while is_name_byte (drop t.from text)) (list_all-prefix is_name_byte (drop t.from text)))

-- a token of a text stands somewhere in it
token_in : (text : List ℕ) (start : ℕ) (ts : List Token) (stop : ℕ) → HasTokens text start ts stop → (t : Token)
    → IsIn t ts → (k : ℕ) × IsToken text k t
token_in text start [] stop has t i = absurd i
token_in text start (u ∷ ts) stop has t (inl e) = (start, subst (IsToken text start) (sym e) has.0)
token_in text start (u ∷ ts) stop has t (inr i) = token_in text u.to ts stop has.1 t i

-- each name among the notes has no line feed
abbrev Spelled : List Noted → Type 0
Spelled notes = (x : List ℕ) (n : Note) → IsIn (toks.Name x, n) notes → IsPlain x

-- each of these names has none
abbrev AllPlain : List Name → Type 0
AllPlain names = (x : List ℕ) → IsIn x names → IsPlain x

-- the notes of a text
notes_spelled : (input : List ℕ) (script : List Task) (is : IsScriptOf input script) → Spelled is.is_script.notes
notes_spelled input script is x n i =
    let j = in_left (toks.Name x) (tokens_of is.is_script.notes) (toks.End ∷ [])
    (to_map (λ (z : Noted). z.0) (toks.Name x, n) is.is_script.notes i) in
    let t = in_map (λ (z : Token). z.what) (toks.Name x) is.tokens
    (subst (IsIn (toks.Name x)) (sym is.is_script.spells) j) in
    by t.0 t.2 (in_either t.0 is.has_tokens.front (is.has_tokens.last ∷ [])
    (subst (IsIn t.0) is.has_tokens.whole t.1))
  where
    by : (t : Token) → toks.Name x ≡ t.what → IsIn t is.has_tokens.front ⊎ IsIn t (is.has_tokens.last ∷ []) → IsPlain x
    by t e (inl i) =
        let k = token_in input 0 is.has_tokens.front is.has_tokens.stop is.has_tokens.has_front t i in
        plain_token input k.0 t x k.1 e
    by t e (inr (inl f)) =
        let z : toks.Name x ≡ toks.End = e ∙ ap (λ (u : Token). u.what) f ∙ is.has_tokens.ends.what in absurd (cc)
    by t e (inr (inr i)) = absurd i

front : (a b : List Noted) → Spelled (a ++ b) → Spelled a
front a b spelled x n i = spelled x n (in_left (toks.Name x, n) a b i)

back : (a b : List Noted) → Spelled (a ++ b) → Spelled b
back a b spelled x n i = spelled x n (in_right (toks.Name x, n) a b i)

behind : (t : Noted) (a : List Noted) → Spelled (t ∷ a) → Spelled a
behind t a spelled x n i = spelled x n (inr i)

-- a name more
with_name : (x : Name) (names : List Name) → IsPlain x → AllPlain names → AllPlain (names ++ x ∷ [])
with_name x names p known y i =
    ⊎_elim (λ j. known y j) (λ j. only j) (in_either y names (x ∷ []) i)
  where
    only : IsIn y (x ∷ []) → IsPlain y
    only (inl e) = subst IsPlain (sym e) p
    only (inr j) = absurd j

mutual
  -- names that are known behind a part of a script were known in front of it, or stand in it
  statement_plain : {tasks : List Name} {room : ℕ} {vars last : List Name} {a : List Noted} {s : Statement}
      → IsStatement tasks room vars a s last → Spelled a → AllPlain vars → AllPlain last
  statement_plain (g.let_new {vars = vars} x p) spelled known =
      with_name x vars (spelled x (declaration most_vars vars x fine) (inr (inl refl))) known
  statement_plain (g.assign x p) spelled known = known
  statement_plain (g.ask p) spelled known = known
  statement_plain (g.print p) spelled known = known
  statement_plain (g.set_cell x p) spelled known = known
  statement_plain (g.return p) spelled known = known
  statement_plain (g.choose {a = a} {b = b} {c = c} p q r) spelled known =
      let rest = back a (b ++ c) (λ x n i. spelled x n (inr i)) in
      else_plain r (back b c rest) (block_plain q (front b c rest) known)
  statement_plain (g.repeat {a = a} {b = b} p q) spelled known =
      block_plain q (back a b (λ x n i. spelled x n (inr i))) known

  block_plain : {tasks : List Name} {room : ℕ} {vars last : List Name} {a : List Noted} {body : Statements}
      → IsBlock tasks room vars a body last → Spelled a → AllPlain vars → AllPlain last
  block_plain (g.braces {a = a} p) spelled known =
      statements_plain p (front a (mark m.BraceClose ∷ []) (λ x n i. spelled x n (inr i))) known

  statements_plain : {tasks : List Name} {room : ℕ} {vars last : List Name} {a : List Noted} {body : Statements}
      → IsStatements tasks room vars a body last → Spelled a → AllPlain vars → AllPlain last
  statements_plain g.statements_end spelled known = known
  statements_plain (g.statements_more {a = a} {b = b} p q) spelled known =
      statements_plain q (back a b spelled) (statement_plain p (front a b spelled) known)

  else_plain : {tasks : List Name} {room : ℕ} {vars last : List Name} {a : List Noted} {other : Otherwise}
      → IsElse tasks room vars a other last → Spelled a → AllPlain vars → AllPlain last
  else_plain g.no_else spelled known = known
  else_plain (g.else_block p) spelled known = block_plain p (λ x n i. spelled x n (inr i)) known

-- parameters
more_plain : {earlier all : List Name} {a : List Noted} → IsMoreParams earlier a all → Spelled a → AllPlain earlier
    → AllPlain all
more_plain g.params_end spelled known = known
more_plain (g.params_more {earlier = earlier} x p) spelled known =
    more_plain p (λ y n i. spelled y n (inr (inr i)))
    (with_name x earlier (spelled x (declaration most_vars earlier x fine) (inr (inl refl))) known)

params_plain : {all : List Name} {a : List Noted} → IsParams a all → Spelled a → AllPlain all
params_plain g.no_params spelled = λ x i. absurd i
params_plain (g.params x p) spelled =
    more_plain p (λ y n i. spelled y n (inr i))
    (with_name x [] (spelled x (declaration most_vars [] x fine) (inl refl)) (λ y i. absurd i))

-- the name of a task, and those of its variables
task_plain : {tasks earlier : List Name} {a : List Noted} {t : Task} → IsTask tasks earlier a t → Spelled a
    → IsPlain t.name × AllPlain t.vars
task_plain {earlier = earlier} (g.task {a = a} {b = b} {params = params} f p block) spelled =
    let rest : Spelled (a ++ mark m.ParenClose ∷ b) = λ x n i. spelled x n (inr (inr (inr i))) in (
      spelled f (declaration most_tasks earlier f (declares (length params))) (inr (inl refl)),
      block_plain block (behind (mark m.ParenClose) b (back a (mark m.ParenClose ∷ b) rest))
          (params_plain p (front a (mark m.ParenClose ∷ b) rest)),
    )

-- those of each declaration
tasks_plain : {tasks earlier : List Name} {a : List Noted} {ts : List Task} → IsTasks tasks earlier a ts → Spelled a
    → (n : ℕ) (d : Task) → slice_get ts n ≡ Some d → IsPlain d.name × AllPlain d.vars
tasks_plain g.tasks_end spelled n d e = absurd (cc)
tasks_plain (g.tasks_more {a = a} {b = b} {t = t} p q) spelled zero d e =
    subst (λ (z : Task). IsPlain z.name × AllPlain z.vars) (some_is t d e) (task_plain p (front a b spelled))
tasks_plain (g.tasks_more {a = a} {b = b} p q) spelled (suc n) d e = tasks_plain q (back a b spelled) n d e

-- the names of a script's declarations, and of their variables
pub names_plain : (input : List ℕ) (script : List Task) → IsScriptOf input script
    → (n : ℕ) (d : Task) → slice_get script n ≡ Some d → IsPlain d.name × ((x : Name) → IsIn x d.vars → IsPlain x)
names_plain input script is n d e =
    tasks_plain is.is_script.derived (notes_spelled input script is) n d e
