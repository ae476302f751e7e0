-- The head of each task of a sentence that breaks nothing is found by its name, and stands there.
use Rattle.std.proofs.Common.{◌≡◌, ℕ, suc, ◌+◌, true, false, Bool, cond, is_some, List, [], ◌∷◌, ◌++◌, length}
use Rattle.std.proofs.Common.{slice_get, Option, Some, None, refl, ap, sym, ◌∙◌, subst, arith, append_assoc, ⊎_elim}
use Rattle.std.proofs.lemmas.List.{append-nil}
use Rattle.std.proofs.lemmas.Bool.{cases_Bool}
use Rattle.std.proofs.lemmas.Slice.Eq.{bytes_eq-Decides}
use Rattle.std.specs.Prelude.{nat_le}
use Rattle.std.specs.List.{position_from}
use Rattle.std.specs.Str.{bytes_eq}
use Rattle.tj_lex.specs.declared.token.Tok.{Tok}
use Rattle.tj_lex.specs.declared.token.Tok.TheVariants as toks
use Rattle.tj_lex.specs.declared.token.Key.TheVariants as k
use Rattle.tj_lex.specs.declared.token.Mark.TheVariants as m
use Rattle.tj_syntax.specs.declared.fault.Breach.{Breach}
use Rattle.tj_syntax.specs.declared.fault.Breach.TheVariants.{Twice, Many}
use Rattle.tj_syntax.specs.Trees.{Task}
use Rattle.tj_syntax.specs.Marks.{Name, Note, Noted, broken, declares, key, mark, index_of, most_tasks, declaration}
use Rattle.tj_syntax.specs.Grammar as g
use Rattle.tj_syntax.specs.Grammar.{IsTask, IsTasks}
use Rattle.tj_syntax.specs.Faults.{tokens_of, AreUnbroken}
use Rattle.tj_syntax.specs.Inner.Input.{Head, names_of, breach_of, count_params, with_head, with_front, heads_from, head_at}
use Rattle.tj_syntax.specs.Inner.Input.{head_named}
use Rattle.tj_syntax.proofs.Taken.{tokens_of-append, length-tokens_of}
use Rattle.tj_syntax.proofs.Sound.Script.{with_head-fresh, calm_heads, count_all}
use Rattle.tj_syntax.proofs.Same.Notes.{AreInner, both, calm, behind_inner, block_inner, params_inner}

-- ---- heads behind heads

-- heads, with more behind them
abbrev Longer : List Head → List Head → Type 0
Longer found heads = (more : List Head) × (heads ≡ found ++ more)

longer_head : (found : List Head) (f : Name) (rest : List Tok) → Longer found (with_head found f rest)
longer_head found f rest = by (is_some (breach_of most_tasks (names_of found) f))
  where
    h : Head
    h = record { name = f; params = count_params rest; left = suc (length rest) }

    by : (b : Bool) → Longer found (cond b found (found ++ h ∷ []))
    by true = ([], sym (append-nil found))
    by false = (h ∷ [], refl)

longer_front : (found : List Head) (ts : List Tok) → Longer found (with_front found ts)
longer_front found (toks.Key k.Task ∷ toks.Name f ∷ rest) = longer_head found f rest
longer_front found ts = ([], sym (append-nil found))

longer_heads : (found : List Head) (ts : List Tok) → Longer found (heads_from found ts)
unfolding heads_from
longer_heads found [] = ([], sym (append-nil found))
longer_heads found (t ∷ rest) =
    let one = longer_front found (t ∷ rest) in
    let all = longer_heads (with_front found (t ∷ rest)) rest in
    (one.0 ++ all.0, all.1 ∙ ap (λ hs. hs ++ all.0) one.1 ∙ append_assoc found one.0 all.0)

-- a head whose name isn't there before is found
index_here : (found more : List Head) (h : Head) (i : ℕ)
    → position_from (λ name. bytes_eq name h.name) i (names_of found) ≡ None
    → position_from (λ name. bytes_eq name h.name) i (names_of (found ++ h ∷ more)) ≡ Some (i + length found)
index_here [] more h i e =
    let same : bytes_eq h.name h.name ≡ true = (bytes_eq-Decides h.name h.name).1 refl in
    let far : i ≡ i + 0 = omega arith in
    ap (λ b. cond b (Some i) (position_from (λ name. bytes_eq name h.name) (i + 1) (names_of more))) same
    ∙ ap (λ n. Some n) far
index_here (x ∷ found) more h i e =
    let far : (i + 1) + length found ≡ i + length (x ∷ found) = omega arith in
    ⊎_elim
    (λ y. let some : Some i ≡ None = subst (λ b. cond b (Some i)
    (position_from (λ name. bytes_eq name h.name) (i + 1) (names_of found)) ≡ None) y e in absurd (cc))
    (λ n. let later : position_from (λ name. bytes_eq name h.name) (i + 1) (names_of found) ≡ None =
    subst (λ b. cond b (Some i) (position_from (λ name. bytes_eq name h.name) (i + 1) (names_of found)) ≡ None) n e in
    ap (λ b. cond b (Some i) (position_from (λ name. bytes_eq name h.name) (i + 1) (names_of (found ++ h ∷ more)))) n
    ∙ index_here found more h (i + 1) later ∙ ap (λ l. Some l) far)
    (cases_Bool (bytes_eq x.name h.name))

get_here : (found more : List Head) (h : Head) → slice_get (found ++ h ∷ more) (length found) ≡ Some h
get_here [] more h = refl
get_here (x ∷ found) more h = get_here found more h

found_here : (found more : List Head) (h : Head) → index_of (names_of found) h.name ≡ None
    → head_named (found ++ h ∷ more) h.name ≡ Some h
found_here found more h e =
    let zero_more : 0 + length found ≡ length found = omega arith in
    ap (λ o. head_at (found ++ h ∷ more) o) (index_here found more h 0 e ∙ ap (λ n. Some n) zero_more)
    ∙ get_here found more h

-- ---- names that are declared

-- a name that is declared and breaks nothing
pub record IsFree (earlier : List Name) (f : Name) (right : Note) : Type 0 where
  pub noted : declaration most_tasks earlier f right ≡ right
  pub no_breach : breach_of most_tasks earlier f ≡ None
  pub absent : index_of earlier f ≡ None

free : (earlier : List Name) (f : Name) (right : Note)
    → ((b : Breach) → declaration most_tasks earlier f right ≡ broken b → ⊥) → IsFree earlier f right
free earlier f right h = by (index_of earlier f) (nat_le most_tasks (length earlier)) refl refl
  where
    by : (o : Option ℕ) (c : Bool) → index_of earlier f ≡ o → nat_le most_tasks (length earlier) ≡ c
        → IsFree earlier f right
    by (Some n) c e e' = absurd (h Twice (rw e refl))
    by None true e e' = absurd (h Many (rw (e, e') refl))
    by None false e e' = record { noted = rw (e, e') refl; no_breach = rw (e, e') refl; absent = e }

-- ---- the heads of a sentence

unbroken_parts : (a b : List Noted) → AreUnbroken (a ++ b) → AreUnbroken a × AreUnbroken b
unbroken_parts [] b h = (tt, h)
unbroken_parts (n ∷ a) b h = let more = unbroken_parts a b h.1 in ((h.0, more.0), more.1)

-- the head of a task in front of these notes
abbrev head_before : Task → List Noted → Head
head_before t behind = record { name = t.name; params = t.params; left = suc (length behind) }

-- a task, which adds its head
record Adds (found : List Head) (a : List Noted) (t : Task) (rest : List Noted) : Type 0 where
  inner : List Noted
  is : a ≡ key k.Task ∷ (toks.Name t.name, declares t.params) ∷ inner
  within : AreInner inner
  absent : index_of (names_of found) t.name ≡ None
  heads : heads_from found (tokens_of (a ++ rest)) ≡ heads_from (found ++ head_before t (inner ++ rest) ∷ [])
      (tokens_of rest)

adds : {tasks earlier : List Name} {a : List Noted} {t : Task} → IsTask tasks earlier a t → AreUnbroken a
    → (found : List Head) → names_of found ≡ earlier
    → (rest : List Noted) → Adds found a t rest
unfolding heads_from
adds {earlier = earlier} (g.task {a = ps} {b = body} {params = params} {vars = vars} {body = tree} f p q) whole found
    named rest =
    let t : Task = record { name = f; params = length params; vars = vars; body = tree } in
    let inner = mark m.ParenOpen ∷ (ps ++ mark m.ParenClose ∷ body) in
    let one = free earlier f (declares (length params)) whole.1.0 in
    let ahead = tokens_of (inner ++ rest) in
    let parts : ahead ≡ tokens_of inner ++ tokens_of rest = tokens_of-append inner rest in
    let clear : AreInner inner = (
      (refl, refl, refl),
      both ps (mark m.ParenClose ∷ body) (params_inner p)
          ((refl, refl, refl), block_inner q),
    ) in
    let count : count_params ahead ≡ length params =
    ap count_params (parts ∙ ap (λ ts. toks.Mark m.ParenOpen ∷ (ts ++ tokens_of rest))
    (tokens_of-append ps (mark m.ParenClose ∷ body))
    ∙ ap (λ ts. toks.Mark m.ParenOpen ∷ ts) (append_assoc (tokens_of ps) (toks.Mark m.ParenClose ∷ tokens_of body)
    (tokens_of rest)))
    ∙ count_all p (tokens_of body ++ tokens_of rest) in
    let pushed : with_head found f ahead ≡ found ++ head_before t (inner ++ rest) ∷ [] =
    with_head-fresh found f ahead (subst (λ ns. breach_of most_tasks ns f ≡ None) (sym named) one.no_breach)
    ∙ ap (λ c. let h : Head = record { name = f; params = c; left = suc (length ahead) } in found ++ h ∷ []) count
    ∙ ap (λ l. let h : Head = record { name = f; params = length params; left = suc l } in found ++ h ∷ [])
    (length-tokens_of (inner ++ rest)) in
    record {
      inner = inner;
      is = ap (λ n. key k.Task ∷ (toks.Name f, n) ∷ inner) one.noted;
      within = clear;
      absent = subst (λ ns. index_of ns f ≡ None) (sym named) one.absent;
      heads = ap (λ hs. heads_from hs ahead) pushed
          ∙ ap (λ ts. heads_from (found ++ head_before t (inner ++ rest) ∷ []) ts) parts
          ∙ calm_heads inner (found ++ head_before t (inner ++ rest) ∷ []) (tokens_of rest) (calm inner clear);
    }

-- the head that a name has
abbrev IsHead : List Head → Name → ℕ → List Noted → Type 0
IsHead heads f count after = head_named heads f ≡ Some (record { name = f; params = count; left = suc (length after) })

-- the name is that of the task, or it stands behind the task
here_or_later : (heads : List Head) (t : Task) (inner b before after : List Noted) (f : Name) (count : ℕ)
    → AreInner inner
    → key k.Task ∷ (toks.Name t.name, declares t.params) ∷ (inner ++ b) ≡ before ++
    (toks.Name f, declares count) ∷ after
    → IsHead heads t.name t.params (inner ++ b)
    → ((more : List Noted) → b ≡ more ++ (toks.Name f, declares count) ∷ after → IsHead heads f count after)
    → IsHead heads f count after
here_or_later heads t inner b [] after f count h e here later =
    let first : key k.Task ≡ (toks.Name f, declares count) = cc in
    let kind : toks.Key k.Task ≡ toks.Name f = ap (λ n. n.0) first in
    absurd (cc)
here_or_later heads t inner b (x ∷ []) after f count h e here later =
    let first : ◌≡◌ {A = Noted} (toks.Name t.name, declares t.params) (toks.Name f, declares count) = cc in
    let rest : inner ++ b ≡ after = cc in
    let kind : toks.Name t.name ≡ toks.Name f = ap (λ n. n.0) first in
    let note : declares t.params ≡ declares count = ap (λ n. n.1) first in
    let same : t.name ≡ f = cc in
    let params : t.params ≡ count = cc in
    subst (λ l. IsHead heads f count l) rest (subst (λ c. IsHead heads f c (inner ++ b)) params
    (subst (λ g. IsHead heads g t.params (inner ++ b)) same here))
here_or_later heads t inner b (x ∷ y ∷ before) after f count h e here later =
    let rest : inner ++ b ≡ before ++ (toks.Name f, declares count) ∷ after = cc in
    let more = behind_inner inner b before after (toks.Name f) count h rest in
    later more.0 more.1

names_of-push : (found : List Head) (h : Head) → names_of (found ++ h ∷ []) ≡ names_of found ++ h.name ∷ []
names_of-push [] h = refl
names_of-push (x ∷ found) h = ap (λ ns. x.name ∷ ns) (names_of-push found h)

-- the head of a task that is declared is found by its name
pub declared_head : {tasks earlier : List Name} {notes : List Noted} {ts : List Task}
    → IsTasks tasks earlier notes ts → AreUnbroken notes
    → (found : List Head) → names_of found ≡ earlier → (before after : List Noted) (f : Name) (count : ℕ)
    → notes ≡ before ++ (toks.Name f, declares count) ∷ after
    → IsHead (heads_from found (tokens_of notes)) f count after
declared_head g.tasks_end whole found named [] after f count e = absurd (cc)
declared_head g.tasks_end whole found named (x ∷ before) after f count e = absurd (cc)
declared_head (g.tasks_more {a = a} {b = b} {t = t} p q) whole found named before after f count e =
    let parts = unbroken_parts a b whole in
    let one = adds p parts.0 found named b in
    let longer = found ++ head_before t (one.inner ++ b) ∷ [] in
    let more = longer_heads longer (tokens_of b) in
    let here : IsHead (heads_from longer (tokens_of b)) t.name t.params (one.inner ++ b) =
    subst (λ hs. IsHead hs t.name t.params (one.inner ++ b))
    (sym (more.1 ∙ append_assoc found (head_before t (one.inner ++ b) ∷ []) more.0))
    (found_here found more.0 (head_before t (one.inner ++ b)) one.absent) in
    subst (λ hs. IsHead hs f count after) (sym one.heads)
    (here_or_later (heads_from longer (tokens_of b)) t one.inner b before after f count one.within
    (sym (ap (λ ns. ns ++ b) one.is) ∙ e) here
    (λ before' e'. declared_head q parts.1 longer
    (names_of-push found (head_before t (one.inner ++ b)) ∙ ap (λ ns. ns ++ t.name ∷ []) named) before' after f count
    e'))
