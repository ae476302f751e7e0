-- One declaration of a script is `main`, since no two have one name.
use Rattle.std.proofs.Common.{Bool, List, None, Some, [], ap, cond, refl, subst, suc, sym, true, zero, ℕ}
use Rattle.std.proofs.Common.{◌+◌, ◌++◌, ◌∙◌, ◌∷◌, ◌≡◌, false, true≢false}
use Rattle.std.proofs.lemmas.Slice.Eq.{bytes_eq-Decides}
use Rattle.std.specs.Prelude.{if◌then◌else◌, is_some, slice_get}
use Rattle.std.specs.List.{position_from}
use Rattle.std.specs.Str.{bytes_eq}
use Rattle.tj_lex.specs.declared.token.Tok.{Tok}
use Rattle.tj_lex.specs.declared.token.Tok.TheVariants as toks
use Rattle.tj_syntax.specs.Faults.{AreUnbroken, IsScript, IsUnbroken, main_of}
use Rattle.tj_syntax.specs.Grammar.{IsTask, IsTasks, task, tasks_end, tasks_more}
use Rattle.tj_syntax.specs.Marks.{Name, Note, Noted, declaration, is_among}
use Rattle.tj_syntax.specs.Trees.{Task}

-- a name that is among some is among them and another
among_more : (x y : Name) (i : ℕ) (names : List Name) → is_some (position_from (λ n. bytes_eq n x) i names) ≡ true
    → is_some (position_from (λ n. bytes_eq n x) i (names ++ y ∷ [])) ≡ true
among_more x y i [] is = absurd (true≢false (sym is))
among_more x y i (z ∷ names) is = by (bytes_eq z x) (among_more x y (i + 1) names) is
  where
    by : (b : Bool) → (is_some (position_from (λ n. bytes_eq n x) (i + 1) names) ≡ true
        → is_some (position_from (λ n. bytes_eq n x) (i + 1) (names ++ y ∷ [])) ≡ true)
        → is_some (cond b (Some i) (position_from (λ n. bytes_eq n x) (i + 1) names)) ≡ true
        → is_some (cond b (Some i) (position_from (λ n. bytes_eq n x) (i + 1) (names ++ y ∷ []))) ≡ true
    by true later h = refl
    by false later h = later h

-- a name is among some and it
among_last : (x : Name) (i : ℕ) (names : List Name)
    → is_some (position_from (λ n. bytes_eq n x) i (names ++ x ∷ [])) ≡ true
among_last x i [] =
    ap (λ b. is_some (cond b (Some i) None)) ((bytes_eq-Decides x x).1 refl)
among_last x i (z ∷ names) = by (bytes_eq z x) (among_last x (i + 1) names)
  where
    by : (b : Bool) → is_some (position_from (λ n. bytes_eq n x) (i + 1) (names ++ x ∷ [])) ≡ true
        → is_some (cond b (Some i) (position_from (λ n. bytes_eq n x) (i + 1) (names ++ x ∷ []))) ≡ true
    by true later = refl
    by false later = later

if_true : {A : Type 0} (b : Bool) (x y : A) → b ≡ true → (if b then x else y) ≡ x
if_true true x y e = refl
if_true false x y e = absurd (true≢false (sym e))

-- a declaration that breaks nothing has a new name
is_new : (tok : Tok) (most : ℕ) (earlier : List Name) (x : Name) (right : Note)
    → IsUnbroken (tok, declaration most earlier x right) → is_among earlier x ≡ false
is_new tok most earlier x right unbroken = by (is_among earlier x) refl
  where
    by : (b : Bool) → is_among earlier x ≡ b → is_among earlier x ≡ false
    by true e = absurd (unbroken _ (if_true (is_among earlier x) _ _ e))
    by false e = e

unbroken_front : (a b : List Noted) → AreUnbroken (a ++ b) → AreUnbroken a
unbroken_front [] b h = tt
unbroken_front (n ∷ a) b h = (h.0, unbroken_front a b h.1)

unbroken_behind : (a b : List Noted) → AreUnbroken (a ++ b) → AreUnbroken b
unbroken_behind [] b h = h
unbroken_behind (n ∷ a) b h = unbroken_behind a b h.1

some_is : (a b : Task) → Some a ≡ Some b → a ≡ b
some_is a b e = cc

new_name : (tasks earlier : List Name) (a : List Noted) (t : Task) → IsTask tasks earlier a t → AreUnbroken a
    → is_among earlier t.name ≡ false
new_name tasks earlier _ _ (task f heads block) unbroken = is_new (toks.Name f) _ earlier f _ unbroken.1.0

-- no later task has the name of an earlier one
absent : (tasks earlier : List Name) (a : List Noted) (ts : List Task) → IsTasks tasks earlier a ts → AreUnbroken a
    → (x : Name) → is_among earlier x ≡ true → (g : ℕ) (t : Task) → slice_get ts g ≡ Some t → t.name ≡ x → ⊥
absent tasks earlier _ _ tasks_end unbroken x among g t get is = let e : None ≡ Some t = get in cc
absent tasks earlier _ _ (tasks_more {a = a} {b = b} {t = first} {rest = rest} one more) unbroken x among zero t get
    is = let same : first ≡ t = some_is first t get in
    let name : first.name ≡ x = ap (λ (d : Task). d.name) same ∙ is in
    true≢false (sym among ∙ subst (λ n. is_among earlier n ≡ false) name
    (new_name tasks earlier a first one (unbroken_front a b unbroken)))
absent tasks earlier _ _ (tasks_more {a = a} {b = b} {t = first} {rest = rest} one more) unbroken x among (suc g) t get
    is = absent tasks (earlier ++ first.name ∷ []) b rest more (unbroken_behind a b unbroken) x
    (among_more x first.name 0 earlier among) g t get is

-- a task is declared once
once : (tasks earlier : List Name) (a : List Noted) (ts : List Task) → IsTasks tasks earlier a ts → AreUnbroken a
    → (f g : ℕ) (t : Task) → slice_get ts f ≡ Some t → slice_get ts g ≡ Some t → f ≡ g
once tasks earlier _ _ tasks_end unbroken f g t here there = let e : None ≡ Some t = here in cc
once tasks earlier _ _ (tasks_more {a = a} {b = b} {t = first} {rest = rest} one more) unbroken zero zero t here there =
    refl
once tasks earlier _ _ (tasks_more {a = a} {b = b} {t = first} {rest = rest} one more) unbroken zero (suc g) t here
    there = absurd (absent tasks (earlier ++ first.name ∷ []) b rest more (unbroken_behind a b unbroken) first.name
    (among_last first.name 0 earlier) g t there (ap (λ (d : Task). d.name) (sym (some_is first t here))))
once tasks earlier _ _ (tasks_more {a = a} {b = b} {t = first} {rest = rest} one more) unbroken (suc f) zero t here
    there = absurd (absent tasks (earlier ++ first.name ∷ []) b rest more (unbroken_behind a b unbroken) first.name
    (among_last first.name 0 earlier) f t here (ap (λ (d : Task). d.name) (sym (some_is first t there))))
once tasks earlier _ _ (tasks_more {a = a} {b = b} {t = first} {rest = rest} one more) unbroken (suc f) (suc g) t here
    there = ap suc (once tasks (earlier ++ first.name ∷ []) b rest more (unbroken_behind a b unbroken) f g t here there)

-- one declaration of a script is `main`
pub one_main : (tokens : List Tok) (script : List Task) → IsScript tokens script → (f g : ℕ)
    → slice_get script f ≡ main_of script → slice_get script g ≡ main_of script → f ≡ g
one_main tokens script is f g here there = once _ [] is.notes script is.derived is.unbroken f g is.main
    (here ∙ is.has_main) (there ∙ is.has_main)
