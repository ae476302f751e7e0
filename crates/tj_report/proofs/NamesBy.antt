-- The names of cells as a function of the words are those of the references.
use Rattle.tj_report.proofs.Prelude.{AreNamed, Begins, Err, IfOk, IsBefore, IsShown, List, Name, None, Ok, Option}
use Rattle.tj_report.proofs.Prelude.{Reference, RestCell, Result, Some, [], ap, append-nil, arith, child, get_elem?}
use Rattle.tj_report.proofs.Prelude.{get_or, length, length-append, name_by, names, next_name, refl, reverse, some}
use Rattle.tj_report.proofs.Prelude.{subst, sym, to_task, ℕ, ◌++◌, ◌<◌, ◌∙◌, ◌∷◌, ◌≡◌, ◌≤◌}
use Rattle.std.proofs.lemmas.List.{reverse-append}
use Rattle.std.specs.Prelude.{IfSome}
use Rattle.tj_report.specs.Inner.CellNamesBy.{names_by, names_from}
use Rattle.tj_report.proofs.NameSteps.{before_child, before_fork}
use Rattle.tj_report.proofs.CellIndexes.{name_there, there, within}
use Rattle.tj_report.proofs.CellNames.{name_next, named_all}

after : {A : Type 0} (xs : List A) (x : A) (ys : List A) → get_elem? (xs ++ x ∷ ys) (length xs) ≡ some x
after [] x ys = refl
after (z ∷ zs) x ys = after zs x ys

pub moved : {A : Type 0} (xs : List A) (x : A) (ys : List A) → xs ++ x ∷ ys ≡ (xs ++ x ∷ []) ++ ys
moved [] x ys = refl
moved (z ∷ zs) x ys = ap (λ l. z ∷ l) (moved zs x ys)

module _ (shown : List RestCell) (born : List Reference) (named : AreNamed shown born) where
  from_names : (done xs : List RestCell) (ns : List Name) → shown ≡ done ++ xs → length ns ≡ length done
      → Begins ns (names born) → names_from ns xs ≡ names born
  from_names done [] ns whole long b =
      let a = ap (λ (l : List RestCell). length l) whole in
      let c = length-append done [] in
      named_all shown born named ns b (omega arith)
  from_names done (x ∷ xs) ns whole long b =
      let here : IsShown shown (length ns) x =
      subst (λ n. IsShown shown n x) (sym long)
      (subst (λ l. IsShown l (length done) x) (sym whole) (after done x xs)) in
      let a = length-append ns (next_name ns x ∷ []) in
      let c = length-append done (x ∷ []) in
      from_names (done ++ x ∷ []) xs (ns ++ next_name ns x ∷ []) (whole ∙ moved done x xs) (omega arith)
      (name_next shown born named ns x b here)

  pub names_are : names_by shown ≡ names born
  names_are = from_names [] shown [] refl refl (names born, refl)

  name_is : (c : ℕ) → name_by shown c ≡ get_or (names born) c []
  name_is c = ap (λ l. get_or l c []) names_are

  -- the root has the empty name
  pub name_root : name_by shown 0 ≡ []
  name_root = name_is 0 ∙ (name_there born 0 (to_task []) named.root).1

  -- each other cell has the name of its maker, which comes before it, and its number
  pub name_made : (c : ℕ) (x : RestCell) → IsShown shown c x → 0 < c
      → (x.parent.0 < c) × (name_by shown c ≡ name_by shown x.parent.0 ++ x.kid ∷ [])
  name_made c x s later =
      let inside = within shown c x s in
      let all = named.all in
      let r = there born c (omega arith) in
      let m = named.named c x r.0 (λ e. let z : c ≡ 0 = e in omega arith) s r.1 in
      let here = name_there born c r.0 r.1 in
      let maker = name_there born x.parent.0 m.1.0 m.1.1 in (
        m.0,
        name_is c ∙ here.1 ∙ m.1.2
            ∙ ap (λ (q : Name). child q x.kid) (sym maker.1 ∙ sym (name_is x.parent.0)),
      )

  -- one maker up
  pub climbs : (c at : ℕ) (x : RestCell) (parts more : List ℕ) → IsShown shown at x → 0 < at
      → name_by shown c ≡ name_by shown at ++ reverse parts → more ≡ parts ++ x.kid ∷ []
      → name_by shown c ≡ name_by shown x.parent.0 ++ reverse more
  climbs c at x parts more s later e pushed =
      let m = name_made at x s later in
      e
      ∙ ap (λ n. n ++ reverse parts) m.1
      ∙ sym (moved (name_by shown x.parent.0) x.kid (reverse parts))
      ∙ ap (λ l. name_by shown x.parent.0 ++ l) (sym (reverse-append parts (x.kid ∷ [])) ∙ ap reverse (sym pushed))

  -- at the root
  pub climbed : (c at : ℕ) (parts : List ℕ) → at ≤ 0 → name_by shown c ≡ name_by shown at ++ reverse parts
      → name_by shown c ≡ reverse parts
  climbed c at parts root e =
      let z : at ≡ 0 = omega arith in
      e ∙ ap (λ n. n ++ reverse parts) (ap (λ k. name_by shown k) z ∙ name_root)

  -- what a name goes on from, its maker's goes on from
  pub begins_up : (t at : ℕ) (x : RestCell) → IsShown shown at x → 0 < at
      → Begins (name_by shown at) (name_by shown t) → Begins (name_by shown x.parent.0) (name_by shown t)
  begins_up t at x s later (rest, e) =
      let m = name_made at x s later in (
        x.kid ∷ rest,
        e ∙ ap (λ n. n ++ rest) m.1 ∙ sym (moved (name_by shown x.parent.0) x.kid rest),
      )

  -- a later fork of the same maker comes after it
  pub fork_later : (t at u k : ℕ) (x : RestCell) → IsShown shown at x → 0 < at
      → Begins (name_by shown at) (name_by shown t) → x.kid < k
      → name_by shown u ≡ name_by shown x.parent.0 ++ k ∷ [] → IsBefore (name_by shown t) (name_by shown u)
  fork_later t at u k x s later (rest, e) less f =
      let m = name_made at x s later in
      subst (λ n. IsBefore n (name_by shown u)) (sym (e ∙ ap (λ n. n ++ rest) m.1))
      (subst (λ n. IsBefore ((name_by shown x.parent.0 ++ x.kid ∷ []) ++ rest) n) (sym f)
      (before_fork (name_by shown x.parent.0) rest x.kid k less))

pub begins_itself : (x : Name) → Begins x x
begins_itself x = ([], sym (append-nil x))

-- a fork comes after its maker
pub child_later : (shown : List RestCell) (t u k : ℕ) → name_by shown u ≡ name_by shown t ++ k ∷ []
    → IsBefore (name_by shown t) (name_by shown u)
child_later shown t u k e = subst (IsBefore (name_by shown t)) (sym e) (before_child (name_by shown t) k)

-- what follows from what holds of an answer holds of it
pub if_some : {A E : Type 0} {P Q : A → Type 0} (r : Result (Option A) E) → ((x : A) → P x → Q x)
    → IfOk r (λ o. IfSome o P) → IfOk r (λ o. IfSome o Q)
if_some (Ok None) f h = h
if_some (Ok (Some x)) f h = f x h
if_some (Err e) f h = tt

-- what holds of the value of an option
pub some_at : {A : Type 0} (P : A → Type 0) (o : Option A) (x : A) → o ≡ Some x → IfSome o P → P x
some_at P o x e h = subst (λ z. IfSome z P) e h
