-- The names of cells by PARENT and KID, cell by cell.
use Rattle.tj_report.proofs.Prelude.{AreNamed, Begins, IsCell, IsShown, List, Name, Reference, RestCell, [], ap, arith}
use Rattle.tj_report.proofs.Prelude.{child, get_or, length, length-append, names, next_name, refl, suc, sym, to_task}
use Rattle.tj_report.proofs.Prelude.{zero, ℕ, ◌++◌, ◌<◌, ◌∙◌, ◌∷◌, ◌≡◌}
use Rattle.tj_report.proofs.CellIndexes.{there, within, name_there}

at_end : (ns rest : List Name) → get_or (ns ++ rest) (length ns) [] ≡ get_or rest 0 []
at_end [] rest = refl
at_end (n ∷ ns) rest = at_end ns rest

at_left : (ns rest : List Name) (k : ℕ) → k < length ns → get_or (ns ++ rest) k [] ≡ get_or ns k []
at_left [] rest k l = absurd (omega arith)
at_left (n ∷ ns) rest zero l = refl
at_left (n ∷ ns) rest (suc k) l = at_left ns rest k (omega arith)

snoc_append : (ns : List Name) (n : Name) (ys : List Name) → (ns ++ n ∷ []) ++ ys ≡ ns ++ n ∷ ys
snoc_append [] n ys = refl
snoc_append (x ∷ ns) n ys = ap (λ l. x ∷ l) (snoc_append ns n ys)

append_nil : (l : List Name) → l ++ [] ≡ l
append_nil [] = refl
append_nil (x ∷ xs) = ap (λ z. x ∷ z) (append_nil xs)

pub length_names : (l : List Reference) → length (names l) ≡ length l
length_names [] = refl
length_names (x ∷ xs) = ap suc (length_names xs)

-- a beginning goes on with what stands behind it
begins_next : (l ns rest : List Name) (n : Name) → l ≡ ns ++ rest → length ns < length l
    → get_or l (length ns) [] ≡ n → Begins (ns ++ n ∷ []) l
begins_next l ns [] n e long g =
    let a = ap (λ (z : List Name). length z) e in
    let b = length-append ns [] in
    absurd (omega arith)
begins_next l ns (y ∷ ys) n e long g =
    let same : y ≡ n = sym (at_end ns (y ∷ ys)) ∙ ap (λ z. get_or z (length ns) []) (sym e) ∙ g in
    (ys, e ∙ ap (λ z. ns ++ z ∷ ys) same ∙ sym (snoc_append ns n ys))

module _ (shown : List RestCell) (born : List Reference) (named : AreNamed shown born) where
  reference_there : (c : ℕ) (x : RestCell) → IsShown shown c x → (r : Reference) × IsCell born c r
  reference_there c x s = there born c (let l = within shown c x s in let e = named.all in omega arith)

  -- a cell's maker comes before it
  pub maker_below : (c : ℕ) (x : RestCell) → IsShown shown c x → 0 < c → x.parent.0 < c
  maker_below c x s after =
      let r = reference_there c x s in
      (named.named c x r.0 (λ e. let z : c ≡ 0 = e in omega arith) s r.1).0

  -- the name of the cell after those that are named goes on with their names
  pub name_next : (ns : List Name) (x : RestCell) → Begins ns (names born) → IsShown shown (length ns) x
      → Begins (ns ++ next_name ns x ∷ []) (names born)
  name_next [] x (rest, e) s =
      let h = name_there born 0 (to_task []) named.root in
      begins_next (names born) [] rest [] e h.0 h.1
  name_next (q ∷ qs) x (rest, e) s =
      let c = length (q ∷ qs) in
      let r = reference_there c x s in
      let m = named.named c x r.0 (λ z. let k : c ≡ 0 = z in omega arith) s r.1 in
      let maker = name_there born x.parent.0 m.1.0 m.1.1 in
      let here = name_there born c r.0 r.1 in
      let same : get_or (q ∷ qs) x.parent.0 [] ≡ m.1.0.name = sym (at_left (q ∷ qs) rest x.parent.0 m.0)
      ∙ ap (λ z. get_or z x.parent.0 []) (sym e) ∙ maker.1 in
      begins_next (names born) (q ∷ qs) rest (child (get_or (q ∷ qs) x.parent.0 []) x.kid) e here.0
      (here.1 ∙ m.1.2 ∙ ap (λ z. child z x.kid) (sym same))

  -- as many as there are cells are the names of all
  pub named_all : (ns : List Name) → Begins ns (names born) → length ns ≡ length shown → ns ≡ names born
  named_all ns (rest, e) long = by rest e where
    by : (rest : List Name) → names born ≡ ns ++ rest → ns ≡ names born
    by [] e = sym (append_nil ns) ∙ sym e
    by (y ∷ ys) e =
        let a = ap (λ (z : List Name). length z) e in
        let b = length-append ns (y ∷ ys) in
        let c = length_names born in
        let d = named.all in
        absurd (omega arith)
