-- A thing that the notes of a task tell has a number, which is that of the note.
use Rattle.std.proofs.Common.{◌≡◌, ℕ, zero, suc, ◌+◌, Bool, true, false, cond, List, [], ◌∷◌, Some, drop, get_or, length}
use Rattle.std.proofs.Common.{refl, ap, ◌∙◌, inl, inr, arith}
use Rattle.std.specs.Prelude.{slice_get}
use Rattle.std.proofs.lemmas.List.{length-append}
use Rattle.tj_base.specs.ForkOrder.{Name, child}
use Rattle.tj_base.specs.declared.cell.Sort.{Sort}
use Rattle.tj_body.specs.Points.{IsIn}
use Rattle.tj_trace.specs.NoteLaws.{is_sort, things}
use Rattle.tj_trace.specs.declared.line.Maker.{Maker}

-- things with one name have one number
pub same_number : (x y : Name) (j k : ℕ) → child x j ≡ child y k → j ≡ k
same_number [] [] j k e = ap (λ (z : Name). get_or z 0 0) e
same_number [] (y ∷ ys) j k e =
    let l = ap (λ (z : Name). length z) e in let a = length-append ys (k ∷ []) in absurd (omega arith)
same_number (x ∷ xs) [] j k e =
    let l = ap (λ (z : Name). length z) e in let a = length-append xs (j ∷ []) in absurd (omega arith)
same_number (x ∷ xs) (y ∷ ys) j k e = same_number xs ys j k (ap (λ (z : Name). drop 1 z) e)

-- a thing that notes tell is one with a number, and the note
thing_there : (s : Sort) (x : Name) (n : ℕ) (ms : List Maker) (q : Name) → IsIn q (things s x n ms)
    → (k : ℕ) × (m : Maker) × (q ≡ child x (suc (n + k))) × (slice_get ms k ≡ Some m)
thing_there s x n [] q i = absurd i
thing_there s x n (m ∷ ms) q i = by (is_sort s m.sort) i (thing_there s x (suc n) ms q) where
  Found : Type 0
  Found = (k : ℕ) × (o : Maker) × (q ≡ child x (suc (n + k))) × (slice_get (m ∷ ms) k ≡ Some o)

  on : ((k : ℕ) × (o : Maker) × (q ≡ child x (suc (suc n + k))) × (slice_get ms k ≡ Some o)) → Found
  on (k, o, e, f) =
      let z : suc (suc n + k) ≡ suc (n + suc k) = omega arith in (suc k, o, e ∙ ap (child x) z, f)

  by : (b : Bool) → IsIn q (cond b (child x (suc n) ∷ things s x (suc n) ms) (things s x (suc n) ms))
      → (IsIn q (things s x (suc n) ms)
      → (k : ℕ) × (o : Maker) × (q ≡ child x (suc (suc n + k))) × (slice_get ms k ≡ Some o)) → Found
  by true (inl e) rest =
      let z : suc n ≡ suc (n + 0) = omega arith in (zero, m, e ∙ ap (child x) z, refl)
  by true (inr i) rest = on (rest i)
  by false i rest = on (rest i)

-- the same of all notes of a task
pub thing_at : (s : Sort) (x : Name) (ms : List Maker) (q : Name) → IsIn q (things s x 0 ms)
    → (k : ℕ) × (m : Maker) × (q ≡ child x (suc k)) × (slice_get ms k ≡ Some m)
thing_at s x ms q i =
    let t = thing_there s x 0 ms q i in
    let z : suc (0 + t.0) ≡ suc t.0 = omega arith in (t.0, t.1, t.2 ∙ ap (child x) z, t.3)
