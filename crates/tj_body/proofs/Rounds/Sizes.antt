-- What a point has made so far, counted against the cells of the rounds.
use Rattle.std.proofs.Common.{◌≡◌, ℕ, zero, suc, ◌+◌, ◌≤◌, inl, inr, List, ◌∷◌, ◌++◌, length}
use Rattle.std.proofs.Common.{refl, sym, ap, ◌∙◌, subst, arith, length-append}
use native.Mathlib.Decide.{dec_le}
use mathlib.Core.Logic.{dite}
use Rattle.std.specs.List.{flat_map}
use Rattle.std.proofs.lemmas.Grind.{flat_map-append}
use Rattle.tj_base.specs.ForkOrder.{Name}
use Rattle.tj_body.specs.Programs.{Program, AreLawful, root_task}
use Rattle.tj_body.specs.History.{Assignment, history}
use Rattle.tj_body.specs.Rounds.{cells_by, given, tasks, cells}
use Rattle.tj_body.specs.Points.{IsIn, IsProper, IsPointOf}
use Rattle.tj_body.specs.Laws.{CountsInRound, CountsMade}
use Rattle.tj_body.specs.declared.point.Task.{Task}
use Rattle.tj_body.specs.declared.point.Point.{Point}
use Rattle.tj_body.proofs.Lists.{sub_begins, sub_length, in_right}
use Rattle.tj_body.proofs.Counts.{is, total_some, name_of_is, total, total_le, times}
use Rattle.tj_body.proofs.Counts.{times_of_in, in_of_times, fewer, at_least}
use Rattle.tj_body.proofs.Counts.{at_most_one}
use Rattle.tj_body.proofs.Histories.Prefixes.{begins, under, under_is, numbered_once}
use Rattle.tj_body.proofs.Histories.Accounts.{numbered, fair}
use Rattle.tj_body.proofs.Histories.Grows.{from_start}
use Rattle.tj_body.proofs.Histories.Good.{task_proper}
use Rattle.tj_body.proofs.Histories.Points.{in_history}
use Rattle.tj_body.proofs.Rounds.Rises.{cells_within}
use Rattle.tj_body.proofs.Rounds.Keeps.{task_cell, promised, forked}

numbered_length : (x : Name) (m : ℕ) → length (numbered x m) ≡ m
numbered_length x zero = refl
numbered_length x (suc m) = ap suc (numbered_length x m)

module _ {B : Type 0} (program : Program B) (obeys : AreLawful program.rules)
    (proper : IsProper program.rules (root_task program.root)) where
  abbrev V : ℕ → Assignment
  V n = given program n

  abbrev made : ℕ → Task B → List Name
  made n t = cells_by program.rules (V n) t

  -- the law of the cells of a round, so far
  pub counts_in_round : CountsInRound program
  counts_in_round n earlier later t p e h =
      let i : IsIn t (tasks program (suc n)) = subst (IsIn t) (sym e) (in_right t earlier (t ∷ later) (inl refl)) in
      let proper_t = task_proper program obeys proper (suc n) t i in
      let g = in_history program.rules obeys (V n) t proper_t p h in
      let H = history program.rules (V n) t in
      let a = sub_length p.promises H.promises (sub_begins p.promises H.promises g.2) in
      let c : length (cells program (suc n)) ≡ length (flat_map (made n) earlier ++ flat_map (made n) (t ∷ later)) =
      ap (λ l. length (flat_map (made n) l)) e ∙ ap length (flat_map-append (made n) earlier (t ∷ later)) in
      let d = length-append (flat_map (made n) earlier) (flat_map (made n) (t ∷ later)) in
      let f = length-append (made n t) (flat_map (made n) later) in
      omega arith

  module _ (n : ℕ) (t : Task B) (p : Point B) (i : IsIn t (tasks program (suc n)))
      (h : IsPointOf program.rules (V n) t p) where
    name_of : p.name ≡ t.name
    name_of = ap (λ (z : Point B). z.name) h.1 ∙ (from_start program.rules (V n) h.0 t).5

    abbrev things : List Name
    things = t.name ∷ numbered t.name p.made

    once : (q : Name) → times q things ≤ 1
    once q =
        let a = total_le (is q) (under q) (λ x. let u = under_is q x in omega arith) (numbered t.name p.made) in
        let b = numbered_once q t.name p.made in
        let c = under_is q t.name in
        let d = at_most_one (begins t.name q) in
        omega arith

    -- the names of the things made are those of children and promises
    as_made : (q : Name)
        → total (λ (c : Task B). is q c.name) p.children + times q p.promises ≡ times q (numbered t.name p.made)
    as_made q =
        subst (λ (z : Point B). total (λ (c : Task B). is q c.name) z.children + times q z.promises
        ≡ times q (numbered z.name z.made)) (sym h.1) (fair q (is q) program.rules (V n) h.0 t).1
        ∙ ap (λ x. times q (numbered x p.made)) name_of

    there : (q : Name) → IsIn q things → IsIn q (cells program (suc (suc n)))
    there q (inl e) =
        subst (λ z. IsIn z (cells program (suc (suc n)))) (sym e)
        (cells_within program (suc n) (suc (suc n)) (omega arith) t.name
        (task_cell program n t i))
    there q (inr j) =
        let a = times_of_in q (numbered t.name p.made) j in
        let m = as_made q in
        dite (dec_le 1 (times q p.promises))
        (λ l. cells_within program (suc n) (suc (suc n)) (omega arith) q
        (promised program obeys proper n t p i h q
        (in_of_times q p.promises l)))
        (λ l. let c = total_some (λ (c : Task B). is q c.name) p.children (omega arith) in
        subst (λ z. IsIn z (cells program (suc (suc n)))) (sym (name_of_is q c.0.name c.2))
        (task_cell program (suc n) c.0
        (forked program obeys proper n t p i h c.0 c.1)))

    made_fits : suc p.made ≤ length (cells program (suc (suc n)))
    made_fits =
        let a = numbered_length t.name p.made in
        let f = fewer things (cells program (suc (suc n)))
        (λ q. at_least q things (cells program (suc (suc n))) (once q) (there q)) in
        omega arith

  -- the law of what a point has made
  pub counts_made : CountsMade program
  counts_made n t p i h = made_fits n t p i h
