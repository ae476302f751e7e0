-- What a task that has asked owns, by its record: its result first, and then the promises that the point holds.
use Rattle.tj_run.proofs.Prelude.{AreCells, ArePairs, Ask, HasName, Held, HeldSays, IsAsked, IsCell, List, Point}
use Rattle.tj_run.proofs.Prelude.{Program, Rec, Reference, View, ap, drop, map, numbers, some-injective, subst, sym}
use Rattle.tj_run.proofs.Prelude.{to_task, ℕ, ◌∙◌, ◌∷◌, ◌≡◌, ◌≢◌}
use Rattle.tj_run.proofs.Cells.NamedLists.{HaveCells, first_owned, name_in, names_are, others_owned, pairs_there}
use Rattle.tj_run.proofs.Asks.PointSteps.{before, owned_after}
use Rattle.tj_base.specs.declared.cell.Sort.TheVariants as sort
use Rattle.tj_body.specs.declared.ask.Answer.TheVariants as answer

module _ {B : Type 0} (program : Program B) (cells : ℕ) (v : View B) (all : AreCells cells v.born) (r : Rec B)
    (x : Ask B) (asked : IsAsked program v r x) where
  abbrev p : Point B
  p = before program v r x asked

  pairs : ArePairs (HasName v.born) r.owned (p.name ∷ p.holds)
  pairs = owned_after program v r x asked answer.Done

  -- the promises that it owns, beside its result
  abbrev pub others : List ℕ
  others = numbers (drop 1 r.owned)

  pub owned_is : numbers r.owned ≡ r.cell.0 ∷ others
  owned_is = first_owned cells v.born all r.cell.0 (to_task p.name) asked.tells.of r.owned p.holds pairs

  others_are : ArePairs (HasName v.born) (drop 1 r.owned) p.holds
  others_are = others_owned cells v.born all r.cell.0 (to_task p.name) asked.tells.of r.owned p.holds pairs

  -- they are what the point holds
  pub holds_are : p.holds ≡ map (name_in v.born) others
  holds_are = names_are v.born (drop 1 r.owned) p.holds others_are

  pub others_there : HaveCells v.born others
  others_there = pairs_there v.born (drop 1 r.owned) p.holds others_are

  -- a held promise isn't the result of the task
  pub promise_other : (d : Held) (y : Reference) → HeldSays v.born d y → d.sort ≡ sort.Promise → d.cell.0 ≢ r.cell.0
  promise_other d y says promise e = apart (sym promise ∙ (says.1 ∙ ap (λ (z : Reference). z.sort)
      (some-injective y (to_task p.name) (sym says.0 ∙ subst (λ c. IsCell v.born c (to_task p.name)) (sym e)
      asked.tells.of))))
    where
      apart : sort.Promise ≡ sort.Task → ⊥
      apart z = cc
