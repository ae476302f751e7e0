-- A task that has ended holds nothing: what a history of a meaning holds is what it owns beside its result.
use Rattle.tj_report.proofs.Prelude.{IsIn, List, Name, Point, PointStage, in_map, owned, suc, sym, ◌≡◌}
use Rattle.std.proofs.Common.{ℕ, ◌*◌, drop, refl, subst}
use Rattle.tj_body.specs.History.{owned_in, history}
use Rattle.tj_body.specs.Programs.{Program}
use Rattle.tj_body.specs.Rounds.{given, tasks, last_round, meaning}
use Rattle.tj_body.specs.declared.point.Entry.{Entry}
use Rattle.tj_body.proofs.Histories.EndedPoints.{HasClosedIn, closes_whole}
use Rattle.tj_body.specs.declared.point.PointStage.TheVariants as stage

held_owned : (s : PointStage) (x : Name) (ws : List (Name × Entry)) (hs : List Name) → HasClosedIn s x ws hs
    → hs ≡ drop 1 (owned_in s x hs)
held_owned (stage.Closed e) x ws hs h = h.empty
held_owned s x ws hs h = refl

module _ {B : Type 0} where
  -- what a history of a meaning holds is what it owns beside its result
  pub meant_holds : (program : Program B) (N : ℕ) (p : Point B) → IsIn p (meaning program N)
      → p.holds ≡ drop 1 (owned p)
  meant_holds program N p i =
      let V = given program (last_round N) in
      let x = in_map (history program.rules V) p (tasks program (last_round N)) i in
      held_owned p.stage p.name p.writes p.holds
      (subst (λ (q : Point B). HasClosedIn q.stage q.name q.writes q.holds) (sym x.2)
      (closes_whole program.rules V x.0 (2 * suc (program.rules.left x.0.body))))
