-- Walks up the tree of forks, one after the other.
use Rattle.tj_detect.proofs.Prelude.{GoesOn_trans, IsKnown_on, MayLook, TreeShown, View, arith, later_itself, later_on}
use Rattle.tj_detect.proofs.Prelude.{refl, suc, ℕ, [], ◌+◌, ◌∙◌, ◌∷◌, ◌≡◌}
use Rattle.std.specs.Borrow.{MutBor}
use Rattle.std.specs.Prelude.{Option}
use Rattle.tj_log.specs.Shown.{SeatShown}
use Rattle.tj_tree.proofs.Lifts.{goes_itself}
use Rattle.tj_tree.specs.declared.node.TaskNode.{TaskNode}
use Rattle.tj_record.specs.declared.record.Rec.{Rec}
use Rattle.tj_words.specs.declared.table.Laid.{Laid}
use Rattle.std.proofs.Common.{length-append, ◌++◌}
use Rattle.tj_tree.specs.declared.node.Node.{Node}
use Rattle.tj_words.proofs.Stores.SeatLists.{all_append, all_cons}
use Rattle.tj_words.specs.CallLaws.StepCalls as call
use Rattle.tj_words.specs.CallLaws.StepLogs.{IsLookLogged, entry_of}
use Rattle.tj_words.specs.declared.offsets.Once.TheVariants as once
use Rattle.tj_detect.proofs.BlockSteps.{makes_on}
use Rattle.tj_detect.specs.BlockLogs.{Seat}
use Rattle.tj_detect.specs.ClimbLogs.{IsOnceLoad, LogsClimb}
use Rattle.tj_detect.specs.Inner.Climbs.{HasClimbed, KnowsNode}

-- steps of two walks one after the other
logs_on : {B : Type 0} (u v w : Seat B) {l m n : ℕ} → LogsClimb l m u v → LogsClimb m n v w → LogsClimb l n u w
logs_on u v w h g = record {
  loads = g.loads ++ h.loads;
  count = let a = length-append g.loads h.loads in let x = h.count in let y = g.count in omega arith;
  each = all_append IsOnceLoad g.loads h.loads g.each h.each;
  makes = makes_on h.loads g.loads u v w h.makes g.makes;
}

-- a look at a node is one step of a walk
pub look_logs : {B : Type 0} (t : ℕ) (node : Node) (u v : Seat B) (m n : ℕ) → n ≡ m + 1 → IsLookLogged t node u v
    → LogsClimb m n u v
look_logs t node u v m n e h =
    let a = entry_of (call.sees_once t once.Jump) 0 0 (suc node.jump.0) in
    let b = entry_of (call.sees_once t once.Depth) 0 0 node.depth in
    let c = entry_of (call.sees_once t once.Kid) 0 0 node.kid in
    let d = entry_of (call.sees_once t once.Parent) 0 0 h.0 in record {
      loads = a ∷ b ∷ c ∷ d ∷ [];
      count = omega arith;
      each = all_cons IsOnceLoad a (b ∷ c ∷ d ∷ []) (t, suc node.jump.0, once.Jump, refl)
          (all_cons IsOnceLoad b (c ∷ d ∷ []) (t, node.depth, once.Depth, refl)
          (all_cons IsOnceLoad c (d ∷ []) (t, node.kid, once.Kid, refl)
          (all_cons IsOnceLoad d [] (t, h.0, once.Parent, refl) (λ y i. absurd i))));
      makes = (h.2, h.3);
    }

module _ {B : Type 0} {laid : Laid B} where
  -- a walk that hasn't begun
  pub climbed_itself : (seat : MutBor (SeatShown (Option (Rec B)) (View B))) (steps : MutBor ℕ)
      → HasClimbed laid seat seat steps steps
  climbed_itself seat steps = record {
    same_seat = refl;
    same_count = refl;
    goes_on = goes_itself (TreeShown seat.now) (MayLook laid seat.now);
    later = later_itself seat.now;
    loads = refl;
    log = record { loads = []; count = omega arith; each = λ y i. absurd i; makes = (refl, refl) };
  }

  module _ {a b : MutBor (SeatShown (Option (Rec B)) (View B))} {m n : MutBor ℕ} (p : HasClimbed laid a b m n) where
    pub climbed_on : {c : MutBor (SeatShown (Option (Rec B)) (View B))} {o : MutBor ℕ} → HasClimbed laid b c n o
        → HasClimbed laid a c m o
    climbed_on {c} q = record {
      same_seat = q.same_seat ∙ p.same_seat;
      same_count = q.same_count ∙ p.same_count;
      goes_on = GoesOn_trans (TreeShown a.now) (MayLook laid a.now) (TreeShown b.now) (MayLook laid b.now)
          (TreeShown c.now) (MayLook laid c.now) p.goes_on q.goes_on;
      later = later_on a.now b.now c.now p.later q.later;
      loads = let x = p.loads in let y = q.loads in omega (arith, x, y);
      log = logs_on a.now b.now c.now p.log q.log;
    }

    -- a node that was known still is
    pub knows_on : (at : TaskNode) → KnowsNode laid a.now at → KnowsNode laid b.now at
    knows_on at k = IsKnown_on (TreeShown a.now) (MayLook laid a.now) (TreeShown b.now) (MayLook laid b.now) at
        p.goes_on k
