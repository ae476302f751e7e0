-- The steps of calls in the log of a seat, one call after the other.
use Rattle.std.proofs.Common.{◌≡◌, ℕ, suc, ◌+◌, List, [], ◌∷◌, ◌++◌, sym, ap, subst, ◌∙◌, append_assoc}
use Rattle.tj_base.specs.declared.cell.Sort.{Sort}
use Rattle.tj_log.specs.declared.entry.Entry.{Entry}
use Rattle.tj_tree.specs.declared.node.Node.{Node}
use Rattle.tj_words.proofs.SeatLoads.KnowsMoreOn.{tail_on}
use Rattle.tj_words.specs.CallLaws.StepCalls as call
use Rattle.tj_words.specs.CallLaws.StepLogs.{IsLookLogged, entry_of}
use Rattle.tj_words.specs.declared.offsets.Once.TheVariants as once
use Rattle.tj_cells.specs.CallLogs.{Grows, LooksOn, Makes, MakesNode, Seat, draw_entry, drawn_entries, once_entry}

module _ {B : Type 0} (u v : Seat B) where
  -- a seat that makes no step has made none
  pub grows_still : v.log ≡ u.log → v.took ≡ u.took → Grows u v
  grows_still l t = (([], l), t)

  -- steps that are told make the log longer
  pub grows_by : (es : List Entry) → Makes es u v → Grows u v
  grows_by es h = ((es, h.0), h.1)

  -- a look at a node
  pub look_grows : (t : ℕ) (node : Node) → IsLookLogged t node u v → Grows u v
  look_grows t node h = grows_by (entry_of (call.sees_once t once.Jump) 0 0 (suc node.jump.0)
      ∷ entry_of (call.sees_once t once.Depth) 0 0 node.depth ∷ entry_of (call.sees_once t once.Kid) 0 0 node.kid
      ∷ entry_of (call.sees_once t once.Parent) 0 0 h.0 ∷ []) (h.2, h.3)

  module _ (w : Seat B) where
    -- steps and then others
    pub grows_on : Grows u v → Grows v w → Grows u w
    grows_on h k = (tail_on u.log v.log w.log h.0 k.0, k.1 ∙ h.1)

    -- these steps and then those
    pub makes_on : (es fs : List Entry) → Makes es u v → Makes fs v w → Makes (fs ++ es) u w
    makes_on es fs h k = (k.0 ∙ (ap (λ l. fs ++ l) h.0 ∙ sym (append_assoc fs es u.log)), k.1 ∙ h.1)

    -- these steps and then one
    pub makes_one : (es : List Entry) (e : Entry) → Makes es u v → Makes (e ∷ []) v w → Makes (e ∷ es) u w
    makes_one es e h k = (k.0 ∙ ap (λ l. e ∷ l) h.0, k.1 ∙ h.1)

module _ {B : Type 0} (u v w : Seat B) where
  -- a cell was drawn, and PARENT and KID were stored
  pub drawn_made : (x : Seat B) (t kid : ℕ) (o : Sort) (c link : ℕ) → Makes (draw_entry t o c ∷ []) u v
      → Makes (once_entry c once.Parent link ∷ []) v w → link ≡ suc t → Makes (once_entry c once.Kid kid ∷ []) w x
      → Makes (drawn_entries t kid o c) u x
  drawn_made x t kid o c link drawn parent is kid_put = makes_one u w x
      (once_entry c once.Parent (suc t) ∷ draw_entry t o c ∷ []) (once_entry c once.Kid kid)
      (makes_one u v w (draw_entry t o c ∷ []) (once_entry c once.Parent (suc t)) drawn
      (subst (λ n. Makes (once_entry c once.Parent n ∷ []) v w) is parent)) kid_put

  -- nodes were looked at, and DEPTH and JUMP stored
  pub node_made : (x y : Seat B) (t c jump : ℕ) (maker : Node) → IsLookLogged t maker u v
      → LooksOn maker.jump.0 v w → Makes (once_entry c once.Depth (maker.depth + 1) ∷ []) w x
      → Makes (once_entry c once.Jump jump ∷ []) x y → MakesNode t c u y
  node_made x y t c jump maker h k d j = (
    maker,
    jump,
    v,
    w,
    h,
    k,
    makes_one w x y (once_entry c once.Depth (maker.depth + 1) ∷ []) (once_entry c once.Jump jump) d j,
  )

-- a node that was made makes the log longer
pub node_grows : {B : Type 0} (u v : Seat B) (t c : ℕ) → MakesNode t c u v → Grows u v
node_grows u v t c h = grows_on u h.2 v (look_grows u h.2 t h.0 h.4)
    (grows_on h.2 h.5.2 v (look_grows h.2 h.5.2 h.0.jump.0 h.5.0 h.5.3)
    (grows_on h.5.2 h.3 v (look_grows h.5.2 h.3 h.5.0.jump.0 h.5.1 h.5.4)
    (grows_by h.3 v (once_entry c once.Jump h.1 ∷ once_entry c once.Depth (h.0.depth + 1) ∷ []) h.6)))
