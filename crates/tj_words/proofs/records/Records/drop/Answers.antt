use Rattle.tj_words.proofs.Prelude.{ap, arith, dite, false, get_or, get_or-set_other, get_or-set_same, ℕ_discrete, ◌∙◌}
use Rattle.std.specs.Slots.{slots_filled, slots_counts}
use Rattle.tj_words.proofs.records.Records.drop.Goals as goal

pub loop-slot-preserved : goal.loop-slot-preserved
loop-slot-preserved g c =
    let o = c.take.ensures.others in let i = c.loop-slot.invariant in
    let old = slots_filled c.loop-slot.table.slots in let count = (slots_counts c.loop-slot.table.slots).1 in
    let test = c.loop-slot-test.true in let all = c.slot_count.ensures in let long = o.2 in (
      (λ k a b. ap (λ l. get_or l k false) o.1
          ∙ (get_or-set_other old c.loop-slot.slot k false false (λ e. omega arith)
          ∙ i.0 k (omega arith) (omega arith))),
      (λ k a. dite (ℕ_discrete k c.loop-slot.slot)
          (λ q. ap (λ l. get_or l k false) o.1
          ∙ (ap (λ n. get_or (lib.ListN.set old c.loop-slot.slot false) n false) q
          ∙ get_or-set_same old c.loop-slot.slot false false (omega arith)))
          (λ q. ap (λ l. get_or l k false) o.1
          ∙ (get_or-set_other old c.loop-slot.slot k false false q ∙ i.1 k (omega arith)))),
    )
