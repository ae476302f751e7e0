use Rattle.std.proofs.Common.{rules, ◌≡◌, ℕ, ◌<◌, suc, List, [], ◌∷◌, ◌++◌, length, set, get_or, Some, refl, sym, ap, ◌∙◌, subst, arith, length-set}
use Rattle.std.proofs.lemmas.List.{length-append}
use Rattle.tj_core.specs.declared.births.Birth.{Birth}
use Rattle.tj_core.specs.declared.slot.Slot.{Slot}
use Rattle.tj_core.specs.Inner.SlotStages.{cell_stage}
use Rattle.tj_core.specs.Inner.Columns.{state_in, HaveRoom, loads_in}
use Rattle.tj_core.proofs.Columns.ColumnLists.{rooms_stay, loads_stay}
use Rattle.tj_core.proofs.Columns.Additions.{added, added_loads, rooms_more, rooms_less}
use Rattle.tj_core.proofs.machine.Machine.add.Goals as goal

pub invariant_of-self-2 : goal.invariant_of-self-2
invariant_of-self-2 c =
    let m = c.args.self.now in let x = c.index_mut.result.now in let y = c.set_idle.new.self in let t = c.args.t.0 in
    let v = c.begin.new.self in
    let h : t < length m.slots.items = c.runs.ensures.there (search rules) in
    let limit = c.add.ensures.limit in
    let q : c.push.new.self.items ≡ set m.slots.items t y ++ v ∷ [] = search rules in
    let q-length : length c.push.new.self.items ≡ suc (length m.slots.items) = ap length q
    ∙ (length-append (set m.slots.items t y) (v ∷ []) ∙ (let n = length-set m.slots.items t y in omega arith)) in
    let births : length c.add.new.self.births.items ≡ suc (length m.births.births.items) = ap length
    c.add.ensures.births ∙ (length-append m.births.births.items _ ∙ omega arith) in
    let left : m.spare.items ≡ c.pop.new.self.items ++ c.in-Some.slot ∷ [] = c.in-Some.ensures.items in
    let left-length : length m.spare.items ≡ suc (length c.pop.new.self.items) = ap length left
    ∙ (length-append c.pop.new.self.items (c.in-Some.slot ∷ []) ∙ omega arith) in
    let less = rooms_less m.births.limit c.pop.new.self.items c.in-Some.slot
    (subst (HaveRoom m.births.limit) left m.spares) in
    let there = m.there in let all = m.all in
    record {
      there = omega arith;
      all = omega arith;
      owned = ap length c.set.ensures ∙ (length-set m.owners.owners.items _ _ ∙ (m.owned ∙ sym limit));
      roomy = subst (λ (n : ℕ). HaveRoom n c.push.new.self.items) (sym limit) (subst (HaveRoom m.births.limit) (sym q)
          (rooms_more m.births.limit (set m.slots.items t y) v
          (rooms_stay m.slots.items t x y h c.index_mut.ensures.value m.births.limit m.roomy c.set_idle.ensures.room)
          (let a = less.1 in let b = c.begin.ensures.room in omega arith)));
      spares = subst (λ (n : ℕ). HaveRoom n c.pop.new.self.items) (sym limit) less.0;
      room = let a = m.room in let b = c.push.ensures.capacity in omega arith;
    }

pub returns-clause-ok : goal.returns-clause-ok
returns-clause-ok c =
    let m = c.args.self.now in let x = c.index_mut.result.now in let y = c.set_idle.new.self in let t = c.args.t.0 in
    let v = c.begin.new.self in
    let h : t < length m.slots.items = c.runs.ensures.there (search rules) in
    let q : c.push.new.self.items ≡ set m.slots.items t y ++ v ∷ [] = search rules in
    let left : m.spare.items ≡ c.pop.new.self.items ++ c.in-Some.slot ∷ [] = c.in-Some.ensures.items in
    let left-length : length m.spare.items ≡ suc (length c.pop.new.self.items) = ap length left
    ∙ (length-append c.pop.new.self.items (c.in-Some.slot ∷ []) ∙ omega arith) in
    let there = m.there in let all = m.all in let owned = m.owned in let same = m.births.same in
    let b : Birth = record { maker = t; number = suc (get_or m.births.made.items t 0) } in
    let os : c.set.new.self.owners.items ≡ set m.owners.owners.items (suc (length m.births.births.items))
    (Some c.args.owner) = c.set.ensures ∙ ap (λ (i : ℕ). set m.owners.owners.items i (Some c.args.owner))
    c.count-cell.ensures in
    record {
      runs = c.runs.ensures.runs.0 (search rules);
      fewer = omega arith;
      state = (λ j. state_in (c.add.ensures.births j) (c.add.ensures.made j) (os j) (q j) m.others m.cleared)
          ∙ added m.births.births.items m.births.made.items m.owners.owners.items m.slots.items m.others m.cleared t
          c.args.owner y v (cell_stage [] 0 0 c.args.stage) b
          h there same (omega arith) c.set_idle.ensures.stage c.begin.ensures.stage refl;
      loads = λ i. ap (λ (l : List Slot). loads_in l i) q
          ∙ added_loads m.births.births.items m.births.made.items m.owners.owners.items m.slots.items m.others m.cleared
          t c.args.owner y v (cell_stage [] 0 0 c.args.stage) b
          h there same (omega arith) c.set_idle.ensures.stage c.begin.ensures.stage refl c.begin.ensures.loads
          (loads_stay m.slots.items t x y h c.index_mut.ensures.value c.set_idle.ensures.loads) i;
      limit = c.add.ensures.limit;
    }
