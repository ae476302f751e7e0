use Rattle.tj_report.proofs.Prelude.{List, arith, codes, length, line_feed, link_text, subst, sym, ap}
use Rattle.tj_report.proofs.Prelude.{◌++◌, ◌<◌, ◌∙◌, ◌≡◌, ℕ}
use Rattle.std.proofs.lemmas.List.{take_all}
use Rattle.std.specs.List.{All, flat_map, join_by}
use Rattle.std.specs.Prelude.{slice_index_or}
use Rattle.tj_mean.specs.WaitIndexes.{Next}
use Rattle.tj_report.specs.Inner.AwaitedCells.{AreNextBy, AreRanks}
use Rattle.tj_report.specs.Inner.RestAlarms.{alarm_by, link_in}
use Rattle.tj_report.proofs.NextOwners.{next_below, on_below}
use Rattle.tj_report.proofs.Parts.{adds, more_lines}
use Rattle.tj_report.proofs.alarm_lines.add_alarms.Goals as goal

-- what holds of each list holds of the one at an index
inside_at : (P : List ℕ → Type 0) (cs : List (List ℕ)) (i : ℕ) (c d : List ℕ) → All P cs → i < length cs
    → c ≡ slice_index_or cs i c → d ≡ c → P d
inside_at P cs i c d a l e f = subst P (sym (f ∙ e)) (a i c l)

pub cycles_by-requires : goal.cycles_by-requires
cycles_by-requires g c =
    let rest = c.args.rest.now in let order = c.args.order.now in
    let ranked = subst (AreRanks order) (sym c.as_slice.ensures.value) c.in_ok-ranks.ensures in
    subst (λ ns. (i j : ℕ) → Next ns i j → j < length ns) (sym c.as_slice-2.ensures.value)
    (next_below rest.cells rest.records order c.as_slice.result.now ranked c.in_ok-next.next.items c.in_ok-next.ensures)

pub add_links-requires-clause-inside : goal.add_links-requires-clause-inside
add_links-requires-clause-inside g c κs within =
    let rest = c.args.rest.now in let order = c.args.order.now in
    let ranked = subst (AreRanks order) (sym c.as_slice.ensures.value) c.in_ok-ranks.ensures in
    let next_is = subst (AreNextBy rest.cells rest.records c.as_slice.result.now order)
    (sym c.as_slice-2.ensures.value) c.in_ok-next.ensures in
    let inside = subst (λ cs. All (λ d. All (λ p. p < length order) d) cs) (sym c.items-cycle-items.ensures)
    (on_below rest.cells rest.records order c.as_slice.result.now ranked c.as_slice-2.result.now next_is
    c.in_ok-cycles.cycles c.in_ok-cycles.ensures.on) in
    inside_at (All (λ p. p < length order)) c.items-cycle-items.result.now c.loop-cycle.cycle-index c.cycle-item.result
    c.items.result.now inside c.loop-cycle-test.true c.cycle-item.is c.items.ensures

pub loop-cycle-preserved : goal.loop-cycle-preserved
loop-cycle-preserved g c =
    let rest = c.args.rest.now in let x = c.cycle-item.result in
    let t = c.loop-cycle.text.items in let u = c.add_links.new.text.items in
    let parts : List ℕ → List ℕ = join_by (λ p. link_text (link_in rest.cells rest.records c.args.order.now p))
    (codes ", ") in
    let f : List ℕ → List ℕ = alarm_by (link_in rest.cells rest.records c.args.order.now) in
    let linked = adds t (codes "alarm ") (parts c.items.result.now) c.extend_from_slice.new.self.items u
    c.in_ok-extend_from_slice.ensures.items c.in_ok-add_links.ensures in
    let grown = adds t (codes "alarm " ++ parts c.items.result.now) line_feed u c.push.new.self.items
    linked c.in_ok-push.ensures.items in
    more_lines f c.items-cycle-items.result.now c.loop-cycle.cycle-index x c.args.text.now.items t
    c.push.new.self.items c.loop-cycle-test.true c.cycle-item.is c.loop-cycle.invariant
    (grown ∙ ap (λ z. t ++ f z) c.items.ensures)

pub returns : goal.returns
returns g c =
    let rest = c.args.rest.now in let order = c.args.order.now in
    let lines : List (List ℕ) → List ℕ = λ cs.
    c.args.text.now.items ++ flat_map (alarm_by (link_in rest.cells rest.records order)) cs in
    let ended = c.loop-cycle-test.false in
    let all = take_all c.loop-cycle.cycle-index c.items-cycle-items.result.now (omega arith) in record {
      ranks = c.as_slice.result.now;
      next = c.as_slice-2.result.now;
      cs = c.in_ok-cycles.cycles;
      ranks_are = subst (AreRanks order) (sym c.as_slice.ensures.value) c.in_ok-ranks.ensures;
      next_is = subst (AreNextBy rest.cells rest.records c.as_slice.result.now order)
          (sym c.as_slice-2.ensures.value) c.in_ok-next.ensures;
      on = c.in_ok-cycles.ensures.on;
      cycles = c.in_ok-cycles.ensures.cycles;
      text_is = c.loop-cycle.invariant ∙ ap lines all ∙ ap lines c.items-cycle-items.ensures;
    }
