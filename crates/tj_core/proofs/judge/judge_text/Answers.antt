use Rattle.std.proofs.Common.{◌≡◌, ℕ, suc, ◌+◌, Bool, true, ◌||◌, List, [], ◌++◌, drop, get_or, sym, ap, ◌∙◌, subst, arith, add-one}
use Rattle.std.proofs.lemmas.List.{drop_all}
use Rattle.tj_events.specs.declared.event.Event.{Event}
use Rattle.tj_events.specs.declared.event.Event.TheVariants.{Make}
use Rattle.tj_core.specs.Checker.Core.{core_state}
use Rattle.tj_events.specs.Events.{Allowed}
use Rattle.tj_core.specs.Journals.Judging.{illegal_line, legal_line, is_alarm}
use Rattle.tj_core.proofs.Journals.JudgedRuns.{judge_starts, judge_on, judge_illegal, judge_legal, judged_same, outcome_same}
use Rattle.tj_core.proofs.judge.judge_text.Goals as goal
use Rattle.tj_core.proofs.judge.judge_text.Goals.{then-marked, else-marked}

-- an event, for an index where there is none
abbrev other : Event
other = Make (record { 0 = 0 })

pub loop-event-init : goal.loop-event-init
loop-event-init c = let e = c.in_ok-core.ensures in record {
  limit = e.limit;
  applied = e.applied;
  judged = judge_starts c.args.cells c.args.events.now (core_state c.in_ok-core.core) c.new-text.result.items e.state
      c.new-text.ensures.items;
}

pub returns-in-Err : goal.returns-in-Err
returns-in-Err c =
    let l = c.loop-event in let i = l.invariant in let N = c.args.cells in let s = core_state l.core in
    let e : Event = get_or c.args.events.now l.event-index other in
    let bad = subst (λ (n : ℕ). ¬ Allowed n s e) i.limit c.in-Err.ensures.illegal in
    let j = judge_illegal N c.args.events.now s l.event-index l.text.items l.marked i.judged other (omega arith) bad in
    let count : c.applied.result + 1 ≡ suc l.event-index =
    ap (λ (n : ℕ). n + 1) (c.applied.ensures ∙ c.in-Err.ensures.err.applied ∙ i.applied) ∙ add-one l.event-index in
    outcome_same N c.args.events.now _ c.outcome.result.text true c.outcome.result.marked j
    (c.outcome.ensures.text ∙ c.in_ok-add_illegal.ensures ∙ ap (λ (n : ℕ). l.text.items ++ illegal_line n) count)
    c.outcome.ensures.marked

pub loop-event-preserved : goal.loop-event-preserved
loop-event-preserved c =
    let l = c.loop-event in let i = l.invariant in let N = c.args.cells in let s = core_state l.core in
    let e : Event = get_or c.args.events.now l.event-index other in
    let a = c.in_default.ensures.ok in
    let good = subst (λ (n : ℕ). Allowed n s e) i.limit a.allowed in
    let said = c.in_ok-said.ensures i.judged.facts a.allowed in
    let j = judge_on N c.args.events.now s l.event-index l.text.items l.marked i.judged other (omega arith) good
    c.in_ok-said.said.items said in
    record {
      limit = a.limit ∙ i.limit;
      applied = a.applied ∙ ap suc i.applied ∙ sym (add-one l.event-index);
      judged = judged_same N c.args.events.now _ (core_state c.apply.new.self) _ (l.event-index + 1) _
          c.extend_from_slice.new.self.items _ c.if-marked.marked j
          a.state (add-one l.event-index)
          (c.in_ok-extend_from_slice.ensures.items ∙ ap (λ (x : List ℕ). l.text.items ++ x) c.as_slice.ensures.value)
          (elim c.if-marked.branch [
            | then-marked w ↦ w.marked-is ∙ w.if-marked.true ∙ sym (ap (λ (b : Bool). b || is_alarm e) w.if-marked.true)
            | else-marked w ↦ w.marked-is ∙ w.is_alarm-marked.ensures ∙ sym
                (ap (λ (b : Bool). b || is_alarm e) w.if-marked.false)
          ]);
    }

pub returns : goal.returns
returns c =
    let l = c.loop-event in let i = l.invariant in let N = c.args.cells in let s = core_state l.core in
    let done : drop l.event-index c.args.events.now ≡ [] = drop_all l.event-index c.args.events.now (omega arith) in
    let j = judge_legal N c.args.events.now s l.event-index l.text.items l.marked i.judged done in
    outcome_same N c.args.events.now _ c.outcome-2.result.text l.marked c.outcome-2.result.marked j
    (c.outcome-2.ensures.text ∙ c.in_ok-add_legal.ensures ∙ ap (λ (n : ℕ). l.text.items ++ legal_line n)
    (c.applied-2.ensures ∙ i.applied))
    c.outcome-2.ensures.marked
