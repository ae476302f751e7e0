-- One task more, and all.
use Rattle.std.proofs.Common.{Bor, ap, arith, map, refl, ◌∙◌}
use Rattle.std.proofs.lemmas.List.{take_all}
use Rattle.tj_texts.proofs.Refs.{map_twice}
use Rattle.tj_findings.proofs.Steps.{seen_more}
use Rattle.tj_findings.specs.declared.finding.ToldTask.{ToldTask}
use Rattle.tj_findings.specs.declared.finding.Wait.{Wait}
use Rattle.tj_texts.proofs.wait_lines.waiting.Goals as goal

pub loop-wait-preserved : goal.loop-wait-preserved
loop-wait-preserved c = seen_more (λ (t : Bor ToldTask). t.now) (λ (w : Bor Wait). w.now.task) c.args.waits.now
    c.loop-wait.wait-index c.wait-item.result _ c.loop-wait.tasks.items c.push.new.self.items c.loop-wait-test.true
    c.loop-wait.invariant c.wait-item.is c.in_ok-push.ensures.items refl

pub returns : goal.returns
returns c =
    let l = c.loop-wait in
    let ended = c.loop-wait-test.false in
    l.invariant
    ∙ ap (map (λ (w : Bor Wait). w.now.task)) (take_all l.wait-index c.args.waits.now (omega arith))
    ∙ map_twice (λ (w : Wait). w.task) (λ (w : Bor Wait). w.now) c.args.waits.now
