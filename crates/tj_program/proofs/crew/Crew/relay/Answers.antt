use Rattle.tj_program.proofs.Prelude.{Report, ap, crosses, relay_start, root_body, sendable, ◌∙◌}
use Rattle.tj_modes.proofs.Outputs.{if_ok}
use Rattle.tj_modes.proofs.RelayRuns.{by_lists, meant_named}
use Rattle.tj_program.proofs.ClosedRuns.{IsRunOf-given}
use Rattle.tj_program.proofs.RelayRuns.{named}
use Rattle.tj_program.proofs.crew.Crew.relay.Goals as goal

-- the body of a relay may cross threads
pub run_body-requires-send-B : goal.run_body-requires-send-B
run_body-requires-send-B g c κs = search (sendable, crosses) depth 40

pub returns-clause-run : goal.returns-clause-run
returns-clause-run g c = if_ok c.run_body.result (λ given is. named c.args.size c.args.cells c.in_ok-root.root _ _ _
    (c.in_ok-root.ensures.root ∙ ap root_body c.relay_root.ensures.root) is) c.run_body.ensures

pub returns-clause-lists : goal.returns-clause-lists
returns-clause-lists g c = if_ok c.run_body.result (λ given run.
    by_lists c.args.size c.args.cells (meant_named c.args.size c.relay_root.result c.in_ok-root.root
    c.relay_root.ensures.root c.in_ok-root.ensures.root c.in_ok-root.ensures.lists) _ _
    (IsRunOf-given Report (relay_start c.args.size c.args.cells) _ _ _ run)) (returns-clause-run g c)
