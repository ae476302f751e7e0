use Rattle.std.proofs.Common.{◌≡◌, ◌⊎◌, ◌++◌, suc, List, length, ap, sym, ◌∙◌, subst}
use Rattle.std.specs.Prelude.{filter}
use denote.Param.Send.{sendable}
use Rattle.std.proofs.Crossing.{crosses}
use Rattle.tj_base.specs.declared.cell.Sort.TheVariants as sort
use Rattle.tj_body.specs.History.{history}
use Rattle.tj_body.specs.Points.{IsIn}
use Rattle.tj_body.specs.declared.point.Task.{Task}
use Rattle.tj_mean.specs.Inner.Assignments.{assignment_in}
use Rattle.tj_syntax.proofs.Sends.{expr_sync, stmt_sync, script_sync}
use Rattle.tj_trace.specs.Inner.RoundMakers.{forked_makers, is_of, still_makers}
use Rattle.tj_trace.specs.Logs.{Logged}
use Rattle.tj_trace.proofs.LoggedRules.{rules}
use Rattle.tj_trace.proofs.MostFound.{counts_forks, if_all, takes_up}
use Rattle.tj_trace.proofs.QuietTasks.{leaps}
use Rattle.tj_trace.proofs.Sends.{size_sync, sizes_sync}
use Rattle.tj_trace.proofs.full.take_up.Goals as goal

-- a body with notes may cross threads
pub history-requires-send-B : goal.history-requires-send-B
history-requires-send-B c κs =
    search (sendable, crosses, expr_sync, stmt_sync, script_sync, size_sync, sizes_sync) depth 80 fits 30000

pub history-requires-clause-proper : goal.history-requires-clause-proper
history-requires-clause-proper c κs = c.requires.proper

pub follow-requires-send-B : goal.follow-requires-send-B
follow-requires-send-B c κs =
    search (sendable, crosses, expr_sync, stmt_sync, script_sync, size_sync, sizes_sync) depth 80 fits 30000

pub follow-requires-clause-as_many : goal.follow-requires-clause-as_many
follow-requires-clause-as_many c κs =
    counts_forks c.args.strict (assignment_in c.args.given.now) c.args.task c.in_ok-history.field-0
    c.in_ok-history.ensures (filter (is_of sort.Task) c.parts-noted.result.0.items)
    (ap (λ l. filter (is_of sort.Task) l) c.parts-noted.ensures.makers) c.requires.proper c.requires.notes_nothing
    ∙ ap (λ (l : List (Task Logged)). length l) (sym c.parts-noted.ensures.children)

-- where no fork is followed and nothing is promised, nothing is added
pub returns-then-may_leap : goal.returns-then-may_leap
returns-then-may_leap c =
    let V = assignment_in c.args.given.now in
    let leap = c.may_leap.ensures c.if-may_leap.true in
    leaps (history (rules c.args.strict) V c.args.task) c.args.depth c.args.pending.now.items c.args.makers.now.items
    (c.requires.quiet leap.1) leap.0

pub returns : goal.returns
returns c =
    let forks = filter (is_of sort.Task) c.parts-noted.result.0.items in
    if_all c.follow.result c.follow.ensures.noted c.follow.ensures.still c.follow.ensures.from
    (λ made still from.
    takes_up c.args.strict (assignment_in c.args.given.now) c.args.task c.in_ok-history.field-0
    c.in_ok-history.ensures forks (ap (λ l. filter (is_of sort.Task) l) c.parts-noted.ensures.makers) c.args.depth
    c.args.pending.now.items c.follow.new.pending.items c.args.makers.now.items c.follow.new.makers.items
    (made ∙ ap (λ l. c.args.makers.now.items ++ filter (is_of sort.Promise) l) c.parts-noted.ensures.makers)
    (λ below. still below
    ∙ ap (λ (l : List (Task Logged)). forked_makers below c.args.depth forks l
    ++ still_makers below c.args.pending.now.items) c.parts-noted.ensures.children)
    (λ w i. subst (λ (l : List (Task Logged)). IsIn w c.args.pending.now.items
    ⊎ ((suc w.depth ≡ c.args.depth) × IsIn w.task l)) c.parts-noted.ensures.children (from w i)))
