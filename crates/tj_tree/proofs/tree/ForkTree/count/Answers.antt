use Rattle.std.proofs.Common.{◌≡◌, ap, subst, arith}
use Rattle.tj_tree.specs.Forks.{Forks, task_count}
use Rattle.tj_tree.specs.Inner.Tree.{AreGapless}
use Rattle.tj_tree.proofs.Gapless.{HasTask-below, below-HasTask, IsHistory-gapless}
use Rattle.tj_tree.proofs.tree.ForkTree.count.Goals as goal

pub returns-clause-tasks : goal.returns-clause-tasks
returns-clause-tasks c =
    let forks = c.args.self.now in
    let gapless = subst (λ (fs : Forks). AreGapless fs) c.self.view_is c.self.invariant.gapless in
    let counted : c.len.result ≡ task_count forks = omega
    (arith, c.len.ensures, c.self.inside.entries.ok.0, c.self.invariant.size, ap task_count c.self.view_is) in
    λ n. (λ l. HasTask-below forks gapless n (omega arith), λ there. omega (arith, below-HasTask forks gapless n there))

pub returns-clause-history : goal.returns-clause-history
returns-clause-history c = IsHistory-gapless c.args.self.now
    (subst (λ (fs : Forks). AreGapless fs) c.self.view_is c.self.invariant.gapless)
