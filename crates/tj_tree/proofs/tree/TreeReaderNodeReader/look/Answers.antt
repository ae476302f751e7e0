use Rattle.tj_tree.specs.Inner.Tree.{root_entry}
use Rattle.tj_tree.proofs.Gapless.{entry_inside, entry_node, MayLook-parent, MayLook-jump}
use Rattle.tj_tree.proofs.tree.TreeReaderNodeReader.look.Goals as goal

pub bounds-self-task : goal.bounds-self-task
bounds-self-task g c = entry_inside g.F.Forked.forks c.args.self.now.entries.now c.args.task.0 c.requires

pub returns-clause-shown : goal.returns-clause-shown
returns-clause-shown g c = (
  c.requires.there,
  entry_node g.F.Forked.forks c.args.self.now.entries.now c.args.task.0
      root_entry c.requires,
)

pub returns-clause-parent : goal.returns-clause-parent
returns-clause-parent g c = MayLook-parent g.F.Forked.forks c.args.self.now.entries.now c.args.task.0 root_entry
    c.requires

pub returns-clause-jump : goal.returns-clause-jump
returns-clause-jump g c = MayLook-jump g.F.Forked.forks c.args.self.now.entries.now c.args.task.0 root_entry c.requires
