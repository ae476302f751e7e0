use Rattle.tj_tree.specs.Inner.Tree.{forks_of}
use Rattle.tj_tree.proofs.Gapless.{entry_shallow, entry_parent, entry_jump, entry_up}
use Rattle.tj_tree.proofs.tree.node_at.Goals as goal

pub returns-clause-shallow : goal.returns-clause-shallow
returns-clause-shallow c =
    let entries = c.args.entries.now in
    entry_shallow (forks_of entries) entries c.args.task.0 c.requires.entries c.requires.there

pub returns-clause-parent_there : goal.returns-clause-parent_there
returns-clause-parent_there c =
    let entries = c.args.entries.now in
    entry_parent (forks_of entries) entries c.args.task.0 c.requires.entries c.requires.there

pub returns-clause-jump_there : goal.returns-clause-jump_there
returns-clause-jump_there c =
    let entries = c.args.entries.now in
    entry_jump (forks_of entries) entries c.args.task.0 c.requires.entries c.requires.there

pub returns-clause-jump_up : goal.returns-clause-jump_up
returns-clause-jump_up c =
    let entries = c.args.entries.now in
    entry_up (forks_of entries) entries c.args.task.0 c.requires.entries c.requires.there
