use Rattle.std.proofs.Common.{List, ◌∷◌, ap, ◌∙◌, subst, sym}
use Rattle.tj_tree.specs.declared.tree.Entry.{Entry}
use Rattle.tj_tree.specs.Forks.{Forks, IsHistory, next_fork}
use Rattle.tj_tree.specs.Inner.Tree.{AreEntriesOf, forks_of}
use Rattle.tj_tree.proofs.Gapless.{forks_of-entries, IsHistory-gapless}
use Rattle.tj_tree.proofs.tree.ForkTree.fork.Goals as goal

pub returns-in_err-add_child-clause-history : goal.returns-in_err-add_child-clause-history
returns-in_err-add_child-clause-history c =
    subst (λ (entries : List Entry). IsHistory (forks_of entries)) (sym c.in_err-add_child.ensures.err)
    (IsHistory-gapless (forks_of c.self.inside.entries.items) c.self.invariant.gapless)

pub invariant_of-self-2 : goal.invariant_of-self-2
invariant_of-self-2 c =
    let forks = forks_of c.self.inside.entries.items in
    let entries = c.in_ok-add_child.ensures.ok in
    subst (λ fs. AreEntriesOf fs c.add_child.new.entries.items)
    (sym (forks_of-entries (next_fork forks c.args.parent.0 ∷ forks) c.add_child.new.entries.items entries))
    entries

pub returns-clause-ok : goal.returns-clause-ok
returns-clause-ok c =
    let forks = forks_of c.self.inside.entries.items in
    forks_of-entries (next_fork forks c.args.parent.0 ∷ forks) c.add_child.new.entries.items
    c.in_ok-add_child.ensures.ok
    ∙ ap (λ (fs : Forks). next_fork fs c.args.parent.0 ∷ fs) c.self.view_is

pub returns-clause-history : goal.returns-clause-history
returns-clause-history c =
    let forks = forks_of c.self.inside.entries.items in
    let entries = c.in_ok-add_child.ensures.ok in
    subst IsHistory (sym (forks_of-entries (next_fork forks c.args.parent.0 ∷ forks) c.add_child.new.entries.items
    entries)) (IsHistory-gapless (next_fork forks c.args.parent.0 ∷ forks) entries.gapless)
