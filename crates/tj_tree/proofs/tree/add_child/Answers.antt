use Rattle.std.proofs.Common.{◌≡◌, ◌+◌, List, [], ◌∷◌, ◌++◌, get_or, set, refl, sym, ap, ◌∙◌, subst}
use Rattle.std.proofs.lemmas.List.{get_or_append_left}
use Rattle.tj_tree.specs.declared.tree.Entry.{Entry}
use Rattle.tj_tree.specs.Forks.{next_fork, kid_count}
use Rattle.tj_tree.specs.Nodes.{child_node, node_of}
use Rattle.tj_tree.specs.Inner.Tree.{AreEntriesOf, forks_of}
use Rattle.tj_tree.proofs.Gapless.{AreEntriesOf-fork}
use Rattle.tj_tree.proofs.tree.add_child.Goals as goal

pub returns-clause-ok : goal.returns-clause-ok
returns-clause-ok c =
    let old = c.args.entries.now.items in
    let p = c.args.parent.0 in
    let forks = forks_of old in
    let child : Entry = record { node = c.child_of-node.result; kids = 0 } in
    let parent : Entry = record { node = c.index_mut.result.now.node; kids = c.index.result.now.kids + 1 } in
    let pushed : c.push.new.self.items ≡ old ++ child ∷ [] = c.in_ok-push.ensures.items in
    let above : c.index_mut.result.now ≡ get_or old p c.index_mut.result.now =
    c.index_mut.ensures.value ∙ ap (λ (es : List Entry). get_or es p c.index_mut.result.now) pushed
    ∙ get_or_append_left old (child ∷ []) c.index_mut.result.now p c.requires.parent_there in
    let above_node : parent.node ≡ node_of forks p = ap (λ (e : Entry). e.node) above
    ∙ c.requires.entries.nodes p c.index_mut.result.now c.requires.parent_there in
    let counted : c.index.result.now.kids ≡ kid_count forks p = ap (λ (e : Entry). e.kids) c.index.ensures
    ∙ c.requires.entries.kids p c.index.result.now c.requires.parent_there in
    let node : child.node ≡ child_node (node_of forks) (next_fork forks p) =
    subst (λ (es : List Entry). c.child_of-node.result ≡ child_node (node_of (forks_of es))
    (next_fork (forks_of es) p)) c.as_slice.ensures.value c.child_of-node.ensures in
    subst (λ (es : List Entry). AreEntriesOf (next_fork forks p ∷ forks) (set es p parent)) (sym pushed)
    (AreEntriesOf-fork forks old p child parent c.requires.entries c.requires.parent_there c.requires.room
    node refl above_node (ap (λ k. k + 1) counted))
