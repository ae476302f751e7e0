use Rattle.std.proofs.Common.{◌≡◌, [], sym, rules, arith}
use Rattle.std.proofs.lemmas.List.{append-nil}
use Rattle.tj_syntax.specs.Trees as tree
use Rattle.tj_syntax.specs.View as view
use Rattle.tj_syntax.specs.declared.stmt.Stmt.{the_lemmas}
use Rattle.tj_eval.specs.Stands.{within}
use Rattle.tj_eval.proofs.Tables.{closed, inside_if, inside_if_alone, inside_while}
use Rattle.tj_eval.proofs.sizes.+count.Goals as goal

pub count-returns-in_ok-count_block-in-Some : goal.count-returns-in_ok-count_block-in-Some
count-returns-in_ok-count_block-in-Some t c = let w = c.in-If in
    let s = view.statement c.args.stmt.now in let d = view.block c.in-Some.other in
    let is : s ≡ tree.choose (view.expression w.field-0) (view.block w.body) (tree.block d) =
    search (rules, the_lemmas) in
    let i = inside_if (view.expression w.field-0) (view.block w.body) d s is in
    closed c.args.sizes.now.items c.push.new.self.items c.count_block.new.sizes.items
    c.count_block-in-Some.new.sizes.items c.close.new.sizes.items c.len-n.result c.len-end.result s
    (within (view.block w.body)) (within d) (omega (arith, c.len-n.ensures, c.args.sizes.now.ok.0))
    c.in_ok-push.ensures.items c.in_ok-count_block-in-If.ensures
    (omega (arith, c.len-end.ensures, c.count_block.new.sizes.ok.0)) c.in_ok-count_block-in-Some.ensures i.0 i.1
    c.close.ensures

pub count-returns-in-None : goal.count-returns-in-None
count-returns-in-None t c = let w = c.in-If in
    let s = view.statement c.args.stmt.now in
    let is : s ≡ tree.choose (view.expression w.field-0) (view.block w.body) tree.nothing =
    search (rules, the_lemmas) in
    let i = inside_if_alone (view.expression w.field-0) (view.block w.body) s is in
    let one = c.count_block.new.sizes.items in
    closed c.args.sizes.now.items c.push.new.self.items one one c.close-in-None.new.sizes.items c.len-n.result
    c.len-end.result s (within (view.block w.body)) [] (omega (arith, c.len-n.ensures, c.args.sizes.now.ok.0))
    c.in_ok-push.ensures.items c.in_ok-count_block-in-If.ensures
    (omega (arith, c.len-end.ensures, c.count_block.new.sizes.ok.0)) (sym (append-nil one)) i.0 i.1
    c.close-in-None.ensures

pub count-returns-in_ok-count_block-in-While : goal.count-returns-in_ok-count_block-in-While
count-returns-in_ok-count_block-in-While t c = let w = c.in-While in
    let s = view.statement c.args.stmt.now in
    let is : s ≡ tree.repeat (view.expression w.field-0) (view.block w.body) = search (rules, the_lemmas) in
    let i = inside_while (view.expression w.field-0) (view.block w.body) s is in
    let one = c.count_block-in-While.new.sizes.items in
    closed c.args.sizes.now.items c.push.new.self.items one one c.close-in-While.new.sizes.items c.len-n.result
    c.len-end-in-While.result s (within (view.block w.body)) [] (omega (arith, c.len-n.ensures, c.args.sizes.now.ok.0))
    c.in_ok-push.ensures.items c.in_ok-count_block-in-While.ensures
    (omega (arith, c.len-end-in-While.ensures, c.count_block-in-While.new.sizes.ok.0)) (sym (append-nil one)) i.0 i.1
    c.close-in-While.ensures
