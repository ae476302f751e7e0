use Rattle.std.proofs.lemmas.Result.{on_ok_weaker}
use Rattle.tj_syntax.proofs.Listed.Texts.{chain_text, comparison_text}
use Rattle.tj_syntax.proofs.list_expr.+expression.Goals as goal

pub list_expression-returns-in_ok-list_operand-in-Chain :
    goal.list_expression-returns-in_ok-list_operand-in-Chain
list_expression-returns-in_ok-list_operand-in-Chain t c =
    on_ok_weaker c.list_pairs.result
    (chain_text _ _ _ _ _ _ _ _ _ _ _ c.in-Chain.is c.deref-in-Chain.ensures.value c.deref-in-Chain-2.ensures
    c.deref-in-Chain-3.ensures.value
    c.pairs_level.ensures c.in_ok-list_operand-in-Chain.ensures)
    c.list_pairs.ensures

pub list_expression-returns-in_ok-put_rel-in-Cmp :
    goal.list_expression-returns-in_ok-put_rel-in-Cmp
list_expression-returns-in_ok-put_rel-in-Cmp t c =
    on_ok_weaker c.list_operand-in-Cmp-2.result
    (comparison_text _ _ _ _ _ _ _ _ _ _ _ c.in-Cmp.is c.deref-in-Cmp.ensures c.deref-in-Cmp-2.ensures
    c.in_ok-list_operand-in-Cmp.ensures c.in_ok-put_rel-in-Cmp.ensures)
    c.list_operand-in-Cmp-2.ensures
