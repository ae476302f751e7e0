-- The text of each statement, put together from its parts.
use Rattle.std.proofs.lemmas.Result.{on_ok_weaker}
use Rattle.tj_syntax.proofs.Listed.StatementTexts.{print_text, return_text, set_text, choose_text, repeat_text}
use Rattle.tj_syntax.proofs.list_stmt.+statement.Goals as goal

pub list_statement-returns-in-Print : goal.list_statement-returns-in-Print
list_statement-returns-in-Print t c =
    on_ok_weaker c.list_between.result (print_text _ _ _ _ _ _ _ c.in-Print.is)
    c.list_between.ensures

pub list_statement-returns-in-Return : goal.list_statement-returns-in-Return
list_statement-returns-in-Return t c =
    on_ok_weaker c.list_between-in-Return.result (return_text _ _ _ _ _ _ _ c.in-Return.is)
    c.list_between-in-Return.ensures

pub list_statement-returns-in_ok-put_name-in-Set : goal.list_statement-returns-in_ok-put_name-in-Set
list_statement-returns-in_ok-put_name-in-Set t c =
    on_ok_weaker c.list_between-in-Set.result
    (set_text _ _ _ _ _ _ _ _ _ _ c.in-Set.is c.in_ok-put-in-Set.ensures c.in_ok-put_name-in-Set.ensures)
    c.list_between-in-Set.ensures

pub list_statement-returns-in_ok-list_block-in-If : goal.list_statement-returns-in_ok-list_block-in-If
list_statement-returns-in_ok-list_block-in-If t c =
    on_ok_weaker c.list_else.result
    (choose_text _ _ _ _ _ _ _ _ _ _ _ c.in-If.is c.in_ok-list_between-in-If.ensures
    c.in_ok-list_block-in-If.ensures)
    c.list_else.ensures

pub list_statement-returns-in_ok-list_between-in-While : goal.list_statement-returns-in_ok-list_between-in-While
list_statement-returns-in_ok-list_between-in-While t c =
    on_ok_weaker c.list_block-in-While.result
    (repeat_text _ _ _ _ _ _ _ _ _ c.in-While.is c.in_ok-list_between-in-While.ensures)
    c.list_block-in-While.ensures
