use Rattle.std.proofs.Common.{◌≡◌, ◌++◌, map, drop}
use Rattle.tj_syntax.specs.Listing.{text_of, lines, names_of}
use Rattle.tj_syntax.specs.View as view
use Rattle.tj_syntax.proofs.list_stmt.+statement.Given as goal

-- the text so far and that of the statements to come are the whole block's
abbrev pub invariant-list_lines-loop-s : goal.invariant-list_lines-loop-s
invariant-list_lines-loop-s l =
    l.text.items
    ++ text_of (lines (names_of (map view.task l.at.tasks.now)) l.at.vars.now l.at.indent.now
    (view.statements_of (map view.statement (drop l.s-index l.stmts))))
    ≡ l.fn.text.items
    ++ text_of (lines (names_of (map view.task l.at.tasks.now)) l.at.vars.now l.at.indent.now
    (view.statements_of (map view.statement l.stmts)))
