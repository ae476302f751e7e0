use Rattle.std.proofs.Common.{◌≤◌, length, refl, slice_get, ap, sym, ◌∙◌}
use Rattle.std.proofs.lemmas.Option.{slice_get_read}
use Rattle.tj_findings.proofs.TableRows.{no_statement, none_past, statement_there}
use Rattle.tj_findings.proofs.statements.statement_at.Goals as goal

pub returns-in_err-statement : goal.returns-in_err-statement
returns-in_err-statement c =
    let list = c.in_ok-statements.statements.now in
    let row = c.in_ok-statements.ensures.lookup in
    let table = c.args.scene.now.statements.now in
    let over : length c.deref.result.now ≤ c.args.at = c.in_err-statement.ensures.lookup.3 in
    no_statement table c.args.decl c.args.at list (slice_get_read table (length table) c.args.decl list refl row.3.0 row.1)
    c.from_residual-in_err-statement.result c.from_residual-in_err-statement.ensures
    (ap (λ l. slice_get l c.args.at) (sym c.deref.ensures.value) ∙ none_past c.deref.result.now c.args.at over)

pub returns : goal.returns
returns c =
    let list = c.in_ok-statements.statements.now in
    let row = c.in_ok-statements.ensures.lookup in
    let table = c.args.scene.now.statements.now in
    let items = c.deref.result.now in
    let found = c.in_ok-statement.ensures.lookup in
    statement_there table c.args.decl c.args.at list
    (slice_get_read table (length table) c.args.decl list refl row.3.0 row.1) c.in_ok-statement.statement.now
    (ap (λ l. slice_get l c.args.at) (sym c.deref.ensures.value)
    ∙ slice_get_read items (length items) c.args.at c.in_ok-statement.statement.now refl found.3.0 found.1)
