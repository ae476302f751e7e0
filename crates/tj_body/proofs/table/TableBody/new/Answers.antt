use Rattle.tj_body.specs.Table.{body_at}
use Rattle.tj_body.proofs.Rows.{gives_rows}
use Rattle.tj_body.proofs.table.TableBody.new.Goals as goal

pub returns-clause-rows : goal.returns-clause-rows
returns-clause-rows c = λ list n answers.
    gives_rows (body_at (record { lists = c.args.rows; list = c.args.at; row = 0; places = 1 }) list n) answers 0 n
