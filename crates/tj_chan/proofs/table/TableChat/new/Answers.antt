use Rattle.tj_chan.specs.ChatTables.{chat_at}
use Rattle.tj_chan.proofs.ChatRows.{gives_chat_rows}
use Rattle.tj_chan.proofs.table.TableChat.new.Goals as goal

pub returns-clause-rows : goal.returns-clause-rows
returns-clause-rows c = λ list n answers.
    gives_chat_rows (chat_at (record { lists = c.args.rows; list = c.args.at; row = 0; channels = 0 }) list n)
    answers 0 n
