use Rattle.tj_eval.proofs.Tables.{numbered_there, read_first, read_room, read_size}
use Rattle.tj_eval.proofs.numbers.size_at.Goals as goal

pub bounds-own-n : goal.bounds-own-n
bounds-own-n c = numbered_there c.args.own.now c.args.n c.requires.0 c.requires.1

pub returns-clause-size : goal.returns-clause-size
returns-clause-size c = read_size c.args.own.now c.args.n c.requires.0 c.requires.1 _

pub returns-clause-room : goal.returns-clause-room
returns-clause-room c = read_room c.args.own.now c.args.n c.requires.0 c.requires.1 _

pub returns-clause-first : goal.returns-clause-first
returns-clause-first c = read_first c.args.own.now c.args.n c.requires.0 c.requires.1 _
