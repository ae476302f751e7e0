use Rattle.tj_body.specs.Programs.{program_of}
use Rattle.tj_told.proofs.Climbing.{grows_by}
use Rattle.tj_told.proofs.LoadedTags.{after_tag, tag_broken, tag_known}
use Rattle.tj_told.proofs.observer.load_tag.Goals as goal

pub returns-clause-seat : goal.returns-clause-seat
returns-clause-seat g c = let s = c.see_once in let b = g.B.Body in
    after_tag (program_of b.places b.awaits b.left b.asks b.then) c.args.laid.now.cells c.args.c.0 s.result
    c.args.seat.now s.new.seat s.ensures.seat s.ensures.sees (grows_by s.ensures.log.0)

pub returns-clause-broken : goal.returns-clause-broken
returns-clause-broken g c e = let s = c.see_once in let b = g.B.Body in
    tag_broken (program_of b.places b.awaits b.left b.asks b.then) c.args.laid.now.cells c.args.c.0 s.result
    c.args.seat.now.me.0 s.new.seat.me.0 s.ensures.sees e

pub returns-clause-known : goal.returns-clause-known
returns-clause-known g c e = let s = c.see_once in let b = g.B.Body in
    tag_known (program_of b.places b.awaits b.left b.asks b.then) c.args.laid.now.cells c.args.c.0 s.result
    c.args.seat.now.me.0 s.new.seat.me.0 s.ensures.sees e
