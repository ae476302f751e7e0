use Rattle.tj_told.proofs.Climbing.{looks_itself, looks_on, observes_on}
use Rattle.tj_told.proofs.KeptNews.{seen_on}
use Rattle.tj_told.proofs.observer.look_at.Goals as goal

pub returns-then-has_met-clause-seat : goal.returns-then-has_met-clause-seat
returns-then-has_met-clause-seat g c = looks_itself c.args.seat.now

pub look_at_phase-requires-clause-seat : goal.look_at_phase-requires-clause-seat
look_at_phase-requires-clause-seat g c κs within = let l = c.load_tag-tag in
    observes_on c.args.laid.now c.args.seat.now l.new.seat c.requires.seat l.ensures.seat

pub look_at_broken-requires-clause-seat : goal.look_at_broken-requires-clause-seat
look_at_broken-requires-clause-seat g c κs within = let l = c.load_tag-tag in
    observes_on c.args.laid.now c.args.seat.now l.new.seat c.requires.seat l.ensures.seat

pub returns-then-tag-eq0-clause-seat : goal.returns-then-tag-eq0-clause-seat
returns-then-tag-eq0-clause-seat g c = let l = c.load_tag-tag in let p = c.look_at_phase in
    looks_on c.args.seat.now l.new.seat p.new.seat l.ensures.seat p.ensures.seat

pub returns-then-tag-eq4-clause-seat : goal.returns-then-tag-eq4-clause-seat
returns-then-tag-eq4-clause-seat g c = let l = c.load_tag-tag in let p = c.look_at_broken in
    looks_on c.args.seat.now l.new.seat p.new.seat l.ensures.seat p.ensures.seat

pub returns-then-tag-eq0-clause-seen : goal.returns-then-tag-eq0-clause-seen
returns-then-tag-eq0-clause-seen g c h = let l = c.load_tag-tag in let t = c.args.telling.now in
    c.look_at_phase.ensures.seen c.args.wanted.now (seen_on c.args.seat.now l.new.seat t.met.items t.news
    l.ensures.seat h)

pub returns-then-tag-eq4-clause-seen : goal.returns-then-tag-eq4-clause-seen
returns-then-tag-eq4-clause-seen g c h = let l = c.load_tag-tag in let t = c.args.telling.now in
    c.look_at_broken.ensures.seen c.args.wanted.now (seen_on c.args.seat.now l.new.seat t.met.items t.news
    l.ensures.seat h)

pub look_at_value-requires-clause-seat : goal.look_at_value-requires-clause-seat
look_at_value-requires-clause-seat g c κs within = let l = c.load_tag-tag in
    observes_on c.args.laid.now c.args.seat.now l.new.seat c.requires.seat l.ensures.seat

pub returns-clause-seat : goal.returns-clause-seat
returns-clause-seat g c = let l = c.load_tag-tag in let p = c.look_at_value in
    looks_on c.args.seat.now l.new.seat p.new.seat l.ensures.seat p.ensures.seat

pub returns-clause-seen : goal.returns-clause-seen
returns-clause-seen g c h = let l = c.load_tag-tag in let t = c.args.telling.now in
    c.look_at_value.ensures.seen (seen_on c.args.seat.now l.new.seat t.met.items t.news l.ensures.seat h)

pub returns-clause-goes : goal.returns-clause-goes
returns-clause-goes g c seen s h n = c.look_at_value.ensures.goes s h n

pub returns-clause-stops : goal.returns-clause-stops
returns-clause-stops g c seen s h n = c.look_at_value.ensures.stops s h n

pub returns-then-tag-eq0-clause-goes : goal.returns-then-tag-eq0-clause-goes
returns-then-tag-eq0-clause-goes g c seen s h n = c.look_at_phase.ensures.goes s h n

pub returns-then-tag-eq0-clause-stops : goal.returns-then-tag-eq0-clause-stops
returns-then-tag-eq0-clause-stops g c seen s h n = c.look_at_phase.ensures.stops s h n

pub returns-then-tag-eq4-clause-goes : goal.returns-then-tag-eq4-clause-goes
returns-then-tag-eq4-clause-goes g c seen s h n = let l = c.load_tag-tag in let t = c.args.telling.now in
    c.look_at_broken.ensures.goes c.args.wanted.now (seen_on c.args.seat.now l.new.seat t.met.items t.news
    l.ensures.seat seen) s h n

pub returns-then-tag-eq4-clause-stops : goal.returns-then-tag-eq4-clause-stops
returns-then-tag-eq4-clause-stops g c seen s h n = let l = c.load_tag-tag in let t = c.args.telling.now in
    c.look_at_broken.ensures.stops c.args.wanted.now (seen_on c.args.seat.now l.new.seat t.met.items t.news
    l.ensures.seat seen) s h n
