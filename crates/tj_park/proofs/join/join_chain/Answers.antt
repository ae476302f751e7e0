use Rattle.std.proofs.Common.{rules, ◌≡◌, ◌≢◌, ◌∙◌}
use Rattle.tj_park.proofs.Joining.{fewer, found_chains, found_shut_once, has_push, has_push_behind, joined}
use Rattle.tj_park.proofs.Joining.{joining_first, joining_next}
use Rattle.tj_words.specs.declared.head.Head.TheVariants as head
use Rattle.tj_park.proofs.ParkLogs.{joining_added, joining_failed, joining_loaded, joining_shut}
use Rattle.tj_park.proofs.join.join_chain.Goals as goal

pub loop-t-init : goal.loop-t-init
loop-t-init g c = record {
  seat = c.head-behind.ensures.seat;
  log = joining_loaded c.args.t.0 c.args.q.0 c.args.seat.now c.head-behind.result c.head-behind.new.seat
      c.head-behind.ensures.log;
  joins = joining_first c.args.laid.now.some c.head-behind.result c.args.seat.now.me.0 c.head-behind.new.seat.me.0
      c.requires.push.1 c.head-behind.ensures.shut c.head-behind.ensures.open;
}

pub put_next-requires-clause-push : goal.put_next-requires-clause-push
put_next-requires-clause-push g c κs within = has_push c.loop-t.invariant.joins

pub push-found-requires-clause-push : goal.push-found-requires-clause-push
push-found-requires-clause-push g c κs within = has_push_behind c.loop-t.invariant.joins c.put_next.ensures.view

pub returns-then-eq-clause-looks : goal.returns-then-eq-clause-looks
returns-then-eq-clause-looks g c =
    let opened : c.loop-t.behind ≢ head.Shut = search rules in
    let same : c.push-found.result ≡ c.loop-t.behind = search rules in
    (joined c.loop-t.invariant.joins c.put_next.ensures.view opened (c.push-found.ensures.pushed same)).0

pub returns-then-eq-clause-added : goal.returns-then-eq-clause-added
returns-then-eq-clause-added g c =
    let opened : c.loop-t.behind ≢ head.Shut = search rules in
    let same : c.push-found.result ≡ c.loop-t.behind = search rules in
    (joined c.loop-t.invariant.joins c.put_next.ensures.view opened (c.push-found.ensures.pushed same)).1

pub loop-t-smaller : goal.loop-t-smaller
loop-t-smaller g c =
    let opened : c.loop-t.behind ≢ head.Shut = search rules in
    let other : c.push-found.result ≢ c.loop-t.behind = search rules in
    fewer c.loop-t.invariant.joins c.put_next.ensures.view opened c.push-found.result c.push-found.new.seat.me.0 other
    c.push-found.ensures.shut c.push-found.ensures.other

pub loop-t-preserved : goal.loop-t-preserved
loop-t-preserved g c =
    let opened : c.loop-t.behind ≢ head.Shut = search rules in
    let other : c.push-found.result ≢ c.loop-t.behind = search rules in
    let a = c.loop-t.invariant.seat in
    let b = c.put_next.ensures.seat in
    let d = c.push-found.ensures.seat in
    record {
      seat = (d.0 ∙ (b.0 ∙ a.0), d.1 ∙ (b.1 ∙ a.1), d.2 ∙ (b.2 ∙ a.2));
      log = joining_failed c.args.t.0 c.args.q.0 c.args.seat.now c.loop-t.behind c.push-found.result c.loop-t.seat
          c.put_next.new.seat c.push-found.new.seat c.loop-t.invariant.log c.put_next.ensures.log
          c.push-found.ensures.log other;
      joins = joining_next c.loop-t.invariant.joins c.put_next.ensures.view opened c.push-found.result
          c.push-found.new.seat.me.0 other c.push-found.ensures.shut c.push-found.ensures.other;
    }

pub returns-then-eq-clause-pushes : goal.returns-then-eq-clause-pushes
returns-then-eq-clause-pushes g c =
    let opened : c.loop-t.behind ≢ head.Shut = search rules in
    let same : c.push-found.result ≡ c.loop-t.behind = search rules in
    (joined c.loop-t.invariant.joins c.put_next.ensures.view opened (c.push-found.ensures.pushed same)).3

pub returns-clause-pushes : goal.returns-clause-pushes
returns-clause-pushes g c = found_chains c.loop-t.invariant.joins

pub returns-then-eq-clause-closed : goal.returns-then-eq-clause-closed
returns-then-eq-clause-closed g c =
    let opened : c.loop-t.behind ≢ head.Shut = search rules in
    let same : c.push-found.result ≡ c.loop-t.behind = search rules in
    (joined c.loop-t.invariant.joins c.put_next.ensures.view opened (c.push-found.ensures.pushed same)).4

pub returns-clause-closed : goal.returns-clause-closed
returns-clause-closed g c =
    let shut : c.loop-t.behind ≡ head.Shut = search rules in
    found_shut_once c.loop-t.invariant.joins shut

pub returns-then-eq-clause-log : goal.returns-then-eq-clause-log
returns-then-eq-clause-log g c =
    let same : c.push-found.result ≡ c.loop-t.behind = search rules in
    joining_added c.args.t.0 c.args.q.0 c.args.seat.now c.loop-t.behind c.push-found.result c.loop-t.seat
    c.put_next.new.seat c.push-found.new.seat c.loop-t.invariant.log c.put_next.ensures.log
    c.push-found.ensures.log same

pub returns-clause-log : goal.returns-clause-log
returns-clause-log g c =
    let shut : c.loop-t.behind ≡ head.Shut = search rules in
    joining_shut c.args.t.0 c.args.q.0 c.args.seat.now c.loop-t.behind c.loop-t.seat c.loop-t.invariant.log shut
