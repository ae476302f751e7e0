-- The cause is put into the first group to which it belongs, or begins one.
use Rattle.std.proofs.Common.{◌<◌, ◌≤◌, ap, arith, length, map, ◌∙◌}
use Rattle.tj_texts.proofs.GroupKeys.{number_is, numbered_at, numbered_behind}
use Rattle.tj_texts.proofs.PutGrouped.{grouped_at, grouped_behind}
use Rattle.tj_findings.specs.Forests.{Tree}
use Rattle.tj_texts.specs.Inner.GroupKeys.{found}
use Rattle.tj_texts.specs.Inner.GroupViews.{view}
use Rattle.tj_texts.proofs.groups.put_grouped.Goals as goal

pub returns-then-number-len-clause-put : goal.returns-then-number-len-clause-put
returns-then-number-len-clause-put c =
    let t : Tree = record { root = c.args.root.now; below = c.args.below.now } in
    let gs = c.args.groups.now.items in
    let key = c.in_ok-key.key in
    let n = c.number_of-number.result in
    let within = c.if-number-len.true in
    let less : n < length gs = omega arith in
    let place = number_is t.root gs (found c.args.numbers.now key) n c.len.result
    (c.requires.numbers t.root key c.in_ok-key.ensures) c.number_of-number.ensures (omega arith) in
    grouped_at t gs n c.index_mut.result.now c.put.new.self (place.0 less) less c.index_mut.ensures.value
    c.in_ok-put.ensures

pub returns-then-number-len-clause-numbers : goal.returns-then-number-len-clause-numbers
returns-then-number-len-clause-numbers c =
    let t : Tree = record { root = c.args.root.now; below = c.args.below.now } in
    let gs = c.args.groups.now.items in
    let m = c.args.numbers.now in
    let key = c.in_ok-key.key in
    let n = c.number_of-number.result in
    let within = c.if-number-len.true in
    let less : n < length gs = omega arith in
    let place = number_is t.root gs (found m key) n c.len.result
    (c.requires.numbers t.root key c.in_ok-key.ensures) c.number_of-number.ensures (omega arith) in
    numbered_at t gs n c.index_mut.result.now c.put.new.self m (place.0 less) less c.index_mut.ensures.value
    c.in_ok-put.ensures c.requires.numbers

pub returns-clause-put : goal.returns-clause-put
returns-clause-put c =
    let t : Tree = record { root = c.args.root.now; below = c.args.below.now } in
    let gs = c.args.groups.now.items in
    let key = c.in_ok-key.key in
    let n = c.number_of-number.result in
    let beyond = c.if-number-len.false in
    let past : length gs ≤ n = omega arith in
    let place = number_is t.root gs (found c.args.numbers.now key) n c.len.result
    (c.requires.numbers t.root key c.in_ok-key.ensures) c.number_of-number.ensures (omega arith) in
    let end = place.1 past in
    ap (map view) c.in_ok-push.ensures.items
    ∙ grouped_behind t gs c.in_ok-group.group end.1 c.in_ok-group.ensures

pub returns-clause-numbers : goal.returns-clause-numbers
returns-clause-numbers c =
    let t : Tree = record { root = c.args.root.now; below = c.args.below.now } in
    let gs = c.args.groups.now.items in
    let m = c.args.numbers.now in
    let key = c.in_ok-key.key in
    let n = c.number_of-number.result in
    let beyond = c.if-number-len.false in
    let past : length gs ≤ n = omega arith in
    let place = number_is t.root gs (found m key) n c.len.result
    (c.requires.numbers t.root key c.in_ok-key.ensures) c.number_of-number.ensures (omega arith) in
    let end = place.1 past in
    numbered_behind t gs c.push.new.self.items n c.in_ok-group.group m c.insert.new.self key c.in_ok-key.ensures
    end.0 end.1 c.in_ok-group.ensures c.in_ok-push.ensures.items (λ k. c.in_ok-insert.ensures.updates.0 k)
    c.requires.numbers
