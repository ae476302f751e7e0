use Rattle.std.proofs.Common.{List, ◌≡◌, ◌<◌, ◌≤◌, get_or, length, subst, inl}
use Rattle.tj_mean.specs.declared.outcome.Link.{Link}
use Rattle.tj_told.proofs.Hearings.{all_so_far, in_take, item_in, on_no_stop, only_so_far}
use Rattle.tj_told.proofs.settling.tell_rest.Goals as goal

pub loop-cycle-init : goal.loop-cycle-init
loop-cycle-init g c = record {
  only = λ d i. inl i;
  all = λ d i. absurd i;
  hears = λ s h. h;
}

pub loop-cycle-preserved : goal.loop-cycle-preserved
loop-cycle-preserved g c =
    let cs = c.args.cycles.now in let l = c.loop-cycle in let i = l.invariant in let x = c.cycle-item.result in
    let e = c.items-cycle-items.ensures in
    let later = subst (λ (z : List (List Link)). l.cycle-index < length z) e c.loop-cycle-test.true in
    let is = subst (λ (z : List (List Link)). x ≡ get_or z l.cycle-index x) e c.cycle-item.is in
    let t = c.in_ok-tell_new in record {
      only = only_so_far c.args.telling.now.news l.telling.news c.tell_new.new.self.news cs x
          (item_in cs l.cycle-index x later is) c.tell_new.ensures.only i.only;
      all = all_so_far cs l.telling.news c.tell_new.new.self.news l.cycle-index x later is t.ensures.adds i.all;
      hears = λ s h. c.tell_new.ensures.goes s (i.hears s h) (on_no_stop c.tell_new.result t.field-0 t.was c.in-On.is);
    }

pub returns-clause-all : goal.returns-clause-all
returns-clause-all g c d i = let l = c.loop-cycle in let cs = c.args.cycles.now in
    l.invariant.all d (in_take cs l.cycle-index d
    (subst (λ (z : List (List Link)). length z ≤ l.cycle-index) c.items-cycle-items.ensures
    c.loop-cycle-test.false) i)

pub returns-in_err-tell_new-clause-only : goal.returns-in_err-tell_new-clause-only
returns-in_err-tell_new-clause-only g c d i =
    let cs = c.args.cycles.now in let l = c.loop-cycle in let x = c.cycle-item.result in
    let e = c.items-cycle-items.ensures in
    let later = subst (λ (z : List (List Link)). l.cycle-index < length z) e c.loop-cycle-test.true in
    let is = subst (λ (z : List (List Link)). x ≡ get_or z l.cycle-index x) e c.cycle-item.is in
    only_so_far c.args.telling.now.news l.telling.news c.tell_new.new.self.news cs x
    (item_in cs l.cycle-index x later is) c.tell_new.ensures.only l.invariant.only d i

pub returns-in-Stop-clause-only : goal.returns-in-Stop-clause-only
returns-in-Stop-clause-only g c d i =
    let cs = c.args.cycles.now in let l = c.loop-cycle in let x = c.cycle-item.result in
    let e = c.items-cycle-items.ensures in
    let later = subst (λ (z : List (List Link)). l.cycle-index < length z) e c.loop-cycle-test.true in
    let is = subst (λ (z : List (List Link)). x ≡ get_or z l.cycle-index x) e c.cycle-item.is in
    only_so_far c.args.telling.now.news l.telling.news c.tell_new.new.self.news cs x
    (item_in cs l.cycle-index x later is) c.tell_new.ensures.only l.invariant.only d i
