use Rattle.std.proofs.Common.{rules, ℕ, length, subst, sym, ap, ◌∙◌, arith, length-set, Option}
use Rattle.std.proofs.lemmas.List.Sums.{count_by-le-length}
use Rattle.tj_events.specs.Events.{is_owner}
use Rattle.tj_core.specs.Inner.Owners.{one_if, AreOwnersInside}
use Rattle.tj_core.proofs.Columns.OwnedCounts.{owner_there, inside-set, owned_count-set}
use Rattle.tj_core.proofs.owners.Owners.set.Goals as goal

pub count_down-requires-clause-owner : goal.count_down-requires-clause-owner
count_down-requires-clause-owner c u e =
    let s = c.args.self.now in
    let o = owner_there s.owners.items c.args.c c.index-was.result.now c.requires.cell (search rules) in
    let i = s.inside c.args.c u (o ∙ e) in let l = s.same in omega arith

pub count_up-requires-clause-owner : goal.count_up-requires-clause-owner
count_up-requires-clause-owner c u e =
    let l = c.count_down.ensures.length in let k = c.args.self.now.same in let i = c.requires.owner u e in omega arith

pub count_up-requires-clause-room : goal.count_up-requires-clause-room
count_up-requires-clause-room c t h =
    let s = c.args.self.now in let l = c.count_down.ensures.length in let k = s.same in
    let d = c.count_down.ensures.counts t (omega arith) in let n = s.counted t (omega arith) in
    let m = count_by-le-length (λ o. is_owner o t) s.owners.items in let b = s.small in omega arith

pub invariant_of-self : goal.invariant_of-self
invariant_of-self c =
    let s = c.args.self.now in let l = c.count_down.ensures.length in let k = c.count_up.ensures.length in
    let e = length-set s.owners.items c.args.c c.args.now in let q = s.same in let b = s.small in
    record {
      counted = λ t h.
          let o = owner_there s.owners.items c.args.c c.index-was.result.now c.requires.cell (search rules) in
          let d = c.count_down.ensures.counts t (omega arith) in let u = c.count_up.ensures.counts t (omega arith) in
          let n = s.counted t (omega arith) in let m = owned_count-set s.owners.items c.args.c c.args.now t
          c.requires.cell in
          let p = ap (λ (x : Option ℕ). one_if x t) o in omega arith;
      inside = subst (AreOwnersInside _) (sym e)
          (inside-set s.owners.items c.args.c c.args.now (length s.owners.items) c.requires.cell s.inside
          c.requires.owner);
      same = omega arith;
      small = omega arith;
    }
