use Rattle.std.proofs.Common.{◌-◌, ◌≡◌, ◌⊎◌, ℕ, suc, inl, inr, List, arith}
use Rattle.std.proofs.lemmas.List.{nil_from_length}
use Rattle.tj_body.specs.Points.{IsIn}
use Rattle.tj_trace.proofs.FoundTasks.{all_from, all_made, none_pushed, pushes_one, some_left}
use Rattle.tj_trace.proofs.found.push_forked.Goals as goal
use Rattle.tj_trace.proofs.found.push_forked.Goals.{in-Some+in_default-pop, in_default}

pub loop-task-init : goal.loop-task-init
loop-task-init g c =
    none_pushed (c.args.depth - 1) c.args.makers.items c.args.children.items c.args.pending.now.items c.requires.as_many

pub loop-task-preserved : goal.loop-task-preserved
loop-task-preserved g c = pushes_one (c.args.depth - 1) c.args.makers.items c.loop-task.makers.items
    c.args.children.items c.loop-task.children.items c.args.pending.now.items c.loop-task.pending.items
    c.loop-task.invariant c.pop-in-Some.new.self.items c.pop.new.self.items c.in-Some-pop.maker c.in-Some.task
    c.in-Some-pop.ensures.items c.in-Some.ensures.items c.push.new.self.items c.in_ok-push.ensures.items

-- it is one less deep
deeper : {A P : Type 0} (k d : ℕ) → ¬ (d ≡ 0) → A ⊎ ((k ≡ d - 1) × P) → A ⊎ ((suc k ≡ d) × P)
deeper k d f (inl a) = inl a
deeper k d f (inr p) = let e = p.0 in inr (omega arith, p.1)

pub returns-clause-from : goal.returns-clause-from
returns-clause-from g c =
    let l = c.loop-task in
    let long = l.children.ok.0 in
    let many = l.makers.ok.0 in
    elim c.match-pop.branch [
      | in-Some+in_default-pop w ↦ let none = w.in_default-pop.ensures.cases.0 in
          absurd (some_left (c.args.depth - 1) c.args.makers.items l.makers.items c.args.children.items l.children.items
          c.args.pending.now.items l.pending.items l.invariant c.pop.new.self.items w.in-Some.task
          w.in-Some.ensures.items (omega arith))
      | in_default w ↦ let none = w.in_default.ensures.cases.0 in λ x i.
          deeper x.depth c.args.depth c.if-depth-eq0.false
          (all_from (c.args.depth - 1) c.args.makers.items l.makers.items c.args.children.items l.children.items
          c.args.pending.now.items l.pending.items l.invariant (nil_from_length l.children.items (omega arith)) x i)
    ]
