use Rattle.std.proofs.Common.{rules as all_rules, ℕ, ◌≡◌, ◌++◌, suc, false, sym, ap, subst, ◌∙◌}
use Rattle.tj_body.specs.History.{Assignment, after_step, point_after, history}
use Rattle.tj_body.specs.declared.point.Task.{Task}
use Rattle.tj_body.specs.declared.point.Point.{Point}
use Rattle.tj_body.specs.Programs.{Rules, AreLawful, rules_of}
use Rattle.tj_body.proofs.Histories.Good.{good}
use Rattle.tj_body.specs.Points.{IsProper, IsGood}
use Rattle.tj_mean.specs.Acts.{acts_within, step_acts, line_of}
use Rattle.tj_mean.specs.declared.act.ActLine.{ActLine}
use Rattle.tj_mean.specs.Inner.Assignments.{assignment_in}
use Rattle.tj_mean.proofs.NotedActs.SeenActs.{line_at_halt}
use Rattle.tj_mean.proofs.act_steps.line_of.Given.{Over}
use Rattle.tj_mean.proofs.act_steps.line_of.Goals as goal
use Rattle.tj_mean.proofs.act_steps.line_of.Goals.{After-parts_of}

-- the rules of the bodies, without the strict one
abbrev rules : (g : Over) → Rules g.row.B.Denot
rules g = let b = g.B.Body in rules_of b.places b.awaits b.left b.asks b.then false

-- the bodies keep the laws
lawful : (g : Over) → AreLawful (rules g)
lawful g = (g.met.B.Body g.world.𝓛 g.world.𝓜 g.world.𝓡 ((λ s x. x), (λ x. x), (λ x. x), λ x. x)).obeys

pub loop-p-init : goal.loop-p-init
loop-p-init g c = (0, c.in_ok-p.ensures, c.of-acts.ensures ∙ c.new.ensures.items)

-- each point of the task is a good one
good_at : (g : Over) (V : Assignment) (t : Task g.row.B.Denot) → IsProper (rules g) t → (p : Point g.row.B.Denot)
    → (k : ℕ) × (p ≡ point_after (rules g) V k t) → IsGood (rules g) p
good_at g V t proper p at = subst (IsGood (rules g)) (sym at.1) (good (rules g) (lawful g) V t proper at.0)

pub advance_noting-requires-clause-good : goal.advance_noting-requires-clause-good
advance_noting-requires-clause-good g c κs within = let i = c.loop-p.invariant in
    good_at g (assignment_in c.args.given.now) c.args.task c.requires.proper c.loop-p.p (i.0, i.1)

pub loop-p-preserved : goal.loop-p-preserved
loop-p-preserved g c =
    let i = c.loop-p.invariant in let V = assignment_in c.args.given.now in let rs = rules g in
    let e = c.in-Ok-true.ensures in (
      suc i.0,
      e.step ∙ ap (after_step rs V) i.1,
      e.acts ∙ ap (λ l. l ++ step_acts rs V c.loop-p.p) i.2
          ∙ ap (λ p. acts_within rs V i.0 c.args.task ++ step_acts rs V p) i.1,
    )

-- at the halt stands the task's line, with its children
halted : (g : Over) (c : After-parts_of g) → let V = assignment_in c.args.given.now in
    let l : ActLine = record { name = c.advance_noting.new.p.name; acts = c.advance_noting.new.acts } in
    (l ≡ line_of (rules g) V c.args.task)
    × (c.advance_noting.new.p.children ≡ (history (rules g) V c.args.task).children)
halted g c = let i = c.loop-p.invariant in let e = c.in-Ok-false.ensures in
    line_at_halt (rules g) (assignment_in c.args.given.now) c.args.task (lawful g) c.requires.proper i.0 c.loop-p.p
    c.advance_noting.new.p c.loop-p.acts c.advance_noting.new.acts i.1 i.2 e.step e.acts (e.stays (search all_rules))

pub returns-in-Ok-false-clause-line : goal.returns-in-Ok-false-clause-line
returns-in-Ok-false-clause-line g c = c.parts_of.ensures.line ∙ (halted g c).0

pub returns-in-Ok-false-clause-children : goal.returns-in-Ok-false-clause-children
returns-in-Ok-false-clause-children g c = c.parts_of.ensures.children ∙ (halted g c).1
