-- Each line of a trace is that of a task's history, and each task has one.
use Rattle.tj_trace.proofs.LoggedRules.{rules}
use Rattle.tj_trace.proofs.Prelude.{AreTraced, Assignment, Bool, Ending, IsIn, List, Logged, None, Option}
use Rattle.tj_trace.proofs.Prelude.{PlacedState, Point, PointStage, Some, Task, TraceLine, ap, ending_of, given}
use Rattle.tj_trace.proofs.Prelude.{history, in_permuted, in_unpermuted, last_round, line_in, line_of, logged_program}
use Rattle.tj_trace.proofs.Prelude.{meaning, option_map, refl, subst, sym, tasks, to_map, ℕ, ◌∙◌, ◌≡◌}
use Rattle.tj_body.proofs.Lists.{in_map}
use Rattle.tj_body.proofs.Rounds.Families.{same_name}
use Rattle.tj_trace.proofs.Noted.{notes_at}
use Rattle.tj_body.specs.declared.point.PointStage.TheVariants as stage

-- no line is none
pub not_none : {A : Type 0} (x : A) → ◌≡◌ {A = Option A} None (Some x) → ⊥
not_none x e = cc

-- what is Some is one thing
pub some_is : {A : Type 0} (x y : A) → ◌≡◌ {A = Option A} (Some x) (Some y) → x ≡ y
some_is x y e = cc

-- the line of a task with this history and this end
abbrev pub ended_line : Point Logged → Ending → TraceLine
ended_line p e = line_in p
    (record { line = record { name = p.name; prints = p.prints; ending = e; owes = p.owed }; holds = p.holds })

-- a history with a line has ended so
pub line_is : (p : Point Logged) (l : TraceLine) → line_of p ≡ Some l
    → (e : Ending) × (ending_of p.stage ≡ Some e) × (ended_line p e ≡ l)
line_is p l = by (ending_of p.stage) where
  by : (o : Option Ending) → option_map (line_in p) (option_map
      (λ e. record { line = record { name = p.name; prints = p.prints; ending = e; owes = p.owed }; holds = p.holds })
      o) ≡ Some l → (e : Ending) × (o ≡ Some e) × (ended_line p e ≡ l)
  by None h = absurd (not_none l h)
  by (Some e) h = (e, refl, some_is (ended_line p e) l h)

-- the notes of a task that has stopped
pub notes_of_ended : (z : PointStage) (e : Ending) (x : Logged) → ending_of z ≡ Some e → notes_at z x ≡ x.makers
notes_of_ended (stage.Answered a) e x h = absurd (not_none e h)
notes_of_ended z e x h = refl

module _ (strict : Bool) (root : PlacedState) (N : ℕ) where
  abbrev pub V : Assignment
  V = given (logged_program strict root) (last_round N)

  abbrev all_tasks : List (Task Logged)
  all_tasks = tasks (logged_program strict root) (last_round N)

  -- the line is that of the task's history
  pub record HasLine (t : Task Logged) (l : TraceLine) : Type 0 where
    pub there : IsIn t all_tasks
    pub is : line_of (history (rules strict) V t) ≡ Some l

  -- what a line tells of its task
  pub line_name : (t : Task Logged) (l : TraceLine) → HasLine t l → l.line.name ≡ t.name
  line_name t l h = let k = line_is (history (rules strict) V t) l h.is in
      ap (λ (z : TraceLine). z.line.name) (sym k.2) ∙ same_name (rules strict) V t

  pub line_makers : (t : Task Logged) (l : TraceLine) → HasLine t l
      → l.makers ≡ notes_at (history (rules strict) V t).stage (history (rules strict) V t).body
  line_makers t l h = let p = history (rules strict) V t in let k = line_is p l h.is in
      ap (λ (z : TraceLine). z.makers) (sym k.2) ∙ sym (notes_of_ended p.stage k.0 p.body k.1)

  -- where the task stands
  pub line_stand : (t : Task Logged) (l : TraceLine) → HasLine t l
      → let z = (history (rules strict) V t).body.placed.stand in (l.decl ≡ z.decl) × (l.at ≡ z.at)
  line_stand t l h = let k = line_is (history (rules strict) V t) l h.is in
      (ap (λ (z : TraceLine). z.decl) (sym k.2), ap (λ (z : TraceLine). z.at) (sym k.2))

  module _ (lines : List TraceLine) (traced : AreTraced (logged_program strict root) N lines) where
    -- each line is that of a task's history
    pub of_line : (l : TraceLine) → IsIn l lines → (t : Task Logged) × HasLine t l
    of_line l i =
        let j = to_map (λ (z : TraceLine). Some z) l traced.told
        (in_permuted traced.told lines traced.same_lines l i) in
        let p = in_map line_of (Some l) traced.histories (subst (IsIn (Some l)) (sym traced.are_told) j) in
        let m = in_permuted (meaning (logged_program strict root) N) traced.histories traced.same_histories p.0 p.1 in
        let t = in_map (history (rules strict) V) p.0 all_tasks m in
        (t.0, record { there = t.1; is = ap line_of (sym t.2) ∙ sym p.2 })

    -- each task has a line
    pub to_line : (t : Task Logged) → IsIn t all_tasks → (l : TraceLine) × IsIn l lines × HasLine t l
    to_line t i =
        let h = history (rules strict) V t in
        let j = in_unpermuted (meaning (logged_program strict root) N) traced.histories traced.same_histories h
        (to_map (history (rules strict) V) t all_tasks i) in
        let l = in_map (λ (z : TraceLine). Some z) (line_of h) traced.told
        (subst (IsIn (line_of h)) traced.are_told (to_map line_of h traced.histories j)) in
        (l.0, in_unpermuted traced.told lines traced.same_lines l.0 l.1, record { there = i; is = l.2 })
