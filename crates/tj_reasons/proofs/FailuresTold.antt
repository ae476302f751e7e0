-- Where a task failed by `arith` or `kind`, the statement at which it stands has a reason that tells of this.
use Rattle.std.proofs.Common.{◌≡◌, ℕ, zero, suc, ◌+◌, pos, Bool, true, false, not, ◌&&◌, cond, List, [], ◌∷◌, ◌++◌}
use Rattle.std.proofs.Common.{map, length, refl, ap, sym, ◌∙◌, subst, inl, inr, ◌⊎◌, nat_eq, if◌then◌else◌, ◌*◌}
use Rattle.std.specs.Prelude.{Option, Some, None, Result, Ok, Err, slice_get}
use Rattle.std.specs.Option.{option_or}
use Rattle.tj_base.specs.ForkOrder.{Name, before}
use Rattle.tj_base.specs.declared.cell.Sort.{Sort}
use Rattle.tj_base.specs.declared.cell.Sort.TheVariants as sort
use Rattle.tj_base.specs.declared.cause.Cause.{Cause}
use Rattle.tj_base.specs.declared.cause.Cause.TheVariants as cause
use Rattle.tj_base.specs.declared.cause.Trouble.{Trouble}
use Rattle.tj_base.specs.declared.cause.Trouble.TheVariants as trouble
use Rattle.tj_base.specs.declared.value.Pay.{Pay}
use Rattle.tj_base.specs.declared.value.Pay.TheVariants as pay
use Rattle.tj_body.specs.Asks.{new_places}
use Rattle.tj_body.specs.History.{Assignment, after_ask, after_failure, after_get, after_join, after_look, after_read}
use Rattle.tj_body.specs.History.{after_set, after_stage, after_try_fork, after_write, cause_of, hand_all, hand_one}
use Rattle.tj_body.specs.History.{history, point_after, reference, reference_at, value_at, with_wait}
use Rattle.tj_body.specs.Inner.AskSteps.{IsAskStep, fails as fails_by, ends, makes, forks, sets, gets, joins, prints}
use Rattle.tj_body.specs.KeptFacts.{HoldsOfFork}
use Rattle.tj_body.specs.Names.{has, without}
use Rattle.tj_body.specs.Points.{IsIn}
use Rattle.tj_body.specs.Programs.{Rules}
use Rattle.tj_body.specs.Rounds.{given, tasks}
use Rattle.tj_body.specs.SeenAs.{ask_as}
use Rattle.tj_body.specs.declared.ask.Answer.{Answer}
use Rattle.tj_body.specs.declared.ask.Answer.TheVariants as answer
use Rattle.tj_body.specs.declared.ask.Ask.{Ask}
use Rattle.tj_body.specs.declared.ask.Ask.TheVariants as ask
use Rattle.tj_body.specs.declared.point.Close.TheVariants as close
use Rattle.tj_body.specs.declared.point.Entry.{Entry}
use Rattle.tj_body.specs.declared.point.Entry.TheVariants as entry
use Rattle.tj_body.specs.declared.point.Point.{Point}
use Rattle.tj_body.specs.declared.point.PointStage.{PointStage}
use Rattle.tj_body.specs.declared.point.PointStage.TheVariants as stage
use Rattle.tj_body.specs.declared.point.Reference.{Reference}
use Rattle.tj_body.specs.declared.point.Task.{Task}
use Rattle.tj_body.specs.declared.point.Value.{Value}
use Rattle.tj_body.specs.declared.point.Value.TheVariants as values
use Rattle.tj_body.proofs.Histories.AskSteps.{is_ask_step}
use Rattle.tj_body.proofs.KeptFacts.{holds_in_rounds}
use Rattle.tj_syntax.specs.Parts.{own_ask}
use Rattle.tj_syntax.specs.declared.expr.RefOf.{RefOf}
use Rattle.tj_syntax.specs.declared.expr.RefOf.TheVariants as ref
use Rattle.tj_syntax.specs.Trees as tree
use Rattle.tj_syntax.specs.Trees.{Argument, Expression, Given, Statement}
use Rattle.tj_eval.specs.Expressions as meaning
use Rattle.tj_eval.specs.Expressions.{Computed}
use Rattle.tj_eval.specs.Stands.{AreNamed, IsAt, PlacedState, Stand, StandsRight, placed, placed_asks, placed_then}
use Rattle.tj_eval.specs.Stands.{stand_after, stand_ask, stand_begun, stand_from, stand_of, within}
use Rattle.tj_eval.specs.Statements.{Due, Effect, Next, TaskState, answered, arguments, argument}
use Rattle.tj_eval.specs.Statements.{asked, asks, begun, cell, cell_due, cell_or, done, failed, fails, fork_of, forked}
use Rattle.tj_eval.specs.Statements.{given as given_to, goes_on, handed, next_after, next_ask, next_from, next_of}
use Rattle.tj_eval.specs.Statements.{and_more, number, or_else_of, over, place, reference as reference_in, reference_of}
use Rattle.tj_eval.specs.Statements.{references, start, task_of, then_effect, value_in}
use Rattle.tj_eval.proofs.AskedAt.{at_begun}
use Rattle.tj_eval.proofs.Stands.{ChildOf, IsRightEffect, IsSameRest, rest_answered, right_after, right_begun}
use Rattle.tj_eval.proofs.Stands.{stays_right}
use Rattle.tj_reasons.specs.FailureLaws.{FailuresHaveReasons, ForksAreDeclared, HasReason, HasReasonFor, HasReasonIn}
use Rattle.tj_reasons.specs.FailureLaws.{StandsAtStatement, held_at, placed_program}
use Rattle.tj_reasons.specs.ReasonLaws.{IsDeclared, IsToldOf, TellsOf}
use Rattle.tj_reasons.specs.Reasons.{ask_failed, failed_at, held_in, is_sort, no_arguments, no_cell, no_other}
use Rattle.tj_reasons.specs.Reasons.{no_promises, no_reference, no_value, not_awaited, other_sort, wanted_of}
use Rattle.tj_reasons.specs.declared.reason.Met.{Met}
use Rattle.tj_reasons.specs.declared.reason.Met.TheVariants as met
use Rattle.tj_reasons.specs.declared.reason.Reason.{Reason}
use Rattle.tj_reasons.specs.declared.reason.Reason.TheVariants as reason
use Rattle.tj_reasons.specs.declared.reason.Wanted.TheVariants as wanted
use Rattle.tj_reasons.proofs.ReasonsAgree.{told_of}
use Rattle.tj_reasons.proofs.ReasonsBegun.{argument_told, held_map, statement_told}

-- References begin with the task itself.
abbrev SelfFirst : List Reference → Type 0
SelfFirst [] = ⊥
SelfFirst (r ∷ more) = r.sort ≡ sort.Task

self_kept : (rs ys : List Reference) → SelfFirst rs → SelfFirst (rs ++ ys)
self_kept [] ys h = absurd h
self_kept (r ∷ more) ys h = h

self_is : (x : Name) (rs : List Reference) → SelfFirst rs → (reference_at x rs 0).sort ≡ sort.Task
self_is x [] h = absurd h
self_is x (r ∷ more) h = h

-- Values.
abbrev number_in : Result ℕ Trouble → ℕ
number_in (Ok n) = n
number_in (Err fault) = 0

place_is : (a b : ℕ) → ◌≡◌ {A = Result ℕ Trouble} (Ok a) (Ok b) → a ≡ b
place_is a b e = ap number_in e

-- what is a reference
refers : (v : Pay) (k : ℕ) → reference_in (Ok v) ≡ Ok k → v ≡ pay.Ref k
refers (pay.Num n) k e = absurd (cc)
refers (pay.Ref j) k e = ap pay.Ref (place_is j k e)

-- a cell of one sort where another is wanted
unlike : (w z : Sort) (m : Met) (a o : Option Reason) → a ≡ cond (is_sort w z) None (Some (reason.Met m (wanted_of w)))
    → is_sort w z ≡ false → TellsOf trouble.Kind (option_or a o)
unlike w z m a o e is = subst (λ b. TellsOf trouble.Kind (option_or b o))
    (sym (e ∙ ap (λ b. cond b None (Some (reason.Met m (wanted_of w)))) is)) refl

alike : (w z : Sort) (m : Met) (a o : Option Reason) → a ≡ cond (is_sort w z) None (Some (reason.Met m (wanted_of w)))
    → is_sort w z ≡ true → option_or a o ≡ o
alike w z m a o e is = ap (λ b. option_or b o) (e ∙ ap (λ b. cond b None (Some (reason.Met m (wanted_of w)))) is)

-- a promise is wanted of what is set
unset : (y : ℕ) (v : Value) (r : Reference) (a : Option Reason) → v ≡ values.Ref r → r.sort ≡ sort.Task → a ≡ None
    → TellsOf trouble.Kind (option_or (no_reference sort.Promise y v) (option_or a (other_sort sort.Promise y v)))
unset y v r a is task none =
    subst (λ w. TellsOf trouble.Kind (option_or (no_reference sort.Promise y w)
    (option_or a (other_sort sort.Promise y w))))
    (sym is)
    (subst (λ b. TellsOf trouble.Kind (option_or b
    (cond (is_sort sort.Promise r.sort) None (Some (reason.Met (met.Variable y) wanted.Promise))))) (sym none)
    (subst (λ z. TellsOf trouble.Kind (cond (is_sort sort.Promise z) None
    (Some (reason.Met (met.Variable y) wanted.Promise)))) (sym task) refl))

-- what a fork that is refused is told to have met
abbrev HandTold : Option Reason → Result (List Name) Cause → Type 0
HandTold r (Ok left) = Unit {0}
HandTold r (Err cause.Arith) = ⊥
HandTold r (Err cause.Kind) = TellsOf trouble.Kind r
HandTold r (Err cause.Steps) = Unit {0}
HandTold r (Err (cause.Owner q)) = Unit {0}
HandTold r (Err (cause.Broken q)) = Unit {0}
HandTold r (Err (cause.Order q)) = Unit {0}

one_hand : (z : Sort) (b : Bool) (q : Name) (rest : Result (List Name) Cause) (y : ℕ) (o : Option Reason)
    → HandTold o rest
    → HandTold (option_or (cond (is_sort sort.Promise z) None (Some (reason.Met (met.Variable y) wanted.Promise))) o)
    (hand_one z b q rest)
one_hand sort.Task b q rest y o h = refl
one_hand sort.Promise true q rest y o h = h
one_hand sort.Promise false q rest y o h = tt

-- no reason where all was computed
none_of : (c : Computed) (r : Result (List Pay) Trouble) (a b : Option Reason) (vs : List Pay) → IsToldOf c a
    → ((ws : List Pay) → r ≡ Ok ws → b ≡ None) → and_more c r ≡ Ok vs → option_or a b ≡ None
none_of (Ok v) (Ok ws) a b vs h more e = ap (λ z. option_or z b) h ∙ more ws refl
none_of (Ok v) (Err t) a b vs h more e = absurd (cc)
none_of (Err t) r a b vs h more e = absurd (cc)

module _ (x : Name) (rs : List Reference) (vars : List Pay) where
  abbrev told : List Value
  told = map (value_at x rs) vars

  hand_by : (y : ℕ) (v : Pay) (more : List Pay) (o : Option Reason)
      → ((holds : List Name) → HandTold o (hand_all holds (map (reference_at x rs) (references more))))
      → (holds : List Name) → HandTold (option_or (other_sort sort.Promise y (value_at x rs v)) o)
      (hand_all holds (map (reference_at x rs) (references (v ∷ more))))
  hand_by y (pay.Num n) more o h holds = h holds
  hand_by y (pay.Ref k) more o h holds = let r = reference_at x rs k in
      one_hand r.sort (has r.name holds) r.name
      (hand_all (without r.name holds) (map (reference_at x rs) (references more))) y o (h (without r.name holds))

  -- a fork that is refused has a reason where it hands what is no promise
  hand_told : (list : List Argument) (holds : List Name)
      → HandTold (no_promises told list) (hand_all holds (map (reference_at x rs) (references (handed vars list))))
  hand_told [] holds = tt
  hand_told (tree.own y ∷ more) holds =
      subst (λ v. HandTold (option_or (other_sort sort.Promise y v) (no_promises told more))
      (hand_all holds (map (reference_at x rs) (references (handed vars (tree.own y ∷ more))))))
      (sym (held_map x rs vars vars y))
      (hand_by y (meaning.held vars y) (handed vars more) (no_promises told more) (hand_told more) holds)
  hand_told (tree.value e ∷ more) holds = hand_told more holds

  -- arguments that have values have no reason
  no_reason : (list : List Argument) (vs : List Pay) → arguments vars list ≡ Ok vs → no_arguments told list ≡ None
  no_reason [] vs e = refl
  no_reason (a ∷ more) vs e = none_of (argument vars a) (arguments vars more) _ _ vs (argument_told x rs vars a)
      (no_reason more) e

  -- what is waited for: another cell than is wanted, or none
  awaited : (on : TaskState) → on.vars ≡ vars → (w : Sort) (r : RefOf) (k : ℕ) → SelfFirst rs → reference_of on r ≡ Ok k
      → (m : Met) × (not_awaited w told r
      ≡ cond (is_sort w (reference_at x rs k).sort) None (Some (reason.Met m (wanted_of w))))
  awaited on same w (ref.Var y) k first e =
      let is = refers (meaning.held vars y) k (ap (λ v. reference_in (Ok (meaning.held v y))) (sym same) ∙ e) in
      (met.Variable y, ap (no_cell w y) (held_map x rs vars vars y ∙ ap (value_at x rs) is))
  awaited on same w ref.Me k first e =
      let is : (reference_at x rs k).sort ≡ sort.Task =
      subst (λ j. (reference_at x rs j).sort ≡ sort.Task) (place_is 0 k e) (self_is x rs first) in
      (met.Itself, ap (λ z. cond (is_sort w z) None (Some (reason.Met met.Itself (wanted_of w)))) (sym is))

module _ (script : List tree.Task) where
  -- a task that waits so stands at a statement whose reason, where the cell is broken, is that of what stands behind
  -- `or`
  abbrev OtherTold : Due → PlacedState → List Value → Type 0
  OtherTold start x held = Unit {0}
  OtherTold (place into) x held = Unit {0}
  OtherTold (cell into) x held = Unit {0}
  OtherTold (cell_or into e) x held =
      (s : Statement) × StandsAtStatement script x s × (failed_at held s ≡ no_value held e)
  OtherTold done x held = Unit {0}
  OtherTold over x held = Unit {0}

  -- what is so of a task in this stage
  abbrev StageTold : PointStage → Point PlacedState → Type 0
  StageTold (stage.Answered answer.Start) p = Unit {0}
  StageTold (stage.Answered (answer.Local k)) p = Unit {0}
  StageTold (stage.Answered answer.Done) p = Unit {0}
  StageTold (stage.Answered (answer.Num n)) p = Unit {0}
  StageTold (stage.Answered (answer.RefAt k)) p = Unit {0}
  StageTold (stage.Answered answer.Lost) p = OtherTold p.body.task.due p.body (held_at p)
  StageTold (stage.Waits q spare) p = OtherTold p.body.task.due p.body (held_at p)
  StageTold (stage.Closed (close.Done v)) p = Unit {0}
  StageTold (stage.Closed (close.Failed c)) p = HasReasonFor script p.body (held_at p) c

  abbrev IsTold : Point PlacedState → Type 0
  IsTold p = StageTold p.stage p

  abbrev Reasoned : Point PlacedState → Trouble → Type 0
  Reasoned p = HasReason script p.body (held_at p)

  abbrev Spare : Point PlacedState → Type 0
  Spare p = OtherTold p.body.task.due p.body (held_at p)

  -- What becomes of what is asked.
  was_set : (z : Sort) (q : Name) (v : Value) (p : Point PlacedState) → (z ≡ sort.Task → Reasoned p trouble.Kind)
      → IsTold (after_set z q v p)
  was_set sort.Task q v p h = h refl
  was_set sort.Promise q v p h = by (has q p.holds) where
    by : (b : Bool) → IsTold (cond b (after_write q v p) (after_failure (cause.Owner q) p))
    by true = tt
    by false = tt

  was_got : (spare : Bool) (z : Sort) (q : Name) (p : Point PlacedState) → (z ≡ sort.Task → Reasoned p trouble.Kind)
      → (z ≡ sort.Promise → Spare p) → IsTold (after_get spare z q p)
  was_got spare sort.Task q p h k = h refl
  was_got spare sort.Promise q p h k = k refl

  was_joined : (strict spare : Bool) (z : Sort) (q : Name) (p : Point PlacedState)
      → (z ≡ sort.Promise → Reasoned p trouble.Kind) → (z ≡ sort.Task → Spare p)
      → IsTold (after_join strict spare z q p)
  was_joined strict spare sort.Promise q p h k = h refl
  was_joined strict spare sort.Task q p h k = by (strict && not (before p.name q)) (k refl) where
    by : (b : Bool) → Spare p → IsTold (cond b (after_failure (cause.Order q) p) (with_wait spare q p))
    by true s = tt
    by false s = s

  was_forked : (b : PlacedState) (passed : List Reference) (handed : List Name) (o : Result (List Name) Cause)
      (p : Point PlacedState) → ((c : Cause) → o ≡ Err c → HasReasonFor script p.body (held_at p) c)
      → IsTold (after_try_fork b passed handed o p)
  was_forked b passed handed (Ok left) p h = tt
  was_forked b passed handed (Err c) p h = h c refl

  was_read : (spare : Bool) (q : Name) (e : Entry) (p : Point PlacedState) → Spare p
      → IsTold (after_read spare q e p)
  was_read true q entry.Broken p h = h
  was_read false q entry.Broken p h = tt
  was_read spare q (entry.Value (values.Num i)) p h = tt
  was_read spare q (entry.Value (values.Ref r)) p h = tt

  looked : (spare : Bool) (q : Name) (o : Option Entry) (p : Point PlacedState) → p.stage ≡ stage.Waits q spare
      → IsTold p → IsTold (after_look spare q o p)
  looked spare q None p e h = h
  looked spare q (Some y) p e h = was_read spare q y p (subst (λ st. StageTold st p) e h)

  -- a refused fork
  for_cause : (x : PlacedState) (held : List Value) (r : Option Reason) (c : Cause) → HandTold r (Err c)
      → (TellsOf trouble.Kind r → HasReason script x held trouble.Kind) → HasReasonFor script x held c
  for_cause x held r cause.Arith h k = absurd h
  for_cause x held r cause.Kind h k = k h
  for_cause x held r cause.Steps h k = tt
  for_cause x held r (cause.Owner q) h k = tt
  for_cause x held r (cause.Broken q) h k = tt
  for_cause x held r (cause.Order q) h k = tt

  spare_of : (into : Option ℕ) (other : Option Expression) (x : PlacedState) (held : List Value) (s : Statement)
      → StandsAtStatement script x s → failed_at held s ≡ no_other held other → OtherTold (cell_due into other) x held
  spare_of into None x held s at e = tt
  spare_of into (Some o) x held s at e = (s, at, e)

  module _ (strict : Bool) (s : Statement) where
    -- what is asked as the statement begins, has a reason where it is refused
    abbrev IsRight : Effect → Type 0
    IsRight (goes_on new) = Unit {0}
    IsRight (asks q new) = (p : Point PlacedState) (g : ℕ) → p.body.task ≡ new → StandsAtStatement script p.body s
        → SelfFirst p.references → IsTold (after_ask strict (ask_as (placed g) q) p)
    IsRight (fails fault) = Unit {0}

    right_then : {A : Type 0} (c : Result A Trouble) (go : A → Effect) → ((x : A) → c ≡ Ok x → IsRight (go x))
        → IsRight (then_effect c go)
    right_then (Ok x) go h = h x refl
    right_then (Err fault) go h = tt

    right_if : (b : Bool) (e f : Effect) → IsRight e → IsRight f → IsRight (if b then e else f)
    right_if true e f h k = h
    right_if false e f h k = k

    module _ (on : TaskState) where
      abbrev seen : Point PlacedState → List Value
      seen p = map (value_at p.name p.references) on.vars

      held_seen : (p : Point PlacedState) → p.body.task.vars ≡ on.vars → held_at p ≡ seen p
      held_seen p e = ap (map (value_at p.name p.references)) e

      module _ (into : Option ℕ) (q : tree.Ask) (is : (h : List Value) → failed_at h s ≡ ask_failed h q) where
        -- a wait
        module _ (w : Sort) (r : RefOf) (other : Option Expression) (k : ℕ) (e : reference_of on r ≡ Ok k)
            (this : (h : List Value) → ask_failed h q ≡ option_or (not_awaited w h r) (no_other h other))
            (p : Point PlacedState) (vars : p.body.task.vars ≡ on.vars) (due : p.body.task.due ≡ cell_due into other)
            (at : StandsAtStatement script p.body s) (first : SelfFirst p.references) where
          met_there : (m : Met) × (not_awaited w (held_at p) r
              ≡ cond (is_sort w (reference p k).sort) None (Some (reason.Met m (wanted_of w))))
          met_there = let a = awaited p.name p.references on.vars on refl w r k first e in
              (a.0, ap (λ h. not_awaited w h r) (held_seen p vars) ∙ a.1)

          waits_for_other : is_sort w (reference p k).sort ≡ false → Reasoned p trouble.Kind
          waits_for_other off = (
            s,
            at,
            subst (TellsOf trouble.Kind) (sym (is (held_at p) ∙ this (held_at p)))
                (unlike w (reference p k).sort met_there.0 (not_awaited w (held_at p) r) (no_other (held_at p) other)
                met_there.1 off),
          )

          waits_for_it : is_sort w (reference p k).sort ≡ true → Spare p
          waits_for_it on = subst (λ d. OtherTold d p.body (held_at p)) (sym due)
              (spare_of into other p.body (held_at p) s at (is (held_at p) ∙ this (held_at p)
              ∙ alike w (reference p k).sort met_there.0 (not_awaited w (held_at p) r) (no_other (held_at p) other)
              met_there.1 on))

        right_get : (spare : Bool) (r : RefOf) (other : Option Expression) (k : ℕ) → reference_of on r ≡ Ok k
            → ((h : List Value) → ask_failed h q ≡ option_or (not_awaited sort.Promise h r) (no_other h other))
            → (p : Point PlacedState) → p.body.task ≡ record on { due = cell_due into other }
            → StandsAtStatement script p.body s → SelfFirst p.references
            → IsTold (after_get spare (reference p k).sort (reference p k).name p)
        right_get spare r other k e this p same at first =
            let vars = ap (λ (t : TaskState). t.vars) same in let due = ap (λ (t : TaskState). t.due) same in
            was_got spare (reference p k).sort (reference p k).name p
            (λ z. waits_for_other sort.Promise r other k e this p vars due at first (ap (is_sort sort.Promise) z))
            (λ z. waits_for_it sort.Promise r other k e this p vars due at first (ap (is_sort sort.Promise) z))

        right_join : (spare : Bool) (r : RefOf) (other : Option Expression) (k : ℕ) → reference_of on r ≡ Ok k
            → ((h : List Value) → ask_failed h q ≡ option_or (not_awaited sort.Task h r) (no_other h other))
            → (p : Point PlacedState) → p.body.task ≡ record on { due = cell_due into other }
            → StandsAtStatement script p.body s → SelfFirst p.references
            → IsTold (after_join strict spare (reference p k).sort (reference p k).name p)
        right_join spare r other k e this p same at first =
            let vars = ap (λ (t : TaskState). t.vars) same in let due = ap (λ (t : TaskState). t.due) same in
            was_joined strict spare (reference p k).sort (reference p k).name p
            (λ z. waits_for_other sort.Task r other k e this p vars due at first (ap (is_sort sort.Task) z))
            (λ z. waits_for_it sort.Task r other k e this p vars due at first (ap (is_sort sort.Task) z))

        -- a fork
        right_fork : (list : List Argument) (d : tree.Task) (vs : List Pay) → arguments on.vars list ≡ Ok vs
            → ((h : List Value) → ask_failed h q ≡ option_or (no_arguments h list) (no_promises h list))
            → IsRight (asks (fork_of on d list vs) (record on { due = place into }))
        right_fork list d vs e this p g same at first =
            let vars = ap (λ (t : TaskState). t.vars) same in
            let mine = seen p in
            was_forked (placed g (task_of on.script on.limit d vs)) (map (reference p) (references vs))
            (map (λ k. (reference p k).name) (references (handed on.vars list)))
            (hand_all p.holds (map (reference p) (references (handed on.vars list)))) p
            (λ c refused. for_cause p.body (held_at p) (no_promises mine list) c
            (subst (HandTold (no_promises mine list)) refused (hand_told p.name p.references on.vars list p.holds))
            (λ tells. (
              s,
              at,
              subst (TellsOf trouble.Kind) (sym (is (held_at p) ∙ this (held_at p)
                  ∙ ap (λ h. option_or (no_arguments h list) (no_promises h list)) (held_seen p vars)
                  ∙ ap (λ a. option_or a (no_promises mine list))
                  (no_reason p.name p.references on.vars list vs e))) tells,
            )))

      right_forked : (into : Option ℕ) (f : ℕ) (list : List Argument) (o : Option tree.Task)
          → ((h : List Value) → failed_at h s ≡ ask_failed h (tree.fork f list)) → IsRight (forked on o into list)
      right_forked into f list None is = tt
      right_forked into f list (Some d) is = right_if (nat_eq (length list) d.params) _ _
          (right_then (arguments on.vars list) _
          (λ vs e. right_fork into (tree.fork f list) is list d vs e (λ h. refl))) tt

      right_asked : (into : Option ℕ) (q : tree.Ask) → ((h : List Value) → failed_at h s ≡ ask_failed h q)
          → IsRight (asked on into q)
      right_asked into tree.new is = λ p g same at first. tt
      right_asked into (tree.fork f list) is = right_forked into f list (slice_get on.script f) is
      right_asked into (tree.get r None) is = right_then (reference_of on r) _
          (λ k e p g same at first. right_get into (tree.get r None) is false r None k e (λ h. refl) p same at first)
      right_asked into (tree.get r (Some o)) is = right_then (reference_of on r) _
          (λ k e p g same at first. right_get into (tree.get r (Some o)) is true r (Some o) k e (λ h. refl) p same at
          first)
      right_asked into (tree.join r None) is = right_then (reference_of on r) _
          (λ k e p g same at first. right_join into (tree.join r None) is false r None k e (λ h. refl) p same at first)
      right_asked into (tree.join r (Some o)) is = right_then (reference_of on r) _
          (λ k e p g same at first. right_join into (tree.join r (Some o)) is true r (Some o) k e (λ h. refl) p same at
          first)

      right_value : (c : Computed) (go : Pay → TaskState) → IsRight (then_effect c (λ v. goes_on (go v)))
      right_value c go = right_then c _ (λ v e. tt)

      -- a promise is set
      right_set : (y : ℕ) (e : Expression) → ((h : List Value) → failed_at h s ≡ failed_at h (tree.set_cell y e))
          → IsRight (begun on (tree.set_cell y e))
      right_set y e is = right_then (reference_in (Ok (meaning.held on.vars y))) _ (λ k i. right_then (value_in on e) _
          (λ v j p g same at first.
          let vars = ap (λ (t : TaskState). t.vars) same in
          let there : held_in (held_at p) y ≡ values.Ref (reference p k) =
          ap (λ h. held_in h y) (held_seen p vars) ∙ held_map p.name p.references on.vars on.vars y
          ∙ ap (value_at p.name p.references) (refers (meaning.held on.vars y) k i) in
          let none : no_value (held_at p) e ≡ None = ap (λ h. no_value h e) (held_seen p vars)
          ∙ subst (λ c. IsToldOf c (no_value (seen p) e)) j (told_of p.name p.references on.vars e) in
          was_set (reference p k).sort (reference p k).name (value_at p.name p.references v) p
          (λ z. (
            s,
            at,
            subst (TellsOf trouble.Kind) (sym (is (held_at p)))
                (unset y (held_in (held_at p) y) (reference p k) (no_value (held_at p) e) there z none),
          ))))

  -- each statement that begins
  right_given : (strict : Bool) (s : Statement) (on : TaskState) (y : ℕ) (side : Given)
      → ((h : List Value) → failed_at h s ≡ failed_at h (tree.let_new y side)) → IsRight strict s (given_to on y side)
  right_given strict s on y (tree.answer q) is = right_asked strict s on (Some y) q is
  right_given strict s on y (tree.result_of e) is = right_then strict s (value_in on e) _ (λ v i. tt)

  right_statement : (strict : Bool) (on : TaskState) (s : Statement) → IsRight strict s (begun on s)
  right_statement strict on (tree.let_new y side) = right_given strict (tree.let_new y side) on y side (λ h. refl)
  right_statement strict on (tree.assign y side) = right_given strict (tree.assign y side) on y side (λ h. refl)
  right_statement strict on (tree.ask q) = right_asked strict (tree.ask q) on None q (λ h. refl)
  right_statement strict on (tree.print e) = right_then strict (tree.print e) (number (value_in on e)) _
      (λ n i p g same at first. tt)
  right_statement strict on (tree.set_cell y e) = right_set strict (tree.set_cell y e) on y e (λ h. refl)
  right_statement strict on (tree.return e) = right_then strict (tree.return e) (value_in on e) _
      (λ v i p g same at first. tt)
  right_statement strict on (tree.choose e body other) =
      right_then strict (tree.choose e body other) (number (value_in on e)) _ (λ n i. tt)
  right_statement strict on (tree.repeat e body) =
      right_then strict (tree.repeat e body) (number (value_in on e)) _ (λ n i. tt)

  -- The statement at which a task stands has begun, and this is what it asks and what it then is.
  abbrev Gives : TaskState → Effect → Next → Type 0
  Gives on (goes_on new) next = ⊥
  Gives on (asks q new) next = next ≡ (q, new)
  Gives on (fails fault) next = next ≡ (ask.Fail fault, failed on)

  module _ (all : List Statement) where
    record Began (z : Stand) (next : Next) : Type 0 where
      on : TaskState
      statement : Statement
      is_at : IsAt all z.at statement
      same : on.script ≡ script
      gives : Gives on (begun on statement) next

    -- or it ends, or may begin no statement more
    abbrev HasBegun : Stand → Next → Type 0
    HasBegun z next =
        Began z next ⊎ ((next.0 ≡ ask.End (pay.Num (pos 0))) ⊎ (next.0 ≡ ask.Fail trouble.Steps))

    from : (n : ℕ) (on : TaskState) (s : Statement) (effect : Effect) (z w : Stand) → begun on s ≡ effect
        → IsAt all w.at s → on.script ≡ script → IsRightEffect all on z effect w
        → ((new : TaskState) → AreNamed all w.ahead new.rest → new.script ≡ script
        → HasBegun (stand_ask n new w) (next_ask n new))
        → HasBegun (stand_from w effect (stand_ask n)) (next_from on effect (next_ask n))
    from n on s (goes_on new) z w e a m h go = go new h.named (h.script ∙ m)
    from n on s (asks q new) z w e a m h go = inl (record {
      on = on;
      statement = s;
      is_at = a;
      same = m;
      gives = subst (λ x. Gives on x (q, new)) (sym e) refl;
    })
    from n on s (fails fault) z w e a m h go = inl (record {
      on = on;
      statement = s;
      is_at = a;
      same = m;
      gives = subst (λ x. Gives on x (ask.Fail fault, failed on)) (sym e) refl;
    })

    begun_of : (t : TaskState) (decl at called : ℕ) (rest : List Statement) (ahead : List ℕ)
        → (go : Statement → List Statement → Next) (stand : Statement → List Statement → Stand → Stand)
        → AreNamed all ahead rest
        → ((s : Statement) (more : List Statement) (n : ℕ) (ns : List ℕ) → IsAt all n s → AreNamed all ns more
        → let w : Stand = record { decl = decl; ahead = ns; at = n; called = 0 } in
        HasBegun (stand s more w) (go s more))
        → let z : Stand = record { decl = decl; ahead = ahead; at = at; called = called } in
        HasBegun (stand_of z rest stand) (next_of t rest go)
    begun_of t decl at called rest [] go stand h k = absurd h
    begun_of t decl at called [] (n ∷ ns) go stand h k = inr (inl refl)
    begun_of t decl at called (s ∷ more) (n ∷ ns) go stand h k = k s more n ns h.0 h.1

    begun_on : (n : ℕ) (t : TaskState) (z : Stand) → t.script ≡ script → AreNamed all z.ahead t.rest
        → HasBegun (stand_ask n t z) (next_ask n t)
    begun_on zero t z m h = begun_of t z.decl z.at z.called t.rest z.ahead
        (λ s rest. (ask.Fail trouble.Steps, failed (record t { rest = rest }))) (λ s rest w. w) h
        (λ s more k ns at rest. inr (inr refl))
    begun_on (suc n) t z m h = begun_of t z.decl z.at z.called t.rest z.ahead
        (λ s rest. let on = record t { rest = rest; steps = n } in next_from on (begun on s) (next_ask n))
        (λ s rest w. let on = record t { rest = rest; steps = n } in
        stand_from (stand_begun on s w) (begun on s) (stand_ask n)) h
        (λ s more k ns at rest. let now = record t { rest = more; steps = n } in
        let w : Stand = record { decl = z.decl; ahead = ns; at = k; called = 0 } in
        from n now s (begun now s) w (stand_begun now s w) refl
        (subst (λ i. IsAt all i s) (sym (at_begun now s w)) at) m (right_begun all now w rest s at)
        (λ new named same. begun_on n new (stand_begun now s w) same named))

  -- The step of a task that has its answer.
  module _ (strict : Bool) (declared : ForksAreDeclared script) (d : tree.Task) (decl : ℕ)
      (found : slice_get script decl ≡ Some d) where
    abbrev all : List Statement
    all = within d.body

    stands : (p : Point PlacedState) (s : Statement) → p.body.stand.decl ≡ decl → IsAt all p.body.stand.at s
        → StandsAtStatement script p.body s
    stands p s e at = record { task = d; is_declared = ap (slice_get script) e ∙ found; is_at = at }

    -- the fault of a statement is told
    fault_told : (on : TaskState) (s : Statement) (fault : Trouble) (p : Point PlacedState) → on.script ≡ script
        → p.body.task.vars ≡ on.vars → p.body.stand.decl ≡ decl → IsAt all p.body.stand.at s
        → begun on s ≡ fails fault → Reasoned p fault
    fault_told on s fault p same vars e at is =
        let calls : IsDeclared on.script (own_ask s) =
        subst (λ c. IsDeclared c (own_ask s)) (sym same) (declared decl p.body.stand.at d s found at) in (
          s,
          stands p s e at,
          subst (λ h. TellsOf fault (failed_at h s)) (sym (held_seen strict s on p vars))
              (statement_told p.name p.references on s fault calls is),
        )

    for_fault : (fault : Trouble) (p : Point PlacedState) → Reasoned p fault
        → IsTold (after_failure (cause_of fault) p)
    for_fault trouble.Arith p h = h
    for_fault trouble.Kind p h = h
    for_fault trouble.Steps p h = tt

    -- what a statement that began asks
    asked_told : (g : ℕ) (on : TaskState) (s : Statement) (effect : Effect) (next : Next) (p : Point PlacedState)
        → begun on s ≡ effect → Gives on effect next → p.body.task ≡ next.1 → on.script ≡ script
        → p.body.stand.decl ≡ decl → IsAt all p.body.stand.at s → SelfFirst p.references
        → IsTold (after_ask strict (ask_as (placed g) next.0) p)
    asked_told g on s (goes_on new) next p is gives body same e at first = absurd gives
    asked_told g on s (asks q new) next p is gives body same e at first =
        subst (λ a. IsTold (after_ask strict (ask_as (placed g) a) p)) (sym (ap (λ (n : Next). n.0) gives))
        (subst (IsRight strict s) is (right_statement strict on s) p g (body ∙ ap (λ (n : Next). n.1) gives)
        (stands p s e at) first)
    asked_told g on s (fails fault) next p is gives body same e at first =
        subst (λ a. IsTold (after_ask strict (ask_as (placed g) a) p)) (sym (ap (λ (n : Next). n.0) gives))
        (for_fault fault p (fault_told on s fault p same
        (ap (λ (t : TaskState). t.vars) (body ∙ ap (λ (n : Next). n.1) gives)) e at is))

    begun_told : (g : ℕ) (z : Stand) (next : Next) (p : Point PlacedState) → HasBegun all z next
        → p.body.task ≡ next.1 → p.body.stand ≡ z → p.body.stand.decl ≡ decl → SelfFirst p.references
        → IsTold (after_ask strict (ask_as (placed g) next.0) p)
    begun_told g z next p (inl b) body at e first =
        asked_told g b.on b.statement (begun b.on b.statement) next p refl b.gives body b.same e
        (subst (λ (w : Stand). IsAt all w.at b.statement) (sym at) b.is_at) first
    begun_told g z next p (inr (inl is_end)) body at e first =
        subst (λ a. IsTold (after_ask strict (ask_as (placed g) a) p)) (sym is_end) tt
    begun_told g z next p (inr (inr is_out)) body at e first =
        subst (λ a. IsTold (after_ask strict (ask_as (placed g) a) p)) (sym is_out) tt

  -- a task that fails at its answer fails by what stands behind `or`
  other_fails : (t : TaskState) (into : Option ℕ) (e : Expression) (fault : Trouble)
      → or_else_of t into (value_in t e) ≡ Err fault → value_in t e ≡ Err fault
  other_fails t into e fault = by (value_in t e) where
    by : (c : Computed) → or_else_of t into c ≡ Err fault → c ≡ Err fault
    by (Ok v) h = absurd (cc)
    by (Err f) h = ap (λ (r : Result TaskState Trouble). Err (fault_in r)) h where
      fault_in : Result TaskState Trouble → Trouble
      fault_in (Ok t) = trouble.Steps
      fault_in (Err f) = f

  answer_told : (t : TaskState) (due : Due) (a : Answer) (fault : Trouble) (p : Point PlacedState)
      → answered t due a ≡ Err fault → p.body.task.vars ≡ t.vars → StageTold (stage.Answered a) p
      → p.body.task.due ≡ due → Reasoned p fault
  answer_told t start a fault p e vars h is = absurd (cc)
  answer_told t (place into) a fault p e vars h is = absurd (cc)
  answer_told t (cell into) a fault p e vars h is = absurd (cc)
  answer_told t done a fault p e vars h is = absurd (cc)
  answer_told t over a fault p e vars h is = absurd (cc)
  answer_told t (cell_or into x) answer.Start fault p e vars h is = absurd (cc)
  answer_told t (cell_or into x) (answer.Local k) fault p e vars h is = absurd (cc)
  answer_told t (cell_or into x) answer.Done fault p e vars h is = absurd (cc)
  answer_told t (cell_or into x) (answer.Num n) fault p e vars h is = absurd (cc)
  answer_told t (cell_or into x) (answer.RefAt k) fault p e vars h is = absurd (cc)
  answer_told t (cell_or into x) answer.Lost fault p e vars h is =
      let o = subst (λ d. OtherTold d p.body (held_at p)) is h in
      let lost = subst (λ c. IsToldOf c (no_value (map (value_at p.name p.references) t.vars) x))
      (other_fails t into x fault e) (told_of p.name p.references t.vars x) in (
        o.0,
        o.1,
        subst (TellsOf fault) (sym o.2)
            (subst (λ v. TellsOf fault (no_value (map (value_at p.name p.references) v) x)) (sym vars) lost),
      )

  -- a step
  answered_told : (strict : Bool) → ForksAreDeclared script → (p : Point PlacedState) (a : Answer)
      → p.stage ≡ stage.Answered a → StandsRight p.body → p.body.task.script ≡ script → SelfFirst p.references
      → IsTold p
      → IsTold (after_ask strict (placed_asks p.body a) (record p { body = placed_then p.body a }))
  answered_told strict declared p a e right same first had =
      by (answered t t.due a) refl (rest_answered t t.due a) where
        t : TaskState
        t = record p.body.task { places = p.body.task.places + new_places a }

        found : slice_get script p.body.stand.decl ≡ Some right.task
        found = ap (λ s. slice_get s p.body.stand.decl) (sym same) ∙ right.is_declared

        by : (r : Result TaskState Trouble)
            → (let t = record p.body.task { places = p.body.task.places + new_places a } in (answered t t.due a ≡ r))
            → IsSameRest (record p.body.task { places = p.body.task.places + new_places a }) r
            → let z = stand_after r p.body.stand in
            let n = next_after (record p.body.task { places = p.body.task.places + new_places a }) r in
            IsTold (after_ask strict (ask_as (placed z.called) n.0)
            (record p { body = record { task = n.1; stand = z } }))
        by (Ok new) is rest =
            let z = stand_ask new.steps new p.body.stand in
            let n = next_ask new.steps new in
            let q = record p { body = record { task = n.1; stand = z } } in
            begun_told strict declared right.task p.body.stand.decl found z.called z n q
            (begun_on (within right.task.body) new.steps new p.body.stand (rest.1 ∙ same)
            (subst (AreNamed (within right.task.body) p.body.stand.ahead) (sym rest.0) right.named)) refl refl
            (right_after (within right.task.body) t p.body.stand (Ok new) right.named rest).0.decl first
        by (Err fault) is rest =
            let q = record p { body = record { task = failed t; stand = p.body.stand } } in
            let r = answer_told t t.due a fault p is refl (subst (λ st. StageTold st p) e had) refl in
            for_fault strict declared right.task p.body.stand.decl found fault q
            (r.0, record { task = r.1.task; is_declared = r.1.is_declared; is_at = r.1.is_at }, r.2)

-- What a task has at each point.
abbrev Here : List tree.Task → PlacedState → Type 0
Here script x = StandsRight x × (x.task.script ≡ script)

fork_here : (script : List tree.Task) (f : ℕ) (q : Ask TaskState) → HoldsOfFork StandsRight (ask_as (placed f) q)
    → ChildOf script q f → HoldsOfFork (Here script) (ask_as (placed f) q)
fork_here script f (ask.Fork b pass hand) h c = (h, c.2)
fork_here script f q h c = tt

stays_here : (script : List tree.Task) (x : PlacedState) (a : Answer) → Here script x
    → Here script (placed_then x a) × HoldsOfFork (Here script) (placed_asks x a)
stays_here script x a h =
    let t = record x.task { places = x.task.places + new_places a } in
    let r = right_after (within h.0.task.body) t x.stand (answered t t.due a) h.0.named (rest_answered t t.due a) in
    let s = stays_right x a h.0 in (
      (s.0, r.0.script ∙ h.1),
      fork_here script (stand_after (answered t t.due a) x.stand).called
          (next_after t (answered t t.due a)).0 s.1
          (subst (λ c. ChildOf c (next_after t (answered t t.due a)).0
          (stand_after (answered t t.due a) x.stand).called)
          h.1 r.1),
    )

-- References stay.
first_ask : (strict : Bool) (p : Point PlacedState) (a : Ask PlacedState) (q : Point PlacedState)
    → IsAskStep strict p a q → SelfFirst p.references → SelfFirst q.references
first_ask strict p _ _ (fails_by a c) h = h
first_ask strict p _ _ (ends v) h = h
first_ask strict p _ _ makes h = self_kept p.references _ h
first_ask strict p _ _ (forks b pass hand l e) h = self_kept p.references _ h
first_ask strict p _ _ (sets k v s o) h = h
first_ask strict p _ _ (gets spare k s) h = h
first_ask strict p _ _ (joins spare k s o) h = h
first_ask strict p _ _ (prints i) h = h

first_read : (spare : Bool) (q : Name) (e : Entry) (p : Point PlacedState) → SelfFirst p.references
    → SelfFirst (after_read spare q e p).references
first_read true q entry.Broken p h = h
first_read false q entry.Broken p h = h
first_read spare q (entry.Value (values.Num i)) p h = h
first_read spare q (entry.Value (values.Ref r)) p h = self_kept p.references _ h

first_look : (spare : Bool) (q : Name) (o : Option Entry) (p : Point PlacedState) → SelfFirst p.references
    → SelfFirst (after_look spare q o p).references
first_look spare q None p h = h
first_look spare q (Some e) p h = first_read spare q e p h

first_stage : (rules : Rules PlacedState) (V : Assignment) (st : PointStage) (p : Point PlacedState)
    → SelfFirst p.references → SelfFirst (after_stage rules V st p).references
first_stage rules V (stage.Answered a) p h =
    let q = record p { body = rules.then p.body a } in
    first_ask rules.strict q (rules.asks p.body a) (after_ask rules.strict (rules.asks p.body a) q)
    (is_ask_step rules.strict q (rules.asks p.body a)) h
first_stage rules V (stage.Waits q spare) p h = first_look spare q (V q) p h
first_stage rules V (stage.Closed c) p h = h

module _ (strict : Bool) (root : PlacedState) (right : StandsRight root)
    (declared : ForksAreDeclared root.task.script) (n : ℕ) (t : Task PlacedState)
    (there : IsIn t (tasks (placed_program strict root) n)) where
  abbrev V : Assignment
  V = given (placed_program strict root) n

  abbrev point : ℕ → Point PlacedState
  point k = point_after (placed_program strict root).rules V k t

  here : (k : ℕ) → Here root.task.script (point k).body
  here k = ((holds_in_rounds (Here root.task.script) (placed_program strict root) (stays_here root.task.script)
      (right, refl) t (n, there)).1 (point k) (n, (k, refl))).0

  step_told : (st : PointStage) (p : Point PlacedState) → p.stage ≡ st → Here root.task.script p.body
      → SelfFirst p.references → IsTold root.task.script p
      → IsTold root.task.script (after_stage (placed_program strict root).rules V st p)
  step_told (stage.Answered a) p e h first had =
      answered_told root.task.script strict declared p a e h.0 h.1 first had
  step_told (stage.Waits q spare) p e h first had = looked root.task.script spare q (V q) p e had
  step_told (stage.Closed c) p e h first had = had

  points_told : (k : ℕ) → SelfFirst (point k).references × IsTold root.task.script (point k)
  points_told zero = (refl, tt)
  points_told (suc k) = let r = points_told k in (
    first_stage (placed_program strict root).rules V (point k).stage (point k) r.0,
    step_told (point k).stage (point k) refl (here k) r.0 r.1,
  )

-- of a stage
in_stage : (script : List tree.Task) (p : Point PlacedState) (st : PointStage) → StageTold script st p
    → HasReasonIn script p.body (held_at p) st
in_stage script p (stage.Answered a) h = tt
in_stage script p (stage.Waits q spare) h = tt
in_stage script p (stage.Closed (close.Done v)) h = tt
in_stage script p (stage.Closed (close.Failed c)) h = h

-- the law
pub failures_have_reasons : (strict : Bool) (root : PlacedState) → FailuresHaveReasons strict root
failures_have_reasons strict root right declared n t there =
    let program = placed_program strict root in
    let p = history program.rules (given program n) t in
    in_stage root.task.script p p.stage
    (points_told strict root right declared n t there (2 * suc (program.rules.left t.body))).1
