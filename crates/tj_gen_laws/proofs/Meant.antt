-- The meaning of the generated script: how `main` stops in it, that no task of it waits, and how many cells it takes.
use Rattle.std.proofs.Common.{ℕ, zero, suc, ◌≡◌, ◌≤◌, ◌<◌, ◌⊎◌, inl, inr, ⊎_elim, pos, Bool, false, not, ◌||◌, List}
use Rattle.std.proofs.Common.{[], ◌∷◌, map}
use Rattle.std.proofs.Common.{Some, refl, sym, ap, ◌∙◌, subst, arith}
use Rattle.std.specs.Prelude.{◌+◌, ◌*◌, ◌↔◌}
use Rattle.std.specs.List.{list_any}
use Rattle.tj_base.specs.declared.cause.Cause.TheVariants as cause
use Rattle.tj_base.specs.declared.value.Pay.{Pay}
use Rattle.tj_body.specs.Programs.{Program, root_task}
use Rattle.tj_body.specs.Rounds.{meaning, IsFull}
use Rattle.tj_body.specs.Points.{IsIn}
use Rattle.tj_body.specs.declared.point.Close.{Close}
use Rattle.tj_body.specs.declared.point.Close.TheVariants as close
use Rattle.tj_body.specs.declared.point.Entry.{Entry}
use Rattle.tj_body.specs.declared.point.Entry.TheVariants as entry
use Rattle.tj_body.specs.declared.point.Value.TheVariants as value
use Rattle.tj_body.specs.declared.point.PointStage.TheVariants as stage
use Rattle.tj_body.specs.declared.point.Point.{Point}
use Rattle.tj_body.proofs.Lists.{in_map, to_map}
use Rattle.std.specs.Option.{option_map}
use Rattle.tj_base.specs.ForkOrder.{Name}
use Rattle.tj_base.specs.declared.value.Pay.TheVariants as pay
use Rattle.tj_body.specs.NeverWaits.{NoneWaits}
use Rattle.tj_body.specs.declared.ask.Answer.TheVariants as answer
use Rattle.tj_body.specs.declared.point.Value.{Value}
use Rattle.tj_mean.specs.Outcomes.{IsOutcome, ending_of, is_marked, is_nil, is_troubled, shown_of, stopped_of}
use Rattle.tj_mean.specs.declared.outcome.Ending.{Ending}
use Rattle.tj_mean.specs.declared.outcome.Ending.TheVariants as ending
use Rattle.tj_mean.specs.declared.outcome.Outcome.{Outcome}
use Rattle.tj_mean.specs.declared.outcome.TaskLine.{TaskLine}
use Rattle.tj_mean.specs.declared.stopped.Stopped.{Stopped}
use Rattle.tj_mean.proofs.Lists.Elements.{some_is}
use Rattle.tj_mean.proofs.Lists.NameOrder.{in_permuted, in_unpermuted}
use Rattle.tj_mean.proofs.Outcomes.NoWaits.{has_no_wait}
use Rattle.tj_mean.proofs.Outcomes.ToldOutcomes.{of_told, told_of}
use Rattle.tj_eval.specs.Statements.{TaskState, done, task_of}
use Rattle.tj_modes.specs.Generated.{generated_script, main_task}
use Rattle.tj_gen_laws.proofs.MainPoints.{behind, left, main_stopped, sum_to}
use Rattle.tj_gen_laws.proofs.MainSteps.{HasSet, IsPoint, ends, fails, prints, program, return_v, sets}
use Rattle.tj_gen_laws.proofs.Rested.{AreRounds, chain, overflows, rests, stopped, which}

-- ---- outcomes

-- what is told of a history of the meaning is a line of its outcome
pub line_told : {B : Type 0} (ps : List (Point B)) (p : Point B) (s : Stopped) (o : Outcome) → IsOutcome ps o
    → IsIn p ps → stopped_of p ≡ Some s → IsIn s.line o.lines
line_told ps p s o (ss, told, is) i e =
    let r = of_told ps ss told p i in
    let same : r.0 ≡ s = some_is r.0 s (sym r.2 ∙ e) in
    in_unpermuted (map (λ (z : Stopped). z.line) ss) o.lines is.lines s.line
    (to_map (λ (z : Stopped). z.line) s ss (subst (λ z. IsIn z ss) same r.1))

none_of : {A : Type 0} (test : A → Bool) (l : List A) → ((x : A) → IsIn x l → test x ≡ false) → list_any test l ≡ false
none_of test [] h = refl
none_of test (x ∷ xs) h = let a = h x (inl refl) in let b = none_of test xs (λ y i. h y (inr i)) in cc

-- the history has ended well and owes nothing
abbrev pub HasEndedWell : {B : Type 0} → Point B → Type 0
HasEndedWell p = (v : Value) × (p.stage ≡ stage.Closed (close.Done v)) × (p.owed ≡ [])

-- what is told of such a history is no trouble
untroubled : {B : Type 0} (p : Point B) (s : Stopped) → HasEndedWell p → stopped_of p ≡ Some s
    → is_troubled s.line ≡ false
untroubled p s (v, e, owes) h =
    let told : Stopped =
    record {
      line = record { name = p.name; prints = p.prints; ending = ending.Done (shown_of v); owes = p.owed };
      holds = p.holds;
    } in
    let seen : stopped_of p ≡ Some told =
    ap (λ st. option_map (λ (x : Ending). record {
      line = record { name = p.name; prints = p.prints; ending = x; owes = p.owed };
      holds = p.holds;
    }) (ending_of st)) e in
    let same : told ≡ s = some_is told s (sym seen ∙ h) in
    ap (λ (z : Stopped). is_troubled z.line) (sym same) ∙ ap (λ l. false || not (is_nil l)) owes

-- an outcome of such histories is clean
pub is_clean : {B : Type 0} (ps : List (Point B)) → ((p : Point B) → IsIn p ps → HasEndedWell p) → (o : Outcome)
    → IsOutcome ps o → is_marked o ≡ false
is_clean {B} ps well o (ss, told, is) =
    let lines = map (λ (s : Stopped). s.line) ss in
    let calm : (l : TaskLine) → IsIn l o.lines → is_troubled l ≡ false = λ l i.
    let s = in_map (λ (z : Stopped). z.line) l ss (in_permuted lines o.lines is.lines l i) in
    let p = told_of ps ss told s.0 s.1 in
    ap is_troubled s.2 ∙ untroubled p.0 s.0 (well p.0 p.1) p.2 in
    let none : NoneWaits ps = λ p q spare i e. let w = well p i in ended_waits w.0 q spare (sym w.1 ∙ e) in
    ap (λ l. not (is_nil l) || list_any is_troubled o.lines) (has_no_wait ps none o (ss, told, is)).no_cycle
    ∙ none_of is_troubled o.lines calm
  where
    ended_waits : (v : Value) (q : Name) (spare : Bool) → stage.Closed (close.Done v) ≡ stage.Waits q spare → ⊥
    ended_waits v q spare e = cc

-- ---- the run of the script's `main`

-- a number is below another, or is at least that
below : (a b : ℕ) → (a < b) ⊎ (b ≤ a)
below a zero = inr (omega arith)
below zero (suc b) = inl (omega arith)
below (suc a) (suc b) = ⊎_elim (λ h. inl (omega arith)) (λ h. inr (omega arith)) (below a b)

-- the nodes have ended well, and so has main where it is at this stage
well_among : (size limit l : ℕ) (main : Point TaskState) (v : Value) → main.stage ≡ stage.Closed (close.Done v)
    → main.owed ≡ [] → (p : Point TaskState) → IsIn p (main ∷ stopped size limit l size) → HasEndedWell p
well_among size limit l main v e o p (inl same) = subst HasEndedWell (sym same) (v, e, o)
well_among size limit l main v e o p (inr i) =
    let r = which size limit l size p i in
    subst HasEndedWell (sym r.2) (value.Num (pos (suc r.0)), refl, refl)

-- how many statements are left before k steps
left_is : (k n : ℕ) → left k n ≡ 3 * k + 3 + n
left_is zero n = omega arith
left_is (suc k) n = let r = left_is k n in omega arith

-- the body of `main`
abbrev pub root : (size limit : ℕ) → TaskState
root size limit = task_of (generated_script size) limit (main_task size) []

module _ (size limit : ℕ) (strict : Bool) where
  -- the body of this run's `main`, its program, and its points
  abbrev body : TaskState
  body = root size limit

  abbrev run : Program TaskState
  run = program strict body

  abbrev IsOne : Point TaskState → Type 0
  IsOne = IsPoint strict body

  -- the value that its last promise gets
  abbrev sum : Value
  sum = value.Num (pos (sum_to size))

  module _ (rounds : AreRounds run) (some : 0 < size) (small : size ≤ 4000) where
    -- main has set its first promise, where n statements may begin after its print
    pub set : (n : ℕ) → limit ≡ 3 * size + 7 + n → HasSet size limit strict body size n
    set n e = by size refl where
      by : (k : ℕ) → k ≡ size → HasSet size limit strict body size n
      by zero z = absurd (omega arith)
      by (suc j) z =
          let l = left_is size n in
          sets size limit strict body rounds.ask j n (sym z) (omega arith) refl
          (rounds.start.1 (root_task body) rounds.start.0).1

    -- so many may begin in each node
    room : (n : ℕ) → limit ≡ 3 * size + 7 + n → limit ≡ suc (suc (suc (suc (left size n))))
    room n e = let l = left_is size n in omega arith

    -- main where it has printed
    printed : (n : ℕ) (e : limit ≡ 3 * size + 7 + n)
        → IsOne (behind size limit size (return_v ∷ []) (set n e).t (pay.Num (pos (sum_to size))) n
        ((set n e).places + 0 + 0) done (stage.Answered answer.Done)
        (pos (sum_to size) ∷ []))
    printed n e =
        prints size limit strict body rounds.ask size n (set n e) rounds.read
        (chain size limit strict body rounds n (suc (left size n)) (set n e) small (room n e) size (omega arith))

    -- where so many may begin at its last statement, `main` ends
    pub main_ends : (m : ℕ) (e : limit ≡ 3 * size + 7 + suc m)
        → IsOne (main_stopped size limit size (set (suc m) e).t [] m ((set (suc m) e).places + 0 + 0 + 0)
        (close.Done sum) (entry.Value sum))
    main_ends m e =
        ends size limit strict body rounds.ask size m (set (suc m) e).t ((set (suc m) e).places + 0 + 0)
        (printed (suc m) e)

    -- and where none may, it fails
    pub main_fails : (e : limit ≡ 3 * size + 7 + 0)
        → IsOne (main_stopped size limit size (set 0 e).t [] 0 ((set 0 e).places + 0 + 0 + 0)
        (close.Failed cause.Steps) entry.Broken)
    main_fails e =
        fails size limit strict body rounds.ask size (set 0 e).t ((set 0 e).places + 0 + 0) (printed 0 e)

    -- a point at which main has stopped, whether it ends or fails
    record HasStopped (t : Pay) : Type 0 where
      left : ℕ
      places : ℕ
      end : Close
      result : Entry
      is : IsOne (main_stopped size limit size t [] left places end result)

    stops : (n : ℕ) (e : limit ≡ 3 * size + 7 + n) → HasStopped (set n e).t
    stops zero e = record {
      left = 0;
      places = _;
      end = close.Failed cause.Steps;
      result = entry.Broken;
      is = main_fails e;
    }
    stops (suc m) e = record {
      left = m;
      places = _;
      end = close.Done sum;
      result = entry.Value sum;
      is = main_ends m e;
    }

    -- the meaning is full exactly where it may have fewer cells than these
    pub full_is : (n : ℕ) → limit ≡ 3 * size + 7 + n → (N : ℕ)
        → IsFull run N ↔ (N < 2 * size + 2)
    full_is n e N = (
      λ full.
          ⊎_elim (λ h. h)
          (λ h.
          let s = stops n e in
          let r = rests size limit strict body rounds n (suc (left size n)) (set n e) small (room n e) s.left s.places
          s.end s.result s.is N h in
          absurd (r.0 full))
          (below N (2 * size + 2)),
      λ h.
          overflows size limit strict body rounds n (suc (left size n)) (set n e) small (room n e) N h,
    )

    -- where it isn't, each task has ended well if main may begin all of its statements
    pub all_well : (m : ℕ) → limit ≡ 3 * size + 7 + suc m → (N : ℕ) → 2 * size + 2 ≤ N → (p : Point TaskState)
        → IsIn p (meaning run N) → HasEndedWell p
    all_well m e N h p i =
        let x = set (suc m) e in
        let r = rests size limit strict body rounds (suc m) (suc (left size (suc m))) x small (room (suc m) e) m
        (x.places + 0 + 0 + 0) (close.Done sum)
        (entry.Value sum) (main_ends m e) N h in
        well_among size limit (suc (left size (suc m)))
        (main_stopped size limit size x.t [] m (x.places + 0 + 0 + 0) (close.Done sum)
        (entry.Value sum)) sum refl refl p (r.2 p i)

    -- main stands in it so
    pub main_meant : (n : ℕ) (e : limit ≡ 3 * size + 7 + n) (left places : ℕ) (end : Close) (result : Entry)
        → IsOne (main_stopped size limit size (set n e).t [] left places end result)
        → (N : ℕ) → 2 * size + 2 ≤ N
        → IsIn (main_stopped size limit size (set n e).t [] left places end result) (meaning run N)
    main_meant n e k places end result is N h =
        let r = rests size limit strict body rounds n (suc (left size n)) (set n e) small (room n e) k places end result
        is N h in
        r.1
