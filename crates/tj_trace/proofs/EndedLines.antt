-- The lines of a trace tell the outcome of the program without stands.
use Rattle.tj_trace.proofs.Prelude.{AreTraced, List, Logged, None, Option, PlacedState, Point, Some, TraceLine, [], ap}
use Rattle.tj_trace.proofs.Prelude.{line_in, line_of, logged_program, map, meaning, option_map, refl, subst, sym, ℕ}
use Rattle.tj_trace.proofs.Prelude.{◌∙◌, ◌∷◌, ◌≡◌, Bool, Err, Ok, Result}
use Rattle.std.specs.Prelude.{IfOk}
use Rattle.tj_base.specs.declared.memory.Oom.{Oom}
use Rattle.std.specs.List.Sorted.{IsPermutation}
use Rattle.std.proofs.lemmas.List.Sorted.{IsPermutation-map, IsPermutation-sym}
use Rattle.tj_body.specs.Programs.{Program}
use Rattle.tj_body.specs.SeenAs.{point_as}
use Rattle.tj_body.proofs.SeenAs.{meaning_seen}
use Rattle.tj_mean.specs.Outcomes.{AreApart, AreTold, IsOutcome, IsOutcomeOf, stopped_of}
use Rattle.tj_mean.specs.declared.outcome.Outcome.{Outcome}
use Rattle.tj_mean.specs.declared.stopped.Stopped.{Stopped}
use Rattle.tj_mean.proofs.Outcomes.ToldOutcomes.{any_order, apart_in_order, meaning_apart, outcome_in_order}
use Rattle.tj_mean.proofs.Outcomes.ToldOutcomes.{told_in_order}
use Rattle.tj_trace.specs.Ended.{stopped_in}
use Rattle.tj_trace.specs.Logs.{erased}
use Rattle.tj_trace.specs.TraceLaws.{script_program}
use Rattle.tj_trace.proofs.Seen.{seen, told_as}

-- the line of a task tells what is told of it
by_line : (p : Point Logged) (o : Option Stopped) → o ≡ option_map stopped_in (option_map (line_in p) o)
by_line p None = refl
by_line p (Some s) = refl

by_lines : (qs : List (Point Logged)) → map stopped_of qs ≡ map (option_map stopped_in) (map line_of qs)
by_lines [] = refl
by_lines (q ∷ qs) = ap (λ o. o ∷ map stopped_of qs) (by_line q (stopped_of q))
    ∙ ap (λ os. option_map stopped_in (line_of q) ∷ os) (by_lines qs)

all_some : (ls : List TraceLine)
    → map (option_map stopped_in) (map (λ (l : TraceLine). Some l) ls)
    ≡ map (λ (s : Stopped). Some s) (map stopped_in ls)
all_some [] = refl
all_some (l ∷ ls) = ap (λ os. Some (stopped_in l) ∷ os) (all_some ls)

module _ (program : Program Logged) (N : ℕ) (lines : List TraceLine) (t : AreTraced program N lines) where
  -- what the lines tell is told of the histories
  are_told : AreTold t.histories (map stopped_in t.told)
  are_told = by_lines t.histories ∙ ap (map (option_map stopped_in)) t.are_told ∙ all_some t.told

  in_order : IsPermutation (map stopped_in t.told) (map stopped_in lines)
  in_order = IsPermutation-map stopped_in t.told lines t.same_lines

  back : IsPermutation t.histories (meaning program N)
  back = IsPermutation-sym (meaning program N) t.histories t.same_histories

  -- no two lines of a trace have one name, and none owns what another owns
  pub lines_apart : AreApart (map stopped_in lines)
  lines_apart =
      let ss = map stopped_in t.told in
      let r = told_in_order t.histories (meaning program N) back ss are_told in
      apart_in_order ss (map stopped_in lines) in_order
      (apart_in_order r.0 ss (IsPermutation-sym ss r.0 r.2) (meaning_apart program N r.0 r.1))

  -- the outcome of the lines is that of the meaning
  pub lines_outcome : (o : Outcome) → IsOutcomeOf (map stopped_in lines) o → IsOutcome (meaning program N) o
  lines_outcome o h =
      let ss = map stopped_in t.told in
      any_order t.histories (meaning program N) o back
      (ss, are_told, outcome_in_order ss (map stopped_in lines) in_order o h)

-- and it is that of the meaning without stands
pub script_outcome : (strict : Bool) (root : PlacedState) (N : ℕ) (lines : List TraceLine) (o : Outcome)
    → AreTraced (logged_program strict root) N lines → IsOutcomeOf (map stopped_in lines) o
    → IsOutcome (meaning (script_program strict root) N) o
script_outcome strict root N lines o t h =
    let p = logged_program strict root in
    let m = meaning_seen erased p (script_program strict root) (seen strict root) N in
    let (ss, told, x) = lines_outcome p N lines t o h in
    subst (λ ps. IsOutcome ps o) (sym m) (ss, told_as (meaning p N) ∙ told, x)

-- what is told of tasks with these lines
pub told_outcome : (lines : List TraceLine) (tasks : List Stopped) (r : Result Outcome Oom)
    → tasks ≡ map stopped_in lines → IfOk r (IsOutcomeOf tasks)
    → IfOk r (λ o. (strict : Bool) (root : PlacedState) (N : ℕ) → AreTraced (logged_program strict root) N lines
    → IsOutcome (meaning (script_program strict root) N) o)
told_outcome lines tasks (Err oom) same h = tt
told_outcome lines tasks (Ok o) same h = λ strict root N t.
    script_outcome strict root N lines o t (subst (λ ss. IsOutcomeOf ss o) same h)
