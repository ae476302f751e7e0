-- What the laws would say if a definition were another one: of each change a run or a state that shows them false.
use Rattle.std.proofs.Common.{◌≡◌, ◌≢◌, ◌⊎◌, ◌<◌, ℕ, zero, suc, false, List, [], ◌∷◌, ◌++◌, None, pos, refl, inr, arith}
use Rattle.tj_base.specs.declared.cell.CellId.{CellId}
use Rattle.tj_base.specs.declared.value.Pay.TheVariants as pay
use Rattle.tj_body.specs.Asks.{nothing}
use Rattle.tj_body.specs.History.{history, point_after}
use Rattle.tj_body.specs.Programs.{Rules, root_task, rules_of}
use Rattle.tj_body.specs.declared.ask.Answer.{Answer}
use Rattle.tj_body.specs.declared.ask.Ask.{Ask}
use Rattle.tj_body.specs.declared.ask.Ask.TheVariants as ask
use Rattle.tj_events.specs.declared.event.Event.{Event}
use Rattle.tj_events.specs.declared.walk.Way.{Way}
use Rattle.tj_events.specs.declared.walk.Way.TheVariants.{Other}
use Rattle.tj_events.specs.declared.event.Event.TheVariants.{Make, Close, Publish}
use Rattle.tj_events.specs.CoreState.{CoreState, Runs, alarmed, root_alone, stage, waits}
use Rattle.tj_events.specs.Events.{Allowed, after}
use Rattle.tj_events.specs.RunLaws.{run_to}
use Rattle.tj_events.specs.StateLaws.{HasAlarmed}
use Rattle.tj_events.specs.WaitGraph.{IsCycle, IsOnCycleOf}
use Rattle.tj_events.proofs.Graph.CycleLists.{returns_are_cycles}
use Rattle.tj_words.specs.declared.phase.Phase.{Phase}
use Rattle.tj_words.specs.declared.phase.Phase.TheVariants as phase
use Rattle.tj_words.specs.declared.phase.Walk.TheVariants as walk
use Rattle.tj_runs.specs.PhaseChanges.{IsForGood, IsStoredOver}
use Rattle.tj_laws.proofs.EventRuns.{cell, waits_alone, waits_cycle}

-- The early raise of OTHERS forgotten: a running task publishes any wait at once. Then a cycle stands where OTHERS is
-- 0.
abbrev AllowedUnraised : ℕ → CoreState → Event → Type 0
AllowedUnraised N s (Publish t p) = (p.0 < s.count) × Runs (stage s.cells t.0)
AllowedUnraised N s e = Allowed N s e

abbrev unraised : List Event
unraised = Make (cell 0) ∷ Publish (cell 0) (cell 1) ∷ []

unraised_goes : AllowedUnraised 2 root_alone (Make (cell 0))
    × AllowedUnraised 2 (after root_alone (Make (cell 0))) (Publish (cell 0) (cell 1))
unraised_goes = ((tt, omega arith), (omega arith, tt))

unraised_round : IsOnCycleOf (run_to unraised).cells 0 1
unraised_round = record {
  some = omega arith;
  round = (0, refl, (1, refl, refl));
  least = λ k x y r. omega (arith, x, y);
}

unraised_cycle : ((run_to unraised).others ≡ 0) × ((ts : List ℕ) × IsCycle (run_to unraised).cells (0 ∷ ts))
unraised_cycle = let c = returns_are_cycles (run_to unraised).cells 0 1 unraised_round in (refl, (c.0, c.1))

-- An alarm asked of each cycle at once, and no open walk in its place: the one task of a cycle that has just published
-- hasn't alarmed.
just_published : ((ts : List ℕ) × IsCycle (run_to waits_alone).cells (0 ∷ ts)) × (¬ HasAlarmed (run_to waits_alone) 0)
just_published = (waits_cycle, λ a. walks_still a.0 a.1 a.2)
  where
    walks_still : (c : ℕ) (way : Way) → stage (run_to waits_alone).cells 0 ≡ waits c way alarmed → ⊥
    walks_still c way e = absurd (cc)

-- A close by who runs, whether it owns the cell or not: the same cell is closed twice.
abbrev AllowedUnowned : ℕ → CoreState → Event → Type 0
AllowedUnowned N s (Close t p) = Runs (stage s.cells t.0)
AllowedUnowned N s e = Allowed N s e

closed_twice : AllowedUnowned 2 root_alone (Make (cell 0))
    × AllowedUnowned 2 (after root_alone (Make (cell 0))) (Close (cell 0) (cell 1))
    × AllowedUnowned 2 (run_to (Make (cell 0) ∷ Close (cell 0) (cell 1) ∷ [])) (Close (cell 0) (cell 1))
closed_twice = ((tt, omega arith), tt, tt)

-- An edge of PHASE more, from Alarmed to Running: a task that has alarmed doesn't stay so.
abbrev IsStoredOverToo : Phase → Phase → Type 0
IsStoredOverToo p q = IsStoredOver p q
    ⊎ ((c : CellId) × (way : Way) × (p ≡ phase.Waiting c way walk.Alarmed) × (q ≡ phase.Running))

alarm_lost : (p : Phase) × (q : Phase) × IsForGood p × IsStoredOverToo p q × (q ≢ p)
alarm_lost = (
  phase.Waiting (cell 1) Other walk.Alarmed,
  phase.Running,
  tt,
  inr (cell 1, Other, refl, refl),
  λ e. absurd (cc),
)

-- The beginning of what a history prints turned into its end: what a task has printed by its first ask isn't that. The
-- task prints 1 and then 2.
abbrev prints_asks : ℕ → Answer → Ask ℕ
prints_asks zero a = ask.End (pay.Num (pos 0))
prints_asks (suc zero) a = ask.Emit (pos 2)
prints_asks (suc (suc n)) a = ask.Emit (pos 1)

abbrev prints_then : ℕ → Answer → ℕ
prints_then zero a = zero
prints_then (suc n) a = n

abbrev prints_two : Rules ℕ
prints_two = rules_of (λ b. 1) (λ b. nothing) (λ b. b) prints_asks prints_then false

abbrev Ends : {A : Type 0} → List A → List A → Type 0
Ends {A} xs ys = (front : List A) × (ys ≡ front ++ xs)

first_print : (point_after prints_two (λ q. None) 1 (root_task 2)).prints ≡ pos 1 ∷ []
first_print = refl

all_prints : (history prints_two (λ q. None) (root_task 2)).prints ≡ pos 1 ∷ pos 2 ∷ []
all_prints = refl

no_end : ¬ Ends (pos 1 ∷ []) (pos 1 ∷ pos 2 ∷ [])
no_end ([], e) = absurd (cc)
no_end (x ∷ [], e) = absurd (cc)
no_end (x ∷ y ∷ [], e) = absurd (cc)
no_end (x ∷ y ∷ z ∷ front, e) = absurd (cc)
