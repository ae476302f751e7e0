-- The first step of a run: the seat of a new table claims the root.
use Rattle.std.proofs.Common.{◌≡◌, ◌<◌, ◌∙◌, ℕ, Bool, [], Option, Some, refl, sym, ap, inl, eqb, length, set, arith}
use mathlib.Core.Option.{none}
use Rattle.atomic_table.specs.Table.{Act, State, Step, Valid, carried_after, opening, step, stepped}
use Rattle.tj_body.specs.Asks.{Await}
use Rattle.tj_body.specs.Laws.{HoldsOfPrograms}
use Rattle.tj_body.specs.Programs.{Program, program_of}
use Rattle.tj_body.specs.RoundPoints.{TasksStart}
use Rattle.tj_body.specs.declared.ask.Answer.{Answer}
use Rattle.tj_body.specs.declared.ask.Ask.{Ask}
use Rattle.tj_events.specs.Laws.{EventKeepsFacts, StartMeetsFacts}
use Rattle.tj_words.specs.declared.phase.Phase.TheVariants as phase
use Rattle.tj_record.specs.declared.record.Rec.{Rec}
use Rattle.tj_words.specs.declared.table.Key.{Key}
use Rattle.tj_words.specs.declared.view.Custody.{Custody}
use Rattle.tj_words.specs.declared.view.View.{View}
use Rattle.tj_words.specs.Law.{Rule}
use Rattle.tj_words.specs.CallLaws.CallRuns.{IsAskedCall}
use Rattle.tj_words.specs.CallLaws.StepCalls.{told_by}
use Rattle.tj_words.specs.CallLaws.StepCalls as call
use Rattle.tj_words.specs.Calls.TakenRecords.{custody_of}
use Rattle.tj_words.specs.LawParts.Contents.{WordsSay}
use Rattle.tj_words.specs.LawParts.FirstState.{first_slots, first_view, first_words}
use Rattle.tj_words.specs.LawParts.Holding.{held_in}
use Rattle.tj_words.specs.SeatViews.SeatSteps.{SeatMe}
use Rattle.tj_words.specs.SeatViews.TaskLists.{let_go}
use Rattle.tj_words.specs.Words.Offsets.{phase_at, word}
use Rattle.tj_words.specs.Words.Phases.{phase_in, phase_word}
use Rattle.tj_words.proofs.Prelude.{either, phase_swap}
use Rattle.tj_words.proofs.Lemmas.{held_first, word_here}
use Rattle.tj_words.proofs.Calls.StepActs.{acts_so}
use Rattle.tj_words.proofs.Phases.PhaseExchanges.{swap_allowed}
use Rattle.tj_words.proofs.SeatLoads.LoggedSteps.{exchange_hit, exchange_missed}
use Rattle.tj_words.proofs.Seating.FirstWords.{first_words_say}
use Rattle.tj_words.proofs.Seating.Opening.{opening_meets}
use Rattle.tj_words.proofs.Stores.OneActs.{same_act}
use Rattle.tj_log.specs.Runs.{IsPlain}
use Rattle.tj_laws.specs.NewTables.{RootsAreClaimed}

module _ {B : Type 0} (program : Bool → B → Program B) (key : Key B) (some_cells : 0 < key.cells)
    (keeps_facts : EventKeepsFacts) where
  abbrev pub seat : View B
  seat = first_view key.cells key.root.value key.strict

  abbrev me : SeatMe B
  me = (seat, [])

  abbrev pub first : State (Option (Rec B)) (View B)
  first = opening (first_words key.cells) (first_slots key.cells key.root.value) seat

  -- PHASE of the root, its place, and the operands of the claim
  abbrev place : ℕ
  place = phase_at 0

  abbrev found : ℕ
  found = word (first_words key.cells) place

  abbrev was : ℕ
  was = phase_word phase.Ready

  abbrev to : ℕ
  to = phase_word phase.Running

  abbrev st : Step (Option (Rec B))
  st = step key.cells place was to none

  abbrev left : ℕ
  left = either (eqb found was) to found

  module _ (rule : Rule program key first) where
    ready : phase_in found ≡ phase.Ready
    ready = ap (λ (w : WordsSay). w.phase 0) (first_words_say key.cells some_cells)

    pub found_is : found ≡ was
    found_is = sym (rule.codes.each 0 some_cells).phase.code ∙ ap phase_word ready

    pub left_is : left ≡ to
    left_is = exchange_hit found was to found_is

    pub allowed : (w : View B) × (a : Act (Option (Rec B))) × Valid first.homes [] a
        × Rule program key (stepped first place left 0 [] w a)
        × phase_swap program 0 key.cells st me found (w, carried_after [] a) × IsPlain a
    allowed = swap_allowed program key keeps_facts key.cells 0 me key.cells 0 0 place was to phase.Ready phase.Running
        refl refl some_cells refl refl refl refl refl
        (inl (refl, refl, (record { root = key.root.value; cells = key.cells; strict = key.strict }, refl)))
        first rule rule.all_slots refl (let f = found_is in omega (arith, f))

    abbrev pub after : SeatMe B
    after = (allowed.0, carried_after [] allowed.1)

    told : told_by program key.cells (call.swaps_phase 0) left st me found after
    told = (
      (λ k. exchange_hit found was to k),
      (λ k. exchange_missed found was to k),
      (inl (refl, refl, (record { root = key.root.value; cells = key.cells; strict = key.strict }, refl)), allowed.4),
    )

    abbrev pub claimed : State (Option (Rec B)) (View B)
    claimed = stepped first place left 0 [] allowed.0 allowed.1

    pub claim : IsAskedCall program key first claimed
    claim =
        let o = acts_so program key st left found me after (call.swaps_phase 0) told in
        let same = same_act first.homes [] allowed.1 o.0 allowed.5 o.2 allowed.2 o.3 in record {
          made = record {
            call = call.swaps_phase 0;
            act = o.0;
            id = 0;
            number = left;
            seat = me;
            seat_after = after;
            operands = st;
            makes = record {
              at = refl;
              inside = inside;
              may = same.0;
              after = λ j. record {
                words = set first.words place left;
                homes = same.1 j;
                views = set first.views 0 allowed.0;
              };
              slots = o.3;
            };
            told = told;
          };
          asks = tt;
          acts = o.1;
        }
      where
        inside : place < length first.words
        inside = let l = rule.all_words in omega (arith, l, some_cells)

    running : phase_in (word claimed.words place) ≡ phase.Running
    running = ap phase_in (word_here first.words place left (let l = rule.all_words in omega (arith, l, some_cells))
        ∙ left_is)

    holds : (k : Custody B) × (held_in allowed.0.tasks 0 ≡ Some k)
    holds = let c = (allowed.4.0 found_is).claims refl in (
      custody_of c.0,
      ap (λ (m : SeatMe B). held_in m.0.tasks 0) c.2
          ∙ held_first (custody_of c.0) (let_go c.0.cell.0 []) 0 c.1.of_task,
    )

module _ {B : Type 0} (places : B → ℕ) (awaits : B → Await) (left : B → ℕ) (asks : B → Answer → Ask B)
    (then : B → Answer → B) where
  pub roots_claimed : StartMeetsFacts → EventKeepsFacts → HoldsOfPrograms places awaits left asks then TasksStart
      → RootsAreClaimed places awaits left asks then
  roots_claimed start_meets keeps_facts starts key some_cells few fresh = (
    record { now = first program key some_cells keeps_facts; rule = rule },
    record {
      now = claimed program key some_cells keeps_facts rule;
      rule = (allowed program key some_cells keeps_facts rule).3;
    },
    refl,
    inl (claim program key some_cells keeps_facts rule),
    running program key some_cells keeps_facts rule,
    ((allowed program key some_cells keeps_facts rule).0.tasks, refl, holds program key some_cells keeps_facts rule),
  )
    where
      program : Bool → B → Program B
      program = program_of places awaits left asks then

      rule : Rule program key (first program key some_cells keeps_facts)
      rule = opening_meets program key some_cells few start_meets (starts key.strict key.root.value fresh) fresh refl
          (first_words key.cells) (first_slots key.cells key.root.value) refl refl
