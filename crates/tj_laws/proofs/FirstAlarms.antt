-- Six steps from a new table on: its seat claims the root, and the root waits for its own result, walks and alarms.
use Rattle.std.proofs.Common.{◌≡◌, ◌≢◌, ◌<◌, ◌≤◌, ◌∙◌, ◌+◌, ◌%◌, ◌^◌, ℕ, Bool, List, [], ◌∷◌, Option, Some, None}
use Rattle.std.proofs.Common.{refl, sym, ap, inl, ⊎_elim, length, set, min, arith}
use mathlib.Core.Option.{none, some, some-ne-none}
use lib.ListN.{get_elem?}
use Rattle.atomic_table.specs.Table.{Step, carried_after, step, stepped}
use Rattle.tj_body.specs.Asks.{Await}
use Rattle.tj_body.specs.Laws.{HoldsOfPrograms}
use Rattle.tj_body.specs.Programs.{Program, program_of}
use Rattle.tj_body.specs.RoundPoints.{TasksStart}
use Rattle.tj_body.specs.declared.ask.Answer.{Answer}
use Rattle.tj_body.specs.declared.ask.Answer.TheVariants as answer
use Rattle.tj_body.specs.declared.ask.Ask.{Ask}
use Rattle.tj_body.specs.declared.point.Reference.{Reference}
use Rattle.tj_events.specs.CoreState.{present}
use Rattle.tj_events.specs.Events.{MayCount, count_read, owner_read, start_walk}
use Rattle.tj_events.specs.Laws.{EventKeepsFacts, StartMeetsFacts}
use Rattle.tj_events.specs.WalkLaws.{OthersAreFew}
use Rattle.tj_events.specs.declared.walk.Walker.{Walker}
use Rattle.tj_events.specs.declared.walk.Way.TheVariants.{Other}
use Rattle.tj_log.specs.Asks.{Allows}
use Rattle.tj_words.specs.declared.phase.Phase.TheVariants as phase
use Rattle.tj_words.specs.declared.phase.Walk.TheVariants as walk
use Rattle.tj_record.specs.declared.record.Rec.{Rec}
use Rattle.tj_words.specs.declared.table.Key.{Key}
use Rattle.tj_words.specs.declared.view.Custody.{Custody}
use Rattle.tj_words.specs.declared.view.Does.{Does}
use Rattle.tj_words.specs.declared.view.Does.TheVariants as does
use Rattle.tj_words.specs.Law.{Rule}
use Rattle.tj_words.specs.CallLaws.CallRuns.{AreAskedMoments, IsAskedStep, asked_by}
use Rattle.tj_words.specs.CallLaws.RestedRuns.{Ruled, last_moment}
use Rattle.tj_words.specs.CallLaws.StepCalls.{StepCall, place_of, told_by}
use Rattle.tj_words.specs.CallLaws.StepCalls as call
use Rattle.tj_words.specs.Calls.TakenRecords.{TakesRecord, took_record}
use Rattle.tj_words.specs.Calls.WaitViews.{MayPublishWait, MayStoreAlarm, wait_store}
use Rattle.tj_words.specs.Calls.WalkViews.{IsWalking, MayLoadOwner, MayRaise, others_add, owner_seen, walk_load}
use Rattle.tj_words.specs.LawParts.Contents.{WordsSay}
use Rattle.tj_words.specs.LawParts.FirstState.{first_slots, first_words}
use Rattle.tj_words.specs.SeatViews.SeatSteps.{IsCount, SeatMe}
use Rattle.tj_words.specs.SeatViews.Views.{stepped_on}
use Rattle.tj_words.specs.Steps.QuietSteps.{does_first}
use Rattle.tj_words.specs.Steps.StepEvents.{MayAct}
use Rattle.tj_words.specs.Steps.WalkSteps.{way_by}
use Rattle.tj_words.specs.Words.Lists.{cell, numbers}
use Rattle.tj_words.specs.Words.Offsets.{others_at, own_at, phase_at, word}
use Rattle.tj_words.specs.Words.Owners.{owner_in}
use Rattle.tj_words.specs.Words.Phases.{phase_in, phase_word}
use Rattle.tj_words.proofs.Calls.StepActs.{acts_so}
use Rattle.tj_words.proofs.Phases.PhaseSteps.{wait_allowed}
use Rattle.tj_words.proofs.SeatLoads.WalkLoads.{count_read_allowed, others_small, owner_read_allowed}
use Rattle.tj_words.proofs.Seating.FirstWords.{first_words_say}
use Rattle.tj_words.proofs.Seating.Opening.{opening_meets}
use Rattle.tj_words.proofs.Stores.OneActs.{same_act}
use Rattle.tj_words.proofs.Stores.SeatLists.{word_else, word_here}
use Rattle.tj_words.proofs.Waiters.OthersSteps.{raise_allowed}
use Rattle.tj_runs.specs.Moments.{contents_at}
use Rattle.tj_laws.specs.NewTables.{RootsAlarm}
use Rattle.tj_laws.specs.TableWaits.{HasAlarmed}
use Rattle.tj_laws.proofs.FirstClaims.{after, allowed, claim, claimed, first, found_is, left_is, seat}

-- the first of a list is what is put there
pub first_set : {A : Type 0} (l : List A) (a b : A) → get_elem? l 0 ≡ some b → get_elem? (set l 0 a) 0 ≡ some a
first_set [] a b e = absurd (some-ne-none b (sym e))
first_set (x ∷ xs) a b e = refl

-- a task whose record was taken may act
pub first_acts : (a : Answer) → MayAct (does_first a)
first_acts answer.Start = tt
first_acts (answer.Local k) = tt
first_acts answer.Done = tt
first_acts (answer.Num i) = tt
first_acts (answer.RefAt k) = tt
first_acts answer.Lost = tt

module _ {B : Type 0} (program : Bool → B → Program B) (key : Key B) where
  -- a later moment, to which a call of the first seat leads that stores n at this place
  pub record GoesTo (u : Ruled program key) (place n : ℕ) (m : SeatMe B) : Type 0 where
    pub later : Ruled program key
    pub asked : IsAskedStep program key u.now later.now
    pub at : get_elem? later.now.views 0 ≡ some m.0
    pub words : later.now.words ≡ set u.now.words place n

  -- the same, where the call tells this of its seat
  pub record Reaches (u : Ruled program key) (place n : ℕ) (T : SeatMe B → Type 0) : Type 0 where
    pub later : Ruled program key
    pub asked : IsAskedStep program key u.now later.now
    pub seat : SeatMe B
    pub at : get_elem? later.now.views 0 ≡ some seat.0
    pub words : later.now.words ≡ set u.now.words place n
    pub told : T seat

  -- a call that is allowed and asked for leads to one
  pub reaches : (u : Ruled program key) (m : SeatMe B) → get_elem? u.now.views 0 ≡ some m.0 → (c : StepCall)
      (f : ℕ → ℕ) (T : ℕ → SeatMe B → Type 0) (st : Step (Option (Rec B)))
      → Allows (Rule program key) key.cells 0 m (place_of c) f T → place_of c < length u.now.words
      → word u.now.words (place_of c) < 18446744073709551616 → asked_by program key c st m
      → ((x : SeatMe B) → T (word u.now.words (place_of c)) x
      → told_by program key.cells c (f (word u.now.words (place_of c))) st m (word u.now.words (place_of c)) x)
      → Reaches u (place_of c) (f (word u.now.words (place_of c))) (T (word u.now.words (place_of c)))
  reaches u m at c f T st allows inside small asks then =
      let k = word u.now.words (place_of c) in
      let a = allows u.now u.rule u.rule.all_slots at small in
      let x : SeatMe B = (a.0, carried_after m.1 a.1) in
      let t = then x a.4 in
      let o = acts_so program key st (f k) k m x c t in
      let same = same_act u.now.homes m.1 a.1 o.0 a.5 o.2 a.2 o.3 in record {
        later = record { now = stepped u.now (place_of c) (f k) 0 m.1 a.0 a.1; rule = a.3 };
        asked = inl record {
          made = record {
            call = c;
            act = o.0;
            id = 0;
            number = f k;
            seat = m;
            seat_after = x;
            operands = st;
            makes = record {
              at = at;
              inside = inside;
              may = same.0;
              after = λ j. record {
                words = set u.now.words (place_of c) (f k);
                homes = same.1 j;
                views = set u.now.views 0 a.0;
              };
              slots = o.3;
            };
            told = t;
          };
          asks = asks;
          acts = o.1;
        };
        seat = x;
        at = first_set u.now.views a.0 m.0 at;
        words = refl;
        told = a.4;
      }

  -- and to this seat, where the call tells that it is the one after
  pub goes : (u : Ruled program key) (m m' : SeatMe B) → get_elem? u.now.views 0 ≡ some m.0 → (c : StepCall)
      (f : ℕ → ℕ) (T : ℕ → SeatMe B → Type 0) (st : Step (Option (Rec B)))
      → Allows (Rule program key) key.cells 0 m (place_of c) f T → place_of c < length u.now.words
      → word u.now.words (place_of c) < 18446744073709551616 → asked_by program key c st m
      → ((x : SeatMe B) → T (word u.now.words (place_of c)) x
      → told_by program key.cells c (f (word u.now.words (place_of c))) st m (word u.now.words (place_of c)) x
      × (x ≡ m'))
      → GoesTo u (place_of c) (f (word u.now.words (place_of c))) m'
  goes u m m' at c f T st allows inside small asks then =
      let r = reaches u m at c f T st allows inside small asks (λ x t. (then x t).0) in record {
        later = r.later;
        asked = r.asked;
        at = r.at ∙ ap (λ (z : SeatMe B). some z.0) (then r.seat r.told).1;
        words = r.words;
      }

  -- a word that the call doesn't store stays
  pub kept : (u : Ruled program key) (place n : ℕ) (m : SeatMe B) (e : GoesTo u place n m) (j : ℕ) → j ≢ place
      → word e.later.now.words j ≡ word u.now.words j
  kept u place n m e j ne = ap (λ l. word l j) e.words ∙ word_else u.now.words place j n ne

module _ {B : Type 0} (program : Bool → B → Program B) (key : Key B) (some_cells : 0 < key.cells)
    (keeps_facts : EventKeepsFacts) (few : OthersAreFew)
    (rule : Rule program key (first program key some_cells keeps_facts)) where
  abbrev pub ws : List ℕ
  ws = first_words key.cells

  abbrev pub u1 : Ruled program key
  u1 = record {
    now = claimed program key some_cells keeps_facts rule;
    rule = (allowed program key some_cells keeps_facts rule).3;
  }

  -- the root's record, which the seat has taken
  pub took : (r : Rec B) × (k : TakesRecord program 0 (seat program key some_cells keeps_facts) r)
      × (after program key some_cells keeps_facts rule
      ≡ (stepped_on (took_record r k.born k.more (seat program key some_cells keeps_facts)), (0, Some r) ∷ []))
  took = let a = allowed program key some_cells keeps_facts rule in
      (a.4.0 (found_is program key some_cells keeps_facts rule)).claims refl

  abbrev pub r : Rec B
  r = took.0

  abbrev pub k : TakesRecord program 0 (seat program key some_cells keeps_facts) r
  k = took.1

  abbrev pub slots : List (ℕ × Option (Rec B))
  slots = (0, Some r) ∷ []

  -- what the seat has for the root, which does this
  abbrev pub root_does : Does → Custody B
  root_does d = record { task = 0; does = d; owned = numbers r.owned; made = r.made; home = None }

  -- the seat once the root does this, after so many steps and with so many tokens
  abbrev pub seat_when : Does → ℕ → ℕ → SeatMe B
  seat_when d n tokens = (
    record (took_record r k.born k.more (seat program key some_cells keeps_facts)) {
      steps = n;
      tokens = tokens;
      tasks = root_does d ∷ [];
    },
    slots,
  )

  abbrev pub m1 : SeatMe B
  m1 = seat_when (does_first r.answer) 1 0

  claimed_is : after program key some_cells keeps_facts rule ≡ m1
  claimed_is = took.2 ∙ (λ i. (
    record (took_record r k.born k.more (seat program key some_cells keeps_facts)) {
      steps = 1;
      tasks = record (root_does (does_first r.answer)) { task = k.of_task i } ∷ [];
    },
    slots,
  ))

  pub at1 : get_elem? u1.now.views 0 ≡ some m1.0
  at1 = ap (λ (z : SeatMe B). some z.0) claimed_is

  -- OTHERS is raised
  pub e2 : GoesTo program key u1 others_at ((word u1.now.words others_at + 1) % 2 ^ 64) (seat_when does.Raised 2 0)
  e2 =
      let small = others_small program key few u1.now u1.rule in
      let wide = u1.rule.all_words in
      goes program key u1 m1 (seat_when does.Raised 2 0) at1 (call.raises_others 0) (λ n. (n + 1) % 2 ^ 64)
      (others_add 0 (step key.cells others_at 1 0 none) m1) (step key.cells others_at 1 0 none)
      (raise_allowed program key keeps_facts few key.cells 0 m1 0 0 refl may) (omega (arith, wide, some_cells))
      (omega (arith, small)) may (λ x t. ((omega (arith, small), t), λ i. (t.1 i, t.0 i)))
    where
      may : MayRaise 0 m1.0
      may = record {
        task = root_does (does_first r.answer);
        held = refl;
        acts = first_acts r.answer;
        result = k.owns_result;
      }

  abbrev pub u2 : Ruled program key
  u2 = e2.later

  abbrev published_word : ℕ
  published_word = phase_word (phase.Waiting (cell 0) Other walk.Walking)

  abbrev m3 : SeatMe B
  m3 = seat_when (does.Walking 0 Other start_walk) 3 0

  phase2 : word u2.now.words (phase_at 0) ≡ 2
  phase2 =
      let wide = rule.all_words in
      ap (λ l. word l (phase_at 0)) e2.words
      ∙ (word_else u1.now.words others_at (phase_at 0) _ (λ e. omega arith)
      ∙ (word_here ws (phase_at 0) _ (omega (arith, wide, some_cells))
      ∙ left_is program key some_cells keeps_facts rule))

  -- the wait is published
  pub e3 : GoesTo program key u2 (phase_at 0) published_word m3
  e3 =
      let small = phase2 in
      let wide = u2.rule.all_words in
      goes program key u2 (seat_when does.Raised 2 0) m3 e2.at (call.puts_phase 0) (λ n. published_word)
      (λ n. wait_store 0 (step key.cells (phase_at 0) published_word 0 none) (seat_when does.Raised 2 0) published_word)
      (step key.cells (phase_at 0) published_word 0 none)
      (wait_allowed program key key.cells 0 (seat_when does.Raised 2 0) 0 (phase_at 0) published_word 0 some_cells refl
      refl keeps_facts 0 Other some_cells walk.Walking refl refl may) (omega (arith, wide, some_cells))
      (omega (arith, small)) (some_cells, may) (λ x t. ((refl, t), t))
    where
      may : MayPublishWait 0 0 Other (seat_when does.Raised 2 0).0
      may = record {
        custody = root_does does.Raised;
        held = refl;
        out = refl;
        may = refl;
        result = k.owns_result;
        task_known = inl (sym k.of_task);
        cell_known = inl (sym k.of_task);
        its_way = sym (ap (λ (b : List Reference). way_by b 0 0) k.begins.1);
        wakes = λ w. absurd (⊎_elim (λ n. n refl) (λ q. ⊎_elim (λ n. n refl) (λ z. let e = z.1 in cc) q) w);
      }

  abbrev pub u3 : Ruled program key
  u3 = e3.later

  abbrev pub count : ℕ
  count = word u3.now.words 0

  abbrev pub counted : Walker
  counted = count_read (min count key.cells) start_walk

  abbrev m4 : SeatMe B
  m4 = seat_when (does.Walking 0 Other counted) 4 0

  -- a word that no step up to the publish has changed
  pub kept3 : (j : ℕ) → j ≢ others_at → j ≢ phase_at 0 → word u3.now.words j ≡ word ws j
  kept3 j n m = ap (λ l. word l j) e3.words ∙ (word_else u2.now.words (phase_at 0) j _ m
      ∙ (ap (λ l. word l j) e2.words ∙ (word_else u1.now.words others_at j _ n ∙ word_else ws (phase_at 0) j _ m)))

  -- COUNT is loaded
  pub e4 : GoesTo program key u3 0 count m4
  e4 =
      let one : word ws 0 ≡ 1 = ap (λ (w : WordsSay). w.count) (first_words_say key.cells some_cells) in
      let small = kept3 0 (λ e. omega arith) (λ e. omega arith) in
      let wide = u3.rule.all_words in
      goes program key u3 m3 m4 e3.at (call.counts_by 0) (λ n. n)
      (walk_load 0 (λ n. count_read (min n key.cells)) (IsCount key.cells) (step key.cells 0 0 0 none) m3)
      (step key.cells 0 0 0 none)
      (count_read_allowed program key keeps_facts key.cells 0 m3 0 0 key.cells refl refl may)
      (omega (arith, wide, some_cells)) (omega (arith, small, one)) may (λ x t. ((refl, t), λ i. (t.1 i, t.0 i)))
    where
      may : IsWalking 0 (λ p way w. MayCount way w) m3.0
      may = record {
        task = root_does (does.Walking 0 Other start_walk);
        wait = 0;
        way = Other;
        walker = start_walk;
        held = refl;
        does = refl;
        may = inl (refl, refl);
      }

  abbrev pub u4 : Ruled program key
  u4 = e4.later

  -- the walker has read its own task as owner
  abbrev pub returned : Walker
  returned = owner_read (Some 0) counted

  abbrev m5 : SeatMe B
  m5 = seat_when (does.Walking 0 Other returned) 5 0

  owner4 : owner_in (word u4.now.words (own_at 0)) ≡ Some 0
  owner4 = ap owner_in (ap (λ l. word l (own_at 0)) e4.words ∙ (word_else u3.now.words 0 (own_at 0) _ (λ e. omega arith)
      ∙ kept3 (own_at 0) (λ e. omega arith) (λ e. omega arith)))
      ∙ ap (λ (w : WordsSay). w.own 0) (first_words_say key.cells some_cells)

  -- OWN of its result is loaded
  pub e5 : GoesTo program key u4 (own_at 0) (word u4.now.words (own_at 0)) m5
  e5 =
      let small = (u4.rule.codes.each 0 some_cells).own in
      let bound = u4.rule.few_cells in
      let wide = u4.rule.all_words in
      goes program key u4 m4 m5 e4.at (call.sees_owner_by 0 0) (λ n. n)
      (walk_load 0 (λ n w. owner_seen (owner_in n) w w.last) (λ n. n ≤ key.cells) (step key.cells (own_at 0) 0 0 none)
      m4)
      (step key.cells (own_at 0) 0 0 none)
      (owner_read_allowed program key keeps_facts key.cells 0 m4 0 0 key.cells 0 (own_at 0) refl refl refl some_cells
      may)
      (omega (arith, wide, some_cells)) (omega (arith, small, bound)) may
      (λ x t. (
        (refl, t),
        (λ i. (t.1 i, t.0 i))
            ∙ ap (λ o. seat_when (does.Walking 0 Other (owner_read o counted)) 5 0) owner4,
      ))
    where
      may : IsWalking 0 (λ p way w. (0 ≡ present p w.trail) × MayLoadOwner w) m4.0
      may = record {
        task = root_does (does.Walking 0 Other counted);
        wait = 0;
        way = Other;
        walker = counted;
        held = refl;
        does = refl;
        may = (refl, inl (inl refl));
      }

  abbrev pub u5 : Ruled program key
  u5 = e5.later

  abbrev alarmed_word : ℕ
  alarmed_word = phase_word (phase.Waiting (cell 0) Other walk.Alarmed)

  phase5 : word u5.now.words (phase_at 0) ≡ 12
  phase5 =
      let wide = u2.rule.all_words in
      ap (λ l. word l (phase_at 0)) e5.words ∙ (word_else u4.now.words (own_at 0) (phase_at 0) _ (λ e. omega arith)
      ∙ (ap (λ l. word l (phase_at 0)) e4.words ∙ (word_else u3.now.words 0 (phase_at 0) _ (λ e. omega arith)
      ∙ (ap (λ l. word l (phase_at 0)) e3.words
      ∙ word_here u2.now.words (phase_at 0) published_word (omega (arith, wide, some_cells))))))

  abbrev pub m6 : SeatMe B
  m6 = seat_when (does.Alarmed 0 Other returned) 6 1

  -- and the root alarms
  pub e6 : GoesTo program key u5 (phase_at 0) alarmed_word m6
  e6 =
      let small = phase5 in
      let wide = u5.rule.all_words in
      goes program key u5 m5 m6 e5.at (call.puts_phase 0) (λ n. alarmed_word)
      (λ n. wait_store 0 (step key.cells (phase_at 0) alarmed_word 0 none) m5 alarmed_word)
      (step key.cells (phase_at 0) alarmed_word 0 none)
      (wait_allowed program key key.cells 0 m5 0 (phase_at 0) alarmed_word 0 some_cells refl
      refl keeps_facts 0 Other some_cells walk.Alarmed refl refl may) (omega (arith, wide, some_cells))
      (omega (arith, small)) (some_cells, may) (λ x t. ((refl, t), t))
    where
      may : MayStoreAlarm 0 0 Other m5.0
      may = record {
        walks = record {
          custody = root_does (does.Walking 0 Other returned);
          walker = returned;
          held = refl;
          walks = refl;
          room = omega arith;
        };
        out = refl;
        last = refl;
      }

  -- a word that no step has changed
  pub kept6 : (j : ℕ) → j ≢ others_at → j ≢ phase_at 0 → j ≢ own_at 0 → j ≢ 0 → word e6.later.now.words j ≡ word ws j
  kept6 j n m o q =
      ap (λ l. word l j) e6.words ∙ (word_else u5.now.words (phase_at 0) j _ m
      ∙ (ap (λ l. word l j) e5.words ∙ (word_else u4.now.words (own_at 0) j _ o
      ∙ (ap (λ l. word l j) e4.words ∙ (word_else u3.now.words 0 j _ q ∙ kept3 j n m)))))

  -- the moments from the claim on
  abbrev pub alarm_moments : List (Ruled program key)
  alarm_moments = u1 ∷ u2 ∷ u3 ∷ u4 ∷ u5 ∷ e6.later ∷ []

  pub alarm_run : AreAskedMoments program key record { now = first program key some_cells keeps_facts; rule = rule }
      alarm_moments
  alarm_run = (
    inl (claim program key some_cells keeps_facts rule),
    (e2.asked, (e3.asked, (e4.asked, (e5.asked, (e6.asked, tt))))),
  )

  pub root_alarms : HasAlarmed (contents_at program key (last_moment program key
      record { now = first program key some_cells keeps_facts; rule = rule } alarm_moments)) 0
  root_alarms =
      let wide = u5.rule.all_words in (
        cell 0,
        Other,
        ap phase_in (ap (λ l. word l (phase_at 0)) e6.words
            ∙ word_here u5.now.words (phase_at 0) alarmed_word (omega (arith, wide, some_cells))),
      )

module _ {B : Type 0} (places : B → ℕ) (awaits : B → Await) (left : B → ℕ) (asks : B → Answer → Ask B)
    (then : B → Answer → B) where
  pub roots_alarm : StartMeetsFacts → EventKeepsFacts → OthersAreFew
      → HoldsOfPrograms places awaits left asks then TasksStart → RootsAlarm places awaits left asks then
  roots_alarm start_meets keeps_facts few starts key some_cells few_cells fresh = (
    record { now = first program key some_cells keeps_facts; rule = rule },
    alarm_moments program key some_cells keeps_facts few rule,
    refl,
    alarm_run program key some_cells keeps_facts few rule,
    root_alarms program key some_cells keeps_facts few rule,
  )
    where
      program : Bool → B → Program B
      program = program_of places awaits left asks then

      rule : Rule program key (first program key some_cells keeps_facts)
      rule = opening_meets program key some_cells few_cells start_meets (starts key.strict key.root.value fresh) fresh
          refl (first_words key.cells) (first_slots key.cells key.root.value) refl refl
