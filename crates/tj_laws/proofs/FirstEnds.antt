-- Seven steps from a new table on: the root is claimed, which ends at once; its result is closed, its record put home
-- with its finish as Ended is stored, the chain of its result shut, and LIVE lowered.
use Rattle.std.proofs.Common.{◌≡◌, ◌≢◌, ◌<◌, ◌∙◌, ◌-◌, ◌+◌, ◌%◌, ◌^◌, ℕ, Bool, List, [], ◌∷◌, Option, Some}
use Rattle.std.proofs.Common.{refl, sym, ap, subst, inl, inr, ⊎_elim, arith}
use mathlib.Core.Option.{none, some}
use lib.ListN.{get_elem?}
use Rattle.atomic_table.specs.Table.{State, step}
use Rattle.tj_body.specs.Asks.{Await}
use Rattle.tj_body.specs.History.{after_close, start, to_task}
use Rattle.tj_body.specs.Laws.{HoldsOfPrograms}
use Rattle.tj_body.specs.Points.{IsIn}
use Rattle.tj_body.specs.Programs.{Program, program_of, root_task}
use Rattle.tj_body.specs.RoundPoints.{Becomes, IsOfRounds, TasksStart, WritesBecome}
use Rattle.tj_body.specs.declared.ask.Answer.{Answer}
use Rattle.tj_body.specs.declared.ask.Answer.TheVariants as answer
use Rattle.tj_body.specs.declared.ask.Ask.{Ask}
use Rattle.tj_body.specs.declared.point.Close.{Close}
use Rattle.tj_body.specs.declared.point.Entry.{Entry}
use Rattle.tj_body.specs.declared.point.Point.{Point}
use Rattle.tj_body.specs.declared.point.Reference.{Reference}
use Rattle.tj_body.proofs.Histories.EndedPoints.{result_of}
use Rattle.tj_body.proofs.RoundPoints.{points_ask}
use Rattle.tj_events.specs.Laws.{EventKeepsFacts, StartMeetsFacts}
use Rattle.tj_events.specs.WalkLaws.{OthersAreFew}
use Rattle.tj_log.specs.Laws.{StandsIn}
use Rattle.tj_log.specs.Runs.{Past, begins, steps}
use Rattle.tj_record.specs.declared.record.Finish.{Finish}
use Rattle.tj_record.specs.declared.record.Rec.{Rec}
use Rattle.tj_words.specs.declared.head.Head.TheVariants.{Empty, Shut}
use Rattle.tj_words.specs.declared.offsets.Once.TheVariants as once
use Rattle.tj_words.specs.declared.phase.Phase.TheVariants as phase
use Rattle.tj_words.specs.declared.table.Key.{Key}
use Rattle.tj_words.specs.declared.view.View.{View}
use Rattle.tj_words.specs.Law.{Rule}
use Rattle.tj_words.specs.CallLaws.RestedRuns.{Ruled, last_moment}
use Rattle.tj_words.specs.CallLaws.StepCalls as call
use Rattle.tj_words.specs.Calls.ChainSteps.{KnowsEntry, TakesChain, shut_swap, took_chain}
use Rattle.tj_words.specs.Calls.ExchangeViews.{MaySwap}
use Rattle.tj_words.specs.Calls.EntryViews.{MayPutBits, MayPutTag, bits_store, tag_store, wrote_bits, wrote_tag}
use Rattle.tj_words.specs.Calls.LiveViews.{MayEnd, MayLowerLive, ended, ended_store, homed, live_lowered, live_sub}
use Rattle.tj_words.specs.Calls.OwnerViews.{MayClose, closed_cell, gave_up, owner_put}
use Rattle.tj_words.specs.Calls.TakenRecords.{TakesRecord, custody_of, took_record}
use Rattle.tj_words.specs.LawParts.Chains.{head_of}
use Rattle.tj_words.specs.LawParts.Contents.{WordsSay}
use Rattle.tj_words.specs.LawParts.FirstState.{first_slots, first_words, root_record}
use Rattle.tj_words.specs.LawParts.NamedCells.{record_cells}
use Rattle.tj_words.specs.LawParts.Telling.{Tells, tag_of}
use Rattle.tj_words.specs.LawParts.TreeWords.{IsCell}
use Rattle.tj_words.specs.SeatViews.KnownEntries.{ToldBy}
use Rattle.tj_words.specs.SeatViews.SeatSteps.{SeatMe}
use Rattle.tj_words.specs.SeatViews.Views.{stepped_on}
use Rattle.tj_words.specs.Words.Heads.{head_in, shut_word}
use Rattle.tj_words.specs.Words.Offsets.{head_at, live_at, once_at, own_at, phase_at, word}
use Rattle.tj_words.proofs.Cells.OwnerStores.{owner_allowed}
use Rattle.tj_words.proofs.Phases.PhaseSteps.{ended_allowed}
use Rattle.tj_words.proofs.Prelude.{phase_swap}
use Rattle.tj_words.proofs.SeatLoads.LoggedSteps.{exchange_hit, exchange_missed}
use Rattle.tj_words.proofs.Seating.FirstWords.{first_words_say}
use Rattle.tj_words.proofs.Seating.Opening.{opening_meets}
use Rattle.tj_words.proofs.Stores.EntryStores.{bits_allowed, tag_allowed}
use Rattle.tj_words.proofs.Stores.SeatLists.{word_here}
use Rattle.tj_words.proofs.Waiters.HeadSteps.{shut_allowed}
use Rattle.tj_words.proofs.Waiters.LiveCalls.{down_allowed}
use Rattle.tj_words.proofs.Calls.LoggedRuns.{ran}
use Rattle.tj_words.specs.CallLaws.StepLogs.{entry_of}
use Rattle.tj_runs.specs.HomeRecords.{EndedRecordsLie}
use Rattle.tj_runs.specs.OwnRuns.{AreTheLast}
use Rattle.tj_laws.specs.EndedRoots.{HasEndedRun, HasEndedStore, RootsEnd}
use Rattle.tj_laws.proofs.FirstAlarms.{took}
use Rattle.tj_laws.proofs.FirstClaims.{after, allowed, first, found_is, seat}
use Rattle.tj_laws.proofs.FirstRests.{taken_is}
use Rattle.tj_laws.proofs.FirstTags.{bits_written}
use Rattle.tj_laws.proofs.FirstCloses.{IsEnding, asked, ending}
use Rattle.tj_laws.proofs.RunSteps.{GoesOn, Ran, goes_on, kept, with_slots}

-- a chain whose head is empty has no task
none_in : (chain : List ℕ) → Empty ≡ head_of chain → chain ≡ []
none_in [] e = refl
none_in (t ∷ ts) e = absurd (cc)

-- the last moment of a run is one of the last ones
at_end : {B : Type 0} (program : Bool → B → Program B) (key : Key B) (u : Ruled program key)
    (later : List (Ruled program key))
    → AreTheLast program key u later (last_moment program key u later) []
at_end program key u [] = (refl, refl)
at_end program key u (w ∷ ws) = inr (at_end program key w ws)

module _ {B : Type 0} (program : Bool → B → Program B) (key : Key B) (some_cells : 0 < key.cells)
    (keeps_facts : EventKeepsFacts) (few : OthersAreFew)
    (rule : Rule program key (first program key some_cells keeps_facts)) where
  abbrev P : Program B
  P = program key.strict key.root.value

  abbrev root : B
  root = key.root.value

  -- the root's record at its start
  abbrev opened : Rec B
  opened = root_record root

  -- the seat before its first step
  abbrev m0 : SeatMe B
  m0 = (seat program key some_cells keeps_facts, [])

  -- a new table came so by no step
  abbrev h0 : Ran program key m0
  h0 = record {
    now = record { now = first program key some_cells keeps_facts; rule = rule };
    past = begins;
    run = record {
      holds = rule;
      came = tt;
      words = first_words key.cells;
      slots = first_slots key.cells key.root.value;
      opens = (refl, refl);
      start = refl;
    };
    at = refl;
    slots = refl;
  }

  -- the seat has taken this record
  abbrev Takes : Rec B → Type 0
  Takes x = (t : TakesRecord program 0 m0.0 x)
      × (after program key some_cells keeps_facts rule
      ≡ (stepped_on (took_record x t.born t.more m0.0), (0, Some x) ∷ []))

  -- which is that of the root at its start
  takes : Takes opened
  takes =
      let t = took program key some_cells keeps_facts few rule in
      subst Takes (sym (taken_is program key some_cells keeps_facts few rule)) (t.1, t.2)

  abbrev k : TakesRecord program 0 m0.0 opened
  k = takes.0

  abbrev m1 : SeatMe B
  m1 = (stepped_on (took_record opened k.born k.more m0.0), (0, Some opened) ∷ [])

  abbrev may_claim : MaySwap 0 phase.Ready phase.Running m0.0
  may_claim = inl (refl, refl, (record { root = root; cells = key.cells; strict = key.strict }, refl))

  -- the root is claimed
  h1 : GoesOn program key m0 h0 (call.swaps_phase 0) 1 2 m1
  h1 =
      let a = allowed program key some_cells keeps_facts rule in
      goes_on program key m0 h0 (call.swaps_phase 0) 1 2 m1
      (λ z. phase_swap program 0 key.cells (step key.cells (phase_at 0) 1 2 none) m0
      (word (first_words key.cells) (phase_at 0)) z × (z ≡ after program key some_cells keeps_facts rule))
      (omega (arith, some_cells)) (a.0, a.1, a.2, a.3, (a.4, refl), a.5) tt
      (λ z t. (((λ e. exchange_hit _ 1 2 e), (λ n. exchange_missed _ 1 2 n), (may_claim, t.0)), t.1 ∙ takes.1))

  module _ (starts : TasksStart P) (written : WritesBecome P) (is_root : P.root ≡ root) (how : Finish)
      (result : Entry) (closes : Close) (bits : ℕ) (ends : IsEnding P root how result closes bits) where
    -- the point at which the root has ended
    abbrev closed_point : Point B
    closed_point = after_close closes result (asked P root)

    -- by its meaning
    of_rounds : IsOfRounds P closed_point
    of_rounds =
        let begun = subst (λ (b : B). IsOfRounds P (start (root_task b))) is_root
        (starts.1 (root_task P.root) starts.0).1 in
        subst (IsOfRounds P) ends.after (points_ask P (start (root_task root)) answer.Start begun refl)

    -- and this becomes of its result
    becomes : Becomes P [] result
    becomes = written closed_point [] result of_rounds (inl refl)

    -- its record then
    abbrev closed_record : Rec B
    closed_record = record opened {
      body = P.rules.then root answer.Start;
      owned = [];
      owed = [];
      finish = Some how;
    }

    -- the seat after each step
    abbrev m2 : SeatMe B
    m2 = (closed_cell 0 0 m1.0, m1.1)

    abbrev m3 : SeatMe B
    m3 = (wrote_bits 0 result m2.0, m2.1)

    abbrev m4 : SeatMe B
    m4 = (wrote_tag 0 result m3.0, m3.1)

    -- the record is put into its slot
    abbrev put : SeatMe B
    put = (m4.0, (0, Some closed_record) ∷ [])

    abbrev m5 : SeatMe B
    m5 = (homed put.1 (ended 0 put.0), [])

    abbrev m6 : SeatMe B
    m6 = (took_chain 0 [] m5.0, [])

    abbrev m7 : SeatMe B
    m7 = live_lowered m6

    born : IsCell m1.0.born 0 (to_task [])
    born = ap (λ (l : List Reference). get_elem? l 0) k.begins.1

    -- nobody owns the root's result any more
    h2 : GoesOn program key m1 h1.ran (call.puts_owner 0) 0 0 m2
    h2 =
        let u = h1.ran.now in
        let small = (u.rule.codes.each 0 some_cells).own in
        let bound = u.rule.few_cells in
        goes_on program key m1 h1.ran (call.puts_owner 0) 0 0 m2
        (λ z. owner_put 0 (step key.cells (own_at 0) 0 0 none) m1 0 z) (omega (arith, some_cells))
        (owner_allowed program key keeps_facts key.cells 0 m1 0 (own_at 0) 0 0 some_cells refl refl may u.now u.rule
        u.rule.all_slots h1.ran.at (omega (arith, small, bound))) tt
        (λ z t. ((refl, (may, t)), λ i. (t.1 may i, t.0 i)))
      where
        may : MayClose 0 m1.0
        may = record {
          task = 0;
          owner = record {
            custody = custody_of opened;
            held = refl;
            may = tt;
            out = refl;
            result = inl refl;
            owns = inl refl;
          };
          last = λ e. (refl, refl);
        }

    -- BITS is 0 so far
    bits2 : word h2.ran.now.now.words (once_at 0 once.Bits) ≡ 0
    bits2 =
        kept program key m1 h1.ran (call.puts_owner 0) 0 0 m2 h2 (once_at 0 once.Bits) (λ e. omega arith)
        ∙ (kept program key m0 h0 (call.swaps_phase 0) 1 2 m1 h1 (once_at 0 once.Bits) (λ e. omega arith)
        ∙ ap (λ (w : WordsSay). w.once 0 once.Bits) (first_words_say key.cells some_cells))

    -- BITS is written
    h3 : GoesOn program key m2 h2.ran (call.puts_once 0 once.Bits) bits 0 m3
    h3 =
        let u = h2.ran.now in
        let small = bits2 in
        goes_on program key m2 h2.ran (call.puts_once 0 once.Bits) bits 0 m3
        (λ z. bits_store program 0 (step key.cells (once_at 0 once.Bits) bits 0 none) m2 bits z)
        (omega (arith, some_cells))
        (bits_allowed program key key.cells 0 m2 0 (once_at 0 once.Bits) bits 0 some_cells refl refl may u.now u.rule
        u.rule.all_slots h2.ran.at (omega (arith, small))) tt
        (λ z t. ((refl, (may, t.0, t.1)), λ i. (t.1 may i, t.0 i)))
      where
        may : MayPutBits program 0 bits m2.0
        may = record {
          due = inl refl;
          about = record { root = root; cells = key.cells; strict = key.strict };
          is_about = refl;
          entry = result;
          may = record {
            to_become = (to_task [], born, becomes);
            bits_say = ends.bits_say m1.0.born born;
            knows = ends.names m1.0.known (inl refl);
          };
        }

    -- and TAG
    h4 : GoesOn program key m3 h3.ran (call.puts_once 0 once.Tag) (tag_of result) 0 m4
    h4 =
        let u = h3.ran.now in
        let small = (u.rule.codes.each 0 some_cells).tag in
        goes_on program key m3 h3.ran (call.puts_once 0 once.Tag) (tag_of result) 0 m4
        (λ z. tag_store 0 (step key.cells (once_at 0 once.Tag) (tag_of result) 0 none) m3 (tag_of result) z)
        (omega (arith, some_cells))
        (tag_allowed program key key.cells 0 m3 0 (once_at 0 once.Tag) (tag_of result) 0 some_cells refl refl may u.now
        u.rule u.rule.all_slots h3.ran.at (omega (arith, small))) tt
        (λ z t. ((refl, (may, t.0, t.1)), λ i. (t.1 may i, t.0 i)))
      where
        may : MayPutTag 0 (tag_of result) m3.0
        may = record {
          due = inl refl;
          bits_first = bits_written;
          entry = result;
          wrote = inl refl;
          tag = refl;
          backed = inr (0, gave_up 0 (custody_of opened), refl, tt);
        }

    -- a word that isn't one of these is as it was after the claim
    words_of : (j : ℕ) → j ≢ own_at 0 → j ≢ once_at 0 once.Bits → j ≢ once_at 0 once.Tag
        → word h4.ran.now.now.words j ≡ word h1.ran.now.now.words j
    words_of j a b c =
        kept program key m3 h3.ran (call.puts_once 0 once.Tag) (tag_of result) 0 m4 h4 j c
        ∙ (kept program key m2 h2.ran (call.puts_once 0 once.Bits) bits 0 m3 h3 j b
        ∙ kept program key m1 h1.ran (call.puts_owner 0) 0 0 m2 h2 j a)

    -- PHASE is Running still
    runs4 : word h4.ran.now.now.words (phase_at 0) ≡ 2
    runs4 =
        let wide = rule.all_words in
        let w = words_of (phase_at 0) (λ e. omega arith) (λ e. omega arith) (λ e. omega arith) in
        w ∙ (ap (λ l. word l (phase_at 0)) h1.words
        ∙ (word_here (first_words key.cells) (phase_at 0) _ (omega (arith, wide, some_cells))
        ∙ exchange_hit _ 1 2 (found_is program key some_cells keeps_facts rule)))

    abbrev hp : Ran program key put
    hp = with_slots program key m4 h4.ran put.1 refl

    all_known : (c : ℕ) → IsIn c (record_cells closed_record) → IsIn c m4.0.known
    all_known c (inl e) = inl e
    all_known c (inr (inl e)) = inl e
    all_known c (inr (inr i)) = inl (ends.cells c i)

    tells : Tells m4.0.born closed_record closed_point
    tells = record {
      of = born;
      body = refl;
      held = ((born, refl), tt);
      owned_cells = tt;
      made = refl;
      prints = refl;
      owed = ([], tt, refl);
    }

    told : ToldBy P m4.0.born m4.0.filled closed_record
    told = record {
      point = closed_point;
      tells = tells;
      tells_stage = (closes, ends.finish_says m1.0.born born, refl);
      stands = record {
        of_rounds = of_rounds;
        children = λ c i. absurd i;
        promises = λ q i. absurd i;
        writes = λ q e i. ⊎_elim
            (λ z. (
              0,
              to_task [],
              born,
              sym (ap (λ w. w.0) z),
              inl (ap (λ w. record { cell = 0; entry = w.1 }) z),
            ))
            (λ x. absurd x) i;
      };
    }

    -- the root has ended, and its record is home
    h5 : GoesOn program key put hp (call.puts_phase 0) 3 0 m5
    h5 =
        let u = h4.ran.now in
        let small = runs4 in
        goes_on program key put hp (call.puts_phase 0) 3 0 m5
        (λ z. ended_store 0 (step key.cells (phase_at 0) 3 0 none) put 3 z) (omega (arith, some_cells))
        (ended_allowed program key key.cells 0 put 0 (phase_at 0) 3 0 some_cells refl refl refl refl may u.now u.rule
        u.rule.all_slots h4.ran.at (omega (arith, small))) (some_cells, may)
        (λ z t. ((refl, t), t))
      where
        may : MayEnd program 0 put
        may = record {
          custody = gave_up 0 (custody_of opened);
          held = refl;
          runs = refl;
          no_hand = λ h e. absurd (cc);
          record_of = closed_record;
          puts = record {
            slot = refl;
            cell = refl;
            owned = refl;
            made = refl;
            knows = all_known;
            told = (record { root = root; cells = key.cells; strict = key.strict }, refl, told);
          };
          finish = how;
          finished = refl;
          owns_none = refl;
          room = omega arith;
        }

    -- no task waits for its result
    head5 : head_in (word h5.ran.now.now.words (head_at 0)) ≡ Empty
    head5 = ap head_in
        (kept program key put hp (call.puts_phase 0) 3 0 m5 h5 (head_at 0) (λ e. omega arith)
        ∙ (words_of (head_at 0) (λ e. omega arith) (λ e. omega arith) (λ e. omega arith)
        ∙ kept program key m0 h0 (call.swaps_phase 0) 1 2 m1 h1 (head_at 0) (λ e. omega arith)))
        ∙ ap (λ (w : WordsSay). w.head 0) (first_words_say key.cells some_cells)

    -- its head is shut
    h6 : GoesOn program key m5 h5.ran (call.shuts 0) shut_word 0 m6
    h6 =
        let u = h5.ran.now in
        let small = (u.rule.codes.each 0 some_cells).head in
        let bound = u.rule.few_cells in
        let n = word u.now.words (head_at 0) in
        goes_on program key m5 h5.ran (call.shuts 0) shut_word 0 m6
        (λ z. shut_swap key.cells 0 (step key.cells (head_at 0) shut_word 0 none) m5 n z) (omega (arith, some_cells))
        (shut_allowed program key key.cells 0 m5 0 (head_at 0) shut_word key.cells 0 some_cells refl refl refl refl
        knows refl (inl (omega arith)) u.now u.rule u.rule.all_slots h5.ran.at
        (⊎_elim (λ e. omega (arith, e)) (λ l. omega (arith, l, bound)) small)) (knows, refl, inl (omega arith))
        (λ z t. ((refl, t), is z t.0 (subst (λ h. TakesChain key.cells 0 h m5.0 z.0) head5 (t.3 (unshut n head5)))))
      where
        knows : KnowsEntry 0 m5.0
        knows = (record { cell = 0; entry = result }, inl refl, refl)

        unshut : (n : ℕ) → head_in n ≡ Empty → head_in n ≢ Shut
        unshut n e s = let z : Empty ≡ Shut = sym e ∙ s in absurd (cc)

        is : (z : SeatMe B) → z.1 ≡ m5.1 → TakesChain key.cells 0 Empty m5.0 z.0 → z ≡ m6
        is z s t = λ i. ((t.view ∙ ap (λ c. took_chain 0 c m5.0) (none_in t.chain t.is)) i, s i)

    -- LIVE is 1 still
    live6 : word h6.ran.now.now.words live_at ≡ 1
    live6 =
        kept program key m5 h5.ran (call.shuts 0) shut_word 0 m6 h6 live_at (λ e. omega arith)
        ∙ (kept program key put hp (call.puts_phase 0) 3 0 m5 h5 live_at (λ e. omega arith)
        ∙ (words_of live_at (λ e. omega arith) (λ e. omega arith) (λ e. omega arith)
        ∙ (kept program key m0 h0 (call.swaps_phase 0) 1 2 m1 h1 live_at (λ e. omega arith)
        ∙ ap (λ (w : WordsSay). w.live) (first_words_say key.cells some_cells))))

    -- and is lowered
    h7 : GoesOn program key m6 h6.ran call.lowers_live 1 0 m7
    h7 =
        let u = h6.ran.now in
        let one = live6 in
        goes_on program key m6 h6.ran call.lowers_live 1 0 m7
        (λ z. live_sub (step key.cells live_at 1 0 none) m6 (word u.now.words live_at) z) (omega (arith, some_cells))
        (down_allowed program key key.cells 0 m6 may u.now u.rule u.rule.all_slots h6.ran.at (omega (arith, one))) may
        (λ z t. ((omega (arith, one), t), t))
      where
        may : MayLowerLive program m6
        may = record {
          token = omega arith;
          shelves = tt;
          backing = record {
            wakes = λ w. absurd (⊎_elim (λ n. n refl) (λ q. ⊎_elim (λ n. n refl) (λ z. let e = z.1 in cc) q) w);
            tags = λ d. absurd d.1;
            alarms = λ h. let e = h.2 in absurd (cc);
          };
        }

    live7 : word h7.ran.now.now.words live_at ≡ 0
    live7 =
        let one = live6 in
        let wide = h6.ran.now.rule.all_words in
        ap (λ l. word l live_at) h7.words
        ∙ (word_here h6.ran.now.now.words live_at _ (omega (arith, wide, some_cells))
        ∙ (let z : (word h6.ran.now.now.words live_at + (2 ^ 64 - 1)) % 2 ^ 64 ≡ 0 = omega (arith, one) in z))

    -- the step that stored Ended stands in the past
    stored : HasEndedStore 0 h7.ran.now.now h7.ran.past
    stored = (
      h4.ran.now.now,
      h5.ran.now.now,
      h4.ran.past,
      0,
      3,
      put.1,
      h5.act,
      refl,
      subst (StandsIn h5.ran.now.now came h7.ran.now.now) (sym h7.past)
          (inr (subst (StandsIn h5.ran.now.now came h6.ran.now.now) (sym h6.past)
          (inr (subst (StandsIn h5.ran.now.now came h5.ran.now.now) (sym h5.past) (inl (refl, refl)))))),
    )
      where
        came : Past (Option (Rec B)) (View B)
        came = steps h4.ran.past h4.ran.now.now 0 (entry_of (call.puts_phase 0) 3 0 3) put.1 h5.act

    -- so the table has a run in which its root has ended
    pub has_ended : EndedRecordsLie B → HasEndedRun program key how
    has_ended lie =
        let s = h7.ran.now.now in
        let q = ran program key s h7.ran.past h7.ran.run in record {
          last = s;
          run = q.0;
          stored = subst (HasEndedStore 0 s) (sym q.1) stored;
          id = 0;
          view = m7.0;
          at = h7.ran.at;
          record_of = closed_record;
          put = inl refl;
          finish = refl;
          lies = lie program m7.0 closed_record (inl refl) (how, refl) key s q.0
              (last_moment program key q.0.first q.0.later) [] (at_end program key q.0.first q.0.later) 0
              (subst (λ (z : State (Option (Rec B)) (View B)). get_elem? z.views 0 ≡ some m7.0) (sym q.0.end)
              h7.ran.at);
          live = live7;
        }

module _ {B : Type 0} (places : B → ℕ) (awaits : B → Await) (left : B → ℕ) (asks : B → Answer → Ask B)
    (then : B → Answer → B) where
  pub roots_end : StartMeetsFacts → EventKeepsFacts → OthersAreFew
      → HoldsOfPrograms places awaits left asks then TasksStart
      → HoldsOfPrograms places awaits left asks then WritesBecome → EndedRecordsLie B
      → RootsEnd places awaits left asks then
  roots_end start_meets keeps_facts few starts writes lie key some_cells few_cells fresh V e closes sayable =
      let begun = starts key.strict key.root.value fresh in
      let written = writes key.strict key.root.value fresh in
      let P = program key.strict key.root.value in
      let h = ending P key.root.value e sayable (asks key.root.value answer.Start) refl closes in (
        h.0,
        h.1,
        has_ended program key some_cells keeps_facts few rule begun written refl h.0 (result_of e) e h.2 h.3 lie,
      )
    where
      program : Bool → B → Program B
      program = program_of places awaits left asks then

      rule : Rule program key (first program key some_cells keeps_facts)
      rule = opening_meets program key some_cells few_cells start_meets (starts key.strict key.root.value fresh) fresh
          refl (first_words key.cells) (first_slots key.cells key.root.value) refl refl
