-- Twelve steps more: the root waits for its promise, whose head isn't shut yet, is parked and added to the chain; the
-- seat shuts the head, makes the root ready again, and claims it again.
use Rattle.std.proofs.Common.{◌≡◌, ◌≢◌, ◌<◌, ◌≤◌, ◌∙◌, ◌+◌, ◌%◌, ◌^◌, ℕ, Bool, false, List, [], ◌∷◌, Option}
use Rattle.std.proofs.Common.{Some, None, refl, sym, ap, subst, inl, inr, eqb, min, pos, arith}
use mathlib.Core.Option.{none, some}
use lib.ListN.{get_elem?}
use Rattle.atomic_table.specs.Table.{step}
use Rattle.tj_base.specs.declared.cell.Sort.TheVariants as sort
use Rattle.tj_base.specs.declared.value.Pay.TheVariants as pay
use Rattle.tj_body.specs.Asks.{Await}
use Rattle.tj_body.specs.History.{to_promise, to_task}
use Rattle.tj_body.specs.Laws.{HoldsOfPrograms, IsFullWhere}
use Rattle.tj_body.specs.Points.{IsIn}
use Rattle.tj_body.specs.Programs.{Program, program_of}
use Rattle.tj_body.specs.RoundPoints.{TasksStart, ThingsInRounds, WritesBecome}
use Rattle.tj_base.specs.ForkOrder.{Name}
use Rattle.tj_body.specs.declared.point.Entry.{Entry}
use Rattle.tj_words.specs.LawParts.Meaning.{HasCell}
use Rattle.tj_body.specs.declared.ask.Answer.{Answer}
use Rattle.tj_body.specs.declared.ask.Answer.TheVariants as answer
use Rattle.tj_body.specs.declared.ask.Ask.{Ask}
use Rattle.tj_body.specs.declared.ask.Ask.TheVariants as ask
use Rattle.tj_events.specs.CoreState.{present}
use Rattle.tj_events.specs.Events.{MayCount, count_read, owner_read, start_walk}
use Rattle.tj_events.specs.Laws.{EventKeepsFacts, StartMeetsFacts}
use Rattle.tj_events.specs.WalkLaws.{OthersAreFew}
use Rattle.tj_events.specs.declared.walk.Walker.{Walker}
use Rattle.tj_events.specs.declared.walk.Way.TheVariants.{Other}
use Rattle.tj_words.specs.declared.head.Head.{Head}
use Rattle.tj_words.specs.declared.head.Head.TheVariants.{Empty, Shut, Task}
use Rattle.tj_words.specs.declared.phase.Phase.TheVariants as phase
use Rattle.tj_words.specs.declared.phase.Walk.TheVariants as walk
use Rattle.tj_record.specs.declared.record.Rec.{Rec}
use Rattle.tj_words.specs.declared.table.Key.{Key}
use Rattle.tj_words.specs.declared.view.Custody.{Custody}
use Rattle.tj_words.specs.declared.view.Does.{Does}
use Rattle.tj_words.specs.declared.view.Does.TheVariants as does
use Rattle.tj_words.specs.declared.view.View.{View}
use Rattle.tj_words.specs.Law.{IsRooted, Rule}
use Rattle.tj_words.specs.CallLaws.CallRuns.{AreAskedMoments}
use Rattle.tj_words.specs.CallLaws.RestedRuns.{Ruled, last_moment}
use Rattle.tj_words.specs.CallLaws.StepCalls as call
use Rattle.tj_words.specs.Calls.ChainSteps.{HasPush, HasPushBehind, KnowsEntry, TakesChain, next_store, push_exchange}
use Rattle.tj_words.specs.Calls.ChainSteps.{pushed, shut_swap, stored_next, took_chain}
use Rattle.tj_words.specs.Calls.ExchangeViews.{MaySwap, phase_swap, woke_first}
use Rattle.tj_words.specs.Calls.LiveViews.{MayRaiseLive, homed, live_add, live_raised}
use Rattle.tj_words.specs.Calls.MetCells.{phase_load}
use Rattle.tj_words.specs.Calls.ParkSteps.{loaded_phase}
use Rattle.tj_words.specs.Calls.PutRecords.{PutsHome}
use Rattle.tj_words.specs.Calls.WaitViews.{MayPark, MayPublishWait, parked, published, wait_store}
use Rattle.tj_words.specs.Calls.WalkViews.{IsWalking, MayLoadOwner, MayRaise, others_add, owner_seen, read_on, turned}
use Rattle.tj_words.specs.Calls.WalkViews.{walk_load}
use Rattle.tj_words.specs.LawParts.Chains.{head_of}
use Rattle.tj_words.specs.LawParts.FirstState.{first_slots, first_words, root_record}
use Rattle.tj_words.specs.LawParts.LiveCount.{Backing}
use Rattle.tj_words.specs.LawParts.NamedCells.{record_cells}
use Rattle.tj_record.specs.TaskRecords.{own}
use Rattle.tj_words.specs.LawParts.Telling.{Tells}
use Rattle.tj_words.specs.SeatViews.KnownEntries.{HasSeen, ToldBy}
use Rattle.tj_words.specs.SeatViews.SeatSteps.{IsCount, SeatMe}
use Rattle.tj_words.specs.Words.Heads.{head_in, shut_word}
use Rattle.tj_words.specs.Words.Lists.{cell}
use Rattle.tj_words.specs.Words.Offsets.{head_at, live_at, next_at, others_at, own_at, phase_at, word}
use Rattle.tj_words.specs.Words.Owners.{owner_in}
use Rattle.tj_words.specs.Words.Phases.{phase_in}
use Rattle.tj_words.proofs.Prelude.{either}
use Rattle.tj_words.proofs.Phases.PhaseExchanges.{swap_allowed}
use Rattle.tj_words.proofs.Phases.PhaseSteps.{wait_allowed}
use Rattle.tj_words.proofs.SeatLoads.LoggedSteps.{exchange_hit, exchange_missed}
use Rattle.tj_words.proofs.SeatLoads.PhaseLoads.{phase_allowed}
use Rattle.tj_words.proofs.SeatLoads.WalkLoads.{count_read_allowed, others_small, owner_read_allowed}
use Rattle.tj_words.proofs.Seating.Opening.{opening_meets}
use Rattle.tj_words.proofs.Stores.SeatLists.{word_here}
use Rattle.tj_words.proofs.Waiters.HeadSteps.{next_allowed, push_allowed, shut_allowed}
use Rattle.tj_words.proofs.Waiters.LiveCalls.{up_allowed}
use Rattle.tj_words.proofs.Waiters.OthersSteps.{raise_allowed}
use Rattle.tj_laws.specs.Holders.{claims, phase_then}
use Rattle.tj_laws.specs.NewTables.{WaitersAreClaimedAgain}
use Rattle.tj_laws.proofs.FirstAlarms.{GoesTo, Reaches, goes, kept, reaches, u1}
use Rattle.tj_laws.proofs.FirstClaims.{claim, first}
use Rattle.tj_laws.proofs.FirstPromises.{body1, body2, body3, count9, e9, head9, in_rounds3}
use Rattle.tj_laws.proofs.FirstPromises.{live9, m9, own9, point3, quiet, result, run9, runs1, runs9, says_ready, u2, u3}
use Rattle.tj_laws.proofs.FirstPromises.{u4, u5, u6, u7, u8, u9, unclaimed9}

-- a chain whose head is this task begins with it
begins_with : (t : ℕ) (chain : List ℕ) → Task (cell t) ≡ head_of chain → (ts : List ℕ) × (chain ≡ t ∷ ts)
begins_with t [] e = absurd (cc)
begins_with t (u ∷ us) e = (us, λ i. number (sym e i) ∷ us) where
  number : Head → ℕ
  number Empty = t
  number (Task c) = c.0
  number Shut = t

module _ {B : Type 0} (program : Bool → B → Program B) (key : Key B) (some_cells : 0 < key.cells)
    (keeps_facts : EventKeepsFacts) (few : OthersAreFew)
    (rule : Rule program key (first program key some_cells keeps_facts)) (two : 1 < key.cells)
    (full : (strict : Bool) (root : B) → IsRooted (program strict root) → IsFullWhere (program strict root))
    (starts : TasksStart (program key.strict key.root.value))
    (things : ThingsInRounds (program key.strict key.root.value))
    (written : WritesBecome (program key.strict key.root.value))
    (is_root : (program key.strict key.root.value).root ≡ key.root.value)
    (makes : (program key.strict key.root.value).rules.asks key.root.value answer.Start ≡ ask.New)
    (sets : (program key.strict key.root.value).rules.asks (body1 program key some_cells keeps_facts few rule two full)
    (answer.Local 1) ≡ ask.Set 1 (pay.Num (pos 0)))
    (gets : (program key.strict key.root.value).rules.asks (body2 program key some_cells keeps_facts few rule two full)
    answer.Done ≡ ask.Get 1) where
  abbrev P : Program B
  P = program key.strict key.root.value

  -- the moment at which the promise is set
  abbrev set_then : Ruled program key
  set_then = u9 program key some_cells keeps_facts few rule two full starts things written is_root makes sets gets

  abbrev had : SeatMe B
  had = m9 program key some_cells keeps_facts few rule two full starts things written is_root makes sets gets

  abbrev slots : List (ℕ × Option (Rec B))
  slots = (0, None) ∷ []

  -- what the seat has for the root, which has made its promise and set it, and does this
  abbrev root_does : Does → Custody B
  root_does d = record { task = 0; does = d; owned = 0 ∷ []; made = 1; home = None }

  set_at : get_elem? set_then.now.views 0 ≡ some had.0
  set_at = (e9 program key some_cells keeps_facts few rule two full starts things written is_root makes sets gets).at

  -- what stands in the words that matter
  set_live : word set_then.now.words live_at ≡ 1
  set_live = live9 program key some_cells keeps_facts few rule two full starts things written is_root makes sets gets

  set_count : word set_then.now.words 0 ≡ 2
  set_count = count9 program key some_cells keeps_facts few rule two full starts things written is_root makes sets gets

  set_owner : word set_then.now.words (own_at 1) ≡ 0
  set_owner = own9 program key some_cells keeps_facts few rule two full starts things written is_root makes sets gets

  set_head : word set_then.now.words (head_at 1) ≡ 0
  set_head = head9 program key some_cells keeps_facts few rule two full starts things written is_root makes sets gets

  set_phase : word set_then.now.words (phase_at 0) ≡ 2
  set_phase = runs9 program key some_cells keeps_facts few rule two full starts things written is_root makes sets gets

  abbrev m10 : SeatMe B
  m10 = live_raised had

  -- LIVE is raised, for a token
  e10 : GoesTo program key set_then (live_at) ((word set_then.now.words live_at + 1) % 2 ^ 64) m10
  e10 =
      let wide = set_then.rule.all_words in
      let bound = set_then.rule.few_cells in
      let is = set_live in
      goes program key set_then had m10 set_at (call.raises_live) (λ n. (n + 1) % 2 ^ 64)
      (live_add (step key.cells live_at 1 0 none) had)
      (step key.cells live_at 1 0 none)
      (up_allowed program key key.cells 0 had may)
      (omega (arith, wide, two)) (omega (arith, bound, is)) may
      (λ x t. ((omega (arith, is), t), t))
    where
      may : MayRaiseLive program had
      may = record { backed = inr (0, root_does does.Running, refl, tt); room = omega arith; lays = tt }

  abbrev u10 : Ruled program key
  u10 = e10.later

  abbrev m11 : SeatMe B
  m11 = (turned 0 (λ _. does.Raised) m10.0, slots)

  -- OTHERS is raised
  e11 : GoesTo program key u10 (others_at) ((word u10.now.words others_at + 1) % 2 ^ 64) m11
  e11 =
      let wide = u10.rule.all_words in
      let bound = u10.rule.few_cells in
      let small = others_small program key few u10.now u10.rule in
      goes program key u10 m10 m11 e10.at (call.raises_others 0) (λ n. (n + 1) % 2 ^ 64)
      (others_add 0 (step key.cells others_at 1 0 none) m10)
      (step key.cells others_at 1 0 none)
      (raise_allowed program key keeps_facts few key.cells 0 m10 0 0 refl may)
      (omega (arith, wide, two)) (omega (arith, bound, small)) may
      (λ x t. ((omega (arith, small), t), λ i. (t.1 i, t.0 i)))
    where
      may : MayRaise 0 m10.0
      may = record { task = root_does does.Running; held = refl; acts = tt; result = inl refl }

  abbrev u11 : Ruled program key
  u11 = e11.later

  runs10 : word u10.now.words (phase_at 0) ≡ 2
  runs10 = kept program key set_then _ _ m10 e10 (phase_at 0) (λ e. omega arith)
      ∙ (set_phase)

  runs11 : word u11.now.words (phase_at 0) ≡ 2
  runs11 = kept program key u10 _ _ m11 e11 (phase_at 0) (λ e. omega arith)
      ∙ (runs10)

  abbrev m12 : SeatMe B
  m12 = (published 0 1 Other m11.0, slots)

  -- the wait is published
  e12 : GoesTo program key u11 (phase_at 0) 28 m12
  e12 =
      let wide = u11.rule.all_words in
      let bound = u11.rule.few_cells in
      let small = runs11 in
      goes program key u11 m11 m12 e11.at (call.puts_phase 0) (λ n. 28)
      (λ n. wait_store 0 (step key.cells (phase_at 0) 28 0 none) m11 28)
      (step key.cells (phase_at 0) 28 0 none)
      (wait_allowed program key key.cells 0 m11 0 (phase_at 0) 28 0 some_cells refl refl keeps_facts 1 Other two
      walk.Walking refl refl may)
      (omega (arith, wide, two)) (omega (arith, bound, small)) (some_cells, may)
      (λ x t. ((refl, t), t))
    where
      may : MayPublishWait 0 1 Other m11.0
      may = record {
        custody = root_does does.Raised;
        held = refl;
        out = refl;
        may = refl;
        result = inl refl;
        task_known = inr (inl refl);
        cell_known = inl refl;
        its_way = refl;
        wakes = λ w. omega arith;
      }

  abbrev u12 : Ruled program key
  u12 = e12.later

  abbrev count : ℕ
  count = word u12.now.words 0

  count_is : word u12.now.words 0 ≡ 2
  count_is = kept program key u11 _ _ m12 e12 (0) (λ e. omega arith)
      ∙ (kept program key u10 _ _ m11 e11 (0) (λ e. omega arith)
      ∙ (kept program key set_then _ _ m10 e10 (0) (λ e. omega arith)
      ∙ (set_count)))

  abbrev walker13 : Walker
  walker13 = count_read (min count key.cells) start_walk

  abbrev m13 : SeatMe B
  m13 = (read_on 0 (count_read (min count key.cells)) m12.0, slots)

  -- COUNT is loaded
  e13 : GoesTo program key u12 (0) count m13
  e13 =
      let wide = u12.rule.all_words in
      let bound = u12.rule.few_cells in
      let is = count_is in
      goes program key u12 m12 m13 e12.at (call.counts_by 0) (λ n. n)
      (walk_load 0 (λ n. count_read (min n key.cells)) (IsCount key.cells) (step key.cells 0 0 0 none) m12)
      (step key.cells 0 0 0 none)
      (count_read_allowed program key keeps_facts key.cells 0 m12 0 0 key.cells refl refl may)
      (omega (arith, wide, two)) (omega (arith, bound, is)) may
      (λ x t. ((refl, t), λ i. (t.1 i, t.0 i)))
    where
      may : IsWalking 0 (λ p way w. MayCount way w) m12.0
      may = record {
        task = root_does (does.Walking 1 Other start_walk);
        wait = 1;
        way = Other;
        walker = start_walk;
        held = refl;
        does = refl;
        may = inl (refl, refl);
      }

  abbrev u13 : Ruled program key
  u13 = e13.later

  owner13 : owner_in (word u13.now.words (own_at 1)) ≡ None
  owner13 = ap owner_in (kept program key u12 _ _ m13 e13 (own_at 1) (λ e. omega arith)
      ∙ (kept program key u11 _ _ m12 e12 (own_at 1) (λ e. omega arith)
      ∙ (kept program key u10 _ _ m11 e11 (own_at 1) (λ e. omega arith)
      ∙ (kept program key set_then _ _ m10 e10 (own_at 1) (λ e. omega arith)
      ∙ (set_owner)))))

  abbrev walker14 : Walker
  walker14 = owner_read None walker13

  abbrev m14 : SeatMe B
  m14 = (read_on 0 (owner_read None) m13.0, slots)

  -- OWN of the promise is loaded: nobody owns it
  e14 : GoesTo program key u13 (own_at 1) (word u13.now.words (own_at 1)) m14
  e14 =
      let wide = u13.rule.all_words in
      let bound = u13.rule.few_cells in
      let small = (u13.rule.codes.each 1 two).own in
      goes program key u13 m13 m14 e13.at (call.sees_owner_by 0 1) (λ n. n)
      (walk_load 0 (λ n w. owner_seen (owner_in n) w w.last) (λ n. n ≤ key.cells)
      (step key.cells (own_at 1) 0 0 none) m13)
      (step key.cells (own_at 1) 0 0 none)
      (owner_read_allowed program key keeps_facts key.cells 0 m13 0 0 key.cells 1 (own_at 1) refl refl refl two may)
      (omega (arith, wide, two)) (omega (arith, bound, small)) may
      (λ x t. (
        (refl, t),
        (λ i. (t.1 i, t.0 i)) ∙ ap (λ o. (read_on 0 (owner_read o) m13.0, slots)) owner13,
      ))
    where
      may : IsWalking 0 (λ p way w. (1 ≡ present p w.trail) × MayLoadOwner w) m13.0
      may = record {
        task = root_does (does.Walking 1 Other walker13);
        wait = 1;
        way = Other;
        walker = walker13;
        held = refl;
        does = refl;
        may = (refl, inl (inl refl));
      }

  abbrev u14 : Ruled program key
  u14 = e14.later

  -- the record of the root, which waits for its promise
  abbrev waiting : Rec B
  waiting = record (root_record key.root.value) {
    body = body3 program key some_cells keeps_facts few rule two full;
    answer = answer.RefAt 1;
    held = own (cell 0) ∷ record { cell = cell 1; sort = sort.Promise } ∷ [];
    made = 1;
    spare = false;
  }

  -- and what becomes of the promise
  abbrev becomes : Entry
  becomes = result program key some_cells keeps_facts few rule two full

  abbrev put14 : SeatMe B
  put14 = (m14.0, (0, Some waiting) ∷ [])

  tells : Tells m14.0.born waiting (point3 program key some_cells keeps_facts few rule two full)
  tells = record {
    of = refl;
    body = refl;
    held = ((refl, refl), ((refl, refl), tt));
    owned_cells = ((to_task [], refl, refl), tt);
    made = refl;
    prints = refl;
    owed = ([], tt, refl);
  }

  told : ToldBy P m14.0.born m14.0.filled waiting
  told = record {
    point = point3 program key some_cells keeps_facts few rule two full;
    tells = tells;
    tells_stage = (omega arith, refl);
    stands = record {
      of_rounds = in_rounds3 program key some_cells keeps_facts few rule two full starts things written is_root makes
          sets gets;
      children = λ c i. absurd i;
      promises = λ q i. promise q i;
      writes = λ q e i. writes q e i;
    };
  }
    where
      promise : (q : Name) → IsIn q ((1 ∷ []) ∷ []) → HasCell m14.0.born q (λ c x. x.sort ≡ sort.Promise)
      promise q (inl e) = (1, to_promise (1 ∷ []), refl, sym e, refl)
      promise q (inr n) = absurd n

      writes : (q : Name) (e : Entry) → IsIn {A = Name × Entry} (q, e) ((1 ∷ [], becomes) ∷ [])
          → HasCell m14.0.born q (λ c x. HasSeen m14.0.filled c e)
      writes q e (inl z) = (
        1,
        to_promise (1 ∷ []),
        refl,
        sym (ap (λ (y : Name × Entry). y.0) z),
        inl (ap (λ (y : Name × Entry). record { cell = 1; entry = y.1 }) z),
      )
      writes q e (inr n) = absurd n

  all_known : (c : ℕ) → IsIn c (record_cells waiting) → IsIn c m14.0.known
  all_known c (inl e) = inr (inl e)
  all_known c (inr (inl e)) = inr (inl e)
  all_known c (inr (inr (inl e))) = inl e
  all_known c (inr (inr (inr (inl e)))) = inr (inl e)
  all_known c (inr (inr (inr (inr n)))) = absurd n

  puts : PutsHome program 0 (root_does (does.Walking 1 Other walker14)) waiting put14
  puts = record {
    slot = refl;
    cell = refl;
    owned = refl;
    made = refl;
    knows = all_known;
    told = (record { root = key.root.value; cells = key.cells; strict = key.strict }, refl, told);
  }

  walks12 : word u12.now.words (phase_at 0) ≡ 28
  walks12 =
      let wide = u11.rule.all_words in
      ap (λ l. word l (phase_at 0)) e12.words
      ∙ word_here u11.now.words (phase_at 0) 28 (omega (arith, wide, some_cells))

  walks13 : word u13.now.words (phase_at 0) ≡ 28
  walks13 = kept program key u12 _ _ m13 e13 (phase_at 0) (λ e. omega arith)
      ∙ (walks12)

  walks14 : word u14.now.words (phase_at 0) ≡ 28
  walks14 = kept program key u13 _ _ m14 e14 (phase_at 0) (λ e. omega arith)
      ∙ (walks13)

  abbrev m15 : SeatMe B
  m15 = (homed put14.1 (parked 0 1 Other m14.0), [])

  -- the root is parked
  e15 : GoesTo program key u14 (phase_at 0) 29 m15
  e15 =
      let wide = u14.rule.all_words in
      let bound = u14.rule.few_cells in
      let small = walks14 in
      goes program key u14 put14 m15 e14.at (call.puts_phase 0) (λ n. 29)
      (λ n. wait_store 0 (step key.cells (phase_at 0) 29 0 none) put14 29)
      (step key.cells (phase_at 0) 29 0 none)
      (wait_allowed program key key.cells 0 put14 0 (phase_at 0) 29 0 some_cells refl refl keeps_facts 1 Other two
      walk.Parked refl refl may)
      (omega (arith, wide, two)) (omega (arith, bound, small)) (some_cells, may)
      (λ x t. ((refl, t), t))
    where
      may : MayPark program 0 1 Other put14
      may = record {
        walks = record {
          custody = root_does (does.Walking 1 Other walker14);
          walker = walker14;
          held = refl;
          walks = refl;
          room = omega arith;
        };
        settles = refl;
        no_hand = λ h e. let z : None ≡ Some h = e in absurd (cc);
        record_of = waiting;
        puts = puts;
        unfinished = refl;
        waits = (1, record { cell = cell 1; sort = sort.Promise }, refl, refl, refl);
      }

  abbrev u15 : Ruled program key
  u15 = e15.later

  abbrev m16 : SeatMe B
  m16 = (stored_next 0 Empty m15.0, [])

  -- NEXT of the root is stored
  e16 : GoesTo program key u15 (next_at 0) 0 m16
  e16 =
      let wide = u15.rule.all_words in
      let bound = u15.rule.few_cells in
      let small = (u15.rule.codes.each 0 some_cells).next in
      goes program key u15 m15 m16 e15.at (call.puts_next 0) (λ n. 0)
      (λ n. next_store 0 (step key.cells (next_at 0) 0 0 none) m15 0)
      (step key.cells (next_at 0) 0 0 none)
      (next_allowed program key key.cells 0 m15 0 (next_at 0) 0 0 some_cells refl refl (omega arith) has)
      (omega (arith, wide, two)) (omega (arith, bound, small)) (omega arith, has)
      (λ x t. ((refl, t), λ i. (t.1 i, t.0 i)))
    where
      has : HasPush 0 m15.0
      has = (record { task = 0; cell = 1; way = Other; next = None }, inl refl, refl)

  abbrev u16 : Ruled program key
  u16 = e16.later

  head16 : word u16.now.words (head_at 1) ≡ 0
  head16 = kept program key u15 _ _ m16 e16 (head_at 1) (λ e. omega arith)
      ∙ (kept program key u14 _ _ m15 e15 (head_at 1) (λ e. omega arith)
      ∙ (kept program key u13 _ _ m14 e14 (head_at 1) (λ e. omega arith)
      ∙ (kept program key u12 _ _ m13 e13 (head_at 1) (λ e. omega arith)
      ∙ (kept program key u11 _ _ m12 e12 (head_at 1) (λ e. omega arith)
      ∙ (kept program key u10 _ _ m11 e11 (head_at 1) (λ e. omega arith)
      ∙ (kept program key set_then _ _ m10 e10 (head_at 1) (λ e. omega arith)
      ∙ (set_head)))))))

  abbrev m17 : SeatMe B
  m17 = (pushed 0 m16.0, [])

  -- the root is added to the chain
  e17 : GoesTo program key u16 (head_at 1)
      (either (eqb (word u16.now.words (head_at 1)) 0) 1 (word u16.now.words (head_at 1))) m17
  e17 =
      let wide = u16.rule.all_words in
      let bound = u16.rule.few_cells in
      let is = head16 in
      goes program key u16 m16 m17 e16.at (call.pushes 1) (λ n. either (eqb n 0) 1 n)
      (push_exchange program key.cells 1 (step key.cells (head_at 1) 0 1 none) m16)
      (step key.cells (head_at 1) 0 1 none)
      (push_allowed program key key.cells 0 m16 1 0 (head_at 1) 0 1 key.cells 1 Empty two some_cells refl refl refl refl
      refl has unshut)
      (omega (arith, wide, two)) (omega (arith, bound, is)) (0, refl, some_cells, has, unshut)
      (λ x t. (
        ((λ e. exchange_hit _ 0 1 e), (λ n. exchange_missed _ 0 1 n), t),
        (λ i. (t.2 is i, t.0 i)),
      ))
    where
      has : HasPushBehind 0 1 Empty m16.0
      has = (record { task = 0; cell = 1; way = Other; next = Some Empty }, inl refl, (refl, refl, refl))

      unshut : Empty ≢ Shut
      unshut e = absurd (cc)

  abbrev u17 : Ruled program key
  u17 = e17.later

  head17 : word u17.now.words (head_at 1) ≡ 1
  head17 =
      let wide = u16.rule.all_words in
      ap (λ l. word l (head_at 1)) e17.words
      ∙ (word_here u16.now.words (head_at 1) _ (omega (arith, wide, two)) ∙ exchange_hit _ 0 1 head16)

  knows : KnowsEntry 1 m17.0
  knows = (record { cell = 1; entry = becomes }, inl refl, refl)

  -- the head is shut, and its chain taken
  shut : Reaches program key u17 (head_at 1) shut_word
      (shut_swap key.cells 1 (step key.cells (head_at 1) shut_word 0 none) m17 (word u17.now.words (head_at 1)))
  shut =
      let wide = u17.rule.all_words in
      let is = head17 in
      reaches program key u17 m17 e17.at (call.shuts 1) (λ n. shut_word)
      (shut_swap key.cells 1 (step key.cells (head_at 1) shut_word 0 none) m17)
      (step key.cells (head_at 1) shut_word 0 none)
      (shut_allowed program key key.cells 0 m17 1 (head_at 1) shut_word key.cells 1 two refl refl refl refl knows refl
      (inl (omega arith))) (omega (arith, wide, two)) (omega (arith, is)) (knows, refl, inl (omega arith))
      (λ x t. (refl, t))

  takes : TakesChain key.cells 1 (Task (cell 0)) m17.0 shut.seat.0
  takes = subst (λ n. TakesChain key.cells 1 (head_in n) m17.0 shut.seat.0) head17
      (shut.told.3 (λ e. let z : Task (cell 0) ≡ Shut = sym (ap head_in head17) ∙ e in absurd (cc)))

  abbrev behind : List ℕ
  behind = (begins_with 0 takes.chain takes.is).0

  abbrev m18 : SeatMe B
  m18 = (took_chain 1 (0 ∷ behind) m17.0, [])

  e18 : GoesTo program key u17 (head_at 1) shut_word m18
  e18 = record {
    later = shut.later;
    asked = shut.asked;
    at = shut.at ∙ (ap (λ (v : View B). some v) takes.view
        ∙ ap (λ c. some (took_chain 1 c m17.0)) (begins_with 0 takes.chain takes.is).1);
    words = shut.words;
  }

  abbrev u18 : Ruled program key
  u18 = e18.later

  parks15 : word u15.now.words (phase_at 0) ≡ 29
  parks15 =
      let wide = u14.rule.all_words in
      ap (λ l. word l (phase_at 0)) e15.words
      ∙ word_here u14.now.words (phase_at 0) 29 (omega (arith, wide, some_cells))

  parks16 : word u16.now.words (phase_at 0) ≡ 29
  parks16 = kept program key u15 _ _ m16 e16 (phase_at 0) (λ e. omega arith)
      ∙ (parks15)

  parks17 : word u17.now.words (phase_at 0) ≡ 29
  parks17 = kept program key u16 _ _ m17 e17 (phase_at 0) (λ e. omega arith)
      ∙ (parks16)

  parks18 : word u18.now.words (phase_at 0) ≡ 29
  parks18 = kept program key u17 _ _ m18 e18 (phase_at 0) (λ e. omega arith)
      ∙ (parks17)

  abbrev m19 : SeatMe B
  m19 = (loaded_phase 0 (phase.Waiting (cell 1) Other walk.Parked) m18.0, [])

  -- PHASE of the root is loaded: how it waits
  e19 : GoesTo program key u18 (phase_at 0) (word u18.now.words (phase_at 0)) m19
  e19 =
      let wide = u18.rule.all_words in
      let bound = u18.rule.few_cells in
      let is = parks18 in
      goes program key u18 m18 m19 e18.at (call.sees_phase 0) (λ n. n)
      (phase_load key.cells 0 (step key.cells (phase_at 0) 0 0 none) m18)
      (step key.cells (phase_at 0) 0 0 none)
      (phase_allowed program key key.cells 0 m18 key.cells 0 0 (phase_at 0) refl refl some_cells refl)
      (omega (arith, wide, two)) (omega (arith, bound, is)) tt
      (λ x t. (
        (refl, t),
        (λ i. (t.1.1 (inl (λ e. absurd (cc))) i, t.0 i)) ∙ ap (λ n. (loaded_phase 0 (phase_in n) m18.0, [])) is,
      ))

  abbrev u19 : Ruled program key
  u19 = e19.later

  parks19 : word u19.now.words (phase_at 0) ≡ 29
  parks19 =
      let wide = u18.rule.all_words in
      ap (λ l. word l (phase_at 0)) e19.words
      ∙ (word_here u18.now.words (phase_at 0) _ (omega (arith, wide, some_cells)) ∙ parks18)

  abbrev m20 : SeatMe B
  m20 = (woke_first Other m19.0, [])

  -- and made ready again
  e20 : GoesTo program key u19 (phase_at 0)
      (either (eqb (word u19.now.words (phase_at 0)) 29) 1 (word u19.now.words (phase_at 0))) m20
  e20 =
      let wide = u19.rule.all_words in
      let bound = u19.rule.few_cells in
      let is = parks19 in
      goes program key u19 m19 m20 e19.at (call.swaps_phase 0) (λ n. either (eqb n 29) 1 n)
      (phase_swap program 0 key.cells (step key.cells (phase_at 0) 29 1 none) m19)
      (step key.cells (phase_at 0) 29 1 none)
      (swap_allowed program key keeps_facts key.cells 0 m19 key.cells 0 0 (phase_at 0) 29 1
      (phase.Waiting (cell 1) Other walk.Parked) phase.Ready refl refl some_cells refl refl refl refl refl may)
      (omega (arith, wide, two)) (omega (arith, bound, is)) tt
      (λ x t. (
        ((λ e. exchange_hit _ 29 1 e), (λ n. exchange_missed _ 29 1 n), (may, t)),
        (t.0 is).wakes 1 Other refl refl,
      ))
    where
      backing : Backing (woke_first Other m19.0)
      backing = record { wakes = λ w. inl (omega arith); tags = λ d. inl (omega arith); alarms = λ a. omega arith }

      may : MaySwap 0 (phase.Waiting (cell 1) Other walk.Parked) phase.Ready m19.0
      may = inr (
        1,
        Other,
        refl,
        inl (
          refl,
          record {
            rest = record { cell = 1; tasks = 0 ∷ behind; way = Some Other };
            left = behind;
            has = refl;
            cell = refl;
            first = refl;
            read = refl;
            clears = record { token = omega arith; room = omega arith };
            backing = backing;
          },
        ),
      )

  abbrev u20 : Ruled program key
  u20 = e20.later

  ready20 : word u20.now.words (phase_at 0) ≡ 1
  ready20 =
      let wide = u19.rule.all_words in
      ap (λ l. word l (phase_at 0)) e20.words
      ∙ (word_here u19.now.words (phase_at 0) _ (omega (arith, wide, some_cells)) ∙ exchange_hit _ 29 1 parks19)

  may_claim : MaySwap 0 phase.Ready phase.Running m20.0
  may_claim = inl (refl, refl, (record { root = key.root.value; cells = key.cells; strict = key.strict }, refl))

  -- and it is claimed again
  again : Reaches program key u20 (phase_at 0)
      (either (eqb (word u20.now.words (phase_at 0)) 1) 2 (word u20.now.words (phase_at 0)))
      (phase_swap program 0 key.cells (step key.cells (phase_at 0) 1 2 none) m20 (word u20.now.words (phase_at 0)))
  again =
      let wide = u20.rule.all_words in
      let is = ready20 in
      reaches program key u20 m20 e20.at (call.swaps_phase 0) (λ n. either (eqb n 1) 2 n)
      (phase_swap program 0 key.cells (step key.cells (phase_at 0) 1 2 none) m20)
      (step key.cells (phase_at 0) 1 2 none)
      (swap_allowed program key keeps_facts key.cells 0 m20 key.cells 0 0 (phase_at 0) 1 2 phase.Ready phase.Running
      refl refl some_cells refl refl refl refl refl may_claim) (omega (arith, wide, some_cells)) (omega (arith, is)) tt
      (λ x t. ((λ e. exchange_hit _ 1 2 e), (λ n. exchange_missed _ 1 2 n), (may_claim, t)))

  runs21 : word again.later.now.words (phase_at 0) ≡ 2
  runs21 =
      let wide = u20.rule.all_words in
      ap (λ l. word l (phase_at 0)) again.words
      ∙ (word_here u20.now.words (phase_at 0) _ (omega (arith, wide, some_cells)) ∙ exchange_hit _ 1 2 ready20)

  abbrev one : Ruled program key
  one = u1 program key some_cells keeps_facts few rule

  -- the moments after some
  abbrev after18 : List (Ruled program key)
  after18 = u19 ∷ u20 ∷ []

  abbrev after14 : List (Ruled program key)
  after14 = u15 ∷ u16 ∷ u17 ∷ u18 ∷ after18

  abbrev after9 : List (Ruled program key)
  after9 = u10 ∷ u11 ∷ u12 ∷ u13 ∷ u14 ∷ after14

  pub moments : List (Ruled program key)
  moments = u2 program key some_cells keeps_facts few rule two full starts things written is_root makes sets gets ∷
      u3 program key some_cells keeps_facts few rule two full starts things written is_root makes sets gets ∷
      u4 program key some_cells keeps_facts few rule two full starts things written is_root makes sets gets ∷
      u5 program key some_cells keeps_facts few rule two full starts things written is_root makes sets gets ∷
      u6 program key some_cells keeps_facts few rule two full starts things written is_root makes sets gets ∷
      u7 program key some_cells keeps_facts few rule two full starts things written is_root makes sets gets ∷
      u8 program key some_cells keeps_facts few rule two full starts things written is_root makes sets gets
      ∷ set_then ∷ after9

  pub run : AreAskedMoments program key one moments
  unfolding moments
  run = run9 program key some_cells keeps_facts few rule two full starts things written is_root makes sets gets after9 (
    e10.asked,
    (
      e11.asked,
      (
        e12.asked,
        (
          e13.asked,
          (e14.asked, (e15.asked, (e16.asked, (e17.asked, (e18.asked, (e19.asked, (e20.asked, tt))))))),
        ),
      ),
    ),
  )

  -- no step from the end of the walk on is a claim of the root
  unclaimed14 : claims program key 0 u14 after14 ≡ 0
  unclaimed14 =
      quiet program key u14 u15 (u16 ∷ u17 ∷ u18 ∷ after18) (ap says_ready walks14)
      ∙ (quiet program key u15 u16 (u17 ∷ u18 ∷ after18) (ap says_ready parks15)
      ∙ (quiet program key u16 u17 (u18 ∷ after18) (ap says_ready parks16)
      ∙ (quiet program key u17 u18 after18 (ap says_ready parks17)
      ∙ (quiet program key u18 u19 (u20 ∷ []) (ap says_ready parks18)
      ∙ quiet program key u19 u20 [] (ap says_ready parks19)))))

  -- nor one before it
  unclaimed_after : claims program key 0 set_then after9 ≡ 0
  unclaimed_after =
      quiet program key set_then u10 (u11 ∷ u12 ∷ u13 ∷ u14 ∷ after14) (ap says_ready set_phase)
      ∙ (quiet program key u10 u11 (u12 ∷ u13 ∷ u14 ∷ after14) (ap says_ready runs10)
      ∙ (quiet program key u11 u12 (u13 ∷ u14 ∷ after14) (ap says_ready runs11)
      ∙ (quiet program key u12 u13 (u14 ∷ after14) (ap says_ready walks12)
      ∙ (quiet program key u13 u14 after14 (ap says_ready walks13) ∙ unclaimed14))))

  pub unclaimed : claims program key 0 one moments ≡ 0
  unfolding moments
  unclaimed =
      unclaimed9 program key some_cells keeps_facts few rule two full starts things written is_root makes sets gets
      after9 ∙ unclaimed_after

  pub ready_again : phase_then program key 0 (last_moment program key one moments) ≡ phase.Ready
  unfolding moments
  ready_again = ap phase_in ready20

  pub claimed_again : Reaches program key (last_moment program key one moments) (phase_at 0)
      (either (eqb (word (last_moment program key one moments).now.words (phase_at 0)) 1) 2
      (word (last_moment program key one moments).now.words (phase_at 0)))
      (λ x. Unit {0})
  unfolding moments
  claimed_again = record {
    later = again.later;
    asked = again.asked;
    seat = again.seat;
    at = again.at;
    words = again.words;
    told = tt;
  }

  pub runs_again : phase_then program key 0 claimed_again.later ≡ phase.Running
  unfolding claimed_again
  runs_again = ap phase_in runs21

module _ {B : Type 0} (places : B → ℕ) (awaits : B → Await) (left : B → ℕ) (asks : B → Answer → Ask B)
    (then : B → Answer → B) where
  pub waiters_claimed_again : StartMeetsFacts → EventKeepsFacts → OthersAreFew
      → HoldsOfPrograms places awaits left asks then TasksStart
      → HoldsOfPrograms places awaits left asks then ThingsInRounds
      → HoldsOfPrograms places awaits left asks then WritesBecome
      → HoldsOfPrograms places awaits left asks then IsFullWhere
      → WaitersAreClaimedAgain places awaits left asks then
  waiters_claimed_again start_meets keeps_facts few starts things writes full key two few_cells fresh makes sets gets =
      let begun = starts key.strict key.root.value fresh in
      let made = things key.strict key.root.value fresh in
      let written = writes key.strict key.root.value fresh in
      let again = claimed_again program key some keeps_facts few rule two full begun made written refl makes sets gets
      in (
        record { now = first program key some keeps_facts; rule = rule },
        u1 program key some keeps_facts few rule,
        moments program key some keeps_facts few rule two full begun made written refl makes sets gets,
        again.later,
        refl,
        inl (claim program key some keeps_facts rule),
        ap phase_in (runs1 program key some keeps_facts few rule two full begun made written refl makes sets gets),
        run program key some keeps_facts few rule two full begun made written refl makes sets gets,
        ready_again program key some keeps_facts few rule two full begun made written refl makes sets gets,
        unclaimed program key some keeps_facts few rule two full begun made written refl makes sets gets,
        again.asked,
        runs_again program key some keeps_facts few rule two full begun made written refl makes sets gets,
      )
    where
      program : Bool → B → Program B
      program = program_of places awaits left asks then

      some : 0 < key.cells
      some = omega (arith, two)

      rule : Rule program key (first program key some keeps_facts)
      rule = opening_meets program key some few_cells start_meets (starts key.strict key.root.value fresh) fresh
          refl (first_words key.cells) (first_slots key.cells key.root.value) refl refl
