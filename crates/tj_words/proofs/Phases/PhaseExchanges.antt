-- The exchanges of PHASE keep the rule: a claim, a wake, and the way back of a task that its seat had parked.
use Rattle.tj_words.proofs.Prelude.{About, Allows, AreApart, AreCells, AreThere, Backing, Bool, Chains, Contents}
use Rattle.tj_words.proofs.Prelude.{CoreFacts, Custody, EventKeepsFacts, Filled, Hand, HasAlarmed, Holds, IsBegun}
use Rattle.tj_words.proofs.Prelude.{IsCustody, IsFirstIn, IsIn, IsKept, IsKnownRecord, IsPhaseWord, IsRecordIn, IsRest}
use Rattle.tj_words.proofs.Prelude.{IsSpent, IsThere, IsWithinLot, Key, Law, LiesAtHome, List, LiveCount, MayClearFrom}
use Rattle.tj_words.proofs.Prelude.{MayGoBack, MaySwap, MayWake, Meaning, None, OfSeat, Phase, Program, Push, Rec}
use Rattle.tj_words.proofs.Prelude.{Reference, Rest, Rule, SeatMe, SeatsHave, Slots, SlotsOf, Some, State, Swaps, View}
use Rattle.tj_words.proofs.Prelude.{Way, ap, at_map, begins_self, bits_in, carried_after, cell, contents_of, core_shown}
use Rattle.tj_words.proofs.Prelude.{dite, does_cells, does_first, drawn_in, either, eqb, exchanged, get_elem?, hand_of}
use Rattle.tj_words.proofs.Prelude.{held_in, held_of, hold, home_in, home_of, inl, inr, let_go, live_part, made_by, map}
use Rattle.tj_words.proofs.Prelude.{none, numbers, owned_by, owned_of, parked_phase, phase_at, phase_in, phase_sort}
use Rattle.tj_words.proofs.Prelude.{phase_swap, phase_word, put, raised_by_way, record_cells, refl, rest_of, set}
use Rattle.tj_words.proofs.Prelude.{set_again, set_else, some, stage_there, step, suc, sym, tag_in, total, went_back}
use Rattle.tj_words.proofs.Prelude.{word, words_say, ℕ, ℕ_discrete, ◌++◌, ◌+◌, ◌-◌, ◌<◌, ◌∙◌, ◌∷◌, ◌≡◌, ◌≢◌, ◌≤◌}
use Rattle.tj_words.proofs.Lemmas.{Acts, AreFilledIn, IsEventStep, IsMoved, IsQuietStep, acts_keeping, acts_taking}
use Rattle.tj_words.proofs.Lemmas.{are_cells, begun_there, born_apart, each_set, facts_after, facts_quiet, ground_of}
use Rattle.tj_words.proofs.Lemmas.{hand_seat, has_none, hold_else, hold_here, home_else_out, home_out, home_there}
use Rattle.tj_words.proofs.Lemmas.{kept_fit, known_of, no_some, none_some, of_seat_here, one_some, out_fit, put_else}
use Rattle.tj_words.proofs.Lemmas.{put_here, seats_same, store_word_with, stored, stored_with, total_set, unheld}
use Rattle.tj_words.specs.Calls.ExchangeViews.{Claims, GoesBack, Wakes, without_first, woke_first, KnowsTable, MayClear}
use Rattle.std.proofs.Common.{Option, arith, length, subst, length-set, ⊎_elim, drop}
use Rattle.tj_words.specs.Calls.TakenRecords.{custody_of, took_record, TakesRecord}
use Rattle.tj_words.proofs.Waiters.ChainFacts.{IsNotParked, ready_free, running_free}
use Rattle.tj_words.specs.Calls.ExchangeViews.{TakesAsPut}
use Rattle.tj_words.specs.LawParts.PushedRecords.{LieAsPut}
use Rattle.tj_words.proofs.Stores.StoreSteps.{LeavesPushed}
use Rattle.tj_words.proofs.Waiters.PushedRecords.{back_as_put, back_leaves, lay_as_put, taken_as_put, taken_leaves}
use Rattle.tj_words.proofs.Waiters.ChainPhases.{chains_turn, chains_run, chains_ready}
use Rattle.tj_words.proofs.Holders.HeldChanges.{let_go_in}
use Rattle.tj_words.proofs.Holders.TaskMoves.{TaskMove, law_task, task_moved, task_moves}
use Rattle.tj_words.proofs.SeatLoads.KnowLoads.{all_cons, born_at}
use Rattle.tj_words.proofs.Waiters.LiveSteps.{count_turned, backing_running}
use Rattle.tj_words.proofs.SeatLoads.LoadSteps.{noted_allowed}
use Rattle.tj_words.proofs.Meaning.MeaningGrows.{meaning_learns}
use Rattle.tj_words.proofs.Meaning.MeaningSteps.{out_meant}
use Rattle.tj_words.proofs.Seating.Merging.{all_append}
use Rattle.tj_words.proofs.Events.QuietMoves.{claim_stage, quiet_move}
use Rattle.tj_words.proofs.Holders.RecordSteps.{woken_fits}
use Rattle.tj_words.proofs.Calls.KeptCells.{kept_moved}
use Rattle.tj_words.proofs.Holders.TakingRecords.{first_phase, first_runs, first_calm, first_cells, slot_has}
use Rattle.tj_words.proofs.Holders.TakingRecords.{owns_itself, learnt}
use Rattle.tj_words.proofs.Events.WaitClears.{begun_kept, clear_shown}
use Rattle.tj_events.specs.declared.event.Event.TheVariants.{Unwait}
use Rattle.tj_base.specs.declared.cell.Sort.TheVariants as sort
use Rattle.tj_words.specs.declared.offsets.Once.TheVariants as once
use Rattle.tj_words.specs.declared.phase.Walk.TheVariants as walk
use Rattle.tj_words.specs.declared.phase.Phase.TheVariants as phase
use Rattle.tj_words.specs.declared.view.Noted.TheVariants as note
use Rattle.tj_words.proofs.Stores.TableWords as table_word

-- a task is parked on one cell, in one way
same_park : (p p' : ℕ) (way way' : Way) → parked_phase p way ≡ parked_phase p' way' → (p ≡ p') × (way ≡ way')
same_park p p' way way' e = grind arith

running_not : phase.Running ≢ phase.Ready
running_not e = cc

-- what a claim, a wake and the way back make of the seat, as an exchange
module _ {B : Type 0} (program : Bool → B → Program B) (t : ℕ) (m m' : SeatMe B) where
  claims_swap : Claims program t m m' → Swaps program t phase.Ready phase.Running m m'
  claims_swap h = record {
    claims = λ q. h;
    wakes = λ p way q. absurd (ready_free p (way, q));
    goes_back = λ p way q. absurd (ready_free p (way, q));
    as_put = λ p way q. absurd (ready_free p (way, q));
  }

  wakes_swap : (p : ℕ) (way : Way) → Wakes way m m' → Swaps program t (parked_phase p way) phase.Ready m m'
  wakes_swap p way h = record {
    claims = λ q. absurd (ready_free p (way, sym q));
    wakes = λ p' way' q z. subst (λ k. Wakes k m m') (same_park p p' way way' q).1 h;
    goes_back = λ p' way' q z. absurd (running_not (sym z));
    as_put = λ p' way' q z. absurd (running_not (sym z));
  }

  back_swap : (p : ℕ) (way : Way) → GoesBack program t p way m m' → TakesAsPut program t m m'
      → Swaps program t (parked_phase p way) phase.Running m m'
  back_swap p way h taken = record {
    claims = λ q. absurd (ready_free p (way, sym q));
    wakes = λ p' way' q z. absurd (running_not z);
    goes_back = λ p' way' q z. let same = same_park p p' way way' q in
        subst (λ (k : ℕ × Way). GoesBack program t k.0 k.1 m m') (λ j. (same.0 j, same.1 j)) h;
    as_put = λ p' way' q z. taken;
  }

module _ {B : Type 0} {program : Bool → B → Program B} {key : Key B} {s : State (Option (Rec B)) (View B)}
    (r : Rule program key s) (id t : ℕ) {v : View B} (at : get_elem? s.views id ≡ some v) (small : t < key.cells) where
  abbrev P : Program B
  P = program key.strict key.root.value

  abbrev x : Contents B
  x = contents_of s

  abbrev law : Law P key.cells x
  law = r.law

  abbrev n : ℕ
  n = drawn_in key.cells x

  -- what the seat has, of what the seats have
  mine : {A : Type 0} (f : View B → A) → get_elem? (map f s.views) id ≡ some (f v)
  mine f = at_map f s.views id v at

  inside : phase_at t < length s.words
  inside = let e = r.all_words in omega arith

  abbrev phases : Phase → ℕ → Phase
  phases q = put x.words.phase t q

  here : (q : Phase) → phases q t ≡ q
  here q = put_here x.words.phase t t q refl

  else : (q : Phase) (u : ℕ) → u ≢ t → phases q u ≡ x.words.phase u
  else q u m = put_else x.words.phase t u q m

  -- one wait more is cleared
  cleared_more : (way : Way)
      → total (set x.seats.cleared id (v.cleared + raised_by_way way)) ≡ total x.seats.cleared + raised_by_way way
  cleared_more way = let e = total_set x.seats.cleared id v.cleared (v.cleared + raised_by_way way)
      (mine (λ u. u.cleared)) in omega arith

  -- the record of the task lies at home, and may be taken
  pub record MayTake : Type 0 where
    pub there : IsThere n (hand_of x) t
    pub task : phase_sort (x.words.phase t) ≡ sort.Task
    pub kept : LiesAtHome (law.custody.holder t) (home_of x t)
    pub ready : IsRecordIn (tag_in x) phase.Ready kept.1.0

  -- as it does in a phase in which the task has begun and is kept at home, where the record fits then
  module _ (q : Phase) (stands : x.words.phase t ≡ q) (begun : IsBegun q) (task : phase_sort q ≡ sort.Task)
      (lies : (o : Option ℕ) (h : Option (Rec B)) → IsKept q o h → LiesAtHome o h) where
    pub has_begun : IsBegun (x.words.phase t)
    has_begun = subst IsBegun (sym stands) begun

    pub its_home : LiesAtHome (law.custody.holder t) (home_of x t)
    its_home = lies (law.custody.holder t) (home_of x t)
        (subst (λ z. IsKept z (law.custody.holder t) (home_of x t)) stands
        (begun_kept law t has_begun (ap phase_sort stands ∙ task)))

    pub is_in : IsRecordIn (tag_in x) q its_home.1.0
    is_in = subst (λ z. IsRecordIn (tag_in x) z its_home.1.0) stands
        (law.records_fit t its_home.1.0 its_home.1.1)

    abbrev at_home : ((c : Rec B) → IsRecordIn (tag_in x) q c → IsRecordIn (tag_in x) phase.Ready c) → MayTake
    at_home fits = record {
      there = begun_there law t has_begun;
      task = ap phase_sort stands ∙ task;
      kept = its_home;
      ready = fits its_home.1.0 is_in;
    }

  module _ (l : MayTake) where
    abbrev c : Rec B
    c = l.kept.1.0

    of_task : c.cell.0 ≡ t
    of_task = law.custody.own_slots t c l.kept.1.1

    -- the seat has nothing for the task
    unheld_here : held_in v.tasks t ≡ None
    unheld_here = has_none law id t v.tasks (mine (λ u. u.tasks)) (λ e. none_some (law.custody.holder t) id l.kept.0 e)

    -- what the record says, and what has been made and is owned
    record_made : c.made ≡ made_by (held_of x t) (home_of x t)
    record_made = λ j. made_by (sym (unheld law t l.kept.0) j) (sym l.kept.1.1 j)

    record_owned : numbers c.owned ≡ owned_of x t
    record_owned = λ j. owned_by (sym (unheld law t l.kept.0) j) (sym l.kept.1.1 j)

    not_maker : (h : Hand) → get_elem? x.seats.hands id ≡ some (Some h) → h.maker ≢ t
    not_maker h e z = none_some (law.custody.holder t) id l.kept.0
        (ap law.custody.holder (sym z) ∙ hand_seat law id h e)

    -- which the seat takes
    abbrev k : Custody B
    k = custody_of c

    abbrev new : List (Custody B)
    new = hold k v.tasks

    abbrev slots : Slots B
    slots = set s.homes t none

    knowing : (more : List Filled) × AreFilledIn P (ground_of key.cells law.born x) more
        × IsKnownRecord P law.born (more ++ v.filled) c
    knowing = learnt law id v.born v.wrote v.filled (mine (λ u. u.born)) (mine (λ u. u.wrote)) (mine (λ u. u.filled))
        t c l.kept.1.1 l.ready

    abbrev more : List Filled
    more = knowing.0

    -- what the seat learns
    abbrev takes : TakesRecord program t v c
    takes = let told = knowing.2.told in record {
      born = law.born;
      more = more;
      begins = law.meaning.begins id v.born (mine (λ u. u.born));
      all = λ a e. subst (λ (z : About B). AreCells z.cells law.born) (sym ((r.seats id v at).about a e))
          (are_cells law);
      of_task = of_task;
      unfinished = l.ready.0;
      owned_apart = subst AreApart (sym record_owned) (law.owned.owned_apart t);
      owns_result = subst (λ z. IsIn z (numbers c.owned)) of_task
          (owns_itself law.born (born_apart law) c told.point told.tells told.tells_stage l.ready.0);
      known = λ a e. subst (λ (z : About B). IsKnownRecord (program z.strict z.root) law.born (more ++ v.filled) c)
          (sym ((r.seats id v at).about a e)) knowing.2;
    }

    held_same : (u : ℕ) → u ≢ t → held_in new u ≡ held_in v.tasks u
    held_same u m = hold_else k u v.tasks (λ e. m (e ∙ of_task))

    held_now : held_in new t ≡ Some k
    held_now = ap (held_in new) (sym of_task) ∙ hold_here k v.tasks

    out : home_in slots t ≡ None
    out = home_out s.homes t (let e = r.all_slots in let i = small in omega arith)

    knows_more : AreThere n (hand_of x) (record_cells c ++ v.known)
    knows_more = all_append (IsThere n (hand_of x)) (record_cells c) v.known (law.names.records t c l.kept.1.1)
        (law.names.knows id v.known (mine (λ u. u.known)))

    pub taken : TaskMove law id t (phases phase.Running) v.tasks new slots
    taken = record {
      at = mine (λ u. u.tasks);
      same = held_same;
      mine = λ j e. none_some (law.custody.holder t) j l.kept.0 e;
      there = l.there;
      was_task = l.task;
      is_task = ap phase_sort (here phase.Running);
      else = else phase.Running;
      waits = λ p way w e. let z : phase.Running ≡ phase.Waiting p way w = sym (here phase.Running) ∙ e in
          absurd (cc);
      makers = λ h e z. absurd (not_maker h e z);
      apart = λ u m. set_else s.homes t u none m;
      lies = λ z e. no_some out e;
      walks = all_cons (λ (a : Custody B). AreThere n (hand_of x) (does_cells a.does)) k (let_go k.task v.tasks)
          (subst (AreThere n (hand_of x)) (sym (first_cells c.answer)) (λ d i. absurd i))
          (λ a i. law.names.walks id v.tasks (mine (λ u. u.tasks)) a (let_go_in k.task v.tasks a i));
      made = (λ j. made_by (held_now j) (home_in slots t)) ∙ record_made;
      holder = Some id;
      kept = subst (λ q. IsKept q (Some id) (home_in slots t)) (sym (here phase.Running)) (id, refl);
      custody = λ a e. subst
          (IsCustody (put law.custody.holder t (Some id)) (phases phase.Running) (home_in slots) id t)
          (one_some k a (sym held_now ∙ e)) record {
            mine = put_here law.custody.holder t t (Some id) refl;
            does = here phase.Running ∙ sym (first_phase c.answer);
            laid = λ z q. no_some refl q;
            out = λ q. out;
          };
      holds = λ j e. subst (OfSeat (λ l. (a : Custody B) × (held_in l t ≡ Some a)) (set x.seats.tasks id new))
          (one_some id j e)
          (of_seat_here (λ l. (a : Custody B) × (held_in l t ≡ Some a)) x.seats.tasks id v.tasks new
          (mine (λ u. u.tasks)) (k, held_now));
    }

    -- what the seats have after it, with what the seat has learnt, and the tokens, waits cleared and pushes of w
    module _ (born : List Reference) (extra : List Filled) (w : View B) where
      abbrev beside : SeatsHave B
      beside = record x.seats {
        tokens = set x.seats.tokens id w.tokens;
        cleared = set x.seats.cleared id w.cleared;
        known = set x.seats.known id (record_cells c ++ v.known);
        born_seen = set x.seats.born_seen id born;
        filled = set x.seats.filled id (extra ++ v.filled);
        pushes = set x.seats.pushes id w.pushes;
      }

      abbrev after : Contents B
      after = task_moved law taken x.words beside

      abbrev took : Rec B → View B
      took a = record (took_record a born extra v) {
        steps = suc v.steps;
        tokens = w.tokens;
        cleared = w.cleared;
        pushes = w.pushes;
      }

      -- what the exchange leaves
      pub takes_path : (number : ℕ) → phase_in number ≡ phase.Running → (a : Rec B) → home_of x t ≡ Some a
          → stored_with s id (table_word.Phase t) number slots (took a) ≡ after
      takes_path number is a lay j = record {
        words = record x.words { phase = put x.words.phase t (is j) };
        slots = slots;
        seats = record (seats_same s.views id v at j) {
          tokens = beside.tokens;
          cleared = beside.cleared;
          tasks = set x.seats.tasks id (hold (custody_of (same j)) v.tasks);
          known = set x.seats.known id (record_cells (same j) ++ v.known);
          born_seen = beside.born_seen;
          filled = beside.filled;
          pushes = beside.pushes;
        };
      }
        where
          same : a ≡ c
          same = one_some a c (sym lay ∙ l.kept.1.1)

      moved : IsMoved key.cells x after t phase.Running (Some k) None
      moved = task_moves law taken x.words beside phase.Running (Some k) None (here phase.Running) held_now out

    -- what it makes of the seat, whose view is w but for what it takes and learns
    took_acts : KnowsTable v → (w : View B) → w.tokens ≤ v.lot → w.cleared ≤ v.lot → (Holds HasAlarmed v → 0 < w.tokens)
        → LieAsPut slots w.pushes v.put_home → LeavesPushed s slots id
        → Chains (tag_in x) x.words.head x.words.next (phases phase.Running) (set x.seats.pushes id w.pushes)
        x.seats.shuts x.seats.rests x.seats.closed x.seats.found
        → LiveCount key.cells x.words.live (phases phase.Running) (set x.seats.tokens id w.tokens) x.seats.rested
        → CoreFacts (core_shown key.cells law.born law.maker (after law.born more w))
        → (mine : SlotsOf B) (F : SeatMe B → Type 0) → F (took law.born more w c, (t, Some c) ∷ mine)
        → Acts program key s id (v, mine) (phase_at t) (phase_word phase.Running) F
    took_acts table w fit room alarms as_put leaves chains live facts slots_of F f = acts_taking program key s r id
        (v, slots_of) (phase_at t) (phase_word phase.Running) F view t (Some c) (slot_has s.homes t c l.kept.1.1)
        (store_word_with program key s id (table_word.Phase t) (phase_word phase.Running) slots view inside
        (length-set s.homes t none) record { code = refl; waits = λ d way q e. cc } (
        let q = r.seats id v at in record {
          about = q.about;
          named = inr table;
          within_lot = record {
            least = inr (⊎_elim (λ (e : IsSpent v). no_some e.0 table.1) (λ e. e) q.within_lot.least);
            refused_fit = q.within_lot.refused_fit;
            tokens_fit = fit;
            cleared_fit = room;
          };
          backing = backing_running view (t, k, held_now, first_runs c.answer)
              (λ a. dite (ℕ_discrete a.0 t)
              (λ z. absurd (first_calm c.answer (subst (λ (b : Custody B). HasAlarmed b.does)
              (one_some a.1 k (sym (ap (held_in new) (sym z) ∙ a.2) ∙ held_now)) a.3)))
              (λ m. alarms (a.0, a.1, sym (held_same a.0 m) ∙ a.2, a.3)));
          known_born = λ d i. born_at P key.cells x law d (knows_more d i).0;
        }) as_put leaves (after law.born more w)
        (takes_path law.born more w (phase_word phase.Running) refl c l.kept.1.1)
        (law_task law taken x.words (beside law.born more w)
        ((λ j. owned_by (held_now j) (home_in slots t)) ∙ record_owned)
        (each_set (λ j l. AreThere n (hand_of x) l) x.seats.known id (record_cells c ++ v.known) law.names.knows
        knows_more) chains live
        (out_fit (tag_in x) x.words.phase (home_of x) law.records_fit t (phases phase.Running) (home_in slots)
        phase.Running (here phase.Running) (else phase.Running) (λ u m. home_else_out s.homes t u m) out)
        meaning facts)) f
      where
        view : View B
        view = took law.born more w c

        meaning : Meaning P key.cells x.words.count x.words.stop n (hand_of x) law.born (tag_in x) (bits_in x)
            (home_in slots) (set x.seats.born_seen id law.born) x.seats.wrote (set x.seats.filled id (more ++ v.filled))
        meaning = subst (λ z. Meaning P key.cells x.words.count x.words.stop n (hand_of x) law.born (tag_in x)
            (bits_in x) (home_in slots) (set x.seats.born_seen id law.born) z
            (set x.seats.filled id (more ++ v.filled))) (set_again x.seats.wrote id v.wrote (mine (λ u. u.wrote)))
            (meaning_learns P key.cells {g = ground_of key.cells law.born x} {k = known_of x}
            (out_meant P key.cells {g = ground_of key.cells law.born x} {k = known_of x} law.meaning (home_in slots) t
            out (λ u m. home_else_out s.homes t u m)) id law.born v.wrote
            (more ++ v.filled) (begins_self law.born) (law.meaning.wrote_stands id v.wrote (mine (λ u. u.wrote)))
            (all_append _ more v.filled knowing.1 (law.meaning.filled_stands id v.filled (mine (λ u. u.filled)))))

  -- a claim
  module _ (stands : x.words.phase t ≡ phase.Ready) where
    abbrev pub claimable : MayTake
    claimable = at_home phase.Ready stands tt refl (λ o h i. i) (λ a i. i)

    -- the step shows nothing
    pub claim_quiet : (born : List Reference) (extra : List Filled) → IsQuietStep law (after claimable born extra v)
    claim_quiet born extra = quiet_move law (after claimable born extra v) t phase.Ready phase.Running
        (Some (k claimable)) None stands claimable.there record {
          others = refl;
          cleared = ap total (set_again x.seats.cleared id v.cleared (mine (λ u. u.cleared)));
        } refl (moved claimable born extra v)
        (claim_stage t (x.words.own t) None (held_of x t) (c claimable) (k claimable) None refl
        ∙ (λ j. stage_there t sort.Task (x.words.own t) phase.Ready (held_of x t) (sym claimable.kept.1.1 j)))

    claim_acts : KnowsTable v → (slots_of : SlotsOf B) → Acts program key s id (v, slots_of) (phase_at t)
        (phase_word phase.Running) (Swaps program t phase.Ready phase.Running (v, slots_of))
    claim_acts table slots_of = took_acts claimable table v within.tokens_fit within.cleared_fit
        (r.seats id v at).backing.alarms
        (taken_as_put r id at t (subst IsNotParked (sym stands) ready_free))
        (taken_leaves r id at t (subst IsNotParked (sym stands) ready_free))
        (subst (λ z. Chains (tag_in x) x.words.head x.words.next (phases phase.Running) z x.seats.shuts
        x.seats.rests x.seats.closed x.seats.found) (sym (set_again x.seats.pushes id v.pushes (mine (λ u. u.pushes))))
        (chains_turn law.chains t phase.Running (subst IsNotParked (sym stands) ready_free) running_free))
        (count_turned law.live_count t phase.Running id v.tokens v.tokens small (mine (λ u. u.tokens))
        (ap (λ z. live_part z + v.tokens) (sym stands)))
        (facts_quiet law (claim_quiet law.born (more claimable)))
        slots_of (Swaps program t phase.Ready phase.Running (v, slots_of))
        (claims_swap program t (v, slots_of) _ (c claimable, takes claimable, refl))
      where
        within : IsWithinLot v
        within = (r.seats id v at).within_lot

  -- an exchange of a task that is parked on p, of which something has become
  module _ (p : ℕ) (way : Way) (stands : x.words.phase t ≡ parked_phase p way) (tagged : tag_in x p ≢ 0) where
    abbrev pub parked : MayTake
    parked = at_home (parked_phase p way) stands tt refl (λ o h i. i)
        (λ a i. woken_fits (tag_in x) a (cell p) way walk.Parked tagged i)

    was_parked : IsRecordIn (tag_in x) (parked_phase p way) (c parked)
    was_parked = is_in (parked_phase p way) stands tt refl (λ o h i. i)

    closed : x.words.own p ≡ None
    closed = (law.once_words.valued p once.Tag (λ z. z) tagged).1

    even : live_part (parked_phase p way) ≡ live_part (x.words.phase t)
    even = ap live_part (sym stands)

    -- the seat takes it back
    abbrev back_view : View B
    back_view = went_back t way v

    -- by which its wait is cleared
    pub back_event : (born : List Reference) (extra : List Filled)
        → IsEventStep law (after parked born extra back_view) (Unwait (cell t))
    back_event born extra = (
      clear_shown law (after parked born extra back_view) t p way phase.Running (Some (k parked)) record {
        home = None;
        goes = inr (refl, refl, (k parked, refl, ap does_first was_parked.1.2));
        parked = stands;
        closed = closed;
        moved = moved parked born extra back_view;
        others = refl;
        cleared = cleared_more way;
      },
      kept_moved key.cells x (after parked born extra back_view) (moved parked born extra back_view) refl,
    )

    -- it is woken, and stays at home
    abbrev woke_seats : SeatsHave B
    woke_seats = record x.seats {
      tokens = set x.seats.tokens id (v.tokens - 1);
      cleared = set x.seats.cleared id (v.cleared + raised_by_way way);
      rests = set x.seats.rests id (without_first v.rest);
    }

    pub stays : TaskMove law id t (phases phase.Ready) v.tasks v.tasks s.homes
    stays = record {
      at = mine (λ u. u.tasks);
      same = λ u m. refl;
      mine = λ j e. none_some (law.custody.holder t) j parked.kept.0 e;
      there = parked.there;
      was_task = parked.task;
      is_task = ap phase_sort (here phase.Ready);
      else = else phase.Ready;
      waits = λ d u w e. let z : phase.Ready ≡ phase.Waiting d u w = sym (here phase.Ready) ∙ e in absurd (cc);
      makers = λ h e z. absurd (not_maker parked h e z);
      apart = λ u m. refl;
      lies = home_there law t;
      walks = law.names.walks id v.tasks (mine (λ u. u.tasks));
      made = (λ j. made_by (unheld_here parked j) (parked.kept.1.1 j)) ∙ record_made parked;
      holder = None;
      kept = subst (λ q. IsKept q None (home_of x t)) (sym (here phase.Ready)) (refl, parked.kept.1);
      custody = λ a e. no_some (unheld_here parked) e;
      holds = λ j e. no_some refl e;
    }

    abbrev woke : Contents B
    woke = task_moved law stays x.words woke_seats

    -- what a wake leaves
    pub wakes_path : (number : ℕ) → phase_in number ≡ phase.Ready
        → stored s id (table_word.Phase t) number (woke_first way v) ≡ woke
    wakes_path number is j = record {
      words = record x.words { phase = put x.words.phase t (is j) };
      slots = s.homes;
      seats = record (seats_same s.views id v at j) {
        tokens = woke_seats.tokens;
        cleared = woke_seats.cleared;
        tasks = set x.seats.tasks id v.tasks;
        rests = woke_seats.rests;
      };
    }

    wakes : IsMoved key.cells x woke t phase.Ready None (home_of x t)
    wakes = task_moves law stays x.words woke_seats phase.Ready None (home_of x t) (here phase.Ready)
        (unheld_here parked) refl

    -- its wait is cleared
    pub wake_event : IsEventStep law woke (Unwait (cell t))
    wake_event = (
      clear_shown law woke t p way phase.Ready None record {
        home = home_of x t;
        goes = inl (refl, refl, refl);
        parked = stands;
        closed = closed;
        moved = wakes;
        others = refl;
        cleared = cleared_more way;
      },
      kept_moved key.cells x woke wakes refl,
    )

    module _ (event_keeps : EventKeepsFacts) (clears : MayClear way v) (slots_of : SlotsOf B) where
      spent : v.tokens - 1 ≤ v.lot
      spent = let f = (r.seats id v at).within_lot.tokens_fit in omega arith

      live : (q : Phase) → live_part q ≡ 1
          → LiveCount key.cells x.words.live (phases q) (set x.seats.tokens id (v.tokens - 1)) x.seats.rested
      live q one = count_turned law.live_count t q id v.tokens (v.tokens - 1) small (mine (λ u. u.tokens))
          (let f = even in let g = clears.token in omega arith)

      -- its seat takes it back
      back_acts : KnowsTable v → (e : Push) → IsIn e v.pushes → e.task ≡ t → (Holds HasAlarmed v → 1 < v.tokens)
          → Acts program key s id (v, slots_of) (phase_at t) (phase_word phase.Running)
          (Swaps program t (parked_phase p way) phase.Running (v, slots_of))
      back_acts table e in_pushes its alarms = took_acts parked table back_view spent clears.room
          (λ h. let l = alarms h in omega arith)
          (back_as_put r id at t e in_pushes its) (back_leaves r id at t e in_pushes its)
          (chains_run law.chains t phase.Running id v.pushes e (mine (λ u. u.pushes)) in_pushes its running_free)
          (live phase.Running refl)
          (facts_after event_keeps (back_event law.born (more parked)).0 law.facts)
          slots_of (Swaps program t (parked_phase p way) phase.Running (v, slots_of))
          (back_swap program t (v, slots_of) _ p way (c parked, takes parked, was_parked.1, refl)
          (λ j. (t, (sym (parked.kept.1.1) ∙ lay_as_put r id at t e in_pushes its) j) ∷ slots_of))

      -- it is made ready, where it is the first of a rest
      wake_acts : (q : Rest) (left : List ℕ) → v.rest ≡ Some q → q.tasks ≡ t ∷ left → Backing (woke_first way v)
          → Acts program key s id (v, slots_of) (phase_at t) (phase_word phase.Ready)
          (Swaps program t (parked_phase p way) phase.Ready (v, slots_of))
      wake_acts q left has first backing = acts_keeping program key s r id (v, slots_of) (phase_at t)
          (phase_word phase.Ready) (Swaps program t (parked_phase p way) phase.Ready (v, slots_of)) (woke_first way v)
          (store_word_with program key s id (table_word.Phase t) (phase_word phase.Ready) s.homes (woke_first way v)
          inside refl record { code = refl; waits = λ d w u e. cc } (
          let h = r.seats id v at in record {
            about = h.about;
            named = h.named;
            within_lot = record {
              least = h.within_lot.least;
              refused_fit = h.within_lot.refused_fit;
              tokens_fit = spent;
              cleared_fit = clears.room;
            };
            backing = backing;
            known_born = h.known_born;
          }) (r.pushed id v at) (λ j u other here e i. refl) woke (wakes_path (phase_word phase.Ready) refl)
          (law_task law stays x.words woke_seats
          ((λ j. owned_by (unheld_here parked j) (parked.kept.1.1 j)) ∙ record_owned parked) law.names.knows
          (subst (λ z. Chains (tag_in x) x.words.head x.words.next (phases phase.Ready) x.seats.pushes
          x.seats.shuts (set x.seats.rests id z) x.seats.closed x.seats.found)
          (sym (ap without_first has ∙ ap (λ l. rest_of q.cell (drop 1 l)) first))
          (chains_ready law.chains t phase.Ready id q left ((mine (λ u. u.rest)) ∙ ap some has) first ready_free))
          (live phase.Ready refl)
          (kept_fit (tag_in x) x.words.phase (home_of x) law.records_fit t (phases phase.Ready)
          (home_of x) phase.Ready (here phase.Ready) (else phase.Ready) (λ u m. refl) (parked_phase p way) stands
          refl (λ z h. woken_fits (tag_in x) z (cell p) way walk.Parked tagged h))
          law.meaning (facts_after event_keeps wake_event.0 law.facts)))
          (wakes_swap program t (v, slots_of) _ p way refl)

-- something has become of the cell of which a task is woken, or goes back from
module _ {B : Type 0} {program : Bool → B → Program B} {key : Key B} {s : State (Option (Rec B)) (View B)}
    (r : Rule program key s) (id : ℕ) {t p : ℕ} {way : Way} {v : View B} (at : get_elem? s.views id ≡ some v) where
  pub rest_is : (h : MayWake t p way v)
      → IsRest (words_say s.words).head (words_say s.words).phase r.law.chains.line r.law.chains.taker id h.rest
  rest_is h = r.law.chains.rest id v.rest (at_map (λ (u : View B). u.rest) s.views id v at) h.rest h.has

  pub wake_tagged : MayWake t p way v → tag_in (contents_of s) p ≢ 0
  wake_tagged h = r.law.chains.tagged p (ap (words_say s.words).head (sym h.cell) ∙ (rest_is h).is_shut)

  pub back_tagged : MayGoBack t p way v → tag_in (contents_of s) p ≢ 0
  back_tagged h = r.law.chains.tagged p
      (r.law.chains.stays_shut id v.closed (at_map (λ (u : View B). u.closed) s.views id v at) p h.shut)

  -- and the task is parked on it
  pub wake_stands : (h : MayWake t p way v) → (words_say s.words).phase t ≡ parked_phase p way
  wake_stands h = subst (λ l. IsFirstIn (words_say s.words).phase l (parked_phase h.rest.cell way)) h.first
      ((rest_is h).read way h.read) ∙ ap (λ k. parked_phase k way) h.cell

  pub back_stands : MayGoBack t p way v → (words_say s.words).phase t ≡ parked_phase p way
  back_stands h = ap (words_say s.words).phase (sym h.task) ∙ ((r.law.chains.to_push id v.pushes
      (at_map (λ (u : View B). u.pushes) s.views id v at) h.push h.has).parked
      ∙ (λ j. parked_phase (h.cell j) (h.its_way j)))

-- an exchange of PHASE keeps the rule
module _ {B : Type 0} (program : Bool → B → Program B) (key : Key B) (keeps : EventKeepsFacts) where
  module _ (s : State (Option (Rec B)) (View B)) (r : Rule program key s) (id t : ℕ) (m : SeatMe B)
      (at : get_elem? s.views id ≡ some m.0) (small : t < key.cells) (p : ℕ) (way : Way) where
    go_back : MayGoBack t p way m.0 → Acts program key s id m (phase_at t) (phase_word phase.Running)
        (Swaps program t (parked_phase p way) phase.Running m)
    go_back h = back_acts r id t at small p way (back_stands r id at h) (back_tagged r id at h) keeps h.clears m.1
        h.table h.push h.has h.task h.alarms

    wake : MayWake t p way m.0 → Acts program key s id m (phase_at t) (phase_word phase.Ready)
        (Swaps program t (parked_phase p way) phase.Ready m)
    wake h = wake_acts r id t at small p way (wake_stands r id at h) (wake_tagged r id at h) keeps h.clears m.1
        h.rest h.left h.has h.first h.backing

  pub swap_allowed : (slots id : ℕ) (m : SeatMe B) (cells c t i old new : ℕ) (was to : Phase) → cells ≡ key.cells
      → c ≡ t → t < key.cells → i ≡ phase_at t → old ≡ phase_word was → phase_in old ≡ was → new ≡ phase_word to
      → phase_in new ≡ to → MaySwap t was to m.0
      → Allows (Rule program key) slots id m i (λ n. either (eqb n old) new n)
      (phase_swap program c cells (step slots i old new none) m)
  swap_allowed slots id m cells c t i old new was to few is small place old_is was_is new_is to_is may =
      subst (λ (k : ℕ × ℕ × ℕ). Allows (Rule program key) slots id m k.2 (λ n. either (eqb n old) new n)
      (phase_swap program k.1 k.0 (step slots k.2 old new none) m)) (λ j. (sym few j, sym is j, sym place j)) main
    where
      main : Allows (Rule program key) slots id m (phase_at t) (λ n. either (eqb n old) new n)
          (phase_swap program t key.cells (step slots (phase_at t) old new none) m)
      main s r homes at deep = exchanged found old new F hit miss
        where
          found : ℕ
          found = word s.words (phase_at t)

          F : ℕ → Type 0
          F z = Acts program key s id m (phase_at t) z
              (phase_swap program t key.cells (step slots (phase_at t) old new none) m (word s.words (phase_at t)))

          -- what is found is the word of the phase that stands
          code : phase_word (phase_in (word s.words (phase_at t))) ≡ word s.words (phase_at t)
          code = (r.codes.each t small).phase.code

          -- an exchange that succeeds
          done : word s.words (phase_at t) ≡ old → (w u : Phase) → was ≡ w → to ≡ u
              → Acts program key s id m (phase_at t) (phase_word u) (Swaps program t w u m)
              → F new
          done z w u a b h = subst F (sym (new_is ∙ ap phase_word b)) (
            h.0,
            h.1,
            h.2,
            h.3,
            (
              (λ q. subst (λ (k : Phase × Phase). Swaps program t k.0 k.1 m (h.0, carried_after m.1 h.1))
                  (λ j. (sym (was_is ∙ a) j, sym (to_is ∙ b) j)) h.4),
              (λ q. absurd (q z)),
            ),
            h.5,
          )

          hit : word s.words (phase_at t) ≡ old → F new
          hit z = ⊎_elim
              (λ (h : (was ≡ phase.Ready) × (to ≡ phase.Running) × KnowsTable m.0). done z phase.Ready phase.Running
              h.0 h.1
              (claim_acts r id t at small (ap phase_in z ∙ (was_is ∙ h.0)) h.2 m.1))
              (λ (h : MayClearFrom t was to m.0). ⊎_elim
              (λ (k : (to ≡ phase.Ready) × MayWake t h.0 h.1 m.0).
              done z (parked_phase h.0 h.1) phase.Ready h.2 k.0 (wake s r id t m at small h.0 h.1 k.1))
              (λ (k : (to ≡ phase.Running) × MayGoBack t h.0 h.1 m.0).
              done z (parked_phase h.0 h.1) phase.Running h.2 k.0 (go_back s r id t m at small h.0 h.1 k.1)) h.3) may

          -- one from Parked doesn't fail
          stands_so : (p : ℕ) (way : Way) → was ≡ parked_phase p way
              → phase_in (word s.words (phase_at t)) ≡ parked_phase p way
              → word s.words (phase_at t) ≡ old
          stands_so p way a e = sym code ∙ (ap phase_word (e ∙ sym a) ∙ sym old_is)

          miss : word s.words (phase_at t) ≢ old → F (word s.words (phase_at t))
          miss ne = ⊎_elim
              (λ (h : (was ≡ phase.Ready) × (to ≡ phase.Running) × KnowsTable m.0).
              let a = noted_allowed program key slots id m (phase_at t) (note.Missed t) (IsPhaseWord key.cells) refl
              (λ s' r'. (r'.codes.each t small).phase) s r homes at deep in (
                a.0,
                a.1,
                a.2,
                a.3,
                (
                  (λ q. absurd (ne q)),
                  (λ q. (was_is ∙ h.0, (λ j. (a.4.1 j, a.4.0 j)), a.4.2, a.4.3)),
                ),
                a.5,
              ))
              (λ (h : MayClearFrom t was to m.0). absurd (ne (stands_so h.0 h.1 h.2 (⊎_elim
              (λ (k : (to ≡ phase.Ready) × MayWake t h.0 h.1 m.0). wake_stands r id at k.1)
              (λ (k : (to ≡ phase.Running) × MayGoBack t h.0 h.1 m.0). back_stands r id at k.1)
              h.3)))) may
