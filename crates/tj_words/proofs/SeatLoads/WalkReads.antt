-- A task of a seat does something else, in the same phase: the law after it, and the loads of a walker as events.
use Rattle.tj_words.proofs.Prelude.{All, AreThere, Bool, Contents, CoreFacts, Custody, Does, Event, EventKeepsFacts}
use Rattle.tj_words.proofs.Prelude.{HasAlarmed, IsBegun, IsIn, IsLaid, IsThere, Law, MayCount, MayLoadOwner}
use Rattle.tj_words.proofs.Prelude.{MayReadAgain, MayReadOthers, MayReadOwner, None, Option, Phase, Program, Rec}
use Rattle.tj_words.proofs.Prelude.{SawOwner, SawWait, Some, Walker, Way, [], ap, arith, cell, core_shown, count_read}
use Rattle.tj_words.proofs.Prelude.{does_cells, drawn_in, false, hand_of, hold, home_of, in_left, in_right, inl, inr}
use Rattle.tj_words.proofs.Prelude.{is_owner, length, others_read, owned_by, owner_found, owner_read, owner_seen}
use Rattle.tj_words.proofs.Prelude.{phase_of, present, read_cells, refl, set, subst, suc, sym, trail_cells, true}
use Rattle.tj_words.proofs.Prelude.{wait_found, wait_in, walk_cells, ℕ, ⊎_elim, ◌++◌, ◌<◌, ◌∙◌, ◌∷◌, ◌≡◌, ◌≢◌}
use Rattle.tj_words.proofs.Lemmas.{IsHeldWith, IsMoved, ReadsOn, ShowsEvent, begun_there, custody, facts_after}
use Rattle.tj_words.proofs.Lemmas.{held_listed, hold_held, home_there, made_held_by, none_some, one_some, owned_held_by}
use Rattle.tj_words.proofs.Lemmas.{parts_of, put_self}
use Rattle.tj_events.specs.declared.walk.LastRead.{LastRead}
use Rattle.tj_events.specs.declared.walk.LastRead.TheVariants.{Counted, Passed}
use Rattle.tj_words.proofs.Seating.Merging.{all_append}
use Rattle.tj_words.proofs.SeatLoads.KnowLoads.{all_cons}
use Rattle.tj_words.proofs.Holders.HeldChanges.{held_task, found_held, hold_move}
use Rattle.tj_words.proofs.Events.WalkEvents.{others_shown, count_shown, owner_shown_read, wait_shown_read}
use Rattle.tj_words.proofs.Events.WalkEvents.{again_shown_read}
use Rattle.tj_words.proofs.Holders.TaskMoves.{law_task, TaskMove}
use Rattle.tj_events.specs.declared.event.Event.TheVariants as event
use Rattle.tj_words.specs.declared.phase.Phase.TheVariants as phase
use Rattle.tj_words.specs.declared.view.Does.TheVariants as does

module _ (F : ℕ → Type 0) where
  none : All F []
  none c i = absurd i

  -- what holds of the owner that was read, or of what it waits for, holds of the cells of the read
  owner_there : (o : Option ℕ) → ((u : ℕ) → o ≡ Some u → F u) → All F (read_cells (SawOwner o))
  owner_there o a c i = grind arith

  wait_there : (u : ℕ) (o : Option ℕ) → F u → ((c : ℕ) → o ≡ Some c → F c) → All F (read_cells (SawWait u o))
  wait_there u o f a c i = grind arith

  -- what holds of the cells of a walk and of those of its newest read holds of the walk with that read
  module _ (p : ℕ) (w : Walker) (h : All F (walk_cells p w)) where
    last_there : (l : LastRead) → w.last ≡ l → All F (read_cells l)
    last_there l e c i =
        h c (inr (in_right c (trail_cells w.trail) (read_cells w.last) (subst (λ z. IsIn c (read_cells z)) (sym e) i)))

    trail_there : All F (trail_cells w.trail)
    trail_there c i = h c (inr (in_left c (trail_cells w.trail) (read_cells w.last) i))

    walk_with_read : (l : LastRead) (bound loads : ℕ) → All F (read_cells l)
        → All F (walk_cells p record { trail = w.trail; bound = bound; loads = loads; last = l })
    walk_with_read l bound loads a = all_cons F p (trail_cells w.trail ++ read_cells l) (h p (inl refl))
        (all_append F (trail_cells w.trail) (read_cells l) trail_there a)

    again_there : (b : Bool) (u v : ℕ) → F u → F v → All F (walk_cells p (owner_found b u v w))
    again_there true u v f g = all_cons F p (u ∷ v ∷ (trail_cells w.trail ++ [])) (h p (inl refl))
        (all_cons F u (v ∷ (trail_cells w.trail ++ [])) f (all_cons F v (trail_cells w.trail ++ []) g
        (all_append F (trail_cells w.trail) [] trail_there none)))
    again_there false u v f g = walk_with_read (owner_found false u v w).last w.bound (suc w.loads) none

module _ {B : Type 0} where
  -- what its seat has for a task that does this from now on
  abbrev pub doing : Does → Custody B → Custody B
  doing d k = record k { does = d }

  -- the contents where a seat's task does this from now on, with this OTHERS
  abbrev pub turned_to : (x : Contents B) (id t : ℕ) (k : Custody B) → IsHeldWith x id t k → Does → ℕ → Contents B
  turned_to x id t k h d others = record x {
    words = record x.words { others = others };
    seats = record x.seats { tasks = set x.seats.tasks id (hold (doing d k) h.0) };
  }

  -- the contents where a seat's walker has read on
  abbrev pub read_to : (x : Contents B) (id t : ℕ) (k : Custody B) → IsHeldWith x id t k → ℕ → Way → Walker → Contents B
  read_to x id t k h p way w = turned_to x id t k h (does.Walking p way w) x.words.others

module _ {B : Type 0} {program : Program B} {cells : ℕ} {x : Contents B} (r : Law program cells x) (id t : ℕ)
    (k : Custody B) (h : IsHeldWith x id t k) (d : Does) (same : phase_of d ≡ phase_of k.does) (others : ℕ) where
  abbrev k' : Custody B
  k' = doing d k

  abbrev y : Contents B
  y = turned_to x id t k h d others

  pub its : k'.task ≡ t
  its = held_task h.0 t k h.2

  pub task_turned : IsMoved cells x y t (phase_of d) (Some k') (home_of x t)
  task_turned = record {
    made = made_held_by r id t k h;
    parts = λ j. record (parts_of cells x) {
      phase = put_self x.words.phase t (phase_of d) ((custody r id t k h).does ∙ sym same) j;
      held = found_held r id t k k' h its j;
      home = put_self (home_of x) t (home_of x t) refl j;
      others = others;
    };
  }

  -- the law after a task of a seat does something else in the same phase, which names cells that are there, where the
  -- facts of what is shown then hold
  pub law_turned : IsBegun (phase_of k.does)
      → (¬ HasAlarmed d)
      → AreThere (drawn_in cells x) (hand_of x) (does_cells d)
      → CoreFacts (core_shown cells r.born r.maker y)
      → Law program cells y
  law_turned begun calm there facts = law_task r move (record x.words { others = others }) x.seats
      (ap (λ (o : Option (Custody B)). owned_by o (home_of x t)) (hold_held k' t h.0 its) ∙ owned_held_by r id t k h)
      r.names.knows r.chains r.live_count r.records_fit r.meaning facts
    where
      laid : (c : Rec B) → k.home ≡ Some c → IsLaid k' (home_of x t) c
      laid c e = let l = (custody r id t k h).laid c e in record { here = l.here; owned = l.owned; made = l.made }

      move : TaskMove r id t x.words.phase h.0 (hold k' h.0) x.slots
      move = hold_move r id t k k' h its x.slots (λ u n. refl) (home_there r t) x.words.phase
          (λ u n. refl) ((custody r id t k h).does ∙ sym same)
          (begun_there r t (subst IsBegun (sym (custody r id t k h).does) begun))
          (λ p way w e. (r.names.waits t p way w e, r.waiters_own t p way w e)) there refl (λ z e q i. i)
          (λ a. absurd (calm a)) laid (custody r id t k h).out

-- a walker of a seat reads on: each of its loads is the event of the core, and the law holds after it
module _ {B : Type 0} {program : Program B} {cells : ℕ} {x : Contents B} (event_keeps : EventKeepsFacts)
    (r : Law program cells x) (id t : ℕ) (k : Custody B) (h : IsHeldWith x id t k) (p : ℕ) (way : Way) (w : Walker)
    (walks : k.does ≡ does.Walking p way w) where
  abbrev There : ℕ → Type 0
  There = IsThere (drawn_in cells x) (hand_of x)

  -- every cell that the walk names is there
  named : All There (walk_cells p w)
  named = subst (λ z. All There (does_cells z)) walks (r.names.walks id h.0 h.1 k (held_listed h.0 t k h.2))

  module _ (w' : Walker) where
    abbrev d' : Does
    d' = does.Walking p way w'

    same : phase_of d' ≡ phase_of k.does
    same = ap phase_of (sym walks)

    abbrev read_y : Contents B
    read_y = read_to x id t k h p way w'

    reads : ReadsOn cells x read_y id t p way w w'
    reads = record {
      turns = record {
        before_it = k;
        after_it = doing d' k;
        held = h;
        did = walks;
        now = refl;
        turned = task_turned r id t k h d' same x.words.others;
      };
      keeps = record { others = refl; cleared = refl };
    }

    read_law : (e : Event) → ShowsEvent cells r.born r.maker x read_y e r.born r.maker → All There (walk_cells p w')
        → Law program cells read_y
    read_law e s there = law_turned r id t k h d' same x.words.others
        (subst (λ z. IsBegun (phase_of z)) (sym walks) tt) (λ a. a) there (facts_after event_keeps s r.facts)

  -- the load of OTHERS
  pub law_reads_others : MayReadOthers way w
      → Law program cells (read_to x id t k h p way (others_read x.words.others w))
  law_reads_others may = let w' = others_read x.words.others w in
      read_law w' (event.LoadOthers (cell t)) (others_shown r (read_y w') id t p way w (reads w') may)
      (walk_with_read There p w named w'.last w.bound w.loads (none There))

  -- the load of COUNT
  pub law_reads_count : MayCount way w → Law program cells (read_to x id t k h p way (count_read (drawn_in cells x) w))
  law_reads_count may = let w' = count_read (drawn_in cells x) w in
      read_law w' (event.LoadCount (cell t)) (count_shown r (read_y w') id t p way w (reads w') may)
      (walk_with_read There p w named w'.last w'.bound w.loads (none There))

  -- the first load of OWN of the present cell
  pub law_reads_owner : MayReadOwner w
      → Law program cells (read_to x id t k h p way (owner_read (x.words.own (present p w.trail)) w))
  law_reads_owner may = let o = x.words.own (present p w.trail) in let w' = owner_read o w in
      read_law w' (event.ReadOwner (cell t)) (owner_shown_read r (read_y w') id t p way w (reads w') may)
      (walk_with_read There p w named w'.last w.bound w'.loads
      (owner_there There o (λ u e. (r.names.owned (present p w.trail) u e).1)))

  -- the load of PHASE of the owner u
  pub law_reads_wait : (u : ℕ) → w.last ≡ SawOwner (Some u) → u ≢ t
      → Law program cells (read_to x id t k h p way (wait_found u (wait_in (x.words.phase u)) w))
  law_reads_wait u last other = let o = wait_in (x.words.phase u) in let w' = wait_found u o w in
      read_law w' (event.ReadWait (cell t)) (wait_shown_read r (read_y w') id t p way w u (reads w') last other)
      (walk_with_read There p w named w'.last w.bound w'.loads (wait_there There u o
      (last_there There p w named (SawOwner (Some u)) last u (inl refl))
      (λ c e. waits_there (x.words.phase u) refl c e)))
    where
      waits_there : (f : Phase) → x.words.phase u ≡ f → (c : ℕ) → wait_in f ≡ Some c → There c
      waits_there (phase.Waiting d v g) q c e = subst There (one_some d.0 c e) (r.names.waits u d v g q)
      waits_there f q c e = none_some None c refl e

  -- the second load of OWN of the present cell, whose owner u was seen to wait for v
  pub law_reads_again : (u v : ℕ) → w.last ≡ SawWait u (Some v)
      → Law program cells (read_to x id t k h p way (owner_found (is_owner (x.words.own (present p w.trail)) u) u v w))
  law_reads_again u v last = let b = is_owner (x.words.own (present p w.trail)) u in let w' = owner_found b u v w in
      let seen = last_there There p w named (SawWait u (Some v)) last in
      read_law w' (event.ReadOwnerAgain (cell t)) (again_shown_read r (read_y w') id t p way w u v (reads w') last)
      (again_there There p w named b u v (seen u (inl refl)) (seen v (inr (inl refl))))

  -- the load of OWN of the present cell, for the first or the second time
  pub law_reads_seen : MayLoadOwner w
      → Law program cells (read_to x id t k h p way (owner_seen (x.words.own (present p w.trail)) w w.last))
  law_reads_seen may = ⊎_elim
      (λ (a : MayReadOwner w). ⊎_elim
      (λ (c : w.last ≡ Counted). by Counted c (law_reads_owner a))
      (λ (c : (w.last ≡ Passed) × (length w.trail < w.bound)). by Passed c.0 (law_reads_owner a)) a)
      (λ (a : MayReadAgain w). by (SawWait a.0 (Some a.1)) a.2 (law_reads_again a.0 a.1 a.2)) may
    where
      o : Option ℕ
      o = x.words.own (present p w.trail)

      by : (l : LastRead) → w.last ≡ l → Law program cells (read_to x id t k h p way (owner_seen o w l))
          → Law program cells (read_to x id t k h p way (owner_seen o w w.last))
      by l e q = subst (λ z. Law program cells (read_to x id t k h p way (owner_seen o w z))) (sym e) q
