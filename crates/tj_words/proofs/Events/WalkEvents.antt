-- The steps of a task from its wait on are events of the core.
use Rattle.tj_words.proofs.Prelude.{Allowed, CellStage, Contents, Does, Event, IsBegun, IsIn, IsThere, Law, List}
use Rattle.tj_words.proofs.Prelude.{MayCount, MayReadOthers, MayReadOwner, MayWait, None, Program, Runs, SawOwner}
use Rattle.tj_words.proofs.Prelude.{SawWait, Some, Walker, Way, [], after, alarmed, ap, arith, cell, count_read}
use Rattle.tj_words.proofs.Prelude.{does_cells, drawn_in, hand_of, in_right, inl, inr, is_owner, others_read, owner}
use Rattle.tj_words.proofs.Prelude.{owner_found, owner_read, parked, phase_of, present, raised, read_cells, refl}
use Rattle.tj_words.proofs.Prelude.{restage, stage, start_walk, subst, suc, sym, total, trail_cells, wait_found}
use Rattle.tj_words.proofs.Prelude.{wait_in, waits, walk_cells, walks, way_of_wait, ℕ, ◌++◌, ◌∙◌, ◌∷◌, ◌≡◌, ◌≢◌}
use Rattle.tj_words.proofs.Lemmas.{KeepsOthers, Proceeds, ReadsOn, ShowsEvent, begun_there, core_of, custody}
use Rattle.tj_words.proofs.Lemmas.{does_shown, held_drawn, held_listed, list_owned, owner_out, parts_of, stage_held}
use Rattle.tj_words.proofs.Lemmas.{wait_shown, waiter_owned}
use Rattle.tj_words.proofs.Events.WalkSteps.{PublishesWait, RaisesOthers, StoresAlarm, StoresParked, ProceedsOpen}
use Rattle.tj_events.specs.declared.walk.Way.TheVariants.{Along, Other}
use Rattle.tj_events.specs.declared.walk.TrailLink.{TrailLink}
use Rattle.tj_events.specs.Events.{walked, walk_ended, wait_read, owner_again, MayPublish}
use Rattle.tj_words.proofs.Cells.CellFacts.{way_shown}
use Rattle.tj_words.proofs.Events.TurnedTasks.{acting_runs, acting_begun, turned_out, turned_event, moved_event}
use Rattle.tj_events.specs.declared.event.Event.TheVariants as event
use Rattle.tj_words.specs.declared.phase.Walk.TheVariants as walk
use Rattle.tj_words.specs.declared.phase.Phase.TheVariants as phase
use Rattle.tj_words.specs.declared.view.Does.TheVariants as does

-- a task that may publish a wait has begun
pub waits_begun : (u : Way) (d : Does) → MayWait u d → IsBegun (phase_of d)
waits_begun u d m = grind arith

module _ {B : Type 0} {program : Program B} {cells : ℕ} {x : Contents B} (r : Law program cells x)
    (y : Contents B) where
  -- the event is what the contents show of this step
  abbrev Shows : Event → Type 0
  Shows e = ShowsEvent cells r.born r.maker x y e r.born r.maker

  module _ (id t : ℕ) where
    -- a task that has its result acts: it is at the stage of what it does
    module _ (d d' : Does) (o : ProceedsOpen cells x y id t d d') (begun : IsBegun (phase_of d)) where
      owns_result : x.words.own t ≡ Some t
      owns_result = (list_owned r id t o.turns.before_it o.turns.held t o.result).1

      open_begun : IsBegun (phase_of o.turns.before_it.does)
      open_begun = subst (λ z. IsBegun (phase_of z)) (sym o.turns.did) begun

      open_stage : stage (core_of r).cells t ≡ does_shown t d
      open_stage = stage_held r id t o.turns.before_it o.turns.held t
          (turned_out r y t id o.turns.before_it o.turns.after_it o.turns.held o.turns.turned open_begun) owns_result
          ∙ ap (does_shown t) o.turns.did

      open_event : (f : CellStage → CellStage) (e : Event) (others cleared : ℕ)
          → does_shown t d' ≡ f (does_shown t d)
          → Allowed cells (core_of r) e
          → after (core_of r) e ≡ record (restage (core_of r) t f) { others = others; cleared = cleared }
          → y.words.others ≡ others
          → total y.seats.cleared ≡ cleared
          → Shows e
      open_event f e others cleared fits =
          turned_event r y t id o.turns.before_it o.turns.after_it o.turns.held o.turns.turned open_begun t f e others
          cleared owns_result
          (ap (does_shown t) o.turns.now ∙ (fits ∙ ap (λ z. f (does_shown t z)) (sym o.turns.did)))

    -- the add to OTHERS is a Raise
    pub raise_shown : (d : Does) → RaisesOthers cells x y id t d → Shows (event.Raise (cell t))
    raise_shown d s =
        open_event d does.Raised s.turns (acting_begun d s.may) (λ _. raised) (event.Raise (cell t))
        (suc x.words.others)
        (core_of r).cleared refl
        (subst Runs (sym (open_stage d does.Raised s.turns (acting_begun d s.may))) (acting_runs t d s.may)) refl
        s.others s.cleared

    -- the store of Walking is a Publish
    pub publish_shown : (d : Does) (p : ℕ) (way : Way) → PublishesWait cells x y id t r.born d p way
        → Shows (event.Publish (cell t) (cell p))
    publish_shown d p way s =
        open_event d (does.Walking p way start_walk) s.turns begun (λ _. waits p way (walks start_walk))
        (event.Publish (cell t) (cell p)) x.words.others (core_of r).cleared refl (
          s.there.0,
          subst (λ v. MayPublish v (stage (core_of r).cells t)) (sym is_way)
              (subst (MayPublish way) (sym (open_stage d (does.Walking p way start_walk) s.turns begun))
              (may way s.may)),
        )
        (λ j. restage (core_of r) t (λ _. waits p (is_way j) (walks start_walk))) s.keeps.others s.keeps.cleared
      where
        begun : IsBegun (phase_of d)
        begun = waits_begun way d s.may

        may : (way : Way) → MayWait way d → MayPublish way (does_shown t d)
        may Along m = acting_runs t d m
        may Other m = ap (does_shown t) m

        is_way : way_of_wait (core_of r) t p ≡ way
        is_way = way_shown r p s.there t (held_drawn r id t s.turns.turns.before_it s.turns.turns.held) ∙ sym s.its_way

    -- a walker is shown to walk as its seat has it
    module _ {p : ℕ} {way : Way} {w : Walker} {d' : Does} (s : Proceeds cells x y id t (does.Walking p way w) d') where
      walker_begun : IsBegun (phase_of s.before_it.does)
      walker_begun = subst (λ z. IsBegun (phase_of z)) (sym s.did) tt

      walker_owned : (u : ℕ) × (x.words.own t ≡ Some u)
      walker_owned = waiter_owned r t (cell p) way walk.Walking
          ((custody r id t s.before_it s.held).does ∙ ap phase_of s.did)

      walker_stage : stage (core_of r).cells t ≡ waits p way (walks w)
      walker_stage = stage_held r id t s.before_it s.held walker_owned.0
          (turned_out r y t id s.before_it s.after_it s.held s.turned walker_begun) walker_owned.1
          ∙ ap (does_shown t) s.did

      walker_event : (f : CellStage → CellStage) (e : Event)
          → does_shown t d' ≡ f (waits p way (walks w))
          → (stage (core_of r).cells t ≡ waits p way (walks w) → Allowed cells (core_of r) e)
          → after (core_of r) e ≡ restage (core_of r) t f
          → KeepsOthers cells x y
          → Shows e
      walker_event f e fits may is keeps =
          turned_event r y t id s.before_it s.after_it s.held s.turned walker_begun walker_owned.0 f e x.words.others
          (core_of r).cleared walker_owned.1
          (ap (does_shown t) s.now ∙ (fits ∙ ap (λ z. f (does_shown t z)) (sym s.did))) (may walker_stage) is
          keeps.others keeps.cleared

      -- what its walk names is there
      walk_there : (c : ℕ) → IsIn c (walk_cells p w) → IsThere (drawn_in cells x) (hand_of x) c
      walk_there c i = r.names.walks id s.held.0 s.held.1 s.before_it (held_listed s.held.0 t s.before_it s.held.2) c
          (subst (λ z. IsIn c (does_cells z)) (sym s.did) i)

    -- the load of OTHERS
    pub others_shown : (p : ℕ) (way : Way) (w : Walker)
        → ReadsOn cells x y id t p way w (others_read x.words.others w) → MayReadOthers way w
        → Shows (event.LoadOthers (cell t))
    others_shown p way w s may = walker_event s.turns (walked (λ c z. others_read x.words.others z))
        (event.LoadOthers (cell t)) refl (λ i. (p, way, w, i, may)) refl s.keeps

    -- the load of COUNT
    pub count_shown : (p : ℕ) (way : Way) (w : Walker)
        → ReadsOn cells x y id t p way w (count_read (drawn_in cells x) w) → MayCount way w
        → Shows (event.LoadCount (cell t))
    count_shown p way w s may = walker_event s.turns (walked (λ c z. count_read (drawn_in cells x) z))
        (event.LoadCount (cell t)) refl (λ i. (p, way, w, i, may)) refl s.keeps

    -- the present cell of a walk is one that it names
    present_listed : (p : ℕ) (trail : List TrailLink) (rest : List ℕ)
        → IsIn (present p trail) (p ∷ (trail_cells trail ++ rest))
    present_listed p [] rest = inl refl
    present_listed p (link ∷ links) rest = inr (inr (inl refl))

    -- its owner is the one that OWN tells
    present_owner : {p : ℕ} {way : Way} {w : Walker} {d' : Does}
        → Proceeds cells x y id t (does.Walking p way w) d'
        → owner (core_of r).cells (present p w.trail) ≡ x.words.own (present p w.trail)
    present_owner {p} {way} {w} s =
        let there = walk_there s (present p w.trail) (present_listed p w.trail (read_cells w.last)) in
        owner_out r.born r.maker (parts_of cells x) (present p w.trail) there.0 there.1

    -- the load of OWN of the present cell
    pub owner_shown_read : (p : ℕ) (way : Way) (w : Walker)
        → ReadsOn cells x y id t p way w (owner_read (x.words.own (present p w.trail)) w) → MayReadOwner w
        → Shows (event.ReadOwner (cell t))
    owner_shown_read p way w s may = walker_event s.turns
        (walked (λ c z. owner_read (owner (core_of r).cells (present c z.trail)) z)) (event.ReadOwner (cell t))
        (λ j. waits p way (walks (owner_read (sym (present_owner s.turns) j) w))) (λ i. (p, way, w, i, may)) refl
        s.keeps

    -- the load of PHASE of the owner that was read
    pub wait_shown_read : (p : ℕ) (way : Way) (w : Walker) (u : ℕ)
        → ReadsOn cells x y id t p way w (wait_found u (wait_in (x.words.phase u)) w) → w.last ≡ SawOwner (Some u)
        → u ≢ t → Shows (event.ReadWait (cell t))
    wait_shown_read p way w u s last other = walker_event s.turns (walked (λ c z. wait_read (core_of r).cells z z.last))
        (event.ReadWait (cell t)) (λ j. waits p way (walks (fits j))) (λ i. (p, way, w, i, (u, last, other))) refl
        s.keeps
      where
        there : IsThere (drawn_in cells x) (hand_of x) u
        there = walk_there s.turns u
            (inr (in_right u (trail_cells w.trail) (read_cells w.last)
            (subst (λ z. IsIn u (read_cells z)) (sym last) (inl refl))))

        fits : wait_found u (wait_in (x.words.phase u)) w ≡ wait_read (core_of r).cells w w.last
        fits = (λ j. wait_found u (sym (wait_shown r u there) j) w)
            ∙ ap (wait_read (core_of r).cells w) (sym last)

    -- the second load of OWN of the present cell
    pub again_shown_read : (p : ℕ) (way : Way) (w : Walker) (u v : ℕ)
        → ReadsOn cells x y id t p way w (owner_found (is_owner (x.words.own (present p w.trail)) u) u v w)
        → w.last ≡ SawWait u (Some v) → Shows (event.ReadOwnerAgain (cell t))
    again_shown_read p way w u v s last = walker_event s.turns
        (walked (λ c z. owner_again (owner (core_of r).cells (present c z.trail)) z z.last))
        (event.ReadOwnerAgain (cell t))
        (λ j. waits p way (walks (fits j))) (λ i. (p, way, w, i, (u, v, last))) refl s.keeps
      where
        fits : owner_found (is_owner (x.words.own (present p w.trail)) u) u v w
            ≡ owner_again (owner (core_of r).cells (present p w.trail)) w w.last
        fits = (λ j. owner_found (is_owner (sym (present_owner s.turns) j) u) u v w)
            ∙ ap (owner_again (owner (core_of r).cells (present p w.trail)) w) (sym last)

    -- the store of Alarmed
    pub alarm_shown : (p : ℕ) (way : Way) (w : Walker) → StoresAlarm cells x y id t p way w
        → Shows (event.Alarm (cell t))
    alarm_shown p way w s = walker_event s.turns (walk_ended alarmed) (event.Alarm (cell t)) refl
        (λ i. (p, way, w, i, s.last)) refl s.keeps

    -- the store of Parked
    pub settle_shown : (p : ℕ) (way : Way) (w : Walker) → StoresParked cells x y id t p way w
        → Shows (event.Settle (cell t))
    settle_shown p way w s =
        moved_event r y t (phase.Waiting (cell p) way walk.Parked) None (Some s.leaves.record_of) s.leaves.moved there.0
        there.1 (Some owned.0) (walk_ended parked) (event.Settle (cell t)) x.words.others (core_of r).cleared owned.1
        (ap (walk_ended parked) (sym at_stage)) (p, way, w, at_stage, s.may) refl s.keeps.others s.keeps.cleared
      where
        is_phase : x.words.phase t ≡ phase.Waiting (cell p) way walk.Walking
        is_phase = (custody r id t s.leaves.before_it s.leaves.held).does ∙ ap phase_of s.leaves.did

        there : IsThere (drawn_in cells x) (hand_of x) t
        there = begun_there r t (subst IsBegun (sym is_phase) tt)

        owned : (u : ℕ) × (x.words.own t ≡ Some u)
        owned = waiter_owned r t (cell p) way walk.Walking is_phase

        at_stage : stage (core_of r).cells t ≡ waits p way (walks w)
        at_stage = stage_held r id t s.leaves.before_it s.leaves.held owned.0 there.1 owned.1
            ∙ ap (does_shown t) s.leaves.did
