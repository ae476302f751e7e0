-- A wait is cleared, and OTHERS is lowered for it.
use Rattle.tj_words.proofs.Prelude.{Contents, Custody, Hand, IsBegun, IsKept, IsRecordIn, IsThere, Law, LiesAtHome}
use Rattle.tj_words.proofs.Prelude.{None, Option, Phase, Program, Some, Way, answer_stage, ap, cell, does_stage}
use Rattle.tj_words.proofs.Prelude.{drawn_in, hand_of, held_of, home_of, parked, phase_sort, running, sort_shown, stage}
use Rattle.tj_words.proofs.Prelude.{stage_there, subst, sym, tag_in, total, waits, ℕ, ⊎_elim, ◌+◌, ◌∙◌, ◌≡◌}
use Rattle.tj_words.proofs.Lemmas.{ShowsEvent, begun_there, core_of, owner_out, parts_of, shown_by, stage_out}
use Rattle.tj_words.proofs.Lemmas.{waiter_owned}
use Rattle.tj_words.proofs.Events.WalkSteps.{ClearsWait, LowersOthers}
use Rattle.tj_events.specs.Events.{restage, raised_by, raised_by_way}
use Rattle.tj_words.proofs.Events.TurnedTasks.{moved_event}
use Rattle.tj_base.specs.declared.cell.Sort.TheVariants as sort
use Rattle.tj_events.specs.declared.event.Event.TheVariants as event
use Rattle.tj_words.specs.declared.phase.Walk.TheVariants as walk
use Rattle.tj_words.specs.declared.phase.Phase.TheVariants as phase
use Rattle.tj_words.specs.declared.view.Does.TheVariants as does

module _ {B : Type 0} {program : Program B} {cells : ℕ} {x : Contents B} (r : Law program cells x) where
  -- where a task is that has begun: as its phase says
  pub begun_kept : (t : ℕ) → IsBegun (x.words.phase t) → phase_sort (x.words.phase t) ≡ sort.Task
      → IsKept (x.words.phase t) (r.custody.holder t) (home_of x t)
  begun_kept t b s = let there = begun_there r t b in
      r.custody.tasks_kept t there.0 (ap (λ (o : Option Hand). sort_shown o (x.words.phase t)) there.1 ∙ s)

  module _ (y : Contents B) where
    -- the exchange of Parked is an Unwait
    pub clear_shown : (t p : ℕ) (way : Way) (to : Phase) (held : Option (Custody B))
        → ClearsWait cells x y t p way to held
        → ShowsEvent cells r.born r.maker x y (event.Unwait (cell t)) r.born r.maker
    clear_shown t p way to held s =
        moved_event r y t to held s.home s.moved there.0 there.1 (Some owned.0) (λ _. running)
        (event.Unwait (cell t)) x.words.others (total x.seats.cleared + raised_by_way way) owned.1
        (⊎_elim to_ready to_run s.goes)
        (p, way, at_stage, owner_out r.born r.maker (parts_of cells x) p cell_there.0 cell_there.1 ∙ s.closed)
        (λ j. record (restage (core_of r) t (λ _. running)) {
          cleared = total x.seats.cleared + raised_by (at_stage j);
        })
        s.others s.cleared
      where
        begun : IsBegun (x.words.phase t)
        begun = subst IsBegun (sym s.parked) tt

        there : IsThere (drawn_in cells x) (hand_of x) t
        there = begun_there r t begun

        cell_there : IsThere (drawn_in cells x) (hand_of x) p
        cell_there = r.names.waits t (cell p) way walk.Parked s.parked

        owned : (u : ℕ) × (x.words.own t ≡ Some u)
        owned = waiter_owned r t (cell p) way walk.Parked s.parked

        at_stage : stage (core_of r).cells t ≡ waits p way parked
        at_stage = stage_out r.born r.maker (parts_of cells x) t there.0 there.1
            ∙ (λ j. stage_there t (phase_sort (s.parked j)) (owned.1 j) (s.parked j) (held_of x t) (home_of x t))

        kept : LiesAtHome (r.custody.holder t) (home_of x t)
        kept = subst (λ z. IsKept z (r.custody.holder t) (home_of x t)) s.parked
            (begun_kept t begun (ap phase_sort s.parked))

        -- its record waits for a cell, so it isn't at Start
        was_waiting : answer_stage t kept.1.0.answer ≡ running
        was_waiting =
            let q = subst (λ z. IsRecordIn (tag_in x) z kept.1.0) s.parked (r.records_fit t kept.1.0 kept.1.1) in
            ap (answer_stage t) q.1.2

        to_ready : (to ≡ phase.Ready) × (held ≡ None) × (s.home ≡ home_of x t)
            → stage_there t (phase_sort to) (Some owned.0) to held s.home ≡ running
        to_ready q =
            (λ j. stage_there t (phase_sort (q.0 j)) (Some owned.0) (q.0 j) (q.1 j) ((q.2 ∙ kept.1.1) j)) ∙ was_waiting

        to_run : (to ≡ phase.Running) × (s.home ≡ None)
            × ((k : Custody B) × (held ≡ Some k) × (k.does ≡ does.Running))
            → stage_there t (phase_sort to) (Some owned.0) to held s.home ≡ running
        to_run q = (λ j. stage_there t (phase_sort (q.0 j)) (Some owned.0) (q.0 j) (q.2.1 j) s.home)
            ∙ ap (does_stage t) q.2.2

    -- the subtraction from OTHERS is a Lower
    pub lower_shown : LowersOthers cells x y → ShowsEvent cells r.born r.maker x y event.Lower r.born r.maker
    lower_shown s = record { allowed = s.some; shown = ap (shown_by r.born r.maker) s.same }
