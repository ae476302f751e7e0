-- The steps of a task from its wait on: it raises OTHERS, publishes, walks, and alarms or settles; and its wait is
-- cleared. Each is said by what it needs of the seat's view and what it changes of all that is shown.
use Rattle.tj_words.proofs.Prelude.{Contents, Custody, Does, IsIn, IsThere, MayAct, MayWait, Phase, Rec, Reference}
use Rattle.tj_words.proofs.Prelude.{SawOwner, Walker, Way, cell, drawn_in, hand_of, held_of, home_of, made_by, phase_of}
use Rattle.tj_words.proofs.Prelude.{raised_by_way, start_walk, total, way_by}
use Rattle.std.specs.Prelude.{◌≡◌, ◌⊎◌, ℕ, suc, ◌+◌, ◌-◌, ◌<◌, List, Option, Some, None}
use Rattle.tj_events.specs.Events.{MaySettle}
use Rattle.tj_words.proofs.Events.ShownParts.{parts_of, moved_parts}
use Rattle.tj_words.proofs.Events.StepEvents.{IsHeldWith}
use Rattle.tj_words.specs.declared.phase.Walk.TheVariants as walk
use Rattle.tj_words.specs.declared.phase.Phase.TheVariants as phase
use Rattle.tj_words.specs.declared.view.Does.TheVariants as does

-- a task whose wait is cleared is ready, and its record lies at home as it did; or it runs, with a seat, which has the
-- record
abbrev pub GoesOn : {B : Type 0} → Phase → Option (Custody B) → Option (Rec B) → Option (Rec B) → Type 0
GoesOn {B} p held lay home = ((p ≡ phase.Ready) × (held ≡ None) × (home ≡ lay))
    ⊎ ((p ≡ phase.Running) × (home ≡ None) × ((k : Custody B) × (held ≡ Some k) × (k.does ≡ does.Running)))

module _ {B : Type 0} where
  -- t is in this phase from now on, with a seat or at home, and has made as many things; nothing else that is shown is
  -- changed but OTHERS and the number of waits cleared
  pub record IsMoved (cells : ℕ) (x y : Contents B) (t : ℕ) (p : Phase) (held : Option (Custody B))
      (home : Option (Rec B)) : Type 0 where
    pub made : made_by held home ≡ made_by (held_of x t) (home_of x t)
    pub parts : parts_of cells y ≡ record (moved_parts (parts_of cells x) t p held home) {
      others = y.words.others;
      cleared = total y.seats.cleared;
    }

module _ {B : Type 0} (cells : ℕ) (x y : Contents B) where
  -- OTHERS and the number of waits cleared are as before
  pub record KeepsOthers : Type 0 where
    pub others : y.words.others ≡ x.words.others
    pub cleared : total y.seats.cleared ≡ total x.seats.cleared

  module _ (id t : ℕ) where
    -- seat id's task t proceeds from this to that: it did the one, and does the other from now on
    pub record Proceeds (d d' : Does) : Type 0 where
      pub before_it : Custody B
      pub after_it : Custody B
      pub held : IsHeldWith x id t before_it
      pub did : before_it.does ≡ d
      pub now : after_it.does ≡ d'
      pub turned : IsMoved cells x y t (phase_of after_it.does) (Some after_it) (home_of y t)

    -- the same of a task that has its result still
    pub record ProceedsOpen (d d' : Does) : Type 0 where
      pub turns : Proceeds d d'
      pub result : IsIn t turns.before_it.owned

    -- the add to OTHERS
    pub record RaisesOthers (d : Does) : Type 0 where
      pub turns : ProceedsOpen d does.Raised
      pub may : MayAct d
      pub others : y.words.others ≡ suc x.words.others
      pub cleared : total y.seats.cleared ≡ total x.seats.cleared

    -- the store of Walking into PHASE, where the cells are these
    pub record PublishesWait (born : List Reference) (d : Does) (p : ℕ) (way : Way) : Type 0 where
      pub turns : ProceedsOpen d (does.Walking p way start_walk)
      pub may : MayWait way d
      pub there : IsThere (drawn_in cells x) (hand_of x) p
      pub its_way : way ≡ way_by born t p
      pub keeps : KeepsOthers

    -- a load of a walker, which has read so much then
    pub record ReadsOn (p : ℕ) (way : Way) (w w' : Walker) : Type 0 where
      pub turns : Proceeds (does.Walking p way w) (does.Walking p way w')
      pub keeps : KeepsOthers

    -- the store of Alarmed into PHASE, by a walker that has read its own task as owner
    pub record StoresAlarm (p : ℕ) (way : Way) (w : Walker) : Type 0 where
      pub turns : Proceeds (does.Walking p way w) (does.Alarmed p way w)
      pub last : w.last ≡ SawOwner (Some t)
      pub keeps : KeepsOthers

    -- seat id's task t leaves it; its record lies at home
    pub record Leaves (d : Does) (p : Phase) : Type 0 where
      pub before_it : Custody B
      pub record_of : Rec B
      pub held : IsHeldWith x id t before_it
      pub did : before_it.does ≡ d
      pub moved : IsMoved cells x y t p None (Some record_of)

    -- the store of Parked into PHASE, by a walker at the end of its walk
    pub record StoresParked (p : ℕ) (way : Way) (w : Walker) : Type 0 where
      pub leaves : Leaves (does.Walking p way w) (phase.Waiting (cell p) way walk.Parked)
      pub may : MaySettle w
      pub keeps : KeepsOthers

  module _ (t : ℕ) where
    -- the exchange of PHASE from Parked to Ready or to Running, where nobody owns the cell; the seat has one wait more
    -- to lower OTHERS for, where it was an other wait
    pub record ClearsWait (p : ℕ) (way : Way) (to : Phase) (held : Option (Custody B)) : Type 0 where
      pub home : Option (Rec B)
      pub goes : GoesOn to held (home_of x t) home
      pub parked : x.words.phase t ≡ phase.Waiting (cell p) way walk.Parked
      pub closed : x.words.own p ≡ None
      pub moved : IsMoved cells x y t to held home
      pub others : y.words.others ≡ x.words.others
      pub cleared : total y.seats.cleared ≡ total x.seats.cleared + raised_by_way way

  -- the subtraction from OTHERS, by a seat that has a wait cleared and not yet lowered
  pub record LowersOthers : Type 0 where
    pub some : 0 < total x.seats.cleared
    pub same : parts_of cells y
        ≡ record (parts_of cells x) {
          others = x.words.others - 1;
          cleared = total x.seats.cleared - 1;
        }
