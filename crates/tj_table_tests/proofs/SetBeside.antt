-- A seat that runs a task, while another one of its tasks has blocked on a promise, sets a promise by the first: what
-- each call needs of the seat, and that the other one may be parked as before.
use Rattle.tj_run.proofs.Prelude.{Begins, Blocked, Bool, Custody, Does, Fill, FillSays, HasNoRecord, HasSeen, HasSlot}
use Rattle.tj_run.proofs.Prelude.{HasWoken, Held, IsFilledWith, IsIn, Laid, List, MayFill, MayGiveUp, MayParkTask}
use Rattle.tj_run.proofs.Prelude.{MayWake, None, Program, Rec, Reference, SeatMe, Some, Value, Verdict, View}
use Rattle.tj_run.proofs.Prelude.{[], ap, arith, became, begins_self, cond, custody_of, does_after, eq-eqb}
use Rattle.tj_run.proofs.Prelude.{false, gave_up, held_in, inr, length, nat_eq, ne_eqb, none_some, now_does, one_some}
use Rattle.tj_run.proofs.Prelude.{refl, rest, subst, sym, true, waits_at, without, without_due, ℕ, ◌+◌, ◌∙◌, ◌∷◌, ◌≡◌}
use Rattle.tj_words.proofs.Meaning.MeaningGrows.{cell_on, told_on}
use Rattle.tj_words.proofs.Holders.NotedEntries.{noted_else}
use Rattle.tj_park.proofs.BreakSteps.{alarms_closed, may_wake_closed, without_first}
use Rattle.tj_table_tests.proofs.ParkedBeside.{no_other, parks_too, slot_first}
use Rattle.tj_table_tests.proofs.TwoTasks.{slots_now, tasks_now}
use Rattle.tj_body.specs.declared.point.Entry.TheVariants as entry
use Rattle.tj_events.specs.declared.walk.Way.TheVariants as way
use Rattle.tj_words.specs.declared.offsets.Once.TheVariants as once
use Rattle.tj_record.specs.declared.record.Fill.TheVariants as fill
use Rattle.tj_detect.specs.declared.blocking.Verdict.TheVariants as verdict
use Rattle.tj_table_tests.specs.Beside.{WaitsBeside}

-- a value is what it was where more cells are known
value_on : (b b' : List Reference) → Begins b b' → (f : Fill) (x : Value) → FillSays b f x → FillSays b' f x
value_on b b' more (fill.Num i) x h = h
value_on b b' more (fill.Promise c) x h = (h.0, cell_on b b' more c.0 _ h.1, h.2)
value_on b b' more (fill.Task c) x h = (h.0, cell_on b b' more c.0 _ h.1, h.2)

-- what stands in a list of one
only_one : {B : Type 0} (k a : Custody B) (u : ℕ) → held_in (k ∷ []) u ≡ Some a → k ≡ a
only_one {B} k a u = by (nat_eq k.task u)
  where
    by : (b : Bool) → cond b (Some k) None ≡ Some a → k ≡ a
    by true e = one_some k a e
    by false e = none_some None a refl e

-- the other task has blocked, its walk has ended, and the first task is to set a promise
pub record SetsBeside {B : Type 0} (program : Bool → B → Program B) (laid : Laid B) (r0 r : Rec B) (p : ℕ) (h : Held)
    (old m n : SeatMe B) (c : ℕ) (f : Fill) : Type 0 where
  pub waits : WaitsBeside program laid r0 r p h old m
  pub ended : Verdict
  pub walked : ended ≡ verdict.Walked
  pub blocked : Blocked ended r.cell.0 h.cell.0 way.Other m.0 n.0
  pub same : n.1 ≡ m.1
  pub gives : MayGiveUp r0.cell.0 c old.0
  pub fills : MayFill program c f old.0

module _ {B : Type 0} {program : Bool → B → Program B} {laid : Laid B} {r0 r : Rec B} {p : ℕ} {h : Held}
    {old m n : SeatMe B} {c : ℕ} {f : Fill} (s : SetsBeside program laid r0 r p h old m n c f) where
  abbrev w : WaitsBeside program laid r0 r p h old m
  w = s.waits

  abbrev d : Blocked s.ended r.cell.0 h.cell.0 way.Other m.0 n.0
  d = s.blocked

  abbrev t : ℕ
  t = r.cell.0

  abbrev u : ℕ
  u = r0.cell.0

  abbrev k0 : Custody B
  k0 = w.begun.runs.custody

  parks : MayParkTask program t h.cell.0 way.Other (waits_at p false r) n.0
  parks = parks_too w n s.ended s.walked d s.same

  abbrev does_now : Does
  does_now = does_after s.ended h.cell.0 way.Other d.walker

  both_there : m.0.tasks ≡ custody_of r ∷ (k0 ∷ [])
  both_there = tasks_now program laid r0 (record r { body = w.body }) old m w.begun

  -- the seat has the same for its first task
  held_first : held_in n.0.tasks u ≡ Some k0
  held_first = ap (λ (x : View B). held_in x.tasks u) d.view
      ∙ (noted_else m.0.tasks t (custody_of r) (now_does does_now) w.begun.claimed.taken.held refl u
      (λ e. w.begun.apart (sym e))
      ∙ (ap (λ l. held_in l u) both_there
      ∙ (ap (λ b. cond b (Some (custody_of r)) (held_in (k0 ∷ []) u)) (ne_eqb t u w.begun.apart)
      ∙ ap (λ b. cond b (Some k0) None) (eq-eqb k0.task u w.begun.runs.task))))

  its_own : k0 ≡ s.gives.0.owner.custody
  its_own = only_one k0 s.gives.0.owner.custody s.gives.0.task
      (ap (λ l. held_in l s.gives.0.task) (sym w.begun.runs.tasks) ∙ s.gives.0.owner.held)

  no_hand : n.0.hand ≡ None
  no_hand = parks.idle.hand

  -- the first task may give the promise up
  pub gives_beside : MayGiveUp u c n.0
  gives_beside = (
    record {
      task = u;
      owner = record {
        custody = k0;
        held = held_first;
        may = w.begun.runs.runs;
        out = w.begun.runs.out;
        result = w.begun.runs.result;
        owns = subst (λ (k : Custody B). IsIn c k.owned) (sym its_own) s.gives.0.owner.owns;
      };
      last = λ e. (
        ap (λ (k : Custody B). k.owned) its_own ∙ (s.gives.0.last (e ∙ sym s.gives.1)).0,
        no_hand,
      );
    },
    refl,
  )

  born_on : n.0.born ≡ m.0.born
  born_on = ap (λ (x : View B). x.born) d.view

  more_born : Begins old.0.born n.0.born
  more_born = subst (Begins old.0.born) (sym born_on) w.begun.claimed.knows.born

  says_beside : FillSays n.0.born f s.fills.value
  says_beside = value_on old.0.born n.0.born more_born f s.fills.value s.fills.says

  -- and fill it
  pub fills_beside : MayFill program c f n.0
  fills_beside = record {
    value = s.fills.value;
    says = says_beside;
    will = record {
      about = s.fills.will.about;
      is_about = ap (λ (x : View B). x.about) d.view ∙ (w.begun.claimed.knows.about ∙ s.fills.will.is_about);
      becomes = let b = s.fills.will.becomes in (b.0, cell_on old.0.born n.0.born more_born c b.0 b.1, b.2);
    };
    knows = λ x i. subst (IsIn x) (sym (ap (λ (z : View B). z.known) d.view))
        (w.begun.claimed.knows.known x (s.fills.knows x i));
  }

  -- then those who wait for it may be woken
  module _ (o : SeatMe B) (filled : IsFilledWith u c f n.0 o.0) (mine : o.1 ≡ n.1) where
    became_so : o.0 ≡ became u c (entry.Value s.fills.value) n.0
    became_so = filled s.fills.value says_beside

    slots_are : o.1 ≡ (t, None) ∷ ((u, None) ∷ [])
    slots_are = mine ∙ (s.same ∙ slots_now program laid r0 (record r { body = w.body }) old m w.begun)

    pub wakes_beside : MayWake c o
    wakes_beside = subst (λ (x : View B). MayWake c (x, o.1)) (sym became_so)
        (subst (λ y. MayWake c (became u c (entry.Value s.fills.value) n.0, y)) (sym slots_are)
        (may_wake_closed u c (entry.Value s.fills.value) n.0 k0 held_first ((t, None) ∷ ((u, None) ∷ [])) tt
        parks.idle.rest parks.walks.room (let a = parks.room in omega arith) parks.alarms))

    -- and the other task may be parked
    module _ (chain : List ℕ) (z : SeatMe B) (woke : HasWoken c chain [] o.0 z.0) (its : z.1 ≡ o.1) where
      abbrev woken : View B → View B
      woken x = record x {
        steps = z.0.steps;
        plain_loads = x.plain_loads + length chain;
        shuts = without c x.shuts;
        rest = None;
        closed = c ∷ x.closed;
        notes = z.0.notes;
      }

      abbrev now : View B
      now = woken (became u c (entry.Value s.fills.value) n.0)

      now_is : z.0 ≡ now
      now_is = woke.view ∙ ap woken became_so

      parks_now : MayParkTask program t h.cell.0 way.Other (waits_at p false r) now
      parks_now = let a = parks in record {
        walks = record {
          custody = a.walks.custody;
          walker = a.walks.walker;
          held = noted_else n.0.tasks u k0 (gave_up c) held_first refl t w.begun.apart ∙ a.walks.held;
          walks = a.walks.walks;
          room = a.walks.room;
        };
        settles = a.settles;
        leaves = record {
          has = record {
            cell = a.leaves.has.cell;
            owned = a.leaves.has.owned;
            made = a.leaves.has.made;
            knows = a.leaves.has.knows;
          };
          told = let o = a.leaves.told in (
            o.0,
            o.1,
            told_on (program o.0.strict o.0.root) n.0.born n.0.born (begins_self n.0.born) (HasSeen n.0.filled)
                (HasSeen now.filled) (λ x e i. inr i) (waits_at p false r) o.2,
          );
          unfinished = a.leaves.unfinished;
        };
        waits = a.waits;
        idle = record {
          hand = a.idle.hand;
          dues = ap (λ l. without_due c once.Tag (without_due c once.Bits l)) a.idle.dues;
          pushes = a.idle.pushes;
          shuts = ap (λ l. without c (c ∷ l)) a.idle.shuts ∙ without_first c [];
          rest = refl;
        };
        room = a.room;
        alarms = alarms_closed u c (entry.Value s.fills.value) n.0 k0 held_first a.alarms;
      }

      pub parks_beside : MayParkTask program t h.cell.0 way.Other (waits_at p false r) z.0
      parks_beside = subst (MayParkTask program t h.cell.0 way.Other (waits_at p false r)) (sym now_is) parks_now

      slots_so : z.1 ≡ n.1
      slots_so = its ∙ mine

      pub slot_beside : HasSlot t z
      slot_beside = let k = slot_first w n s.ended s.walked d s.same in
          (k.0, slots_so ∙ (k.1 ∙ ap (λ l. (t, k.0) ∷ rest l) (sym slots_so)))

      pub other_beside : HasNoRecord (rest z.1)
      other_beside = subst (λ l. HasNoRecord (rest l)) (sym slots_so)
          (no_other w n s.ended s.walked d s.same)
