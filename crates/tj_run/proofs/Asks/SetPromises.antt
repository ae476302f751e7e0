-- A running task sets a promise that it owns, or fails since it may not.
use Rattle.tj_run.proofs.Prelude.{AreApart, ArePairs, Bool, CellId, Custody, Entry, Fill, FillSays, Goes, HasCell}
use Rattle.tj_run.proofs.Prelude.{HasName, HasSeen, HasWoken, Held, HeldSays, IsAsked, IsCell, IsClosing, IsIn}
use Rattle.tj_run.proofs.Prelude.{IsOfRounds, IsRunning, IsTailOf, KnowsMore, Laid, List, MayAct, MayFill, MayWake}
use Rattle.tj_run.proofs.Prelude.{Name, NamesTellCells, None, Pay, Point, PointsAsk, Program, Rec, Reference, RunsTask}
use Rattle.tj_run.proofs.Prelude.{SeatMe, Some, Sort, Value, View, WritesBecome, [], about_table, ap, arith, became}
use Rattle.tj_run.proofs.Prelude.{begins_self, cond, false, fill_at, fill_cells, gave_up, has_cell, held_at, held_in}
use Rattle.tj_run.proofs.Prelude.{in_either, in_right, inl, inr, inside, map, may_wake_closed, more_itself, none_some}
use Rattle.tj_run.proofs.Prelude.{noted, numbers, one_some, refl, subst, sym, table_program, to_map, true, without}
use Rattle.tj_run.proofs.Prelude.{without_cell, without_due, without_first, ℕ, ◌++◌, ◌+◌, ◌<◌, ◌∙◌, ◌∷◌, ◌≡◌, ◌≢◌, ◌⊎◌}
use Rattle.std.proofs.Common.{◌↔◌, nat_eq, length, ⊎_elim}
use Rattle.tj_body.specs.History.{after_ask, after_failure, after_set, after_write, reference, to_task, value_at}
use Rattle.tj_body.specs.Names.{has, without as without_name}
use Rattle.tj_cells.specs.FilledCells.{IsFilledWith, MayGiveUp, cells_named}
use Rattle.tj_park.specs.Records.{AlarmsLeave}
use Rattle.tj_run.proofs.Asks.AskedSteps.{asked_fails}
use Rattle.tj_run.proofs.Cells.KnownCells.{AreKnown, cells_known, ending_known, held_known, owed_known, owned_known}
use Rattle.tj_run.proofs.Cells.KnownCells.{task_known}
use Rattle.tj_run.proofs.Cells.NamedLists.{apart_without, are_told, beside_first, has_behind, has_in, in_without_cell}
use Rattle.tj_run.proofs.Cells.NamedLists.{name_in, name_is, still_in, without_behind, without_one}
use Rattle.tj_run.proofs.Asks.NewThings.{stands_then, task_held}
use Rattle.tj_run.proofs.Seats.OneTask.{noted_one}
use Rattle.tj_run.proofs.Cells.OwnedCells.{holds_are, others as its_others, others_there, owned_is, promise_other}
use Rattle.tj_run.proofs.Asks.PointSteps.{after_rounds, before, fill_at_says, pairs_at, stands_next}
use Rattle.tj_run.proofs.Seats.RunningTasks.{gives_known, in_at}
use Rattle.tj_park.proofs.WakeLoops.{noted_tail}
use Rattle.tj_run.proofs.Seats.QuietTasks.{acts_quietly}
use Rattle.tj_base.specs.declared.cause.Cause.TheVariants as cause
use Rattle.tj_base.specs.declared.cell.Sort.TheVariants as sort
use Rattle.tj_body.specs.declared.ask.Answer.TheVariants as answer
use Rattle.tj_body.specs.declared.ask.Ask.TheVariants as ask
use Rattle.tj_body.specs.declared.point.Entry.TheVariants as entry
use Rattle.tj_words.specs.declared.offsets.Once.TheVariants as once
use Rattle.tj_record.specs.declared.record.Fill.TheVariants as fill
use Rattle.tj_record.specs.declared.record.Finish.TheVariants as finish
use Rattle.tj_record.specs.declared.record.Hurt.TheVariants as hurt
use Rattle.tj_run.specs.declared.next.Next.TheVariants as next

-- the cell that a value names, as the words and as the records have it
named_same : (f : Fill) → cells_named f ≡ fill_cells f
named_same (fill.Num i) = refl
named_same f = refl

module _ {B : Type 0} (program : Bool → B → Program B) (laid : Laid B) (r : Rec B) (k : ℕ) (y : Pay) (me : SeatMe B)
    (runs : RunsTask laid r me) (asked : IsAsked (table_program program laid) me.0 r (ask.Set k y))
    (law : PointsAsk (table_program program laid)) where
  abbrev P : Program B
  P = table_program program laid

  abbrev p : Point B
  p = before P me.0 r (ask.Set k y) asked

  -- the held cell at the place, and its reference
  abbrev d : Held
  d = held_at r.held k

  abbrev x : Reference
  x = reference p k

  abbrev pub given : Value
  given = value_at p.name p.references y

  says : HeldSays me.0.born d x
  says = pairs_at (HeldSays me.0.born) r.held p.references (record { cell = record { 0 = 0 }; sort = sort.Task })
      (to_task p.name) asked.tells.held k asked.placed.0

  -- what is given is what the record says
  pub set_says : FillSays me.0.born (fill_at r.held y) given
  set_says = fill_at_says me.0.born p.name r.held p.references y asked.tells.held asked.placed.1

  -- it is a cell of the table
  pub set_cell : d.cell.0 < laid.cells
  set_cell = let l = inside me.0.born d.cell.0 x says.0 in let f = runs.worker.cells.few in omega arith

  -- a task isn't set
  pub set_task : d.sort ≡ sort.Task → IsClosing P me.0 r (finish.Failed hurt.Kind)
  set_task e = asked_fails P me.0 law r (ask.Set k y) asked hurt.Kind cause.Kind refl (λ c i. absurd i)
      (ap (λ s. after_set s x.name given p) (sym says.1 ∙ e))

  -- the promises that it owns, beside its result
  abbrev others : List ℕ
  others = its_others P laid.cells me.0 runs.worker.cells r (ask.Set k y) asked

  module _ (promise : d.sort ≡ sort.Promise) where
    -- it isn't the result of the task
    pub set_other : d.cell.0 ≢ r.cell.0
    set_other = promise_other P laid.cells me.0 runs.worker.cells r (ask.Set k y) asked d x says promise

    module _ (tell : NamesTellCells) where
      told : (has x.name p.holds ≡ has_cell d.cell.0 (numbers r.owned))
          × (without_name x.name p.holds ≡ map (name_in me.0.born) (without_cell d.cell.0 others))
      told = let n = name_is me.0.born d.cell.0 x says.0 in
          let t = (tell (name_in me.0.born) others).0 d.cell.0
          (are_told laid.cells me.0.born (d.cell.0 ∷ others) runs.worker.cells (λ c i. ⊎_elim
          (λ (e : c ≡ d.cell.0). (x, subst (λ z. IsCell me.0.born z x) (sym e) says.0))
          (λ j. others_there P laid.cells me.0 runs.worker.cells r (ask.Set k y) asked c j) i)) in (
            (λ i. has (sym n i) (holds_are P laid.cells me.0 runs.worker.cells r (ask.Set k y) asked i))
                ∙ (t.0 ∙ (sym (has_behind d.cell.0 r.cell.0 others set_other)
                ∙ ap (λ l. has_cell d.cell.0 l)
                (sym (owned_is P laid.cells me.0 runs.worker.cells r (ask.Set k y) asked)))),
            (λ i. without_name (sym n i) (holds_are P laid.cells me.0 runs.worker.cells r (ask.Set k y) asked i)) ∙ t.1,
          )

      set_is : after_ask P.rules.strict (ask.Set k y) p ≡ cond (has_cell d.cell.0 (numbers r.owned))
          (after_write x.name given p) (after_failure (cause.Owner x.name) p)
      set_is = ap (λ s. after_set s x.name given p) (sym says.1 ∙ promise)
          ∙ ap (λ b. cond b (after_write x.name given p) (after_failure (cause.Owner x.name) p)) told.0

      d_known : IsIn d.cell.0 me.0.known
      d_known = held_known me.0.known r runs.has.knows d.cell.0 (to_map (λ (h : Held). h.cell.0) d r.held
          (in_at r.held (record { cell = record { 0 = 0 }; sort = sort.Task }) k asked.placed.0))

      -- a promise isn't set that the task doesn't own
      pub set_unowned : has_cell d.cell.0 (numbers r.owned) ≡ false
          → IsClosing P me.0 r (finish.Failed (hurt.Owner d.cell))
      set_unowned e = asked_fails P me.0 law r (ask.Set k y) asked (hurt.Owner d.cell) (cause.Owner x.name)
          (x.name, (x, says.0, refl), refl)
          (λ c i. ⊎_elim (λ q. subst (λ z. IsIn z me.0.known) (sym q) d_known) (λ n. absurd n) i)
          (set_is ∙ ap (λ b. cond b (after_write x.name given p) (after_failure (cause.Owner x.name) p)) e)

      module _ (has_it : has_cell d.cell.0 (numbers r.owned) ≡ true) where
        owns : IsIn d.cell.0 runs.custody.owned
        owns = subst (IsIn d.cell.0) runs.has.owned (has_in d.cell.0 (numbers r.owned) has_it)

        write_rounds : IsOfRounds P (after_write x.name given p)
        write_rounds = subst (IsOfRounds P)
            (set_is ∙ ap (λ b. cond b (after_write x.name given p) (after_failure (cause.Owner x.name) p)) has_it)
            (after_rounds P me.0 r (ask.Set k y) asked law)

        -- the task may give it up
        pub set_gives : MayGiveUp r.cell.0 d.cell.0 me.0
        set_gives = (
          record {
            task = r.cell.0;
            owner = record {
              custody = runs.custody;
              held = task_held program laid r (ask.Set k y) me runs asked;
              may = runs.runs;
              out = runs.out;
              result = runs.result;
              owns = owns;
            };
            last = λ e. absurd (set_other e);
          },
          refl,
        )

        -- and fill it with the value
        pub set_fills : WritesBecome P → MayFill program d.cell.0 (fill_at r.held y) me.0
        set_fills written = record {
          value = given;
          says = set_says;
          will = record {
            about = about_table laid;
            is_about = runs.worker.of_table;
            becomes = (
              x,
              says.0,
              written (after_write x.name given p) x.name (entry.Value given) write_rounds
                  (in_right (x.name, entry.Value given) p.writes ((x.name, entry.Value given) ∷ []) (inl refl)),
            );
          };
          knows = subst (λ l. AreKnown me.0.known l) (sym (named_same (fill_at r.held y)))
              (gives_known r me.0.known y runs.has.knows asked.placed.1);
        }

        -- no task of the seat has alarmed
        none_alarmed : AlarmsLeave 0 me.0
        none_alarmed a = by (nat_eq runs.custody.task a.0)
            (ap (λ ks. held_in ks a.0) (sym runs.tasks) ∙ a.2)
          where
            by : (b : Bool) → cond b (Some runs.custody) None ≡ Some a.1 → 0 < me.0.tokens
            by true e = absurd (acts_quietly a.1.does
                (subst (λ (z : Custody B). MayAct z.does) (one_some runs.custody a.1 e) runs.runs) a.3)
            by false e = none_some None a.1 refl e

        module _ (w : View B) (filled : w ≡ became r.cell.0 d.cell.0 (entry.Value given) me.0) where
          -- those who wait for it may be woken then
          pub set_wakes : MayWake d.cell.0 (w, me.1)
          set_wakes = subst (λ (z : View B). MayWake d.cell.0 (z, me.1)) (sym filled)
              (subst (λ s. MayWake d.cell.0 (became r.cell.0 d.cell.0 (entry.Value given) me.0, s)) (sym runs.slots)
              (may_wake_closed r.cell.0 d.cell.0 (entry.Value given) me.0 runs.custody
              (task_held program laid r (ask.Set k y) me runs asked) ((r.cell.0, None) ∷ []) tt runs.worker.nothing.rest
              (let l = runs.worker.lot in let z = runs.worker.tokens in omega arith)
              (let l = runs.worker.lot in let z = runs.worker.cleared in omega arith) none_alarmed))

          module _ (chain : List ℕ) (u : View B) (woke : HasWoken d.cell.0 chain [] w u) (left : List CellId)
              (left_is : numbers left ≡ without_cell d.cell.0 (numbers r.owned)) where
            abbrev woken : View B → View B
            woken z = record z {
              steps = u.steps;
              plain_loads = z.plain_loads + length chain;
              shuts = without d.cell.0 z.shuts;
              rest = None;
              closed = d.cell.0 ∷ z.closed;
              notes = u.notes;
            }

            abbrev now : View B
            now = woken (became r.cell.0 d.cell.0 (entry.Value given) me.0)

            now_is : u ≡ now
            now_is = woke.view ∙ ap woken filled

            abbrev q : Rec B
            q = record r { owned = left; answer = answer.Done }

            more : KnowsMore me.0 now
            more = record {
              about = refl;
              lot = refl;
              born = begins_self me.0.born;
              known = λ z i. i;
              wrote = λ z i. inr i;
              filled = λ z i. inr i;
              seen = λ z i. i;
              closed = λ z i. inr i;
              rested = λ e. e;
              notes = subst (λ l. IsTailOf l u.notes) (ap (λ (z : View B). z.notes) filled)
                  (noted_tail d.cell.0 chain [] w w.notes u.notes woke.noted);
            }

            left_among : (c : ℕ) → IsIn c (numbers left) → IsIn c (numbers r.owned)
            left_among c i = in_without_cell d.cell.0 c (numbers r.owned) (subst (IsIn c) left_is i)

            left_owned : numbers left ≡ without d.cell.0 runs.custody.owned
            left_owned = left_is ∙ (ap (without_cell d.cell.0) runs.has.owned
                ∙ sym (without_one d.cell.0 runs.custody.owned runs.owned_apart))

            runs_then : RunsTask laid q (now, me.1)
            runs_then = let h = runs.worker in let kn = runs.has.knows in record {
              worker = record {
                of_table = h.of_table;
                lot = h.lot;
                refused = h.refused;
                tokens = h.tokens;
                cleared = h.cleared;
                nothing = record {
                  hand = h.nothing.hand;
                  dues = ap (λ l. without_due d.cell.0 once.Tag (without_due d.cell.0 once.Bits l)) h.nothing.dues;
                  pushes = h.nothing.pushes;
                  shuts = ap (λ l. without d.cell.0 (d.cell.0 ∷ l)) h.nothing.shuts ∙ without_first d.cell.0 [];
                  rest = refl;
                };
                cells = h.cells;
              };
              custody = gave_up d.cell.0 runs.custody;
              tasks = ap (λ ks. noted r.cell.0 (gave_up d.cell.0) ks) runs.tasks
                  ∙ noted_one r.cell.0 runs.custody runs.task (gave_up d.cell.0) refl;
              slots = runs.slots;
              task = runs.task;
              runs = tt;
              out = runs.out;
              has = record {
                cell = refl;
                owned = left_owned;
                made = runs.has.made;
                knows = cells_known me.0.known q (task_known me.0.known r kn) (held_known me.0.known r kn)
                    (λ c i. owned_known me.0.known r kn c (left_among c i)) (owed_known me.0.known r kn)
                    (ending_known me.0.known r kn);
              };
              result = subst (IsIn r.cell.0) (sym (without_one d.cell.0 runs.custody.owned runs.owned_apart))
                  (still_in d.cell.0 r.cell.0 runs.custody.owned (λ e. set_other (sym e)) runs.result);
              owned_apart = subst AreApart (sym (without_one d.cell.0 runs.custody.owned runs.owned_apart))
                  (apart_without d.cell.0 runs.custody.owned runs.owned_apart);
            }

            written_then : (z : Name) (e : Entry) → IsIn (z, e) (p.writes ++ (x.name, entry.Value given) ∷ [])
                → IsIn (z, e) p.writes ⊎ HasCell now.born z (λ c a. HasSeen now.filled c e)
            written_then z e i = ⊎_elim (λ j. inl j) (λ j. inr (⊎_elim
                (λ s. subst (λ (o : Name × Entry). HasCell now.born o.0 (λ c a. HasSeen now.filled c o.1)) (sym s)
                (d.cell.0, x, says.0, refl, inl refl)) (λ n. absurd n) j))
                (in_either (z, e) p.writes ((x.name, entry.Value given) ∷ []) i)

            running_then : IsRunning P now q
            running_then = record {
              rooted = asked.rooted;
              point = after_write x.name given p;
              at_stage = refl;
              unfinished = asked.unfinished;
              tells = record {
                of = asked.tells.of;
                body = asked.tells.body;
                held = asked.tells.held;
                owned_cells = subst (λ l. ArePairs (HasName me.0.born) left (p.name ∷ l)) (sym told.1)
                    (beside_first laid.cells me.0.born runs.worker.cells r.cell.0 (to_task p.name) asked.tells.of left
                    (without_cell d.cell.0 others)
                    (left_is ∙ (ap (without_cell d.cell.0)
                    (owned_is P laid.cells me.0 runs.worker.cells r (ask.Set k y) asked)
                    ∙ without_behind d.cell.0 r.cell.0 others set_other))
                    (λ c i. others_there P laid.cells me.0 runs.worker.cells r (ask.Set k y) asked c
                    (in_without_cell d.cell.0 c others i)));
                made = asked.tells.made;
                prints = asked.tells.prints;
                owed = asked.tells.owed;
              };
              stands = stands_next P now asked.point (after_write x.name given p)
                  (stands_then P me.0 now more r (ask.Set k y) asked) write_rounds
                  (λ c j. inl j) (λ c j. inl j) written_then;
            }

            pub set_goes : Goes program laid next.Runs q me.0 (u, me.1)
            set_goes = subst (λ (z : View B). Goes program laid next.Runs q me.0 (z, me.1)) (sym now_is)
                (record { knows = more; runs = runs_then; goes_on = running_then })

-- what isn't a task is a promise
pub promise_if : (s : Sort) → (s ≡ sort.Task → ⊥) → s ≡ sort.Promise
promise_if sort.Task n = absurd (n refl)
promise_if sort.Promise n = refl

-- what isn't so is false
pub not_so : (a b : Bool) → (a ≡ true) ↔ (b ≡ true) → a ≡ false → b ≡ false
not_so a true h e = absurd (apart (sym e ∙ h.1 refl))
  where
    apart : false ≡ true → ⊥
    apart z = cc
not_so a false h e = refl

-- what a set stands on, of the held cell at the place: the task runs and has asked it, and the laws of rounds and names
pub record IsToSet {B : Type 0} (program : Bool → B → Program B) (laid : Laid B) (r : Rec B) (k : ℕ) (y : Pay)
    (me : SeatMe B) (h : Held) : Type 0 where
  pub runs : RunsTask laid r me
  pub asked : IsAsked (table_program program laid) me.0 r (ask.Set k y)
  pub law : PointsAsk (table_program program laid)
  pub tell : NamesTellCells
  pub is : h ≡ held_at r.held k

module _ {B : Type 0} {program : Bool → B → Program B} {laid : Laid B} {r : Rec B} {k : ℕ} {y : Pay} {me : SeatMe B}
    {h : Held} (to : IsToSet program laid r k y me h) where
  abbrev runs : RunsTask laid r me
  runs = to.runs

  abbrev asked : IsAsked (table_program program laid) me.0 r (ask.Set k y)
  asked = to.asked

  abbrev law : PointsAsk (table_program program laid)
  law = to.law

  abbrev tell : NamesTellCells
  tell = to.tell

  abbrev is : h ≡ held_at r.held k
  is = to.is

  pub sets_cell : h.cell.0 < laid.cells
  sets_cell = subst (λ (z : Held). z.cell.0 < laid.cells) (sym is) (set_cell program laid r k y me runs asked law)

  pub sets_task : h.sort ≡ sort.Task → Goes program laid (next.Ends (finish.Failed hurt.Kind)) r me.0 me
  sets_task e = record {
    knows = more_itself me.0;
    runs = runs;
    goes_on = set_task program laid r k y me runs asked law (ap (λ (z : Held). z.sort) (sym is) ∙ e);
  }

  module _ (promise : h.sort ≡ sort.Promise) where
    its_sort : (held_at r.held k).sort ≡ sort.Promise
    its_sort = ap (λ (z : Held). z.sort) (sym is) ∙ promise

    pub sets_other : h.cell.0 ≢ r.cell.0
    sets_other = subst (λ (z : Held). z.cell.0 ≢ r.cell.0) (sym is)
        (set_other program laid r k y me runs asked law its_sort)

    pub sets_unowned : (owned : List CellId) → owned ≡ r.owned → has_cell h.cell.0 (numbers r.owned) ≡ false
        → Goes program laid (next.Ends (finish.Failed (hurt.Owner h.cell))) (record r { owned = owned }) me.0 me
    sets_unowned owned same none =
        subst (λ l. Goes program laid (next.Ends (finish.Failed (hurt.Owner h.cell))) (record r { owned = l }) me.0 me)
        (sym same) (record {
          knows = more_itself me.0;
          runs = runs;
          goes_on = subst (λ (z : Held). IsClosing (table_program program laid) me.0 r
              (finish.Failed (hurt.Owner z.cell))) (sym is)
              (set_unowned program laid r k y me runs asked law its_sort tell
              (subst (λ (z : Held). has_cell z.cell.0 (numbers r.owned) ≡ false) is none));
        })

    module _ (has_it : has_cell h.cell.0 (numbers r.owned) ≡ true) where
      its_own : has_cell (held_at r.held k).cell.0 (numbers r.owned) ≡ true
      its_own = subst (λ (z : Held). has_cell z.cell.0 (numbers r.owned) ≡ true) is has_it

      pub sets_gives : MayGiveUp r.cell.0 h.cell.0 me.0
      sets_gives = subst (λ (z : Held). MayGiveUp r.cell.0 z.cell.0 me.0) (sym is)
          (set_gives program laid r k y me runs asked law its_sort tell its_own)

      module _ (f : Fill) (gives : f ≡ fill_at r.held y) where
        pub sets_fills : WritesBecome (table_program program laid) → MayFill program h.cell.0 f me.0
        sets_fills written = subst (λ z. MayFill program h.cell.0 z me.0) (sym gives)
            (subst (λ (z : Held). MayFill program z.cell.0 (fill_at r.held y) me.0) (sym is)
            (set_fills program laid r k y me runs asked law its_sort tell its_own written))

        module _ (m : SeatMe B) (filled : IsFilledWith r.cell.0 h.cell.0 f me.0 m.0) (slots : m.1 ≡ me.1) where
          became_so : m.0 ≡ became r.cell.0 (held_at r.held k).cell.0
              (entry.Value (given program laid r k y me runs asked law)) me.0
          became_so = filled (given program laid r k y me runs asked law)
              (subst (λ z. FillSays me.0.born z (given program laid r k y me runs asked law)) (sym gives)
              (set_says program laid r k y me runs asked law))
              ∙ ap (λ (z : Held). became r.cell.0 z.cell.0
              (entry.Value (given program laid r k y me runs asked law)) me.0) is

          pub sets_about : m.0.about ≡ me.0.about
          sets_about = ap (λ (u : View B). u.about) became_so

          -- and what it noted stands in front of its notes, where some were woken then
          pub sets_notes : (woken left : List ℕ) (u : View B) → HasWoken h.cell.0 woken left m.0 u
              → IsTailOf me.0.notes u.notes
          sets_notes woken left u woke = subst (λ l. IsTailOf l u.notes) (ap (λ (z : View B). z.notes) became_so)
              (noted_tail h.cell.0 woken left m.0 m.0.notes u.notes woke.noted)

          pub sets_wakes : MayWake h.cell.0 m
          sets_wakes = subst (λ (z : Held). MayWake z.cell.0 m) (sym is)
              (subst (λ s. MayWake (held_at r.held k).cell.0 (m.0, s)) (sym slots)
              (set_wakes program laid r k y me runs asked law its_sort tell its_own m.0 became_so))

          pub sets_goes : (chain : List ℕ) (u : SeatMe B) → HasWoken h.cell.0 chain [] m.0 u.0 → u.1 ≡ m.1
              → (left : List CellId)
              → numbers left ≡ without_cell h.cell.0 (numbers r.owned)
              → Goes program laid next.Runs (record r { owned = left; answer = answer.Done }) me.0 u
          sets_goes chain u woke stays left left_is =
              subst (λ (z : SeatMe B). Goes program laid next.Runs (record r { owned = left; answer = answer.Done })
              me.0 z) (λ i. (u.0, sym (stays ∙ slots) i))
              (set_goes program laid r k y me runs asked law its_sort tell its_own m.0 became_so chain u.0
              (subst (λ (z : Held). HasWoken z.cell.0 chain [] m.0 u.0) is woke) left
              (left_is ∙ ap (λ (z : Held). without_cell z.cell.0 (numbers r.owned)) is))
