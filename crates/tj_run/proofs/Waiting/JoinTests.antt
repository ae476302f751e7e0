-- The tests of a get and of a join: what they make of the point of the task, by the sort of the held cell and the fork
-- order.
use Rattle.tj_run.proofs.Prelude.{Ask, Bool, Err, Goes, HasReadTree, Held, HeldSays, IfOk, IsAsked, IsCell, IsClosing}
use Rattle.tj_run.proofs.Prelude.{IsIn, IsWaiting, KnowsMore, Laid, List, Next, Ok, Point, PointsAsk, Program, Rec}
use Rattle.tj_run.proofs.Prelude.{Reference, RunsTask, SeatMe, Sort, View, Why, [], ap, held_at, inl, inr, reference_of}
use Rattle.tj_run.proofs.Prelude.{refl, some-injective, some-ne-none, suc, sym, table_program, ℕ, ◌<◌, ◌∙◌, ◌∷◌, ◌≡◌}
use Rattle.std.proofs.Common.{zero, true, false, cond, not, ◌&&◌, length, subst, Result}
use Rattle.tj_base.specs.ForkOrder.{Name, before as is_before}
use Rattle.tj_body.specs.History.{after_ask, after_failure, after_get, after_join, reference, to_task, with_wait}
use Rattle.tj_body.specs.Inner.AskSteps.{get_of, join_of}
use Rattle.tj_events.specs.Events.{way_if}
use Rattle.tj_words.specs.Steps.WalkSteps.{is_task_sort, way_by}
use Rattle.tj_run.proofs.Asks.AskedSteps.{asked_fails, asked_on, asked_waits}
use Rattle.tj_run.proofs.Asks.PointSteps.{before, pairs_at}
use Rattle.tj_run.proofs.Cells.ToldCells.{cell_known}
use Rattle.tj_run.proofs.Seats.WorkersSteps.{goes_since, read_more, runs_read}
use Rattle.tj_base.specs.declared.cell.Sort.TheVariants as sort
use Rattle.tj_base.specs.declared.cause.Cause.TheVariants as cause
use Rattle.tj_events.specs.declared.walk.Way.TheVariants as way
use Rattle.tj_record.specs.declared.record.Finish.TheVariants as finish
use Rattle.tj_record.specs.declared.record.Hurt.TheVariants as hurt
use Rattle.tj_run.specs.declared.next.Next.TheVariants as next

-- what a cell is, where it is known
reference_is : (born : List Reference) (c : ℕ) (x : Reference) → IsCell born c x → reference_of born c ≡ x
reference_is [] c x e = absurd (some-ne-none x (sym e))
reference_is (y ∷ born) zero x e = some-injective y x e
reference_is (y ∷ born) (suc c) x e = reference_is born c x e

-- the way of a wait for a task, by the two names
way_is : (born : List Reference) (t c : ℕ) (x y : Reference) → IsCell born t x → IsCell born c y → y.sort ≡ sort.Task
    → way_by born t c ≡ way_if (is_before x.name y.name)
way_is born t c x y e d s = ap (λ (z : Reference). way_if (is_task_sort (reference_of born c).sort
    && is_before z.name (reference_of born c).name)) (reference_is born t x e)
    ∙ (ap (λ (z : Reference). way_if (is_task_sort z.sort && is_before x.name z.name)) (reference_is born c y d)
    ∙ ap (λ z. way_if (is_task_sort z && is_before x.name y.name)) s)

-- the way of a wait for a promise
pub promise_way : (born : List Reference) (t c : ℕ) (y : Reference) → IsCell born c y → y.sort ≡ sort.Promise
    → way.Other ≡ way_by born t c
promise_way born t c y d s = sym (ap (λ (z : Reference). way_if (is_task_sort z.sort
    && is_before (reference_of born t).name z.name)) (reference_is born c y d)
    ∙ ap (λ z. way_if (is_task_sort z && is_before (reference_of born t).name y.name)) s)

-- by the way, whether one name is before the other
along_before : (b : Bool) → way_if b ≡ way.Along → b ≡ true
along_before true e = refl
along_before false e = absurd (apart e)
  where
    apart : way.Other ≡ way.Along → ⊥
    apart = λ z. cc

other_not : (b : Bool) → way_if b ≡ way.Other → b ≡ false
other_not false e = refl
other_not true e = absurd (apart e)
  where
    apart : way.Along ≡ way.Other → ⊥
    apart = λ z. cc

-- what isn't a promise is a task
pub task_else : (s : Sort) → ¬ (s ≡ sort.Promise) → s ≡ sort.Task
task_else sort.Task n = refl
task_else sort.Promise n = absurd (n refl)

module _ {B : Type 0} (strict : Bool) (k : ℕ) (p : Point B) where
  get_after : (spare : Bool)
      → after_ask strict (get_of spare k) p ≡ after_get spare (reference p k).sort (reference p k).name p
  get_after true = refl
  get_after false = refl

  join_after : (spare : Bool)
      → after_ask strict (join_of spare k) p ≡ after_join strict spare (reference p k).sort (reference p k).name p
  join_after true = refl
  join_after false = refl

module _ {B : Type 0} (program : Program B) (v : View B) (law : PointsAsk program) (r : Rec B) (k : ℕ) where
  abbrev d : Held
  d = record { cell = record { 0 = 0 }; sort = sort.Task }

  held_says : (x : Ask B) (h : IsAsked program v r x) → k < length r.held
      → HeldSays v.born (held_at r.held k) (reference h.point k)
  held_says x h l = pairs_at (HeldSays v.born) r.held h.point.references d (to_task h.point.name) h.tells.held k l

  -- the place of a get is one of the record
  pub get_inside : (spare : Bool) → IsAsked program v r (get_of spare k) → k < length r.held
  get_inside true h = h.placed
  get_inside false h = h.placed

  -- and that of a join
  pub join_inside : (spare : Bool) → IsAsked program v r (join_of spare k) → k < length r.held
  join_inside true h = h.placed
  join_inside false h = h.placed

  module _ (spare : Bool) (h : IsAsked program v r (get_of spare k)) where
    abbrev p : Point B
    p = before program v r (get_of spare k) h

    got : (s : Sort) → (held_at r.held k).sort ≡ s
        → after_ask program.rules.strict (get_of spare k) p ≡ after_get spare s (reference p k).name p
    got s e = get_after program.rules.strict k p spare ∙ ap (λ z. after_get spare z (reference p k).name p)
        (sym (held_says (get_of spare k) h (get_inside spare h)).1 ∙ e)

    -- a get of a task fails
    pub get_fails : (held_at r.held k).sort ≡ sort.Task → IsClosing program v r (finish.Failed hurt.Kind)
    get_fails e = asked_fails program v law r (get_of spare k) h hurt.Kind cause.Kind refl (λ c i. absurd i)
        (got sort.Task e)

    -- a get of a promise waits
    pub get_waits : (held_at r.held k).sort ≡ sort.Promise → IsWaiting program v r k spare
    get_waits e = asked_waits program v law r (get_of spare k) h k spare (get_inside spare h) (got sort.Promise e)

  module _ (spare : Bool) (h : IsAsked program v r (join_of spare k)) where
    abbrev asked : Point B
    asked = before program v r (join_of spare k) h

    abbrev other : Name
    other = (reference asked k).name

    says : HeldSays v.born (held_at r.held k) (reference asked k)
    says = held_says (join_of spare k) h (join_inside spare h)

    joined : (s : Sort) → (held_at r.held k).sort ≡ s → after_ask program.rules.strict (join_of spare k) asked
        ≡ after_join program.rules.strict spare s other asked
    joined s e = join_after program.rules.strict k asked spare
        ∙ ap (λ z. after_join program.rules.strict spare z other asked) (sym says.1 ∙ e)

    -- a join of a promise fails
    pub join_fails : (held_at r.held k).sort ≡ sort.Promise → IsClosing program v r (finish.Failed hurt.Kind)
    join_fails e = asked_fails program v law r (join_of spare k) h hurt.Kind cause.Kind refl (λ c i. absurd i)
        (joined sort.Promise e)

    module _ (e : (held_at r.held k).sort ≡ sort.Task) where
      -- without the strict rule a join of a task waits
      pub join_waits : program.rules.strict ≡ false → IsWaiting program v r k spare
      join_waits f = asked_waits program v law r (join_of spare k) h k spare (join_inside spare h)
          (joined sort.Task e ∙ ap (λ b. cond (b && not (is_before asked.name other))
          (after_failure (cause.Order other) asked) (with_wait spare other asked)) f)

      its_way : way_by v.born r.cell.0 (held_at r.held k).cell.0 ≡ way_if (is_before asked.name other)
      its_way = way_is v.born r.cell.0 (held_at r.held k).cell.0 (to_task asked.name) (reference asked k) h.tells.of
          says.0 (sym says.1 ∙ e)

      -- one of a task that it is before waits
      pub join_along : way_by v.born r.cell.0 (held_at r.held k).cell.0 ≡ way.Along → IsWaiting program v r k spare
      join_along w = asked_waits program v law r (join_of spare k) h k spare (join_inside spare h)
          (joined sort.Task e ∙ (ap (λ b. cond (program.rules.strict && not b)
          (after_failure (cause.Order other) asked) (with_wait spare other asked))
          (along_before (is_before asked.name other) (sym its_way ∙ w)) ∙ never program.rules.strict))
        where
          never : (b : Bool) → cond (b && false) (after_failure (cause.Order other) asked)
              (with_wait spare other asked) ≡ with_wait spare other asked
          never true = refl
          never false = refl

      -- one of another task fails, under the strict rule
      pub join_other : program.rules.strict ≡ true → IsIn (held_at r.held k).cell.0 v.known
          → way_by v.born r.cell.0 (held_at r.held k).cell.0 ≡ way.Other
          → IsClosing program v r (finish.Failed (hurt.Order (held_at r.held k).cell))
      join_other s known w = asked_fails program v law r (join_of spare k) h (hurt.Order (held_at r.held k).cell)
          (cause.Order other)
          (other, (reference asked k, says.0, refl), refl)
          one_known
          (joined sort.Task e ∙ (ap (λ b. cond (b && not (is_before asked.name other))
          (after_failure (cause.Order other) asked) (with_wait spare other asked)) s
          ∙ ap (λ b. cond (not b) (after_failure (cause.Order other) asked)
          (with_wait spare other asked))
          (other_not (is_before asked.name other) (sym its_way ∙ w))))
        where
          one_known : (c : ℕ) → IsIn c ((held_at r.held k).cell.0 ∷ []) → IsIn c v.known
          one_known c (inl q) = subst (λ z. IsIn z v.known) (sym q) known
          one_known c (inr q) = absurd q

-- a join of a task under the strict rule, by a seat that has loaded what tells the way of the wait
module _ {B : Type 0} (program : Bool → B → Program B) (laid : Laid B) (law : PointsAsk (table_program program laid))
    (r : Rec B) (k : ℕ) (spare : Bool) (me m : SeatMe B) (read : HasReadTree laid.cells me.0 m.0) (same : m.1 ≡ me.1)
    (runs : RunsTask laid r me) (h : IsAsked (table_program program laid) me.0 r (join_of spare k)) where
  more : KnowsMore me.0 m.0
  more = read_more laid.cells me.0 m.0 read

  asked_then : IsAsked (table_program program laid) m.0 r (join_of spare k)
  asked_then = asked_on (table_program program laid) me.0 m.0 more r (join_of spare k) h

  pub runs_then : RunsTask laid r m
  runs_then = runs_read laid r me m read same runs

  module _ (e : (held_at r.held k).sort ≡ sort.Task) where
    -- it waits for a task that it is before
    pub along_then : way_by m.0.born r.cell.0 (held_at r.held k).cell.0 ≡ way.Along
        → IsWaiting (table_program program laid) m.0 r k spare
    along_then = join_along (table_program program laid) m.0 law r k spare asked_then e

    -- else it is to fail
    pub other_then : (table_program program laid).rules.strict ≡ true
        → way_by m.0.born r.cell.0 (held_at r.held k).cell.0 ≡ way.Other
        → Goes program laid (next.Ends (finish.Failed (hurt.Order (held_at r.held k).cell))) r me.0 m
    other_then s w = record {
      knows = more;
      runs = runs_then;
      goes_on = join_other (table_program program laid) m.0 law r k spare asked_then e s
          (cell_known laid r m runs_then (before (table_program program laid) m.0 r (join_of spare k) asked_then)
          asked_then.tells k
          (join_inside (table_program program laid) m.0 law r k spare asked_then) (held_at r.held k) refl) w;
    }

  -- and as it goes on then, it goes on
  goes_then : (n : Next) (x : Rec B) (m2 : SeatMe B) → Goes program laid n x m.0 m2 → Goes program laid n x me.0 m2
  goes_then n x m2 g = goes_since program laid n x me.0 m.0 more m2 g

  pub goes_if : (o : Result Next Why) (x : Rec B) (m2 : SeatMe B) → IfOk o (λ n. Goes program laid n x m.0 m2)
      → IfOk o (λ n. Goes program laid n x me.0 m2)
  goes_if (Ok n) x m2 g = goes_then n x m2 g
  goes_if (Err w) x m2 g = tt
