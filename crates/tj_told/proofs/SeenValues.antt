-- What an observer's seat knows after a look at the value of a cell.
use Rattle.std.proofs.Common.{IfOk, IfSome, None, Ok, Result, Some, ℤ}
use Rattle.std.proofs.Common.{Err, ◌≡◌, ◌≢◌, ◌<◌, ℕ, Bool, [], ◌∷◌, Option, refl, sym, ap, ◌∙◌, subst, inl, inr}
use Rattle.std.proofs.Common.{arith, length}
use Rattle.std.proofs.Math.Option.{some-injective}
use Rattle.tj_base.specs.ForkOrder.{Name}
use Rattle.tj_base.specs.declared.cell.CellId.{CellId}
use Rattle.tj_base.specs.declared.memory.Oom.{Oom}
use Rattle.tj_base.specs.declared.value.Shown.{Shown}
use Rattle.tj_base.specs.declared.value.Shown.TheVariants as shown
use Rattle.tj_body.proofs.Lists.{in_right}
use Rattle.tj_body.specs.History.{to_promise, to_task}
use Rattle.tj_body.specs.Programs.{Program}
use Rattle.tj_body.specs.declared.point.Entry.TheVariants as entry
use Rattle.tj_body.specs.declared.point.Reference.{Reference}
use Rattle.tj_body.specs.declared.point.Value.TheVariants as value
use Rattle.tj_cells.specs.SeenValues.{SeesValue, cells_seen, saw_value}
use Rattle.tj_cells.specs.ValueLogs.{LoadsEntry}
use Rattle.tj_cells.specs.declared.seen.Seen.{Seen}
use Rattle.tj_cells.specs.declared.seen.Seen.TheVariants as seen
use Rattle.tj_log.specs.Shown.{SeatShown}
use Rattle.tj_words.proofs.SeatLoads.KnowsMoreOn.{Keeps, keeps_load, keeps_noted}
use Rattle.tj_words.proofs.Stores.SeatLists.{inside}
use Rattle.tj_words.specs.CallLaws.StepCalls as call
use Rattle.tj_words.specs.CallLaws.StepLogs.{IsLogged}
use Rattle.tj_words.specs.LawParts.TreeWords.{IsCell}
use Rattle.tj_words.specs.SeatViews.KnowsMore.{KnowsMore}
use Rattle.tj_words.specs.SeatViews.SeatSteps.{IsSameSeat}
use Rattle.tj_words.specs.SeatViews.SeenWords.{FindsNothing}
use Rattle.tj_words.specs.SeatViews.KnownEntries.{HasSeen}
use Rattle.tj_words.specs.SeatViews.Views.{loaded_once}
use Rattle.tj_words.specs.declared.offsets.Once.TheVariants as once
use Rattle.tj_record.specs.declared.record.Rec.{Rec}
use Rattle.tj_words.specs.declared.view.View.{View}
use Rattle.tj_told.specs.Observers.{KnowsCell, KnowsName, LooksOn}
use Rattle.tj_told.specs.SeenNews.{HasSeenValue, IsNameOf, IsSeenAs}
use Rattle.tj_told.proofs.Climbing.{cell_on, grows_by, looks_itself, looks_then, name_where}
use Rattle.tj_told.specs.ToldLinks.{SeesName}

-- what follows from what was found holds of it
on_found : {P Q : Shown → Type 0} → ((v : Shown) → P v → Q v) → (r : Result (Option Shown) Oom)
    → IfOk r (λ f. IfSome f P) → IfOk r (λ f. IfSome f Q)
on_found f (Ok (Some v)) h = f v h
on_found f (Ok None) h = h
on_found f (Err e) h = h

-- something was seen
pub is_number : (i : ℤ) → seen.Num i ≢ seen.NotYet
is_number i e = absurd (cc)

pub is_promise : (c : CellId) → seen.Promise c ≢ seen.NotYet
is_promise c e = absurd (cc)

pub is_task : (c : CellId) → seen.Task c ≢ seen.NotYet
is_task c e = absurd (cc)

is_broken : seen.Broken ≢ seen.NotYet
is_broken e = absurd (cc)

-- the value of a cell of this name was seen, where its value was
pub named_found : {B : Type 0} (x y : View B) (c : ℕ) (q : Name) → SeesName x.seen c q → KnowsMore x y
    → (r : Result (Option Shown) Oom) → IfOk r (λ f. IfSome f (λ v. IsSeenAs c v y))
    → IfOk r (λ f. IfSome f (λ v. HasSeenValue c q v y))
named_found {B} x y c q n k r h = on_found {P = λ v. IsSeenAs c v y} {Q = λ v. HasSeenValue c q v y}
    (λ v s. record { seen = s; named = name_where x.seen y.seen k.seen c q n }) r h

module _ {B : Type 0} (program : Bool → B → Program B) (cells p : ℕ) where
  keeps_nothing : (v w : View B) → FindsNothing p v w → Keeps v w
  keeps_nothing v w h = subst (Keeps v) (sym h.view) (keeps_noted v (loaded_once v) (λ z. z) (λ z. z) ([], refl))

  keeps_value : (s : Seen) (v w : View B) → SeesValue program cells p s v w → Keeps v w
  keeps_value s v w h = subst (Keeps v) (sym h.view)
      (keeps_load v (saw_value p h.entry (cells_seen s) h.born v) h.begins
      (λ x i. in_right x (cells_seen s) (p ∷ v.known) (inr i)) (λ x i. inr i) (λ x i. i) (λ z. z) (λ z. z) ([], refl))

  -- the seat has looked on
  module _ (a b : SeatShown (Option (Rec B)) (View B)) (same : IsSameSeat a b) where
    after_nothing : FindsNothing p a.me.0 b.me.0 → IsLogged (call.sees_once p once.Tag) 0 0 0 a b → LooksOn a b
    after_nothing h l = looks_then a a b (looks_itself a) same (keeps_nothing a.me.0 b.me.0 h) (grows_by l.0)

    after_entry : (s : Seen) → SeesValue program cells p s a.me.0 b.me.0 → LoadsEntry p s a b → LooksOn a b
    after_entry s h l =
        looks_then a a b (looks_itself a) same (keeps_value s a.me.0 b.me.0 h) (_ ∷ _ ∷ [], l.log)

    pub after_value : (s : Seen) → (s ≡ seen.NotYet → FindsNothing p a.me.0 b.me.0)
        → (s ≢ seen.NotYet → SeesValue program cells p s a.me.0 b.me.0)
        → (s ≡ seen.NotYet → IsLogged (call.sees_once p once.Tag) 0 0 0 a b) → (s ≢ seen.NotYet → LoadsEntry p s a b)
        → LooksOn a b
    after_value seen.NotYet h k l m = after_nothing (h refl) (l refl)
    after_value (seen.Num i) h k l m = after_entry (seen.Num i) (k (is_number i)) (m (is_number i))
    after_value (seen.Promise c) h k l m = after_entry (seen.Promise c) (k (is_promise c)) (m (is_promise c))
    after_value (seen.Task c) h k l m = after_entry (seen.Task c) (k (is_task c)) (m (is_task c))
    after_value seen.Broken h k l m = after_entry seen.Broken (k is_broken) (m is_broken)

  -- a number
  pub number_seen : (i : ℤ) (v w : View B) → SeesValue program cells p (seen.Num i) v w → IsSeenAs p (shown.Num i) w
  number_seen i v w h = record {
    value = value.Num i;
    loaded = subst (λ (u : View B). HasSeen u.filled p (entry.Value (value.Num i))) (sym h.view)
        (inl (λ j. record { cell = p; entry = sym h.says j }));
    shown = refl;
  }

  module _ (s : Seen) (v w : View B) (h : SeesValue program cells p s v w) (d : ℕ) (r : Reference)
      (is : IsCell h.born d r) (says : h.entry ≡ entry.Value (value.Ref r)) where
    here : IsCell w.born d r
    here = subst (λ (u : View B). IsCell u.born d r) (sym h.view) is

    -- a reference, of which the seat gets to know the name
    refers : (x : View B) (q : Name) → KnowsMore w x → KnowsName d q x → IsSeenAs p (shown.Ref q) x
    refers x q k n = record {
      value = value.Ref r;
      loaded = k.filled (record { cell = p; entry = entry.Value (value.Ref r) })
          (subst (λ (u : View B). HasSeen u.filled p (entry.Value (value.Ref r))) (sym h.view)
          (inl (λ j. record { cell = p; entry = sym says j })));
      shown = ap (λ z. shown.Ref z) (ap (λ (y : Reference). y.name)
          (some-injective r n.0 (sym (cell_on w.born x.born d r k.born here) ∙ n.1)) ∙ n.2);
    }

    -- to a cell of the table
    below : d < cells
    below = let i = inside h.born d r is in let few = h.all.few in omega arith

  -- a promise, or a task, to which the value refers: it is a cell that the seat knows, and its name is what is shown
  pub promise_seen : (c : CellId) (v w : View B) → SeesValue program cells p (seen.Promise c) v w
      → (c.0 < cells) × KnowsCell c.0 w
      × ((x : View B) (q : Name) → KnowsMore w x → KnowsName c.0 q x → IsSeenAs p (shown.Ref q) x)
  promise_seen c v w h = let s = h.says in let r = to_promise s.0 in (
    below (seen.Promise c) v w h c.0 r s.1 s.2,
    subst (KnowsCell c.0) (sym h.view) (inl refl, (r, s.1)),
    refers (seen.Promise c) v w h c.0 r s.1 s.2,
  )

  pub task_seen : (c : CellId) (v w : View B) → SeesValue program cells p (seen.Task c) v w
      → (c.0 < cells) × KnowsCell c.0 w
      × ((x : View B) (q : Name) → KnowsMore w x → KnowsName c.0 q x → IsSeenAs p (shown.Ref q) x)
  task_seen c v w h = let s = h.says in let r = to_task s.0 in (
    below (seen.Task c) v w h c.0 r s.1 s.2,
    subst (KnowsCell c.0) (sym h.view) (inl refl, (r, s.1)),
    refers (seen.Task c) v w h c.0 r s.1 s.2,
  )

-- what is shown of a value that refers to the cell is seen of its own one
pub shown_found : {B : Type 0} (p d : ℕ) (x : View B)
    → ((q : Name) → KnowsName d q x → IsSeenAs p (shown.Ref q) x) → (r : Result (Option Shown) Oom)
    → IfOk r (λ f. IfSome f (λ v. IsNameOf d v x)) → IfOk r (λ f. IfSome f (λ v. IsSeenAs p v x))
shown_found {B} p d x f r h = on_found {P = λ v. IsNameOf d v x} {Q = λ v. IsSeenAs p v x}
    (λ v s. subst (λ z. IsSeenAs p z x) (sym s.1) (f s.0 s.2)) r h
