-- What an ask makes of the record of a running task, and of the point that the record tells.
use Rattle.tj_run.proofs.Prelude.{All, Answer, ArePairs, Ask, Entry, FillSays, HasCell, HasName, HasSeen, Held}
use Rattle.tj_run.proofs.Prelude.{HeldSays, HurtSays, IsAsked, IsCell, IsClosing, IsIn, IsOfRounds, IsOpen, IsPaid}
use Rattle.tj_run.proofs.Prelude.{IsRunning, List, Name, Pay, Point, PointsAsk, Program, Rec, Reference, Some, Sort}
use Rattle.tj_run.proofs.Prelude.{Stands, Task, Trouble, View, [], after_ask, ap, arith, fill_at, fill_of, finish_cells}
use Rattle.tj_run.proofs.Prelude.{get_or, held_at, hurt_cells, hurt_of, inl, length, owned_in, refl, subst, suc, sym}
use Rattle.tj_run.proofs.Prelude.{to_promise, to_task, value_at, zero, ℕ, ℤ, ⊎_elim, ◌++◌, ◌<◌, ◌∙◌, ◌∷◌, ◌≡◌, ◌⊎◌}
use Rattle.tj_body.specs.History.{after_emit, cause_of, reference_at}
use Rattle.tj_base.specs.declared.cause.Trouble.TheVariants as trouble
use Rattle.tj_base.specs.declared.cell.Sort.TheVariants as sort
use Rattle.tj_base.specs.declared.value.Pay.TheVariants as pay
use Rattle.tj_body.specs.declared.ask.Answer.TheVariants as answer
use Rattle.tj_body.specs.declared.ask.Ask.TheVariants as ask
use Rattle.tj_body.specs.declared.point.Close.TheVariants as close
use Rattle.tj_body.specs.declared.point.PointStage.TheVariants as stage
use Rattle.tj_body.specs.declared.point.Value.TheVariants as value
use Rattle.tj_record.specs.declared.record.Finish.TheVariants as finish

-- pairs have the same number, and each place has a pair
pub pairs_at : {A C : Type 0} (F : A → C → Type 0) (xs : List A) (ys : List C) (a : A) (c : C) → ArePairs F xs ys
    → (k : ℕ) → k < length xs → F (get_or xs k a) (get_or ys k c)
pairs_at F [] [] a c h k l = absurd (omega arith)
pairs_at F [] (y ∷ ys) a c h k l = absurd h
pairs_at F (x ∷ xs) [] a c h k l = absurd h
pairs_at F (x ∷ xs) (y ∷ ys) a c h zero l = h.0
pairs_at F (x ∷ xs) (y ∷ ys) a c h (suc k) l = pairs_at F xs ys a c h.1 k (omega arith)

pub pairs_length : {A C : Type 0} (F : A → C → Type 0) (xs : List A) (ys : List C) → ArePairs F xs ys
    → length xs ≡ length ys
pairs_length F [] [] h = refl
pairs_length F [] (y ∷ ys) h = absurd h
pairs_length F (x ∷ xs) [] h = absurd h
pairs_length F (x ∷ xs) (y ∷ ys) h = ap suc (pairs_length F xs ys h.1)

-- a held cell as a value is the reference as a value
pub fill_says : (born : List Reference) (h : Held) (r : Reference) → HeldSays born h r
    → FillSays born (fill_of h.sort h.cell) (value.Ref r)
fill_says born h r s = by h.sort r.sort refl refl s.1 where
  by : (a b : Sort) → h.sort ≡ a → r.sort ≡ b → h.sort ≡ r.sort
      → FillSays born (fill_of a h.cell) (value.Ref r)
  by sort.Task sort.Task e f g = let q : r ≡ to_task r.name = (λ j. record { sort = f j; name = r.name }) in
      (r.name, subst (IsCell born h.cell.0) q s.0, ap value.Ref q)
  by sort.Promise sort.Promise e f g = let q : r ≡ to_promise r.name = (λ j. record { sort = f j; name = r.name }) in
      (r.name, subst (IsCell born h.cell.0) q s.0, ap value.Ref q)
  by sort.Task sort.Promise e f g = absurd (apart (sym e ∙ (g ∙ f)))
    where
      apart : sort.Task ≡ sort.Promise → ⊥
      apart = λ z. cc
  by sort.Promise sort.Task e f g = absurd (apart (sym e ∙ (g ∙ f)))
    where
      apart : sort.Promise ≡ sort.Task → ⊥
      apart = λ z. cc

-- what a task gives is the value that its point gives
pub fill_at_says : (born : List Reference) (x : Name) (held : List Held) (references : List Reference) (v : Pay)
    → ArePairs (HeldSays born) held references → IsPaid (length held) v
    → FillSays born (fill_at held v) (value_at x references v)
fill_at_says born x held references (pay.Num i) h l = refl
fill_at_says born x held references (pay.Ref k) h l = fill_says born (held_at held k) (reference_at x references k)
    (pairs_at (HeldSays born) held references (record { cell = record { 0 = 0 }; sort = sort.Task }) (to_task x) h k l)

-- a fault of the body is the cause
pub hurt_says : (born : List Reference) (t : Trouble) → HurtSays born (hurt_of t) (cause_of t)
hurt_says born trouble.Arith = refl
hurt_says born t = refl

-- a fault of the body names no cell
pub hurt_names : (t : Trouble) → hurt_cells (hurt_of t) ≡ []
hurt_names trouble.Arith = refl
hurt_names t = refl

module _ {B : Type 0} (program : Program B) (v : View B) where
  -- a further point of the task, whose new children, promises and writes stand, stands
  pub stands_next : (p n : Point B) → Stands program v p → IsOfRounds program n
      → ((k : Task B) → IsIn k n.children
      → IsIn k p.children ⊎ HasCell v.born k.name (λ c x. x.sort ≡ sort.Task))
      → ((q : Name) → IsIn q n.promises → IsIn q p.promises ⊎ HasCell v.born q (λ c x. x.sort ≡ sort.Promise))
      → ((q : Name) (e : Entry) → IsIn (q, e) n.writes
      → IsIn (q, e) p.writes ⊎ HasCell v.born q (λ c x. HasSeen v.filled c e))
      → Stands program v n
  stands_next p n h o ks ps ws = record {
    of_rounds = o;
    children = λ k i. ⊎_elim (h.children k) (λ z. z) (ks k i);
    promises = λ q i. ⊎_elim (h.promises q) (λ z. z) (ps q i);
    writes = λ q e i. ⊎_elim (h.writes q e) (λ z. z) (ws q e i);
  }

  module _ (r : Rec B) (x : Ask B) (h : IsAsked program v r x) where
    -- the point after `next`, and after the ask
    abbrev pub before : Point B
    before = record h.point { body = program.rules.then h.point.body h.given }

    pub after_rounds : PointsAsk program → IsOfRounds program (after_ask program.rules.strict x before)
    after_rounds law = subst (λ y. IsOfRounds program (after_ask program.rules.strict y before)) (sym h.is)
        (law h.point h.given h.stands.of_rounds h.at_stage)

    -- the task owns the same cells after it
    pub owned_after : (a : Answer)
        → ArePairs (HasName v.born) r.owned (owned_in (stage.Answered a) h.point.name h.point.holds)
    owned_after a = subst (λ s. ArePairs (HasName v.born) r.owned (owned_in s h.point.name h.point.holds)) h.at_stage
        h.tells.owned_cells

    pub still_open : IsOpen h.point.stage
    still_open = subst IsOpen (sym h.at_stage) tt

  -- a print
  pub emitted : PointsAsk program → (r : Rec B) (i : ℤ) → IsAsked program v r (ask.Emit i)
      → IsRunning program v (record r { prints = r.prints ++ i ∷ []; answer = answer.Done })
  emitted law r i h = let p = before r (ask.Emit i) h in let t = h.tells in record {
    rooted = h.rooted;
    point = after_emit i p;
    at_stage = refl;
    unfinished = h.unfinished;
    tells = record {
      of = t.of;
      body = t.body;
      held = t.held;
      owned_cells = owned_after r (ask.Emit i) h answer.Done;
      made = t.made;
      prints = ap (λ l. l ++ i ∷ []) t.prints;
      owed = t.owed;
    };
    stands = stands_next h.point (after_emit i p) h.stands (after_rounds r (ask.Emit i) h law) (λ k j. inl j)
        (λ q j. inl j) (λ q e j. inl j);
  }

  -- an end
  pub ended : PointsAsk program → (r : Rec B) (y : Pay) (h : IsAsked program v r (ask.End y))
      → All (λ c. IsIn c v.known) (finish_cells (Some (finish.Done (fill_at r.held y))))
      → IsClosing program v r (finish.Done (fill_at r.held y))
  ended law r y h known = let p = before r (ask.End y) h in let x = value_at p.name p.references y in record {
    rooted = h.rooted;
    point = h.point;
    body = p.body;
    ending = close.Done x;
    is_open = still_open r (ask.End y) h;
    unfinished = h.unfinished;
    tells = h.tells;
    stands = h.stands;
    says = (x, fill_at_says v.born p.name r.held p.references y h.tells.held h.placed, refl);
    knows = known;
    ends = after_rounds r (ask.End y) h law;
  }

  -- a failure of the body's own
  pub failed : PointsAsk program → (r : Rec B) (t : Trouble) → IsAsked program v r (ask.Fail t)
      → IsClosing program v r (finish.Failed (hurt_of t))
  failed law r t h = let p = before r (ask.Fail t) h in record {
    rooted = h.rooted;
    point = h.point;
    body = p.body;
    ending = close.Failed (cause_of t);
    is_open = still_open r (ask.Fail t) h;
    unfinished = h.unfinished;
    tells = h.tells;
    stands = h.stands;
    says = (cause_of t, hurt_says v.born t, refl);
    knows = λ c i. absurd (subst (IsIn c) (hurt_names t) i);
    ends = after_rounds r (ask.Fail t) h law;
  }
