-- The core state after one slot changes.
use Rattle.std.proofs.Common.{◌≡◌, ℕ, zero, suc, ◌<◌, ◌≤◌, List, [], ◌∷◌, ◌++◌, length, set, map, get_or, Option, None, refl, sym, ap, ◌∙◌, subst, arith, vec_capacity, length-set}
use Rattle.std.proofs.lemmas.List.{get_or-set_same, get_or-set_other, set-get_or}
use Rattle.tj_events.specs.declared.event.Event.{Event}
use Rattle.tj_core.specs.declared.machine.Machine.{Machine}
use Rattle.tj_core.specs.declared.slot.Slot.{Slot}
use Rattle.tj_events.specs.declared.walk.Way.{Way}
use Rattle.tj_events.specs.declared.walk.Walker.{Walker}
use Rattle.tj_base.specs.Puts.{put}
use Rattle.tj_base.proofs.Puts.{at_put, put_here, put_else, put_same}
use Rattle.tj_events.specs.CoreState.{CellStage, promise, walks, waits, CellState, CoreState, owner, stage}
use Rattle.tj_events.specs.Events.{Allowed, WalksAt, restage, staged, walked, alter, owned_by}
use Rattle.tj_core.specs.Checker.Loads.{one_load}
use Rattle.tj_core.specs.Inner.Slots.{stage_of}
use Rattle.tj_core.specs.Inner.Columns.{stage_in, loads_in, room_in, HaveRoom, state_in}
use Rattle.tj_core.specs.Inner.Machine.{state_of, limit_of, Refuses}
use Rattle.tj_core.specs.Inner.Owners.{owner_in}

-- a list with one element changed, read at any index
pub at_set : {A : Type 0} (l : List A) (i : ℕ) (a d : A) → i < length l → (j : ℕ) → get_or (set l i a) j d ≡ put
    (λ k. get_or l k d) i a j
at_set l i a d h j = at_put (λ k. get_or l k d) i a (λ k x. get_or (set l i a) k d ≡ x) j
    (get_or-set_same l i a d h) (get_or-set_other l i j a d)

pub map-set_at : {A B : Type 0} (f : A → B) (l : List A) (i : ℕ) (a : A) → map f (set l i a) ≡ set (map f l) i (f a)
map-set_at f [] i a = refl
map-set_at f (x ∷ l) zero a = refl
map-set_at f (x ∷ l) (suc i) a = ap (λ r. f x ∷ r) (map-set_at f l i a)

pub length-map_at : {A B : Type 0} (f : A → B) (l : List A) → length (map f l) ≡ length l
length-map_at f [] = refl
length-map_at f (x ∷ l) = ap suc (length-map_at f l)

-- a column of a list with one element changed
pub column_set : {A B : Type 0} (f : A → B) (l : List A) (i : ℕ) (a : A) (d : B) → i < length l → (j : ℕ) → get_or
    (map f (set l i a)) j d ≡ put (λ k. get_or (map f l) k d) i (f a) j
column_set f l i a d h j = let e = length-map_at f l in ap (λ r. get_or r j d) (map-set_at f l i a) ∙ at_set (map f l) i
    (f a) d (omega arith) j

pub column_here : {A B : Type 0} (f : A → B) (l : List A) (i : ℕ) (x : A) (d : B) → i < length l → x ≡ get_or l i x
    → get_or (map f l) i d ≡ f x
column_here f [] i x d h e = absurd (omega arith)
column_here f (y ∷ l) zero x d h e = ap f (sym e)
column_here f (y ∷ l) (suc i) x d h e = column_here f l i x d (omega arith) e

pub column_beyond : {A B : Type 0} (f : A → B) (l : List A) (i : ℕ) (d : B) → length l ≤ i → get_or (map f l) i d ≡ d
column_beyond f [] i d h = refl
column_beyond f (y ∷ l) zero d h = absurd (omega arith)
column_beyond f (y ∷ l) (suc i) d h = column_beyond f l i d (omega arith)

-- no task walks past the end
pub none_walks : (slots : List Slot) (t : ℕ) (F : ℕ → Way → Walker → Type 0) → length slots ≤ t → ¬ WalksAt
    (stage_in slots t) F
none_walks slots t F h k = let e = sym (column_beyond stage_of slots t promise h) ∙ k.3 in absurd (cc)

-- what a walk is changed to depends on that walk alone
pub walked_same : (st : CellStage) (g k : ℕ → Walker → Walker) (F : ℕ → Way → Walker → Type 0) → WalksAt st F
    → ((c : ℕ) (way : Way) (w : Walker) → st ≡ waits c way (walks w) → F c way w → g c w ≡ k c w) → walked g st ≡ walked
    k st
walked_same st g k F (c, way, w, is, h) e = ap (walked g) is
    ∙ ((λ j. waits c way (walks (e c way w is h j))) ∙ sym (ap (walked k) is))

-- the room of a slot's trail
abbrev pub trail_room : Slot → ℕ
trail_room slot = vec_capacity slot.trail

-- the slot x of the cell t, which is there, has become y
module _ (slots : List Slot) (t : ℕ) (x y : Slot) (h : t < length slots) (is : x ≡ get_or slots t x) where
  pub stage_here : stage_in slots t ≡ stage_of x
  stage_here = column_here stage_of slots t x promise h is

  -- what is so of the stage that the slot shows is so of the cell's
  pub shows : (P : CellStage → Type 0) → P (stage_of x) → P (stage_in slots t)
  shows P p = subst P (sym stage_here) p

  pub loads_set : (n : ℕ) → y.loads ≡ n → (c : ℕ) → loads_in (set slots t y) c ≡ put (loads_in slots) t n c
  loads_set n e c = column_set (λ slot. slot.loads) slots t y 0 h c ∙ ap (λ i. put (loads_in slots) t i c) e

  pub loads_stay : y.loads ≡ x.loads → (c : ℕ) → loads_in (set slots t y) c ≡ loads_in slots c
  loads_stay e c = loads_set x.loads e c ∙ put_same (loads_in slots) t x.loads
      (column_here (λ slot. slot.loads) slots t x 0 h is) c

  pub loads_more : y.loads ≡ suc x.loads → (c : ℕ) → loads_in (set slots t y) c ≡ one_load (loads_in slots) t c
  loads_more e c = loads_set (suc (loads_in slots t))
      (e ∙ ap suc (sym (column_here (λ slot. slot.loads) slots t x 0 h is))) c

  pub rooms_stay : (n : ℕ) → HaveRoom n slots → vec_capacity x.trail ≤ vec_capacity y.trail → HaveRoom n (set slots t y)
  rooms_stay n r e c l =
      let z = length-set slots t y in
      subst (λ i. n ≤ i) (sym (column_set trail_room slots t y 0 h c))
      (at_put (room_in slots) t (trail_room y) (λ k i. n ≤ i) c
      (let m = r t h in let w = column_here trail_room slots t x 0 h is in omega arith) (λ q. r c (omega arith)))

  -- the room of a slot that is there
  pub room_here : (n : ℕ) → HaveRoom n slots → n ≤ vec_capacity x.trail
  room_here n r = let m = r t h in let w = column_here trail_room slots t x 0 h is in omega arith

-- a slot that was put back
pub set_same : (slots : List Slot) (t : ℕ) (x y : Slot) → x ≡ get_or slots t x → y ≡ x → set slots t y ≡ slots
set_same slots t x y is e = ap (set slots t) (e ∙ is) ∙ set-get_or slots t x

-- a list with one element more, read at any index
pub at_snoc : {A : Type 0} (l : List A) (a d : A) (j : ℕ) → get_or (l ++ a ∷ []) j d ≡ put (λ k. get_or l k d)
    (length l) a j
at_snoc [] a d zero = refl
at_snoc [] a d (suc j) = sym (put_else (λ k. d) 0 a (suc j) (λ e. omega arith))
at_snoc (x ∷ l) a d zero = sym (put_else (λ k. get_or (x ∷ l) k d) (suc (length l)) a 0 (λ e. omega arith))
at_snoc (x ∷ l) a d (suc j) = at_snoc l a d j ∙ at_put (λ k. get_or l k d) (length l) a
    (λ k y. y ≡ put (λ k. get_or (x ∷ l) k d) (suc (length l)) a (suc k)) j
    (sym (put_here (λ k. get_or (x ∷ l) k d) (suc (length l)) a))
    (λ n. sym (put_else (λ k. get_or (x ∷ l) k d) (suc (length l)) a (suc j) (λ e. n (omega arith))))

module _ (m : Machine) where
  abbrev s : CoreState
  s = state_of m

  -- where an event isn't allowed and nothing has changed, it is refused
  pub refused : (e : Event) → ¬ Allowed (limit_of m) s e → Refuses m e m
  refused e illegal = record { illegal = illegal; state = refl; loads = λ _. refl; limit = refl }

  -- the state after the stage of one slot changes
  pub state_changed : (t : ℕ) (x y : Slot) → t < length m.slots.items → x ≡ get_or m.slots.items t x
      → (f : CellStage → CellStage) → stage_of y ≡ f (stage_of x)
      → state_in m.births.births.items m.births.made.items m.owners.owners.items (set m.slots.items t y) m.others
      m.cleared ≡ restage s t f
  state_changed t x y h is f e j = record s {
    cells = λ c. at_put s.cells t (staged (f (stage s.cells t)) (s.cells t)) (λ i z. after i ≡ z) c
        (λ k. staged ((here t ∙ (put_here (stage_in m.slots.items) t (stage_of y)
        ∙ (e ∙ ap f (sym (stage_here m.slots.items t x y h is))))) k) (s.cells t))
        (λ n k. staged ((here c ∙ put_else (stage_in m.slots.items) t (stage_of y) c n) k) (s.cells c)) j;
  }
    where
      here : (c : ℕ) → stage_in (set m.slots.items t y) c ≡ put (stage_in m.slots.items) t (stage_of y) c
      here = column_set stage_of m.slots.items t y promise h

      after : ℕ → CellState
      after c = staged (stage_in (set m.slots.items t y) c) (s.cells c)

  -- the state after the owner of one cell changes
  pub owner_changed : (p : ℕ) (o : Option ℕ) → p < length m.owners.owners.items
      → state_in m.births.births.items m.births.made.items (set m.owners.owners.items p o) m.slots.items m.others
      m.cleared ≡ alter s p (owned_by o)
  owner_changed p o h j = record s {
    cells = λ c. at_put s.cells p (owned_by o (s.cells p)) (λ i z. after i ≡ z) c
        (λ k. owned_by ((here p ∙ put_here (owner s.cells) p o) k) (s.cells p))
        (λ n k. owned_by ((here c ∙ put_else (owner s.cells) p o c n) k) (s.cells c)) j;
  }
    where
      here : (c : ℕ) → owner_in (set m.owners.owners.items p o) c ≡ put (owner s.cells) p o c
      here = at_set m.owners.owners.items p o None h

      after : ℕ → CellState
      after c = owned_by (owner_in (set m.owners.owners.items p o) c) (s.cells c)
