-- The core state after a cell is added.
use Rattle.std.proofs.Common.{◌≡◌, ◌≢◌, ℕ, zero, suc, ◌<◌, ◌≤◌, List, [], ◌∷◌, ◌++◌, length, set, map, get_or, Option}
use Rattle.std.proofs.Common.{Some, None, refl, sym, ap, ◌∙◌, subst, arith, length-set, Bool, true, false, cond, nat_eq}
use Rattle.std.proofs.lemmas.List.{length-append}
use Rattle.tj_base.specs.ForkOrder.{Name, child}
use Rattle.tj_core.specs.declared.births.Birth.{Birth}
use Rattle.tj_core.specs.declared.slot.Slot.{Slot}
use Rattle.tj_base.specs.Puts.{put}
use Rattle.tj_events.specs.CoreState.{CellStage, promise, running, CellState, CoreState}
use Rattle.tj_events.specs.Events.{one_made, new_cell, with_new}
use Rattle.tj_core.specs.Inner.Births.{names_of, name_of, maker_of}
use Rattle.tj_core.specs.Inner.Slots.{stage_of}
use Rattle.tj_core.specs.Inner.Columns.{stage_in, loads_in, room_in, HaveRoom, cell_in, state_in}
use Rattle.tj_core.proofs.Columns.BirthNames.{names_after-snoc, length-names_after}
use Rattle.tj_base.proofs.Puts.{at_put, put_here, put_else, put_same}
use Rattle.tj_core.proofs.Columns.ColumnLists.{at_set, at_snoc, column_set, column_beyond, length-map_at, trail_room}

map-snoc : {A B : Type 0} (f : A → B) (l : List A) (a : A) → map f (l ++ a ∷ []) ≡ map f l ++ f a ∷ []
map-snoc f [] a = refl
map-snoc f (x ∷ l) a = ap (λ r. f x ∷ r) (map-snoc f l a)

-- a column of a list with one element more
pub column_snoc : {A B : Type 0} (f : A → B) (l : List A) (a : A) (d : B) (j : ℕ) → get_or (map f (l ++ a ∷ [])) j d
    ≡ put (λ k. get_or (map f l) k d) (length l) (f a) j
column_snoc f l a d j = ap (λ r. get_or r j d) (map-snoc f l a)
    ∙ (at_snoc (map f l) (f a) d j ∙ ap (λ n. put (λ k. get_or (map f l) k d) n (f a) j) (length-map_at f l))

maker_here : (bs : List Birth) (b : Birth) → maker_of (bs ++ b ∷ []) (suc (length bs)) ≡ b.maker
maker_here bs b = let d : Birth = record { maker = 0; number = 0 } in
    ap (λ (x : Birth). x.maker) (at_snoc bs b d (length bs) ∙ put_here (λ k. get_or bs k d) (length bs) b)

maker_else : (bs : List Birth) (b : Birth) (c : ℕ) → c ≢ suc (length bs) → maker_of (bs ++ b ∷ []) c ≡ maker_of bs c
maker_else bs b zero n = refl
maker_else bs b (suc c) n = let d : Birth = record { maker = 0; number = 0 } in
    ap (λ (x : Birth). x.maker) (at_snoc bs b d c ∙ put_else (λ k. get_or bs k d) (length bs) b c (λ e. n (ap suc e)))

name_snoc : (bs : List Birth) (b : Birth) (c : ℕ) → name_of (bs ++ b ∷ []) c ≡ put (name_of bs) (suc (length bs))
    (child (name_of bs b.maker) b.number) c
name_snoc bs b c = let n : Name = child (name_of bs b.maker) b.number in
    ap (λ l. get_or l c []) (names_after-snoc ([] ∷ []) bs b)
    ∙ (at_snoc (names_of bs) n [] c ∙ ap (λ k. put (name_of bs) k n c) (length-names_after ([] ∷ []) bs ∙ omega arith))

module _ (bs : List Birth) (made : List ℕ) (os : List (Option ℕ)) (slots : List Slot) (others cleared t o : ℕ)
    (y v : Slot) (st : CellStage) (b : Birth)
    (there : t < length slots) (all : suc (length bs) ≡ length slots) (size : length made ≡ suc (length bs))
    (room : suc (length bs) < length os)
    (ys : stage_of y ≡ running) (vs : stage_of v ≡ st) (is : b ≡ record { maker = t; number = suc (get_or made t 0) })
  where
    abbrev s : CoreState
    s = state_in bs made os slots others cleared

    abbrev n : ℕ
    n = suc (length bs)

    abbrev number : ℕ
    number = suc (get_or made t 0)

    abbrev made' : List ℕ
    made' = set made t number ++ 0 ∷ []

    abbrev slots' : List Slot
    slots' = set slots t y ++ v ∷ []

    made_at : (c : ℕ) → get_or made' c 0 ≡ put (put (λ k. get_or made k 0) t number) n 0 c
    made_at c = at_snoc (set made t number) 0 0 c
        ∙ (λ j. put (λ k. at_set made t number 0 (omega arith) k j) ((length-set made t number ∙ size) j) 0 c)

    stage_at : (c : ℕ) → stage_in slots' c ≡ put (put (stage_in slots) t running) n st c
    stage_at c = column_snoc stage_of (set slots t y) v promise c
        ∙ (λ j. put (λ k. (column_set stage_of slots t y promise there k ∙ ap (λ x. put (stage_in slots) t x k) ys) j)
        ((length-set slots t y ∙ sym all) j) (vs j) c)

    owner_at : (c : ℕ) → get_or (set os n (Some o)) c None ≡ put (λ k. get_or os k None) n (Some o) c
    owner_at = at_set os n (Some o) None room

    -- the cells after t has made one thing more
    abbrev changed : ℕ → CellState
    changed c = record (s.cells c)
        { made = put (λ k. get_or made k 0) t number c; stage = put (stage_in slots) t running c }

    old : (c : ℕ) → changed c ≡ put s.cells t (one_made (s.cells t)) c
    old c = at_put s.cells t (one_made (s.cells t)) (λ i x. changed i ≡ x) c
        (λ j. record (s.cells t)
        { made = put_here (λ k. get_or made k 0) t number j; stage = put_here (stage_in slots) t running j })
        (λ d j. record (s.cells c)
        { made = put_else (λ k. get_or made k 0) t number c d j; stage = put_else (stage_in slots) t running c d j })

    maker_at : (c : ℕ) → maker_of (bs ++ b ∷ []) c ≡ put (maker_of bs) n t c
    maker_at c = at_put (maker_of bs) n t (λ i x. maker_of (bs ++ b ∷ []) i ≡ x) c
        (maker_here bs b ∙ ap (λ (x : Birth). x.maker) is) (maker_else bs b c)

    -- cells of which each column is changed at one cell are changed there
    by_test : (k : Bool) (x a : CellState) → record {
      maker = cond k a.maker x.maker;
      name = cond k a.name x.name;
      made = cond k a.made x.made;
      owner = cond k a.owner x.owner;
      stage = cond k a.stage x.stage;
    } ≡ cond k a x
    by_test true x a = refl
    by_test false x a = refl

    cell_at : (c : ℕ) → cell_in (bs ++ b ∷ []) made' (set os n (Some o)) slots' c ≡ (with_new s t o st).cells c
    cell_at c = (λ j. record {
      maker = maker_at c j;
      name = (name_snoc bs b c ∙ ap (λ (x : Birth). put (name_of bs) n (child (name_of bs x.maker) x.number) c) is) j;
      made = made_at c j;
      owner = owner_at c j;
      stage = stage_at c j;
    }) ∙ (by_test (nat_eq c n) (changed c) (new_cell t (s.cells t) o st)
        ∙ (λ j. cond (nat_eq c n) (new_cell t (s.cells t) o st) (old c j)))

    pub added : state_in (bs ++ b ∷ []) made' (set os n (Some o)) slots' others cleared ≡ with_new s t o st
    added =
        let e : suc (length (bs ++ b ∷ [])) ≡ suc n = ap suc (length-append bs (b ∷ []) ∙ omega arith) in
        λ j. record { count = e j; cells = λ c. cell_at c j; others = others; cleared = cleared }

    pub added_loads : v.loads ≡ 0 → ((c : ℕ) → loads_in (set slots t y) c ≡ loads_in slots c)
        → (c : ℕ) → loads_in slots' c ≡ loads_in slots c
    added_loads z same c =
        let l : List Slot = set slots t y in
        column_snoc (λ slot. slot.loads) l v 0 c ∙ (put_same (loads_in l) (length l) v.loads
        (column_beyond (λ slot. slot.loads) l (length l) 0 (omega arith) ∙ sym z) c ∙ same c)

-- room stays where a slot with room is added
pub rooms_more : (n : ℕ) (slots : List Slot) (v : Slot)
    → HaveRoom n slots → n ≤ trail_room v → HaveRoom n (slots ++ v ∷ [])
rooms_more n slots v r h c l =
    let e = length-append slots (v ∷ []) in
    subst (λ i. n ≤ i) (sym (column_snoc trail_room slots v 0 c))
    (at_put (room_in slots) (length slots) (trail_room v) (λ _ i. n ≤ i) c h (λ q. r c (omega arith)))

-- the room of slots that one was taken from, and of that one
pub rooms_less : (n : ℕ) (slots : List Slot) (v : Slot)
    → HaveRoom n (slots ++ v ∷ []) → HaveRoom n slots × (n ≤ trail_room v)
rooms_less n slots v r = let e = length-append slots (v ∷ []) in (
  (λ c l. subst (λ i. n ≤ i)
      (column_snoc trail_room slots v 0 c ∙ put_else (room_in slots) (length slots) (trail_room v) c (λ q. omega arith))
      (r c (omega arith))),
  subst (λ i. n ≤ i)
      (column_snoc trail_room slots v 0 (length slots) ∙ put_here (room_in slots) (length slots) (trail_room v))
      (r (length slots) (omega arith)),
)
