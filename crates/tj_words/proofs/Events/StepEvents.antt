-- What a step shows: one event that is allowed, or nothing; and which cells it leaves.
use Rattle.tj_words.proofs.Prelude.{Allowed, Contents, CoreState, Custody, Event, Hand, IsThere, Law, OfSeat, Program}
use Rattle.tj_words.proofs.Prelude.{Reference, after, core_shown, drawn_in, hand_of, held_in, made_of}
use Rattle.std.specs.Prelude.{◌≡◌, ℕ, List, Some, None, ◌⊎◌, suc}
use Rattle.tj_words.specs.declared.offsets.Once.TheVariants as once

module _ {B : Type 0} where
  -- seat id holds the task, and has this for it
  abbrev pub IsHeldWith : Contents B → ℕ → ℕ → Custody B → Type 0
  IsHeldWith x id t k = OfSeat (λ ks. held_in ks t ≡ Some k) x.seats.tasks id

  module _ (cells : ℕ) (born : List Reference) (maker : ℕ → ℕ) (x y : Contents B) where
    -- what the contents show is changed by this event, which is allowed; with what the cells are afterwards
    pub record ShowsEvent (e : Event) (born' : List Reference) (maker' : ℕ → ℕ) : Type 0 where
      pub allowed : Allowed cells (core_shown cells born maker x) e
      pub shown : core_shown cells born' maker' y ≡ after (core_shown cells born maker x) e

    -- what the contents show is as it was
    abbrev pub ShowsNothing : Type 0
    ShowsNothing = core_shown cells born maker y ≡ core_shown cells born maker x

  -- the cell isn't in hand, and these are its PARENT and KID
  pub record IsToldBy (x : Contents B) (c parent kid : ℕ) : Type 0 where
    pub out : hand_of x c ≡ None
    pub parent_is : x.words.once c once.Parent ≡ parent
    pub kid_is : x.words.once c once.Kid ≡ kid

  -- the cell is in hand, with this maker, who has made as many things
  pub record IsInHandOf (x : Contents B) (c maker made : ℕ) : Type 0 where
    pub hand : Hand
    pub in_hand : hand_of x c ≡ Some hand
    pub maker_is : hand.maker ≡ maker
    pub made_is : made_of x maker ≡ made

  -- a step leaves PARENT and KID of each cell that is there; a cell in hand stays in hand, and its maker makes nothing,
  -- or it is there, with its maker in PARENT and its number in KID
  pub record KeepsCells (cells : ℕ) (x y : Contents B) : Type 0 where
    pub there : (c : ℕ) → IsThere (drawn_in cells x) (hand_of x) c
        → IsToldBy y c (x.words.once c once.Parent) (x.words.once c once.Kid)
    pub hands : (c : ℕ) (h : Hand) → hand_of x c ≡ Some h
        → IsInHandOf y c h.maker (made_of x h.maker) ⊎ IsToldBy y c (suc h.maker) (made_of x h.maker)

-- the contents are changed so, and makers and numbers of the cells stay
abbrev pub Keeping : {B : Type 0} → ℕ → Contents B → Contents B → Type 0 → Type 0
Keeping cells x y Change = Change × KeepsCells cells x y

-- the core state that contents under the law show
abbrev pub core_of : {B : Type 0} {program : Program B} {cells : ℕ} {x : Contents B} → Law program cells x → CoreState
core_of {cells = cells} {x = x} r = core_shown cells r.born r.maker x

module _ {B : Type 0} {program : Program B} {cells : ℕ} {x : Contents B} (r : Law program cells x)
    (y : Contents B) where
  -- from contents under the law to these is a step that shows nothing, and makers and numbers of the cells stay
  abbrev pub IsQuietStep : Type 0
  IsQuietStep = Keeping cells x y (ShowsNothing cells r.born r.maker x y)

  -- it is this event, and makers and numbers of the cells stay
  abbrev pub IsEventStep : Event → Type 0
  IsEventStep e = Keeping cells x y (ShowsEvent cells r.born r.maker x y e r.born r.maker)
