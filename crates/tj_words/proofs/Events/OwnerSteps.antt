-- The stores of OWN and the draws, by what they need and what they change of all by which the core state is shown.
use Rattle.tj_words.proofs.Prelude.{Contents, Custody, Hand, IsIn, MayAct, drawn_in, first_owner, get_elem?, hand_of}
use Rattle.tj_words.proofs.Prelude.{held_of, home_of, made_by, making, put, some}
use Rattle.std.specs.Prelude.{◌≡◌, ◌≢◌, ℕ, suc, Option, Some, None, ◌<◌}
use Rattle.tj_words.proofs.Events.ShownParts.{parts_of, owned_parts, drawn_parts}
use Rattle.tj_words.proofs.Events.StepEvents.{IsHeldWith}
use Rattle.tj_base.specs.declared.cell.Sort.TheVariants as sort
use Rattle.tj_words.specs.declared.offsets.Once.TheVariants as once
use Rattle.tj_words.specs.declared.phase.Phase.TheVariants as phase
use Rattle.tj_words.specs.declared.view.Does.TheVariants as does

module _ {B : Type 0} (x : Contents B) (id t : ℕ) where
  -- seat id holds t, which runs, has its result and may act; it is running from now on
  pub record ActsOn : Type 0 where
    pub before_it : Custody B
    pub after_it : Custody B
    pub held : IsHeldWith x id t before_it
    pub may : MayAct before_it.does
    pub result : IsIn t before_it.owned
    pub runs : after_it.does ≡ does.Running
    pub made : after_it.made ≡ before_it.made

module _ {B : Type 0} (cells : ℕ) (x y : Contents B) (id t : ℕ) where
  -- the store of c into the OWN of p, a promise that t owns: c is a child of t, as PARENT says, that is Unborn yet
  pub record HandsPromise (p c : ℕ) : Type 0 where
    pub acts : ActsOn x id t
    pub owned : IsIn p acts.before_it.owned
    pub promise : x.words.phase p ≡ phase.Promise
    pub child_before : Custody B
    pub child_after : Custody B
    pub child_held : IsHeldWith x id c child_before
    pub unborn : child_before.does ≡ does.Unborn
    pub its_result : IsIn c child_before.owned
    pub its_parent : x.words.once c once.Parent ≡ suc t
    pub other : c ≢ t
    pub still_unborn : child_after.does ≡ does.Unborn
    pub child_made : child_after.made ≡ child_before.made
    pub parts : parts_of cells y ≡ record (owned_parts (parts_of cells x) p (Some c) t (Some acts.after_it)) {
      held = put (put (held_of x) t (Some acts.after_it)) c (Some child_after);
    }

  -- the store of nobody into the OWN of p, a promise that t owns
  pub record ClosesPromise (p : ℕ) : Type 0 where
    pub acts : ActsOn x id t
    pub owned : IsIn p acts.before_it.owned
    pub promise : x.words.phase p ≡ phase.Promise
    pub parts : parts_of cells y ≡ owned_parts (parts_of cells x) p None t (Some acts.after_it)

  -- the store of nobody into the OWN of t, which owns nothing else
  pub record ClosesResult : Type 0 where
    pub acts : ActsOn x id t
    pub alone : (c : ℕ) → IsIn c acts.before_it.owned → c ≡ t
    pub no_hand : get_elem? x.seats.hands id ≡ some None
    pub parts : parts_of cells y ≡ owned_parts (parts_of cells x) t None t (Some acts.after_it)

  -- the first store of OWN of cell c, in hand of seat id: its owner is the one that is shown already, and its maker t
  -- has made one thing more and makes none; nothing else that is shown is changed but what a seat has for t and for c
  pub record GivesOwner (c : ℕ) (h : Hand) : Type 0 where
    pub in_hand : get_elem? x.seats.hands id ≡ some (Some h)
    pub marked : h.sort ≡ sort.Promise → x.words.phase c ≡ phase.Promise
    pub before_it : Custody B
    pub after_it : Custody B
    pub held : IsHeldWith x id t before_it
    pub does_same : after_it.does ≡ before_it.does
    pub made : after_it.made ≡ suc before_it.made
    pub new_held : Option (Custody B)
    pub new_made : made_by new_held (home_of x c) ≡ made_by (held_of x c) (home_of x c)
    pub parts : parts_of cells y ≡ record (parts_of cells x) {
      hand = put (hand_of x) c None;
      making = put (making x.seats.hands) t 0;
      own = put x.words.own c (Some (first_owner h.sort t c));
      held = put (put (held_of x) c new_held) t (Some after_it);
    }

  -- the draw of a cell of this sort by t, where fewer than all cells are drawn
  pub record DrawsCell (h : Hand) : Type 0 where
    pub acts : ActsOn x id t
    pub no_hand : get_elem? x.seats.hands id ≡ some None
    pub left : x.words.count < cells
    pub hand_maker : h.maker ≡ t
    pub hand_cell : h.cell ≡ drawn_in cells x
    pub new_held : Option (Custody B)
    pub new_made : made_by new_held None ≡ 0
    pub parts : parts_of cells y ≡ drawn_parts (parts_of cells x) t h (Some acts.after_it) new_held
