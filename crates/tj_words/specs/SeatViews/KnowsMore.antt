-- What a seat knows and has to do, over several steps: what it knew it still knows, and what a call leaves alone is as
-- it was. The calls that are made of several steps tell their callers this.
use Rattle.std.specs.Prelude.{◌≡◌, List, ◌++◌, true}
use Rattle.tj_body.specs.Points.{IsIn, Begins}
use Rattle.tj_words.specs.declared.view.View.{View}

-- each element of the first list is one of the second
abbrev pub AreAmong : {A : Type 0} → List A → List A → Type 0
AreAmong {A} xs ys = (x : A) → IsIn x xs → IsIn x ys

-- the second list is the first with more in front of it
abbrev pub IsTailOf : {A : Type 0} → List A → List A → Type 0
IsTailOf {A} xs ys = (more : List A) × (ys ≡ more ++ xs)

module _ {B : Type 0} where
  -- the seat is of the same table and has the same lot, and knows what it knew; what it has noted since stands in front
  -- of its notes
  pub record KnowsMore (v w : View B) : Type 0 where
    pub about : w.about ≡ v.about
    pub lot : w.lot ≡ v.lot
    pub born : Begins v.born w.born
    pub known : AreAmong v.known w.known
    pub wrote : AreAmong v.wrote w.wrote
    pub filled : AreAmong v.filled w.filled
    pub seen : AreAmong v.seen w.seen
    pub closed : AreAmong v.closed w.closed
    pub rested : v.rested ≡ true → w.rested ≡ true
    pub notes : IsTailOf v.notes w.notes

  -- what the seat has to do for chains of waiters is as it was
  pub record HasSameWakes (v w : View B) : Type 0 where
    pub pushes : w.pushes ≡ v.pushes
    pub shuts : w.shuts ≡ v.shuts
    pub rest : w.rest ≡ v.rest

  -- nothing is in hand or due that wasn't
  pub record HasSameHand (v w : View B) : Type 0 where
    pub hand : w.hand ≡ v.hand
    pub dues : w.dues ≡ v.dues

  -- its tokens, its refused draws and the waits that it has still to lower OTHERS for are as they were
  pub record HasSameCounts (v w : View B) : Type 0 where
    pub tokens : w.tokens ≡ v.tokens
    pub cleared : w.cleared ≡ v.cleared
    pub refused : w.refused ≡ v.refused
