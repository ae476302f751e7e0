-- Set-once words: TAG, BITS, PARENT, KID, DEPTH and JUMP of a cell are each written once, by the one seat to which
-- the word is due.
use Rattle.std.specs.Prelude.{◌≡◌, ◌≢◌, ◌⊎◌, ℕ, ◌<◌, ◌≤◌, List, Option, Some, None}
use Rattle.tj_words.specs.declared.offsets.Once.{Once}
use Rattle.tj_words.specs.declared.offsets.Once.TheVariants as once
use Rattle.tj_words.specs.declared.view.Hand.{Hand}
use Rattle.tj_words.specs.declared.view.SeenWord.{SeenWord}
use Rattle.tj_words.specs.declared.view.Due.{Due}
use Rattle.tj_words.specs.Words.Lists.{Each, OfSeat, All}
use Rattle.tj_words.specs.LawParts.Hands.{IsThere}
use Rattle.tj_words.specs.LawParts.TreeWords.{IsOfTree, IsDue}

-- the seat has the cell in hand
abbrev pub HasInHand : ℕ → Option Hand → Type 0
HasInHand c hand = (h : Hand) × (hand ≡ Some h) × (h.cell ≡ c)

-- when a word may be due: the words of the tree to the drawer of the cell, while it has the cell in hand; TAG and
-- BITS to the seat that wrote nobody into OWN, TAG until it is written and BITS only while TAG is due
pub record MayBeDue (drawn : ℕ) (hand : ℕ → Option Hand) (hands : List (Option Hand)) (own : ℕ → Option ℕ)
    (due_to : ℕ → Once → Option ℕ)
    (j c : ℕ)
    (f : Once) : Type 0 where
  pub tree : IsOfTree f → OfSeat (HasInHand c) hands j
  pub value : ¬ IsOfTree f → IsThere drawn hand c × (own c ≡ None)
  pub tag_last : ¬ IsOfTree f → due_to c once.Tag ≡ Some j

-- what a seat has seen is a word of the tree, stands, and is due to nobody
pub record Stands (drawn : ℕ) (word : ℕ → Once → ℕ) (due_to : ℕ → Once → Option ℕ) (w : SeenWord) : Type 0 where
  pub of_tree : IsOfTree w.word
  pub drawn_cell : w.cell < drawn
  pub value : word w.cell w.word ≡ w.value
  pub written : due_to w.cell w.word ≡ None

-- what was seen of these words stands, each is due to one seat at most, and a closed cell gets its TAG
pub record OnceWords (drawn : ℕ) (hand : ℕ → Option Hand) (hands : List (Option Hand)) (own : ℕ → Option ℕ)
    (word : ℕ → Once → ℕ)
    (seen : List (List SeenWord)) (dues : List (List Due)) : Type 0 where
  pub due_to : ℕ → Once → Option ℕ
  pub stands : Each (λ j l. All (Stands drawn word due_to) l) seen
  pub dues_mine : Each (λ j l. All (λ (d : Due). due_to d.cell d.word ≡ Some j) l) dues
  pub due : (c j : ℕ) (f : Once) → due_to c f ≡ Some j → OfSeat (IsDue c f) dues j
  pub may_be_due : (c j : ℕ) (f : Once) → due_to c f ≡ Some j → MayBeDue drawn hand hands own due_to j c f
  pub unwritten : (c j : ℕ) (f : Once) → due_to c f ≡ Some j → word c f ≡ 0
  -- TAG and BITS other than 0 stand only where the cell is there and nobody owns it; and there TAG isn't 0, or is due
  pub valued : (c : ℕ) (f : Once) → ¬ IsOfTree f → word c f ≢ 0 → IsThere drawn hand c × (own c ≡ None)
  pub closed : (c : ℕ) → IsThere drawn hand c → own c ≡ None
      → (word c once.Tag ≢ 0) ⊎ ((j : ℕ) × (due_to c once.Tag ≡ Some j))
  pub undrawn : (c : ℕ) (f : Once) → drawn ≤ c → (word c f ≡ 0) × (due_to c f ≡ None)
