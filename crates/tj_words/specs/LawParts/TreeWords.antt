-- The words that tell the tree of makers: PARENT, KID, DEPTH and JUMP of each cell that is there.
use Rattle.std.specs.Prelude.{◌≡◌, ◌≢◌, ◌⊎◌, ◌↔◌, ℕ, zero, suc, ◌<◌, ◌≤◌, List, [], length, Option, Some}
use mathlib.Core.Option.{some}
use lib.ListN.{get_elem?}
use Rattle.tj_base.specs.ForkOrder.{child}
use Rattle.tj_base.specs.declared.cell.Sort.{Sort}
use Rattle.tj_base.specs.declared.cell.Sort.TheVariants as sort
use Rattle.tj_body.specs.History.{to_task}
use Rattle.tj_body.specs.Points.{IsIn}
use Rattle.tj_body.specs.declared.point.Reference.{Reference}
use Rattle.tj_tree.specs.declared.node.Node.{Node}
use Rattle.tj_tree.specs.Forks.{Forks, HasTask, IsHistory, name_of}
use Rattle.tj_tree.specs.Nodes.{node_of}
use Rattle.tj_words.specs.declared.offsets.Once.{Once}
use Rattle.tj_words.specs.declared.offsets.Once.TheVariants as once
use Rattle.tj_words.specs.declared.phase.Phase.{Phase}
use Rattle.tj_words.specs.declared.view.Hand.{Hand}
use Rattle.tj_words.specs.declared.view.Due.{Due}
use Rattle.tj_words.specs.Words.Lists.{OfSeat}
use Rattle.tj_words.specs.LawParts.Hands.{IsThere}
use Rattle.tj_words.specs.LawParts.ShownState.{sort_shown}

-- cell c is the reference x
abbrev pub IsCell : List Reference → ℕ → Reference → Type 0
IsCell born c x = get_elem? born c ≡ some x

-- what the cells are: of at most so many cells, no two of which have one name
pub record AreCells (cells : ℕ) (born : List Reference) : Type 0 where
  pub few : length born ≤ cells
  pub apart : (c d : ℕ) (y z : Reference) → IsCell born c y → IsCell born d z → y.name ≡ z.name → c ≡ d

-- the word is one of the tree
abbrev pub IsOfTree : Once → Type 0
IsOfTree once.Tag = ⊥
IsOfTree once.Bits = ⊥
IsOfTree once.Parent = Unit {0}
IsOfTree once.Kid = Unit {0}
IsOfTree once.Depth = Unit {0}
IsOfTree once.Jump = Unit {0}

-- the word of the cell is among those that a seat is to write
abbrev pub IsDue : ℕ → Once → List Due → Type 0
IsDue c f dues = IsIn (record { cell = c; word = f }) dues

-- PARENT: the root has none
abbrev pub parent_word : ℕ → ℕ → ℕ
parent_word zero maker = 0
parent_word (suc c) maker = suc maker

-- DEPTH and JUMP are those of a task's node; a promise has 0
abbrev pub depth_word : Sort → Node → ℕ
depth_word sort.Task node = node.depth
depth_word sort.Promise node = 0

-- JUMP of a cell with this node
abbrev pub jump_word : Sort → Node → ℕ
jump_word sort.Task node = suc node.jump.0
jump_word sort.Promise node = 0

module _ (maker number : ℕ → ℕ) (forks : Forks) where
  -- what stands in a word of a cell of this sort once it is written
  abbrev pub tree_word : Sort → ℕ → Once → ℕ
  tree_word sort c once.Tag = 0
  tree_word sort c once.Bits = 0
  tree_word sort c once.Parent = parent_word c (maker c)
  tree_word sort c once.Kid = number c
  tree_word sort c once.Depth = depth_word sort (node_of forks c)
  tree_word sort c once.Jump = jump_word sort (node_of forks c)

-- what the cells are: the root is the first, and each other one's name is its maker's and the number of it among the
-- things that the maker has made, all of which are cells; a cell in hand is the last of them; makers aren't in hand
pub record BirthsBy (drawn : ℕ) (born : List Reference) (maker number made : ℕ → ℕ) (hand : ℕ → Option Hand)
    (shown : ℕ → Sort) :
    Type 0 where
  pub all : length born ≡ drawn
  pub root : IsCell born 0 (to_task [])
  pub root_maker : maker 0 ≡ 0
  pub root_number : number 0 ≡ 0
  pub named : (c : ℕ) (x : Reference) → IsCell born c x → c ≢ 0
      → (y : Reference) × IsCell born (maker c) y × (x.name ≡ child y.name (number c))
  pub sorts : (c : ℕ) (x : Reference) → IsCell born c x → x.sort ≡ shown c
  pub makers_there : (c : ℕ) → c < drawn → IsThere drawn hand (maker c)
  pub in_hand : (c : ℕ) (h : Hand) → hand c ≡ Some h → (maker c ≡ h.maker) × (number c ≡ made h.maker)
  pub made_all : (t k : ℕ) → 0 < k → k ≤ made t → (c : ℕ) × (c < drawn) × (maker c ≡ t) × (number c ≡ k)

-- the same, where hands and phases tell the sorts
abbrev pub Births : ℕ → List Reference → (ℕ → ℕ) → (ℕ → ℕ) → (ℕ → ℕ) → (ℕ → Option Hand) → (ℕ → Phase) → Type 0
Births drawn born maker number made hand phase =
    BirthsBy drawn born maker number made hand (λ c. sort_shown (hand c) (phase c))

-- the tasks in the tree of forks, by their names; no jump leads to a cell in hand
pub record IsForkTree (drawn : ℕ) (born : List Reference) (maker number : ℕ → ℕ) (forks : Forks)
    (hand : ℕ → Option Hand) : Type 0 where
  pub history : IsHistory forks
  pub tasks : (c : ℕ) → HasTask forks c ↔ ((x : Reference) × IsCell born c x × (x.sort ≡ sort.Task))
  pub names : (c : ℕ) (x : Reference) → IsCell born c x → x.sort ≡ sort.Task → name_of forks c ≡ x.name
  pub parents : (c : ℕ) → HasTask forks c → (node_of forks c).parent.0 ≡ maker c
  pub kids : (c : ℕ) → HasTask forks c → (node_of forks c).kid ≡ number c
  pub jumps_there : (c : ℕ) → HasTask forks c → IsThere drawn hand (node_of forks c).jump.0
  pub depths : (c : ℕ) → HasTask forks c → (node_of forks c).depth ≤ c

-- each word of the tree of a cell that is there is the right one; of a cell in hand it is due to a seat, or right too
pub record TreeWords (drawn : ℕ) (born : List Reference) (maker number : ℕ → ℕ) (forks : Forks)
    (hand : ℕ → Option Hand) (word : ℕ → Once → ℕ) (dues : List (List Due)) : Type 0 where
  pub written : (c : ℕ) (x : Reference) (f : Once) → IsThere drawn hand c → IsCell born c x → IsOfTree f
      → word c f ≡ tree_word maker number forks x.sort c f
  pub in_hand : (c : ℕ) (h : Hand) (x : Reference) (f : Once) → hand c ≡ Some h → IsCell born c x
      → IsOfTree f
      → ((j : ℕ) × OfSeat (IsDue c f) dues j) ⊎ (word c f ≡ tree_word maker number forks x.sort c f)
