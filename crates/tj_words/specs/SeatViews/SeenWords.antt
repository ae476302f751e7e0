-- What a seat knows of the tree of forks by the words that it has seen, and what loads of HEAD, NEXT and of words that
-- are written once tell.
use Rattle.std.specs.Prelude.{◌≡◌, ◌≢◌, ◌⊎◌, ℕ, suc, ◌-◌, ◌<◌, ◌≤◌, ◌^◌, List, [], ◌∷◌, ◌++◌, length, Bool, Some}
use Rattle.tj_base.specs.ForkOrder.{Name, child}
use Rattle.tj_base.specs.declared.cell.Sort.TheVariants as sort
use Rattle.tj_body.specs.History.{to_task}
use Rattle.tj_body.specs.Programs.{Program}
use Rattle.tj_body.specs.RoundPoints.{Becomes}
use Rattle.tj_body.specs.Points.{IsIn, Begins}
use Rattle.tj_body.specs.declared.point.Reference.{Reference}
use Rattle.tj_body.specs.declared.point.Value.TheVariants as value
use Rattle.tj_body.specs.declared.point.Entry.{Entry}
use Rattle.tj_body.specs.declared.point.Entry.TheVariants as entry
use Rattle.tj_tree.specs.declared.node.Node.{Node}
use Rattle.tj_tree.specs.Forks.{Forks, HasTask, IsHistory, name_of}
use Rattle.tj_tree.specs.Nodes.{HasNodes, node_of}
use Rattle.tj_words.specs.declared.head.Head.{Head}
use Rattle.tj_words.specs.declared.head.Head.TheVariants.{Shut}
use Rattle.tj_words.specs.declared.offsets.Once.{Once}
use Rattle.tj_words.specs.declared.offsets.Once.TheVariants as once
use Rattle.tj_words.specs.declared.view.About.{About}
use Rattle.tj_words.specs.declared.view.Filled.{Filled}
use Rattle.tj_words.specs.declared.view.Found.{Found}
use Rattle.tj_words.specs.declared.view.Noted.TheVariants as note
use Rattle.tj_words.specs.declared.view.Push.{Push}
use Rattle.tj_words.specs.declared.view.Rest.{Rest}
use Rattle.tj_words.specs.declared.view.SeenWord.{SeenWord}
use Rattle.tj_words.specs.declared.view.View.{View}
use Rattle.tj_words.specs.Words.Lists.{All, Any}
use Rattle.tj_words.specs.Words.Heads.{shut_word, head_word, head_in}
use Rattle.tj_words.specs.LawParts.TreeWords.{IsCell, AreCells}
use Rattle.tj_words.specs.LawParts.Telling.{tag_of, BitsSay}
use Rattle.tj_words.specs.LawParts.Chains.{head_of}
use Rattle.tj_words.specs.SeatViews.SeatSteps.{IsOn, Tells}
use Rattle.tj_words.specs.SeatViews.Views.{noted_step, loaded_once, found_chain, found_shut, saw_word, saw_entry}
use Rattle.tj_words.specs.SeatViews.Views.{saw_bits}

-- a word as it was seen
abbrev pub seen_word : ℕ → Once → ℕ → SeenWord
seen_word c f n = record { cell = c; word = f; value = n }

-- the words that were seen show the node of task n. PARENT and JUMP stand one higher than the cell, but for the root's
-- parent, which is the root
pub record ShowsNode (seen : List SeenWord) (n : ℕ) (node : Node) : Type 0 where
  pub parent : ℕ
  pub parent_seen : IsIn (seen_word n once.Parent parent) seen
  pub parent_is : node.parent.0 ≡ parent - 1
  pub kid : IsIn (seen_word n once.Kid node.kid) seen
  pub depth : IsIn (seen_word n once.Depth node.depth) seen
  pub jump : IsIn (seen_word n once.Jump (suc node.jump.0)) seen

-- the nodes that a seat has seen are those of a tree of forks, whose tasks have the names that the seat knows
pub record SeesTree (seen : List SeenWord) (born : List Reference) : Type 0 where
  pub forks : Forks
  pub history : IsHistory forks
  pub nodes : HasNodes forks (ShowsNode seen)
  pub tasks : (c : ℕ) (x : Reference) → IsCell born c x → x.sort ≡ sort.Task
      → HasTask forks c × (name_of forks c ≡ x.name)
  pub depths : (c : ℕ) → HasTask forks c → (node_of forks c).depth ≤ c

-- PARENT and KID that were seen tell names: a cell has the name of the cell that its PARENT names, and its KID
pub record SeesNames (seen : List SeenWord) (born : List Reference) : Type 0 where
  pub root : IsCell born 0 (to_task [])
  pub named : (c p k : ℕ) (x : Reference) → c ≢ 0 → IsIn (seen_word c once.Parent p) seen
      → IsIn (seen_word c once.Kid k) seen → IsCell born c x
      → (y : Reference) × IsCell born (p - 1) y × (x.name ≡ child y.name k)

-- the cell is named by a PARENT or a JUMP that was seen
abbrev pub IsNamedBy : ℕ → List SeenWord → Type 0
IsNamedBy c seen = Any (λ (w : SeenWord). ((w.word ≡ once.Parent) ⊎ (w.word ≡ once.Jump)) × (w.value ≡ suc c)) seen

-- the cell is a task
abbrev pub IsTaskIn : List Reference → ℕ → Type 0
IsTaskIn born c = (x : Reference) × IsCell born c x × (x.sort ≡ sort.Task)

-- where PARENT and JUMP of a task lead: to tasks, each of which stands one higher there, but for the root's parent,
-- which is the root
abbrev pub LeadsTo : Once → ℕ → List Reference → Type 0
LeadsTo once.Parent n born = IsTaskIn born (n - 1)
LeadsTo once.Jump n born = (0 < n) × IsTaskIn born (n - 1)
LeadsTo once.Tag n born = Unit {0}
LeadsTo once.Bits n born = Unit {0}
LeadsTo once.Kid n born = Unit {0}
LeadsTo once.Depth n born = Unit {0}

-- the cell that BITS names
abbrev pub bits_cells : Entry → ℕ → List ℕ
bits_cells entry.Broken n = []
bits_cells (entry.Value (value.Num i)) n = []
bits_cells (entry.Value (value.Ref r)) n = n ∷ []

module _ {B : Type 0} where
  -- a word of the tree may be read of cell 0, of a known cell, and of one named by a PARENT or JUMP that was seen
  abbrev pub MayReadTree : ℕ → View B → Type 0
  MayReadTree c v = (c ≡ 0) ⊎ (IsIn c v.known ⊎ IsNamedBy c v.seen)

  -- when a seat may load a word that is written once: TAG and BITS always
  abbrev pub MayRead : Once → ℕ → View B → Type 0
  MayRead once.Tag c v = Unit {0}
  MayRead once.Bits c v = Unit {0}
  MayRead once.Parent c v = MayReadTree c v
  MayRead once.Kid c v = MayReadTree c v
  MayRead once.Depth c v = MayReadTree c v
  MayRead once.Jump c v = MayReadTree c v

  -- the load of a word of the tree
  pub record FindsWord (cells : ℕ) (f : Once) (c n : ℕ) (v w : View B) : Type 0 where
    pub born : List Reference
    pub begins : Begins v.born born
    pub small : n < 2 ^ 32
    pub view : w ≡ saw_word c f n born v
    pub tree : SeesTree w.seen w.born
    pub names : SeesNames w.seen w.born
    pub leads : IsTaskIn v.born c → LeadsTo f n born
    pub all : AreCells cells born

  -- the cell has this entry in some round of the program of this root and rule
  abbrev pub WillHave : (Bool → B → Program B) → View B → Name → Entry → Type 0
  WillHave program v q e = (a : About B) → v.about ≡ Some a → Becomes (program a.strict a.root) q e

  -- the load of TAG, where nothing has become of the cell: the seat didn't know of anything
  pub record FindsNothing (c : ℕ) (v w : View B) : Type 0 where
    pub unknown : All (λ (f : Filled). f.cell ≢ c) v.filled
    pub view : w ≡ loaded_once v

  -- a seat finds that something has become of the cell: that which it knew, where it knew; its view is then so
  pub record FindsBecome (program : Bool → B → Program B) (cells c : ℕ) (after : Entry → List Reference → View B)
      (v w : View B) : Type 0 where
    pub entry : Entry
    pub born : List Reference
    pub reference : Reference
    pub begins : Begins v.born born
    pub is : IsCell born c reference
    pub becomes : WillHave program v reference.name entry
    pub same : All (λ (f : Filled). f.cell ≡ c → f.entry ≡ entry) v.filled
    pub all : AreCells cells born
    pub view : w ≡ after entry born

  -- the load of TAG, where something has become of the cell, of which this is the tag
  abbrev pub FindsEntry : (Bool → B → Program B) → ℕ → ℕ → ℕ → View B → View B → Type 0
  FindsEntry program cells c n v w = (found : FindsBecome program cells c (λ e born. saw_entry c e born v) v w)
      × (n ≡ tag_of found.entry)

  -- the load of BITS: of a cell of which the seat knows what has become, it says that
  pub record FindsBits (cells c n : ℕ) (v w : View B) : Type 0 where
    pub born : List Reference
    pub named : List ℕ
    pub begins : Begins v.born born
    pub all : AreCells cells born
    pub says : All (λ (f : Filled). f.cell ≡ c → BitsSay born f.entry n × (named ≡ bits_cells f.entry n)) v.filled
    pub view : w ≡ saw_bits named born v

  -- what the load of a word that is written once tells
  abbrev pub SeesOnce : (Bool → B → Program B) → ℕ → Once → ℕ → ℕ → View B → View B → Type 0
  SeesOnce program cells once.Tag c n v w = (n ≡ 0 → FindsNothing c v w) × (n ≢ 0 → FindsEntry program cells c n v w)
  SeesOnce program cells once.Bits c n v w = FindsBits cells c n v w
  SeesOnce program cells once.Parent c n v w = FindsWord cells once.Parent c n v w
  SeesOnce program cells once.Kid c n v w = FindsWord cells once.Kid c n v w
  SeesOnce program cells once.Depth c n v w = FindsWord cells once.Depth c n v w
  SeesOnce program cells once.Jump c n v w = FindsWord cells once.Jump c n v w

  -- the load of a word that is written once
  abbrev pub once_load : (Bool → B → Program B) → ℕ → Once → ℕ → Tells B
  once_load program cells f c st m n m' = (m'.1 ≡ m.1) × SeesOnce program cells f c n m.0 m'.0

  -- the head was found shut: something has become of the cell
  abbrev pub FindsShut : (Bool → B → Program B) → ℕ → ℕ → View B → View B → Type 0
  FindsShut program cells c v w = FindsBecome program cells c (λ e born. found_shut c born e v) v w

  -- the chain was found, of which each one found before is an end; it has at most as many tasks as there are cells, one
  -- less where the seat has a push to come, and its head names one of these
  pub record FindsChain (cells c : ℕ) (h : Head) (v w : View B) : Type 0 where
    pub chain : List ℕ
    pub is : h ≡ head_of chain
    pub short : length chain ≤ cells
    pub room : (e : Push) → IsIn e v.pushes → suc (length chain) ≤ cells
    pub small : head_word h ≤ cells
    pub grown : All (λ (f : Found). f.cell ≡ c → (more : List ℕ) × (chain ≡ more ++ f.chain)) v.found
    pub view : w ≡ found_chain c chain v

  -- the load of a HEAD
  abbrev pub head_load : (Bool → B → Program B) → ℕ → ℕ → Tells B
  head_load program cells c st m n m' = (m'.1 ≡ m.1) × (n ≤ shut_word)
      × (head_in n ≡ Shut → FindsShut program cells c m.0 m'.0)
      × (head_in n ≢ Shut → FindsChain cells c (head_in n) m.0 m'.0)

  -- NEXT of the first task of the seat's rest names the next one
  abbrev pub NextTold : ℕ → Head → View B → Type 0
  NextTold t h v = (r : Rest) (ts : List ℕ) → v.rest ≡ Some r → r.tasks ≡ t ∷ ts → h ≡ head_of ts

  -- the load of a NEXT, which the seat notes
  abbrev pub next_load : ℕ → ℕ → Tells B
  next_load cells t st m n m' = (m'.1 ≡ m.1) × (m'.0 ≡ noted_step (note.Next t) n m.0) × (n ≤ cells)
      × NextTold t (head_in n) m.0 × IsOn (note.Next t) st
