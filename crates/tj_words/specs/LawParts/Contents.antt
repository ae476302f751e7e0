-- The contents of a table: what its words say, its slots, and what the views have, field by field, each a list over the
-- seats.
use Rattle.std.specs.Prelude.{ℕ, ◌+◌, min, Bool, List, map, Option}
use Rattle.atomic_table.specs.Table.{State}
use Rattle.tj_body.specs.declared.point.Reference.{Reference}
use Rattle.tj_events.specs.CoreState.{CoreState}
use Rattle.tj_words.specs.declared.head.Head.{Head}
use Rattle.tj_words.specs.declared.offsets.Once.{Once}
use Rattle.tj_words.specs.declared.offsets.Once.TheVariants as once
use Rattle.tj_words.specs.declared.phase.Phase.{Phase}
use Rattle.tj_record.specs.declared.record.Rec.{Rec}
use Rattle.tj_words.specs.declared.view.Hand.{Hand}
use Rattle.tj_words.specs.declared.view.Custody.{Custody}
use Rattle.tj_words.specs.declared.view.SeenWord.{SeenWord}
use Rattle.tj_words.specs.declared.view.Due.{Due}
use Rattle.tj_words.specs.declared.view.Filled.{Filled}
use Rattle.tj_words.specs.declared.view.Push.{Push}
use Rattle.tj_words.specs.declared.view.Rest.{Rest}
use Rattle.tj_words.specs.declared.view.Found.{Found}
use Rattle.tj_words.specs.declared.view.View.{View}
use Rattle.tj_words.specs.Words.Lists.{total}
use Rattle.tj_words.specs.Words.Offsets.{word, count_at, live_at, others_at, stop_at, own_at, phase_at, once_at}
use Rattle.tj_words.specs.Words.Offsets.{head_at, next_at}
use Rattle.tj_words.specs.Words.Owners.{owner_in}
use Rattle.tj_words.specs.Words.Phases.{phase_in}
use Rattle.tj_words.specs.Words.Heads.{head_in}
use Rattle.tj_words.specs.LawParts.Holding.{Slots, home_in, find_in, made_by, owned_by}
use Rattle.tj_words.specs.LawParts.Hands.{making, hand_in}
use Rattle.tj_words.specs.LawParts.ShownState.{state_shown}

-- what the words say
pub record WordsSay : Type 0 where
  pub count : ℕ
  pub live : ℕ
  pub others : ℕ
  pub stop : ℕ
  pub own : ℕ → Option ℕ
  pub phase : ℕ → Phase
  pub once : ℕ → Once → ℕ
  pub head : ℕ → Head
  pub next : ℕ → Head

-- what the words say
abbrev pub words_say : List ℕ → WordsSay
words_say words = record {
  count = word words count_at;
  live = word words live_at;
  others = word words others_at;
  stop = word words stop_at;
  own = λ c. owner_in (word words (own_at c));
  phase = λ c. phase_in (word words (phase_at c));
  once = λ c f. word words (once_at c f);
  head = λ c. head_in (word words (head_at c));
  next = λ c. head_in (word words (next_at c));
}

-- what the seats have
pub record SeatsHave (B : Type 0) : Type 0 where
  pub lots : List ℕ
  pub refused : List ℕ
  pub tokens : List ℕ
  pub cleared : List ℕ
  pub hands : List (Option Hand)
  pub tasks : List (List (Custody B))
  pub known : List (List ℕ)
  pub born_seen : List (List Reference)
  pub wrote : List (List Filled)
  pub filled : List (List Filled)
  pub seen : List (List SeenWord)
  pub dues : List (List Due)
  pub pushes : List (List Push)
  pub shuts : List (List ℕ)
  pub rests : List (Option Rest)
  pub closed : List (List ℕ)
  pub found : List (List Found)
  pub rested : List Bool
  pub stored : List (List ℕ)
  pub told : List (List ℕ)

-- what the seats have
abbrev pub seats_have : {B : Type 0} → List (View B) → SeatsHave B
seats_have {B} views = record {
  lots = map (λ (v : View B). v.lot) views;
  refused = map (λ (v : View B). v.refused) views;
  tokens = map (λ (v : View B). v.tokens) views;
  cleared = map (λ (v : View B). v.cleared) views;
  hands = map (λ (v : View B). v.hand) views;
  tasks = map (λ (v : View B). v.tasks) views;
  known = map (λ (v : View B). v.known) views;
  born_seen = map (λ (v : View B). v.born) views;
  wrote = map (λ (v : View B). v.wrote) views;
  filled = map (λ (v : View B). v.filled) views;
  seen = map (λ (v : View B). v.seen) views;
  dues = map (λ (v : View B). v.dues) views;
  pushes = map (λ (v : View B). v.pushes) views;
  shuts = map (λ (v : View B). v.shuts) views;
  rests = map (λ (v : View B). v.rest) views;
  closed = map (λ (v : View B). v.closed) views;
  found = map (λ (v : View B). v.found) views;
  rested = map (λ (v : View B). v.rested) views;
  stored = map (λ (v : View B). v.stored) views;
  told = map (λ (v : View B). v.told) views;
}

-- the contents of a table
pub record Contents (B : Type 0) : Type 0 where
  pub words : WordsSay
  pub slots : Slots B
  pub seats : SeatsHave B

module _ {B : Type 0} where
  -- the contents of a table in this state
  abbrev pub contents_of : State (Option (Rec B)) (View B) → Contents B
  contents_of s = record { words = words_say s.words; slots = s.homes; seats = seats_have s.views }

  -- how many of so many cells are drawn
  abbrev pub drawn_in : ℕ → Contents B → ℕ
  drawn_in cells x = min x.words.count cells

  -- TAG of cell c
  abbrev pub tag_in : Contents B → ℕ → ℕ
  tag_in x c = x.words.once c once.Tag

  -- BITS of cell c
  abbrev pub bits_in : Contents B → ℕ → ℕ
  bits_in x c = x.words.once c once.Bits

  -- the hand in which the cell is
  abbrev pub hand_of : Contents B → ℕ → Option Hand
  hand_of x = hand_in x.seats.hands

  -- what the seat that holds the task has for it
  abbrev pub held_of : Contents B → ℕ → Option (Custody B)
  held_of x = find_in x.seats.tasks

  -- the record of the task that lies at home
  abbrev pub home_of : Contents B → ℕ → Option (Rec B)
  home_of x = home_in x.slots

  -- the cells that the task owns
  abbrev pub owned_of : Contents B → ℕ → List ℕ
  owned_of x t = owned_by (held_of x t) (home_of x t)

  -- how many things the task has made, a cell in hand among them
  abbrev pub made_of : Contents B → ℕ → ℕ
  made_of x t = made_by (held_of x t) (home_of x t) + making x.seats.hands t

  -- the core state that a table of so many cells shows, given what each cell is and who made it
  abbrev pub core_shown : ℕ → List Reference → (ℕ → ℕ) → Contents B → CoreState
  core_shown cells born maker x =
      state_shown (drawn_in cells x) born maker (made_of x) (hand_of x) x.words.own x.words.phase (held_of x)
      (home_of x)
      x.words.others (total x.seats.cleared)
