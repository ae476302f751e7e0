-- A task that knows where it stands, and notes its arguments, the statement at which it made each promise and each
-- task, and what it set and handed on.
use Rattle.std.specs.Prelude.{ℕ, suc, List, [], ◌∷◌, ◌++◌, map, length, Bool, Option, Some, None}
use Rattle.tj_base.specs.declared.cell.Sort.{Sort}
use Rattle.tj_base.specs.declared.cell.Sort.TheVariants as sort
use Rattle.tj_base.specs.declared.value.Pay.{Pay}
use Rattle.tj_body.specs.declared.ask.Answer.{Answer}
use Rattle.tj_body.specs.declared.ask.Answer.TheVariants as answer
use Rattle.tj_body.specs.declared.ask.Ask.{Ask}
use Rattle.tj_body.specs.declared.ask.Ask.TheVariants as ask
use Rattle.tj_body.specs.Asks.{Await}
use Rattle.tj_body.specs.Programs.{Program, program_of}
use Rattle.tj_body.specs.SeenAs.{ask_as}
use Rattle.tj_eval.specs.Statements.{TaskState}
use Rattle.tj_eval.specs.Stands.{PlacedState, Stand, placed_places, placed_awaits, placed_left, placed_asks, placed_then}
use Rattle.tj_trace.specs.declared.line.Maker.{Maker}
use Rattle.tj_trace.specs.declared.logged.PlaceHand.{PlaceHand}
use Rattle.tj_trace.specs.declared.logged.PlaceSet.{PlaceSet}

-- a task that knows where it stands, with its notes
pub record Logged : Type 0 where
  pub placed : PlacedState
  -- what its variables held at first
  pub began : List Pay
  -- what made its first thing, its second, and so on
  pub makers : List Maker
  -- the places that it has set, and those that it has handed to things that it made
  pub sets : List PlaceSet
  pub hands : List PlaceHand
  -- what it has asked to be made, if its last ask was that
  pub due : Option Sort
  -- the place that it has asked to set, and those that it has asked to hand on
  pub set_due : Option ℕ
  pub hand_due : List ℕ

-- one that has asked nothing yet
abbrev pub logged : PlacedState → Logged
logged x = record {
  placed = x;
  began = x.task.vars;
  makers = [];
  sets = [];
  hands = [];
  due = None;
  set_due = None;
  hand_due = [];
}

-- the task without its stand and its notes
abbrev pub erased : Logged → TaskState
erased x = x.placed.task

-- what an ask makes, if it makes something
abbrev pub made_by : {B : Type 0} → Ask B → Option Sort
made_by ask.New = Some sort.Promise
made_by (ask.Fork b pass hand) = Some sort.Task
made_by _ = None

-- the place that an ask sets, if it sets one
abbrev pub set_by : {B : Type 0} → Ask B → Option ℕ
set_by (ask.Set p v) = Some p
set_by _ = None

-- the places that an ask hands on
abbrev pub handed_by : {B : Type 0} → Ask B → List ℕ
handed_by (ask.Fork b pass hand) = hand
handed_by _ = []

-- a place handed to the thing with this number
abbrev pub hand_here : ℕ → ℕ → PlaceHand
hand_here n p = record { place = p; thing = n }

-- the place that is set at the statement where a task stands that has asked for this
abbrev pub set_here : Option ℕ → Stand → List PlaceSet
set_here None z = []
set_here (Some p) z = record { place = p; at = z.at } ∷ []

-- what it has set once the answer is there
abbrev pub sets_noted : Answer → Logged → List PlaceSet
sets_noted answer.Done x = x.sets ++ set_here x.set_due x.placed.stand
sets_noted _ x = x.sets

-- what it has handed on once the answer is there
abbrev pub hands_noted : Answer → Logged → List PlaceHand
hands_noted (answer.Local k) x = x.hands ++ map (hand_here (suc (length x.makers))) x.hand_due
hands_noted _ x = x.hands

-- the statement at which a task stands that has asked for this
abbrev pub maker_here : Option Sort → Stand → List Maker
maker_here None z = []
maker_here (Some s) z = record { sort = s; decl = z.decl; at = z.at } ∷ []

-- the notes once the answer is there: one more where it tells that something was made
abbrev pub noted : Answer → Logged → List Maker
noted (answer.Local k) x = x.makers ++ maker_here x.due x.placed.stand
noted _ x = x.makers

-- the members of a body
abbrev pub logged_places : Logged → ℕ
logged_places x = placed_places x.placed

abbrev pub logged_awaits : Logged → Await
logged_awaits x = placed_awaits x.placed

abbrev pub logged_left : Logged → ℕ
logged_left x = placed_left x.placed

abbrev pub logged_asks : Logged → Answer → Ask Logged
logged_asks x a = ask_as logged (placed_asks x.placed a)

abbrev pub logged_then : Logged → Answer → Logged
logged_then x a = record {
  placed = placed_then x.placed a;
  began = x.began;
  makers = noted a x;
  sets = sets_noted a x;
  hands = hands_noted a x;
  due = made_by (placed_asks x.placed a);
  set_due = set_by (placed_asks x.placed a);
  hand_due = handed_by (placed_asks x.placed a);
}

-- the program of a task that has asked nothing yet
abbrev pub logged_program : Bool → PlacedState → Program Logged
logged_program strict root =
    program_of logged_places logged_awaits logged_left logged_asks logged_then strict (logged root)
