-- What a step makes of the view of its seat, where the seat learns something.
use Rattle.std.specs.Prelude.{◌≡◌, ℕ, suc, ◌+◌, ◌-◌, ◌*◌, ◌≤◌, true, false, cond, nat_lt, ◌||◌, List, [], ◌∷◌, ◌++◌}
use Rattle.std.specs.Prelude.{length}
use Rattle.std.specs.Prelude.{None}
use Rattle.tj_body.specs.declared.point.Reference.{Reference}
use Rattle.tj_body.specs.declared.point.Entry.{Entry}
use Rattle.tj_words.specs.declared.offsets.Once.{Once}
use Rattle.tj_words.specs.declared.view.Note.{Note}
use Rattle.tj_words.specs.declared.view.Noted.{Noted}
use Rattle.tj_words.specs.declared.view.Noted.TheVariants as note
use Rattle.tj_words.specs.declared.view.View.{View}
use Rattle.tj_words.specs.LawParts.Lots.{least_lot}

module _ {B : Type 0} where
  -- it has made a step more
  abbrev pub stepped_on : View B → View B
  stepped_on v = record v { steps = suc v.steps }

  -- a step of a seat with this view, at which the word was n
  abbrev pub note_of : Noted → ℕ → View B → Note
  note_of step n v = record { step = step; word = n; once_loads = v.once_loads }

  -- it has made this step more, at which the word was n
  abbrev pub noted_step : Noted → ℕ → View B → View B
  noted_step step n v = record v { steps = suc v.steps; notes = note_of step n v ∷ v.notes }

  -- the step was a load that is no event, and the word was n
  abbrev pub loaded_plain : Noted → ℕ → View B → View B
  loaded_plain step n v = record v {
    steps = suc v.steps;
    plain_loads = suc v.plain_loads;
    notes = note_of step n v ∷ v.notes;
  }

  -- it loaded LIVE as 0
  abbrev pub saw_rest : View B → View B
  saw_rest v = record v { steps = suc v.steps; rested = true; notes = note_of note.Live 0 v ∷ v.notes }

  -- it loaded LIVE as n, which isn't 0
  abbrev pub saw_live : ℕ → View B → View B
  saw_live n v = record v { steps = suc v.steps; notes = note_of note.Live n v ∷ v.notes }

  -- it loaded STOP as n
  abbrev pub saw_stop : ℕ → View B → View B
  saw_stop n v = record v {
    steps = suc v.steps;
    stop = n;
    told = n ∷ v.told;
    notes = note_of note.Stop n v ∷ v.notes;
  }

  -- it stored n into STOP
  abbrev pub stored_stop : ℕ → View B → View B
  stored_stop n v = record v {
    steps = suc v.steps;
    stored = n ∷ v.stored;
    notes = note_of note.StoredStop n v ∷ v.notes;
  }

  -- it found the chain of a cell
  abbrev pub found_chain : ℕ → List ℕ → View B → View B
  found_chain p chain v = record v { steps = suc v.steps; found = record { cell = p; chain = chain } ∷ v.found }

  -- it found the head of a cell shut, of which something has become then
  abbrev pub found_shut : ℕ → List Reference → Entry → View B → View B
  found_shut p born e v = record v {
    steps = suc v.steps;
    born = born;
    closed = p ∷ v.closed;
    filled = record { cell = p; entry = e } ∷ v.filled;
  }

  -- it loaded a word that is written once
  abbrev pub loaded_once : View B → View B
  loaded_once v = record v { steps = suc v.steps; once_loads = suc v.once_loads }

  -- the word is one of the tree
  abbrev pub saw_word : ℕ → Once → ℕ → List Reference → View B → View B
  saw_word c f value born v = record v {
    steps = suc v.steps;
    once_loads = suc v.once_loads;
    born = born;
    seen = record { cell = c; word = f; value = value } ∷ v.seen;
  }

  -- the word is TAG, and something has become of the cell, which the seat knows from now on
  abbrev pub saw_entry : ℕ → Entry → List Reference → View B → View B
  saw_entry c e born v = record v {
    steps = suc v.steps;
    once_loads = suc v.once_loads;
    born = born;
    known = c ∷ v.known;
    filled = record { cell = c; entry = e } ∷ v.filled;
  }

  -- the word is BITS of a cell of which something has become that the seat knows; where that is a reference, it
  -- knows the cell from now on
  abbrev pub saw_bits : List ℕ → List Reference → View B → View B
  saw_bits cells born v = record v {
    steps = suc v.steps;
    once_loads = suc v.once_loads;
    born = born;
    known = cells ++ v.known;
  }

-- of two beginnings of one list the longer one
abbrev pub longer : List Reference → List Reference → List Reference
longer xs ys = cond (nat_lt (length xs) (length ys)) ys xs

module _ {B : Type 0} where
  -- a view that says nothing: what is left of a seat that another takes in
  abbrev pub spent : View B
  spent = record {
    about = None;
    lot = 0;
    refused = 0;
    tokens = 0;
    cleared = 0;
    hand = None;
    tasks = [];
    known = [];
    born = [];
    wrote = [];
    filled = [];
    seen = [];
    dues = [];
    pushes = [];
    shuts = [];
    rest = None;
    closed = [];
    found = [];
    rested = false;
    plain_loads = 0;
    once_loads = 0;
    steps = 0;
    stop = 0;
    stored = [];
    told = [];
    notes = [];
    records = [];
    put_home = [];
  }

  -- a view is cut in two: the second seat has a lot of 4, and knows what the first one knows, but for that one's notes
  abbrev pub left_half : View B → View B
  left_half v = record v { lot = v.lot - least_lot }

  -- and this is what the second one has
  abbrev pub right_half : View B → View B
  right_half v = record spent {
    about = v.about;
    lot = least_lot;
    known = v.known;
    born = v.born;
    wrote = v.wrote;
    filled = v.filled;
    seen = v.seen;
    closed = v.closed;
    found = v.found;
    rested = v.rested;
  }

  -- a seat takes another in, and knows what either of them knew, but for that one's notes and the records that its
  -- steps took or put home
  abbrev pub both : View B → View B → View B
  both v w = record v {
    lot = v.lot + w.lot;
    refused = v.refused + w.refused;
    known = v.known ++ w.known;
    born = longer v.born w.born;
    wrote = v.wrote ++ w.wrote;
    filled = v.filled ++ w.filled;
    seen = v.seen ++ w.seen;
    closed = v.closed ++ w.closed;
    found = v.found ++ w.found;
    rested = v.rested || w.rested;
    plain_loads = v.plain_loads + w.plain_loads;
    once_loads = v.once_loads + w.once_loads;
    steps = v.steps + w.steps;
    stored = v.stored ++ w.stored;
    told = v.told ++ w.told;
  }

  -- a seat that may be merged: it holds no task and no token, has no cell in hand, and has nothing to come
  pub record IsIdle (v : View B) : Type 0 where
    pub tasks : v.tasks ≡ []
    pub tokens : v.tokens ≡ 0
    pub hand : v.hand ≡ None
    pub dues : v.dues ≡ []
    pub cleared : v.cleared ≡ 0
    pub pushes : v.pushes ≡ []
    pub shuts : v.shuts ≡ []
    pub rest : v.rest ≡ None

  -- a seat that may be split: its lot has room for the least lot, beside what counts against it
  pub record MaySplit (v : View B) : Type 0 where
    pub lot : 2 * least_lot ≤ v.lot
    pub refused : v.refused ≤ v.lot - least_lot
    pub tokens : v.tokens ≤ v.lot - least_lot
    pub cleared : v.cleared ≤ v.lot - least_lot
