-- The contents of a table after a step of one seat: what the seats have, where one view changes.
use Rattle.tj_words.proofs.Prelude.{Bool, Each, IsSeat, Key, Law, List, Option, Program, Rec, Rule, SeatsHave, State}
use Rattle.tj_words.proofs.Prelude.{View, ap, get_elem?, map-set, seats_have, set, set_again, some, subst, sym}
use Rattle.tj_words.proofs.Prelude.{words_say, ℕ, ◌∙◌, ◌≡◌}
use Rattle.tj_words.specs.LawParts.PushedRecords.{LieAsPut}

module _ {B : Type 0} where
  -- seat id has the view w
  abbrev pub set_seats : SeatsHave B → ℕ → View B → SeatsHave B
  set_seats x id w = record {
    lots = set x.lots id w.lot;
    refused = set x.refused id w.refused;
    tokens = set x.tokens id w.tokens;
    cleared = set x.cleared id w.cleared;
    hands = set x.hands id w.hand;
    tasks = set x.tasks id w.tasks;
    known = set x.known id w.known;
    born_seen = set x.born_seen id w.born;
    wrote = set x.wrote id w.wrote;
    filled = set x.filled id w.filled;
    seen = set x.seen id w.seen;
    dues = set x.dues id w.dues;
    pushes = set x.pushes id w.pushes;
    shuts = set x.shuts id w.shuts;
    rests = set x.rests id w.rest;
    closed = set x.closed id w.closed;
    found = set x.found id w.found;
    rested = set x.rested id w.rested;
    stored = set x.stored id w.stored;
    told = set x.told id w.told;
  }

  -- what the seats have, where the view of one changes
  pub seats_set : (views : List (View B)) (id : ℕ) (w : View B)
      → seats_have (set views id w) ≡ set_seats (seats_have views) id w
  seats_set views id w j = record {
    lots = map-set (λ (v : View B). v.lot) views id w j;
    refused = map-set (λ (v : View B). v.refused) views id w j;
    tokens = map-set (λ (v : View B). v.tokens) views id w j;
    cleared = map-set (λ (v : View B). v.cleared) views id w j;
    hands = map-set (λ (v : View B). v.hand) views id w j;
    tasks = map-set (λ (v : View B). v.tasks) views id w j;
    known = map-set (λ (v : View B). v.known) views id w j;
    born_seen = map-set (λ (v : View B). v.born) views id w j;
    wrote = map-set (λ (v : View B). v.wrote) views id w j;
    filled = map-set (λ (v : View B). v.filled) views id w j;
    seen = map-set (λ (v : View B). v.seen) views id w j;
    dues = map-set (λ (v : View B). v.dues) views id w j;
    pushes = map-set (λ (v : View B). v.pushes) views id w j;
    shuts = map-set (λ (v : View B). v.shuts) views id w j;
    rests = map-set (λ (v : View B). v.rest) views id w j;
    closed = map-set (λ (v : View B). v.closed) views id w j;
    found = map-set (λ (v : View B). v.found) views id w j;
    rested = map-set (λ (v : View B). v.rested) views id w j;
    stored = map-set (λ (v : View B). v.stored) views id w j;
    told = map-set (λ (v : View B). v.told) views id w j;
  }

  -- the same where a seat keeps its view
  pub seats_same : (views : List (View B)) (id : ℕ) (v : View B) → get_elem? views id ≡ some v
      → set_seats (seats_have views) id v ≡ seats_have views
  seats_same views id v at = sym (seats_set views id v) ∙ ap seats_have (set_again views id v at)

module _ {B : Type 0} {program : Bool → B → Program B} {key : Key B} {s : State (Option (Rec B)) (View B)}
    (r : Rule program key s) where
  -- the rule where the words and slots stay, by the law over what the seats have then
  pub rule_views : (views : List (View B)) (seats : SeatsHave B) → seats_have views ≡ seats
      → Each (λ j v. IsSeat key v) views
      → Each (λ j (v : View B). LieAsPut s.homes v.pushes v.put_home) views
      → Law (program key.strict key.root.value) key.cells
      record { words = words_say s.words; slots = s.homes; seats = seats }
      → Rule program key record { words = s.words; homes = s.homes; views = views }
  rule_views views seats path each pushed law = record {
    some_cells = r.some_cells;
    few_cells = r.few_cells;
    rooted = r.rooted;
    all_words = r.all_words;
    all_slots = r.all_slots;
    codes = r.codes;
    seats = each;
    pushed = pushed;
    law = subst (λ z. Law (program key.strict key.root.value) key.cells
        record { words = words_say s.words; slots = s.homes; seats = z })
        (sym path)
        law;
  }
