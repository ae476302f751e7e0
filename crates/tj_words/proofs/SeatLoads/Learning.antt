-- A seat learns: the law stays where what the seat knows from now on is so.
use Rattle.tj_words.proofs.Prelude.{All, AreThere, Begins, Bool, Contents, Filled, Found, HasGrown, IsCell, IsFilled}
use Rattle.tj_words.proofs.Prelude.{IsIn, IsStored, IsWritten, Law, List, Program, Reference, SeatsHave, SeenWord, Shut}
use Rattle.tj_words.proofs.Prelude.{Stands, View, bits_in, drawn_in, hand_of, set, tag_in, true, ℕ, ◌≡◌, ◌≢◌}
use Rattle.tj_words.proofs.Stores.LawChanges.{law_kept}
use Rattle.tj_words.proofs.Stores.SeatLists.{each_set}
use Rattle.tj_words.proofs.Waiters.ChainSeats.{chains_seats}

-- what a seat knows
pub record Knowing : Type 0 where
  pub known : List ℕ
  pub born : List Reference
  pub wrote : List Filled
  pub filled : List Filled
  pub seen : List SeenWord
  pub closed : List ℕ
  pub found : List Found
  pub rested : Bool
  pub told : List ℕ

abbrev pub knowing_of : {B : Type 0} → View B → Knowing
knowing_of v = record {
  known = v.known;
  born = v.born;
  wrote = v.wrote;
  filled = v.filled;
  seen = v.seen;
  closed = v.closed;
  found = v.found;
  rested = v.rested;
  told = v.told;
}

-- what the seats have, where seat id of those before knows this
abbrev pub seats_learn : {B : Type 0} → ℕ → Knowing → SeatsHave B → SeatsHave B → SeatsHave B
seats_learn id k old y = record y {
  known = set old.known id k.known;
  born_seen = set old.born_seen id k.born;
  wrote = set old.wrote id k.wrote;
  filled = set old.filled id k.filled;
  seen = set old.seen id k.seen;
  closed = set old.closed id k.closed;
  found = set old.found id k.found;
  rested = set old.rested id k.rested;
  told = set old.told id k.told;
}

module _ {B : Type 0} (program : Program B) (cells : ℕ) (x : Contents B) (law : Law program cells x) where
  -- what a seat knows is so
  pub record IsSo (k : Knowing) : Type 0 where
    pub known : AreThere (drawn_in cells x) (hand_of x) k.known
    pub begins : Begins k.born law.born
    pub known_born : All (λ c. (r : Reference) × IsCell k.born c r) k.known
    pub wrote : All (λ (f : Filled).
        IsWritten program (drawn_in cells x) (hand_of x) law.born (tag_in x) (bits_in x) f.cell f.entry) k.wrote
    pub filled : All (λ (f : Filled).
        IsFilled program (drawn_in cells x) (hand_of x) law.born (tag_in x) (bits_in x) f.cell f.entry) k.filled
    pub seen : All (Stands (drawn_in cells x) x.words.once law.once_words.due_to) k.seen
    pub closed : All (λ p. x.words.head p ≡ Shut) k.closed
    pub found : All (λ (f : Found). HasGrown (x.words.head f.cell) (law.chains.line f.cell) f.chain) k.found
    pub rested : k.rested ≡ true → x.words.live ≡ 0
    pub told : (n : ℕ) → IsIn n k.told → n ≢ 0 → IsStored x.seats.stored n

  -- the contents where seat id knows this, under which the law stays
  abbrev pub learns : ℕ → Knowing → Contents B
  learns id k = record x { seats = seats_learn id k x.seats x.seats }

  pub law_learns : (id : ℕ) (k : Knowing) → IsSo k → Law program cells (learns id k)
  law_learns id k so = law_kept law x.words (learns id k).seats law.lots
      (let n = law.names in record {
        owned = n.owned;
        waits = n.waits;
        records = n.records;
        walks = n.walks;
        knows = each_set _ x.seats.known id k.known n.knows so.known;
      })
      law.tree_words
      (let o = law.once_words in record {
        due_to = o.due_to;
        stands = each_set _ x.seats.seen id k.seen o.stands so.seen;
        dues_mine = o.dues_mine;
        due = o.due;
        may_be_due = o.may_be_due;
        unwritten = o.unwritten;
        valued = o.valued;
        closed = o.closed;
        undrawn = o.undrawn;
      })
      (let c = law.chains in chains_seats c c.due c.pushing c.to_push c.taken c.rest
      (each_set _ x.seats.closed id k.closed c.stays_shut so.closed)
      (each_set _ x.seats.found id k.found c.grows so.found))
      (let c = law.live_count in record {
        counted = c.counted;
        stays_at_rest = each_set _ x.seats.rested id k.rested c.stays_at_rest so.rested;
      })
      (let q = law.stops in record {
        given = q.given;
        stands = q.stands;
        found = each_set _ x.seats.told id k.told q.found so.told;
      })
      law.records_fit
      (let m = law.meaning in record {
        names = m.names;
        entries = m.entries;
        records = m.records;
        full = m.full;
        stopped = m.stopped;
        begins = each_set _ x.seats.born_seen id k.born m.begins so.begins;
        wrote_stands = each_set _ x.seats.wrote id k.wrote m.wrote_stands so.wrote;
        filled_stands = each_set _ x.seats.filled id k.filled m.filled_stands so.filled;
      })
      law.facts
