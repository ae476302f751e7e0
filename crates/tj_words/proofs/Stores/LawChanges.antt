-- Steps on HEAD, NEXT, LIVE, OTHERS and STOP and of words that are written once: the law by the parts that they touch.
use Rattle.tj_words.proofs.Prelude.{Chains, Contents, CoreFacts, Law, LiveCount, Lots, Meaning, NamesCells, OnceWords}
use Rattle.tj_words.proofs.Prelude.{Program, RecordsFit, SeatsHave, Stops, TreeWords, WordsSay, core_shown, drawn_in}
use Rattle.tj_words.proofs.Prelude.{hand_of, home_of, ℕ}
use Rattle.tj_words.specs.declared.offsets.Once.TheVariants as once

module _ {B : Type 0} {program : Program B} {cells : ℕ} {x : Contents B} (law : Law program cells x) where
  -- the contents with these words and seats, but for draws, owners, phases, hands and tasks, which stay
  abbrev pub kept : WordsSay → SeatsHave B → Contents B
  kept words seats = record {
    words = record words { count = x.words.count; own = x.words.own; phase = x.words.phase };
    slots = x.slots;
    seats = record seats { hands = x.seats.hands; tasks = x.seats.tasks };
  }

  -- the law where these stay, by the parts that speak of others too
  pub law_kept : (words : WordsSay) (seats : SeatsHave B) → Lots cells x.words.count seats.lots seats.refused
      → NamesCells (drawn_in cells x) (hand_of x) x.words.own x.words.phase (home_of x) x.seats.tasks seats.known
      → TreeWords (drawn_in cells x) law.born law.maker law.number law.forks (hand_of x) words.once seats.dues
      → OnceWords (drawn_in cells x) (hand_of x) x.seats.hands x.words.own words.once seats.seen seats.dues
      → Chains (λ c. words.once c once.Tag) words.head words.next x.words.phase seats.pushes seats.shuts seats.rests
      seats.closed seats.found
      → LiveCount cells words.live x.words.phase seats.tokens seats.rested
      → Stops words.stop seats.stored seats.told
      → RecordsFit (λ c. words.once c once.Tag) x.words.phase (home_of x)
      → Meaning program cells x.words.count words.stop (drawn_in cells x) (hand_of x) law.born
      (λ c. words.once c once.Tag) (λ c. words.once c once.Bits) (home_of x) seats.born_seen seats.wrote seats.filled
      → CoreFacts (core_shown cells law.born law.maker (kept words seats))
      → Law program cells (kept words seats)
  law_kept words seats lots names tree_words once_words chains live_count stops fit meaning facts = record {
    born = law.born;
    maker = law.maker;
    number = law.number;
    forks = law.forks;
    lots = lots;
    hands = law.hands;
    names = names;
    births = law.births;
    tree = law.tree;
    tree_words = tree_words;
    custody = law.custody;
    owned = law.owned;
    once_words = once_words;
    chains = chains;
    live_count = live_count;
    stops = stops;
    waiters_own = law.waiters_own;
    records_fit = fit;
    meaning = meaning;
    undrawn = law.undrawn;
    facts = facts;
  }
