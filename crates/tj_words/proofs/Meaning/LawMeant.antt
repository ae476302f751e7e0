-- What the law says of the meaning, and what a seat knows of its own view, in the terms of the kinds of step.
use Rattle.tj_words.proofs.Prelude.{AreThere, Contents, Entry, IsNamedThere, Law, List, Program, Reference, arith}
use Rattle.tj_words.proofs.Prelude.{bits_in, drawn_in, hand_of, home_of, tag_in, ℕ}
use Rattle.tj_words.specs.SeatViews.KnownEntries.{NamesOneOf}
use Rattle.tj_words.proofs.Meaning.MeaningGrows.{Ground, Known, Meant}

module _ {B : Type 0} where
  -- what the meaning reads of the contents of a table of so many cells, where the cells are these
  abbrev pub ground_of : ℕ → List Reference → Contents B → Ground
  ground_of N born x =
      record { drawn = drawn_in N x; hand = hand_of x; born = born; tag = tag_in x; bits = bits_in x }

  abbrev pub known_of : Contents B → Known
  known_of x =
      record { born_seen = x.seats.born_seen; wrote = x.seats.wrote; filled = x.seats.filled }

  pub law_meant : (program : Program B) (N : ℕ) (x : Contents B) (r : Law program N x)
      → Meant program N x.words.count x.words.stop (ground_of N r.born x) (home_of x) (known_of x)
  law_meant program N x r = r.meaning

-- a cell that a seat knows is there: its number may be stored into BITS
pub known_named : (g : Ground) (known : List ℕ) → AreThere g.drawn g.hand known → (e : Entry) (n : ℕ)
    → NamesOneOf known e n → IsNamedThere g.drawn g.hand e n
known_named g known there e n h = grind (arith, there)
