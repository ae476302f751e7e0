-- What the stores of BITS and TAG, and of any word that is written once, need of the view of their seat, and what they
-- make of it.
use Rattle.std.specs.Prelude.{◌≡◌, ℕ, suc, Bool, ◌∷◌, Some}
use Rattle.tj_body.specs.Programs.{Program}
use Rattle.tj_body.specs.declared.point.Entry.{Entry}
use Rattle.tj_words.specs.declared.offsets.Once.{Once}
use Rattle.tj_words.specs.declared.offsets.Once.TheVariants as once
use Rattle.tj_words.specs.declared.view.About.{About}
use Rattle.tj_words.specs.declared.view.View.{View}
use Rattle.tj_words.specs.LawParts.TreeWords.{IsDue}
use Rattle.tj_words.specs.LawParts.Telling.{tag_of}
use Rattle.tj_words.specs.SeatViews.KnownEntries.{HasSeen, MayStoreBits}
use Rattle.tj_words.specs.LawParts.LiveCount.{IsBacked}
use Rattle.tj_words.specs.SeatViews.SeatSteps.{Tells}
use Rattle.tj_words.specs.Calls.DrawViews.{MayWrite, without_due, wrote_word}

module _ {B : Type 0} where
  -- the seat is to write BITS of the cell, and this is what becomes of it
  pub record MayPutBits (program : Bool → B → Program B) (c n : ℕ) (v : View B) : Type 0 where
    pub due : IsDue c once.Bits v.dues
    pub about : About B
    pub is_about : v.about ≡ Some about
    pub entry : Entry
    pub may : MayStoreBits (program about.strict about.root) v.born v.known c entry n

  -- the seat is to write TAG of the cell, after BITS, which it has written; the shut that comes then is backed
  pub record MayPutTag (c n : ℕ) (v : View B) : Type 0 where
    pub due : IsDue c once.Tag v.dues
    pub bits_first : ¬ IsDue c once.Bits v.dues
    pub entry : Entry
    pub wrote : HasSeen v.wrote c entry
    pub tag : n ≡ tag_of entry
    pub backed : IsBacked v

  -- BITS of the cell is written
  abbrev pub wrote_bits : ℕ → Entry → View B → View B
  wrote_bits c e v = record v {
    steps = suc v.steps;
    dues = without_due c once.Bits v.dues;
    wrote = record { cell = c; entry = e } ∷ v.wrote;
  }

  -- TAG is written: this has become of the cell, and its head is to be shut
  abbrev pub wrote_tag : ℕ → Entry → View B → View B
  wrote_tag c e v = record v {
    steps = suc v.steps;
    dues = without_due c once.Tag v.dues;
    filled = record { cell = c; entry = e } ∷ v.filled;
    shuts = c ∷ v.shuts;
  }

  -- what the store of BITS makes of a view that may make it, and that of TAG
  abbrev pub PutsBits : (Bool → B → Program B) → ℕ → ℕ → View B → View B → Type 0
  PutsBits program c n v w = (m : MayPutBits program c n v) → w ≡ wrote_bits c m.entry v

  -- what the store of TAG makes of the view
  abbrev pub PutsTag : ℕ → ℕ → View B → View B → Type 0
  PutsTag c n v w = (m : MayPutTag c n v) → w ≡ wrote_tag c m.entry v

  -- the store of BITS
  abbrev pub bits_store : (Bool → B → Program B) → ℕ → Tells B
  bits_store program c st m n m' = (m'.1 ≡ m.1) × PutsBits program c st.first m.0 m'.0

  -- the store of TAG
  abbrev pub tag_store : ℕ → Tells B
  tag_store c st m n m' = (m'.1 ≡ m.1) × PutsTag c st.first m.0 m'.0

  -- a word that is written once may be stored: of the tree by the drawer of the cell, BITS and TAG by the seat that has
  -- closed it
  abbrev pub MayPutOnce : (Bool → B → Program B) → Once → ℕ → ℕ → View B → Type 0
  MayPutOnce program once.Tag c n v = MayPutTag c n v
  MayPutOnce program once.Bits c n v = MayPutBits program c n v
  MayPutOnce program once.Parent c n v = MayWrite c once.Parent n v
  MayPutOnce program once.Kid c n v = MayWrite c once.Kid n v
  MayPutOnce program once.Depth c n v = MayWrite c once.Depth n v
  MayPutOnce program once.Jump c n v = MayWrite c once.Jump n v

  -- what the store makes of the view
  abbrev pub PutsOnce : (Bool → B → Program B) → Once → ℕ → ℕ → View B → View B → Type 0
  PutsOnce program once.Tag c n v w = PutsTag c n v w
  PutsOnce program once.Bits c n v w = PutsBits program c n v w
  PutsOnce program once.Parent c n v w = w ≡ wrote_word c once.Parent n v
  PutsOnce program once.Kid c n v w = w ≡ wrote_word c once.Kid n v
  PutsOnce program once.Depth c n v w = w ≡ wrote_word c once.Depth n v
  PutsOnce program once.Jump c n v w = w ≡ wrote_word c once.Jump n v
