-- The stores of BITS and TAG keep the rule.
use Rattle.tj_words.proofs.Prelude.{About, Allows, Becomes, Bool, Chains, Contents, Entry, HasSeen, IsDue, Key, Law}
use Rattle.tj_words.proofs.Prelude.{List, Meaning, Once, Option, Program, Rec, RecordsFit, Reference, Rule, SeatMe}
use Rattle.tj_words.proofs.Prelude.{SeatsHave, State, View, [], ap, arith, at_map, at_put, bits_in, contents_of}
use Rattle.tj_words.proofs.Prelude.{drawn_in, entries_are_one, get_elem?, hand_of, home_of, map, none, once_at, put}
use Rattle.tj_words.proofs.Prelude.{refl, seats_have, set, some, some-injective, step, subst, sym, tag_in, tag_of}
use Rattle.tj_words.proofs.Prelude.{without_due, ℕ, ◌<◌, ◌∙◌, ◌∷◌, ◌≡◌, ◌≢◌, ◌≤◌}
use Rattle.tj_words.proofs.Lemmas.{Stores, law_kept, once_stored, put_is, seats_same, step_allowed, tree_words_stored}
use Rattle.tj_words.specs.SeatViews.KnownEntries.{MayStoreBits}
use Rattle.tj_words.specs.Calls.EntryViews.{MayPutBits, MayPutTag, wrote_bits, wrote_tag, bits_store, tag_store}
use Rattle.tj_words.proofs.Meaning.LawMeant.{ground_of, known_of, law_meant, known_named}
use Rattle.tj_words.proofs.Stores.StoredWords.{put_word, put_word_word, put_word_cell, put_word_here}
use Rattle.tj_words.proofs.Waiters.ChainPhases.{chains_tag}
use Rattle.tj_words.proofs.SeatLoads.KnowLoads.{tag_some}
use Rattle.tj_words.proofs.Meaning.MeaningSteps.{tag_meant, bits_meant}
use Rattle.tj_words.proofs.Holders.RecordSteps.{tags_fit}
use Rattle.tj_words.proofs.Stores.WrittenOnce.{once_stores, seat_written}
use Rattle.tj_words.proofs.Meaning.MeaningGrows.{cell_on, bits_on}
use Rattle.tj_words.specs.declared.offsets.Once.TheVariants as once

-- TAG and BITS are two
bits_tag : once.Bits ≢ once.Tag
bits_tag q = cc

-- z with the fields of seats that had y, once seat id, which had v, has written the word f of c, and has w
abbrev written : {B : Type 0} → SeatsHave B → ℕ → ℕ → Once → View B → View B → List (List ℕ) → SeatsHave B → SeatsHave B
written y id c f v w shuts z = record z {
  seen = set y.seen id v.seen;
  dues = set y.dues id (without_due c f v.dues);
  born_seen = set y.born_seen id v.born;
  wrote = set y.wrote id w.wrote;
  filled = set y.filled id w.filled;
  shuts = shuts;
}

module _ {B : Type 0} (program : Bool → B → Program B) (key : Key B) (s : State (Option (Rec B)) (View B))
    (r : Rule program key s) (id c : ℕ) (v : View B) (at : get_elem? s.views id ≡ some v) where
  abbrev P : Program B
  P = program key.strict key.root.value

  abbrev x : Contents B
  x = contents_of s

  abbrev law : Law P key.cells x
  law = r.law

  -- what the seats have of its view
  mine : {A : Type 0} (f : View B → A) → get_elem? (map f s.views) id ≡ some (f v)
  mine f = at_map f s.views id v at

  -- the word f of the cell is n, and the seat has this
  abbrev entered : Once → ℕ → View B → List (List ℕ) → Contents B
  entered f n w shuts = record {
    words = record x.words { once = put_word x.words.once c f n };
    slots = x.slots;
    seats = written x.seats id c f v w shuts x.seats;
  }

  -- the law after the store of BITS
  law_bits : (e : Entry) (n : ℕ) → IsDue c once.Bits v.dues
      → MayStoreBits P v.born v.known c e n
      → Law P key.cells (entered once.Bits n (wrote_bits c e v) x.seats.shuts)
  law_bits e n due may = let cell = may.to_become in let more = law.meaning.begins id v.born (mine (λ u. u.born)) in
      law_kept law (record x.words { once = put_word x.words.once c once.Bits n })
      (written x.seats id c once.Bits v (wrote_bits c e v) x.seats.shuts x.seats) law.lots law.names
      (tree_words_stored law.tree_words id c once.Bits n v.dues (mine (λ u. u.dues)) (λ o. absurd o)
      (λ y i o. absurd o))
      (once_stored law.once_words id c once.Bits n v.dues (mine (λ u. u.dues)) due v.seen [] (mine (λ u. u.seen))
      (λ y i. absurd i) (λ q. absurd (bits_tag q)))
      (subst (λ tags. Chains tags x.words.head x.words.next x.words.phase x.seats.pushes x.seats.shuts
      x.seats.rests x.seats.closed x.seats.found) tags law.chains) law.live_count law.stops
      (subst (λ tags. RecordsFit tags x.words.phase (home_of x)) tags law.records_fit)
      (subst (λ tags. Meaning P key.cells x.words.count x.words.stop (drawn_in key.cells x) (hand_of x) law.born
      tags (λ d. put_word x.words.once c once.Bits n d once.Bits) (home_of x) (set x.seats.born_seen id v.born)
      (set x.seats.wrote id (record { cell = c; entry = e } ∷ v.wrote)) (set x.seats.filled id v.filled)) tags
      (bits_meant P key.cells {g = ground_of key.cells law.born x} {home = home_of x} {k = known_of x}
      (law_meant P key.cells x law) id v.born v.wrote v.filled (mine (λ u. u.born)) (mine (λ u. u.wrote))
      (mine (λ u. u.filled)) c e cell.0 (cell_on v.born law.born more c cell.0 cell.1) cell.2
      (λ d. put_word x.words.once c once.Bits n d once.Bits) n (put_word_here x.words.once c once.Bits n)
      (λ d q. put_word_cell x.words.once c once.Bits n d once.Bits q) (bits_on v.born law.born more e n may.bits_say)
      (known_named (ground_of key.cells law.born x) v.known (law.names.knows id v.known (mine (λ u. u.known))) e n
      may.knows)))
      law.facts
    where
      tags : tag_in x ≡ (λ d. put_word x.words.once c once.Bits n d once.Tag)
      tags j d = sym (put_word_word x.words.once c once.Bits n d once.Tag (λ q. bits_tag (sym q))) j

  -- the law after the store of TAG
  law_tag : (e : Entry) (n : ℕ) → IsDue c once.Tag v.dues
      → ¬ IsDue c once.Bits v.dues
      → HasSeen v.wrote c e
      → n ≡ tag_of e
      → Law P key.cells (entered once.Tag n (wrote_tag c e v) (set x.seats.shuts id (c ∷ v.shuts)))
  law_tag e n due bits_first has is = law_kept law (record x.words { once = put_word x.words.once c once.Tag n })
      (written x.seats id c once.Tag v (wrote_tag c e v) (set x.seats.shuts id (c ∷ v.shuts)) x.seats) law.lots
      law.names
      (tree_words_stored law.tree_words id c once.Tag n v.dues (mine (λ u. u.dues)) (λ o. absurd o)
      (λ y i o. absurd o))
      (once_stored law.once_words id c once.Tag n v.dues (mine (λ u. u.dues)) due v.seen [] (mine (λ u. u.seen))
      (λ y i. absurd i) (λ q. (some_tag, bits_first)))
      (subst (λ tags. Chains tags x.words.head x.words.next x.words.phase x.seats.pushes
      (set x.seats.shuts id (c ∷ v.shuts)) x.seats.rests x.seats.closed x.seats.found) tags
      (chains_tag law.chains c n id v.shuts some_tag (mine (λ u. u.shuts)))) law.live_count law.stops
      (tags_fit (tag_in x) x.words.phase (home_of x) law.records_fit (tag_now) stays)
      (subst (λ bits. Meaning P key.cells x.words.count x.words.stop (drawn_in key.cells x) (hand_of x) law.born
      tag_now bits (home_of x) (set x.seats.born_seen id v.born) (set x.seats.wrote id v.wrote)
      (set x.seats.filled id (record { cell = c; entry = e } ∷ v.filled))) same_bits
      (tag_meant P key.cells {g = ground_of key.cells law.born x} {home = home_of x} {k = known_of x}
      (law_meant P key.cells x law) id v.born v.wrote v.filled (mine (λ u. u.born)) (mine (λ u. u.wrote))
      (mine (λ u. u.filled)) tag_now c e has (put_word_here x.words.once c once.Tag n ∙ is)
      (λ d q. put_word_cell x.words.once c once.Tag n d once.Tag q)))
      law.facts
    where
      tag_now : ℕ → ℕ
      tag_now d = put_word x.words.once c once.Tag n d once.Tag

      some_tag : n ≢ 0
      some_tag z = tag_some e (sym is ∙ z)

      same_bits : bits_in x ≡ (λ d. put_word x.words.once c once.Tag n d once.Bits)
      same_bits j d = sym (put_word_word x.words.once c once.Tag n d once.Bits bits_tag) j

      tags : put (tag_in x) c n ≡ tag_now
      tags = sym (put_is (tag_in x) tag_now c n (put_word_here x.words.once c once.Tag n)
          (λ d q. put_word_cell x.words.once c once.Tag n d once.Tag q))

      stays : (d : ℕ) → tag_in x d ≢ 0 → tag_now d ≢ 0
      stays d s z = at_put (tag_in x) c n (λ d y. tag_in x d ≢ 0 → y ≢ 0) d (λ _. some_tag) (λ _ s. s) s
          (ap (λ f. f d) tags ∙ z)

-- TAG of what has become of a cell is at most 4
tag_small : (e : Entry) → tag_of e ≤ 4
tag_small e = grind arith

module _ {B : Type 0} (program : Bool → B → Program B) (key : Key B) where
  -- the cell that a seat is to write is to become one thing
  one_entry : (v : View B) (c : ℕ) (n : ℕ) (m k : MayPutBits program c n v) → m.entry ≡ k.entry
  one_entry v c n m k = (entries_are_one (program k.about.strict k.about.root) k.may.to_become.0.name m.entry k.entry
      becomes k.may.to_become.2).0
    where
      same_about : m.about ≡ k.about
      same_about = cc

      same_cell : m.may.to_become.0 ≡ k.may.to_become.0
      same_cell = some-injective m.may.to_become.0 k.may.to_become.0 (sym m.may.to_become.1 ∙ k.may.to_become.1)

      becomes : Becomes (program k.about.strict k.about.root) k.may.to_become.0.name m.entry
      becomes = subst (λ (a : About B). Becomes (program a.strict a.root) k.may.to_become.0.name m.entry) same_about
          (subst (λ (y : Reference). Becomes (program m.about.strict m.about.root) y.name m.entry) same_cell
          m.may.to_become.2)

  -- the store of BITS is one of the rule
  bits_stores : (s : State (Option (Rec B)) (View B)) (r : Rule program key s) (id c n : ℕ) (v : View B)
      → get_elem? s.views id ≡ some v
      → c < key.cells
      → (m : MayPutBits program c n v)
      → Stores program key s id (once_at c once.Bits) n (wrote_bits c m.entry v)
  bits_stores s r id c n v at l m = let y = seats_have s.views in let w = wrote_bits c m.entry v in
      let q = r.seats id v at in
      let same : m.about ≡ record { root = key.root.value; cells = key.cells; strict = key.strict } =
      q.about m.about m.is_about in
      once_stores program key s r id c n once.Bits l w (written y id c once.Bits v w y.shuts y) tt
      (seat_written key v c once.Bits w.shuts q q.backing.wakes) (r.pushed id v at)
      (ap (λ (z : SeatsHave B). written y id c once.Bits v w z.shuts z) (seats_same s.views id v at))
      (law_bits program key s r id c v at m.entry n m.due
      (subst (λ (a : About B). MayStoreBits (program a.strict a.root) v.born v.known c m.entry n) same m.may))

  pub bits_allowed : (slots id : ℕ) (me : SeatMe B) (c i n cell : ℕ) → c < key.cells → i ≡ once_at c once.Bits
      → cell ≡ c
      → MayPutBits program c n me.0
      → Allows (Rule program key) slots id me i (λ k. n) (λ k. bits_store program cell (step slots i n 0 none) me n)
  bits_allowed slots id me c i n cell l at e m = step_allowed program key slots id me i (λ k. n)
      (λ k. bits_store program cell (step slots i n 0 none) me n) (λ s r k. (
        wrote_bits c m.entry me.0,
        subst (λ j. Stores program key s id j n (wrote_bits c m.entry me.0)) (sym at)
            (bits_stores s r id c n me.0 k l m),
        (
          refl,
          subst (λ d. (h : MayPutBits program d n me.0) → wrote_bits c m.entry me.0 ≡ wrote_bits d h.entry me.0) (sym e)
              (λ h j. wrote_bits c (one_entry me.0 c n m h j) me.0),
        ),
      ))

  -- the store of TAG is one of the rule
  tag_stores : (s : State (Option (Rec B)) (View B)) (r : Rule program key s) (id c n : ℕ) (v : View B)
      → get_elem? s.views id ≡ some v
      → c < key.cells
      → (m : MayPutTag c n v)
      → Stores program key s id (once_at c once.Tag) n (wrote_tag c m.entry v)
  tag_stores s r id c n v at l m = let y = seats_have s.views in let w = wrote_tag c m.entry v in
      once_stores program key s r id c n once.Tag l w (written y id c once.Tag v w (set y.shuts id w.shuts) y)
      (subst (λ k. k ≤ 4) (sym m.tag) (tag_small m.entry))
      (seat_written key v c once.Tag w.shuts (r.seats id v at) (λ h. m.backed)) (r.pushed id v at)
      (ap (written y id c once.Tag v w (set y.shuts id w.shuts)) (seats_same s.views id v at))
      (law_tag program key s r id c v at m.entry n m.due m.bits_first m.wrote m.tag)

  -- what a seat has written of one cell is one thing
  one_written : (s : State (Option (Rec B)) (View B)) (r : Rule program key s) (id c : ℕ) (v : View B)
      → get_elem? s.views id ≡ some v
      → (d e : Entry) → HasSeen v.wrote c d → HasSeen v.wrote c e → d ≡ e
  one_written s r id c v at d e a b =
      let wrote = at_map (λ (u : View B). u.wrote) s.views id v at in
      let h = r.law.meaning.wrote_stands id v.wrote wrote (record { cell = c; entry = d }) a in
      let k = r.law.meaning.wrote_stands id v.wrote wrote (record { cell = c; entry = e }) b in
      (entries_are_one (program key.strict key.root.value) k.reference.name d e
      (subst (λ (y : Reference). Becomes (program key.strict key.root.value) y.name d)
      (some-injective h.reference k.reference (sym h.is ∙ k.is)) h.becomes) k.becomes).0

  pub tag_allowed : (slots id : ℕ) (me : SeatMe B) (c i n cell : ℕ) → c < key.cells → i ≡ once_at c once.Tag
      → cell ≡ c
      → MayPutTag c n me.0
      → Allows (Rule program key) slots id me i (λ k. n) (λ k. tag_store cell (step slots i n 0 none) me n)
  tag_allowed slots id me c i n cell l at e m = step_allowed program key slots id me i (λ k. n)
      (λ k. tag_store cell (step slots i n 0 none) me n) (λ s r k. (
        wrote_tag c m.entry me.0,
        subst (λ j. Stores program key s id j n (wrote_tag c m.entry me.0)) (sym at)
            (tag_stores s r id c n me.0 k l m),
        (
          refl,
          subst (λ d. (h : MayPutTag d n me.0) → wrote_tag c m.entry me.0 ≡ wrote_tag d h.entry me.0) (sym e)
              (λ h j. wrote_tag c (one_written s r id c me.0 k m.entry h.entry m.wrote h.wrote j) me.0),
        ),
      ))
