-- The view of a seat as it closes a cell, step by step.
use Rattle.tj_cells.proofs.Prelude.{All, BitsSay, Bool, Custody, Due, Entry, Fill, IsCell, IsDue, IsIn, List, None}
use Rattle.tj_cells.proofs.Prelude.{Program, Reference, Some, View, ap, became, due_still, fill_in, held_in, inl, inr}
use Rattle.tj_cells.proofs.Prelude.{noted_here, refl, same_word, subst, sym, tag_of, tag_word, ℕ, ◌∙◌, ◌∷◌, ◌≡◌, ◌≢◌}
use mathlib.Core.Option.{some-injective}
use Rattle.std.specs.Int.{cast_signed, w64}
use Rattle.tj_body.specs.History.{to_task, to_promise}
use Rattle.tj_body.specs.declared.point.Value.{Value}
use Rattle.tj_words.specs.LawParts.LiveCount.{IsBacked}
use Rattle.tj_words.specs.SeatViews.KnownEntries.{HasSeen, MayStoreBits, NamesOneOf}
use Rattle.tj_words.specs.LawParts.Telling.{FillSays}
use Rattle.tj_words.specs.Calls.EntryViews.{MayPutBits, MayPutTag, PutsBits, PutsTag, wrote_bits, wrote_tag}
use Rattle.tj_words.specs.Calls.OwnerViews.{PutsOwner, closed_cell, gave_up}
use Rattle.tj_words.proofs.Stores.OnceStores.{due_else}
use Rattle.tj_cells.specs.FilledCells.{MayGiveUp, WillBecome, cells_named}
use Rattle.tj_cells.proofs.DueWords.{due_of, both_written}
use Rattle.tj_body.specs.declared.point.Value.TheVariants as value
use Rattle.tj_body.specs.declared.point.Entry.TheVariants as entry
use Rattle.tj_words.specs.declared.offsets.Once.TheVariants as once
use Rattle.tj_record.specs.declared.record.Fill.TheVariants as fill

-- the value of a fill is one
pub says_one : (born : List Reference) (f : Fill) (x y : Value) → FillSays born f x → FillSays born f y → x ≡ y
says_one born (fill.Num i) x y a b = a ∙ sym b
says_one born (fill.Promise c) x y a b = a.2 ∙ (ap (λ r. value.Ref r)
    (some-injective (to_promise a.0) (to_promise b.0) (sym a.1 ∙ b.1)) ∙ sym b.2)
says_one born (fill.Task c) x y a b = a.2 ∙ (ap (λ r. value.Ref r)
    (some-injective (to_task a.0) (to_task b.0) (sym a.1 ∙ b.1)) ∙ sym b.2)

-- TAG and BITS of a fill are those of its value
pub fill_tag : (born : List Reference) (f : Fill) (x : Value) → FillSays born f x
    → tag_word (Some f) ≡ tag_of (entry.Value x)
fill_tag born (fill.Num i) x s = ap (λ y. tag_of (entry.Value y)) (sym s)
fill_tag born f x s = ap (λ y. tag_of (entry.Value y)) (sym s.2)

module _ (born : List Reference) (bits : ℕ) where
  pub fill_bits : (f : Fill) (x : Value) → FillSays born f x → fill_in (tag_word (Some f)) bits ≡ Some f
      → BitsSay born (entry.Value x) bits
  fill_bits (fill.Num i) x s e = subst (λ y. BitsSay born (entry.Value y) bits) (sym s)
      (let q : Some (fill.Num (cast_signed w64 bits)) ≡ Some (fill.Num i) = e in cc)
  fill_bits (fill.Promise c) x s e = subst (λ y. BitsSay born (entry.Value y) bits) (sym s.2)
      (subst (λ n. IsCell born n (to_promise s.0))
      (let q : Some (fill.Promise (record { 0 = bits })) ≡ Some (fill.Promise c) = e in let z : record { 0 = bits }
      ≡ c = cc in
      ap (λ y. y.0) (sym z)) s.1)
  fill_bits (fill.Task c) x s e = subst (λ y. BitsSay born (entry.Value y) bits) (sym s.2)
      (subst (λ n. IsCell born n (to_task s.0))
      (let q : Some (fill.Task (record { 0 = bits })) ≡ Some (fill.Task c) = e in let z : record { 0 = bits } ≡ c = cc
      in
      ap (λ y. y.0) (sym z)) s.1)

  -- the cell that it names is known
  pub fill_known : (known : List ℕ) (f : Fill) (x : Value) → FillSays born f x → fill_in (tag_word (Some f)) bits ≡ Some
      f
      → All (λ c. IsIn c known) (cells_named f) → NamesOneOf known (entry.Value x) bits
  fill_known known (fill.Num i) x s e k = subst (λ y. NamesOneOf known (entry.Value y) bits) (sym s) tt
  fill_known known (fill.Promise c) x s e k = subst (λ y. NamesOneOf known (entry.Value y) bits) (sym s.2)
      (let q : Some (fill.Promise (record { 0 = bits })) ≡ Some (fill.Promise c) = e in let z : record { 0 = bits }
      ≡ c = cc in
      subst (λ n. IsIn n known) (ap (λ y. y.0) (sym z)) (k c.0 (inl refl)))
  fill_known known (fill.Task c) x s e k = subst (λ y. NamesOneOf known (entry.Value y) bits) (sym s.2)
      (let q : Some (fill.Task (record { 0 = bits })) ≡ Some (fill.Task c) = e in let z : record { 0 = bits } ≡ c = cc
      in
      subst (λ n. IsIn n known) (ap (λ y. y.0) (sym z)) (k c.0 (inl refl)))

module _ {B : Type 0} (program : Bool → B → Program B) (t p : ℕ) (v0 v1 : View B) (owner : MayGiveUp t p v0)
    (closes : PutsOwner p None v0 v1) where
  pub closed_is : v1 ≡ closed_cell t p v0
  closed_is = closes owner.0 ∙ ap (λ u. closed_cell u p v0) owner.1

  abbrev pub k : Custody B
  k = owner.0.owner.custody

  pub held : held_in v0.tasks t ≡ Some k
  held = subst (λ u. held_in v0.tasks u ≡ Some k) owner.1 owner.0.owner.held

  -- BITS of the entry that the cell is to have
  module _ (e : Entry) (will : WillBecome program p e v0) (bits : ℕ) (say : BitsSay v0.born e bits)
      (names : NamesOneOf v0.known e bits) where
    abbrev pub may_bits : MayPutBits program p bits v1
    may_bits = record {
      due = subst (λ (u : View B). IsDue p once.Bits u.dues) (sym closed_is) (inl refl);
      about = will.about;
      is_about = ap (λ (u : View B). u.about) closed_is ∙ will.is_about;
      entry = e;
      may = subst (λ (u : View B). MayStoreBits (program will.about.strict will.about.root) u.born u.known p e bits)
          (sym closed_is) (record { to_become = will.becomes; bits_say = say; knows = names });
    }

    module _ (v2 : View B) (writes : PutsBits program p bits v1 v2) where
      pub wrote_is : v2 ≡ wrote_bits p e (closed_cell t p v0)
      wrote_is = writes may_bits ∙ ap (wrote_bits p e) closed_is

      pub bits_apart : once.Tag ≢ once.Bits
      bits_apart q = cc

      -- the words that were due as the cell was closed
      abbrev pub dues_then : List Due
      dues_then = due_of p once.Bits ∷ due_of p once.Tag ∷ v0.dues

      -- TAG after it
      abbrev pub may_tag : (tag : ℕ) → tag ≡ tag_of e → MayPutTag p tag v2
      may_tag tag z = record {
        due = subst (λ (u : View B). IsDue p once.Tag u.dues) (sym wrote_is)
            (due_still p once.Bits dues_then (due_of p once.Tag) (inr (inl refl))
            (λ q. bits_apart (same_word p p once.Bits once.Tag q)));
        bits_first = subst (λ (u : View B). ¬ IsDue p once.Bits u.dues) (sym wrote_is)
            (λ i. (due_else p once.Bits dues_then (due_of p once.Bits) i).1 refl);
        entry = e;
        wrote = subst (λ (u : View B). HasSeen u.wrote p e) (sym wrote_is) (inl refl);
        tag = z;
        backed = subst (λ (u : View B). IsBacked u) (sym wrote_is)
            (inr (t, gave_up p k, noted_here v0.tasks t k (gave_up p) held refl, tt));
      }

      pub cell_became : (tag : ℕ) → tag ≡ tag_of e → (v3 : View B) → PutsTag p tag v2 v3 → v3 ≡ became t p e v0
      cell_became tag z v3 last = last (may_tag tag z) ∙ (ap (wrote_tag p e) wrote_is
          ∙ (λ i. record (became t p e v0) { dues = both_written p once.Bits once.Tag v0.dues bits_apart i }))
