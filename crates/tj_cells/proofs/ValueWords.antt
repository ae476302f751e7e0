-- The value of a cell, by TAG and BITS as they were loaded.
use Rattle.tj_cells.proofs.Prelude.{Begins, Bool, Entry, Fill, IsCell, IsIn, List, None, Program, Reference, Some, Sort}
use Rattle.tj_cells.proofs.Prelude.{View, ap, begins_at, begins_trans, inl, inside, refl, sym, ℕ, ◌∙◌, ◌≡◌, ◌≢◌, ◌≤◌}
use Rattle.std.proofs.Common.{◌<◌, ◌^◌, length, Option, subst, arith, ⊎_elim}
use Rattle.tj_words.specs.SeatViews.SeenWords.{FindsBecome, FindsBits, FindsEntry, bits_cells}
use Rattle.tj_words.specs.LawParts.Telling.{BitsSay, sort_tag, tag_of}
use Rattle.tj_words.specs.Words.Values.{NamesCell, fill_in}
use Rattle.tj_words.specs.SeatViews.Views.{saw_bits, saw_entry}
use Rattle.tj_cells.specs.SeenValues.{SeenSays, SeesValue, cells_seen, saw_value, seen_in}
use Rattle.tj_cells.specs.declared.seen.Seen.{Seen}
use Rattle.tj_base.specs.declared.cell.Sort.TheVariants as sort
use Rattle.tj_body.specs.declared.point.Value.TheVariants as value
use Rattle.tj_body.specs.declared.point.Entry.TheVariants as entry
use Rattle.tj_record.specs.declared.record.Fill.TheVariants as fill
use Rattle.tj_cells.specs.declared.seen.Seen.TheVariants as seen

-- what the words stand for is a value, or that the cell is broken
pub seen_some : (o : Option Fill) → seen_in o ≢ seen.NotYet
seen_some (Some (fill.Num i)) e = let q : seen.Num i ≡ seen.NotYet = e in cc
seen_some (Some (fill.Promise c)) e = let q : seen.Promise c ≡ seen.NotYet = e in cc
seen_some (Some (fill.Task c)) e = let q : seen.Task c ≡ seen.NotYet = e in cc
seen_some None e = let q : seen.Broken ≡ seen.NotYet = e in cc

module _ (born : List Reference) (bits : ℕ) where
  -- where BITS is a cell, it is one of those that are there
  pub bits_small : (cells : ℕ) (e : Entry) → BitsSay born e bits → length born ≤ cells → NamesCell (tag_of e)
      → bits < cells
  bits_small cells entry.Broken s few c = absurd
      (⊎_elim (λ (q : 4 ≡ 2). omega (arith, q)) (λ (q : 4 ≡ 3). omega (arith, q)) c)
  bits_small cells (entry.Value (value.Num i)) s few c =
      absurd (⊎_elim (λ (q : 1 ≡ 2). omega (arith, q)) (λ (q : 1 ≡ 3). omega (arith, q)) c)
  bits_small cells (entry.Value (value.Ref r)) s few c = let l = inside born bits r s in omega arith

  -- what TAG and BITS stand for says what has become of the cell, and names the cell that BITS is
  pub seen_says : (e : Entry) → BitsSay born e bits → SeenSays born (seen_in (fill_in (tag_of e) bits)) e
  seen_says entry.Broken s = refl
  seen_says (entry.Value (value.Num i)) s = ap (λ n. entry.Value (value.Num n)) (sym s)
  seen_says (entry.Value (value.Ref r)) s = by r.sort refl where
    by : (k : Sort) → r.sort ≡ k → SeenSays born (seen_in (fill_in (sort_tag k) bits)) (entry.Value (value.Ref r))
    by sort.Promise k = (
      r.name,
      subst (λ (y : Reference). IsCell born bits y) (λ i. record { sort = k i; name = r.name }) s,
      (λ i. entry.Value (value.Ref (record { sort = k i; name = r.name }))),
    )
    by sort.Task k = (
      r.name,
      subst (λ (y : Reference). IsCell born bits y) (λ i. record { sort = k i; name = r.name }) s,
      (λ i. entry.Value (value.Ref (record { sort = k i; name = r.name }))),
    )

  pub seen_names : (e : Entry) → bits_cells e bits ≡ cells_seen (seen_in (fill_in (tag_of e) bits))
  seen_names entry.Broken = refl
  seen_names (entry.Value (value.Num i)) = refl
  seen_names (entry.Value (value.Ref r)) = by r.sort where
    by : (k : Sort) → bits_cells (entry.Value (value.Ref r)) bits ≡ cells_seen (seen_in (fill_in (sort_tag k) bits))
    by sort.Promise = refl
    by sort.Task = refl

module _ {B : Type 0} (program : Bool → B → Program B) (cells p tag bits : ℕ) (v0 v1 v2 : View B)
    (finds : FindsEntry program cells p tag v0 v1) (read : FindsBits cells p bits v1 v2) where
  abbrev found : FindsBecome program cells p (λ e born. saw_entry p e born v0) v0 v1
  found = finds.0

  abbrev e : Entry
  e = found.entry

  said : BitsSay read.born e bits × (read.named ≡ bits_cells e bits)
  said = read.says (record { cell = p; entry = e })
      (subst (λ (u : View B). IsIn (record { cell = p; entry = e }) u.filled) (sym found.view) (inl refl))
      refl

  -- BITS fits a cell where it is one
  pub bits_fit : cells < 2 ^ 32 → NamesCell tag → bits < 2 ^ 32
  bits_fit few names =
      let l = bits_small read.born bits cells e said.0 read.all.few (subst NamesCell finds.1 names) in omega arith

  pub sees_value : (o : Option Fill) (s : Seen) → o ≡ fill_in tag bits → s ≡ seen_in o
      → SeesValue program cells p s v0 v2
  sees_value o s is at = subst (λ z. SeesValue program cells p z v0 v2)
      (sym (at ∙ ap seen_in (is ∙ ap (λ n. fill_in n bits) finds.1))) (record {
        entry = e;
        born = read.born;
        reference = found.reference;
        begins = begins_trans v0.born found.born read.born found.begins on;
        all = read.all;
        is = begins_at found.born read.born on p found.reference found.is;
        becomes = found.becomes;
        same = found.same;
        says = seen_says read.born bits e said.0;
        view = read.view ∙ (ap (saw_bits read.named read.born) found.view
            ∙ ap (λ l. saw_value p e l read.born v0) (said.1 ∙ seen_names read.born bits e));
      })
    where
      on : Begins found.born read.born
      on = subst (λ b. Begins b read.born) (ap (λ (u : View B). u.born) found.view) read.begins

-- TAG of a cell of which something has become is at most 4
tag_of_small : (e : Entry) → tag_of e ≤ 4
tag_of_small entry.Broken = omega arith
tag_of_small (entry.Value (value.Num i)) = omega arith
tag_of_small (entry.Value (value.Ref r)) = by r.sort where
  by : (k : Sort) → sort_tag k ≤ 4
  by sort.Promise = omega arith
  by sort.Task = omega arith

-- so is one that was loaded, and wasn't 0
pub tag_small : {B : Type 0} {program : Bool → B → Program B} (cells p tag : ℕ) (v w : View B)
    → FindsEntry program cells p tag v w → tag ≤ 4
tag_small cells p tag v w finds = subst (λ n. n ≤ 4) (sym finds.1) (tag_of_small finds.0.entry)
