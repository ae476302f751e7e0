-- The values that closed words show are those of the meaning.
use Rattle.tj_words.proofs.Prelude.{AreCellsOf, BitsSay, Bool, Entry, Fill, FillSays, IsCell, IsLast, Key, List}
use Rattle.tj_words.proofs.Prelude.{MayRest, None, Option, Program, Rec, Reference, RestCell, RestsAtMeaning, Rule}
use Rattle.tj_words.proofs.Prelude.{Some, Sort, State, Value, View, [], ap, arith, child, dite, get_elem?, given}
use Rattle.tj_words.proofs.Prelude.{last_round, length, once_at, refl, some, some-injective, subst, suc, sym, tag_in}
use Rattle.tj_words.proofs.Prelude.{tag_of, to_task, word, zero, ℕ, ℕ_discrete, ⊎_elim, ◌<◌, ◌^◌, ◌∙◌, ◌≡◌, ◌≢◌, ◌≤◌}
use Rattle.std.specs.Int.{cast_signed, w64}
use Rattle.tj_body.specs.History.{to_promise}
use Rattle.tj_base.specs.declared.cell.Sort.TheVariants as sort
use Rattle.tj_body.specs.declared.point.Entry.TheVariants as entry
use Rattle.tj_body.specs.declared.point.Value.TheVariants as value
use Rattle.tj_words.specs.AtRest.ClosedCells.{AreNamed}
use Rattle.tj_words.specs.AtRest.RestValues.{AreClosedWords, AreValuesOfMeaning, IsValueOf, RefersBelow, value_shown}
use Rattle.tj_words.specs.AtRest.ShownCells.{AreTableWords}
use Rattle.tj_words.specs.LawParts.Telling.{sort_tag}
use Rattle.tj_words.specs.Words.Values.{NamesCell, fill_in}
use Rattle.tj_words.specs.declared.offsets.Once.TheVariants.{Bits, Tag}
use Rattle.tj_record.specs.declared.record.Fill.TheVariants as fill
use Rattle.tj_words.proofs.Lemmas.{inside}
use Rattle.tj_words.proofs.SeatLoads.KnowLoads.{at_index}
use Rattle.tj_words.proofs.Meaning.RestingCells as cells
use Rattle.tj_words.proofs.Meaning.RestingMeaning as meaning

-- BITS under a TAG that says so is a cell
pub names_small : {cells n : ℕ} {words : List ℕ} → AreClosedWords cells n words → (c : ℕ) → c < n → n ≤ cells
    → NamesCell (word words (once_at c Tag)) → word words (once_at c Bits) < 2 ^ 32
names_small {cells} {n} {words} h c l few names =
    let bits = word words (once_at c Bits) in let most = h.table.few in
    ⊎_elim
    (λ e. let b : bits < n = subst (λ t. RefersBelow n (fill_in t bits)) e (h.refer c l) in omega arith)
    (λ e. let b : bits < n = subst (λ t. RefersBelow n (fill_in t bits)) e (h.refer c l) in omega arith)
    names

module _ (born : List Reference) where
  -- what TAG and BITS stand for is the value of the entry that they say
  entry_value : (e : Entry) (tag bits : ℕ) → tag ≡ tag_of e → BitsSay born e bits
      → IsValueOf born (fill_in tag bits) (Some e)
  entry_value entry.Broken tag bits t b = ap (λ n. fill_in n bits) t
  entry_value (entry.Value (value.Num i)) tag bits t b =
      (fill.Num (cast_signed w64 bits), ap (λ n. fill_in n bits) t, ap (λ k. value.Num k) (sym b))
  entry_value (entry.Value (value.Ref r)) tag bits t b = by r.sort refl where
    is : (k : Sort) → r.sort ≡ k → r ≡ record { sort = k; name = r.name }
    is k e = λ j. record { sort = e j; name = r.name }

    by : (k : Sort) → r.sort ≡ k → IsValueOf born (fill_in tag bits) (Some (entry.Value (value.Ref r)))
    by sort.Promise e = (
      fill.Promise (record { 0 = bits }),
      ap (λ n. fill_in n bits) (t ∙ ap sort_tag e),
      (r.name, subst (IsCell born bits) (is sort.Promise e) b, ap (λ z. value.Ref z) (is sort.Promise e)),
    )
    by sort.Task e = (
      fill.Task (record { 0 = bits }),
      ap (λ n. fill_in n bits) (t ∙ ap sort_tag e),
      (r.name, subst (IsCell born bits) (is sort.Task e) b, ap (λ z. value.Ref z) (is sort.Task e)),
    )

  -- such a value refers to one of the cells
  refers : (o : Option Entry) (f : Option Fill) → IsValueOf born f o → RefersBelow (length born) f
  refers None f h = subst (RefersBelow (length born)) (sym h) tt
  refers (Some entry.Broken) f h = subst (RefersBelow (length born)) (sym h) tt
  refers (Some (entry.Value v)) f h = subst (RefersBelow (length born)) (sym h.1) (by h.0 h.2) where
    by : (x : Fill) → FillSays born x v → RefersBelow (length born) (Some x)
    by (fill.Num i) s = tt
    by (fill.Promise c) s = inside born c.0 (to_promise s.0) s.1
    by (fill.Task c) s = inside born c.0 (to_task s.0) s.1

-- the cells have one list of references by PARENT, KID and PHASE
module _ (shown : List RestCell) (a b : List Reference) (x : AreNamed shown a) (y : AreNamed shown b) where
  -- one cell's reference, where those of the cells before it are one
  abbrev AreAlike : ℕ → Type 0
  AreAlike k = (c : ℕ) → c < k → (p q : Reference) → IsCell a c p → IsCell b c q → p ≡ q

  at_root : (p q : Reference) → IsCell a 0 p → IsCell b 0 q → p ≡ q
  at_root p q e f = some-injective p (to_task []) (sym e ∙ x.root) ∙ some-injective (to_task []) q (sym y.root ∙ f)

  behind : (c : ℕ) → c ≢ 0 → AreAlike c → (p q : Reference) → IsCell a c p → IsCell b c q → p ≡ q
  behind c z before p q e f =
      let i = inside a c p e in let all = x.all in
      let s = at_index shown c (omega arith) in
      let m = x.named c s.0 p z s.1 e in
      let o = y.named c s.0 q z s.1 f in
      let makers = before s.0.parent.0 m.0 m.1.0 o.1.0 m.1.1 o.1.1 in
      let named : p.name ≡ q.name = m.1.2 ∙ (ap (λ (r : Reference). child r.name s.0.kid) makers ∙ sym o.1.2) in
      let sorted : p.sort ≡ q.sort = x.sorts c s.0 p s.1 e ∙ sym (y.sorts c s.0 q s.1 f) in
      λ j. record { sort = sorted j; name = named j }

  alike : (k : ℕ) → AreAlike k
  alike zero c l p q e f = absurd (omega arith)
  alike (suc k) c l p q e f = dite (ℕ_discrete c 0)
      (λ z. at_root p q (subst (λ n. IsCell a n p) z e) (subst (λ n. IsCell b n q) z f))
      (λ z. behind c z (λ d m. alike k d (omega arith)) p q e f)

  same_cell : (c : ℕ) (p : Reference) → IsCell a c p → IsCell b c p
  same_cell c p e =
      let i = inside a c p e in let all = x.all in let every = y.all in
      let q = at_index b c (omega arith) in
      subst (IsCell b c) (sym (alike (suc c) c (omega arith) p q.0 e q.1)) q.1

  same_value : (o : Option Entry) (f : Option Fill) → IsValueOf a f o → IsValueOf b f o
  same_value None f h = h
  same_value (Some entry.Broken) f h = h
  same_value (Some (entry.Value v)) f h = (h.0, h.1, by h.0 h.2) where
    by : (z : Fill) → FillSays a z v → FillSays b z v
    by (fill.Num i) s = s
    by (fill.Promise c) s = (s.0, same_cell c.0 (to_promise s.0) s.1, s.2)
    by (fill.Task c) s = (s.0, same_cell c.0 (to_task s.0) s.1, s.2)

module _ {B : Type 0} {program : Bool → B → Program B} {key : Key B} {s : State (Option (Rec B)) (View B)}
    (r : Rule program key s) (id : ℕ) {v : View B} (at : get_elem? s.views id ≡ some v) (may : MayRest v)
    {shown : List RestCell} (are : AreCellsOf s.words key.cells shown) (slots : List (Option (Rec B)))
    (long : length s.homes ≡ length slots)
    (left : (k : ℕ) (y : Option (Rec B)) → get_elem? s.homes k ≡ some (some y) → get_elem? slots k ≡ some y) where
  abbrev P : Program B
  P = program key.strict key.root.value

  abbrev born : List Reference
  born = r.law.born

  named : AreNamed shown born
  named = cells.named r id at may are

  module _ (law : RestsAtMeaning P) (last : IsLast P) where
    meant : (c : ℕ) (z : Reference) → IsCell born c z
        → IsValueOf born (value_shown s.words c) (given P (last_round key.cells) z.name)
    meant c z e =
        let m = meaning.m r id at may are slots long left law last in
        let of = λ (o : Option Entry). IsValueOf born (value_shown s.words c) o in
        dite (ℕ_discrete (word s.words (once_at c Tag)) 0)
        (λ q. subst of (sym (m.no_entry c z e q)) (ap (λ n. fill_in n (word s.words (once_at c Bits))) q))
        (λ q. let w = m.entries c z e q in
        subst of (sym w.1)
        (entry_value born w.0 (word s.words (once_at c Tag)) (word s.words (once_at c Bits)) w.2 w.3))

    -- the value of each cell is that of the meaning
    pub values_meant : AreValuesOfMeaning P key.cells shown s.words
    values_meant all is c z e =
        same_value shown born all named is (given P (last_round key.cells) z.name) (value_shown s.words c)
        (meant c z (same_cell shown all born is named c z e))

    -- and refers to cells that were drawn
    pub words_closed : AreClosedWords key.cells (length shown) s.words
    words_closed = record {
      table = record { all = r.all_words; few = r.few_cells; codes = r.codes };
      refer = λ c l. let all = named.all in let z = at_index born c (omega arith) in
          subst (λ n. RefersBelow n (value_shown s.words c)) all
          (refers born (given P (last_round key.cells) z.0.name) (value_shown s.words c) (meant c z.0 z.1));
    }
