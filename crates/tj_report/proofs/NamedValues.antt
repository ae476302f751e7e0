-- What became of the cell with a name is what the meaning has for that name.
use Rattle.tj_report.proofs.Prelude.{IsCell, IsIn, List, Name, None, Option, Program, Reference, RestCell, Some, []}
use Rattle.tj_report.proofs.Prelude.{ap, arith, get_or, length, name_by, names, subst, sym, ℕ, ◌<◌, ◌∙◌, ◌≡◌}
use Rattle.tj_body.proofs.Lists.{to_map}
use Rattle.tj_body.specs.Rounds.{given, last_round}
use Rattle.tj_body.specs.declared.point.Entry.{Entry}
use Rattle.tj_words.proofs.Cells.CellNames.{cell_of_name}
use Rattle.tj_words.proofs.Stores.SeatLists.{in_of_index}
use Rattle.tj_words.specs.AtRest.RestMeaning.{AreWordsOf, tag_for}
use Rattle.tj_words.specs.AtRest.RestValues.{AreValuesOfMeaning, IsValueOf, RefersBelow, value_shown}
use Rattle.tj_record.specs.declared.record.Fill.{Fill}
use Rattle.tj_report.specs.Inner.NamedCells.{BecameHere, IsCellNamed, became_by}
use Rattle.tj_report.specs.Inner.ToldRecords.{IsFillBelow}
use Rattle.tj_report.specs.NamedValues.{IsOfName, became_of}
use Rattle.tj_report.specs.declared.named_values.Became.{Became}
use Rattle.tj_report.proofs.CellIndexes.{name_there, there, within}
use Rattle.tj_report.proofs.NamesBy.{names_are}
use Rattle.tj_report.proofs.ToldRecords.{fill_says}
use Rattle.tj_report.specs.declared.named_values.Became.TheVariants as became
use Rattle.tj_body.specs.declared.point.Entry.TheVariants as entry
use Rattle.tj_record.specs.declared.record.Fill.TheVariants as fill

-- a value that refers to one of the first cells names one of them
pub below : (n : ℕ) (f : Fill) → RefersBelow n (Some f) → IsFillBelow n f
below n (fill.Num i) h = tt
below n (fill.Promise c) h = h
below n (fill.Task c) h = h

-- what the words show of an entry is what became of its cell
became_is : (born : List Reference) (o : Option Entry) (f : Option Fill) (tag : ℕ) → tag ≡ tag_for o
    → IsValueOf born f o → became_by (names born) f tag ≡ became_of o
became_is born None f tag t v = λ j. became_by (names born) (v j) (t j)
became_is born (Some entry.Broken) f tag t v = λ j. became_by (names born) (v j) (t j)
became_is born (Some (entry.Value x)) f tag t v = ap (λ z. became_by (names born) z tag) v.1
    ∙ ap (λ s. became.Value s) (fill_says born v.0 x v.2).1

module _ {B : Type 0} (program : Program B) (N : ℕ) (shown : List RestCell) (words : List ℕ) (born : List Reference)
    (w : AreWordsOf program N born shown) (values : AreValuesOfMeaning program N shown words) (q : Name) where
  -- the name of a cell
  name_is : (c : ℕ) (r : Reference) → IsCell born c r → name_by shown c ≡ r.name
  name_is c r e = ap (λ l. get_or l c []) (names_are shown born w.named) ∙ (name_there born c r e).1

  pub is_of_name : (c : ℕ) (b : Became) → c < length shown → name_by shown c ≡ q → BecameHere shown words c b
      → IsOfName program N q (Some b)
  is_of_name c b l e here =
      let all = w.named.all in
      let r = there born c (omega arith) in
      let same : r.0.name ≡ q = sym (name_is c r.0 r.1) ∙ e in
      let value = values born w.named c r.0 r.1 in
      let tag = w.entries c here.0 r.0 here.1 r.1 in (
        (w.all q).0 (subst (λ n. IsIn n (names born)) same
            (to_map (λ (x : Reference). x.name) r.0 born (in_of_index born c r.0 r.1))),
        here.2 ∙ (ap (λ ns. became_by ns (value_shown words c) here.0.tag) (names_are shown born w.named)
            ∙ (became_is born (given program (last_round N) r.0.name) (value_shown words c) here.0.tag tag value
            ∙ ap (λ n. became_of (given program (last_round N) n)) same)),
      )

  pub none_of_name : IsCellNamed shown q None → IsOfName program N q None
  none_of_name none i =
      let k = cell_of_name born q ((w.all q).1 i) in
      let l = within born k.0 k.1 k.2 in let all = w.named.all in
      none k.0 (omega arith) (name_is k.0 k.1 k.2 ∙ sym k.3)
