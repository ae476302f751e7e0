-- A cell that its owner may give up and fill is given up and filled in three steps.
use Rattle.tj_cells.proofs.Prelude.{Bool, Fill, None, Program, Some, View, ap, became, fill_in, sym, tag_word, ℕ, ◌∙◌}
use Rattle.tj_cells.proofs.Prelude.{◌≡◌}
use Rattle.tj_body.specs.declared.point.Entry.TheVariants.{Value}
use Rattle.tj_words.specs.Calls.EntryViews.{MayPutBits, MayPutTag, PutsBits, PutsTag}
use Rattle.tj_words.specs.Calls.OwnerViews.{PutsOwner}
use Rattle.tj_cells.specs.FilledCells.{IsFilledWith, MayFill, MayGiveUp}
use Rattle.tj_cells.proofs.ClosingViews.{cell_became, fill_bits, fill_known, fill_tag, may_bits, may_tag, says_one}

module _ {B : Type 0} {program : Bool → B → Program B} {t p : ℕ} {f : Fill} {v v1 : View B} (gives : MayGiveUp t p v)
    (fills : MayFill program p f v) (gave : PutsOwner p None v v1) {tag : ℕ} (bits : ℕ)
    (tag_is : tag ≡ tag_word (Some f)) (bits_is : fill_in tag bits ≡ Some f) where
  words : fill_in (tag_word (Some f)) bits ≡ Some f
  words = ap (λ n. fill_in n bits) (sym tag_is) ∙ bits_is

  pub bits_next : MayPutBits program p bits v1
  bits_next = may_bits program t p v v1 gives gave (Value fills.value) fills.will bits
      (fill_bits v.born bits f fills.value fills.says words)
      (fill_known v.born bits v.known f fills.value fills.says words fills.knows)

  module _ {v2 : View B} (wrote : PutsBits program p bits v1 v2) where
    pub tag_next : MayPutTag p tag v2
    tag_next = may_tag program t p v v1 gives gave (Value fills.value) fills.will bits
        (fill_bits v.born bits f fills.value fills.says words)
        (fill_known v.born bits v.known f fills.value fills.says words fills.knows)
        v2 wrote tag (tag_is ∙ fill_tag v.born f fills.value fills.says)

    pub filled_next : {v3 : View B} → PutsTag p tag v2 v3 → IsFilledWith t p f v v3
    filled_next {v3} last x says = cell_became program t p v v1 gives gave (Value fills.value) fills.will bits
        (fill_bits v.born bits f fills.value fills.says words)
        (fill_known v.born bits v.known f fills.value fills.says words fills.knows)
        v2 wrote tag (tag_is ∙ fill_tag v.born f fills.value fills.says) v3 last
        ∙ ap (λ y. became t p (Value y) v) (says_one v.born f fills.value x fills.says says)
