-- Where no cell is in hand, PARENT and KID of each cell that is drawn tell its maker and its number: so all lists of
-- what the cells are that these words allow have the same names.
use Rattle.std.proofs.Common.{◌≡◌, ◌≢◌, ◌<◌, ◌∙◌, ℕ, zero, suc, Bool, List, [], Option, None, length, get_or, sym, ap}
use Rattle.std.proofs.Common.{subst, arith}
use mathlib.Core.Option.{some-injective}
use Rattle.atomic_table.specs.Table.{State}
use Rattle.tj_base.specs.ForkOrder.{child}
use Rattle.tj_body.specs.History.{to_task}
use Rattle.tj_body.specs.Programs.{Program}
use Rattle.tj_body.specs.declared.point.Reference.{Reference}
use Rattle.tj_words.specs.AtRest.ClosedCells.{AreNamed, IsShown}
use Rattle.tj_words.specs.AtRest.ShownCells.{AreCellsOf, cell_of, maker_in}
use Rattle.tj_runs.specs.AlikeSeats.{SeatsKnowForGood}
use Rattle.tj_runs.specs.OwnRuns.{OwnRunsStand, StandsFrom}
use Rattle.tj_words.specs.CallLaws.RestedRuns.{Ruled, last_moment}
use Rattle.tj_words.specs.Law.{Rule}
use Rattle.tj_words.specs.LawParts.Contents.{contents_of, drawn_in, hand_of}
use Rattle.tj_words.specs.LawParts.TreeWords.{IsCell, parent_word}
use Rattle.tj_words.specs.Words.Offsets.{once_at, word}
use Rattle.tj_words.specs.declared.closed.RestCell.{RestCell}
use Rattle.tj_words.specs.declared.offsets.Once.TheVariants as once
use Rattle.tj_record.specs.declared.record.Rec.{Rec}
use Rattle.tj_words.specs.declared.table.Key.{Key}
use Rattle.tj_words.specs.declared.view.View.{View}
use Rattle.tj_words.proofs.Lemmas.{at_index, inside}
use Rattle.tj_laws.specs.ClosedNames.{KnownNamesAreClosed}
use Rattle.tj_laws.proofs.HandsAtRest.{none_in_hand}

-- the maker that is shown is that of the cell
maker_shown : (c maker w : ℕ) → c ≢ 0 → w ≡ parent_word c maker → (maker_in w).0 ≡ maker
maker_shown c maker w n e = grind arith

module _ {B : Type 0} {program : Bool → B → Program B} {key : Key B} {s : State (Option (Rec B)) (View B)}
    (r : Rule program key s) (no_hand : (c : ℕ) → hand_of (contents_of s) c ≡ None)
    (shown : List RestCell) (are : AreCellsOf s.words key.cells shown) (born : List Reference)
    (named : AreNamed shown born) where
  -- a cell that the law names has this name in the list
  abbrev IsNamedAlike : ℕ → Type 0
  IsNamedAlike c = (y : Reference) → IsCell r.law.born c y → (x : Reference) × IsCell born c x × (x.name ≡ y.name)

  root_alike : IsNamedAlike 0
  root_alike y e = let z = some-injective (to_task []) y (sym r.law.births.root ∙ e) in
      (to_task [], named.root, ap (λ (x : Reference). x.name) z)

  -- so is one whose maker is named alike
  next_alike : (n : ℕ) → ((j : ℕ) → j < suc n → IsNamedAlike j) → IsNamedAlike (suc n)
  next_alike n makers y e = (x, at, x_name)
    where
      c : ℕ
      c = suc n

      drawn : c < drawn_in key.cells (contents_of s)
      drawn = subst (λ z. c < z) r.law.births.all (inside r.law.born c y e)

      there : c < length shown
      there = subst (λ z. c < z) (sym are.all) drawn

      cell : IsShown shown c (cell_of s.words c)
      cell = are.each c there

      x : Reference
      x = get_or born c (to_task [])

      at : IsCell born c x
      at = at_index born c (to_task []) (subst (λ z. c < z) (sym named.all) there)

      not_root : c ≢ 0
      not_root q = omega arith

      maker : (maker_in (word s.words (once_at c once.Parent))).0 ≡ r.law.maker c
      maker = maker_shown c (r.law.maker c) (word s.words (once_at c once.Parent)) not_root
          (r.law.tree_words.written c y once.Parent (drawn, no_hand c) e tt)

      kid : word s.words (once_at c once.Kid) ≡ r.law.number c
      kid = r.law.tree_words.written c y once.Kid (drawn, no_hand c) e tt

      by_words : ((cell_of s.words c).parent.0 < c) × ((m : Reference) × IsCell born (cell_of s.words c).parent.0 m
          × (x.name ≡ child m.name (cell_of s.words c).kid))
      by_words = named.named c (cell_of s.words c) x not_root cell at

      by_law : (m : Reference) × IsCell r.law.born (r.law.maker c) m × (y.name ≡ child m.name (r.law.number c))
      by_law = r.law.births.named c y e not_root

      m : (z : Reference) × IsCell born (cell_of s.words c).parent.0 z × (z.name ≡ by_law.0.name)
      m = makers (cell_of s.words c).parent.0 by_words.0 by_law.0
          (subst (λ z. IsCell r.law.born z by_law.0) (sym maker) by_law.1)

      x_name : x.name ≡ y.name
      x_name = by_words.1.2
          ∙ ((λ i. child (some-injective by_words.1.0 m.0 (sym by_words.1.1 ∙ m.1) i).name (kid i))
          ∙ (ap (λ z. child z (r.law.number c)) m.2 ∙ sym by_law.2))

  below : (k c : ℕ) → c < k → IsNamedAlike c
  below zero c l = absurd (omega arith)
  below (suc k) zero l = root_alike
  below (suc k) (suc n) l = next_alike n (λ j p. below k j (omega (arith, p, l)))

  pub named_alike : (c : ℕ) → IsNamedAlike c
  named_alike c = below (suc c) c (omega arith)

pub known_names_closed : (B : Type 0) → OwnRunsStand B → SeatsKnowForGood B → KnownNamesAreClosed B
known_names_closed B own knows program limit strict root seat cells records e rests born named w more last id v at c r
    is =
    let k = knows program e.key w more st.moments id v at in
    let s = k.names c r is in
    let x = named_alike end.rule hands cells are born named c s.0 s.1 in (x.0, x.1, x.2 ∙ s.2)
  where
    st : StandsFrom program e.key e.last w more
    st = own program e.key e.last e.run w more last

    end : Ruled program e.key
    end = last_moment program e.key w more

    whole : Ruled program e.key
    whole = last_moment program e.key e.run.first e.run.later

    hands : (c : ℕ) → hand_of (contents_of end.now) c ≡ None
    hands c = subst (λ (s : State (Option (Rec B)) (View B)). hand_of (contents_of s) c ≡ None)
        (e.run.end ∙ sym st.last)
        (none_in_hand B program e.key e.run.first e.run.later e.run.start e.run.moments
        (subst (λ (s : State (Option (Rec B)) (View B)). (contents_of s).words.live ≡ 0) (sym e.run.end) rests) c)

    are : AreCellsOf end.now.words e.key.cells cells
    are = subst (λ (s : State (Option (Rec B)) (View B)). AreCellsOf s.words e.key.cells cells) (sym st.last)
        (subst (λ n. AreCellsOf e.last.words n cells) (sym e.key_cells) e.shown)
