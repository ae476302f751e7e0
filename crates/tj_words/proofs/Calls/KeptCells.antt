-- Makers and numbers of cells stay where hands and the numbers of things made do, and PARENT and KID of the cells that
-- are there: so they stay at each step by which one task does something else, or a cell has another owner.
use Rattle.tj_words.proofs.Prelude.{Contents, Custody, IsThere, Option, Phase, Rec, ap, drawn_in, hand_of, held_of}
use Rattle.tj_words.proofs.Prelude.{home_of, inl, made_by, made_of, making, refl, total, ℕ, ◌+◌, ◌∙◌, ◌≡◌}
use Rattle.tj_words.proofs.Lemmas.{IsMoved, KeepsCells, Parts, at_two, parts_of}
use Rattle.tj_words.proofs.Events.ShownParts.{moved_parts}
use Rattle.tj_words.specs.declared.offsets.Once.TheVariants as once

module _ {B : Type 0} (cells : ℕ) (x y : Contents B) where
  pub kept : ((c : ℕ) → hand_of y c ≡ hand_of x c) → ((c : ℕ) → made_of y c ≡ made_of x c)
      → ((c : ℕ) → IsThere (drawn_in cells x) (hand_of x) c
      → (y.words.once c once.Parent ≡ x.words.once c once.Parent) × (y.words.once c once.Kid ≡ x.words.once c once.Kid))
      → KeepsCells cells x y
  kept hands made once = record {
    there = λ c i. let w = once c i in record { out = hands c ∙ i.1; parent_is = w.0; kid_is = w.1 };
    hands = λ c h e.
        inl (record { hand = h; in_hand = hands c ∙ e; maker_is = refl; made_is = made h.maker });
  }

  -- where no word is changed that is written once
  pub kept_words : ((c : ℕ) → hand_of y c ≡ hand_of x c) → ((c : ℕ) → made_of y c ≡ made_of x c)
      → y.words.once ≡ x.words.once → KeepsCells cells x y
  kept_words hands made e =
      kept hands made (λ c i. (ap (λ z. z c once.Parent) e, ap (λ z. z c once.Kid) e))

  -- where these are the parts that show it
  pub kept_parts : (z : Parts B) → parts_of cells y ≡ z → ((c : ℕ) → z.hand c ≡ hand_of x c)
      → ((c : ℕ) → made_by (z.held c) (z.home c) + z.making c ≡ made_of x c)
      → y.words.once ≡ x.words.once → KeepsCells cells x y
  kept_parts z e hands made = kept_words (λ c. ap (λ (p : Parts B). p.hand c) e ∙ hands c)
      (λ c. ap (λ (p : Parts B). made_by (p.held c) (p.home c) + p.making c) e ∙ made c)

  -- and so where one task moves
  pub kept_moved : {t : ℕ} {p : Phase} {held : Option (Custody B)} {home : Option (Rec B)}
      → IsMoved cells x y t p held home → y.words.once ≡ x.words.once → KeepsCells cells x y
  kept_moved {t} {p} {held} {home} m = kept_parts
      (record (moved_parts (parts_of cells x) t p held home) {
        others = y.words.others;
        cleared = total y.seats.cleared;
      }) m.parts (λ c. refl)
      (λ c. at_two (held_of x) (home_of x) t held home (λ d o q. made_by o q + making x.seats.hands d ≡ made_of x d) c
      (ap (λ k. k + making x.seats.hands t) m.made) (λ n. refl))
