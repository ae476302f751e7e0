-- Steps on a word at which the seat also takes a slot, gives one back, or leaves them as they are.
use Rattle.tj_words.proofs.Prelude.{Act, Bool, IsPlain, Key, Option, Program, Rec, Rule, SeatMe, State, View, ap}
use Rattle.tj_words.proofs.Prelude.{get_elem?, gives, keeps, none, put_back, rest, set, some, subst, sym, takes, ℕ}
use Rattle.tj_words.proofs.Prelude.{◌∷◌, ◌≡◌}
use Rattle.atomic_table.specs.Table.{carried_after, stepped, Valid}
pub use Rattle.tj_words.proofs.Stores.StoreSteps.{StoresWith, rule_stores_with, store_word_with}

module _ {B : Type 0} (program : Bool → B → Program B) (key : Key B) where
  -- what a step makes of the seat that stores n at i, with some act on slots
  abbrev pub Acts : State (Option (Rec B)) (View B) → ℕ → SeatMe B → ℕ → ℕ → (SeatMe B → Type 0) → Type 0
  Acts s id m i n F = (w : View B) × (a : Act (Option (Rec B))) × Valid s.homes m.1 a
      × Rule program key (stepped s i n id m.1 w a) × F (w, carried_after m.1 a) × IsPlain a

  module _ (s : State (Option (Rec B)) (View B)) (r : Rule program key s) (id : ℕ) (m : SeatMe B) (i n : ℕ)
      (F : SeatMe B → Type 0) (w : View B) where
    -- the seat leaves the slots
    pub acts_keeping : StoresWith program key s s.homes id i n w → F (w, m.1) → Acts s id m i n F
    acts_keeping h f = (w, keeps, tt, rule_stores_with program key s r s.homes id i n w h, f, tt)

    -- the seat takes slot t, in which y lies
    pub acts_taking : (t : ℕ) (y : Option (Rec B)) → get_elem? s.homes t ≡ some (some y)
        → StoresWith program key s (set s.homes t none) id i n w → F (w, (t, y) ∷ m.1)
        → Acts s id m i n F
    acts_taking t y lies h f =
        (w, takes t y, lies, rule_stores_with program key s r (set s.homes t none) id i n w h, f, tt)

    -- the seat gives the slot back that it took last, with y: that of t
    pub acts_giving : (t : ℕ) (y : Option (Rec B)) → m.1 ≡ (t, y) ∷ rest m.1
        → StoresWith program key s (set s.homes t (some y)) id i n w → F (w, rest m.1) → Acts s id m i n F
    acts_giving t y front h f = (
      w,
      gives,
      tt,
      subst (λ z. Rule program key record { words = set s.words i n; homes = z; views = set s.views id w })
          (sym (ap (put_back s.homes) front)) (rule_stores_with program key s r (set s.homes t (some y)) id i n w h),
      f,
      tt,
    )
