-- A step after which each cell shows what it showed shows nothing.
use Rattle.tj_words.proofs.Prelude.{Contents, Custody, Hand, List, Option, Phase, Rec, Reference, Some, ap, arith}
use Rattle.tj_words.proofs.Prelude.{blank, cond, hand_of, held_of, home_of, made_by, mark, nat_lt, owner_shown, put}
use Rattle.tj_words.proofs.Prelude.{reference_of, refl, stage_shown, sym, ℕ, ◌+◌, ◌∙◌, ◌≡◌}
use Rattle.tj_words.proofs.Lemmas.{Parts, ShowsNothing, at_two, parts_of, put_kept, shown_by}
use Rattle.tj_words.specs.declared.phase.Phase.TheVariants as phase

-- what the contents show is as it was, whatever the cells are
abbrev pub IsQuiet : {B : Type 0} → ℕ → Contents B → Contents B → Type 0
IsQuiet cells x y = (born : List Reference) (maker : ℕ → ℕ) → ShowsNothing cells born maker x y

module _ {B : Type 0} (x y : Parts B) where
  -- each cell shows what it showed, and so do OTHERS and the waits cleared
  pub record ShowsSame : Type 0 where
    pub drawn : y.drawn ≡ x.drawn
    pub made : (c : ℕ) → made_by (y.held c) (y.home c) + y.making c ≡ made_by (x.held c) (x.home c) + x.making c
    pub owner : (c : ℕ) → owner_shown c (y.hand c) (y.own c) ≡ owner_shown c (x.hand c) (x.own c)
    pub stage : (c : ℕ) → stage_shown c (y.hand c) (y.own c) (y.phase c) (y.held c) (y.home c)
        ≡ stage_shown c (x.hand c) (x.own c) (x.phase c) (x.held c) (x.home c)
    pub others : y.others ≡ x.others
    pub cleared : y.cleared ≡ x.cleared

  pub same_shown : ShowsSame → (born : List Reference) (maker : ℕ → ℕ) → shown_by born maker y ≡ shown_by born maker x
  same_shown s born maker j = record {
    count = s.drawn j;
    cells = λ c. cond (nat_lt c (s.drawn j)) (record {
      maker = maker c;
      name = (reference_of born c).name;
      made = s.made c j;
      owner = s.owner c j;
      stage = s.stage c j;
    }) blank;
    others = s.others j;
    cleared = s.cleared j;
  }

module _ {B : Type 0} (cells : ℕ) (x y : Contents B) where
  -- parts that show the same, of which a step makes those of the contents
  pub quiet_parts : (z : Parts B) → parts_of cells y ≡ z → ShowsSame (parts_of cells x) z → IsQuiet cells x y
  quiet_parts z e s born maker = ap (shown_by born maker) e ∙ same_shown (parts_of cells x) z s born maker

  -- a promise in hand is marked: it shows its maker and its sort
  pub mark_shown : (c : ℕ) (h : Hand) → hand_of x c ≡ Some h
      → parts_of cells y ≡ record (parts_of cells x) {
        hand = put (hand_of x) c (mark (Some h));
        phase = put x.words.phase c phase.Promise;
      } → IsQuiet cells x y
  mark_shown c h here e = quiet_parts (record (parts_of cells x) {
    hand = put (hand_of x) c (mark (Some h));
    phase = put x.words.phase c phase.Promise;
  }) e record {
    drawn = refl;
    made = λ d. refl;
    owner = put_kept (λ d o. owner_shown d o (x.words.own d)) (hand_of x) c (mark (Some h))
        (ap (λ o. owner_shown c o (x.words.own c)) (sym here));
    stage = λ d. at_two (hand_of x) x.words.phase c (mark (Some h)) phase.Promise
        (λ d o q. stage_shown d o (x.words.own d) q (held_of x d) (home_of x d)
        ≡ stage_shown d (hand_of x d) (x.words.own d) (x.words.phase d) (held_of x d) (home_of x d)) d
        (ap (λ o. stage_shown c o (x.words.own c) (x.words.phase c) (held_of x c) (home_of x c)) (sym here))
        (λ _. refl);
    others = refl;
    cleared = refl;
  }

-- what a cell shows of the seat that holds it is what the task does
pub stage_does : {B : Type 0} (c : ℕ) (z : Option Hand) (w : Option ℕ) (p : Phase) (k k' : Custody B)
    (home : Option (Rec B)) → k'.does ≡ k.does
    → stage_shown c z w p (Some k') home ≡ stage_shown c z w p (Some k) home
stage_does c z w p k k' home e = grind arith
