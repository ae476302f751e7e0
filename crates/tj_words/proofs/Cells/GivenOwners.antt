-- The first store of OWN of a cell in hand shows nothing: its owner is the one that was shown.
use Rattle.tj_words.proofs.Prelude.{CellStage, Contents, Custody, Hand, IsMarkedRight, Law, None, Option, Program, Some}
use Rattle.tj_words.proofs.Prelude.{Sort, ap, arith, at_put, false, first_owner, get_elem?, hand_of, hand_phase}
use Rattle.tj_words.proofs.Prelude.{held_of, home_of, made_by, made_of, making, owner_shown, put, put_else, refl, some}
use Rattle.tj_words.proofs.Prelude.{stage_shown, subst, sym, ℕ, ◌+◌, ◌∙◌, ◌≡◌, ◌≢◌}
use Rattle.tj_words.proofs.Lemmas.{GivesOwner, at_two, held_here, made_held_by, makes_one, parts_of, put_kept}
use Rattle.tj_words.proofs.Events.QuietCells.{quiet_parts, stage_does, IsQuiet}
use Rattle.tj_words.proofs.Stores.WordStores.{hand_here, not_root}
use Rattle.tj_words.proofs.Events.OwnerEvents.{new_fresh}
use Rattle.tj_base.specs.declared.cell.Sort.TheVariants as sort

module _ {B : Type 0} {program : Program B} {cells : ℕ} {x : Contents B} (r : Law program cells x) (id : ℕ) (h : Hand)
    (has : get_elem? x.seats.hands id ≡ some (Some h)) where
  abbrev c : ℕ
  c = h.cell

  abbrev t : ℕ
  t = h.maker

  abbrev o : ℕ
  o = first_owner h.sort t c

  here : hand_of x c ≡ Some h
  here = hand_here r id h has

  module _ (y : Contents B) (s : GivesOwner cells x y id t c h) where
    abbrev held : ℕ → Option (Custody B)
    held = put (put (held_of x) c s.new_held) t (Some s.after_it)

    -- the maker has made as many things as with the one in hand, and each other task as many as before
    pub given_made : (d : ℕ) → made_by (held d) (home_of x d) + put (making x.seats.hands) t 0 d ≡ made_of x d
    given_made d = at_two (put (held_of x) c s.new_held) (making x.seats.hands) t (Some s.after_it) 0
        (λ d i k. made_by i (home_of x d) + k ≡ made_of x d) d
        (let a = s.made in let b = made_held_by r id t s.before_it s.held in
        let e : making x.seats.hands t ≡ 1 = makes_one x.seats.hands id h has in omega arith)
        (λ _. ap (λ k. k + making x.seats.hands d)
        (put_kept (λ d i. made_by i (home_of x d)) (held_of x) c s.new_held s.new_made d))

    stage_in : (q : Sort) → h.sort ≡ q → (i : Option (Custody B))
        → stage_shown c None (Some o) (x.words.phase c) i (home_of x c)
        ≡ stage_shown c (Some h) (x.words.own c) (x.words.phase c) (held_of x c) (home_of x c)
    stage_in sort.Promise e i = (λ j. stage_shown c None (Some o) (s.marked e j) i (home_of x c))
        ∙ (λ j. stage_shown c (Some (record h { sort = sym e j })) (x.words.own c) (x.words.phase c) (held_of x c)
        (home_of x c))
    stage_in sort.Task e i =
        let q : h.marked ≡ false = subst (λ s. IsMarkedRight s h.marked) e (r.hands.each id h has).marked_right in
        (λ j. stage_shown c None (Some o) (((r.hands.each id h has).marked ∙ ap hand_phase q) j) i (home_of x c))
        ∙ (new_fresh c (not_root r id h has)
        ∙ (λ j. stage_shown c (Some (record h { sort = sym e j })) (x.words.own c) (x.words.phase c) (held_of x c)
        (home_of x c)))

    -- what is shown of a cell, if this is had for it
    abbrev shows : ℕ → Option (Custody B) → CellStage
    shows d i = stage_shown d (hand_of x d) (x.words.own d) (x.words.phase d) i (home_of x d)

    -- the maker does what it did, and what is had for any other task but the cell is as it was
    stage_else : (d : ℕ) → d ≢ c → shows d (held d) ≡ shows d (held_of x d)
    stage_else d z = at_put (put (held_of x) c s.new_held) t (Some s.after_it)
        (λ d i. shows d i ≡ shows d (held_of x d)) d
        (stage_does t (hand_of x t) (x.words.own t) (x.words.phase t) s.before_it s.after_it (home_of x t) s.does_same
        ∙ sym (ap (shows t) (held_here r id t s.before_it s.held)))
        (λ _. ap (shows d) (put_else (held_of x) c s.new_held d z))

    pub given_shown : IsQuiet cells x y
    given_shown = quiet_parts cells x y (record (parts_of cells x) {
      hand = put (hand_of x) c None;
      making = put (making x.seats.hands) t 0;
      own = put x.words.own c (Some o);
      held = held;
    }) s.parts record {
      drawn = refl;
      made = given_made;
      owner = λ d. at_two (hand_of x) x.words.own c None (Some o)
          (λ d z w. owner_shown d z w ≡ owner_shown d (hand_of x d) (x.words.own d)) d
          (sym (ap (λ z. owner_shown c z (x.words.own c)) here)) (λ _. refl);
      stage = λ d. at_two (hand_of x) x.words.own c None (Some o)
          (λ d z w. stage_shown d z w (x.words.phase d) (held d) (home_of x d) ≡ shows d (held_of x d)) d
          (stage_in h.sort refl (held c)
          ∙ sym (ap (λ z. stage_shown c z (x.words.own c) (x.words.phase c) (held_of x c) (home_of x c)) here))
          (stage_else d);
      others = refl;
      cleared = refl;
    }
