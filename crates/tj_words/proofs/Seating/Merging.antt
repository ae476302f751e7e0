-- A merge keeps the rule of the table.
use Rattle.tj_words.proofs.Prelude.{All, Begins, Bool, Contents, IsCell, IsIn, IsSeat, IsStored, Key, Law, List, Lots}
use Rattle.tj_words.proofs.Prelude.{None, OfSeat, Option, Program, Rec, Reference, Rule, SeatsHave, Stops, View, [], ap}
use Rattle.tj_words.proofs.Prelude.{arith, at_longer, at_map, both, cond, contents_of, dite, false, get_elem?, in_left}
use Rattle.tj_words.proofs.Prelude.{in_right, inl, inr, length, ltb-false, ltb-true, map, nat_lt, refl, seats_have, set}
use Rattle.tj_words.proofs.Prelude.{set_again, set_else, some, some-injective, spent, subst, suc, sym, true, words_say}
use Rattle.tj_words.proofs.Prelude.{zero, ℕ, ℕ_discrete, ⊎_elim, ◌++◌, ◌+◌, ◌<◌, ◌||◌, ◌∙◌, ◌∷◌, ◌≡◌, ◌≢◌, ◌≤◌, ◌⊎◌}
use Rattle.tj_words.proofs.Lemmas.{IsSo, each_set, inside, knows_so, law_kept, of_seat_else, of_seat_here, total_set}
use Rattle.atomic_table.specs.Table.{State, Joins}
use Rattle.tj_words.specs.SeatViews.Views.{longer, IsIdle}
use Rattle.tj_words.proofs.SeatLoads.Learning.{knowing_of, law_learns, learns, seats_learn}
use Rattle.tj_words.proofs.Stores.SeatContents.{rule_views, seats_same, seats_set, set_seats}
use Rattle.tj_words.proofs.Seating.Appending.{idle_backing, unused_lot}
pub use Rattle.tj_words.proofs.Stores.SeatLists.{all_append}

-- an element of a beginning is one of the list, and the other way round where the beginning is long enough
pub begins_at : {A : Type 0} (xs l : List A) → Begins xs l → (c : ℕ) (x : A) → get_elem? xs c ≡ some x
    → get_elem? l c ≡ some x
begins_at xs l b c x e = subst (λ z. get_elem? z c ≡ some x) (sym b.1) (at_longer xs b.0 c x e)

at_front : {A : Type 0} (xs more : List A) (c : ℕ) (x : A) → c < length xs → get_elem? (xs ++ more) c ≡ some x
    → get_elem? xs c ≡ some x
at_front [] more c x h e = absurd (omega arith)
at_front (y ∷ ys) more zero x h e = e
at_front (y ∷ ys) more (suc c) x h e = at_front ys more c x (omega arith) e

pub begins_back : {A : Type 0} (xs l : List A) → Begins xs l → (c : ℕ) (x : A) → c < length xs
    → get_elem? l c ≡ some x
    → get_elem? xs c ≡ some x
begins_back xs l b c x h e = at_front xs b.0 c x h (subst (λ z. get_elem? z c ≡ some x) b.1 e)

-- the longer of two beginnings of a list begins it too, and has what either of them has
module _ (xs ys l : List Reference) (a : Begins xs l) (b : Begins ys l) where
  pub begins_longer : Begins (longer xs ys) l
  begins_longer = by (nat_lt (length xs) (length ys)) where
    by : (t : Bool) → Begins (cond t ys xs) l
    by true = b
    by false = a

  pub longer_left : (c : ℕ) (x : Reference) → IsCell xs c x → IsCell (longer xs ys) c x
  longer_left c x e = by (nat_lt (length xs) (length ys)) refl where
    by : (t : Bool) → nat_lt (length xs) (length ys) ≡ t → IsCell (cond t ys xs) c x
    by true q = let i = inside xs c x e in let m : length xs < length ys = ltb-true (length xs) (length ys) q in
        begins_back ys l b c x (omega arith) (begins_at xs l a c x e)
    by false q = e

  pub longer_right : (c : ℕ) (x : Reference) → IsCell ys c x → IsCell (longer xs ys) c x
  longer_right c x e = by (nat_lt (length xs) (length ys)) refl where
    by : (t : Bool) → nat_lt (length xs) (length ys) ≡ t → IsCell (cond t ys xs) c x
    by true q = e
    by false q = let i = inside ys c x e in let m : length ys ≤ length xs = ltb-false (length xs) (length ys) q in
        begins_back xs l a c x (omega arith) (begins_at ys l b c x e)

either_true : (a b : Bool) → (a || b) ≡ true → (a ≡ true) ⊎ (b ≡ true)
either_true a b e = grind arith

module _ {B : Type 0} (program : Program B) (cells : ℕ) (x : Contents B) (law : Law program cells x) where
  -- what either of two seats knows is so, and what a spent one does
  pub both_so : (k l : View B) → IsSo program cells x law (knowing_of k) → IsSo program cells x law (knowing_of l)
      → IsSo program cells x law (knowing_of (both k l))
  both_so k l a b = record {
    known = all_append _ k.known l.known a.known b.known;
    begins = begins_longer k.born l.born law.born a.begins b.begins;
    known_born = all_append (λ c. (r : Reference) × IsCell (longer k.born l.born) c r) k.known l.known
        (λ c i. let h = a.known_born c i in (h.0, longer_left k.born l.born law.born a.begins b.begins c h.0 h.1))
        (λ c i. let h = b.known_born c i in (h.0, longer_right k.born l.born law.born a.begins b.begins c h.0 h.1));
    wrote = all_append _ k.wrote l.wrote a.wrote b.wrote;
    filled = all_append _ k.filled l.filled a.filled b.filled;
    seen = all_append _ k.seen l.seen a.seen b.seen;
    closed = all_append _ k.closed l.closed a.closed b.closed;
    found = all_append _ k.found l.found a.found b.found;
    rested = λ e. ⊎_elim a.rested b.rested (either_true k.rested l.rested e);
    told = all_append _ k.told l.told a.told b.told;
  }

  pub nothing_so : IsSo program cells x law (knowing_of {B = B} spent)
  nothing_so = record {
    known = λ c i. absurd i;
    begins = (law.born, refl);
    known_born = λ c i. absurd i;
    wrote = λ c i. absurd i;
    filled = λ c i. absurd i;
    seen = λ c i. absurd i;
    closed = λ c i. absurd i;
    found = λ c i. absurd i;
    rested = λ e. cc;
    told = λ n i. absurd i;
  }

  -- the contents with other lots and refused draws, and other stores of STOP
  abbrev pub with_lots : List ℕ → List ℕ → List (List ℕ) → Contents B
  with_lots lots refused stored =
      record x { seats = record x.seats { lots = lots; refused = refused; stored = stored } }

  pub law_lots : (lots refused : List ℕ) (stored : List (List ℕ)) → Lots cells x.words.count lots refused
      → Stops x.words.stop stored x.seats.told → Law program cells (with_lots lots refused stored)
  law_lots lots refused stored h stops =
      law_kept law x.words (record x.seats { lots = lots; refused = refused; stored = stored }) h law.names
      law.tree_words law.once_words law.chains law.live_count stops law.records_fit law.meaning law.facts

module _ {B : Type 0} where
  both_seat : (key : Key B) (v w : View B) → IsSeat key v → IsSeat key w
      → All (λ c. (r : Reference) × IsCell (longer v.born w.born) c r) (v.known ++ w.known) → IsSeat key (both v w)
  both_seat key v w h i kb = let l = h.within_lot in let m = i.within_lot in
      let a = l.refused_fit in let c = l.tokens_fit in let d = l.cleared_fit in let e = m.refused_fit in record {
        about = h.about;
        named = h.named;
        within_lot = record {
          least = ⊎_elim (λ q. inl q) (λ q. inr (omega arith)) l.least;
          refused_fit = omega arith;
          tokens_fit = omega arith;
          cleared_fit = omega arith;
        };
        backing = h.backing;
        known_born = kb;
      }

  spent_seat : (key : Key B) → IsSeat key spent
  spent_seat key = record {
    about = λ a e. cc;
    named = inl (refl, refl);
    within_lot = unused_lot (inl (refl, refl));
    backing = idle_backing;
    known_born = λ c i. absurd i;
  }

  module _ (program : Bool → B → Program B) (key : Key B) (id : ℕ) (v : View B) (other : ℕ) (w : View B)
      (iv : IsIdle v) (iw : IsIdle w) (s : State (Option (Rec B)) (View B)) (r : Rule program key s)
      (at : get_elem? s.views id ≡ some v) (ne : ¬ (other ≡ id))
      (at' : get_elem? (set s.views id (both v w)) other ≡ some w) where
    abbrev P : Program B
    P = program key.strict key.root.value

    abbrev old : SeatsHave B
    old = seats_have s.views

    there : get_elem? s.views other ≡ some w
    there = sym (set_else s.views id other (both v w) ne) ∙ at'

    so : IsSo P key.cells (contents_of s) r.law (knowing_of (both v w))
    so = both_so P key.cells (contents_of s) r.law v w (knows_so program key s r id v at)
        (knows_so program key s r other w there)

    abbrev x1 : Contents B
    x1 = learns P key.cells (contents_of s) r.law id (knowing_of (both v w))

    law1 : Law P key.cells x1
    law1 = law_learns P key.cells (contents_of s) r.law id (knowing_of (both v w)) so

    abbrev x2 : Contents B
    x2 = learns P key.cells x1 law1 other (knowing_of {B = B} spent)

    law2 : Law P key.cells x2
    law2 = law_learns P key.cells x1 law1 other (knowing_of {B = B} spent) (nothing_so P key.cells x1 law1)

    -- the contents after both steps, with the lots and the stores of both
    abbrev x3 : Contents B
    x3 = with_lots P key.cells x2 law2 (set (set old.lots id (v.lot + w.lot)) other 0)
        (set (set old.refused id (v.refused + w.refused)) other 0)
        (set (set old.stored id (v.stored ++ w.stored)) other [])

    lots : Lots key.cells (words_say s.words).count x3.seats.lots x3.seats.refused
    lots = let a = total_set old.lots id v.lot (v.lot + w.lot) (at_map (λ (u : View B). u.lot) s.views id v at) in
        let b = total_set (set old.lots id (v.lot + w.lot)) other w.lot 0
        (set_else old.lots id other (v.lot + w.lot) ne ∙ at_map (λ (u : View B). u.lot) s.views other w there) in
        let c =
        total_set old.refused id v.refused (v.refused + w.refused)
        (at_map (λ (u : View B). u.refused) s.views id v at) in
        let d = total_set (set old.refused id (v.refused + w.refused)) other w.refused 0
        (set_else old.refused id other (v.refused + w.refused) ne ∙ at_map (λ (u : View B). u.refused) s.views
        other w there) in
        let e = r.law.lots.all in let f = r.law.lots.counted in record { all = omega arith; counted = omega arith }

    -- what was stored is stored by the one that has taken the other in
    kept : (n : ℕ) → IsStored old.stored n → IsStored x3.seats.stored n
    kept n g = dite (ℕ_discrete g.0 id)
        (taken id v.stored (at_map (λ (u : View B). u.stored) s.views id v at) (in_left n v.stored w.stored))
        (λ e. dite (ℕ_discrete g.0 other)
        (taken other w.stored (at_map (λ (u : View B). u.stored) s.views other w there)
        (in_right n v.stored w.stored))
        (λ d. (
          g.0,
          of_seat_else _ (set old.stored id (v.stored ++ w.stored)) other g.0 [] d
              (of_seat_else _ old.stored id g.0 (v.stored ++ w.stored) e g.1),
        )))
      where
        mine : IsIn n (v.stored ++ w.stored) → IsStored x3.seats.stored n
        mine i = (
          id,
          of_seat_else _ (set old.stored id (v.stored ++ w.stored)) other id [] (λ q. ne (sym q))
              (of_seat_here _ old.stored id v.stored (v.stored ++ w.stored)
              (at_map (λ (u : View B). u.stored) s.views id v at) i),
        )

        taken : (j : ℕ) (l : List ℕ) → get_elem? old.stored j ≡ some l → (IsIn n l → IsIn n (v.stored ++ w.stored))
            → g.0 ≡ j → IsStored x3.seats.stored n
        taken j l here into e = let h = subst (OfSeat (IsIn n) old.stored) e g.1 in
            mine (into (subst (IsIn n) (some-injective h.0 l (sym h.1 ∙ here)) h.2))

    stops : Stops (words_say s.words).stop x3.seats.stored x2.seats.told
    stops = let q = law2.stops in record {
      given = λ n. kept (words_say s.words).stop (q.given n);
      stands = each_set _ (set old.stored id (v.stored ++ w.stored)) other []
          (each_set _ old.stored id (v.stored ++ w.stored) q.stands
          (all_append (λ n. (words_say s.words).stop ≢ 0) v.stored w.stored
          (q.stands id v.stored (at_map (λ (u : View B). u.stored) s.views id v at))
          (q.stands other w.stored (at_map (λ (u : View B). u.stored) s.views other w there))))
          (λ n i. absurd i);
      found = λ j ns e n i z. kept n (q.found j ns e n i z);
    }

    -- what the seats have, where v has become both
    abbrev have_both : SeatsHave B → SeatsHave B
    have_both y = record (seats_learn id (knowing_of (both v w)) old y) {
      lots = set old.lots id (v.lot + w.lot);
      refused = set old.refused id (v.refused + w.refused);
      stored = set old.stored id (v.stored ++ w.stored);
    }

    p1 : seats_have (set (set s.views id (both v w)) other spent) ≡ set_seats (have_both old) other spent
    p1 = seats_set (set s.views id (both v w)) other spent
        ∙ ap (λ (y : SeatsHave B). set_seats y other spent) (seats_set s.views id (both v w)
        ∙ ap have_both (seats_same s.views id v at))

    -- the other seat had as little before
    again : {A : Type 0} (f : View B → A) (a : A) → f w ≡ a → set (map f s.views) other a ≡ map f s.views
    again f a e =
        ap (set (map f s.views) other) (sym e) ∙ set_again (map f s.views) other (f w)
        (at_map f s.views other w there)

    p2 : set_seats (have_both old) other spent ≡ x3.seats
    p2 j = record x3.seats {
      tokens = again (λ u. u.tokens) 0 iw.tokens j;
      cleared = again (λ u. u.cleared) 0 iw.cleared j;
      hands = again (λ u. u.hand) None iw.hand j;
      tasks = again (λ u. u.tasks) [] iw.tasks j;
      dues = again (λ u. u.dues) [] iw.dues j;
      pushes = again (λ u. u.pushes) [] iw.pushes j;
      shuts = again (λ u. u.shuts) [] iw.shuts j;
      rests = again (λ u. u.rest) None iw.rest j;
    }

    rule_glued : Rule program key
        record { words = s.words; homes = s.homes; views = set (set s.views id (both v w)) other spent }
    rule_glued = rule_views r (set (set s.views id (both v w)) other spent) _ (p1 ∙ p2)
        (each_set _ (set s.views id (both v w)) other spent
        (each_set _ s.views id (both v w) r.seats
        (both_seat key v w (r.seats id v at) (r.seats other w there) so.known_born))
        (spent_seat key))
        (each_set _ (set s.views id (both v w)) other spent
        (each_set _ s.views id (both v w) r.pushed (r.pushed id v at)) (λ e i. absurd i))
        (law_lots P key.cells x2 law2 _ _ _ lots stops)

  -- a merge keeps the rule
  pub rule_joins : (program : Bool → B → Program B) (key : Key B) (id : ℕ) (v : View B) (other : ℕ) (w : View B)
      → IsIdle v → IsIdle w → Joins (Rule program key) id v other w (both v w) spent
  rule_joins program key id v other w iv iw s r at ne at' = rule_glued program key id v other w iv iw s r at ne at'
