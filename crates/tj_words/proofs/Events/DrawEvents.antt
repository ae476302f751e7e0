-- A draw is a Make or a Fork; the first store of OWN shows nothing.
use Rattle.tj_words.proofs.Prelude.{Allowed, CellState, Contents, CoreState, Hand, IsCell, IsDrawnInto, IsEmpty}
use Rattle.tj_words.proofs.Prelude.{IsThere, Law, List, None, Program, Reference, Slots, Some, Sort, [], after, ap}
use Rattle.tj_words.proofs.Prelude.{arith, at_longer, draw_event, drawn_in, first_owner, get_elem?, hand_of, hand_stage}
use Rattle.tj_words.proofs.Prelude.{held_of, home_in, home_of, made_by, made_of, maker, making, next_reference}
use Rattle.tj_words.proofs.Prelude.{phase_sort, put, put_else, put_here, record_in, reference_of, some, subst, suc, sym}
use Rattle.tj_words.proofs.Prelude.{with_new, ℕ, ◌++◌, ◌+◌, ◌<◌, ◌∙◌, ◌∷◌, ◌≡◌, ◌≢◌, ◌≤◌}
use Rattle.tj_words.proofs.Lemmas.{DrawsCell, ShowsEvent, back, cell_born, cell_there, core_of, hand_found}
use Rattle.tj_words.proofs.Lemmas.{hand_seat, index_is, inside, last_at, makes_none, makes_nothing, none_some, sort_is}
use Rattle.tj_words.proofs.Events.ShownParts.{Parts, parts_of, shown_by, drawn_parts}
use Rattle.tj_events.proofs.OneCell.Makers.{thing_made}
use Rattle.tj_words.specs.Inner.TreeDraws.{MayDraw}
use Rattle.tj_words.proofs.Events.ShownDraws.{one_drawn}
use Rattle.tj_words.proofs.Cells.MadeThings.{maker_shown, thing_shown}
use Rattle.tj_words.proofs.Events.OwnerEvents.{acts_there, acts_phase, acts_made, acts_stage, acts_run}
use Rattle.tj_base.specs.declared.cell.Sort.TheVariants as sort

-- the event of a draw adds the cell that is drawn
drawn_after : (s : CoreState) (t : ℕ) (o : Sort)
    → after s (draw_event o t) ≡ with_new s t (first_owner o t s.count) (hand_stage o)
drawn_after s t o = grind arith

-- how many things a task has made, by these parts
abbrev made_in : {B : Type 0} → Parts B → ℕ → ℕ
made_in z c = made_by (z.held c) (z.home c) + z.making c

-- nothing lies in an empty slot
pub empty_none : {B : Type 0} (slots : Slots B) (c : ℕ) → IsEmpty slots c → home_in slots c ≡ None
empty_none slots c e = ap record_in e

module _ {B : Type 0} {program : Program B} {cells : ℕ} {x : Contents B} (r : Law program cells x) (y : Contents B)
    (id t : ℕ) where
  abbrev n : ℕ
  n = drawn_in cells x

  -- a draw, as the seat with nothing in hand makes it
  module _ (h : Hand) (s : DrawsCell cells x y id t h) where
    abbrev z : Parts B
    z = drawn_parts (parts_of cells x) t h (Some s.acts.after_it) s.new_held

    room : n < cells
    room = let l = s.left in omega arith

    pub t_there : IsThere n (hand_of x) t
    t_there = acts_there r id t s.acts

    calm : (j : ℕ) (g : Hand) → get_elem? x.seats.hands j ≡ some (Some g) → g.maker ≢ t
    calm = makes_nothing r id t s.acts.before_it s.acts.held s.no_hand

    undrawn : (j : ℕ) (g : Hand) → get_elem? x.seats.hands j ≡ some (Some g) → g.maker ≢ n
    undrawn j g e q = none_some (r.custody.holder n) j (r.custody.undrawn_free n (omega arith))
        (ap r.custody.holder (sym q) ∙ hand_seat r j g e)

    not_t : t ≢ n
    not_t e = let l = t_there.0 in omega arith

    made_t : made_in z t ≡ suc (made_of x t)
    made_t = (λ j. made_by ((put_else (put (held_of x) t (Some s.acts.after_it)) n s.new_held t not_t
        ∙ put_here (held_of x) t (Some s.acts.after_it)) j) (home_of x t) + put_here (making x.seats.hands) t 1 j)
        ∙ (let a = acts_made r id t s.acts in let c = makes_none x.seats.hands t calm in omega arith)

    no_record : home_of x n ≡ None
    no_record = empty_none x.slots n (r.custody.undrawn_empty n (omega arith) room)

    made_new : made_in z n ≡ 0
    made_new = (λ j. made_by (put_here (put (held_of x) t (Some s.acts.after_it)) n s.new_held j) (no_record j)
        + put_else (making x.seats.hands) t 1 n (λ e. not_t (sym e)) j)
        ∙ (let a = s.new_made in let c = makes_none x.seats.hands n undrawn in omega arith)

    -- what the draw makes of the things made and of the hands
    pub drawn_into : IsDrawnInto n r.born r.maker r.number (made_of x) (hand_of x) h (made_of y) (hand_of y)
    drawn_into = back (λ j. IsDrawnInto n r.born r.maker r.number (made_of x) (hand_of x) h (made_in (s.parts j))
        ((s.parts j).hand)) record {
          here = put_here (hand_of x) n (Some h);
          else = λ c a. put_else (hand_of x) n (Some h) c a;
          made_one = ap (made_in z) s.hand_maker ∙ (made_t ∙ ap (λ m. suc (made_of x m)) (sym s.hand_maker));
          made_none = made_new;
          made_else = λ c a b.
              let d : c ≢ t = λ e. a (e ∙ sym s.hand_maker) in
              λ j. made_by ((put_else (put (held_of x) t (Some s.acts.after_it)) n s.new_held c b
              ∙ put_else (held_of x) t (Some s.acts.after_it) c d) j) (home_of x c)
              + put_else (making x.seats.hands) t 1 c d j;
        }

    -- what a draw needs of the cells that there are
    pub may_draw : MayDraw n r.born r.maker r.number (made_of x) (hand_of x) h
    may_draw = record {
      maker_there = subst (IsThere n (hand_of x)) (sym s.hand_maker) t_there;
      task = reference_of r.born t;
      is_task = (
        subst (λ m. IsCell r.born m (reference_of r.born t)) (sym s.hand_maker) (cell_born r t t_there.0),
        sort_is r t t_there ∙ ap phase_sort (acts_phase r id t s.acts),
      );
      calm = λ c g e.
          let f = hand_found x.seats.hands c g e in
          (λ q. calm f.0.0 g f.0.1 (q ∙ s.hand_maker), undrawn f.0.0 g f.0.1);
      numbered = number_made;
    }
      where
        number_made : (c : ℕ) (z : Reference) → IsCell r.born c z → c ≢ 0 → r.number c ≤ made_of x (r.maker c)
        number_made c z e d =
            let drawn : c < n = subst (λ m. c < m) r.births.all (inside r.born c z e) in
            let made : ((core_of r).cells (maker (core_of r).cells c)).made ≡ made_of x (r.maker c) =
            ap (λ i. ((core_of r).cells i).made) (maker_shown r c drawn)
            ∙ ap (λ (q : CellState). q.made)
            (cell_there r.born r.maker (parts_of cells x) (r.maker c) (r.births.makers_there c drawn).0) in
            let few = thing_made n (core_of r).cells r.facts.makers c (r.number c) drawn (thing_shown r c drawn d) in
            omega arith

    -- a draw is a Make or a Fork, and the cell is one more of those that are born
    pub draw_shown : ShowsEvent cells r.born r.maker x y (draw_event h.sort t)
        (r.born ++ next_reference r.born t (made_of x t) h.sort ∷ []) (put r.maker n t)
    draw_shown = record {
      allowed = may h.sort;
      shown = ap (shown_by born' (put r.maker n t)) s.parts
          ∙ (one_drawn r.born born' r.maker (parts_of cells x) t h (Some s.acts.after_it) s.new_held
          t_there.0 t_there.1 s.hand_maker made_t (acts_stage r id t s.acts) made_new named names
          ∙ sym (drawn_after (core_of r) t h.sort));
    }
      where
        may : (o : Sort) → Allowed cells (core_of r) (draw_event o t)
        may sort.Promise = (acts_run r id t s.acts, room)
        may sort.Task = (acts_run r id t s.acts, room)

        new : Reference
        new = next_reference r.born t (made_of x t) h.sort

        born' : List Reference
        born' = r.born ++ next_reference r.born t (made_of x t) h.sort ∷ []

        named : (reference_of born' n).name ≡ new.name
        named = ap (λ (z : Reference). z.name)
            (index_is born' n _ new (subst (λ m. IsCell born' m new) r.births.all (last_at r.born new)))

        names : (d : ℕ) → d < n → (reference_of born' d).name ≡ (reference_of r.born d).name
        names d l = ap (λ (z : Reference). z.name)
            (index_is born' d _ (reference_of r.born d) (at_longer r.born (new ∷ []) d _ (cell_born r d l)))
