-- What the core state shows after a cell is drawn.
use Rattle.tj_words.proofs.Prelude.{Custody, Hand, List, None, Option, Reference, Some, ap, arith, at_put, child}
use Rattle.tj_words.proofs.Prelude.{first_owner, hand_stage, made_by, owner_shown, phase_sort, put, put_else, put_here}
use Rattle.tj_words.proofs.Prelude.{reference_of, refl, stage_shown, stage_there, suc, sym, ℕ, ◌+◌, ◌<◌, ◌∙◌, ◌≡◌, ◌≢◌}
use Rattle.tj_events.specs.CoreState.{CellState, Cells, CoreState, running}
use Rattle.tj_words.proofs.Events.ShownParts.{Parts, cell_by, shown_by, drawn_parts}
use Rattle.tj_events.specs.Events.{with_new, one_made, new_cell}
use Rattle.tj_words.proofs.Events.ShownCells.{cell_blank, cell_there, shown_is}

module _ {B : Type 0} (born born' : List Reference) (maker : ℕ → ℕ) (x : Parts B) (t : ℕ) (h : Hand)
    (k new : Option (Custody B)) where
  abbrev K : CoreState
  K = shown_by born maker x

  abbrev c : ℕ
  c = x.drawn

  abbrev maker' : ℕ → ℕ
  maker' = put maker c t

  abbrev y : Parts B
  y = drawn_parts x t h k new

  -- the cell that t makes next
  abbrev made_cell : CellState → CellState
  made_cell a = new_cell t a (first_owner h.sort t c) (hand_stage h.sort)

  -- a draw shows one cell more, which t makes
  pub one_drawn : t < c
      → x.hand t ≡ None
      → h.maker ≡ t
      → made_by (y.held t) (x.home t) + y.making t ≡ suc (made_by (x.held t) (x.home t) + x.making t)
      → stage_there t (phase_sort (x.phase t)) (x.own t) (x.phase t) k (x.home t) ≡ running
      → made_by (y.held c) (x.home c) + y.making c ≡ 0
      → (reference_of born' c).name ≡ child (reference_of born t).name
      (suc (made_by (x.held t) (x.home t) + x.making t))
      → ((d : ℕ) → d < c → (reference_of born' d).name ≡ (reference_of born d).name)
      → shown_by born' maker' y ≡ with_new K t (first_owner h.sort t c) (hand_stage h.sort)
  one_drawn there out its made_t runs made_c named names = shown_is born' maker' y
      (with_new K t (first_owner h.sort t c) (hand_stage h.sort)) refl
      (λ d l. at_put before c (made_cell (K.cells t)) (λ e a. cell_by born' maker' y e ≡ a) d
      (last ∙ ap made_cell (sym (cell_there born maker x t there)))
      (λ n. at_put K.cells t (one_made (K.cells t)) (λ e a. cell_by born' maker' y e ≡ a) d
      (its_maker ∙ ap one_made (sym (cell_there born maker x t there)))
      (λ m. other d (omega arith) m n ∙ sym (cell_there born maker x d (omega arith)))))
      (λ d l. put_else before c (made_cell (K.cells t)) d (λ e. omega arith)
      ∙ (put_else K.cells t (one_made (K.cells t)) d (λ e. omega arith) ∙ cell_blank born maker x d (omega arith)))
      refl refl
    where
      before : Cells
      before = put K.cells t (one_made (K.cells t))

      not_t : t ≢ c
      not_t e = omega arith

      held_t : put (put x.held t k) c new t ≡ k
      held_t = put_else (put x.held t k) c new t not_t ∙ put_here x.held t k

      last : cell_by born' maker' y c ≡ made_cell (cell_by born maker x t)
      last = λ j. record {
        maker = put_here maker c t j;
        name = named j;
        made = made_c j;
        owner = ((λ i. owner_shown c (put_here x.hand c (Some h) i) (x.own c))
            ∙ ap (λ (m : ℕ). Some (first_owner h.sort m c)) its) j;
        stage = stage_shown c (put_here x.hand c (Some h) j) (x.own c) (x.phase c) (y.held c) (x.home c);
      }

      its_maker : cell_by born' maker' y t ≡ one_made (cell_by born maker x t)
      its_maker = λ j. record {
        maker = put_else maker c t t not_t j;
        name = names t there j;
        made = made_t j;
        owner = owner_shown t (put_else x.hand c (Some h) t not_t j) (x.own t);
        stage = ((λ i. stage_shown t ((put_else x.hand c (Some h) t not_t ∙ out) i) (x.own t) (x.phase t) (held_t i)
            (x.home t))
            ∙ runs) j;
      }

      other : (d : ℕ) → d < c → d ≢ t → d ≢ c → cell_by born' maker' y d ≡ cell_by born maker x d
      other d l m n = λ j. record {
        maker = put_else maker c t d n j;
        name = names d l j;
        made = made_by ((put_else (put x.held t k) c new d n ∙ put_else x.held t k d m) j) (x.home d)
            + put_else x.making t 1 d m j;
        owner = owner_shown d (put_else x.hand c (Some h) d n j) (x.own d);
        stage = stage_shown d (put_else x.hand c (Some h) d n j) (x.own d) (x.phase d)
            ((put_else (put x.held t k) c new d n ∙ put_else x.held t k d m) j) (x.home d);
      }
