-- What the core state shows after a cell has another owner.
use Rattle.tj_words.proofs.Prelude.{Contents, Custody, Law, List, None, Option, Program, Reference, Some, ap, arith}
use Rattle.tj_words.proofs.Prelude.{at_put, hand_of, home_of, made_by, owner_shown, phase_sort, put, put_else, put_here}
use Rattle.tj_words.proofs.Prelude.{reference_of, refl, stage_shown, stage_there, sym, ℕ, ◌+◌, ◌<◌, ◌∙◌, ◌≡◌, ◌≢◌}
use Rattle.tj_words.proofs.Lemmas.{IsHeldWith, Parts, cell_blank, cell_there, held_here, parts_of, shown_by, shown_is}
use Rattle.tj_events.specs.CoreState.{CoreState, running, ended}
use Rattle.tj_events.specs.Events.{alter, restage, staged, owned_by}
use Rattle.tj_words.proofs.Events.ShownParts.{cell_by, owned_parts}
use Rattle.tj_words.proofs.Events.QuietCells.{stage_does}
use Rattle.tj_base.specs.declared.cell.Sort.TheVariants as sort

module _ {B : Type 0} (x : Parts B) where
  -- the cell shows the same if a seat has this for it
  pub record ShowsAs (c : ℕ) (k : Option (Custody B)) : Type 0 where
    pub made : made_by k (x.home c) ≡ made_by (x.held c) (x.home c)
    pub stage : stage_shown c (x.hand c) (x.own c) (x.phase c) k (x.home c)
        ≡ stage_shown c (x.hand c) (x.own c) (x.phase c) (x.held c) (x.home c)

  pub shows_itself : (c : ℕ) → ShowsAs c (x.held c)
  shows_itself c = record { made = refl; stage = refl }

-- a task shows the same if its seat has for it what does the same, and has made as many things
pub shows_as : {B : Type 0} {program : Program B} {cells : ℕ} {x : Contents B} (r : Law program cells x) (id t : ℕ)
    (k k' : Custody B) → IsHeldWith x id t k → k'.does ≡ k.does → k'.made ≡ k.made
    → ShowsAs (parts_of cells x) t (Some k')
shows_as {x = x} r id t k k' h does made = record {
  made = made ∙ sym (ap (λ o. made_by o (home_of x t)) (held_here r id t k h));
  stage = stage_does t (hand_of x t) (x.words.own t) (x.words.phase t) k k' (home_of x t) does
      ∙ sym (ap (λ o. stage_shown t (hand_of x t) (x.words.own t) (x.words.phase t) o (home_of x t))
      (held_here r id t k h));
}

module _ {B : Type 0} (born : List Reference) (maker : ℕ → ℕ) (x : Parts B) where
  abbrev K : CoreState
  K = shown_by born maker x

  -- the promise p has another owner, the task t runs, and each other cell shows what it showed
  module _ (p t : ℕ) (o : Option ℕ) (held : ℕ → Option (Custody B)) where
    abbrev y : Parts B
    y = record x { own = put x.own p o; held = held }

    pub owner_changed : t < x.drawn
        → x.hand t ≡ None
        → made_by (held t) (x.home t) ≡ made_by (x.held t) (x.home t)
        → stage_there t (phase_sort (x.phase t)) (x.own t) (x.phase t) (held t) (x.home t) ≡ running
        → p < x.drawn
        → x.hand p ≡ None
        → phase_sort (x.phase p) ≡ sort.Promise
        → p ≢ t
        → ((c : ℕ) → c ≢ t → ShowsAs x c (held c))
        → shown_by born maker y ≡ alter (restage K t (λ _. running)) p (owned_by o)
    owner_changed inside out made runs inside_p out_p is apart else = shown_is born maker y
        (alter (restage K t (λ _. running)) p (owned_by o)) refl
        (λ c l. at_put (put K.cells t (staged running (K.cells t))) p
        (owned_by o (put K.cells t (staged running (K.cells t)) p)) (λ d a. cell_by born maker y d ≡ a) c
        (here ∙ ap (owned_by o) (sym (cell_there born maker x p inside_p)
        ∙ sym (put_else K.cells t (staged running (K.cells t)) p apart)))
        (λ n. at_put K.cells t (staged running (K.cells t)) (λ d a. cell_by born maker y d ≡ a) c
        (task ∙ ap (staged running) (sym (cell_there born maker x t inside)))
        (λ m. other c n m ∙ sym (cell_there born maker x c l))))
        (λ c l. put_else (put K.cells t (staged running (K.cells t))) p
        (owned_by o (put K.cells t (staged running (K.cells t)) p)) c (λ e. omega arith)
        ∙ (put_else K.cells t (staged running (K.cells t)) c (λ e. omega arith)
        ∙ cell_blank born maker x c l)) refl refl
      where
        here : cell_by born maker y p ≡ owned_by o (cell_by born maker x p)
        here = λ j. record {
          maker = maker p;
          name = (reference_of born p).name;
          made = (else p apart).made j + x.making p;
          owner = owner_shown p (out_p j) (put_here x.own p o j);
          stage = ((λ i. stage_shown p (out_p i) (put x.own p o p) (x.phase p) (held p) (x.home p))
              ∙ ((λ i. stage_there p (is i) (put x.own p o p) (x.phase p) (held p) (x.home p))
              ∙ ((λ i. stage_there p (sym is i) (x.own p) (x.phase p) (x.held p) (x.home p))
              ∙ (λ i. stage_shown p (sym out_p i) (x.own p) (x.phase p) (x.held p) (x.home p))))) j;
        }

        task : cell_by born maker y t ≡ staged running (cell_by born maker x t)
        task = λ j. record {
          maker = maker t;
          name = (reference_of born t).name;
          made = made j + x.making t;
          owner = owner_shown t (x.hand t) (put_else x.own p o t (λ e. apart (sym e)) j);
          stage = ((λ i. stage_shown t (out i) (put_else x.own p o t (λ e. apart (sym e)) i) (x.phase t) (held t)
              (x.home t)) ∙ runs) j;
        }

        other : (c : ℕ) → c ≢ p → c ≢ t → cell_by born maker y c ≡ cell_by born maker x c
        other c n m = λ j. record {
          maker = maker c;
          name = (reference_of born c).name;
          made = (else c m).made j + x.making c;
          owner = owner_shown c (x.hand c) (put_else x.own p o c n j);
          stage = ((λ i. stage_shown c (x.hand c) (put_else x.own p o c n i) (x.phase c) (held c) (x.home c))
              ∙ (else c m).stage) j;
        }

  -- t has closed its result
  module _ (t : ℕ) (k : Option (Custody B)) where
    abbrev z : Parts B
    z = owned_parts x t None t k

    pub result_closed : t < x.drawn
        → x.hand t ≡ None
        → phase_sort (x.phase t) ≡ sort.Task
        → made_by k (x.home t) ≡ made_by (x.held t) (x.home t)
        → shown_by born maker z ≡ alter (restage K t (λ _. ended)) t (owned_by None)
    result_closed inside out sorted made = shown_is born maker z
        (alter (restage K t (λ _. ended)) t (owned_by None)) refl
        (λ c l. at_put (put K.cells t (staged ended (K.cells t))) t
        (owned_by None (put K.cells t (staged ended (K.cells t)) t)) (λ d a. cell_by born maker z d ≡ a) c
        (here ∙ ap (owned_by None) (ap (staged ended) (sym (cell_there born maker x t inside))
        ∙ sym (put_here K.cells t (staged ended (K.cells t)))))
        (λ n. other c n ∙ (sym (cell_there born maker x c l)
        ∙ sym (put_else K.cells t (staged ended (K.cells t)) c n))))
        (λ c l. put_else (put K.cells t (staged ended (K.cells t))) t
        (owned_by None (put K.cells t (staged ended (K.cells t)) t)) c (λ e. omega arith)
        ∙ (put_else K.cells t (staged ended (K.cells t)) c (λ e. omega arith)
        ∙ cell_blank born maker x c l)) refl refl
      where
        here : cell_by born maker z t ≡ owned_by None (staged ended (cell_by born maker x t))
        here = λ j. record {
          maker = maker t;
          name = (reference_of born t).name;
          made = ((λ i. made_by (put_here x.held t k i) (x.home t)) ∙ made) j + x.making t;
          owner = owner_shown t (out j) (put_here x.own t None j);
          stage = ((λ i. stage_shown t (out i) (put_here x.own t None i) (x.phase t) (put x.held t k t) (x.home t))
              ∙ (λ i. stage_there t (sorted i) None (x.phase t) (put x.held t k t) (x.home t))) j;
        }

        other : (c : ℕ) → c ≢ t → cell_by born maker z c ≡ cell_by born maker x c
        other c n = λ j. cell_by born maker (record x {
          own = λ _. put_else x.own t None c n j;
          held = λ _. put_else x.held t k c n j;
        }) c
