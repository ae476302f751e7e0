-- What the core state shows after the parts of one cell or two have changed.
use Rattle.tj_words.proofs.Prelude.{CellStage, CellState, CoreState, Custody, Hand, Phase, Rec, Reference, ap, at_put}
use Rattle.tj_words.proofs.Prelude.{blank, dec_le, dite, made_by, owner, owner_shown, phase_sort, put_else, put_here}
use Rattle.tj_words.proofs.Prelude.{reference_of, restage, stage, stage_shown, stage_there, staged, sym, ℕ, ◌+◌, ◌≤◌}
use Rattle.std.proofs.Common.{Bool, List, None, Option, arith, cond, refl, ◌<◌, ◌∙◌, ◌≡◌, ◌≢◌, lt-ltb, le-ltb}
use Rattle.tj_words.proofs.Events.ShownParts.{Parts, cell_by, shown_by, moved_parts}

module _ {B : Type 0} (born : List Reference) (maker : ℕ → ℕ) (x : Parts B) where
  abbrev K : CoreState
  K = shown_by born maker x

  -- a cell that is drawn
  pub cell_there : (c : ℕ) → c < x.drawn → K.cells c ≡ cell_by born maker x c
  cell_there c l = ap (λ (b : Bool). cond b (cell_by born maker x c) blank) (lt-ltb c x.drawn l)

  -- and one that isn't
  pub cell_blank : (c : ℕ) → x.drawn ≤ c → K.cells c ≡ blank
  cell_blank c l = ap (λ (b : Bool). cond b (cell_by born maker x c) blank) (le-ltb c x.drawn l)

  -- the state is the one of which each cell is as the parts say, and blank beyond those that are drawn
  pub shown_is : (s : CoreState)
      → x.drawn ≡ s.count
      → ((c : ℕ) → c < x.drawn → cell_by born maker x c ≡ s.cells c)
      → ((c : ℕ) → x.drawn ≤ c → s.cells c ≡ blank)
      → x.others ≡ s.others
      → x.cleared ≡ s.cleared
      → K ≡ s
  shown_is s count there beyond others cleared = λ j. record {
    count = count j;
    cells = λ c. same c j;
    others = others j;
    cleared = cleared j;
  }
    where
      same : (c : ℕ) → K.cells c ≡ s.cells c
      same c = dite (dec_le x.drawn c) (λ (l : x.drawn ≤ c). cell_blank c l ∙ sym (beyond c l))
          (λ (l : ¬ (x.drawn ≤ c)). let m : c < x.drawn = omega arith in cell_there c m ∙ there c m)

  -- the stage of a cell that isn't in hand
  pub stage_out : (c : ℕ) → c < x.drawn → x.hand c ≡ None
      → stage K.cells c ≡ stage_there c (phase_sort (x.phase c)) (x.own c) (x.phase c) (x.held c) (x.home c)
  stage_out c l out = ap (λ (z : CellState). z.stage) (cell_there c l)
      ∙ ap (λ (o : Option Hand). stage_shown c o (x.own c) (x.phase c) (x.held c) (x.home c)) out

  -- the owner of a cell that isn't in hand
  pub owner_out : (c : ℕ) → c < x.drawn → x.hand c ≡ None → owner K.cells c ≡ x.own c
  owner_out c l out =
      ap (λ (z : CellState). z.owner) (cell_there c l) ∙ ap (λ (o : Option Hand). owner_shown c o (x.own c)) out

module _ {B : Type 0} (born : List Reference) (maker : ℕ → ℕ) (x : Parts B) where
  abbrev old : CoreState
  old = shown_by born maker x

  -- another phase, custody or record at home of t is another stage of t
  module _ (t : ℕ) (p : Phase) (held : Option (Custody B)) (home : Option (Rec B)) (others cleared : ℕ) where
    abbrev z : Parts B
    z = record (moved_parts x t p held home) { others = others; cleared = cleared }

    pub restaged : (f : CellStage → CellStage)
        → t < x.drawn
        → x.hand t ≡ None
        → made_by held home ≡ made_by (x.held t) (x.home t)
        → stage_there t (phase_sort p) (x.own t) p held home
        ≡ f (stage_there t (phase_sort (x.phase t)) (x.own t) (x.phase t) (x.held t) (x.home t))
        → shown_by born maker z ≡ record (restage old t f) { others = others; cleared = cleared }
    restaged f inside out made stages = shown_is born maker z
        (record (restage old t f) { others = others; cleared = cleared }) refl
        (λ c l. at_put old.cells t (staged (f (stage old.cells t)) (old.cells t)) (λ d a. cell_by born maker z d ≡ a) c
        (here ∙ ap (λ (a : CellState). staged (f a.stage) a) (sym (cell_there born maker x t inside)))
        (λ n. else c n ∙ sym (cell_there born maker x c l)))
        (λ c l. put_else old.cells t (staged (f (stage old.cells t)) (old.cells t)) c (λ e. omega arith)
        ∙ cell_blank born maker x c l) refl refl
      where
        here : cell_by born maker z t ≡ staged (f (cell_by born maker x t).stage) (cell_by born maker x t)
        here = λ j. record {
          maker = maker t;
          name = (reference_of born t).name;
          made = ((λ i. made_by (put_here x.held t held i) (put_here x.home t home i)) ∙ made) j + x.making t;
          owner = owner_shown t (x.hand t) (x.own t);
          stage = ((λ i. stage_shown t (out i) (x.own t) (put_here x.phase t p i) (put_here x.held t held i)
              (put_here x.home t home i))
              ∙ (stages
              ∙ (λ i. f (stage_shown t (sym out i) (x.own t) (x.phase t) (x.held t) (x.home t))))) j;
        }

        else : (c : ℕ) → c ≢ t → cell_by born maker z c ≡ cell_by born maker x c
        else c n = λ j. cell_by born maker (record x {
          phase = λ _. put_else x.phase t p c n j;
          held = λ _. put_else x.held t held c n j;
          home = λ _. put_else x.home t home c n j;
        }) c
