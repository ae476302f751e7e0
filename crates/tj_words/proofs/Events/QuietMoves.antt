-- Steps that show nothing.
use Rattle.tj_words.proofs.Prelude.{Contents, Custody, Does, IsThere, KeepsHoldings, Law, None, Option, Phase, Program}
use Rattle.tj_words.proofs.Prelude.{Rec, Some, Way, WordsSay, ap, arith, cell, does_first, drawn_in, find_in, hand_in}
use Rattle.tj_words.proofs.Prelude.{hand_of, held_of, home_in, home_of, made_by, making, min, phase_of, phase_sort}
use Rattle.tj_words.proofs.Prelude.{refl, stage_there, sym, ℕ, ◌+◌, ◌∙◌, ◌≡◌}
use Rattle.tj_words.proofs.Lemmas.{IsMoved, IsQuietStep, KeepsOthers, parts_of, shown_by, stage_out}
use Rattle.tj_words.proofs.Calls.KeptCells.{kept, kept_moved}
use Rattle.tj_words.proofs.Events.TurnedTasks.{moved_nothing}
use Rattle.tj_base.specs.declared.cell.Sort.TheVariants as sort
use Rattle.tj_body.specs.declared.ask.Answer.TheVariants as answer
use Rattle.tj_words.specs.declared.offsets.Once.TheVariants as once
use Rattle.tj_words.specs.declared.phase.Walk.TheVariants as walk
use Rattle.tj_words.specs.declared.phase.Phase.TheVariants as phase

module _ {B : Type 0} where
  -- what a claimed task shows is what it showed while it was ready, and so on
  pub claim_stage : (t : ℕ) (o : Option ℕ) (k k' : Option (Custody B)) (r : Rec B) (c : Custody B)
      (home : Option (Rec B)) → c.does ≡ does_first r.answer
      → stage_there t sort.Task o phase.Running (Some c) home ≡ stage_there t sort.Task o phase.Ready k' (Some r)
  claim_stage t o k k' r c home e = grind arith

  pub release_stage : (t : ℕ) (o : Option ℕ) (k : Option (Custody B)) (r : Rec B) (home : Option (Rec B))
      → r.answer ≡ answer.Start
      → stage_there t sort.Task o phase.Ready None (Some r) ≡ stage_there t sort.Task o phase.Unborn k home
  release_stage t o k r home e = grind arith

  pub shelve_stage : (t p : ℕ) (way : Way) (o : Option ℕ) (k : Option (Custody B)) (r h : Option (Rec B))
      → stage_there t sort.Task o (phase.Waiting (cell p) way walk.Alarmed) None r
      ≡ stage_there t sort.Task o (phase.Waiting (cell p) way walk.Alarmed) k h
  shelve_stage t p way o k r h = grind arith

  -- what a held task shows is the same where it does the same
  pub kept_stage : (t : ℕ) (o : Option ℕ) (k k' : Custody B) (h h' : Option (Rec B)) (d : Does)
      → k.does ≡ d → k'.does ≡ d
      → stage_there t (phase_sort (phase_of d)) o (phase_of d) (Some k') h'
      ≡ stage_there t (phase_sort (phase_of d)) o (phase_of d) (Some k) h
  kept_stage t o k k' h h' d e e' = grind arith

  module _ {program : Program B} {cells : ℕ} {x : Contents B} (r : Law program cells x) (y : Contents B) where
    -- a step on a word by which nothing is shown, and that leaves PARENT and KID of the cells that are there
    pub still : (words : WordsSay) → y.words ≡ words → KeepsHoldings x y
        → min words.count cells ≡ drawn_in cells x
        → words.own ≡ x.words.own
        → words.phase ≡ x.words.phase
        → words.others ≡ x.words.others
        → ((c : ℕ) → IsThere (drawn_in cells x) (hand_of x) c
        → (words.once c once.Parent ≡ x.words.once c once.Parent) × (words.once c once.Kid ≡ x.words.once c once.Kid))
        → IsQuietStep r y
    still words e k drawn own phases others tree = (
      ap (shown_by r.born r.maker)
          ((λ j. parts_of cells (record {
            words = e j;
            slots = k.slots j;
            seats = record y.seats { hands = k.hands j; tasks = k.tasks j; cleared = k.cleared j };
          }))
          ∙ (λ j. record (parts_of cells x) { drawn = drawn j; own = own j; phase = phases j; others = others j })),
      kept cells x y (λ c. ap (λ l. hand_in l c) k.hands)
          (λ c j. made_by (find_in (k.tasks j) c) (home_in (k.slots j) c) + making (k.hands j) c)
          (λ c i. (
            ap (λ (z : WordsSay). z.once c once.Parent) e ∙ (tree c i).0,
            ap (λ (z : WordsSay). z.once c once.Kid) e ∙ (tree c i).1,
          )),
    )

    -- a task that is there and stands in q moves, and shows what it showed
    pub quiet_move : (t : ℕ) (q p : Phase) (held : Option (Custody B)) (home : Option (Rec B))
        → x.words.phase t ≡ q → IsThere (drawn_in cells x) (hand_of x) t → KeepsOthers cells x y
        → y.words.once ≡ x.words.once → IsMoved cells x y t p held home
        → (stage_there t (phase_sort p) (x.words.own t) p held home
        ≡ stage_there t (phase_sort q) (x.words.own t) q (held_of x t) (home_of x t))
        → IsQuietStep r y
    quiet_move t q p held home was there keeps once m e = (
      moved_nothing r y t p held home m there.0 there.1 (x.words.own t) refl
          (e ∙ ((λ j. stage_there t (phase_sort (sym was j)) (x.words.own t) (sym was j) (held_of x t) (home_of x t))
          ∙ sym (stage_out r.born r.maker (parts_of cells x) t there.0 there.1))) keeps.others keeps.cleared,
      kept_moved cells x y m once,
    )
