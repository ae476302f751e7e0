-- A task turns from one thing to another: the shared lemmas of all events by which it does so.
use Rattle.tj_words.proofs.Prelude.{Allowed, Bool, CellStage, Contents, Custody, Does, Event, IsBegun, Law, MayAct}
use Rattle.tj_words.proofs.Prelude.{None, Option, Phase, Program, Rec, Runs, Some, after, ap, arith, cond, core_shown}
use Rattle.tj_words.proofs.Prelude.{drawn_in, false, fresh, hand_in, home_of, nat_eq, new_stage, phase_of, phase_sort}
use Rattle.tj_words.proofs.Prelude.{refl, restage, running, stage, stage_there, subst, sym, total, true, ℕ, ◌<◌, ◌∙◌}
use Rattle.tj_words.proofs.Prelude.{◌≡◌}
use Rattle.tj_words.proofs.Lemmas.{IsHeldWith, IsMoved, ShowsEvent, ShowsNothing, begun_out, core_of, custody}
use Rattle.tj_words.proofs.Lemmas.{does_shown, does_stage_there, held_drawn, parts_of, put_self, shown_by, stage_held}
use Rattle.tj_words.proofs.Events.ShownCells.{stage_out, restaged}
use Rattle.tj_words.specs.declared.phase.Phase.TheVariants as phase
use Rattle.tj_words.specs.declared.view.Does.TheVariants as does

-- a new task runs
pub new_runs : (t : ℕ) → Runs (new_stage t)
new_runs t = by (nat_eq t 0)
  where
    by : (b : Bool) → Runs (cond b running fresh)
    by true = tt
    by false = tt

-- a task that may act runs, and has begun
pub acting_runs : (t : ℕ) (d : Does) → MayAct d → Runs (does_shown t d)
acting_runs t does.Fresh m = new_runs t
acting_runs t does.Running m = tt
acting_runs t d m = absurd m

pub acting_phase : (d : Does) → MayAct d → phase_of d ≡ phase.Running
acting_phase d h = grind arith

pub acting_begun : (d : Does) → MayAct d → IsBegun (phase_of d)
acting_begun d m = subst IsBegun (sym (acting_phase d m)) tt

module _ {B : Type 0} {program : Program B} {cells : ℕ} {x : Contents B} (r : Law program cells x) (y : Contents B)
    (t : ℕ) where
  module _ (p : Phase) (held : Option (Custody B)) (home : Option (Rec B)) (m : IsMoved cells x y t p held home)
      (there : t < drawn_in cells x) (out : hand_in x.seats.hands t ≡ None) where
    -- a task that moves is at another stage
    pub moved : (u : Option ℕ) (f : CellStage → CellStage)
        → x.words.own t ≡ u
        → stage_there t (phase_sort p) u p held home ≡ f (stage (core_of r).cells t)
        → core_shown cells r.born r.maker y
        ≡ record (restage (core_of r) t f) { others = y.words.others; cleared = total y.seats.cleared }
    moved u f owns fits = ap (shown_by r.born r.maker) m.parts
        ∙ restaged r.born r.maker (parts_of cells x) t p held home y.words.others (total y.seats.cleared) f there out
        m.made ((λ j. stage_there t (phase_sort p) (owns j) p held home)
        ∙ (fits ∙ ap f (stage_out r.born r.maker (parts_of cells x) t there out)))

    -- so the step is the event that does this
    pub moved_event : (u : Option ℕ) (f : CellStage → CellStage) (e : Event) (others cleared : ℕ)
        → x.words.own t ≡ u
        → stage_there t (phase_sort p) u p held home ≡ f (stage (core_of r).cells t)
        → Allowed cells (core_of r) e
        → after (core_of r) e ≡ record (restage (core_of r) t f) { others = others; cleared = cleared }
        → y.words.others ≡ others
        → total y.seats.cleared ≡ cleared
        → ShowsEvent cells r.born r.maker x y e r.born r.maker
    moved_event u f e others cleared owns fits may is same_others same_cleared = record {
      allowed = may;
      shown = moved u f owns fits
          ∙ ((λ j. record (restage (core_of r) t f) { others = same_others j; cleared = same_cleared j }) ∙ sym is);
    }

    -- where the stage is as it was, the step shows nothing
    pub moved_nothing : (u : Option ℕ)
        → x.words.own t ≡ u
        → stage_there t (phase_sort p) u p held home ≡ stage (core_of r).cells t
        → y.words.others ≡ x.words.others
        → total y.seats.cleared ≡ total x.seats.cleared
        → ShowsNothing cells r.born r.maker x y
    moved_nothing u owns fits same_others same_cleared =
        moved u (λ st. st) owns fits
        ∙ (λ j. record {
          count = drawn_in cells x;
          cells = sym (put_self (core_of r).cells t ((core_of r).cells t) refl) j;
          others = same_others j;
          cleared = same_cleared j;
        })

  module _ (id : ℕ) (k k' : Custody B) (h : IsHeldWith x id t k)
      (s : IsMoved cells x y t (phase_of k'.does) (Some k') (home_of y t)) (begun : IsBegun (phase_of k.does)) where
    pub turned_out : hand_in x.seats.hands t ≡ None
    turned_out = begun_out r t (subst IsBegun (sym (custody r id t k h).does) begun)

    -- a held task that turns from one thing to another is the event that does this
    pub turned_event : (u : ℕ) (f : CellStage → CellStage) (e : Event) (others cleared : ℕ)
        → x.words.own t ≡ Some u
        → does_shown t k'.does ≡ f (does_shown t k.does)
        → Allowed cells (core_of r) e
        → after (core_of r) e ≡ record (restage (core_of r) t f) { others = others; cleared = cleared }
        → y.words.others ≡ others
        → total y.seats.cleared ≡ cleared
        → ShowsEvent cells r.born r.maker x y e r.born r.maker
    turned_event u f e others cleared owns fits =
        moved_event (phase_of k'.does) (Some k') (home_of y t) s (held_drawn r id t k h) turned_out
        (Some u) f e others cleared owns
        (does_stage_there t u k' (home_of y t) k'.does refl
        ∙ (fits ∙ ap f (sym (stage_held r id t k h u turned_out owns))))
