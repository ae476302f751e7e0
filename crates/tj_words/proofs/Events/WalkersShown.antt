-- What the core state shows of a task that a seat's view has walking or alarmed.
use Rattle.tj_words.proofs.Prelude.{Bool, Custody, IsBegun, Key, Option, Program, Rec, Rule, Some, State, View, Waiting}
use Rattle.tj_words.proofs.Prelude.{Walk, Walker, Way, alarmed, ap, cell, contents_of, get_elem?, held_in, phase_of}
use Rattle.tj_words.proofs.Prelude.{some, stage, subst, sym, waits, walks, ℕ, ◌∙◌, ◌≡◌}
use Rattle.tj_words.proofs.Lemmas.{IsHeldWith, begun_out, core_of, custody, does_shown, stage_held, waiter_owned}
use Rattle.tj_words.proofs.SeatLoads.WalkLoads.{held_by_view}
use Rattle.tj_words.specs.declared.phase.Walk.TheVariants as walk
use Rattle.tj_words.specs.declared.view.Does.TheVariants as does

module _ {B : Type 0} (program : Bool → B → Program B) (key : Key B) (s : State (Option (Rec B)) (View B))
    (r : Rule program key s) (id : ℕ) (v : View B) (at : get_elem? s.views id ≡ some v) (t : ℕ) (k : Custody B)
    (held : held_in v.tasks t ≡ Some k) where
  h : IsHeldWith (contents_of s) id t k
  h = held_by_view program key s id t v at k held

  -- a task that waits is shown by what its seat has
  waits_shown : (p : ℕ) (way : Way) (w : Walk) → phase_of k.does ≡ Waiting (cell p) way w
      → stage (core_of r.law).cells t ≡ does_shown t k.does
  waits_shown p way w e = stage_held r.law id t k h owner.0
      (begun_out r.law t (subst IsBegun (sym phase) tt)) owner.1
    where
      phase : (contents_of s).words.phase t ≡ Waiting (cell p) way w
      phase = (custody r.law id t k h).does ∙ e

      owner : (u : ℕ) × ((contents_of s).words.own t ≡ Some u)
      owner = waiter_owned r.law t (cell p) way w phase

  -- one that walks is shown to walk
  pub walker_shown : (p : ℕ) (way : Way) (w : Walker) → k.does ≡ does.Walking p way w
      → stage (core_of r.law).cells t ≡ waits p way (walks w)
  walker_shown p way w e = waits_shown p way walk.Walking (ap phase_of e) ∙ ap (does_shown t) e

  -- and one that has alarmed is shown to have alarmed
  pub alarm_shown : (p : ℕ) (way : Way) (w : Walker) → k.does ≡ does.Alarmed p way w
      → stage (core_of r.law).cells t ≡ waits p way alarmed
  alarm_shown p way w e = waits_shown p way walk.Alarmed (ap phase_of e) ∙ ap (does_shown t) e
