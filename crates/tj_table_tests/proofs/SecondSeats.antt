-- A free seat that has looked at a cell of which nothing has become is free still.
use Rattle.tj_run.proofs.Prelude.{Bool, IsFree, Laid, Program, SeatMe, View, [], ap, subst, sym, ℕ, ◌∙◌, ◌≡◌}
use Rattle.tj_words.specs.SeatViews.Views.{loaded_once, saw_live, saw_stop}
use Rattle.tj_run.proofs.Seats.FreeSeats.{workers_same}
use Rattle.tj_future.specs.Looks.{GoesOn}

module _ {B : Type 0} {program : Bool → B → Program B} (laid : Laid B) (p : ℕ) (me m : SeatMe B)
    (h : GoesOn program p me.0 m.0) where
  abbrev looked : View B
  looked = saw_live h.live (saw_stop 0 (loaded_once me.0))

  is_looked : m.0 ≡ looked
  is_looked = h.view ∙ ap (saw_live h.live) (h.not_stopped.view ∙ ap (saw_stop 0) h.not_stopped.nothing.view)

  pub free_still : IsFree laid me → m.1 ≡ [] → IsFree laid m
  free_still f none = subst (λ (v : View B). IsFree laid (v, m.1)) (sym is_looked) (record {
    worker = workers_same laid me.0 looked f.worker f.worker.lot f.worker.tokens;
    tasks = f.tasks;
    slots = none;
  })
