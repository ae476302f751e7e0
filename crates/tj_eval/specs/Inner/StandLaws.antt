-- The laws of one ask, for a task that knows where it stands: they are those of the task.
use Rattle.std.proofs.Common.{◌≡◌, Bool, true, refl, sym, ap}
use Rattle.tj_body.specs.Asks.{Obeys}
use Rattle.tj_body.specs.Programs.{Rules, rules_of}
use Rattle.tj_body.specs.SeenAs.{ask_as, AreSeenAs}
use Rattle.tj_body.specs.declared.ask.Answer.{Answer}
use Rattle.tj_body.specs.declared.ask.Ask.{Ask}
use Rattle.tj_body.specs.declared.ask.Ask.TheVariants as ask
use Rattle.tj_body.proofs.SeenAs.{obeys_seen}
use Rattle.tj_eval.specs.Bodies.{script_places, script_awaits, script_left, script_asks, script_then}
use Rattle.tj_eval.specs.Stands.{PlacedState, erased, placed, placed_places, placed_awaits, placed_left, placed_asks}
use Rattle.tj_eval.specs.Stands.{placed_then, stand_next}
use Rattle.tj_eval.specs.Inner.Laws.{script_obeys}

-- Bodies with more to them are seen as the bodies in them where they ask the same, with the same put around what they
-- fork, and go on as these do.
module _ {B C : Type 0} (e : B → C) (inner : Rules C) (wrap : B → Answer → C → B) (next : B → Answer → B)
    (same : (b : B) (a : Answer) (c : C) → e (wrap b a c) ≡ c)
    (goes_on : (b : B) (a : Answer) → inner.then (e b) a ≡ e (next b a)) where
  -- what is taken off again is as it was
  unwrapped : (b : B) (a : Answer) (q : Ask C) → q ≡ ask_as e (ask_as (wrap b a) q)
  unwrapped b a (ask.Fork c pass hand) = ap (λ z. ask.Fork z pass hand) (sym (same b a c))
  unwrapped b a q = refl

  -- so they are seen
  pub wrapped_seen : AreSeenAs e (rules_of (λ b. inner.places (e b)) (λ b. inner.awaits (e b))
      (λ b. inner.left (e b)) (λ b a. ask_as (wrap b a) (inner.asks (e b) a)) next inner.strict) inner
  wrapped_seen = record {
    strict = refl;
    places = λ b. refl;
    awaits = λ b. refl;
    left = λ b. refl;
    asks = λ b a. unwrapped b a (inner.asks (e b) a);
    then = goes_on;
  }

-- placed tasks are seen as the tasks that are there
pub are_seen : (strict : Bool) → AreSeenAs erased
    (rules_of placed_places placed_awaits placed_left placed_asks placed_then strict)
    (rules_of script_places script_awaits script_left script_asks script_then strict)
are_seen strict = wrapped_seen erased
    (rules_of script_places script_awaits script_left script_asks script_then strict)
    (λ x a. placed (stand_next x.task a x.stand).called) placed_then (λ x a t. refl) (λ x a. refl)

-- the laws of one ask
pub placed_obeys : (x : PlacedState) (a : Answer)
    → Obeys placed_places placed_awaits placed_left placed_asks placed_then x a
placed_obeys x a = obeys_seen erased (rules_of placed_places placed_awaits placed_left placed_asks placed_then true)
    (rules_of script_places script_awaits script_left script_asks script_then true) (are_seen true) x a
    (script_obeys x.task a)
