-- A task without its notes and its stand asks what it asks with them.
use Rattle.std.proofs.Common.{◌≡◌, Bool, true, refl, sym}
use Rattle.tj_body.specs.Asks.{Obeys}
use Rattle.tj_body.specs.Programs.{rules_of}
use Rattle.tj_body.specs.SeenAs.{ask_as, AreSeenAs}
use Rattle.tj_body.specs.declared.ask.Answer.{Answer}
use Rattle.tj_body.specs.declared.ask.Ask.{Ask}
use Rattle.tj_body.specs.declared.ask.Ask.TheVariants as ask
use Rattle.tj_body.proofs.SeenAs.{obeys_seen}
use Rattle.tj_eval.specs.Statements.{TaskState}
use Rattle.tj_eval.specs.Bodies.{script_places, script_awaits, script_left, script_asks, script_then}
use Rattle.tj_eval.specs.Stands.{placed}
use Rattle.tj_eval.specs.Inner.Laws.{script_obeys}
use Rattle.tj_trace.specs.Logs.{Logged, logged, erased, logged_places, logged_awaits, logged_left, logged_asks}
use Rattle.tj_trace.specs.Logs.{logged_then}

erased_ask : (f : _) (q : Ask TaskState) → ask_as erased (ask_as logged (ask_as (placed f) q)) ≡ q
erased_ask f ask.New = refl
erased_ask f q = refl

-- tasks with notes are seen as the tasks that are there
pub are_seen : (strict : Bool) → AreSeenAs erased
    (rules_of logged_places logged_awaits logged_left logged_asks logged_then strict)
    (rules_of script_places script_awaits script_left script_asks script_then strict)
are_seen strict = record {
  strict = refl;
  places = λ b. refl;
  awaits = λ b. refl;
  left = λ b. refl;
  asks = λ b a. sym (erased_ask _ (script_asks b.placed.task a));
  then = λ b a. refl;
}

-- the laws of one ask
pub logged_obeys : (x : Logged) (a : Answer)
    → Obeys logged_places logged_awaits logged_left logged_asks logged_then x a
logged_obeys x a = obeys_seen erased (rules_of logged_places logged_awaits logged_left logged_asks logged_then true)
    (rules_of script_places script_awaits script_left script_asks script_then true) (are_seen true) x a
    (script_obeys x.placed.task a)
