-- A table that was closed with its last seat came by a run to what its words and slots are.
use Rattle.tj_words.proofs.Prelude.{AreCellsOf, Bool, Key, List, Option, Program, Rec, RestCell, View, ap, subst}
use Rattle.tj_words.proofs.Prelude.{sym, ℕ, ◌∙◌, ◌≡◌}
use Rattle.tj_log.specs.Asks.{Ended}
use Rattle.tj_log.specs.Runs.{Past, befores_of, log_of, took_befores_of, took_of}
use Rattle.tj_log.specs.Shown.{SeatShown}
use Rattle.tj_words.proofs.Calls.LoggedRuns.{ran}
use Rattle.tj_words.specs.AtRest.EndedRuns.{EndsRun, RestEndsRun}
use Rattle.tj_words.specs.AtRest.RestShown.{RestShown}
use Rattle.tj_words.specs.CallLaws.StepLogs.{table_terms}

pub ends_run : {B : Type 0} (program : Bool → B → Program B) (key : Key B) (seat : SeatShown (Option (Rec B)) (View B))
    {words : List ℕ} {slots : List (Option (Rec B))} → Ended (table_terms program key) seat words slots
    → {limit : ℕ} {strict : Bool} {root : B} → key.cells ≡ limit → key.strict ≡ strict → key.root.value ≡ root
    → {shown : List RestCell} → AreCellsOf words limit shown → EndsRun program limit strict root seat shown slots
ends_run {B = B} program key seat e {limit = limit} a b c {shown = shown} are =
    let run = ran program key e.0 e.1 e.2 in record {
      key = key;
      key_cells = a;
      key_strict = b;
      key_root = c;
      last = e.0;
      run = run.0;
      seat_is = e.3;
      log = e.4 ∙ ap (λ (q : Past (Option (Rec B)) (View B)). log_of seat.id q) (sym run.1);
      took = e.5 ∙ ap (λ (q : Past (Option (Rec B)) (View B)). took_of seat.id q) (sym run.1);
      befores = e.9 ∙ ap (λ (q : Past (Option (Rec B)) (View B)). befores_of seat.id q) (sym run.1);
      took_befores = e.10 ∙ ap (λ (q : Past (Option (Rec B)) (View B)). took_befores_of seat.id q) (sym run.1);
      shown = subst (λ w. AreCellsOf w limit shown) (sym e.6) are;
      home = e.8;
    }

-- and so it came to all words of a table closed at rest
pub rest_ends_run : {B : Type 0} (program : Bool → B → Program B) (key : Key B)
    (seat : SeatShown (Option (Rec B)) (View B)) (r : RestShown B)
    → Ended (table_terms program key) seat r.words r.records
    → {limit : ℕ} {strict : Bool} {root : B} → key.cells ≡ limit → key.strict ≡ strict → key.root.value ≡ root
    → AreCellsOf r.words limit r.cells → RestEndsRun program limit strict root seat r
unfolding ends_run
rest_ends_run program key seat r e a b c are = record { ends = ends_run program key seat e a b c are; words = e.6 }
