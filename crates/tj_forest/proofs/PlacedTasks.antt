-- Each line is that of a task that knows where it stands, without notes.
use Rattle.std.proofs.Common.{◌≡◌, ℕ, Bool, List, ap, refl, sym, subst, ◌∙◌}
use Rattle.tj_body.specs.Points.{IsIn}
use Rattle.tj_body.specs.Rounds.{last_round, tasks}
use Rattle.tj_body.specs.SeenAs.{AreSeenAs, ask_as, task_as}
use Rattle.tj_body.specs.declared.ask.Ask.{Ask}
use Rattle.tj_body.specs.declared.ask.Ask.TheVariants as ask
use Rattle.tj_body.specs.declared.point.Task.{Task}
use Rattle.tj_body.proofs.Lists.{in_map, to_map}
use Rattle.tj_body.proofs.SeenAs.{rounds_seen}
use Rattle.tj_eval.specs.Stands.{PlacedState, placed_asks}
use Rattle.tj_trace.specs.Logs.{logged, logged_program}
use Rattle.tj_trace.specs.MadeAt.{placed_program}
use Rattle.tj_trace.specs.Traces.{AreTraced}
use Rattle.tj_trace.specs.declared.line.TraceLine.{TraceLine}
use Rattle.tj_trace.proofs.HasLines.{line_name, of_line, to_line}
use Rattle.tj_trace.proofs.SetsThere.{place}

-- without its notes an ask is what it was
place_ask : (q : Ask PlacedState) → q ≡ ask_as place (ask_as logged q)
place_ask ask.New = refl
place_ask q = refl

-- a task with notes is seen as one without
pub placed_seen : (strict : Bool) (root : PlacedState)
    → AreSeenAs place (logged_program strict root).rules (placed_program strict root).rules
placed_seen strict root = record {
  strict = refl;
  places = λ b. refl;
  awaits = λ b. refl;
  left = λ b. refl;
  asks = λ b a. place_ask (placed_asks b.placed a);
  then = λ b a. refl;
}

-- the task of a line, without its notes
pub of_placed : (strict : Bool) (root : PlacedState) (N : ℕ) (lines : List TraceLine)
    → AreTraced (logged_program strict root) N lines → (l : TraceLine) → IsIn l lines
    → (u : Task PlacedState) × IsIn u (tasks (placed_program strict root) (last_round N)) × (l.line.name ≡ u.name)
of_placed strict root N lines traced l there =
    let k = of_line strict root N lines traced l there in
    let seen = rounds_seen place (logged_program strict root) (placed_program strict root)
    (record { rules = placed_seen strict root; root = refl }) (last_round N) in (
      task_as place k.0,
      subst (IsIn (task_as place k.0)) (sym seen.tasks)
          (to_map (task_as place) k.0 (tasks (logged_program strict root) (last_round N)) k.1.there),
      line_name strict root N k.0 l k.1,
    )

-- and each of these has a line
pub to_placed : (strict : Bool) (root : PlacedState) (N : ℕ) (lines : List TraceLine)
    → AreTraced (logged_program strict root) N lines
    → (u : Task PlacedState) → IsIn u (tasks (placed_program strict root) (last_round N))
    → (l : TraceLine) × IsIn l lines × (l.line.name ≡ u.name)
to_placed strict root N lines traced u there =
    let seen = rounds_seen place (logged_program strict root) (placed_program strict root)
    (record { rules = placed_seen strict root; root = refl }) (last_round N) in
    let t = in_map (task_as place) u (tasks (logged_program strict root) (last_round N))
    (subst (IsIn u) seen.tasks there) in
    let l = to_line strict root N lines traced t.0 t.1 in
    (l.0, l.1, line_name strict root N t.0 l.0 l.2 ∙ ap (λ (z : Task PlacedState). z.name) (sym t.2))
