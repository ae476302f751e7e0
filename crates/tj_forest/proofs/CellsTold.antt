-- Each cell that is told is one of the meaning, so a task made it, and its line tells where.
use Rattle.std.proofs.Common.{◌≡◌, ℕ, suc, ◌<◌, ◌*◌, ◌≤◌, Bool, true, false, cond, List, [], ◌∷◌}
use Rattle.std.proofs.Common.{Option, Some, None, length, map, refl, sym, ap, subst, ◌∙◌, inl, inr, ◌⊎◌}
use Rattle.std.proofs.Common.{arith}
use Rattle.std.specs.Prelude.{slice_get}
use Rattle.std.specs.List.{flat_map}
use Rattle.std.proofs.lemmas.List.{length-append}
use Rattle.tj_base.specs.ForkOrder.{Name, child}
use Rattle.tj_base.specs.declared.cause.Cause.{Cause}
use Rattle.tj_base.specs.declared.cause.Cause.TheVariants as cause
use Rattle.tj_base.specs.declared.cell.Sort.{Sort}
use Rattle.tj_base.specs.declared.cell.Sort.TheVariants as sort
use Rattle.tj_body.specs.Asks.{IsFresh}
use Rattle.tj_body.specs.History.{Assignment, history}
use Rattle.tj_body.specs.Names.{same}
use Rattle.tj_body.specs.Points.{IsIn, IsProper}
use Rattle.tj_body.specs.Programs.{AreLawful, Program, root_task}
use Rattle.tj_body.specs.RoundPoints.{InRounds, IsNamed, IsOfRounds}
use Rattle.tj_body.specs.Rounds.{IsFull, cells, cells_by, given, last_round, tasks}
use Rattle.tj_body.specs.declared.point.Close.TheVariants as close
use Rattle.tj_body.specs.declared.point.Entry.TheVariants as entry
use Rattle.tj_body.specs.declared.point.Point.{Point}
use Rattle.tj_body.specs.declared.point.PointStage.{PointStage}
use Rattle.tj_body.specs.declared.point.PointStage.TheVariants as stage
use Rattle.tj_body.specs.declared.point.Task.{Task}
use Rattle.tj_body.proofs.Counts.{same_is}
use Rattle.tj_body.proofs.Lists.{from_flat_map, in_begins, in_either, in_flat_map, in_map, to_map}
use Rattle.tj_body.proofs.Proper.{root_proper}
use Rattle.tj_body.proofs.References.{WaitsNamed, waits_named}
use Rattle.tj_body.proofs.RoundPoints.{name_in_rounds, things_in_rounds, writes_become}
use Rattle.tj_body.proofs.Rounds.Rises.{entry_cell, grown, tasks_within, within}
use Rattle.tj_body.proofs.Rounds.Settles.{is_last}
use Rattle.tj_eval.specs.Bodies.{script_awaits, script_left, script_places}
use Rattle.tj_eval.specs.Stands.{PlacedState, StandsRight}
use Rattle.tj_mean.specs.Outcomes.{ending_of}
use Rattle.tj_mean.specs.declared.outcome.Ending.{Ending}
use Rattle.tj_mean.specs.declared.outcome.Ending.TheVariants as ending
use Rattle.tj_mean.specs.declared.outcome.Link.{Link}
use Rattle.tj_mean.proofs.AtWork.CellCounts.{same_maker}
use Rattle.tj_mean.proofs.Lists.Elements.{get_in, some_is}
use Rattle.tj_lex.specs.declared.token.Token.{Token}
use Rattle.tj_syntax.specs.Grammar.{IsProgram}
use Rattle.tj_syntax.specs.Marks.{Noted}
use Rattle.tj_syntax.specs.PlacesOf.{places_of}
use Rattle.tj_syntax.specs.Starts.{in_tasks}
use Rattle.tj_trace.specs.Inner.LogLaws.{logged_obeys}
use Rattle.tj_trace.specs.Logs.{Logged, logged_left, logged_program}
use Rattle.tj_trace.specs.Lookups.{made_by}
use Rattle.tj_trace.specs.MadeAt.{made_until, placed_program}
use Rattle.tj_trace.specs.RightLines.{IsMadeIn}
use Rattle.tj_trace.specs.SpotLaws.{HasPlace}
use Rattle.tj_trace.specs.TraceLaws.{script_program}
use Rattle.tj_trace.specs.Traces.{AreTraced}
use Rattle.tj_trace.specs.declared.line.Maker.{Maker}
use Rattle.tj_trace.specs.declared.line.TraceLine.{TraceLine}
use Rattle.tj_trace.proofs.HasLines.{HasLine, line_is, line_name, of_line, to_line}
use Rattle.tj_trace.proofs.LinesPlaced.{lines_have_places}
use Rattle.tj_trace.proofs.LinesRight.{lines_are_forked, lines_are_right}
use Rattle.tj_trace.proofs.MadeThere.{lines_are_of_stands}
use Rattle.tj_trace.proofs.Noted.{notes_are_whole}
use Rattle.tj_trace.proofs.OwnersOne.{owes_written}
use Rattle.tj_trace.proofs.Seen.{is_full_alike}
use Rattle.tj_forest.proofs.BrokenCells.{names_broken}
use Rattle.tj_forest.proofs.Found.{IsOf, a_cycle, a_debt, a_failure, a_wait, an_echo, is_of}
use Rattle.tj_forest.proofs.LineNumbers.{found_there}
use Rattle.tj_forest.proofs.NotedThings.{same_number, thing_at}
use Rattle.tj_forest.proofs.NamedCells.{CauseNamed, FailsNamed, fails_named}
use Rattle.tj_forest.proofs.Origins.{closed_of}
use Rattle.tj_forest.proofs.Placed.{found_in, main_right, maker_in, of_lines, split_name}
use Rattle.tj_forest.proofs.PlacedTasks.{of_placed}
use Rattle.tj_forest.proofs.ToldOnce.{link_says}
use Rattle.tj_forest.specs.CellsTold.{CellsAreToldRight, IsCellToldRight, cells_in, cells_named, named_in, task_cell}
use Rattle.tj_forest.specs.Positions.{tasks_in}
use Rattle.tj_findings.specs.declared.finding.ToldTask.{ToldTask}
use Rattle.tj_findings.specs.Findings.{findings_of, link_wait, maker_named, told_cell, wait_by}
use Rattle.tj_findings.specs.Searches.{last_number, line_of, maker_name, maker_of}
use Rattle.tj_findings.specs.declared.finding.Finding.{Finding}
use Rattle.tj_findings.specs.declared.finding.ToldCell.{ToldCell}
use Rattle.tj_findings.specs.declared.finding.Wait.{Wait}

some_length : (x : Name) (k : ℕ) → 0 < length (child x k)
some_length x k = let a = length-append x (k ∷ []) in omega arith

-- a thing is none of the root
no_root : (x : Name) (k : ℕ) → child x k ≡ [] → ⊥
no_root x k e = let l = ap (λ (z : Name). length z) e in let a = some_length x k in absurd (omega arith)

-- who made a thing is looked up by the two parts of its name
looked_up : (lines : List TraceLine) (x : Name) (k : ℕ) → maker_of lines (child x k) ≡ made_by (line_of lines x) k
looked_up lines x k = by (child x k) refl where
  by : (q : Name) → q ≡ child x k → maker_of lines q ≡ made_by (line_of lines x) k
  by [] e = absurd (no_root x k (sym e))
  by (y ∷ ys) e =
      let split = split_name (y ∷ ys) (omega arith) in
      let both : child (maker_name (y ∷ ys)) (last_number (y ∷ ys)) ≡ child x k = sym split ∙ e in
      ap (λ z. made_by (line_of lines z) (last_number (y ∷ ys)))
      (same_maker (maker_name (y ∷ ys)) x (last_number (y ∷ ys)) k both)
      ∙ ap (made_by (line_of lines x)) (same_number (maker_name (y ∷ ys)) x (last_number (y ∷ ys)) k both)

-- a task that is told to wait waits
waiting_of : (z : PointStage) (q : Name) → ending_of z ≡ Some (ending.Waits q)
    → (spare : Bool) × (z ≡ stage.Waits q spare)
waiting_of (stage.Answered a) q e = absurd (cc)
waiting_of (stage.Closed (close.Done v)) q e = absurd (cc)
waiting_of (stage.Closed (close.Failed d)) q e = absurd (cc)
waiting_of (stage.Waits x spare) q e = (spare, same x q e) where
  same : (x q : Name) → ◌≡◌ {A = Option Ending} (Some (ending.Waits x)) (Some (ending.Waits q))
      → stage.Waits x spare ≡ stage.Waits q spare
  same x q e = cc

-- what is found by a name has it
named_by : (x : Name) (l : TraceLine) (ls : List TraceLine) → line_of ls x ≡ Some l → l.line.name ≡ x
named_by x l [] e = absurd (cc)
named_by x l (m ∷ ms) e = by (same m.line.name x) refl e (named_by x l ms) where
  by : (b : Bool) → same m.line.name x ≡ b → cond b (Some m) (line_of ms x) ≡ Some l
      → (line_of ms x ≡ Some l → l.line.name ≡ x) → l.line.name ≡ x
  by true is e rest = ap (λ (z : TraceLine). z.line.name) (sym (some_is m l e)) ∙ same_is m.line.name x is
  by false is e rest = rest e

module _ (strict : Bool) (root : PlacedState) (fresh : IsFresh script_places script_awaits script_left 1 root.task)
    (N : ℕ) (room : ¬ IsFull (script_program strict root) N) (lines : List TraceLine)
    (traced : AreTraced (logged_program strict root) N lines) where
  abbrev program : Program Logged
  program = logged_program strict root

  abbrev n : ℕ
  n = last_round N

  abbrev V : ℕ → Assignment
  V m = given program m

  abbrev at : Task Logged → Point Logged
  at t = history program.rules (V n) t

  obeys : AreLawful program.rules
  obeys = logged_obeys

  proper : IsProper program.rules (root_task program.root)
  proper = root_proper program (record { has_places = fresh.has_places; begins = fresh.begins; ends = fresh.ends })

  -- a cell of some round is one of the last
  at_last : (q : Name) → InRounds program q → IsIn q (cells program n)
  at_last q r = (((is_last program N (λ full. room ((is_full_alike strict root N).0 full))).0 r.0).2) q r.1

  in_rounds : (s : Sort) (q : Name) → IsNamed program s q → InRounds program q
  in_rounds sort.Task q h = subst (InRounds program) h.2 (name_in_rounds program h.0 h.1)
  in_rounds sort.Promise q h = (things_in_rounds program obeys proper h.0 h.1).0 q h.2

  -- how the task of a line stands in the end
  told : (l : TraceLine) (t : Task Logged) → HasLine strict root N t l → (e : Ending) → l.line.ending ≡ e
      → ending_of (at t).stage ≡ Some e
  told l t h e is =
      let k = line_is (at t) l h.is in
      k.1 ∙ ap (λ z. Some z) (ap (λ (z : TraceLine). z.line.ending) k.2 ∙ is)

  of_wait : (l : TraceLine) → IsIn l lines → (q : Name) → l.line.ending ≡ ending.Waits q → IsIn q (cells program n)
  of_wait l i q is =
      let t = of_line strict root N lines traced l i in
      let w = waiting_of (at t.0).stage q (told l t.0 t.1 (ending.Waits q) is) in
      let named : WaitsNamed (IsNamed program) (stage.Waits q w.0) =
      subst (WaitsNamed (IsNamed program)) w.1
      (waits_named program obeys proper n t.0 (tasks_within program n (suc n) (omega arith) t.0 t.1.there)
      (2 * suc (logged_left t.0.body))) in
      at_last q (in_rounds named.0 q named.1)

  -- what a failure names
  pub of_failure : (l : TraceLine) → IsIn l lines → (c : Cause) → l.line.ending ≡ ending.Failed c
      → CauseNamed (IsNamed program) c
  of_failure l i c is =
      let t = of_line strict root N lines traced l i in
      subst (FailsNamed (IsNamed program)) (closed_of (at t.0).stage c (told l t.0 t.1 (ending.Failed c) is))
      (fails_named program obeys proper n t.0 (tasks_within program n (suc n) (omega arith) t.0 t.1.there)
      (2 * suc (logged_left t.0.body)))

  of_debt : (l : TraceLine) → IsIn l lines → (q : Name) → IsIn q l.line.owes → IsIn q (cells program n)
  of_debt l i q owed =
      let t = of_line strict root N lines traced l i in
      let k = line_is (at t.0) l t.1.is in
      let steps = 2 * suc (logged_left t.0.body) in
      let j = subst (IsIn q) (sym (ap (λ (z : TraceLine). z.line.owes) k.2)) owed in
      let w = owes_written program.rules (V n) t.0 steps q j in
      let r : IsOfRounds program (at t.0) = (t.0, (n, t.1.there), (n, (steps, refl))) in
      let b = writes_become program obeys proper (at t.0) q entry.Broken r w in
      at_last q (b.0, entry_cell program b.0 q entry.Broken b.1)

  of_echo : (l : TraceLine) → IsIn l lines → (q : Name) → l.line.ending ≡ ending.Failed (cause.Broken q)
      → IsIn q (cells program n)
  of_echo l i q is =
      let t = of_line strict root N lines traced l i in
      let stopped = closed_of (at t.0).stage (cause.Broken q) (told l t.0 t.1 (ending.Failed (cause.Broken q)) is) in
      entry_cell program n q entry.Broken
      (names_broken program.rules (V n) t.0 (2 * suc (logged_left t.0.body)) q stopped)

  -- what made a cell of the meaning is told
  module _ (right : StandsRight root) where
    by_note : (l : TraceLine) → IsIn l lines → (q : Name)
        → (k : ℕ) × (m : Maker) × (q ≡ child l.line.name (suc k)) × (slice_get l.makers k ≡ Some m)
        → (o : Maker) × (maker_of lines q ≡ Some o)
    by_note l i q (k, m, e, f) =
        let g = get_in lines l i in
        let found = found_there l.line.name lines traced.in_name_order g.0 l g.1 refl in
        (m, ap (maker_of lines) e ∙ looked_up lines l.line.name (suc k) ∙ ap (λ o. made_by o (suc k)) found ∙ f)

    made_of : (m : ℕ) → suc m ≤ n → (q : Name) → ¬ (q ≡ []) → IsIn q (cells program (suc m))
        → (o : Maker) × (maker_of lines q ≡ Some o)
    made_of m few q some i = by from.2 where
      from : (t : Task Logged) × IsIn t (tasks program (suc m)) × IsIn q (cells_by program.rules (V m) t)
      from = from_flat_map (cells_by program.rules (V m)) q (tasks program (suc m)) i

      u : Task Logged
      u = from.0

      there : IsIn u (tasks program n)
      there = tasks_within program (suc m) n few u from.1

      l : (l : TraceLine) × IsIn l lines × HasLine strict root N u l
      l = to_line strict root N lines traced u there

      named : l.0.line.name ≡ u.name
      named = line_name strict root N u l.0 l.2

      by : IsIn q (cells_by program.rules (V m) u) → (o : Maker) × (maker_of lines q ≡ Some o)
      by (inl e) =
          let split = split_name q (positive q some) in
          let f = (lines_are_forked strict root N lines right traced l.0 l.1).1 (maker_name q) (last_number q)
          (named ∙ sym e ∙ split) in
          (f.maker, ap (maker_of lines) split ∙ looked_up lines (maker_name q) (last_number q) ∙ f.is_found)
        where
          positive : (q : Name) → ¬ (q ≡ []) → 0 < length q
          positive [] some = absurd (some refl)
          positive (x ∷ xs) some = omega arith
      by (inr j) =
          let k = in_begins q (history program.rules (V m) u).promises (at u).promises
          (grown program.rules (V m) (V n) (within program m n (omega arith)) u).2 j in
          let p = at u in
          let notes = notes_are_whole strict root N p l.0 (to_map at u (tasks program n) there) l.2.is in
          by_note l.0 l.1 q (thing_at sort.Promise l.0.line.name l.0.makers q
          (subst (IsIn q) (sym notes.all_promises) k))

    -- a cell of the meaning is told right
    cell_right : (tokens : List Token) (notes : List Noted) (derived : IsProgram notes root.task.script) (q : Name)
        → IsIn q (cells program n)
        → IsCellToldRight root.task.script (places_of tokens (in_tasks derived 0)) (placed_program strict root) N
        (told_cell lines q)
    cell_right tokens notes derived q i = record {
      root = unmade;
      made = made;
      is_task = is_task;
      stood = stood;
    } where
      unmade : q ≡ [] → maker_of lines q ≡ None
      unmade e = ap (maker_of lines) e

      found : ¬ (q ≡ []) → (o : Maker) × (maker_of lines q ≡ Some o)
      found some = let z : n ≡ suc (2 * N) = omega arith in
          made_of (2 * N) (omega arith) q some (subst (λ k. IsIn q (cells program k)) z i)

      made : ¬ (q ≡ []) → (m : Maker) × (maker_of lines q ≡ Some m) × IsMadeIn root.task.script m.decl m
          × HasPlace (places_of tokens (in_tasks derived 0)) m.decl m.at
      made some =
          let f = found some in
          let l = maker_in lines q f.0 f.1 in
          let is = (lines_are_right strict root N lines right traced l.0 l.1).makers f.0 l.2 in
          let own : l.0.decl ≡ f.0.decl = sym is.own in (
            f.0,
            f.1,
            subst (λ d. IsMadeIn root.task.script d f.0) own is,
            (lines_have_places strict root N lines right traced tokens notes derived l.0 l.1).1 f.0 l.2,
          )

      -- the line of the task that made the cell
      line_there : (x : Name) (k : ℕ) → q ≡ child x (suc k) → (l : TraceLine) × (line_of lines x ≡ Some l)
      line_there x k e =
          by (line_of lines x) refl where
            f : (o : Maker) × (maker_of lines q ≡ Some o)
            f = found (λ z. no_root x (suc k) (sym e ∙ z))

            by : (o : Option TraceLine) → line_of lines x ≡ o → (l : TraceLine) × (line_of lines x ≡ Some l)
            by None none =
                absurd (let z : ◌≡◌ {A = Option Maker} None (Some f.0) =
                sym (ap (maker_of lines) e ∙ looked_up lines x (suc k) ∙ ap (λ o. made_by o (suc k)) none) ∙ f.1 in cc)
            by (Some l) is = (l, is)

      is_task : (x : Name) (k : ℕ) → q ≡ child x (suc k)
          → (t : Task PlacedState) × IsIn t (tasks (placed_program strict root) n) × (t.name ≡ x)
      is_task x k e =
          let l = line_there x k e in
          let u = of_placed strict root N lines traced l.0
          (found_in (λ (l : TraceLine). same l.line.name x) lines l.0 l.1) in
          (u.0, u.1, sym u.2 ∙ named_by x l.0 lines l.1)

      stood : (x : Name) (k : ℕ) → q ≡ child x (suc k) → (t : Task PlacedState)
          → IsIn t (tasks (placed_program strict root) n) → t.name ≡ x
          → let p = placed_program strict root in
          slice_get (made_until p.rules (given p n) t (2 * suc (p.rules.left t.body))) k ≡ maker_of lines q
      stood x k e t there name =
          let l = line_there x k e in
          let j = found_in (λ (l : TraceLine). same l.line.name x) lines l.0 l.1 in
          let line = lines_are_of_stands strict root N lines traced l.0 j t there
          (named_by x l.0 lines l.1 ∙ sym name) in
          ap (λ ms. slice_get ms k) (sym line.makers)
          ∙ sym (ap (maker_of lines) e ∙ looked_up lines x (suc k) ∙ ap (λ o. made_by o (suc k)) l.1)

-- the law
pub cells_are_told_right : CellsAreToldRight
cells_are_told_right script steps root main fresh tokens notes derived strict N lines o room traced out q i =
    let facts = main_right script steps root main in
    let f = from_flat_map cells_in q (findings_of lines o.cycles) i in
    let told : (d : IsProgram notes root.task.script)
    → IsCellToldRight root.task.script (places_of tokens (in_tasks d 0)) (placed_program strict root) N q =
    λ d. of_name facts.0 d (either f.0 f.1 (in_either q (named_in f.0) (map task_cell (tasks_in f.0)) f.2)) in
    subst (λ s. (d : IsProgram notes s)
    → IsCellToldRight s (places_of tokens (in_tasks d 0)) (placed_program strict root) N q) facts.1 told derived
  where
    Told : Type 0
    Told = (x : Name) × IsIn x (cells (logged_program strict root) (last_round N)) × (q ≡ told_cell lines x)

    of_name : StandsRight root → (d : IsProgram notes root.task.script) → Told
        → IsCellToldRight root.task.script (places_of tokens (in_tasks d 0)) (placed_program strict root) N q
    of_name right d (x, j, e) =
        subst (IsCellToldRight root.task.script (places_of tokens (in_tasks d 0)) (placed_program strict root) N)
        (sym e) (cell_right strict root fresh N room lines traced right tokens notes d x j)

    of_link : (k : Link) → IsIn k (flat_map (λ (c : List Link). c) o.cycles) → (a : Option TraceLine) (w : Wait)
        → IsIn w (wait_by lines k.cell a) → q ≡ w.cell → Told
    of_link k there None w j e = absurd j
    of_link k there (Some l) w (inl is) e =
        let s = link_says strict root N lines o traced out k there in (
          k.cell,
          of_wait strict root fresh N room lines traced s.0 s.1 k.cell s.3,
          e ∙ ap (λ (z : Wait). z.cell) is,
        )
    of_link k there (Some l) w (inr j) e = absurd j

    of_cause : (l : TraceLine) → IsIn l lines → (c : Cause) → l.line.ending ≡ ending.Failed c
        → IsIn q (cells_named c (maker_named lines c)) → Told
    of_cause l there cause.Arith is j = absurd j
    of_cause l there cause.Kind is j = absurd j
    of_cause l there cause.Steps is j = absurd j
    of_cause l there (cause.Owner x) is (inl e) =
        let h = of_failure strict root fresh N room lines traced l there (cause.Owner x) is in (
          x,
          at_last strict root fresh N room lines traced x
              (in_rounds strict root fresh N room lines traced sort.Promise x h),
          e,
        )
    of_cause l there (cause.Broken x) is (inl e) =
        (x, of_echo strict root fresh N room lines traced l there x is, e)
    of_cause l there (cause.Order x) is (inl e) =
        let h = of_failure strict root fresh N room lines traced l there (cause.Order x) is in (
          x,
          at_last strict root fresh N room lines traced x
              (in_rounds strict root fresh N room lines traced h.0 x h.1),
          e,
        )
    of_cause l there (cause.Owner x) is (inr j) = absurd j
    of_cause l there (cause.Broken x) is (inr j) = absurd j
    of_cause l there (cause.Order x) is (inr j) = absurd j

    only : (a : ToldCell) → IsIn q (a ∷ []) → q ≡ a
    only a (inl e) = e
    only a (inr j) = absurd j

    of_finding : (f : Finding) → IsOf lines o.cycles f → IsIn q (named_in f) → Told
    of_finding f (a_cycle c there e) j =
        let w = in_map (λ (w : Wait). w.cell) q (flat_map (link_wait lines) c)
        (subst (λ g. IsIn q (named_in g)) e j) in
        let k = from_flat_map (link_wait lines) w.0 c w.1 in
        of_link k.0 (in_flat_map (λ (c : List Link). c) c k.0 o.cycles there k.1) (line_of lines k.0.task) w.0 k.2 w.2
    of_finding f (a_wait l there x is e) j = (
      x,
      of_wait strict root fresh N room lines traced l there x is,
      only (told_cell lines x) (subst (λ g. IsIn q (named_in g)) e j),
    )
    of_finding f (a_failure l there c is none e) j = of_cause l there c is (subst (λ g. IsIn q (named_in g)) e j)
    of_finding f (a_debt l there x owed e) j = (
      x,
      of_debt strict root fresh N room lines traced l there x owed,
      only (told_cell lines x) (subst (λ g. IsIn q (named_in g)) e j),
    )
    of_finding f (an_echo l there x is e) j = (
      x,
      of_echo strict root fresh N room lines traced l there x is,
      only (told_cell lines x) (subst (λ g. IsIn q (named_in g)) e j),
    )

    of_task : (t : ToldTask) → IsIn t (flat_map tasks_in (findings_of lines o.cycles)) → q ≡ task_cell t → Told
    of_task t j e =
        let l = of_lines lines o.cycles t j in
        let u = of_line strict root N lines traced l.0 l.1 in
        let p = logged_program strict root in
        let named = line_name strict root N u.0 l.0 u.1 in (
          l.0.line.name,
          subst (λ x. IsIn x (cells p (last_round N))) (sym named)
              (at_last strict root fresh N room lines traced u.0.name
              (name_in_rounds p u.0 (last_round N, u.1.there))),
          e ∙ ap task_cell l.2,
        )

    either : (f : Finding) → IsIn f (findings_of lines o.cycles)
        → IsIn q (named_in f) ⊎ IsIn q (map task_cell (tasks_in f)) → Told
    either f there (inl j) = of_finding f (is_of lines o.cycles f there) j
    either f there (inr j) =
        let t = in_map task_cell q (tasks_in f) j in
        of_task t.0 (in_flat_map tasks_in f t.0 (findings_of lines o.cycles) there t.1) t.2
