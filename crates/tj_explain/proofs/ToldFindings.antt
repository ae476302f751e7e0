-- What is told in words of a run is a list of findings, which explains the run.
use Rattle.std.proofs.Common.{◌≡◌, ◌↔◌, ℕ, ◌≤◌, Bool, true, false, not, cond, List, [], ◌∷◌, map, length, Option}
use Rattle.std.proofs.Common.{Some, None, refl, sym, ap, subst, ◌∙◌, inl, inr, arith}
use Rattle.std.specs.List.{flat_map, list_any}
use Rattle.std.specs.Option.{option_map}
use Rattle.std.proofs.lemmas.List.{length-map}
use Rattle.std.proofs.lemmas.List.Sorted.{IsPermutation-sym}
use Rattle.tj_base.specs.ForkOrder.{Name}
use Rattle.tj_base.specs.declared.cause.Cause.{Cause}
use Rattle.tj_base.specs.declared.cause.Cause.TheVariants as cause
use Rattle.tj_base.specs.declared.cell.TheConstants.{MAX_CELLS}
use Rattle.tj_body.specs.Asks.{IsFresh}
use Rattle.tj_body.specs.Points.{IsIn}
use Rattle.tj_body.specs.Rounds.{IsFull, meaning}
use Rattle.tj_body.specs.declared.point.Point.{Point}
use Rattle.tj_body.proofs.Lists.{to_map}
use Rattle.tj_command.specs.Limits.{AreLimits}
use Rattle.tj_command.specs.Statuses.{status_of}
use Rattle.tj_command.specs.declared.status.Status.{Status}
use Rattle.tj_command.specs.declared.status.Status.TheVariants.{Full, Script, Usage}
use Rattle.tj_eval.specs.Bodies.{script_awaits, script_left, script_places}
use Rattle.tj_eval.specs.Inner.Laws.{fresh-main}
use Rattle.tj_eval.specs.Stands.{IsPlacedMain, PlacedState}
use Rattle.tj_eval.specs.Statements.{TaskState}
use Rattle.tj_eval.proofs.Programs.{few-script}
use Rattle.tj_lex.specs.declared.token.Tok.{Tok}
use Rattle.tj_lex.specs.declared.token.Token.{Token}
use Rattle.tj_mean.specs.Outcomes.{IsOutcome, ending_of, is_marked, is_nil, is_troubled, is_undone, stopped_of}
use Rattle.tj_mean.specs.declared.outcome.Ending.{Ending}
use Rattle.tj_mean.specs.declared.outcome.Ending.TheVariants as ending
use Rattle.tj_mean.specs.declared.outcome.Link.{Link}
use Rattle.tj_mean.specs.declared.outcome.Outcome.{Outcome}
use Rattle.tj_mean.specs.declared.stopped.Stopped.{Stopped}
use Rattle.tj_mean.proofs.Lists.Elements.{some_is}
use Rattle.tj_mean.proofs.Lists.NameOrder.{in_unpermuted}
use Rattle.tj_mean.proofs.Outcomes.ToldOutcomes.{of_told}
use Rattle.tj_syntax.specs.Faults.{IsScript, kinds_of}
use Rattle.tj_syntax.specs.PlacesOf.{PlacesOfTask, places_of}
use Rattle.tj_syntax.specs.ScriptTexts.{IsScriptOf}
use Rattle.tj_syntax.specs.Starts.{in_tasks}
use Rattle.tj_syntax.specs.Trees.{Task}
use Rattle.tj_trace.specs.Logs.{logged_program}
use Rattle.tj_trace.specs.TraceLaws.{script_program}
use Rattle.tj_trace.specs.Traces.{AreTraced}
use Rattle.tj_trace.specs.declared.line.Maker.{Maker}
use Rattle.tj_trace.specs.declared.line.TraceLine.{TraceLine}
use Rattle.tj_trace.proofs.Seen.{is_of_outcome}
use Rattle.tj_forest.proofs.CellsTold.{cells_are_told_right}
use Rattle.tj_explain.proofs.CommandLimits.{within_limits}
use Rattle.tj_forest.proofs.CycleOwners.{owners_are_next}
use Rattle.tj_forest.proofs.NothingWrong.{each_fails, empty, neither, nothing_is_found}
use Rattle.tj_explain.proofs.OneOutput.{not_marked}
use Rattle.tj_forest.proofs.Forests.{holds_each}
use Rattle.tj_explain.proofs.InOrder.{empty_there, explains_there}
use Rattle.tj_forest.proofs.Found.{IsOf, a_cycle, a_debt, a_failure, a_wait, an_echo, is_of}
use Rattle.tj_forest.proofs.Origins.{have_origins, other_cause}
use Rattle.tj_forest.proofs.TasksTold.{tasks_are_of_histories}
use Rattle.tj_forest.proofs.Placed.{tasks_are_told_right}
use Rattle.tj_explain.proofs.Readings.{one_command}
use Rattle.tj_forest.proofs.ToldOnce.{tells_each_once}
use Rattle.tj_forest.proofs.ReasonsTold.{reasons_are_told}
use Rattle.tj_forest.proofs.WentsRight.{promises_went_there}
use Rattle.tj_forest.specs.CellsTold.{cells_named}
use Rattle.tj_forest.specs.Consequences.{ConsequencesFollow, IsInOrder}
use Rattle.tj_forest.specs.Explanations.{OwedIt, StoppedSo, WaitsLeadToToldCycles}
use Rattle.tj_findings.specs.Findings.{findings_of, maker_named, told_task}
use Rattle.tj_findings.specs.Forests.{Forest, findings_in, forest_of}
use Rattle.tj_findings.specs.Scenes.{Told}
use Rattle.tj_explain.specs.Tellings.{fine_told, why_text}
use Rattle.tj_explain.specs.ToldFindings.{Explains, IsExplained, TellsFindings, TextsTellFindings}
use Rattle.tj_explain.specs.ToldFindings.{findings_told, forest_told, own_places}
use Rattle.tj_explain.specs.WhyOutput.{IsCommandOutput, IsToldRun, ended, needs_more, of_command, scene_of}
use Rattle.tj_explain.specs.WhyOutput.{usage, was_fine}
use Rattle.tj_findings.specs.declared.finding.Finding.{Finding}
use Rattle.tj_findings.specs.declared.finding.Finding.TheVariants as finding
use Rattle.tj_findings.specs.declared.finding.ToldTask.{ToldTask}
use Rattle.tj_explain.specs.declared.line.WhyCommand.{WhyCommand}
use Rattle.tj_explain.specs.declared.telling.Telling.{Telling}
use Rattle.tj_explain.specs.declared.telling.Telling.TheVariants as telling

-- other statuses aren't that of an outcome
no_usage : (marked : Bool) → Usage ≡ status_of marked → ⊥
no_usage true e = cc
no_usage false e = cc

no_script : (marked : Bool) → Script ≡ status_of marked → ⊥
no_script true e = cc
no_script false e = cc

pub no_full : (marked : Bool) → Full ≡ status_of marked → ⊥
no_full true e = cc
no_full false e = cc

-- the status says whether the outcome is marked
same_mark : (a b : Bool) → status_of a ≡ status_of b → a ≡ b
same_mark true true e = refl
same_mark false false e = refl
same_mark true false e = absurd (cc)
same_mark false true e = absurd (cc)

-- the body of `main` is fresh
fresh_root : (script : List Task) (tokens : List Tok) (steps : ℕ) (root : PlacedState) → IsScript tokens script
    → steps ≤ 1000000 → IsPlacedMain script steps root
    → IsFresh script_places script_awaits script_left 1 root.task
fresh_root script tokens steps root is few main =
    subst (λ b. IsFresh script_places script_awaits script_left 1 b) (sym main.0.2)
    (fresh-main script steps main.0.0 (few-script tokens script is) (omega arith))

-- a failure that isn't told as an echo is none
no_echo : (lines : List TraceLine) (cycles : List (List Link)) (t : ToldTask) (c : Cause) (m : Option Maker)
    → IsOf lines cycles (finding.Failed t c m) → (q : Name) → c ≡ cause.Broken q → ⊥
no_echo lines cycles t c m (a_cycle ks j e) q is = absurd (cc)
no_echo lines cycles t c m (a_wait l j p s e) q is = absurd (cc)
no_echo lines cycles t c m (a_failure l j d s none e) q is =
    other_cause d q none (same d (told_task lines l) (maker_named lines d) e ∙ is) where
      same : (d : Cause) (u : ToldTask) (o : Option Maker) → finding.Failed t c m ≡ finding.Failed u d o → d ≡ c
      same d u o e = cc
no_echo lines cycles t c m (a_debt l j p k e) q is = absurd (cc)
no_echo lines cycles t c m (an_echo l j p s e) q is = absurd (cc)

-- what is told to have made a cell comes with a cause that names one
no_maker : (lines : List TraceLine) (cycles : List (List Link)) (t : ToldTask) (c : Cause) (m : Option Maker)
    → IsOf lines cycles (finding.Failed t c m) → cells_named c m ≡ [] → m ≡ None
no_maker lines cycles t c m (a_cycle ks j e) is = absurd (cc)
no_maker lines cycles t c m (a_wait l j p s e) is = absurd (cc)
no_maker lines cycles t c m (a_failure l j d s none e) is =
    by c (same_maker d (told_task lines l) (maker_named lines d) e
    ∙ ap (maker_named lines) (same_cause d (told_task lines l) (maker_named lines d) e)) is where
      same_cause : (d : Cause) (u : ToldTask) (o : Option Maker) → finding.Failed t c m ≡ finding.Failed u d o → d ≡ c
      same_cause d u o e = cc

      same_maker : (d : Cause) (u : ToldTask) (o : Option Maker) → finding.Failed t c m ≡ finding.Failed u d o → m ≡ o
      same_maker d u o e = cc

      by : (c : Cause) → m ≡ maker_named lines c → cells_named c m ≡ [] → m ≡ None
      by cause.Arith e is = e
      by cause.Kind e is = e
      by cause.Steps e is = e
      by (cause.Owner q) e is = absurd (cc)
      by (cause.Broken q) e is = absurd (cc)
      by (cause.Order q) e is = absurd (cc)
no_maker lines cycles t c m (a_debt l j p k e) is = absurd (cc)
no_maker lines cycles t c m (an_echo l j p s e) is = absurd (cc)

-- findings as they are told
all_told : (s : Told) (kind : Telling) (forest : Forest) (fs : List Finding) (n : ℕ) (marked : Bool)
    → (fs ≡ []) ↔ (marked ≡ false)
    → cond marked (forest_told s kind forest) (fine_told kind n) ≡ findings_told s kind n forest fs
all_told s kind forest [] n true is = absurd (let z : true ≡ false = is.0 refl in cc)
all_told s kind forest [] n false is = refl
all_told s kind forest (f ∷ fs) n true is = refl
all_told s kind forest (f ∷ fs) n false is = absurd (let z : f ∷ fs ≡ [] = is.1 refl in cc)

-- what lines tell is told of findings
as_told : (s : Told) (kind : Telling) (lines : List TraceLine) (o : Outcome) → TellsFindings kind
    → why_text s lines o kind
    ≡ cond (is_marked o) (forest_told s kind (forest_of s.places lines o.cycles)) (fine_told kind (length lines))
as_told s telling.Wrong lines o is = refl
as_told s telling.All lines o is = refl
as_told s telling.Dot lines o is = absurd is
as_told s telling.Json lines o is = refl

-- what is told of a history that has ended so
abbrev told_so : {B : Type 0} → Point B → Ending → Stopped
told_so p e =
    record { line = record { name = p.name; prints = p.prints; ending = e; owes = p.owed }; holds = p.holds }

-- what an outcome tells of a history
line_of_point : {B : Type 0} (p : Point B) (s : Stopped) (e : Ending) → ending_of p.stage ≡ Some e
    → stopped_of p ≡ Some s → (s.line.ending ≡ e) × (s.line.owes ≡ p.owed)
line_of_point p s e is told =
    let whole : told_so p e ≡ s = some_is (told_so p e) s (ap (option_map (told_so p)) (sym is) ∙ told) in
    (sym (ap (λ (z : Stopped). z.line.ending) whole), sym (ap (λ (z : Stopped). z.line.owes) whole))

owes_of_point : {B : Type 0} (p : Point B) (s : Stopped) → stopped_of p ≡ Some s → s.line.owes ≡ p.owed
owes_of_point p s told = by (ending_of p.stage) refl where
  by : (o : Option Ending) → ending_of p.stage ≡ o → s.line.owes ≡ p.owed
  by None e = absurd (let z : ◌≡◌ {A = Option Stopped} None (Some s) = ap (option_map (told_so p)) (sym e) ∙ told in cc)
  by (Some e) is = (line_of_point p s e is told).1

-- where an outcome isn't marked, no findings tell all
module _ (strict : Bool) (root : PlacedState) (N : ℕ) (o : Outcome)
    (out : IsOutcome (meaning (script_program strict root) N) o) (fine : is_marked o ≡ false) where
  abbrev points : List (Point TaskState)
  points = meaning (script_program strict root) N

  calm : (p : Point TaskState) → IsIn p points
      → (s : Stopped) × (stopped_of p ≡ Some s) × (is_undone s.line.ending ≡ false) × (s.line.owes ≡ [])
  calm p i =
      let s = of_told points out.0 out.1 p i in
      let j = in_unpermuted (map (λ (s : Stopped). s.line) out.0) o.lines out.2.lines s.0.line
      (to_map (λ (s : Stopped). s.line) s.0 out.0 s.1) in
      let whole = neither (not (is_nil o.cycles)) (list_any is_troubled o.lines) fine in
      let parts = neither (is_undone s.0.line.ending) (not (is_nil s.0.line.owes))
      (each_fails o.lines whole.1 s.0.line j) in
      (s.0, s.2, parts.0, empty s.0.line.owes parts.1)

  no_stop : (x : Name) (e : Ending) → is_undone e ≡ true → StoppedSo points x e → ⊥
  no_stop x e undone (p, i, n, is) =
      let c = calm p i in
      let z : is_undone e ≡ false = ap is_undone (sym (line_of_point p c.0 e is c.1).0) ∙ c.2 in
      absurd (let y : true ≡ false = sym undone ∙ z in cc)

  no_debt : (x q : Name) → OwedIt points x q → ⊥
  no_debt x q (p, i, n, j) =
      let c = calm p i in subst (IsIn q) (sym (owes_of_point p c.0 c.1) ∙ c.3) j

  pub none_tells : (script : List Task) (places : List PlacesOfTask)
      → Explains script places strict root N []
  none_tells script places = record {
    each_once = record {
      waits = λ k. ((λ i. absurd i), (λ so. absurd (no_stop k.task (ending.Waits k.cell) refl so)));
      waits_once = tt;
      failures = λ x c. ((λ i. absurd i), (λ so. absurd (no_stop x (ending.Failed c) refl so)));
      failures_once = tt;
      debts = λ x q. ((λ i. absurd i), (λ so. absurd (no_debt x q so)));
      debts_once = tt;
    };
    owners = λ waits i. absurd i;
    leads = λ w i. absurd i;
    origins = λ t q origin i. absurd i;
    failures = λ t c m i. absurd i;
    makers = λ t c m i. absurd i;
    histories = λ t i. absurd i;
    tasks = λ t i. absurd i;
    cells = λ q i. absurd i;
    went = λ t i. absurd i;
    reasons = λ t c m i. absurd i;
  }

module _ (leads : (strict : Bool) (root : PlacedState) → WaitsLeadToToldCycles strict root)
    (follow : (strict : Bool) (root : PlacedState) → ConsequencesFollow strict root) where
  -- what the lines of a run tell explains it
  lines_tell : (script : List Task) (tokens : List Token) (is : IsScript (kinds_of tokens) script)
      → (steps : ℕ) → steps ≤ 1000000 → (root : PlacedState) → IsPlacedMain script steps root
      → (strict : Bool) (N : ℕ) → N ≤ MAX_CELLS → ¬ IsFull (script_program strict root) N
      → (lines : List TraceLine) → AreTraced (logged_program strict root) N lines
      → (o : Outcome) → IsOutcome (meaning (script_program strict root) N) o
      → Explains script (places_of tokens (in_tasks is.derived 0)) strict root N (findings_of lines o.cycles)
  lines_tell script tokens is steps few root main strict N small room lines traced o out =
      let fresh = fresh_root script (kinds_of tokens) steps root is few main in record {
        each_once = tells_each_once strict root N lines o traced out;
        owners = owners_are_next strict root N lines o traced out;
        leads = λ w i. leads strict root N lines o fresh room traced out w i;
        origins = have_origins strict root N lines o small traced out;
        failures = λ t c m i. no_echo lines o.cycles t c m (is_of lines o.cycles (finding.Failed t c m) i);
        makers = λ t c m i. no_maker lines o.cycles t c m (is_of lines o.cycles (finding.Failed t c m) i);
        histories = tasks_are_of_histories strict root N lines o traced out;
        tasks = tasks_are_told_right script steps root main tokens is.notes is.derived strict N lines o traced out;
        cells = cells_are_told_right script steps root main fresh tokens is.notes is.derived strict N lines o room
            traced out;
        went = promises_went_there script steps root main fresh tokens is.notes is.derived strict N lines o room traced
            out;
        reasons = reasons_are_told script steps root main (kinds_of tokens) is strict N lines o.cycles traced;
      }

  module _ (command : WhyCommand) (limits : AreLimits command.limits) (tells : TellsFindings command.telling)
      (input : List ℕ) where
    abbrev cells : ℕ
    cells = command.limits.cells

    abbrev strict : Bool
    strict = command.limits.strict

    of_run : (script : List Task) (is : IsScriptOf input script) (root : PlacedState)
        → IsPlacedMain script command.limits.steps root → (marked : Bool) (status : Status) (text : List ℕ)
        → IsToldRun command input script is.tokens root status text → status ≡ status_of marked
        → IsExplained command input marked text
    of_run script is root main marked _ _ (needs_more most places full made placed) e = absurd (no_full marked e)
    of_run script is root main marked _ _ (was_fine o room out plain) e =
        let unmarked : marked ≡ false = same_mark marked false (sym e) in record {
          script = script;
          is = is;
          root = root;
          main = main;
          fits = room;
          outcome = o;
          ended = out;
          forest = record { trees = []; strays = [] };
          explain = none_tells strict root cells o out (not_marked command.telling (is_marked o) plain) script
              (own_places input script is);
          order = record {
            causes = λ t i. absurd i;
            follow = λ t i g j. absurd i;
            no_strays = refl;
            turn = record {
              debts_last = λ x y p d. absurd p;
              refused_first = λ w t q m p n i. absurd p;
              cycles_first = λ t c m w p. absurd p;
            };
          };
          fine = ((λ z. unmarked), (λ z. refl));
          told = refl;
        }
    of_run script is root main marked _ _ (ended o ls ps room out traced placed) e =
        let s : List PlacesOfTask → Told = scene_of command input script in
        let forest : List PlacesOfTask → Forest = λ places. forest_of places ls o.cycles in
        let holds = holds_each ps ls o.cycles in
        let here : ps ≡ own_places input script is =
        placed is.is_script.notes script is.is_script.derived is.is_script.spells in
        let mark : is_marked o ≡ marked = same_mark (is_marked o) marked e in
        let none = nothing_is_found strict root cells ls o traced out in
        let found : (findings_in (forest ps) ≡ []) ↔ (is_marked o ≡ false) = (
          (λ z. none.0 (empty_there (findings_in (forest ps)) (findings_of ls o.cycles)
              (IsPermutation-sym (findings_of ls o.cycles) (findings_in (forest ps)) holds) z)),
          (λ z. empty_there (findings_of ls o.cycles) (findings_in (forest ps)) holds (none.1 z)),
        ) in
        let same = is_of_outcome strict root cells ls o traced out in
        let long : length ls ≡ length o.lines =
        sym (length-map ls (λ (l : TraceLine). l.line)) ∙ ap length same in record {
          script = script;
          is = is;
          root = root;
          main = main;
          fits = room;
          outcome = o;
          ended = out;
          forest = forest ps;
          explain = explains_there (findings_of ls o.cycles) (findings_in (forest ps)) holds script
              (own_places input script is) strict root cells (lines_tell script is.tokens is.is_script
              command.limits.steps limits.few_steps root main strict cells limits.few_cells room ls traced o out);
          order = subst (λ z. IsInOrder (meaning (script_program strict root) cells) z (forest ps)) here
              (follow strict root cells ps ls o limits.few_cells
              (fresh_root script (kinds_of is.tokens) command.limits.steps root is.is_script limits.few_steps main)
              room traced out);
          fine = ((λ z. sym mark ∙ found.0 z), (λ z. found.1 (mark ∙ z)));
          told = as_told (s ps) command.telling ls o tells
              ∙ all_told (s ps) command.telling (forest ps) (findings_in (forest ps)) (length ls) (is_marked o) found
              ∙ ap (λ n. findings_told (s ps) command.telling n (forest ps) (findings_in (forest ps))) long
              ∙ ap (λ z. findings_told (s z) command.telling (length o.lines) (forest ps) (findings_in (forest ps)))
              here;
        }

  -- the law
  pub texts_tell : TextsTellFindings
  texts_tell words input status text (usage none) command is tells marked e = absurd (no_usage marked e)
  texts_tell words input status text (of_command other are out) command is tells marked e =
      by (subst (λ k. IsCommandOutput k input status text) (one_command words other command are is) out) where
        by : IsCommandOutput command input status text → IsExplained command input marked text
        by (inl fault) = absurd (no_script marked (sym fault.is_script ∙ e))
        by (inr told) =
            of_run command (within_limits words command is) tells input told.script told.is told.root told.main
            marked status text told.told e
