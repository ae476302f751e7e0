-- From what each step gives to what is told of an input.
use Rattle.std.proofs.Common.{Err, IfOk, List, Ok, Result, [], ap, inl, inr, length, refl, subst, sym, take_all}
use Rattle.std.proofs.Common.{false, ℕ, ◌∙◌, ◌≡◌, ◌≤◌, ◌⊎◌, Bool}
use Rattle.tj_base.specs.declared.memory.Oom.{Oom}
use Rattle.tj_body.specs.Rounds.{IsFull, meaning}
use Rattle.tj_command.proofs.Inputs.{read_long, read_whole}
use Rattle.tj_command.specs.Inputs.{IsReadOf}
use Rattle.tj_command.specs.Statuses.{status_of}
use Rattle.tj_command.specs.declared.output.Output.{Output}
use Rattle.tj_command.specs.declared.status.Status.{Status}
use Rattle.tj_command.specs.declared.status.Status.TheVariants.{Clean, Full, Script}
use Rattle.tj_syntax.proofs.ScriptTexts.{long_first}
use Rattle.tj_syntax.specs.ScriptTexts.{IsFirstFault, IsMemory, most_bytes}
use Rattle.tj_syntax.specs.declared.script_text.NoScript.{NoScript}
use Rattle.tj_syntax.specs.declared.script_text.NoScript.TheVariants.{Long}
use Rattle.tj_eval.specs.Stands.{IsPlacedMain, PlacedState}
use Rattle.tj_lex.specs.Positions.{position_after}
use Rattle.tj_lex.specs.Tokens.{AreTokens}
use Rattle.tj_lex.specs.declared.place.Place.{Place}
use Rattle.tj_lex.specs.declared.token.Token.{Token}
use Rattle.tj_mean.specs.Outcomes.{IsOutcome, is_marked}
use Rattle.tj_mean.specs.declared.outcome.Outcome.{Outcome}
use Rattle.tj_ports.specs.declared.source.ReadEnd.{ReadEnd}
use Rattle.tj_ports.specs.declared.source.ReadEnd.TheVariants as end
use Rattle.tj_syntax.specs.Faults.{IsScript, kinds_of}
use Rattle.tj_syntax.specs.PlacesOf.{PlacesOfTask}
use Rattle.tj_syntax.specs.Trees.{Statement, Task}
use Rattle.tj_trace.proofs.Seen.{is_full_alike}
use Rattle.tj_trace.specs.Logs.{logged_program}
use Rattle.tj_trace.specs.TraceLaws.{script_program}
use Rattle.tj_trace.specs.Traces.{AreTraced}
use Rattle.tj_trace.specs.MostMade.{IsMostMade}
use Rattle.tj_trace.specs.declared.line.TraceLine.{TraceLine}
use Rattle.tj_trace.specs.declared.most.Most.{Most}
use Rattle.tj_faults.specs.Carets.{lines_of}
use Rattle.tj_explain.specs.Tellings as tellings
use Rattle.tj_explain.specs.Tellings.{why_text}
use Rattle.tj_explain.specs.declared.telling.Telling.{Telling}
use Rattle.tj_findings.specs.Scenes.{Told, statements_of}
use Rattle.tj_explain.specs.WhyOutput.{ArePlaces, AreTokensOf, IsCommandOutput, IsToldRun, ended, needs_more, scene_of}
use Rattle.tj_explain.specs.WhyOutput.{tells_lines, was_fine}
use Rattle.tj_explain.specs.declared.line.WhyCommand.{WhyCommand}

-- what is told of a text with this fault
abbrev pub AreFault : Telling → List ℕ → List Token → NoScript → Result Output Oom → Type 0
AreFault telling text tokens fault r = IfOk r (λ output. output.status ≡ Script)
    × IfOk r (λ output. output.text.items ≡ tellings.fault_told telling text tokens fault)
    × IfOk r (λ output. ¬ IsMemory fault)

-- a fault of a text that is short enough
pub fault_told : (command : WhyCommand) (text : List ℕ) (tokens : List Token) (fault : NoScript) (r : Result Output Oom)
    → length text ≤ most_bytes → AreTokensOf text fault tokens → IsMemory fault ⊎ IsFirstFault text fault
    → AreFault command.telling text tokens fault r
    → IfOk r (λ output. IsCommandOutput command text output.status output.text.items)
fault_told command text tokens fault (Err oom) short has first told = tt
fault_told command text tokens fault (Ok output) short has (inl memory) told = absurd (told.2 memory)
fault_told command text tokens fault (Ok output) short has (inr first) told = inl (record {
  fault = fault;
  first = first;
  is_script = told.0;
  tokens = tokens;
  has_tokens = has;
  told = told.1
      ∙ ap (λ bytes. tellings.fault_told command.telling bytes tokens fault) (sym (take_all most_bytes text short));
})

-- a script
pub script_told : (command : WhyCommand) (text : List ℕ) (tokens : List Token) (script : List Task)
    (r : Result Output Oom) → length text ≤ most_bytes → AreTokens text tokens → IsScript (kinds_of tokens) script
    → IfOk r (λ output. (root : PlacedState) × IsPlacedMain script command.limits.steps root
    × IsToldRun command text script tokens root output.status output.text.items)
    → IfOk r (λ output. IsCommandOutput command text output.status output.text.items)
script_told command text tokens script (Err oom) short has is told = tt
script_told command text tokens script (Ok output) short has is told = inr (record {
  script = script;
  is = record { short = short; tokens = tokens; has_tokens = has; is_script = is };
  root = told.0;
  main = told.1;
  told = told.2;
})

-- what is told of a text is told of the input that was read whole
pub whole_told : (command : WhyCommand) (read : ReadEnd) (bytes text : List ℕ) (r : Result Output Oom)
    → read ≡ end.Whole bytes → text ≡ bytes
    → IfOk r (λ output. IsCommandOutput command text output.status output.text.items)
    → IfOk r (λ output. (all : List ℕ) → IsReadOf all read
    → IsCommandOutput command all output.status output.text.items)
whole_told command read bytes text (Err oom) is same told = tt
whole_told command read bytes text (Ok output) is same told = λ all has.
    subst (λ t. IsCommandOutput command t output.status output.text.items)
    (same ∙ read_whole bytes all (subst (IsReadOf all) is has)) told

-- an input that is too long, of which these are the first bytes
pub long_told : (command : WhyCommand) (read : ReadEnd) (bytes text : List ℕ) (at : Place) (r : Result Output Oom)
    → read ≡ end.Long bytes → text ≡ bytes → at ≡ position_after text → AreFault command.telling text [] (Long at) r
    → IfOk r (λ output. (all : List ℕ) → IsReadOf all read
    → IsCommandOutput command all output.status output.text.items)
long_told command read bytes text at (Err oom) is same position told = tt
long_told command read bytes text at (Ok output) is same position told = λ all has.
    let long = read_long bytes all (subst (IsReadOf all) is has) in
    inl (record {
      fault = Long at;
      first = long_first at all text position (same ∙ long.first) long.long;
      is_script = told.0;
      tokens = [];
      has_tokens = refl;
      told = told.1 ∙ ap (λ b. tellings.fault_told command.telling b [] (Long at)) (same ∙ long.first);
    })

module _ (command : WhyCommand) (input : List ℕ) (script : List Task) (tokens : List Token) (root : PlacedState) where
  abbrev cells : ℕ
  cells = command.limits.cells

  abbrev strict : Bool
  strict = command.limits.strict

  -- what the command looks things up in, with these statements and these lines of the text
  abbrev pub scene_by : List (List Statement) → List (List ℕ) → List PlacesOfTask → Told
  scene_by table source places = record (scene_of command input script places) { statements = table; lines = source }

  -- a run that has ended
  pub ended_told : (outcome : Outcome) (lines : List TraceLine) (table : List (List Statement))
      (source : List (List ℕ)) (places : List PlacesOfTask) (status : Status) (text : List ℕ)
      → ¬ IsFull (script_program strict root) cells
      → IsOutcome (meaning (script_program strict root) cells) outcome
      → AreTraced (logged_program strict root) cells lines → table ≡ statements_of script → source ≡ lines_of input
      → ArePlaces tokens places → status ≡ status_of (is_marked outcome)
      → text ≡ why_text (scene_by table source places) lines outcome command.telling
      → IsToldRun command input script tokens root status text
  ended_told outcome lines table source places status text fits is traced listed split placed s t =
      let told = t
      ∙ ap (λ z. why_text (scene_by z source places) lines outcome command.telling) listed
      ∙ ap (λ z. why_text (scene_by (statements_of script) z places) lines outcome command.telling) split in
      subst (λ z. IsToldRun command input script tokens root z text) (sym s)
      (subst (λ z. IsToldRun command input script tokens root (status_of (is_marked outcome)) z) (sym told)
      (ended outcome lines places fits is traced placed))

  -- a run that needs more cells
  pub full_told : (most : Most) (table : List (List Statement)) (source : List (List ℕ)) (places : List PlacesOfTask)
      (status : Status) (text : List ℕ) → IsFull (script_program strict root) cells
      → IsMostMade (logged_program strict root) cells most
      → table ≡ statements_of script → source ≡ lines_of input → ArePlaces tokens places → status ≡ Full
      → text ≡ tellings.full_told command.telling (scene_by table source places) cells most
      → IsToldRun command input script tokens root status text
  full_told most table source places status text full made listed split placed s t =
      let told = t
      ∙ ap (λ z. tellings.full_told command.telling (scene_by z source places) cells most) listed
      ∙ ap (λ z. tellings.full_told command.telling (scene_by (statements_of script) z places) cells most) split in
      subst (λ z. IsToldRun command input script tokens root z text) (sym s)
      (subst (λ z. IsToldRun command input script tokens root Full z) (sym told)
      (needs_more most places full made placed))

-- the output is what is told of each run with this trace
abbrev pub IsToldOf : WhyCommand → List ℕ → List Task → List Token → List TraceLine → Output → Type 0
IsToldOf command input script tokens lines output = (root : PlacedState)
    → ¬ IsFull (script_program command.limits.strict root) command.limits.cells
    → AreTraced (logged_program command.limits.strict root) command.limits.cells lines
    → IsToldRun command input script tokens root output.status output.text.items

-- the outcome is that of each run with this trace
abbrev pub IsOutcomeFor : List TraceLine → Outcome → Type 0
IsOutcomeFor lines outcome = (strict : Bool) (root : PlacedState) (N : ℕ)
    → AreTraced (logged_program strict root) N lines → IsOutcome (meaning (script_program strict root) N) outcome

-- a run in which nothing went wrong
pub fine_told : (command : WhyCommand) (input : List ℕ) (script : List Task) (tokens : List Token) (outcome : Outcome)
    (lines : List TraceLine) (r : Result Output Oom) → IsOutcomeFor lines outcome
    → tells_lines command.telling (is_marked outcome) ≡ false → IfOk r (λ output. output.status ≡ Clean)
    → IfOk r (λ output. output.text.items ≡ tellings.fine_told command.telling (length outcome.lines))
    → IfOk r (IsToldOf command input script tokens lines)
fine_told command input script tokens outcome lines (Err oom) is plain s t = tt
fine_told command input script tokens outcome lines (Ok output) is plain s t = λ root fits traced.
    subst (λ z. IsToldRun command input script tokens root z output.text.items) (sym s)
    (subst (λ z. IsToldRun command input script tokens root Clean z) (sym t)
    (was_fine outcome fits (is command.limits.strict root command.limits.cells traced) plain))

-- a run whose lines are looked into
pub lines_told : (command : WhyCommand) (input : List ℕ) (script : List Task) (tokens : List Token) (outcome : Outcome)
    (lines : List TraceLine) (r : Result Output Oom) → IsOutcomeFor lines outcome
    → IfOk r (λ output. (root : PlacedState)
    → ¬ IsFull (script_program command.limits.strict root) command.limits.cells
    → IsOutcome (meaning (script_program command.limits.strict root) command.limits.cells) outcome
    → AreTraced (logged_program command.limits.strict root) command.limits.cells lines
    → IsToldRun command input script tokens root output.status output.text.items)
    → IfOk r (IsToldOf command input script tokens lines)
lines_told command input script tokens outcome lines (Err oom) is told = tt
lines_told command input script tokens outcome lines (Ok output) is told = λ root fits traced.
    told root fits (is command.limits.strict root command.limits.cells traced) traced

-- the run with the root of the script
pub root_told : (command : WhyCommand) (input : List ℕ) (script : List Task) (tokens : List Token) (root : PlacedState)
    (lines : List TraceLine) (r : Result Output Oom) → IsPlacedMain script command.limits.steps root
    → ¬ IsFull (logged_program command.limits.strict root) command.limits.cells
    → AreTraced (logged_program command.limits.strict root) command.limits.cells lines
    → IfOk r (IsToldOf command input script tokens lines)
    → IfOk r (λ output. (root : PlacedState) × IsPlacedMain script command.limits.steps root
    × IsToldRun command input script tokens root output.status output.text.items)
root_told command input script tokens root lines (Err oom) main fits traced told = tt
root_told command input script tokens root lines (Ok output) main fits traced told =
    let alike = is_full_alike command.limits.strict root command.limits.cells in
    (root, main, told root (λ full. fits (alike.1 full)) traced)
