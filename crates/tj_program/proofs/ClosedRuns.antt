-- From a table at rest to what a command gives and puts, and to the clauses of the top call on closed words.
use Rattle.tj_program.proofs.Prelude.{Appends, Bool, Command, Full, Gen, Global, HasFault, IsCommand, IsCommandOutput}
use Rattle.tj_program.proofs.Prelude.{IsOutcome, IsPutAs, IsRelayRun, IsStartOfText, List, Outcome, Program}
use Rattle.tj_program.proofs.Prelude.{Report, RestCell, Root, Status, Summary, Told, WriteFault, ap, false≢true, inl}
use Rattle.tj_program.proofs.Prelude.{inr, is_marked, meaning, relay_start, script_text, sym, ℕ, ◌<◌, ◌↔◌, ◌≡◌, ◌⊎◌}
use Rattle.std.proofs.Common.{length, true, false, String, Option, Some, None, IsSome, IfSome, refl, subst}
use Rattle.tj_body.specs.Programs.{Rules}
use Rattle.tj_report.specs.ClosedOutcomes.{AreCyclesOfOutcomeAlarmed}
use Rattle.tj_ports.specs.Putting.{GrowsByPart}
use Rattle.tj_run.specs.Runs.{RestsAt}
use Rattle.tj_words.specs.AtRest.RestShown.{RestShown}
use Rattle.tj_program.specs.ClosedRuns.{HasOutcome, HaveWorkers, IsClosedRun, IsClosedRunOf, IsCommandClosed}
use Rattle.tj_modes.specs.Output.{has_workers}
use Rattle.tj_program.specs.ClosedRuns.{IsRunClosed, program_by}
use Rattle.tj_program.specs.Inner.ClosedOutputs.{AreWith, IsGiven, IsPutWith, IsRunGiven, IsScriptGiven}
use Rattle.tj_modes.specs.Runs.{Start, StartOf, IsRunOf, NeedsMore, full, ended, started, status_of, text_of}
use Rattle.tj_modes.specs.Texts.{full_line}
use Rattle.tj_modes.specs.declared.command.Command.TheVariants.{Run, Plan, List as list, Judge, Known, Relay, Watch}

module _ {B : Type 0} (program : Bool → B → Program B) where
  -- what rests under names that are the table's own rests under these
  pub rests_named : (root : B) (limit : ℕ) (strict : Bool) (r : RestShown B)
      → RestsAt program root limit strict r → RestsAt program r.root r.limit r.strict r
  rests_named root limit strict r h =
      subst (λ z. RestsAt program z r.limit r.strict r) (sym h.names_root)
      (subst (λ z. RestsAt program root z r.strict r) (sym h.names_limit)
      (subst (λ z. RestsAt program root limit z r) (sym h.names_strict) h))

  -- what a run of the table's own names gives is what the run of these names gives
  pub given_named : (told : Told) (root : B) (limit : ℕ) (strict : Bool) (r : RestShown B)
      (status : Status) (text : List ℕ) (closed : Option (List RestCell))
      → RestsAt program root limit strict r
      → IsRunGiven told (started program r.strict r.limit r.root) status text closed
      → IsRunGiven told (started program strict limit root) status text closed
  given_named told root limit strict r status text closed h given =
      subst (λ z. IsRunGiven told (started program strict limit z) status text closed) h.names_root
      (subst (λ z. IsRunGiven told (started program strict z r.root) status text closed) h.names_limit
      (subst (λ z. IsRunGiven told (started program z r.limit r.root) status text closed) h.names_strict given))

module _ {B : Type 0} (rules : Rules B) where
  -- text, status and closed words of a table at rest are of one run
  pub closed_at_rest : (told : Told) (r : RestShown B) (outcome : Outcome) (status : Status) (text : List ℕ)
      (closed : List RestCell) → RestsAt (program_by rules) r.root r.limit r.strict r
      → IsOutcome (meaning (program_by rules r.strict r.root) r.limit) outcome
      → AreCyclesOfOutcomeAlarmed r.cells outcome → status ≡ status_of (is_marked outcome)
      → text ≡ text_of told outcome → closed ≡ r.cells
      → IsRunClosed told (started (program_by rules) r.strict r.limit r.root) status text closed
  closed_at_rest told r outcome status text closed h is alarmed s t e =
      subst (IsRunClosed told (started (program_by rules) r.strict r.limit r.root) status text) (sym e) (record {
        fits = h.meaning.1.fits;
        outcome = outcome;
        is = is;
        status_is = s;
        text_is = t;
        words = (h.meaning.0, h.meaning.1);
        run = (h.run.0, r.records, h.run.1.ends);
        rest = h.rest;
        alarmed = alarmed;
        cycles = h.cycles;
        alarms = h.alarms;
      })

module _ {B : Type 0} where
  -- what a run that is full gives
  pub IsRunGiven-unrested : (told : Told) (start : StartOf B) (status : Status) (text : List ℕ)
      (closed : Option (List RestCell)) → NeedsMore start → status ≡ Full → text ≡ full_line start.cells
      → closed ≡ None → IsRunGiven told start status text closed
  IsRunGiven-unrested told start status text closed more s t none =
      subst (IsRunGiven told start status text) (sym none) (more, s, t)

-- there is nothing in `None`
pub nothing : IsSome {T = List RestCell} None → ⊥
nothing some = false≢true some

-- the status of an outcome is one
pub HasOutcome-status_of : (marked : Bool) → HasOutcome (status_of marked)
HasOutcome-status_of true = tt
HasOutcome-status_of false = tt

module _ {B : Type 0} where
  -- closed words and text of one run are what the run gives
  pub IsRunOf-closed : (told : Told) (start : StartOf B) (status : Status) (text : List ℕ) (closed : List RestCell)
      → IsRunClosed told start status text closed → IsRunOf told start status text
  IsRunOf-closed told start status text closed c =
      subst (λ s. IsRunOf told start s text) (sym c.status_is)
      (subst (λ t. IsRunOf told start (status_of (is_marked c.outcome)) t) (sym c.text_is)
      (ended c.outcome c.fits c.is))

  -- what a run over workers gives, without its closed words
  pub IsRunOf-given : (told : Told) (start : StartOf B) (status : Status) (text : List ℕ)
      (closed : Option (List RestCell)) → IsRunGiven told start status text closed → IsRunOf told start status text
  IsRunOf-given told start status text None given = subst (λ s. IsRunOf told start s text) (sym given.1)
      (subst (λ t. IsRunOf told start Full t) (sym given.2) (full given.0))
  IsRunOf-given told start status text (Some words) given = IsRunOf-closed told start status text words given

  -- what a run over workers gives is what its command gives, where so is the output
  pub IsGiven-run : (told : Told) (command : Command) (input : List ℕ) (start : StartOf B) (status : Status)
      (text : List ℕ) (closed : Option (List RestCell)) → has_workers command ≡ true
      → IsCommandOutput command input status text
      → ((words : List RestCell) → IsRunClosed told start status text words
      → IsCommandClosed command input status text words)
      → IsRunGiven told start status text closed → IsGiven command input status text closed
  IsGiven-run told command input start status text None works out of given = record {
    is_output = out;
    are_with = ((λ some. absurd (nothing some)), (λ h. absurd (subst HasOutcome given.1 h.0)));
    of_run = tt;
  }
  IsGiven-run told command input start status text (Some words) works out of given = record {
    is_output = out;
    are_with = (
      (λ some. (subst HasOutcome (sym given.status_is) (HasOutcome-status_of (is_marked given.outcome)), works)),
      (λ h. refl),
    );
    of_run = of words given;
  }

-- what has no closed words and isn't an outcome of a run over workers
pub IsGiven-alone : (command : Command) (input : List ℕ) (status : Status) (text : List ℕ)
    (closed : Option (List RestCell)) → IsCommandOutput command input status text
    → ((HasOutcome status × (has_workers command ≡ true)) → ⊥) → closed ≡ None
    → IsGiven command input status text closed
IsGiven-alone command input status text closed out none e =
    subst (IsGiven command input status text) (sym e) (record {
      is_output = out;
      are_with = ((λ some. absurd (nothing some)), (λ h. absurd (none h)));
      of_run = tt;
    })

-- what `run` gives
pub IsGiven-report : (command : Command) (workers cells steps : ℕ) (strict : Bool) (input : List ℕ) (status : Status)
    (text : List ℕ) (closed : Option (List RestCell)) → command ≡ Run workers cells steps strict
    → IsScriptGiven Report (record { cells = cells; steps = steps; strict = strict }) input status text closed
    → IsGiven command input status text closed
IsGiven-report command workers cells steps strict input status text closed is (inl refused) =
    subst (λ k. IsGiven k input status text closed) (sym is)
    (IsGiven-alone (Run workers cells steps strict) input status text closed (inl refused.0)
    (λ h. absurd (subst HasOutcome refused.0.0 h.0)) refused.1)
IsGiven-report command workers cells steps strict input status text closed is (inr ran) =
    subst (λ k. IsGiven k input status text closed) (sym is)
    (IsGiven-run Report (Run workers cells steps strict) input ran.0 status text closed refl
    (inr (ran.0, ran.1, IsRunOf-given Report ran.0 status text closed ran.2)) (λ words of. (ran.0, ran.1, of)) ran.2)

-- what `watch` gives
pub IsGiven-watch : (command : Command) (workers cells steps : ℕ) (input : List ℕ) (status : Status)
    (text : List ℕ) (closed : Option (List RestCell)) → command ≡ Watch workers cells steps
    → IsScriptGiven Root (record { cells = cells; steps = steps; strict = false }) input status text closed
    → IsGiven command input status text closed
IsGiven-watch command workers cells steps input status text closed is (inl refused) =
    subst (λ k. IsGiven k input status text closed) (sym is)
    (IsGiven-alone (Watch workers cells steps) input status text closed (inl refused.0)
    (λ h. absurd (subst HasOutcome refused.0.0 h.0)) refused.1)
IsGiven-watch command workers cells steps input status text closed is (inr ran) =
    subst (λ k. IsGiven k input status text closed) (sym is)
    (IsGiven-run Root (Watch workers cells steps) input ran.0 status text closed refl
    (inr (ran.0, ran.1, IsRunOf-given Root ran.0 status text closed ran.2)) (λ words of. (ran.0, ran.1, of)) ran.2)

-- what `gen` gives
pub IsGiven-gen : (command : Command) (size workers cells steps : ℕ) (input : List ℕ) (status : Status)
    (text : List ℕ) (closed : Option (List RestCell)) → command ≡ Gen size workers cells steps
    → ((start : Start)
    × IsStartOfText (record { cells = cells; steps = steps; strict = false }) (script_text size) start
    × IsRunGiven (Summary size) start status text closed) → IsGiven command input status text closed
IsGiven-gen command size workers cells steps input status text closed is ran =
    subst (λ k. IsGiven k input status text closed) (sym is)
    (IsGiven-run (Summary size) (Gen size workers cells steps) input ran.0 status text closed refl
    (ran.0, ran.1, IsRunOf-given (Summary size) ran.0 status text closed ran.2) (λ words of. (ran.0, ran.1, of))
    ran.2)

-- what `relay` gives
pub IsGiven-relay : (command : Command) (size workers cells : ℕ) (input : List ℕ) (status : Status) (text : List ℕ)
    (closed : Option (List RestCell)) → command ≡ Relay size workers cells → IsRelayRun size cells status text
    → IsRunGiven Report (relay_start size cells) status text closed → IsGiven command input status text closed
IsGiven-relay command size workers cells input status text closed is lists ran =
    subst (λ k. IsGiven k input status text closed) (sym is)
    (IsGiven-run Report (Relay size workers cells) input (relay_start size cells) status text closed refl lists
    (λ words of. of) ran)

-- `plan`, `list`, `judge` and `known` have no workers
pub alone : (command : Command) → ((cells : ℕ) × (steps : ℕ) × (strict : Bool) × (command ≡ Plan cells steps strict))
    ⊎ (command ≡ list) ⊎ ((cells : ℕ) × (command ≡ Judge cells))
    ⊎ ((cells : ℕ) × (steps : ℕ) × (command ≡ Known cells steps)) → has_workers command ≡ false
alone command (inl is) = ap has_workers is.3
alone command (inr (inl is)) = ap has_workers is
alone command (inr (inr (inl is))) = ap has_workers is.1
alone command (inr (inr (inr is))) = ap has_workers is.2

-- a text that could not be put whole comes without closed words
pub IsPutWith-failed : (Room : ℕ → Type 0) (status : Status) (put text : List ℕ) (closed : Option (List RestCell))
    (before after : Option (List ℕ)) (b a : ℕ) → put ≡ text → GrowsByPart before after put → HasFault b a
    → ((room : ℕ) → Room room → room < length put)
    → IsPutWith Room status text closed before after b a WriteFault None
IsPutWith-failed Room status put text closed before after b a e part fault small =
    subst (λ t. IsPutWith Room status t closed before after b a WriteFault None) e
    (inr (refl, refl, part, fault, small))

-- a text that was put with closed words was put
pub IsPutAs-with : (Room : ℕ → Type 0) (status : Status) (text : List ℕ) (closed : Option (List RestCell))
    (before after : Option (List ℕ)) (b a : ℕ) (answer : Status) (words : Option (List RestCell))
    → IsPutWith Room status text closed before after b a answer words
    → IsPutAs Room status text before after b a answer
IsPutAs-with Room status text closed before after b a answer words (inl put) = inl (put.0, put.2)
IsPutAs-with Room status text closed before after b a answer words (inr failed) =
    inr (failed.0, failed.2, failed.3, failed.4)

-- closed words that were given come with the status that is answered, or none do where the text wasn't put whole
pub AreWith-put : (Room : ℕ → Type 0) (command : Command) (status : Status) (text : List ℕ)
    (closed : Option (List RestCell)) (before after : Option (List ℕ)) (b a : ℕ) (answer : Status)
    (words : Option (List RestCell)) → AreWith command status closed
    → IsPutWith Room status text closed before after b a answer words → AreWith command answer words
AreWith-put Room command status text closed before after b a answer words given (inl put) =
    subst (λ s. AreWith command s words) (sym put.0) (subst (AreWith command status) (sym put.1) given)
AreWith-put Room command status text closed before after b a answer words given (inr failed) =
    ((λ some. absurd (nothing (subst IsSome failed.1 some))), (λ h. absurd (subst HasOutcome failed.0 h.0)))

closed_put : (command : Command) (input : List ℕ) (status : Status) (text : List ℕ)
    (closed : Option (List RestCell)) (before after : Option (List ℕ))
    → IfSome closed (IsCommandClosed command input status text) → Appends before after text
    → IfSome closed (IsClosedRun command input before after status)
closed_put command input status text None before after of_run put = tt
closed_put command input status text (Some words) before after of_run put =
    (text, of_run, put)

-- closed words that are answered are those of the run whose text was put
pub IsClosedRun-put : (Room : ℕ → Type 0) (command : Command) (input : List ℕ) (status : Status) (text : List ℕ)
    (closed : Option (List RestCell)) (before after : Option (List ℕ)) (b a : ℕ) (answer : Status)
    (words : Option (List RestCell)) → IsGiven command input status text closed
    → IsPutWith Room status text closed before after b a answer words
    → IfSome words (IsClosedRun command input before after answer)
IsClosedRun-put Room command input status text closed before after b a answer words given (inl put) =
    subst (λ o. IfSome o (IsClosedRun command input before after answer)) (sym put.1)
    (subst (λ s. IfSome closed (IsClosedRun command input before after s)) (sym put.0)
    (closed_put command input status text closed before after given.of_run put.2))
IsClosedRun-put Room command input status text closed before after b a answer words given (inr failed) =
    subst (λ o. IfSome o (IsClosedRun command input before after answer)) (sym failed.1) tt

-- closed words of the command that the words are
pub IsClosedRunOf-command : (words : List (String Global)) (command : Command) (input : List ℕ)
    (before after : Option (List ℕ)) (status : Status) (closed : Option (List RestCell)) → IsCommand words command
    → IfSome closed (IsClosedRun command input before after status)
    → IfSome closed (IsClosedRunOf words input before after status)
IsClosedRunOf-command words command input before after status None is run = tt
IsClosedRunOf-command words command input before after status (Some cells) is run = (command, is, run)

-- and of some input
pub IsClosedRunOf-some : (words : List (String Global)) (input : List ℕ) (before after : Option (List ℕ))
    (status : Status) (closed : Option (List RestCell))
    → IfSome closed (IsClosedRunOf words input before after status)
    → IfSome closed (λ cells. (some : List ℕ) × IsClosedRunOf words some before after status cells)
IsClosedRunOf-some words input before after status None run = tt
IsClosedRunOf-some words input before after status (Some cells) run = (input, run)

-- closed words come with the status exactly where the words are a command that runs tasks over workers
pub HaveWorkers-command : (words : List (String Global)) (command : Command) (status : Status)
    (closed : Option (List RestCell)) → IsCommand words command
    → ((other : Command) → IsCommand words other → other ≡ command) → AreWith command status closed
    → IsSome closed ↔ (HasOutcome status × HaveWorkers words)
HaveWorkers-command words command status closed is one comes = (
  (λ some. ((comes.0 some).0, (command, is, (comes.0 some).1))),
  (λ h. comes.1 (h.0, subst (λ k. has_workers k ≡ true) (one h.1.0 h.1.1) h.1.2)),
)

-- words without a form are no command
pub never_with : (words : List (String Global)) (status : Status) → ((command : Command) → IsCommand words command → ⊥)
    → IsSome {T = List RestCell} None ↔ (HasOutcome status × HaveWorkers words)
never_with words status none = ((λ some. absurd (nothing some)), (λ h. absurd (none h.1.0 h.1.1)))
