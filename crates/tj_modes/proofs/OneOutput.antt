-- Words and an input have one output at most, from the laws of the crates below.
use Rattle.tj_modes.proofs.Prelude.{Command, Global, HasLimits, HasOneOutcome, IsChatOutcome, IsJournalFault, IsJudging}
use Rattle.tj_modes.proofs.Prelude.{IsKnown, IsKnownOf, IsListed, IsOutput, IsRelayRun, IsRun, IsRunOf, IsStartOf}
use Rattle.tj_modes.proofs.Prelude.{Limits, List, Outcome, Point, Report, Root, Some, Start, Status, String, Summary}
use Rattle.tj_modes.proofs.Prelude.{Task, Told, [], ap, arith, bad_line, chat_meaning, ended, full, inl, inr, is_marked}
use Rattle.tj_modes.proofs.Prelude.{journal_fault, length, lines_of, meaning, most_bytes, of_command, refl, relay_chats}
use Rattle.tj_modes.proofs.Prelude.{script_text, start_of, status_of, subst, sym, text_of, usage, ℕ, ◌<◌, ◌∙◌, ◌≡◌, ◌≤◌}
use Rattle.tj_modes.proofs.Prelude.{◌⊎◌}
use Rattle.tj_events.specs.declared.event.Event.{Event}
use Rattle.tj_core.specs.Journals.Laws.{EventsAreOne, FirstFaultIsOne, EventsHaveNoFault, JudgingIsOne}
use Rattle.tj_eval.specs.Statements.{TaskState, task_of}
use Rattle.tj_core.specs.Journals.Judging.{IsJudged}
use Rattle.tj_mean.specs.ReportTexts.{report}
use Rattle.tj_syntax.specs.Listing.{listing}
use Rattle.tj_modes.specs.Output.{IsCommandOutput, IsRefused, IsStart, IsStartOfText}
use Rattle.tj_syntax.specs.ScriptTexts.{IsScriptOf}
use Rattle.tj_command.specs.ScriptTexts.{IsFaultLine, fault_line}
use Rattle.tj_command.specs.OneScript.{IsOneScript}
use Rattle.tj_modes.proofs.KnownRuns.{one_known}
use Rattle.tj_modes.proofs.Lines.CommandLines.{one_command, within_limits}
use Rattle.tj_core.specs.Journals.Lines as journal
use Rattle.tj_modes.specs.Judgings as judgings
use Rattle.tj_modes.specs.RelayRuns as relays
use Rattle.tj_modes.specs.declared.command.Command.TheVariants as command

-- What the crates below leave no choice in.
pub record AreOne : Type 0 where
  pub scripts : (text : List ℕ) → IsOneScript text
  pub outcome : (ps : List (Point TaskState)) → HasOneOutcome ps
  pub lists : (size cells : ℕ) → 0 < size → size ≤ 4000 → (a b : Outcome)
      → IsChatOutcome (chat_meaning (relay_chats size) cells) a
      → IsChatOutcome (chat_meaning (relay_chats size) cells) b → a ≡ b
  pub events : EventsAreOne
  pub line : FirstFaultIsOne
  pub no_line : EventsHaveNoFault
  pub judging : JudgingIsOne

-- the same status and the same text
abbrev Same : Status → List ℕ → Status → List ℕ → Type 0
Same a s b t = (a ≡ b) × (s ≡ t)

-- what is there is one
some_is : {A : Type 0} (a b : A) → Some a ≡ Some b → a ≡ b
some_is a b e = cc

module _ (one : AreOne) where
  one_line : (text a b : List ℕ) → IsFaultLine text a → IsFaultLine text b → a ≡ b
  one_line text a b f g = f.2 ∙ ap fault_line ((one.scripts text).fault f.0 g.0 f.1 g.1) ∙ sym g.2

  -- the line of a fault or what is so of a script is one where it is one of a script
  one_or_refused : (IsSo : Status → List ℕ → Type 0) (input : List ℕ)
      → ((status : Status) (text : List ℕ) → IsSo status text → (script : List Task) × IsScriptOf input script)
      → ((a b : Status) (s t : List ℕ) → IsSo a s → IsSo b t → Same a s b t) → (a b : Status) (s t : List ℕ)
      → IsRefused input a s ⊎ IsSo a s → IsRefused input b t ⊎ IsSo b t → Same a s b t
  one_or_refused IsSo input script is_one a b s t (inl f) (inl g) = (f.0 ∙ sym g.0, one_line input s t f.1 g.1)
  one_or_refused IsSo input script is_one a b s t (inl f) (inr k) =
      let is = script b t k in absurd ((one.scripts input).not_both is.0 f.1.0 is.1 f.1.1)
  one_or_refused IsSo input script is_one a b s t (inr h) (inl g) =
      let is = script a s h in absurd ((one.scripts input).not_both is.0 g.1.0 is.1 g.1.1)
  one_or_refused IsSo input script is_one a b s t (inr h) (inr k) = is_one a b s t h k

  one_start_of : (limits : Limits) (script : List Task) (s t : Start) → IsStartOf limits script s
      → IsStartOf limits script t → t ≡ s
  one_start_of limits script s t h k =
      let main : k.1.0 ≡ h.1.0 = some_is k.1.0 h.1.0 (sym k.1.1 ∙ h.1.1) in
      let root : k.0 ≡ h.0 = k.1.2 ∙ ap (λ m. task_of script limits.steps m []) main ∙ sym h.1.2 in
      k.2 ∙ ap (start_of limits.strict limits.cells) root ∙ sym h.2

  one_start_of_text : (limits : Limits) (text : List ℕ) (s t : Start) → IsStartOfText limits text s
      → IsStartOfText limits text t → t ≡ s
  one_start_of_text limits text s t h k =
      let same = (one.scripts text).script k.0 h.0 k.1 h.1 in
      one_start_of limits h.0 s t h.2 (subst (λ script. IsStartOf limits script t) same k.2)

  one_start : (c : Command) (input : List ℕ) (s t : Start) → IsStart c input s → IsStart c input t → t ≡ s
  one_start command.List input s t h k = absurd h
  one_start (command.Judge cells) input s t h k = absurd h
  one_start (command.Gen size workers cells steps) input s t h k = one_start_of_text _ (script_text size) s t h k
  one_start (command.Relay size workers cells) input s t h k = absurd h
  one_start c input s t h k = one_start_of_text _ input s t h k

  one_run_of : (told : Told) (start : Start) (a b : Status) (s t : List ℕ) → IsRunOf told start a s
      → IsRunOf told start b t → Same a s b t
  one_run_of told start a b s t (full m) (full n) = (refl, refl)
  one_run_of told start a b s t (full m) (ended o fits is) = absurd (fits m)
  one_run_of told start a b s t (ended o fits is) (full m) = absurd (fits m)
  one_run_of told start a b s t (ended o fits is) (ended p also are) =
      let same = one.outcome (meaning start.program start.cells) o p is are in
      (ap (λ x. status_of (is_marked x)) same, ap (text_of told) same)

  one_run : (told : Told) (c : Command) (input : List ℕ) (a b : Status) (s t : List ℕ) → IsRun told c input a s
      → IsRun told c input b t → Same a s b t
  one_run told c input a b s t h k =
      let same : k.0 ≡ h.0 = one_start c input h.0 k.0 h.1 k.1 in
      one_run_of told h.0 a b s t h.2 (subst (λ start. IsRunOf told start b t) same k.2)

  one_known_of : (c : Command) (input : List ℕ) (a b : Status) (s t : List ℕ) → IsKnown c input a s
      → IsKnown c input b t → Same a s b t
  one_known_of c input a b s t h k =
      let same : k.0 ≡ h.0 = one_start c input h.0 k.0 h.1 k.1 in
      one_known h.0 a b s t h.2 (subst (λ start. IsKnownOf start b t) same k.2)

  one_listing : (input : List ℕ) (a b : Status) (s t : List ℕ) → IsListed input a s → IsListed input b t
      → Same a s b t
  one_listing input a b s t h k =
      (h.2 ∙ sym k.2, h.3 ∙ ap listing ((one.scripts input).script h.0 k.0 h.1 k.1) ∙ sym k.3)

  one_journal_fault : (bytes : List ℕ) (m n : ℕ) → IsJournalFault bytes m → IsJournalFault bytes n → m ≡ n
  one_journal_fault bytes m n (judgings.too_long l) (judgings.too_long k) = refl
  one_journal_fault bytes m n (judgings.too_long l) (bad_line line short p) = absurd (omega arith)
  one_journal_fault bytes m n (bad_line line short p) (judgings.too_long l) = absurd (omega arith)
  one_journal_fault bytes m n (bad_line line short p) (bad_line other few q) = one.line (lines_of bytes) line other p q

  no_journal_fault : (bytes : List ℕ) (events : List Event) (n : ℕ) → length bytes ≤ most_bytes
      → journal.AreEventLines (lines_of bytes) events → IsJournalFault bytes n → ⊥
  no_journal_fault bytes events n short are (judgings.too_long l) = omega arith
  no_journal_fault bytes events n short are (bad_line line few p) = one.no_line (lines_of bytes) events line are p

  one_judging : (cells : ℕ) (bytes : List ℕ) (a b : Status) (s t : List ℕ) → IsJudging cells bytes a s
      → IsJudging cells bytes b t → Same a s b t
  one_judging cells bytes a b s t (inl f) (inl g) =
      (f.2 ∙ sym g.2, f.3 ∙ ap journal_fault (one_journal_fault bytes f.0 g.0 f.1 g.1) ∙ sym g.3)
  one_judging cells bytes a b s t (inl f) (inr k) = absurd (no_journal_fault bytes k.0 f.0 k.2.0 k.2.1 f.1)
  one_judging cells bytes a b s t (inr h) (inl f) = absurd (no_journal_fault bytes h.0 f.0 h.2.0 h.2.1 f.1)
  one_judging cells bytes a b s t (inr h) (inr k) =
      let events = one.events (lines_of bytes) k.0 h.0 k.2.1 h.2.1 in
      let judged = one.judging cells h.0 s t h.1 k.1 h.3
      (subst (λ es. IsJudged cells es t k.1) events k.3) in
      (h.4 ∙ ap status_of judged.1 ∙ sym k.4, judged.0)

  one_relay : (size cells : ℕ) → 0 < size → size ≤ 4000 → (a b : Status) (s t : List ℕ)
      → IsRelayRun size cells a s → IsRelayRun size cells b t → Same a s b t
  one_relay size cells some few a b s t (relays.needs_more m) (relays.needs_more n) = (refl, refl)
  one_relay size cells some few a b s t (relays.needs_more m) (relays.ends o fits is) = absurd (fits m)
  one_relay size cells some few a b s t (relays.ends o fits is) (relays.needs_more m) = absurd (fits m)
  one_relay size cells some few a b s t (relays.ends o fits is) (relays.ends p also are) =
      let same = one.lists size cells some few o p is are in (ap (λ x. status_of (is_marked x)) same, ap report same)

  one_of_command : (c : Command) (input : List ℕ) → HasLimits c → (a b : Status) (s t : List ℕ)
      → IsCommandOutput c input a s → IsCommandOutput c input b t → Same a s b t
  one_of_command (command.Run workers cells steps strict) input limits a b s t h k =
      one_or_refused (IsRun Report (command.Run workers cells steps strict) input) input
      (λ status text ran. (ran.1.0, ran.1.1)) (one_run Report (command.Run workers cells steps strict) input) a b s t
      h k
  one_of_command (command.Plan cells steps strict) input limits a b s t h k =
      one_or_refused (IsRun Report (command.Plan cells steps strict) input) input
      (λ status text ran. (ran.1.0, ran.1.1)) (one_run Report (command.Plan cells steps strict) input) a b s t h k
  one_of_command command.List input limits a b s t h k =
      one_or_refused (IsListed input) input (λ status text is. (is.0, is.1)) (one_listing input) a b s t h k
  one_of_command (command.Judge cells) input limits a b s t h k = one_judging cells input a b s t h k
  one_of_command (command.Gen size workers cells steps) input limits a b s t h k =
      one_run (Summary size) (command.Gen size workers cells steps) input a b s t h k
  one_of_command (command.Known cells steps) input limits a b s t h k =
      one_or_refused (IsKnown (command.Known cells steps) input) input (λ status text is. (is.1.0, is.1.1))
      (one_known_of (command.Known cells steps) input) a b s t h k
  one_of_command (command.Relay size workers cells) input limits a b s t h k =
      one_relay size cells limits.0.0 limits.0.1 a b s t h k
  one_of_command (command.Watch workers cells steps) input limits a b s t h k =
      one_or_refused (IsRun Root (command.Watch workers cells steps) input) input
      (λ status text ran. (ran.1.0, ran.1.1)) (one_run Root (command.Watch workers cells steps) input) a b s t h k

  pub one_output : (words : List (String Global)) (input : List ℕ) (a b : Status) (s t : List ℕ)
      → IsOutput words input a s → IsOutput words input b t → (a ≡ b) × (s ≡ t)
  one_output words input a b s t (usage f) (usage g) = (refl, refl)
  one_output words input a b s t (usage f) (of_command c is out) = absurd (f c is)
  one_output words input a b s t (of_command c is out) (usage f) = absurd (f c is)
  one_output words input a b s t (of_command c is out) (of_command d are also) =
      one_of_command c input (within_limits words c is) a b s t out
      (subst (λ k. IsCommandOutput k input b t) (one_command words d c are is) also)
