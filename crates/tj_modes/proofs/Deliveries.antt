-- From what a command has read and put to the clauses of the top call.
use Rattle.tj_modes.proofs.Prelude.{Appends, Bool, Command, Global, HasText, IsCommand, IsCommandOutput, IsJudging}
use Rattle.tj_modes.proofs.Prelude.{IsKnown, IsKnownOf, IsListed, IsOutput, IsPutAs, IsRefused, IsRelayRun, IsRun}
use Rattle.tj_modes.proofs.Prelude.{IsRunOf, List, Memory, Option, Report, Root, Some, Start, Status, String, Summary}
use Rattle.tj_modes.proofs.Prelude.{Told, WriteFault, ended, false, full, inl, inr, length, needs_more, of_command}
use Rattle.tj_modes.proofs.Prelude.{status_of, subst, sym, tells, true, ℕ, ◌≡◌, ◌≢◌, ◌≤◌, ◌⊎◌}
use Rattle.tj_ports.specs.Faults.{HasNoFault}
use Rattle.tj_command.proofs.Puts.{IsAnsweredBy-given, IsOneOutput, IsOwn, IsOwnAnswer, IsPartOf-given}
use Rattle.tj_command.proofs.Puts.{no_write_fault-given, own_put, put_whole-given}
use Rattle.tj_modes.specs.Delivery.{IsAnswered, IsOutputPart}
use Rattle.tj_modes.specs.Delivery.{IsAnswerPut}
use Rattle.tj_modes.specs.RelayRuns as relays
use Rattle.tj_modes.specs.declared.command.Command.TheVariants as command

own-status_of : (marked : Bool) → IsOwn (status_of marked)
own-status_of true = tt
own-status_of false = tt

own-run : (told : Told) (start : Start) (status : Status) (text : List ℕ) → IsRunOf told start status text
    → IsOwn status
own-run told start status text (full more) = tt
own-run told start status text (ended outcome fits is) = own-status_of _

own-or_refused : (IsSo : Status → List ℕ → Type 0) (input : List ℕ) (status : Status) (text : List ℕ)
    → (IsSo status text → IsOwn status) → IsRefused input status text ⊎ IsSo status text → IsOwn status
own-or_refused IsSo input status text own (inl faulty) = subst IsOwn (sym faulty.0) tt
own-or_refused IsSo input status text own (inr is) = own is

own-judging : (cells : ℕ) (journal : List ℕ) (status : Status) (text : List ℕ) → IsJudging cells journal status text
    → IsOwn status
own-judging cells journal status text (inl faulty) = subst IsOwn (sym faulty.2) tt
own-judging cells journal status text (inr judged) = subst IsOwn (sym judged.4) (own-status_of judged.1)

own-known : (start : Start) (status : Status) (text : List ℕ) → IsKnownOf start status text → IsOwn status
own-known start status text (needs_more more) = tt
own-known start status text (tells joins fits is) = own-status_of _

own-relay : (size cells : ℕ) (status : Status) (text : List ℕ) → IsRelayRun size cells status text → IsOwn status
own-relay size cells status text (relays.needs_more more) = tt
own-relay size cells status text (relays.ends outcome fits is) = own-status_of _

own : (c : Command) (input : List ℕ) (status : Status) (text : List ℕ) → IsCommandOutput c input status text
    → IsOwn status
own (command.Run workers cells steps strict) input status text out =
    own-or_refused (IsRun Report (command.Run workers cells steps strict) input) input status text
    (λ ran. own-run Report ran.0 status text ran.2) out
own (command.Plan cells steps strict) input status text out =
    own-or_refused (IsRun Report (command.Plan cells steps strict) input) input status text
    (λ ran. own-run Report ran.0 status text ran.2) out
own command.List input status text out =
    own-or_refused (IsListed input) input status text (λ is. subst IsOwn (sym is.2) tt) out
own (command.Judge cells) input status text out = own-judging cells input status text out
own (command.Gen size workers cells steps) input status text out = own-run (Summary size) out.0 status text out.2
own (command.Known cells steps) input status text out =
    own-or_refused (IsKnown (command.Known cells steps) input) input status text
    (λ is. own-known is.0 status text is.2) out
own (command.Relay size workers cells) input status text out = own-relay size cells status text out
own (command.Watch workers cells steps) input status text out =
    own-or_refused (IsRun Root (command.Watch workers cells steps) input) input status text
    (λ ran. own-run Root ran.0 status text ran.2) out

-- what a command gave and was put has a status of its own
pub own_answer : (Room : ℕ → Type 0) (c : Command) (input : List ℕ) (status : Status) (text : List ℕ)
    (before now : Option (List ℕ))
    (b a : ℕ) (answer : Status) → IsCommandOutput c input status text → IsPutAs Room status text before now b a answer
    → IsOwnAnswer b a answer
own_answer Room c input status text before now b a answer out put =
    own_put Room status text before now b a answer (own c input status text out) put

-- words and an input have one output at most
abbrev pub HasOneOutput : Type 0
HasOneOutput = (words : List (String Global)) (input : List ℕ) → IsOneOutput (IsOutput words input)

-- The clauses of the top call where the words are a command, from what was put of it.
module _ (words : List (String Global)) (c : Command) (is : IsCommand words c) (input : List ℕ)
    (before now : Option (List ℕ)) (b a : ℕ) (answer : Status) (Room : ℕ → Type 0)
    (put : answer ≢ Memory → IsAnswerPut Room c input before now b a answer) where
  as_output : (status : Status) (text : List ℕ) → IsCommandOutput c input status text → IsOutput words input status text
  as_output status text out = of_command c is out

  pub IsAnswered-command : (held : List ℕ) → (answer ≡ Memory → now ≡ before) → before ≡ Some held → HasNoFault b a
      → IsAnswered words input held answer now
  IsAnswered-command = IsAnsweredBy-given (IsOutput words input) (IsCommandOutput c input) as_output (own c input) Room
      before now b a answer put

  pub put_whole-command : HasText answer → (shown : List ℕ) × IsOutput words input answer shown
      × Appends before now shown
  put_whole-command = put_whole-given (IsOutput words input) (IsCommandOutput c input) as_output (own c input) Room
      before now b a answer put

  pub IsOutputPart-command : answer ≡ WriteFault → IsOutputPart words input before now
  IsOutputPart-command = IsPartOf-given (IsOutput words input) (IsCommandOutput c input) as_output (own c input) Room
      before now b a answer put

  pub no_write_fault-command : HasOneOutput → (text : List ℕ) (status : Status) → IsOutput words input status text
      → (room : ℕ) → Room room → length text ≤ room → answer ≢ WriteFault
  no_write_fault-command one = no_write_fault-given (IsOutput words input) (IsCommandOutput c input) as_output
      (own c input) Room before now b a answer put (one words input)
