-- What a top call answers to words: its clauses as one fact, for whoever hands words on.
use Rattle.std.specs.Prelude.{ℕ, ◌≡◌, ◌≢◌, ◌≤◌, List, Option, Some, drop, length, suc}
use Rattle.std.specs.Io.KnownBytes.{Appends}
use Rattle.tj_ports.specs.Faults.{HasFault, HasNoFault, IsSound}
use Rattle.tj_syntax.specs.ScriptTexts.{most_bytes}
use Rattle.tj_command.specs.Delivery.{HasText, IsAnsweredBy, IsPartOf}
use Rattle.tj_command.specs.declared.status.Status.{Status}
use Rattle.tj_command.specs.declared.status.Status.TheVariants.{Usage, ReadFault, WriteFault, Memory}

-- What a top call answers: a field for each of its clauses. Of the words this takes whether the input is read for them,
-- whether it isn't, and whether they have no form, the output that belongs to them and an input, and the line where they
-- have no form. Of the source it takes the bytes left and the count of faults, before and after, that it is as it was,
-- and that it never fails, before and after; of the sink the bytes that it holds and the count of faults, before and
-- after, the room that it has, and that it is as it was.
pub record IsAnswer (TakesInput TakesNone HasNoForm : Type 0) (IsOutput : List ℕ → Status → List ℕ → Type 0)
    (usage_line : List ℕ) (left left_after : Option (List ℕ)) (reads reads_after : ℕ)
    (IsUnread NeverFails NeverFailsAfter : Type 0) (held held_after : Option (List ℕ)) (puts puts_after : ℕ)
    (HasRoom : ℕ → Type 0) (IsUnwritten : Type 0) (status : Status) : Type 0 where
  pub output : (input before : List ℕ) → (TakesInput → left ≡ Some input) → held ≡ Some before
      → (TakesInput → HasNoFault reads reads_after) → HasNoFault puts puts_after
      → IsAnsweredBy (IsOutput input) before status held_after
  pub whole : (input : List ℕ) → (TakesInput → left ≡ Some input) → HasText status
      → (text : List ℕ) × IsOutput input status text × Appends held held_after text
  pub exact : (input text : List ℕ) (wanted : Status) → (TakesInput → left ≡ Some input)
      → IsOutput input wanted text → HasText status → (status ≡ wanted) × Appends held held_after text
  pub cause : HasText status → (input : List ℕ) × (text : List ℕ) × IsOutput input status text
      × Appends held held_after text
  pub taken : (input : List ℕ) → left ≡ Some input → TakesInput → HasText status
      → left_after ≡ Some (drop (suc most_bytes) input)
  pub usage : status ≡ Usage → HasNoForm × Appends held held_after usage_line
  pub untouched : TakesNone → IsUnread
  pub read_fault : status ≡ ReadFault → TakesInput × HasFault reads reads_after
  pub unwritten : status ≡ ReadFault → IsUnwritten
  pub write_fault : status ≡ WriteFault → HasFault puts puts_after
  pub part : status ≡ WriteFault → (input : List ℕ) → (TakesInput → left ≡ Some input)
      → IsPartOf (IsOutput input) held held_after
  pub fits : (room : ℕ) (input text : List ℕ) (wanted : Status) → HasRoom room → (TakesInput → left ≡ Some input)
      → IsOutput input wanted text → length text ≤ room → status ≢ WriteFault
  pub part_cause : status ≡ WriteFault → (input : List ℕ) × IsPartOf (IsOutput input) held held_after
  pub memory : status ≡ Memory → IsUnwritten
  pub source_counted : reads ≤ reads_after
  pub source_quiet : status ≢ ReadFault → reads_after ≡ reads
  pub sink_counted : puts ≤ puts_after
  pub sink_quiet : status ≢ WriteFault → puts_after ≡ puts
  pub sound : NeverFails → (status ≢ ReadFault) × IsSound reads reads_after NeverFailsAfter
