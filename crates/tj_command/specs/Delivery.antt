-- A text on its way to the sink.
use Rattle.std.specs.Prelude.{ℕ, ◌≡◌, ◌<◌, ◌⊎◌, List, Option, Some, ◌++◌, length}
use Rattle.std.specs.Io.KnownBytes.{Appends}
use Rattle.tj_ports.specs.Faults.{HasFault}
use Rattle.tj_ports.specs.Putting.{GrowsByPart}
use Rattle.tj_command.specs.declared.status.Status.{Status}
use Rattle.tj_command.specs.declared.status.Status.TheVariants.{ReadFault, WriteFault, Memory}

-- the status belongs to a text, and not to a port that failed or to memory
abbrev pub HasText : Status → Type 0
HasText ReadFault = ⊥
HasText WriteFault = ⊥
HasText Memory = ⊥
HasText _ = Unit {0}

-- Of an output that has to be put, a status and a text: the sink holds the text besides what it held, and the status is
-- the output's; or memory was wanting.
abbrev pub IsAnsweredBy : (IsOutput : Status → List ℕ → Type 0) → (held : List ℕ) → Status → Option (List ℕ) → Type 0
IsAnsweredBy IsOutput held status now =
    ((text : List ℕ) × IsOutput status text × (now ≡ Some (held ++ text))) ⊎ ((status ≡ Memory) × (now ≡ Some held))

-- a part of the output was put, and not all of it
abbrev pub IsPartOf : (IsOutput : Status → List ℕ → Type 0) → Option (List ℕ) → Option (List ℕ) → Type 0
IsPartOf IsOutput before after =
    (status : Status) × (text : List ℕ) × IsOutput status text × GrowsByPart before after text

-- a text of this status was put whole, or the sink failed before the text's end, and had no room for it without a fault
abbrev pub IsPutAs : (HasRoom : ℕ → Type 0) → Status → List ℕ → Option (List ℕ) → Option (List ℕ) → ℕ → ℕ → Status
    → Type 0
IsPutAs HasRoom status text before after count_before count_after answer =
    ((answer ≡ status) × Appends before after text)
    ⊎ ((answer ≡ WriteFault) × GrowsByPart before after text × HasFault count_before count_after
    × ((room : ℕ) → HasRoom room → room < length text))

-- an output was put whole, or the sink failed before its end
abbrev pub IsPutOf : (IsOutput : Status → List ℕ → Type 0) → (HasRoom : ℕ → Type 0) → Option (List ℕ) → Option (List ℕ)
    → ℕ → ℕ → Status → Type 0
IsPutOf IsOutput HasRoom before after count_before count_after answer = (status : Status) × (text : List ℕ)
    × IsOutput status text × IsPutAs HasRoom status text before after count_before count_after answer
