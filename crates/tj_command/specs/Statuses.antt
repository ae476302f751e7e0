-- The exit status of each answer, and the statuses of outcomes.
use Rattle.std.specs.Prelude.{ℕ, Bool, true, false}
use Rattle.tj_command.specs.declared.status.Status.{Status}
use Rattle.tj_command.specs.declared.status.Status.TheVariants.{Clean, Marked, Usage, Script, Full, ReadFault}
use Rattle.tj_command.specs.declared.status.Status.TheVariants.{WriteFault, Memory}

-- 0 to 7, in the order of the statuses
abbrev pub exit_code_of : Status → ℕ
exit_code_of Clean = 0
exit_code_of Marked = 1
exit_code_of Usage = 2
exit_code_of Script = 3
exit_code_of Full = 4
exit_code_of ReadFault = 5
exit_code_of WriteFault = 6
exit_code_of Memory = 7

-- the status of what is marked, and of what isn't
abbrev pub status_of : Bool → Status
status_of true = Marked
status_of false = Clean
