-- The lines that are written in place of a report, a listing, a judging or a summary.
use Rattle.std.specs.Prelude.{ℕ, List, ◌++◌, codes, decimal}
pub use Rattle.tj_command.specs.Texts.{full_line}

-- where the words have no form
abbrev pub usage_line : List ℕ
usage_line =
    codes "usage: tj run|plan|list|judge|gen|known|relay|watch [--workers N] [--cells N] [--steps N] [--size N] [--strict]\n"

-- the fault of a journal at this line
abbrev pub journal_fault : ℕ → List ℕ
journal_fault line = codes "journal fault at line " ++ decimal line ++ codes "\n"
