-- What judging a journal gives: the line of its fault, or what the rules make of its events.
use Rattle.std.specs.Prelude.{ℕ, ◌≡◌, ◌<◌, ◌≤◌, ◌⊎◌, Bool, List, length, take}
use Rattle.tj_events.specs.declared.event.Event.{Event}
use Rattle.tj_core.specs.Journals.Lines.{lines_of, AreEventLines, IsFirstFault}
use Rattle.tj_core.specs.Journals.Judging.{IsJudged}
use Rattle.tj_lex.specs.Positions.{position_after}
use Rattle.tj_modes.specs.Runs.{status_of}
use Rattle.tj_syntax.specs.ScriptTexts.{most_bytes}
use Rattle.tj_modes.specs.Texts.{journal_fault}
use Rattle.tj_command.specs.declared.status.Status.{Status}
use Rattle.tj_command.specs.declared.status.Status.TheVariants.{Script}

-- the line of a journal's fault: where its first byte too many stands, or else the first that isn't one of an event
pub data IsJournalFault (journal : List ℕ) : ℕ → Type 0 where
  too_long : most_bytes < length journal → IsJournalFault journal (position_after (take most_bytes journal)).line
  bad_line : (line : ℕ) → length journal ≤ most_bytes → IsFirstFault (lines_of journal) line
      → IsJournalFault journal line

-- the journal is short enough, and its lines are those of these events
abbrev pub IsJournalOf : List ℕ → List Event → Type 0
IsJournalOf journal events = (length journal ≤ most_bytes) × AreEventLines (lines_of journal) events

-- the line of a journal's fault, or the text of judging its events with so many cells
abbrev pub IsJudging : (cells : ℕ) → (journal : List ℕ) → Status → List ℕ → Type 0
IsJudging cells journal status text =
    ((line : ℕ) × IsJournalFault journal line × (status ≡ Script) × (text ≡ journal_fault line))
    ⊎ ((events : List Event) × (marked : Bool) × IsJournalOf journal events
    × IsJudged cells events text marked × (status ≡ status_of marked))
