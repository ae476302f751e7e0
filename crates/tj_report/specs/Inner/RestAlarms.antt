-- The lines of cycles by the indexes of their tasks.
use Rattle.std.specs.Prelude.{◌≡◌, ℕ, List, ◌++◌, codes, get_or, map, Option}
use Rattle.std.specs.List.{All, flat_map, join_by}
use Rattle.tj_mean.specs.Outcomes.{AreApart, AreCycles, Ascend}
use Rattle.tj_mean.specs.WaitIndexes.{AreNext, LeadsOn, link_at}
use Rattle.tj_mean.specs.declared.outcome.Link.{Link}
use Rattle.tj_mean.specs.declared.stopped.Stopped.{Stopped}
use Rattle.tj_words.specs.declared.closed.RestCell.{RestCell}
use Rattle.tj_record.specs.declared.record.Rec.{Rec}
use Rattle.tj_report.specs.Inner.AwaitedCells.{AreNextBy, AreRanks, link_by}
use Rattle.tj_mean.specs.ReportTexts.{line_feed, link_text}

-- a line for the cycle of the tasks with these indexes
abbrev pub alarm_by : (ℕ → Link) → List ℕ → List ℕ
alarm_by f c = codes "alarm " ++ join_by (λ p. link_text (f p)) (codes ", ") c ++ line_feed

module _ {B : Type 0} (shown : List RestCell) (records : List (Option (Rec B))) (order : List ℕ) where
  -- the task at an index of these cells, with the cell for which it waits
  abbrev pub link_in : ℕ → Link
  link_in p = link_by shown records (get_or order p 0)

  -- The second text is the first one and lines for all cycles, where each task leads to the owner of the cell for which
  -- it waits.
  pub record AreAlarmsBy (before after : List ℕ) : Type 0 where
    pub ranks : List (Option ℕ)
    pub next : List (Option ℕ)
    pub cs : List (List ℕ)
    pub ranks_are : AreRanks order ranks
    pub next_is : AreNextBy shown records ranks order next
    pub on : All (λ c. All (LeadsOn next) c) cs
    pub cycles : (tasks : List Stopped) → AreApart tasks → Ascend (map (λ s. s.line.name) tasks)
        → AreNext tasks tasks next → AreCycles tasks (map (map (link_at tasks)) cs)
    pub text_is : after ≡ before ++ flat_map (alarm_by link_in) cs
