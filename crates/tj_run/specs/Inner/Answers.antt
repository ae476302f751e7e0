-- What a value found makes of a record.
use Rattle.std.specs.Prelude.{Bool, true, false, [], ◌∷◌, ◌++◌, length}
use Rattle.tj_body.specs.declared.ask.Answer.TheVariants as answer
use Rattle.tj_record.specs.declared.record.Finish.TheVariants as finish
use Rattle.tj_record.specs.declared.record.Held.{Held}
use Rattle.tj_record.specs.declared.record.Hurt.{Hurt}
use Rattle.tj_record.specs.declared.record.Rec.{Rec}
use Rattle.tj_run.specs.declared.next.Next.{Next}
use Rattle.tj_run.specs.declared.next.Next.TheVariants as next

-- a task without another answer fails where the cell is broken
abbrev pub next_broken : Bool → Hurt → Next
next_broken true h = next.Runs
next_broken false h = next.Ends (finish.Failed h)

module _ {B : Type 0} where
  -- the record holds one cell more, whose place is its answer
  abbrev pub with_reference : Held → Rec B → Rec B
  with_reference h r = record r { held = r.held ++ h ∷ []; answer = answer.RefAt (length r.held) }

  -- a broken cell is an answer where the task has something else in its place
  abbrev pub with_lost : Bool → Rec B → Rec B
  with_lost true r = record r { answer = answer.Lost }
  with_lost false r = r
