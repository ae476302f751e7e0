-- What a draw adds to the cells that there are, and its event.
use Rattle.std.specs.Prelude.{ℕ, suc, List}
use Rattle.tj_base.specs.ForkOrder.{child}
use Rattle.tj_base.specs.declared.cell.Sort.{Sort}
use Rattle.tj_body.specs.declared.point.Reference.{Reference}
use Rattle.tj_events.specs.declared.event.Event.{Event}
use Rattle.tj_events.specs.declared.event.Event.TheVariants.{Make, Fork}
use Rattle.tj_words.specs.Words.Lists.{cell}
use Rattle.tj_words.specs.LawParts.ShownState.{reference_of}
use Rattle.tj_base.specs.declared.cell.Sort.TheVariants as sort

-- the cells that there are, one more drawn: its name is its maker's and the number of things made so far, and one
abbrev pub next_reference : List Reference → ℕ → ℕ → Sort → Reference
next_reference born t made sort = record { name = child (reference_of born t).name (suc made); sort = sort }

-- the event of a draw of this sort by t
abbrev pub draw_event : Sort → ℕ → Event
draw_event sort.Promise t = Make (cell t)
draw_event sort.Task t = Fork (cell t)
