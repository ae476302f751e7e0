-- How a text tells a promise, how a task stopped, and a cause.
use Rattle.std.specs.Prelude.{ℕ, Bool, true, false, cond, List, [], ◌++◌, codes, Option, Some, None}
use Rattle.tj_base.specs.ForkOrder.{Name}
use Rattle.tj_base.specs.Texts.{name_text}
use Rattle.tj_base.specs.declared.cause.Cause.{Cause}
use Rattle.tj_base.specs.declared.cause.Cause.TheVariants as cause
use Rattle.tj_base.specs.declared.cell.Sort.{Sort}
use Rattle.tj_base.specs.declared.cell.Sort.TheVariants as sort
use Rattle.tj_trace.specs.declared.line.Maker.{Maker}
use Rattle.tj_findings.specs.LetNames.{let_name, let_text}
use Rattle.tj_findings.specs.Scenes.{Told, spot_text}
use Rattle.tj_findings.specs.declared.finding.Stop.{Stop}
use Rattle.tj_findings.specs.declared.finding.Stop.TheVariants as stop
use Rattle.tj_findings.specs.declared.finding.ToldCell.{ToldCell}

-- who owns a promise, if somebody does
abbrev pub owner_text : Option Name → List ℕ
owner_text None = []
owner_text (Some x) = codes ", which " ++ name_text x ++ codes " owns"

-- for which variable and where a promise was made
abbrev pub made_text : Told → Option Maker → List ℕ
made_text s None = []
made_text s (Some m) =
    codes " (" ++ let_text (let_name s m) ++ codes "made at " ++ spot_text s m.decl m.at ++ codes ")"

-- a promise with the statement that made it
abbrev pub promise_text : Told → ToldCell → List ℕ
promise_text s q = codes "the promise " ++ name_text q.name ++ made_text s q.maker

-- this is the sort of promises
abbrev pub is_promise_sort : Sort → Bool
is_promise_sort sort.Task = false
is_promise_sort sort.Promise = true

-- the cell is a promise, by what made it
abbrev pub is_promise : Option Maker → Bool
is_promise None = false
is_promise (Some m) = is_promise_sort m.sort

-- where the parts are the same in each of these
abbrev pub where_agreed : Bool → List ℕ → List ℕ
where_agreed agreed text = cond agreed text []

-- of three texts the one for how a task stopped: it ended, failed, or waits
abbrev pub by_stop : Stop → List ℕ → List ℕ → List ℕ → List ℕ
by_stop stop.Ended ended failed waits = ended
by_stop stop.Failed ended failed waits = failed
by_stop stop.Waits ended failed waits = waits

-- how a task stopped
abbrev pub stopped_word : Stop → List ℕ
stopped_word how = by_stop how (codes "ended") (codes "failed") (codes "waits")

-- the word of a cause
abbrev pub cause_word : Cause → List ℕ
cause_word cause.Arith = codes "arith"
cause_word cause.Kind = codes "kind"
cause_word cause.Steps = codes "steps"
cause_word (cause.Owner q) = codes "owner"
cause_word (cause.Broken q) = codes "broken"
cause_word (cause.Order q) = codes "order"
