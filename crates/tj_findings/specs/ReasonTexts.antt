-- Why a task failed by `arith` or `kind`, as it is told.
use Rattle.std.specs.Prelude.{ℕ, List, [], ◌++◌, codes, Option, Some, None}
use Rattle.std.specs.Fmt.{signed_decimal}
use Rattle.std.specs.List.{list_all}
use Rattle.tj_base.specs.Texts.{name_text}
use Rattle.tj_base.specs.declared.cause.Cause.{Cause}
use Rattle.tj_base.specs.declared.cause.Cause.TheVariants as cause
use Rattle.tj_base.specs.declared.cell.Sort.{Sort}
use Rattle.tj_base.specs.declared.cell.Sort.TheVariants as sort
use Rattle.tj_body.specs.Names.{same}
use Rattle.tj_body.specs.declared.point.Value.{Value}
use Rattle.tj_body.specs.declared.point.Value.TheVariants as value
use Rattle.tj_syntax.specs.Trees.{Statement}
use Rattle.tj_reasons.specs.Reasons.{failed_at, held_in}
use Rattle.tj_findings.specs.PartTexts.{where_agreed}
use Rattle.tj_findings.specs.Scenes.{Told, statement_at}
use Rattle.tj_findings.specs.declared.finding.ToldTask.{ToldTask}
use Rattle.tj_reasons.specs.declared.reason.Met.{Met}
use Rattle.tj_reasons.specs.declared.reason.Met.TheVariants as met
use Rattle.tj_reasons.specs.declared.reason.Reason.{Reason}
use Rattle.tj_reasons.specs.declared.reason.Reason.TheVariants as reason
use Rattle.tj_reasons.specs.declared.reason.Wanted.{Wanted}
use Rattle.tj_reasons.specs.declared.reason.Wanted.TheVariants as wanted

-- why a task failed at a statement, if there is such a one
abbrev pub reason_in : List Value → Option Statement → Option Reason
reason_in held None = None
reason_in held (Some q) = failed_at held q

-- why a task failed at the statement where it stopped, if the cause is `arith` or `kind`
abbrev pub reason_for : Told → ToldTask → Cause → Option Reason
reason_for s t cause.Arith = reason_in t.held (statement_at s t.decl t.at)
reason_for s t cause.Kind = reason_in t.held (statement_at s t.decl t.at)
reason_for s t cause.Steps = None
reason_for s t (cause.Owner q) = None
reason_for s t (cause.Broken q) = None
reason_for s t (cause.Order q) = None

-- the word in front of the name of a cell
abbrev pub sort_words : Sort → List ℕ
sort_words sort.Task = codes "the task "
sort_words sort.Promise = codes "the promise "

-- a number, or a cell
abbrev pub value_words : Value → List ℕ
value_words (value.Num n) = signed_decimal n
value_words (value.Ref r) = sort_words r.sort ++ name_text r.name

-- what a task met
abbrev pub met_words : ToldTask → Met → List ℕ
met_words t (met.Number n) = signed_decimal n
met_words t (met.Variable x) = value_words (held_in t.held x)
met_words t met.Itself = sort_words sort.Task ++ name_text t.name

-- what was wanted
abbrev pub wanted_words : Wanted → List ℕ
wanted_words wanted.Number = codes "a number"
wanted_words wanted.Promise = codes "a promise"
wanted_words wanted.Task = codes "a task"

-- why a task failed
abbrev pub reason_words : ToldTask → Reason → List ℕ
reason_words t reason.Division = codes "division by zero"
reason_words t reason.Overflow = codes "overflow"
reason_words t (reason.Met m w) = met_words t m ++ codes " where " ++ wanted_words w ++ codes " is wanted"

-- the same behind the word of the cause, if there is a reason
abbrev pub words_behind : ToldTask → Option Reason → List ℕ
words_behind t None = []
words_behind t (Some r) = codes ", " ++ reason_words t r

-- what is told of why a task failed, behind the word of the cause
abbrev pub reason_text : Told → ToldTask → Cause → List ℕ
reason_text s t c = words_behind t (reason_for s t c)

-- why the tasks failed that failed for this cause, if the same is told of each
abbrev pub all_reasons : Told → ToldTask → Cause → List ToldTask → List ℕ
all_reasons s t c ts = where_agreed (list_all (λ u. same (reason_text s t c) (reason_text s u c)) ts) (reason_text s t c)
