-- What a task gives, hands on and makes, by its record.
use Rattle.std.specs.Prelude.{◌≡◌, ℕ, List, ◌∷◌, Result, Ok, Err}
use Rattle.tj_base.specs.declared.cell.CellId.{CellId}
use Rattle.tj_base.specs.declared.cell.Sort.{Sort}
use Rattle.tj_base.specs.declared.cell.Sort.TheVariants as sort
use Rattle.tj_base.specs.declared.value.Pay.{Pay}
use Rattle.tj_base.specs.declared.value.Pay.TheVariants as pay
use Rattle.tj_base.specs.declared.cause.Trouble.{Trouble}
use Rattle.tj_base.specs.declared.cause.Trouble.TheVariants as trouble
use Rattle.tj_body.specs.NameLaws.{Unhanded, no_promise, not_owned}
use Rattle.tj_record.specs.declared.record.Fill.{Fill}
use Rattle.tj_record.specs.declared.record.Fill.TheVariants as fill
use Rattle.tj_record.specs.declared.record.Held.{Held}
use Rattle.tj_record.specs.declared.record.Hurt.{Hurt}
use Rattle.tj_record.specs.declared.record.Hurt.TheVariants as hurt
use Rattle.tj_record.specs.declared.record.Rec.{Rec}
use Rattle.tj_record.specs.StartRecords.{own, start_record}
pub use Rattle.tj_record.specs.TaskRecords.{held_at}
use Rattle.tj_words.specs.Words.Lists.{cell, numbers}

-- a cell as a value
abbrev pub fill_of : Sort → CellId → Fill
fill_of sort.Task c = fill.Task c
fill_of sort.Promise c = fill.Promise c

-- what a task gives, as its record has it
abbrev pub fill_at : List Held → Pay → Fill
fill_at held (pay.Num i) = fill.Num i
fill_at held (pay.Ref k) = fill_of (held_at held k).sort (held_at held k).cell

-- why a task fails whose body finds this fault
abbrev pub hurt_of : Trouble → Hurt
hurt_of trouble.Arith = hurt.Arith
hurt_of trouble.Kind = hurt.Kind
hurt_of trouble.Steps = hurt.Steps

-- why a task fails that hands what it may not
abbrev pub hurt_by : Unhanded → Hurt
hurt_by no_promise = hurt.Kind
hurt_by (not_owned c) = hurt.Owner (cell c)

-- a held cell by its sort and number
abbrev pub numbered : Held → Sort × ℕ
numbered h = (h.sort, h.cell.0)

-- what the task keeps of the cells owned, or why it fails
abbrev pub AreKept : Result (List CellId) Hurt → Result (List ℕ) Unhanded → Type 0
AreKept (Ok left) (Ok cells) = numbers left ≡ cells
AreKept (Err h) (Err why) = h ≡ hurt_by why
AreKept (Ok left) (Err why) = ⊥
AreKept (Err h) (Ok cells) = ⊥

-- the record of a child at its start
abbrev pub child_record : {B : Type 0} → CellId → B → List Held → List CellId → Rec B
child_record c b passed handed = start_record c b (own c ∷ passed) (c ∷ handed)
