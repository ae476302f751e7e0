-- The limits that a command asks for are within the greatest.
use Rattle.std.proofs.Common.{IfSome, List, [], ◌∷◌, ◌≤◌, None, Option, Some, arith, subst, sym, ℕ, String}
use Rattle.std.specs.Prelude.{unwrap_or}
use Rattle.std.specs.declared.alloc.Global.{Global}
use Rattle.tj_command.specs.declared.limits.TheConstants.{MAX_WORD_CELLS}
use Rattle.tj_command.specs.Limits.{AreLimits}
use Rattle.tj_command.specs.Numerals.{IsUpTo}
use Rattle.tj_eval.specs.declared.body.TheConstants.{MAX_STEPS}
use Rattle.tj_explain.specs.WhyLine.{AllMayStand, IsCommand, Item, MayStand, alone, asked, nothing, numbered, with_item}
use Rattle.tj_explain.specs.WhyLine.{with_items}
use Rattle.tj_explain.specs.declared.line.Said.{Said}
use Rattle.tj_explain.specs.declared.line.WhyCommand.{WhyCommand}
use Rattle.tj_explain.specs.declared.line_word.Flag.TheVariants.{Strict, Short, All, Dot, Json}
use Rattle.tj_explain.specs.declared.line_word.OptionName.TheVariants.{Cells, Steps}

-- the numbers that were said are within their limits
record AreWithin (said : Said) : Type 0 where
  cells : IfSome said.cells (IsUpTo MAX_WORD_CELLS)
  steps : IfSome said.steps (IsUpTo MAX_STEPS)

within_with : (said : Said) (item : Item) → MayStand item said → AreWithin said → AreWithin (with_item item said)
within_with said (numbered Cells digits) may are = record { cells = may.2; steps = are.steps }
within_with said (numbered Steps digits) may are = record { cells = are.cells; steps = may.2 }
within_with said (alone Strict) may are = record { cells = are.cells; steps = are.steps }
within_with said (alone Short) may are = record { cells = are.cells; steps = are.steps }
within_with said (alone All) may are = record { cells = are.cells; steps = are.steps }
within_with said (alone Dot) may are = record { cells = are.cells; steps = are.steps }
within_with said (alone Json) may are = record { cells = are.cells; steps = are.steps }

within_items : (said : Said) (items : List Item) → AllMayStand items said → AreWithin said
    → AreWithin (with_items items said)
within_items said [] all are = are
within_items said (item ∷ items) all are =
    within_items (with_item item said) items all.1 (within_with said item all.0 are)

or_default : (most other : ℕ) (number : Option ℕ) → IfSome number (IsUpTo most) → IsUpTo most other
    → IsUpTo most (unwrap_or number other)
or_default most other None within usual = usual
or_default most other (Some n) within usual = within

asked_within : (said : Said) → AreWithin said → AreLimits (asked said).limits
asked_within said are =
    let cells : IsUpTo MAX_WORD_CELLS (unwrap_or said.cells 4096) =
    or_default MAX_WORD_CELLS 4096 said.cells are.cells (omega arith, omega arith) in
    let steps : IsUpTo MAX_STEPS (unwrap_or said.steps 100000) =
    or_default MAX_STEPS 100000 said.steps are.steps (omega arith, omega arith) in
    let few : unwrap_or said.cells 4096 ≤ 16384 = cells.1 in
    record { some_cells = cells.0; few_cells = omega arith; some_steps = steps.0; few_steps = steps.1 }

-- the limits of a command
pub within_limits : (words : List (String Global)) (command : WhyCommand) → IsCommand words command
    → AreLimits command.limits
within_limits words command is = subst (λ (k : WhyCommand). AreLimits k.limits) (sym is.3)
    (asked_within (with_items is.0 nothing) (within_items nothing is.0 is.2 (record { cells = tt; steps = tt })))
