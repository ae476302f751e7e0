-- The walk of the parser over the words of a command line.
use Rattle.tj_modes.proofs.Prelude.{AsWritten, Bool, Cells, CommandLine, Kinds, List, Mode, None, Option, OptionName}
use Rattle.tj_modes.proofs.Prelude.{Row, Size, Some, Steps, Text, Walk, Workers, [], ap, built, codes, false, has_row}
use Rattle.tj_modes.proofs.Prelude.{id_of, if◌then◌else◌, line_app, mode_text, option_text, or_else, refl, settle_fault}
use Rattle.tj_modes.proofs.Prelude.{true, turn_fault, walk_from, walked, ℕ, ◌&&◌, ◌==◌, ◌∙◌, ◌∷◌, ◌≡◌}
use Rattle.clap.proofs.OnLiterals.{clap_on_literals}
use Rattle.clap.specs.Walk.{Held, Waiting, idle, nothing_held, settled_rows}
use Rattle.clap.specs.Lexer.{long_of, short_of}
use Rattle.clap.specs.Simple.{Shape}
use Rattle.clap.specs.Walk as walk
use Rattle.clap.specs.declared.error.kind.ErrorKind.TheVariants as kind
use Rattle.tj_modes.specs.declared.mode.Mode.TheVariants as modes

abbrev pub top : Shape
top = (built line_app).top

abbrev pub row : Text → Text → Row
row id value = record { id = id; values = value ∷ []; count = None; source = Some CommandLine; reading = AsWritten }

-- what takes one value
pub data Slot : Type 0 where
  the_mode : Slot
  the_option : OptionName → Slot

abbrev pub id_at : Slot → Text
id_at the_mode = codes "mode"
id_at (the_option name) = id_of name

-- a value that has been read and isn't settled yet
abbrev pub Unsettled : Type 0
Unsettled = Option (Slot × Text)

abbrev pub pending_of : Unsettled → Option (Text × List Text)
pending_of None = None
pending_of (Some slot) = Some (id_at slot.0, slot.1 ∷ [])

abbrev pub rows_of : Unsettled → List Row
rows_of None = []
rows_of (Some slot) = row (id_at slot.0) slot.1 ∷ []

abbrev pub stand_at : List Row → Option (Text × List Text) → Waiting → Walk
stand_at rows pending waiting = record {
  held = record { rows = rows; pending = pending; skip = 0 };
  waiting = waiting;
  position = 2;
  is_trailing = false;
  stopped = None;
}

-- where the walk stands behind the mode, and between two items
abbrev pub stand : List Row → Unsettled → Walk
stand rows o = stand_at rows (pending_of o) idle

-- where it stands behind the name of an option
abbrev pub waits : List Row → OptionName → Walk
waits rows name = stand_at rows (Some (id_of name, [])) (walk.option (id_of name))

abbrev pub after : List Row → Unsettled → List Row
after rows o = settled_rows top.rules (pending_of o) rows

-- ---- one word

pub first_step : (mode : Mode)
    → walked top.rules [] (walk_from nothing_held) (mode_text mode) ≡ stand [] (Some (the_mode, mode_text mode))
unfolding clap_on_literals
first_step modes.Run = refl
first_step mode = refl

pub first_fault : (mode : Mode) → turn_fault top [] (walk_from nothing_held) (mode_text mode) ≡ []
unfolding clap_on_literals
first_fault modes.Run = refl
first_fault mode = refl

pub name_step : (rows : List Row) (o : Unsettled) (name : OptionName)
    → walked top.rules [] (stand rows o) (option_text name) ≡ waits (after rows o) name
unfolding clap_on_literals
name_step rows o Workers = refl
name_step rows o name = refl

pub flag_step : (rows : List Row) (o : Unsettled)
    → walked top.rules [] (stand rows o) (codes "--strict")
    ≡ stand (walk.with_values (codes "strict") AsWritten CommandLine (codes "true" ∷ [])
    (walk.without (codes "strict") (after rows o))) None
unfolding clap_on_literals
flag_step rows o = refl

no_long : (a : ℕ) (rest : Text) → (a == 45) ≡ false → long_of (a ∷ rest) ≡ None
no_long a rest e = rw e refl

no_short : (a : ℕ) (rest : Text) → (a == 45) ≡ false → short_of (a ∷ rest) ≡ None
no_short a rest e = rw e refl

pub number_step : (rows : List Row) (name : OptionName) (a : ℕ) (rest : Text) → (a == 45) ≡ false
    → walked top.rules [] (waits rows name) (a ∷ rest) ≡ stand rows (Some (the_option name, a ∷ rest))
unfolding clap_on_literals
number_step rows Workers a rest e = rw (no_long a rest e, no_short a rest e, e) refl
number_step rows name a rest e = rw (no_long a rest e, no_short a rest e, e) refl

pub number_fault : (rows : List Row) (name : OptionName) (a : ℕ) (rest : Text) → (a == 45) ≡ false
    → turn_fault top [] (waits rows name) (a ∷ rest) ≡ []
unfolding clap_on_literals
number_fault rows name a rest e = rw (no_long a rest e, no_short a rest e, e) refl

pub stray_fault : (rows : List Row) (o : Unsettled) (a : ℕ) (rest : Text) → (a == 45) ≡ false
    → turn_fault top [] (stand rows o) (a ∷ rest) ≡ kind.UnknownArgument ∷ []
unfolding clap_on_literals
stray_fault rows o a rest e = rw (no_long a rest e, no_short a rest e, e) refl

-- ---- what settling finds

abbrev pub held : List Row → Unsettled → Held
held rows o = record { rows = rows; pending = pending_of o; skip = 0 }

abbrev pub fault_at : List Row → Unsettled → Kinds
fault_at rows o = settle_fault top.rules false (held rows o)

pub name_fault : (rows : List Row) (o : Unsettled) (name : OptionName)
    → turn_fault top [] (stand rows o) (option_text name) ≡ or_else (fault_at rows o) []
unfolding clap_on_literals
name_fault rows o Workers = refl
name_fault rows o name = refl

abbrev pub repeat_kinds : Bool → Kinds
repeat_kinds b = if b then kind.ArgumentConflict ∷ [] else []

or_nothing : (b : Bool) → or_else (if b && true then kind.ArgumentConflict ∷ [] else []) [] ≡ repeat_kinds b
or_nothing true = refl
or_nothing false = refl

or_none : (k : Kinds) → or_else k [] ≡ k
or_none [] = refl
or_none (x ∷ k) = refl

pub flag_fault : (rows : List Row) (o : Unsettled)
    → turn_fault top [] (stand rows o) (codes "--strict")
    ≡ or_else (fault_at rows o) (repeat_kinds (has_row (codes "strict") (after rows o)))
unfolding clap_on_literals
flag_fault rows o = or_none _ ∙ ap (or_else (fault_at rows o)) (or_nothing (has_row (codes "strict") (after rows o)))

-- an option without a number
pub name_waits : (rows : List Row) (name other : OptionName)
    → turn_fault top [] (waits rows name) (option_text other) ≡ kind.InvalidValue ∷ []
unfolding clap_on_literals
name_waits rows Workers Workers = refl
name_waits rows name Workers = refl
name_waits rows name other = refl

pub flag_waits : (rows : List Row) (name : OptionName)
    → turn_fault top [] (waits rows name) (codes "--strict") ≡ kind.InvalidValue ∷ []
unfolding clap_on_literals
flag_waits rows Workers = refl
flag_waits rows name = refl

pub end_waits : (rows : List Row) (name : OptionName)
    → settle_fault top.rules false (waits rows name).held ≡ kind.InvalidValue ∷ []
end_waits rows Workers = refl
end_waits rows name = refl

pub settle_fault_is : (rows : List Row) (slot : Slot) (value : Text)
    → fault_at rows (Some (slot, value)) ≡ repeat_kinds (has_row (id_at slot) rows)
settle_fault_is rows the_mode value = or_nothing (has_row (codes "mode") rows)
settle_fault_is rows (the_option Workers) value = or_nothing (has_row (codes "workers") rows)
settle_fault_is rows (the_option Cells) value = or_nothing (has_row (codes "cells") rows)
settle_fault_is rows (the_option Steps) value = or_nothing (has_row (codes "steps") rows)
settle_fault_is rows (the_option Size) value = or_nothing (has_row (codes "size") rows)

abbrev pub added : Text → Text → List Row → List Row
added id value rows = walk.with_values id AsWritten CommandLine (value ∷ []) (walk.without id rows)

pub after_is : (rows : List Row) (slot : Slot) (value : Text)
    → after rows (Some (slot, value)) ≡ added (id_at slot) value rows
after_is rows the_mode value = refl
after_is rows (the_option Workers) value = refl
after_is rows (the_option Cells) value = refl
after_is rows (the_option Steps) value = refl
after_is rows (the_option Size) value = refl
