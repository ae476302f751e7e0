-- The words TAG and BITS of a cell, and what they stand for.
use Rattle.std.specs.Prelude.{◌≡◌, ◌⊎◌, ℕ, cond, nat_eq, Option, Some, None}
use Rattle.std.specs.Int.{cast_signed, w64}
use Rattle.tj_record.specs.declared.record.Fill.{Fill}
use Rattle.tj_record.specs.declared.record.Fill.TheVariants.{Num, Promise, Task}

-- TAG of a cell that is filled, or broken; 0 is TAG of a cell of which nothing has become
abbrev pub tag_word : Option Fill → ℕ
tag_word (Some (Num i)) = 1
tag_word (Some (Promise c)) = 2
tag_word (Some (Task c)) = 3
tag_word None = 4

-- under this TAG the word BITS is a cell
abbrev pub NamesCell : ℕ → Type 0
NamesCell tag = (tag ≡ 2) ⊎ (tag ≡ 3)

-- what a TAG other than 0 and BITS stand for: the number of these 64 bits, or a cell, or that it is broken
abbrev pub fill_in : ℕ → ℕ → Option Fill
fill_in tag bits =
    cond (nat_eq tag 1) (Some (Num (cast_signed w64 bits)))
    (cond (nat_eq tag 2) (Some (Promise (record { 0 = bits })))
    (cond (nat_eq tag 3) (Some (Task (record { 0 = bits })))
    None))
