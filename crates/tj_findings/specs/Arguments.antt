-- What a task began with, as it is told behind the name of its declaration.
use Rattle.std.specs.Prelude.{ℕ, nat_le, cond, List, [], ◌∷◌, ◌++◌, codes, length, take, Option, Some, None}
use Rattle.std.specs.Fmt.{signed_decimal}
use Rattle.tj_base.specs.Texts.{name_text}
use Rattle.tj_body.specs.declared.point.Value.{Value}
use Rattle.tj_body.specs.declared.point.Value.TheVariants as value
use Rattle.tj_syntax.specs.Trees.{Task}

-- a number, or the name of the cell to which it refers
abbrev pub value_text : Value → List ℕ
value_text (value.Num i) = signed_decimal i
value_text (value.Ref r) = name_text r.name

-- values, each behind a comma
abbrev pub more_text : List Value → List ℕ
more_text [] = []
more_text (v ∷ vs) = codes ", " ++ value_text v ++ more_text vs

-- values, with commas between them
abbrev pub values_text : List Value → List ℕ
values_text [] = []
values_text (v ∷ vs) = value_text v ++ more_text vs

-- how many bytes of arguments are told at most
abbrev pub most_bytes : ℕ
most_bytes = 40

-- of a longer text the beginning, and two dots
abbrev pub cut_text : List ℕ → List ℕ
cut_text text = cond (nat_le (length text) most_bytes) text (take 38 text ++ codes "..")

-- the arguments, if there are any
abbrev pub in_brackets : List Value → List ℕ
in_brackets [] = []
in_brackets (v ∷ vs) = codes "(" ++ cut_text (values_text (v ∷ vs)) ++ codes ")"

-- the arguments of a task of this declaration, of which its variables held these values at first
abbrev pub arguments_text : Option Task → List Value → List ℕ
arguments_text None values = []
arguments_text (Some d) values = in_brackets (take d.params values)
