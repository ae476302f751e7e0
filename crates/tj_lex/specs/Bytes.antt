-- What a byte of a script can be part of.
use Rattle.std.specs.Prelude.{ℕ, Bool, false, not, ◌==◌, ◌||◌, List, [], ◌∷◌}
use Rattle.std.specs.Char.{is_ascii_alphabetic, is_ascii_digit}

-- the byte that ends a line
abbrev pub line_feed : ℕ
line_feed = 10

-- the byte that begins a comment
abbrev pub hash : ℕ
hash = 35

-- a space, a tab, a carriage return or a line feed
abbrev pub is_blank : ℕ → Bool
is_blank b = b == 32 || b == 9 || b == 13 || b == line_feed

-- a letter or an underscore
abbrev pub is_name_start : ℕ → Bool
is_name_start b = is_ascii_alphabetic b || b == 95

-- a letter, an underscore or a digit
abbrev pub is_name_byte : ℕ → Bool
is_name_byte b = is_name_start b || is_ascii_digit b

-- a blank, or the byte that begins a comment
abbrev pub is_gap_start : ℕ → Bool
is_gap_start b = is_blank b || b == hash

-- the bytes begin with one that passes
abbrev pub begins_with : (ℕ → Bool) → List ℕ → Bool
begins_with test [] = false
begins_with test (b ∷ rest) = test b

-- any byte but the line feed
abbrev pub stays_on_line : ℕ → Bool
stays_on_line b = not (b == line_feed)
