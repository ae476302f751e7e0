-- How an object of JSON begins, and a text in it.
use Rattle.std.specs.Prelude.{ℕ, ◌||◌, nat_eq, cond, List, [], ◌∷◌, ◌++◌, codes}

-- a text in quotes, where it has no quote and no backslash
abbrev pub quoted : List ℕ → List ℕ
quoted text = codes "\"" ++ text ++ codes "\""

-- a byte in a string: a quote and a backslash stand behind a backslash
abbrev pub escaped : ℕ → List ℕ
escaped b = cond (nat_eq b 34 || nat_eq b 92) (92 ∷ b ∷ []) (b ∷ [])

-- the beginning of an object of this kind
abbrev pub begin : List ℕ → List ℕ
begin kind = codes "{\"kind\":" ++ quoted kind
