-- Names, and the fork order on them.
use Rattle.std.specs.Prelude.{ℕ, Bool, true, false, nat_eq, nat_lt, ◌<◌, ◌≡◌, ◌&&◌, ◌||◌, ◌⊎◌, List, [], ◌∷◌, ◌++◌}

-- the numbers from the root on
abbrev pub Name : Type 0
Name = List ℕ

-- the k-th thing that a task makes
abbrev pub child : Name → ℕ → Name
child maker k = maker ++ k ∷ []

-- the fork order: an ancestor first, else the larger number at the first difference
abbrev pub before : Name → Name → Bool
before [] [] = false
before [] (k ∷ b) = true
before (j ∷ a) [] = false
before (j ∷ a) (k ∷ b) = nat_lt k j || (nat_eq j k && before a b)

-- b is a descendant of a: its name goes on from a's
pub record IsAncestor (a b : Name) : Type 0 where
  pub number : ℕ
  pub rest : Name
  pub goes_on : b ≡ a ++ number ∷ rest

-- after a common beginning a goes on with a larger number than b, so a's branch was forked later
pub record IsLaterFork (a b : Name) : Type 0 where
  pub common : Name
  pub later : ℕ
  pub earlier : ℕ
  pub rest_of_a : Name
  pub rest_of_b : Name
  pub a_is : a ≡ common ++ later ∷ rest_of_a
  pub b_is : b ≡ common ++ earlier ∷ rest_of_b
  pub larger : earlier < later

-- a is before b: it is an ancestor, or stands in a branch that was forked later
abbrev pub IsBefore : Name → Name → Type 0
IsBefore a b = IsAncestor a b ⊎ IsLaterFork a b
