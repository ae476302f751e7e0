-- A fork that hands nothing.
use Rattle.tj_run.proofs.Prelude.{List, [], length, sym, true, ℕ, ◌==◌, ◌≡◌}
use Rattle.std.proofs.lemmas.Bool.{eqb-true}
use Rattle.std.proofs.lemmas.List.{nil_from_length}

-- a list whose length is 0 is empty
pub no_places : (xs : List ℕ) → true ≡ (length xs == 0) → xs ≡ []
no_places xs e = nil_from_length xs (eqb-true (length xs) 0 (sym e))
