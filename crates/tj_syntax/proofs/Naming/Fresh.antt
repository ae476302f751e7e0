-- A name that can be declared is not there yet, and there is room for it.
use Rattle.std.proofs.Common.{◌≡◌, ℕ, ◌<◌, Bool, true, false, cond, is_some, List, length, Option, Some, None, Ok}
use Rattle.std.proofs.Common.{refl, ap, sym, ◌∙◌, subst, arith}
use Rattle.std.specs.Prelude.{nat_le}
use Rattle.std.proofs.lemmas.Bool.Decides.{nat_tests}
use Rattle.tj_lex.specs.declared.token.Mark.TheVariants as m
use Rattle.tj_syntax.specs.declared.fault.Breach.{Breach}
use Rattle.tj_syntax.specs.declared.fault.Breach.TheVariants.{Twice, Many}
use Rattle.tj_syntax.specs.Trees.{Given}
use Rattle.tj_syntax.specs.Marks.{Name, index_of, most_vars}
use Rattle.tj_syntax.specs.Inner.Input.{Input, expect, fresh, fresh_variable, breach_of}
use Rattle.tj_syntax.specs.Inner.Reading.{given}
use Rattle.tj_syntax.proofs.Sound.Steps.{expected}
use Rattle.tj_syntax.proofs.Sound.Ask.{given_sound}
use Rattle.tj_syntax.proofs.Sound.Stmt.{fresh_sound}

free_at : (o : Option ℕ) (b : Bool) → ◌≡◌ {A = Option Breach} (cond (is_some o) (Some Twice) (cond b (Some Many)
    None)) None → (o ≡ None) × (b ≡ false)
free_at (Some n) b h = absurd (cc)
free_at None true h = absurd (cc)
free_at None false h = (refl, refl)

-- what can be said of a list to which a name can be added
pub record IsFree (most : ℕ) (earlier : List Name) (x : Name) : Type 0 where
  pub new : index_of earlier x ≡ None
  pub few : length earlier < most

pub free : (most : ℕ) (earlier : List Name) (x : Name) → breach_of most earlier x ≡ None → IsFree most earlier x
free most earlier x h =
    let parts = free_at (index_of earlier x) (nat_le most (length earlier)) h in
    let short : nat_le most (length earlier) ≡ false = parts.1 in
    record { new = parts.0; few = grind (arith, nat_tests) }

pub fresh_free : (most : ℕ) (earlier : List Name) (i j : Input) (x : Name) → fresh most earlier i ≡ Ok (x, j) → IsFree
    most earlier x
fresh_free most earlier i j x h = free most earlier x (fresh_sound most earlier i j x h).free

-- behind the name of a variable
pub variable_free : (i j : Input) (x : Name) → fresh_variable i ≡ Ok (x, j) → IsFree most_vars j.vars x
variable_free i j x h =
    let name = fresh_sound most_vars i.vars i j x h in
    subst (λ v. IsFree most_vars v x) (sym (ap (λ (l : Input). l.vars) name.there)) (free most_vars i.vars x name.free)

-- behind the semicolon of a declaration
pub let_free : (room : ℕ) (i j k l n : Input) (x : Name) (side : Given) (u v : Unit {0}) → fresh_variable i ≡ Ok (
  x,
  j,
) → expect m.Assign j ≡ Ok (u, k)
    → given room k ≡ Ok (side, l) → expect m.Semi l ≡ Ok (v, n) → IsFree most_vars n.vars x
let_free room i j k l n x side u v name assign gives semi =
    let kept : n.vars ≡ j.vars =
    ap (λ p. p.0) (expected m.Semi l n v semi).kept ∙ (given_sound room k l side gives).vars ∙ ap (λ p. p.0) (expected
    m.Assign j k u assign).kept in
    subst (λ w. IsFree most_vars w x) (sym kept) (variable_free i j x name)
