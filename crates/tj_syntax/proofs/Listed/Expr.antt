-- An expression's listing is an expression again, in no more levels than it was read in: a pair of parentheses in the
-- listing stands where a pair stood in what was read.
use Rattle.std.proofs.Common.{◌≡◌, ℕ, zero, suc, ◌+◌, ◌≤◌, cond, List, [], ◌∷◌, ◌++◌, refl, subst, arith, ⊎_elim}
use Rattle.std.proofs.Common.{ltb-false}
use Rattle.std.specs.Prelude.{nat_lt}
use Rattle.std.proofs.lemmas.List.{append-nil}
use Rattle.std.proofs.lemmas.Bool.{cases_Bool}
use Rattle.tj_lex.specs.declared.token.Tok.{Tok}
use Rattle.tj_lex.specs.declared.token.Tok.TheVariants as toks
use Rattle.tj_lex.specs.declared.token.Mark.TheVariants as m
use Rattle.tj_syntax.specs.declared.read_expr.Level.TheVariants.{Sums as sums, Products as products}
use Rattle.tj_syntax.specs.declared.fault.Breach.TheVariants.{Deep}
use Rattle.tj_syntax.specs.Trees.{Expression, Task}
use Rattle.tj_syntax.specs.Marks.{Name, Noted, fine, mark, opening}
use Rattle.tj_syntax.specs.Grammar.{IsExpression, alone, IsChain, operands, pairs_end, product, unary, IsUnary, grouped}
use Rattle.tj_syntax.specs.Faults.{IsUnbroken}
use Rattle.tj_syntax.specs.Listing as listing
use Rattle.tj_syntax.specs.Listing.{Part, token, level, operand}
use Rattle.tj_syntax.proofs.Listed.Again.{Again, fine_mark, front, back, also}

-- the tokens are an expression of this level
abbrev pub IsAt : List Name → (need room : ℕ) → List Noted → Expression → Type 0
IsAt vars zero room a x = IsExpression vars room a x
IsAt vars (suc zero) room a x = IsChain vars sums room a x
IsAt vars (suc (suc zero)) room a x = IsChain vars products room a x
IsAt vars (suc (suc (suc n))) room a x = IsUnary vars room a x

-- a unary is a product, and a product is a sum
as_product : (vars : List Name) (room : ℕ) (a : List Noted) (x : Expression) → IsUnary vars room a x
    → IsChain vars products room a x
as_product vars room a x u = subst (λ b. IsChain vars products room b x) (append-nil a) (operands (unary u) pairs_end)

as_sum : (vars : List Name) (room : ℕ) (a : List Noted) (x : Expression) → IsChain vars products room a x
    → IsChain vars sums room a x
as_sum vars room a x c = subst (λ b. IsChain vars sums room b x) (append-nil a) (operands (product c) pairs_end)

-- what binds more tightly stands where less is needed
pub lift : (vars : List Name) (room : ℕ) (a : List Noted) (x : Expression) (need lvl : ℕ) → need ≤ lvl → need ≤ 3
    → IsAt vars lvl room a x → IsAt vars need room a x
lift vars room a x zero zero h small is = is
lift vars room a x zero (suc zero) h small is = alone is
lift vars room a x zero (suc (suc zero)) h small is = alone (as_sum vars room a x is)
lift vars room a x zero (suc (suc (suc n))) h small is = alone (as_sum vars room a x (as_product vars room a x is))
lift vars room a x (suc zero) (suc zero) h small is = is
lift vars room a x (suc zero) (suc (suc zero)) h small is = as_sum vars room a x is
lift vars room a x (suc zero) (suc (suc (suc n))) h small is = as_sum vars room a x (as_product vars room a x is)
lift vars room a x (suc (suc zero)) (suc zero) h small is = absurd (omega arith)
lift vars room a x (suc (suc zero)) (suc (suc zero)) h small is = is
lift vars room a x (suc (suc zero)) (suc (suc (suc n))) h small is = as_product vars room a x is
lift vars room a x (suc (suc (suc p))) (suc zero) h small is = absurd (omega arith)
lift vars room a x (suc (suc (suc p))) (suc (suc zero)) h small is = absurd (omega arith)
lift vars room a x (suc (suc (suc p))) (suc (suc (suc n))) h small is = is
lift vars room a x need zero h small is = absurd (omega arith)

-- the levels that the parentheses of an operand open
abbrev pub parens : (need level : ℕ) → ℕ
parens need level = cond (nat_lt level need) 1 0

-- the listing of an expression where this level is needed takes no more levels than there is room for
pub record Fits (script : List Task) (names vars : List Name) (need : ℕ) (x : Expression) (room : ℕ) : Type 0 where
  pub inner : ℕ
  pub below : inner + parens need (level x) ≤ room
  pub lists : (more : ℕ) → inner ≤ more → Again script (λ a. IsAt vars (level x) more a x) (listing.expression names x)

parens-less : (need less lvl : ℕ) → less ≤ need → parens less lvl ≤ parens need lvl
parens-less need less lvl h = grind arith

pub fits_less : {script : List Task} {names vars : List Name} {x : Expression} {room : ℕ} (need less : ℕ) → less ≤ need
    → Fits script names vars need x room → Fits script names vars less x room
fits_less {script} {names} {vars} {x} {room} need less h f = record {
  inner = f.inner;
  below = omega (arith, f.below, parens-less need less (level x) h);
  lists = f.lists;
}

-- an opening token breaks nothing only where there is room
room_for : (room : ℕ) (t : Tok) → IsUnbroken (t, opening room) → (m : ℕ) × (room ≡ suc m)
room_for zero t h = absurd (h Deep refl)
room_for (suc m) t h = (m, refl)

in_parens : {script : List Task} {vars : List Name} {x : Expression} {parts : List Part} (lvl room : ℕ)
    → Again script (λ a. IsAt vars lvl room a x) parts
    → Again script (λ a. IsUnary vars (suc room) a x)
    (listing.mark m.ParenOpen ∷ (parts ++ listing.mark m.ParenClose ∷ []))
in_parens {script} {vars} {x} {parts} lvl room p =
    let inner = back {R = λ a. (b : List Noted) × (a ≡ b ++ mark m.ParenClose ∷ []) × IsExpression vars room b x}
    (mark m.ParenClose) (fine_mark script m.ParenClose)
    (λ b is. (b, refl, lift vars room b x 0 lvl (omega arith) (omega arith) is)) p in
    front (toks.Mark m.ParenOpen, fine) (fine_mark script m.ParenOpen)
    (λ a is. rw is.1 (grouped {room = suc room} is.2)) inner

-- an operand where this level is needed
pub at_need : {script : List Task} {names vars : List Name} {x : Expression} {room : ℕ} (need : ℕ) → need ≤ 3
    → Fits script names vars need x room → (more : ℕ) → room ≤ more
    → Again script (λ a. IsAt vars need more a x) (operand names need x)
at_need {script} {names} {vars} {x} {room} need small f more h =
    ⊎_elim
    (λ e.
    let one : parens need (level x) ≡ 1 = rw e refl in
    let m = room_above more f.inner (omega (arith, f.below)) in
    rw e (also (λ a is. lift vars more a x need 3 small (omega arith) (rw m.1 is))
    (in_parens (level x) m.0 (f.lists m.0 m.2))))
    (λ e.
    let tight : need ≤ level x = ltb-false (level x) need e in
    rw e (also (λ a is. lift vars more a x need (level x) tight small is) (f.lists more (omega (arith, f.below)))))
    (cases_Bool (nat_lt (level x) need))
  where
    room_above : (more inner : ℕ) → inner + 1 ≤ more → (m : ℕ) × (more ≡ suc m) × (inner ≤ m)
    room_above zero inner h = absurd (omega arith)
    room_above (suc m) inner h = (m, refl, omega arith)
