-- Where a task stands once a statement has begun whose condition is known.
use Rattle.std.proofs.Common.{◌≡◌, ℕ, suc, ◌+◌, ℤ, true, false, List, [], ◌∷◌, ◌++◌, length, ap, sym, ◌∙◌, arith}
use Rattle.std.proofs.Common.{append_assoc}
use Rattle.std.specs.Prelude.{Result, Ok, Err, OnOk, if◌then◌else◌}
use Rattle.tj_base.specs.declared.cause.Trouble.{Trouble}
use Rattle.tj_syntax.specs.Trees as tree
use Rattle.tj_syntax.specs.Trees.{Expression, Statement, Statements}
use Rattle.tj_base.specs.declared.value.Pay.{Pay}
use Rattle.tj_eval.specs.Expressions.{is_zero, value, with_number}
use Rattle.tj_eval.specs.Stands.{Stand, decided, numbers, opened, other_numbers, stand_begun, within}
use Rattle.tj_eval.specs.Statements.{TaskState, listed, number, value_in}
use Rattle.tj_eval.specs.Inner.Standing.{IsBlockAt, first_numbers, stands}
use Rattle.tj_eval.specs.declared.numbers.Numbers.{Numbers}
use Rattle.tj_eval.specs.declared.sizes.Size.{Size}
use Rattle.tj_eval.proofs.Tables.{read_there}

-- what follows from a fact follows of each answer that has it
pub on_ok_as : {A E P Q : Type 0} (r : Result A E) → (P → Q) → OnOk r P → OnOk r Q
on_ok_as (Ok x) f h = f h
on_ok_as (Err e) f h = h

-- the numbers of a block are those of so many statements
pub opened_block : (own : List Size) (n count : ℕ) (b : Statements) → IsBlockAt own n b → count ≡ length (listed b)
    → (old new : Numbers) → ((own : List Size) (decl : ℕ) → stands own decl new
    ≡ opened (first_numbers own n count) (stands own decl old)) → (decl : ℕ)
    → stands own decl new ≡ opened (numbers n b) (stands own decl old)
opened_block own n count b is c old new h decl = h own decl
    ∙ ap (λ z. opened z (stands own decl old)) (ap (first_numbers own n) c ∙ read_there own n b is)

-- a condition that was computed from the task's variables
pub number_read : (t : TaskState) (x : Expression) (vars : List Pay) (r : Result ℤ Trouble) (i : ℤ) → vars ≡ t.vars
    → r ≡ with_number (value vars x) (λ n. Ok n) → r ≡ Ok i → number (value_in t x) ≡ Ok i
number_read t x vars r i e f g = sym (ap (λ v. with_number (value v x) (λ n. Ok n)) e) ∙ sym f ∙ g

module _ (t : TaskState) (x : Expression) (s : Statement) (i : ℤ) (c : number (value_in t x) ≡ Ok i) where
  both : (go : ℤ → List ℕ) (z : Stand) → decided (number (value_in t x)) go z ≡ opened (go i) z
  both go z = ap (λ r. decided r go z) c

  -- the second block begins
  pub begins_other : (b d : Statements) → s ≡ tree.choose x b (tree.block d) → is_zero i ≡ true → (own : List Size)
      (old new : Numbers) (n : ℕ) → n ≡ old.at + 1 + length (within b)
      → ((decl : ℕ) → stands own decl new ≡ opened (numbers n d) (stands own decl old)) → (decl : ℕ)
      → stands own decl new ≡ stand_begun t s (stands own decl old)
  begins_other b d e k own old new n m h decl = let z = stands own decl old in
      let j : n ≡ suc z.at + length (within b) = omega (arith, m) in
      h decl ∙ ap (λ w. opened (numbers w d) z) j ∙ sym (ap (λ w. stand_begun t w z) e
      ∙ both (λ n. if is_zero n then other_numbers (suc z.at + length (within b)) (tree.block d)
      else numbers (suc z.at) b) z
      ∙ ap (λ w. opened (if w then numbers (suc z.at + length (within b)) d else numbers (suc z.at) b) z) k)

  -- the first block begins
  pub begins_first : (b : Statements) (other : tree.Otherwise) → s ≡ tree.choose x b other → is_zero i ≡ false
      → (own : List Size) (old new : Numbers)
      → ((decl : ℕ) → stands own decl new ≡ opened (numbers (old.at + 1) b) (stands own decl old)) → (decl : ℕ)
      → stands own decl new ≡ stand_begun t s (stands own decl old)
  begins_first b other e k own old new h decl = let z = stands own decl old in
      let j : old.at + 1 ≡ suc z.at = omega arith in
      h decl ∙ ap (λ w. opened (numbers w b) z) j ∙ sym (ap (λ w. stand_begun t w z) e
      ∙ both (λ n. if is_zero n then other_numbers (suc z.at + length (within b)) other else numbers (suc z.at) b) z
      ∙ ap (λ w. opened (if w then other_numbers (suc z.at + length (within b)) other else numbers (suc z.at) b) z) k)

  -- a loop's block begins, and the loop comes behind it
  pub begins_loop : (b : Statements) → s ≡ tree.repeat x b → is_zero i ≡ false → (own : List Size)
      (old mid new : Numbers)
      → ((own : List Size) (decl : ℕ) → stands own decl mid ≡ opened (old.at ∷ []) (stands own decl old))
      → ((decl : ℕ) → stands own decl new ≡ opened (numbers (old.at + 1) b) (stands own decl mid)) → (decl : ℕ)
      → stands own decl new ≡ stand_begun t s (stands own decl old)
  begins_loop b e k own old mid new g h decl = let z = stands own decl old in
      let j : old.at + 1 ≡ suc z.at = omega arith in
      h decl ∙ ap (opened (numbers (old.at + 1) b)) (g own decl)
      ∙ ap (λ w. opened (numbers w b) (opened (z.at ∷ []) z)) j
      ∙ ap (λ w. record z { ahead = w }) (sym (append_assoc (numbers (suc z.at) b) (z.at ∷ []) z.ahead))
      ∙ sym (ap (λ w. stand_begun t w z) e
      ∙ both (λ n. if is_zero n then [] else numbers (suc z.at) b ++ z.at ∷ []) z
      ∙ ap (λ w. opened (if w then [] else numbers (suc z.at) b ++ z.at ∷ []) z) k)
