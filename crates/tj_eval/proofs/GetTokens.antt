-- A script whose tokens have no keyword `get` has no get.
use Rattle.std.proofs.Common.{◌≡◌, ◌≢◌, ℕ, suc, true, List, [], ◌∷◌, ◌++◌, refl, subst, arith}
use Rattle.std.proofs.lemmas.Bool.{and_from}
use Rattle.std.specs.List.{AllByRecursion, Contains}
use Rattle.tj_lex.specs.declared.token.Tok.{Tok}
use Rattle.tj_lex.specs.declared.token.Tok.TheVariants as toks
use Rattle.tj_lex.specs.declared.token.Key.TheVariants as keys
use Rattle.tj_syntax.specs.Trees as tree
use Rattle.tj_syntax.specs.Trees.{Given, Statement, Statements, Otherwise, Task}
use Rattle.tj_syntax.specs.Marks.{Name, Noted}
use Rattle.tj_syntax.specs.Faults.{IsScript, tokens_of}
use Rattle.tj_syntax.specs.Grammar as g
use Rattle.tj_syntax.specs.Grammar.{IsAsk, IsGiven, IsStatement, IsBlock, IsStatements, IsElse, IsTask, IsTasks}
use Rattle.tj_eval.specs.Gets.{AreWithoutGet, is_no_get, gives_no_get, has_no_get, have_no_get, other_has_no_get}
use Rattle.tj_eval.specs.Gets.{script_has_no_get}

-- none of the notes is at the keyword `get`
abbrev IsClear : List Noted → Type 0
IsClear = AllByRecursion (λ noted. noted.0 ≢ toks.Key keys.Get)

-- what holds of all of two lists holds of all of the first
pub all-front : {A : Type 0} (P : A → Type 0) (a b : List A) → AllByRecursion P (a ++ b) → AllByRecursion P a
all-front P [] b h = tt
all-front P (x ∷ a) b h = (h.0, all-front P a b h.1)

-- and of all of the second
pub all-back : {A : Type 0} (P : A → Type 0) (a b : List A) → AllByRecursion P (a ++ b) → AllByRecursion P b
all-back P [] b h = h
all-back P (x ∷ a) b h = all-back P a b h.1

clear-front : (a b : List Noted) → IsClear (a ++ b) → IsClear a
clear-front = all-front (λ noted. noted.0 ≢ toks.Key keys.Get)

clear-back : (a b : List Noted) → IsClear (a ++ b) → IsClear b
clear-back = all-back (λ noted. noted.0 ≢ toks.Key keys.Get)

ask-without : {tasks vars : List Name} {room : ℕ} {a : List Noted} {q : tree.Ask} → IsAsk tasks vars room a q
    → IsClear a
    → is_no_get q ≡ true
ask-without (g.get r other) h = absurd (h.0 refl)
ask-without p h = refl

given-without : {tasks vars : List Name} {room : ℕ} {a : List Noted} {side : Given} → IsGiven tasks vars room a side
    → IsClear a
    → gives_no_get side ≡ true
given-without (g.answer is) h = ask-without is h
given-without (g.result_of is) h = refl

mutual
  statement-without : {tasks : List Name} {room : ℕ} {vars last : List Name} {a : List Noted} {s : Statement}
      → IsStatement tasks room vars a s last → IsClear a → has_no_get s ≡ true
  statement-without (g.let_new {a} x is) h = given-without is (clear-front a _ h.1.1.1)
  statement-without (g.assign {a} x is) h = given-without is (clear-front a _ h.1.1)
  statement-without (g.ask {a} is) h = ask-without is (clear-front a _ h)
  statement-without (g.choose {a} {b} {c} {then_} {else_} x body other) h = let k = clear-back a (b ++ c) h.1 in
      and_from (have_no_get then_) (other_has_no_get else_) (block-without body (clear-front b c k))
      (else-without other (clear-back b c k))
  statement-without (g.repeat {a} {b} x body) h = block-without body (clear-back a b h.1)
  statement-without p h = refl

  block-without : {tasks : List Name} {room : ℕ} {vars last : List Name} {a : List Noted} {body : Statements}
      → IsBlock tasks room vars a body last → IsClear a → have_no_get body ≡ true
  block-without (g.braces {a} is) h = statements-without is (clear-front a _ h.1)

  statements-without : {tasks : List Name} {room : ℕ} {vars last : List Name} {a : List Noted} {body : Statements}
      → IsStatements tasks room vars a body last → IsClear a → have_no_get body ≡ true
  statements-without g.statements_end h = refl
  statements-without (g.statements_more {a} {b} {s} {rest} first more) h = and_from (has_no_get s) (have_no_get rest)
      (statement-without first (clear-front a b h)) (statements-without more (clear-back a b h))

  else-without : {tasks : List Name} {room : ℕ} {vars last : List Name} {a : List Noted} {other : Otherwise}
      → IsElse tasks room vars a other last → IsClear a → other_has_no_get other ≡ true
  else-without g.no_else h = refl
  else-without (g.else_block is) h = block-without is h.1

task-without : {tasks earlier : List Name} {a : List Noted} {t : Task} → IsTask tasks earlier a t → IsClear a
    → have_no_get t.body ≡ true
task-without (g.task {a} {b} f is body) h = block-without body (clear-back a _ h.1.1.1).1

tasks-without : {tasks earlier : List Name} {a : List Noted} {script : List Task} → IsTasks tasks earlier a script
    → IsClear a
    → script_has_no_get script ≡ true
tasks-without g.tasks_end h = refl
tasks-without (g.tasks_more {a} {b} {t} {rest} first more) h = and_from (have_no_get t.body) (script_has_no_get rest)
    (task-without first (clear-front a b h)) (tasks-without more (clear-back a b h))

later : (x y : Tok) (xs : List Tok) → Contains xs x → Contains (y ∷ xs) x
later x y xs (k, l, e) = (suc k, omega arith, e)

clear-of : (notes : List Noted) (end : List Tok) → AreWithoutGet (tokens_of notes ++ end) → IsClear notes
clear-of [] end h = tt
clear-of (x ∷ notes) end h =
    (λ e. h (0, omega arith, e), clear-of notes end (λ c. h (later _ x.0 (tokens_of notes ++ end) c)))

-- a script has no get where its tokens have no keyword `get`
pub tokens_without : (tokens : List Tok) (script : List Task) → IsScript tokens script
    → AreWithoutGet tokens → script_has_no_get script ≡ true
tokens_without tokens script s h = tasks-without s.derived
    (clear-of s.notes (toks.End ∷ []) (subst AreWithoutGet s.spells h))
