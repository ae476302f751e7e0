-- What is left to read, and the steps that every rule is made of.
use Rattle.std.specs.Prelude.{◌≡◌, ℕ, suc, Bool, true, false, if◌then◌else◌, List, [], ◌∷◌, ◌++◌, length, map, drop}
use Rattle.std.specs.Prelude.{nat_le, nat_eq, is_some, slice_get, Option, Some, None, Result, Ok, Err}
use Rattle.tj_lex.specs.declared.token.Tok.{Tok}
use Rattle.tj_lex.specs.declared.token.Tok.TheVariants as toks
use Rattle.tj_lex.specs.declared.token.Key.TheVariants as k
use Rattle.tj_lex.specs.declared.token.Mark.{Mark}
use Rattle.tj_lex.specs.declared.token.Mark.TheVariants as m
use Rattle.tj_syntax.specs.declared.fault.Breach.{Breach}
use Rattle.tj_syntax.specs.declared.fault.Breach.TheVariants as breach
use Rattle.tj_syntax.specs.declared.fault.Stop.{Stop}
use Rattle.tj_syntax.specs.declared.fault.Stop.TheVariants as stop
use denote.Enum.Bare.{sameb}
use Rattle.tj_lex.specs.contracts.token.Mark.{the_type}
use Rattle.tj_syntax.specs.Marks.{Name, index_of, number_of, most_vars, most_tasks}

-- a declared task: its name, the number of its parameters, and how many tokens are left from its name on
pub record Head : Type 0 where
  pub name : Name
  pub params : ℕ
  pub left : ℕ

-- what is left to read, with what is known
pub record Input : Type 0 where
  -- the tokens that are left, without the end
  pub ahead : List Tok
  -- the variables that are known
  pub vars : List Name
  -- the tasks of the script
  pub tasks : List Head
  -- the first fault of a fork so far
  pub flaw : Option Stop

-- a value and what is left behind it, or why the reading stopped
abbrev pub Outcome : Type 0 → Type 0
Outcome A = Result (A × Input) Stop

-- a reading of what is left
abbrev pub Parser : Type 0 → Type 0
Parser A = Input → Outcome A

-- goes on from an outcome
abbrev pub and_then : {A B : Type 0} → Outcome A → (A → Parser B) → Outcome B
and_then (Ok p) f = f p.0 p.1
and_then (Err e) f = Err e

infixl 10 ◌>>=◌
-- one reading behind another, which takes its value
abbrev pub ◌>>=◌ : {A B : Type 0} → Parser A → (A → Parser B) → Parser B
p >>= f = λ i. and_then (p i) f

infixl 10 ◌>>◌
-- one reading behind another
abbrev pub ◌>>◌ : {A B : Type 0} → Parser A → Parser B → Parser B
p >> q = p >>= (λ _. q)

-- reads nothing
abbrev pub pure : {A : Type 0} → A → Parser A
pure a = λ i. Ok (a, i)

infixr 11 ◌<$>◌
-- changes the value that is read
abbrev pub ◌<$>◌ : {A B : Type 0} → (A → B) → Parser A → Parser B
f <$> p = p >>= (λ x. pure (f x))

-- the first of these tokens
abbrev pub first : List Tok → Option Tok
first [] = None
first (t ∷ rest) = Some t

-- the next token, which stays
abbrev pub peek : Parser (Option Tok)
peek = λ i. Ok (first i.ahead, i)

-- behind the next token
abbrev pub next : Input → Input
next i = record i { ahead = drop 1 i.ahead }

-- takes the next token
abbrev pub skip : Parser (Unit {0})
skip = λ i. Ok (tt, next i)

-- the next token can't follow
abbrev pub refuse : {A : Type 0} → Parser A
refuse = λ i. Err (stop.Expected (length i.ahead))

-- the next token breaks a rule
abbrev pub breaks : {A : Type 0} → Breach → Parser A
breaks b = λ i. Err (stop.Broken b (length i.ahead))

-- whether two marks are the same
abbrev pub same_mark : Mark → Mark → Bool
same_mark = sameb the_type

-- whether the next token is this mark
abbrev pub is_mark : Mark → Option Tok → Bool
is_mark mark (Some (toks.Mark found)) = same_mark mark found
is_mark mark _ = false

-- whether this mark comes next
abbrev pub sees : Mark → Input → Bool
sees mark i = is_mark mark (first i.ahead)

-- takes this mark, which has to come next
unfoldable pub expect : Mark → Parser (Unit {0})
expect mark = λ i. if sees mark i then skip i else refuse i

-- takes this mark, if it comes next
unfoldable pub eat : Mark → Parser Bool
eat mark = λ i. if sees mark i then Ok (true, next i) else Ok (false, i)

-- a token that opens a level, where so many more may be opened
unfoldable pub open_level : ℕ → Parser (Unit {0})
open_level room = λ i. if nat_eq room 0 then breaks breach.Deep i else skip i

-- ---- names

-- what a number of a name that was looked up gives
abbrev pub known_at : Option ℕ → Parser ℕ
known_at None = breaks breach.Unknown
known_at (Some n) = skip >> pure n

-- takes a variable, which has to be known
unfoldable pub known : Name → Parser ℕ
known x = λ i. known_at (index_of i.vars x) i

-- a variable by the next token
abbrev pub variable_by : Option Tok → Parser ℕ
variable_by (Some (toks.Name x)) = known x
variable_by _ = refuse

unfoldable pub variable : Parser ℕ
variable = peek >>= variable_by

-- how a name breaks a rule as one that is declared, where these are declared already and so many may be
abbrev pub breach_of : ℕ → List Name → Name → Option Breach
breach_of most earlier x =
    if is_some (index_of earlier x) then Some breach.Twice else (if nat_le most (length earlier) then Some breach.Many
    else None)

-- a reading, unless a rule is broken
abbrev pub unless : {A : Type 0} → Option Breach → Parser A → Parser A
unless None p = p
unless (Some b) p = breaks b

-- a name that is declared, by the next token
abbrev pub fresh_by : ℕ → List Name → Option Tok → Parser Name
fresh_by most earlier (Some (toks.Name x)) = unless (breach_of most earlier x) (skip >> pure x)
fresh_by most earlier _ = refuse

-- takes a name that is declared, where these are declared already
unfoldable pub fresh : ℕ → List Name → Parser Name
fresh most earlier = peek >>= fresh_by most earlier

-- takes the name of a variable that is declared
abbrev pub fresh_variable : Parser Name
fresh_variable = λ i. fresh most_vars i.vars i

-- makes a variable known
abbrev pub add_variable : Name → Parser (Unit {0})
add_variable x = λ i. Ok (tt, record i { vars = i.vars ++ x ∷ [] })

-- makes no variable known
abbrev pub forget_variables : Parser (Unit {0})
forget_variables = λ i. Ok (tt, record i { vars = [] })

-- the variables that are known
abbrev pub variables : Parser (List Name)
variables = λ i. Ok (i.vars, i)

-- how many variables are known
abbrev pub count_variables : Parser ℕ
count_variables = λ i. Ok (length i.vars, i)

-- ---- tasks, which are read by their heads first

-- the names of heads
abbrev pub names_of : List Head → List Name
names_of = map (λ h. h.name)

-- how many names stand at the front, with commas between them
abbrev pub count_params : List Tok → ℕ
count_params [] = 0
count_params (toks.Name x ∷ rest) = suc (count_params rest)
count_params (toks.Mark m.ParenOpen ∷ rest) = count_params rest
count_params (toks.Mark m.Comma ∷ rest) = count_params rest
count_params (t ∷ rest) = 0

-- heads with the one of a task, unless it is there or they are too many
abbrev pub with_head : List Head → Name → List Tok → List Head
with_head found f rest =
    if is_some (breach_of most_tasks (names_of found) f) then found else (found ++ record {
      name = f;
      params =
          count_params rest;
      left = suc (length rest);
    } ∷ [])

-- heads with the one that stands at the front, if one does
abbrev pub with_front : List Head → List Tok → List Head
with_front found (toks.Key k.Task ∷ toks.Name f ∷ rest) = with_head found f rest
with_front found _ = found

unfoldable pub heads_from : List Head → List Tok → List Head
heads_from found [] = found
heads_from found (t ∷ rest) = heads_from (with_front found (t ∷ rest)) rest

-- ---- forks

-- how a fork with so many arguments is faulty where its name stands for this head
abbrev pub flaw_at : Option Head → ℕ → ℕ → Option Stop
flaw_at None left count = Some (stop.Broken breach.Unknown left)
flaw_at (Some h) left count = if nat_eq h.params count then None else Some (stop.Broken breach.Count left)

-- the head of a number
abbrev pub head_at : List Head → Option ℕ → Option Head
head_at heads None = None
head_at heads (Some n) = slice_get heads n

-- the head of a task
abbrev pub head_named : List Head → Name → Option Head
head_named heads f = head_at heads (index_of (names_of heads) f)

-- the first of two faults
abbrev pub first_flaw : Option Stop → Option Stop → Option Stop
first_flaw None later = later
first_flaw (Some e) later = Some e

-- keeps the first fault of a fork
unfoldable pub note_fork : Name → ℕ → ℕ → Parser ℕ
note_fork f left count = λ i. Ok (
  number_of (names_of i.tasks) f,
  record i { flaw = first_flaw i.flaw (flaw_at (head_named i.tasks f) left count) },
)

-- ---- what a function that parses ensures: what the parser gives, unless memory runs out

-- the result is what the reading gives, or memory ran out
abbrev pub Reads : {A B : Type 0} → (A → B) → Outcome B → Result A Stop → Input → Type 0
Reads view outcome (Ok a) new = outcome ≡ Ok (view a, new)
Reads view outcome (Err stop.Oom) new = Unit {0}
Reads view outcome (Err e) new = outcome ≡ Err e
