-- What a script says of its tokens one by one: the rules that they break, the forks and the declarations.
use Rattle.std.specs.Prelude.{ℕ, zero, suc, Bool, List, length, Option, is_some, unwrap_or, nat_le, if◌then◌else◌}
use Rattle.std.specs.List.{position_from}
use Rattle.std.specs.Str.{bytes_eq}
use Rattle.tj_lex.specs.declared.token.Tok.{Tok}
use Rattle.tj_lex.specs.declared.token.Tok.TheVariants as toks
use Rattle.tj_lex.specs.declared.token.Key.{Key}
use Rattle.tj_lex.specs.declared.token.Mark.{Mark}
use Rattle.tj_syntax.specs.declared.script.TheConstants.{MAX_LEVELS, MAX_TASKS, MAX_VARS}
use Rattle.tj_syntax.specs.declared.fault.Breach.{Breach}
use Rattle.tj_syntax.specs.declared.fault.Breach.TheVariants.{Unknown, Twice, Deep, Many}

-- nothing; a rule that the token breaks; a fork with so many arguments; a task with so many parameters
pub data Note : Type 0 where
  fine : Note
  broken : Breach → Note
  forks : ℕ → Note
  declares : ℕ → Note

-- a token with what is noted at it
abbrev pub Noted : Type 0
Noted = Tok × Note

-- a name, as its bytes
abbrev pub Name : Type 0
Name = List ℕ

-- a keyword, at which nothing is noted
abbrev pub key : Key → Noted
key k = (toks.Key k, fine)

-- a mark, at which nothing is noted
abbrev pub mark : Mark → Noted
mark m = (toks.Mark m, fine)

-- the most levels of nesting
abbrev pub most_levels : ℕ
most_levels = MAX_LEVELS

-- the most variables of a task
abbrev pub most_vars : ℕ
most_vars = MAX_VARS

-- the most tasks of a script
abbrev pub most_tasks : ℕ
most_tasks = MAX_TASKS

-- the index of a name among these, if it is there
abbrev pub index_of : List Name → Name → Option ℕ
index_of names x = position_from (λ name. bytes_eq name x) 0 names

-- whether a name is among these
abbrev pub is_among : List Name → Name → Bool
is_among names x = is_some (index_of names x)

-- the number of a name among these, and 0 for any other
abbrev pub number_of : List Name → Name → ℕ
number_of names x = unwrap_or (index_of names x) 0

-- what is noted at a use of a variable, where these are known
abbrev pub use_of : List Name → Name → Note
use_of vars x = if is_among vars x then fine else broken Unknown

-- what is noted at a name that is declared, where these are declared already and so many may be
abbrev pub declaration : ℕ → List Name → Name → Note → Note
declaration most earlier x right =
    if is_among earlier x then broken Twice else (if nat_le most (length earlier) then broken Many else right)

-- what is noted at an opening token, where so many more levels may be opened
abbrev pub opening : ℕ → Note
opening zero = broken Deep
opening (suc room) = fine

-- the levels that may be opened behind an opening token
abbrev pub within : ℕ → ℕ
within zero = zero
within (suc room) = room
