-- How the places are read off the tokens. Braces and semicolons stand in no expression and no ask, so behind one of
-- them a statement begins, unless the block ends there or goes on with `else`.
use Rattle.std.specs.Prelude.{ℕ, suc, ◌+◌, Bool, true, false, not, ◌&&◌, if◌then◌else◌, List, [], ◌∷◌, ◌++◌, slice_get}
use Rattle.std.specs.Prelude.{Option, Some, None}
use Rattle.tj_lex.specs.declared.token.Tok.{Tok}
use Rattle.tj_lex.specs.declared.token.Tok.TheVariants as toks
use Rattle.tj_lex.specs.declared.token.Key.TheVariants as k
use Rattle.tj_lex.specs.declared.token.Mark.TheVariants as m
use Rattle.tj_syntax.specs.Starts.{Start, TaskStart}

-- whether a task begins at a token
abbrev pub begins_task : Tok → Bool
begins_task (toks.Key k.Task) = true
begins_task t = false

-- whether a token stands behind a whole task: the next one, or the end
abbrev pub is_behind : Tok → Bool
is_behind (toks.Key k.Task) = true
is_behind toks.End = true
is_behind t = false

-- whether the first of these tokens belongs to the task of the one in front of it
abbrev pub goes_on : List Tok → Bool
goes_on [] = false
goes_on (t ∷ rest) = not (is_behind t)

-- whether a token is a closing brace
abbrev pub is_brace : Tok → Bool
is_brace (toks.Mark m.BraceClose) = true
is_brace t = false

-- whether a statement may begin behind a token
abbrev pub ends_part : Tok → Bool
ends_part (toks.Mark m.BraceOpen) = true
ends_part (toks.Mark m.BraceClose) = true
ends_part (toks.Mark m.Semi) = true
ends_part t = false

-- whether a token begins a statement, where one may begin
abbrev pub begins_part : Tok → Bool
begins_part (toks.Mark m.BraceClose) = false
begins_part (toks.Key k.Else) = false
begins_part t = true

-- whether a token begins an ask
abbrev pub begins_ask : Tok → Bool
begins_ask (toks.Key k.New) = true
begins_ask (toks.Key k.Fork) = true
begins_ask (toks.Key k.Get) = true
begins_ask (toks.Key k.Join) = true
begins_ask t = false

-- this many tokens, if an ask begins behind them
abbrev pub ask_at : Option Tok → ℕ → Option ℕ
ask_at None k = None
ask_at (Some t) k = if begins_ask t then Some k else None

-- how many tokens stand between a statement's first token and its ask, if it has one
abbrev pub ask_offset : Tok → ℕ
ask_offset (toks.Key k.Let) = 3
ask_offset (toks.Name x) = 2
ask_offset t = 0

-- where the ask of the statement that begins with these tokens begins, if it has one
abbrev pub ask_of : List Tok → ℕ → Option ℕ
ask_of [] n = None
ask_of (t ∷ rest) n = ask_at (slice_get (t ∷ rest) (ask_offset t)) (n + ask_offset t)

-- the statement that begins at the first of these tokens, if one may begin and does
abbrev pub start_in : Bool → List Tok → ℕ → List Start
start_in fresh [] n = []
start_in fresh (t ∷ rest) n =
    if fresh && begins_part t then record { at = n; ask = ask_of (t ∷ rest) n } ∷ [] else []

-- Where the statements of a task begin, from a token on. The number tells how many tokens stand in front, and the
-- flag whether a statement may begin.
abbrev pub statements_from : Bool → ℕ → List Tok → List Start
statements_from fresh n [] = []
statements_from fresh n (t ∷ rest) = if is_behind t then [] else (
    start_in fresh (t ∷ rest) n ++ statements_from (ends_part t) (suc n) rest)

-- the last brace, which is the first of these tokens if it is one
abbrev pub last_brace : List Tok → ℕ → ℕ → ℕ
last_brace [] n last = last
last_brace (t ∷ rest) n last = if is_brace t then n else last

-- where the last brace of a task stands, from a token on, with the last one so far
abbrev pub brace_from : ℕ → ℕ → List Tok → ℕ
brace_from last n [] = last
brace_from last n (t ∷ rest) =
    if is_behind t then last else brace_from (last_brace (t ∷ rest) n last) (suc n) rest

-- the parts of a task, by the tokens behind its first
abbrev pub task_from : ℕ → List Tok → TaskStart
task_from n rest = record {
  at = n;
  statements = statements_from false (suc n) rest;
  brace = brace_from n (suc n) rest;
}

-- the task that begins at the first of these tokens, if one does
abbrev pub task_in : List Tok → ℕ → List TaskStart
task_in [] n = []
task_in (t ∷ rest) n = if begins_task t then task_from n rest ∷ [] else []

-- where the tasks begin, from a token on
abbrev pub tasks_from : ℕ → List Tok → List TaskStart
tasks_from n [] = []
tasks_from n (t ∷ rest) = task_in (t ∷ rest) n ++ tasks_from (suc n) rest
