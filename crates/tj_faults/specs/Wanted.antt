-- What was wanted where a token stands that can't follow, told by the tokens in front of it: all that can stand there by
-- the grammar, or the one mark that has to stand before the token, whatever stands between.
use Rattle.std.specs.Prelude.{ℕ, Bool, true, false, ◌||◌, ◌&&◌, nat_eq, cond, List, slice_get}
use Rattle.std.specs.Prelude.{Option, Some, None}
use Rattle.tj_lex.specs.declared.place.Place.{Place}
use Rattle.tj_lex.specs.declared.token.Token.{Token}
use Rattle.tj_lex.specs.declared.token.Tok.{Tok}
use Rattle.tj_lex.specs.declared.token.Tok.TheVariants as toks
use Rattle.tj_lex.specs.declared.token.Key.TheVariants as k
use Rattle.tj_lex.specs.declared.token.Mark.TheVariants as m
use Rattle.tj_faults.specs.Fronts.{before_last, compared_after, ends_if, last_of, open_block, parens_after, part_of}
use Rattle.tj_faults.specs.declared.wanted.Ending.{Ending}
use Rattle.tj_faults.specs.declared.wanted.Ending.TheVariants as ending
use Rattle.tj_faults.specs.declared.wanted.Lacking.{Lacking}
use Rattle.tj_faults.specs.declared.wanted.Lacking.TheVariants as lacking
use Rattle.tj_faults.specs.declared.wanted.Wanted.{Wanted}
use Rattle.tj_faults.specs.declared.wanted.Wanted.TheVariants as wanted

-- behind this only a name can stand
abbrev pub names_follow : Tok → Bool
names_follow (toks.Key k.Let) = true
names_follow (toks.Key k.Set) = true
names_follow (toks.Key k.Fork) = true
names_follow (toks.Key k.Own) = true
names_follow (toks.Key k.Task) = true
names_follow t = false

-- behind this only a name or `me` can stand
abbrev pub references_follow : Tok → Bool
references_follow (toks.Key k.Get) = true
references_follow (toks.Key k.Join) = true
references_follow t = false

-- this stands in no expression, and in none of its parentheses: what is open has to be closed in front of it
abbrev pub stands_alone : Tok → Bool
stands_alone (toks.Key k.Me) = false
stands_alone (toks.Key k.Own) = false
stands_alone (toks.Key k.Or) = false
stands_alone (toks.Key key) = true
stands_alone (toks.Mark m.BraceOpen) = true
stands_alone (toks.Mark m.BraceClose) = true
stands_alone (toks.Mark m.Semi) = true
stands_alone toks.End = true
stands_alone t = false

-- the token is a name
abbrev pub is_name : Tok → Bool
is_name (toks.Name x) = true
is_name t = false

-- the token is `=`
abbrev pub is_assign : Tok → Bool
is_assign (toks.Mark m.Assign) = true
is_assign t = false

-- the next token is `=`
abbrev pub assigns : Option Token → Bool
assigns None = false
assigns (Some t) = is_assign t.what

-- A statement, a block's end or a task begins at the first of these tokens: it stands alone, or it is a name with `=`
-- behind it.
abbrev pub begins_anew : Token → Option Token → Bool
begins_anew t next = stands_alone t.what || (is_name t.what && assigns next)

-- the token begins a statement with a block, or a task
abbrev pub has_block : Tok → Bool
has_block (toks.Key k.If) = true
has_block (toks.Key k.While) = true
has_block (toks.Key k.Task) = true
has_block t = false

-- the token is `task`
abbrev pub is_task : Tok → Bool
is_task (toks.Key k.Task) = true
is_task t = false

-- the token is `set`
abbrev pub is_set : Tok → Bool
is_set (toks.Key k.Set) = true
is_set t = false

-- the token is `own`
abbrev pub is_own : Tok → Bool
is_own (toks.Key k.Own) = true
is_own t = false

-- the token is `fork` or `task`
abbrev pub has_parens : Tok → Bool
has_parens (toks.Key k.Fork) = true
has_parens (toks.Key k.Task) = true
has_parens t = false

-- the token is `let` or `set`
abbrev pub has_value : Tok → Bool
has_value (toks.Key k.Let) = true
has_value (toks.Key k.Set) = true
has_value t = false

-- the token is `let`
abbrev pub is_let : Tok → Bool
is_let (toks.Key k.Let) = true
is_let t = false

-- where the value begins that a statement with this first token assigns, and else where the statement begins
abbrev pub given_from : Tok → ℕ
given_from head = cond (is_let head) 3 (cond (is_name head) 2 0)

-- the token is there, and is `fork` or `task`
abbrev pub begins_list : Option Token → Bool
begins_list None = false
begins_list (Some t) = has_parens t.what

-- what the part computes, or the part itself, is a fork or a task's head
abbrev pub has_list : Tok → List Token → Bool
has_list head part = begins_list (slice_get part (given_from head))

-- what ends the innermost of what is open: so many parentheses, of which the first is that of a list if there is one
abbrev pub ending_of : Tok → Bool → ℕ → Ending
ending_of head lists opened = cond (nat_eq opened 0) (cond (has_block head) ending.Brace ending.Semi)
    (cond (lists && nat_eq opened 1) ending.Comma ending.Paren)

-- no operator can stand there: in a task's head, and behind the list of a fork
abbrev pub no_operator : Tok → Bool → ℕ → Bool
no_operator head lists opened = is_task head || (lists && nat_eq opened 0)

-- what can stand behind an operand, behind a parameter, and behind a list
abbrev pub behind_whole : Bool → Bool → Ending → Wanted
behind_whole plain compared ends =
    cond plain (wanted.Only ends) (cond compared (wanted.Arithmetic ends) (wanted.Operator ends))

-- what can stand behind a name or `me` with this token in front of it
abbrev pub behind_after : Tok → Ending → Wanted → Wanted
behind_after before ends whole =
    cond (has_value before) (wanted.Missing lacking.Assign)
    (cond (has_parens before) (wanted.Missing lacking.ParenOpen)
    (cond (references_follow before) wanted.Or
    (cond (is_own before) (wanted.Only ends) whole)))

-- what can stand behind a name or `me`, with which a part begins if no token stands in front of it
abbrev pub behind_name : Option Token → Ending → Wanted → Wanted
behind_name None ends whole = wanted.Missing lacking.Assign
behind_name (Some t) ends whole = behind_after t.what ends whole

-- the token in front is a name
abbrev pub is_name_at : Option Token → Bool
is_name_at None = false
is_name_at (Some t) = is_name t.what

-- what can stand behind `(`, which stands behind this token, in a part that begins with that one
abbrev pub behind_paren : Tok → Option Token → Wanted
behind_paren head before =
    cond (is_name_at before) (cond (is_task head) wanted.NameOrParen wanted.ArgumentOrParen) wanted.Expression

-- what can stand behind a mark
abbrev pub behind_mark : Tok → Option Token → Tok → Wanted → Wanted
behind_mark head before (toks.Mark m.Assign) whole = cond (is_set head) wanted.Expression wanted.Value
behind_mark head before (toks.Mark m.Comma) whole = cond (is_task head) wanted.Name wanted.Argument
behind_mark head before (toks.Mark m.ParenOpen) whole = behind_paren head before
behind_mark head before (toks.Mark m.ParenClose) whole = whole
behind_mark head before mark whole = wanted.Expression

-- what can stand behind a keyword
abbrev pub behind_key : Option Token → Tok → Ending → Wanted → Wanted
behind_key before (toks.Key k.New) ends whole = wanted.Only ends
behind_key before (toks.Key k.Me) ends whole = behind_name before ends whole
behind_key before (toks.Key k.Else) ends whole = wanted.Missing lacking.BraceOpen
behind_key before key ends whole =
    cond (names_follow key) wanted.Name (cond (references_follow key) wanted.Reference wanted.Expression)

-- what can stand behind the last token of a part that begins with the first of these
abbrev pub behind : Tok → Option Token → Tok → Ending → Wanted → Wanted
behind head before (toks.Name x) ends whole = behind_name before ends whole
behind head before (toks.Num n) ends whole = whole
behind head before (toks.Key key) ends whole = behind_key before (toks.Key key) ends whole
behind head before (toks.Mark mark) ends whole = behind_mark head before (toks.Mark mark) whole
behind head before toks.End ends whole = wanted.Expression

-- what can stand behind the last token of a part with so many parentheses open, and with a comparison in the innermost
abbrev pub behind_part : List Token → Tok → Tok → ℕ → Bool → Wanted
behind_part part head last opened compared =
    let lists = has_list head part in
    let ends = ending_of head lists opened in
    behind head (before_last part) last ends (behind_whole (no_operator head lists opened) compared ends)

-- the mark that ends what is open
abbrev pub ending_mark : Ending → Lacking
ending_mark ending.Paren = lacking.ParenClose
ending_mark ending.Comma = lacking.ParenClose
ending_mark ending.Brace = lacking.BraceOpen
ending_mark ending.Semi = lacking.Semi

-- what was wanted where something begins anew: where what is open can end, the mark that ends it
abbrev pub ended : Wanted → Wanted
ended (wanted.Operator ends) = wanted.Missing (ending_mark ends)
ended (wanted.Arithmetic ends) = wanted.Missing (ending_mark ends)
ended (wanted.Only ends) = wanted.Missing (ending_mark ends)
ended wanted.Or = wanted.Missing lacking.Semi
ended other = other

-- the token is `task` or the end
abbrev pub ends_tasks : Tok → Bool
ends_tasks (toks.Key k.Task) = true
ends_tasks toks.End = true
ends_tasks t = false

-- what was wanted where a part begins: in a block that begins there or in none, behind the block of an `if` or not
abbrev pub at_start : Option Place → Bool → Tok → Wanted
at_start None after_if t = wanted.Task
at_start (Some p) after_if t =
    cond (ends_tasks t) (wanted.Closed p) (cond after_if wanted.StatementOrElse wanted.Statement)

-- what was wanted behind a part that begins with this token and ends with that one
abbrev pub in_part_with : List Token → Tok → Tok → Bool → Wanted
in_part_with part head last anew =
    let opened = parens_after 0 part in
    let can_stand = behind_part part head last opened (compared_after opened 0 false part) in
    cond anew (ended can_stand) can_stand

-- what was wanted behind a part that begins and ends with these tokens, and what if it has none
abbrev pub in_part_of : List Token → Token → Option Token → Wanted → Option Token → Option Token → Wanted
in_part_of part t next start (Some head) (Some last) = in_part_with part head.what last.what (begins_anew t next)
in_part_of part t next start head last = start

-- what was wanted behind the part with these tokens, and what if it has none
abbrev pub in_part : List Token → Token → Option Token → Wanted → Wanted
in_part part t next start = in_part_of part t next start (slice_get part 0) (last_of part)

-- what was wanted behind tokens, where the first of the others can't follow
abbrev pub wanted_at : List Token → Token → Option Token → Wanted
wanted_at front t next = in_part (part_of front) t next (at_start (open_block front) (ends_if front) t.what)
