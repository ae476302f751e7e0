-- What the tokens in front of a fault leave open: the part of a statement or of a head in which the fault stands, its
-- parentheses, and the blocks around it.
use Rattle.std.specs.Prelude.{ℕ, suc, ◌-◌, ◌&&◌, Bool, true, false, nat_eq, nat_le, cond, List, [], ◌∷◌, ◌++◌}
use Rattle.std.specs.Prelude.{length, slice_get, take, Option, Some, None}
use Rattle.tj_lex.specs.declared.place.Place.{Place}
use Rattle.tj_lex.specs.declared.token.Token.{Token}
use Rattle.tj_lex.specs.declared.token.Tok.{Tok}
use Rattle.tj_lex.specs.declared.token.Tok.TheVariants as toks
use Rattle.tj_lex.specs.declared.token.Key.TheVariants as k
use Rattle.tj_lex.specs.declared.token.Mark.TheVariants as m

-- the token stands at this position
abbrev pub stands_at : Place → Token → Bool
stands_at p t = nat_eq t.at.line p.line && nat_eq t.at.column p.column

-- the token that stands there, and those behind it
abbrev pub from_place : Place → List Token → List Token
from_place p [] = []
from_place p (t ∷ ts) = cond (stands_at p t) (t ∷ ts) (from_place p ts)

-- the tokens in front of a position
abbrev pub front_of : Place → List Token → List Token
front_of p ts = take (length ts - length (from_place p ts)) ts

-- a `;` or a brace: none of them stands in an expression or in an ask
abbrev pub separates : Tok → Bool
separates (toks.Mark m.BraceOpen) = true
separates (toks.Mark m.BraceClose) = true
separates (toks.Mark m.Semi) = true
separates t = false

-- what stands behind the last of them, and else what stood there
abbrev pub part_from : List Token → List Token → List Token
part_from part [] = part
part_from part (t ∷ ts) = part_from (cond (separates t.what) ts part) ts

-- the part of a statement or of a task's head with which these tokens end
abbrev pub part_of : List Token → List Token
part_of ts = part_from ts ts

-- the last token
abbrev pub last_of : List Token → Option Token
last_of ts = slice_get ts (length ts - 1)

-- the token in front of the last
abbrev pub before_last : List Token → Option Token
before_last ts = cond (nat_le 2 (length ts)) (slice_get ts (length ts - 2)) None

-- the token is an opening parenthesis
abbrev pub is_open : Tok → Bool
is_open (toks.Mark m.ParenOpen) = true
is_open t = false

-- the token is a closing parenthesis
abbrev pub is_close : Tok → Bool
is_close (toks.Mark m.ParenClose) = true
is_close t = false

-- how many parentheses are open behind a token where so many are in front of it
abbrev pub parens_behind : ℕ → Tok → ℕ
parens_behind n t = cond (is_open t) (suc n) (cond (is_close t) (n - 1) n)

-- how many parentheses are open behind tokens
abbrev pub parens_after : ℕ → List Token → ℕ
parens_after n [] = n
parens_after n (t ∷ ts) = parens_after (parens_behind n t.what) ts

-- the token opens a block
abbrev pub opens_block : Tok → Bool
opens_block (toks.Mark m.BraceOpen) = true
opens_block t = false

-- the token closes a block
abbrev pub closes_block : Tok → Bool
closes_block (toks.Mark m.BraceClose) = true
closes_block t = false

-- where the blocks begin that are open behind a token, where these are in front of it
abbrev pub blocks_behind : List Place → Token → List Place
blocks_behind opened t = cond (opens_block t.what) (opened ++ t.at ∷ [])
    (cond (closes_block t.what) (take (length opened - 1) opened) opened)

-- where the blocks begin that are open behind tokens, the innermost last
abbrev pub blocks_after : List Place → List Token → List Place
blocks_after opened [] = opened
blocks_after opened (t ∷ ts) = blocks_after (blocks_behind opened t) ts

-- where the innermost block begins that is open behind tokens
abbrev pub open_block : List Token → Option Place
open_block ts = let opened = blocks_after [] ts in slice_get opened (length opened - 1)

-- the token compares two sides
abbrev pub is_comparison : Tok → Bool
is_comparison (toks.Mark m.Eq) = true
is_comparison (toks.Mark m.Ne) = true
is_comparison (toks.Mark m.Lt) = true
is_comparison (toks.Mark m.Le) = true
is_comparison (toks.Mark m.Gt) = true
is_comparison (toks.Mark m.Ge) = true
is_comparison t = false

-- the token is `(` or a comma
abbrev pub begins_one : Tok → Bool
begins_one (toks.Mark m.ParenOpen) = true
begins_one (toks.Mark m.Comma) = true
begins_one t = false

-- whether a comparison stands in an expression behind a token in it, or behind one with which another expression begins
abbrev pub compared_behind : Bool → Tok → Bool
compared_behind compared t = cond (is_comparison t) true (cond (begins_one t) false compared)

-- Whether a comparison stands in the expression with which tokens end, outside of its parentheses. Behind the tokens so
-- many parentheses are open, and in front of them so many.
abbrev pub compared_after : ℕ → ℕ → Bool → List Token → Bool
compared_after at_end opened compared [] = compared
compared_after at_end opened compared (t ∷ ts) =
    let behind = parens_behind opened t.what in
    compared_after at_end behind (cond (nat_eq behind at_end) (compared_behind compared t.what) compared) ts

-- the tokens in front of the last
abbrev pub but_last : List Token → List Token
but_last ts = take (length ts - 1) ts

-- the token is there, and closes a block
abbrev pub closes_at : Option Token → Bool
closes_at None = false
closes_at (Some t) = closes_block t.what

-- the token is `if`
abbrev pub is_if : Tok → Bool
is_if (toks.Key k.If) = true
is_if t = false

-- the token is there, and is `if`
abbrev pub is_if_at : Option Token → Bool
is_if_at None = false
is_if_at (Some t) = is_if t.what

-- the block that begins there is that of an `if`
abbrev pub is_of_if : List Token → Option Place → Bool
is_of_if ts None = false
is_of_if ts (Some p) = is_if_at (slice_get (part_of (front_of p ts)) 0)

-- the tokens end with the `}` of an `if`: that closes the block which is open in front of it
abbrev pub ends_if : List Token → Bool
ends_if ts = closes_at (last_of ts) && is_of_if ts (open_block (but_last ts))
