-- An operand that is an expression by itself: what stands behind it doesn't go on with the expression.
use Rattle.std.proofs.Common.{◌≡◌, ℕ, ◌-◌, List, ◌∷◌, drop, true, Option, Some, None, Ok, Err}
use Rattle.std.proofs.Common.{refl, sym, ap, ◌∙◌, arith}
use Rattle.tj_lex.specs.declared.token.Tok.{Tok}
use Rattle.tj_lex.specs.declared.token.Tok.TheVariants as toks
use Rattle.tj_lex.specs.declared.token.Key.TheVariants as k
use Rattle.tj_lex.specs.declared.token.Mark.TheVariants as m
use Rattle.tj_syntax.specs.declared.fault.Stop.{Stop}
use Rattle.tj_syntax.specs.Trees as tree
use Rattle.tj_syntax.specs.Trees.{Expression}
use Rattle.tj_syntax.specs.Marks.{index_of}
use Rattle.tj_syntax.specs.Inner.Input.{Input, Parser, first, next, known, known_at, ◌<$>◌}
use Rattle.tj_syntax.specs.Inner.Reading.{unary, unary_by, expression_over, chain, pairs, pairs_from}
use Rattle.tj_syntax.specs.Inner.Reading.{ends_expression, stands_alone}
use Rattle.tj_syntax.proofs.Unrolls.{unary-is}

-- the expression ends where the operand ends
ends-there : (u : Parser Expression) (i j : Input) (x : Expression) (t : Tok) (rest : List Tok) → u i ≡ Ok (x, j)
    → j.ahead ≡ t ∷ rest → ends_expression t ≡ true → expression_over u i ≡ Ok (x, j)
unfolding expression_over chain pairs pairs_from
ends-there u i j x (toks.Mark m.Semi) rest read there ends = rw (read, there) refl
ends-there u i j x (toks.Mark m.Comma) rest read there ends = rw (read, there) refl
ends-there u i j x (toks.Mark m.ParenClose) rest read there ends = rw (read, there) refl
ends-there u i j x (toks.Mark m.BraceOpen) rest read there ends = rw (read, there) refl
ends-there u i j x t rest read there ends = absurd (grind arith)

-- a fault of the operand is one of the expression
stops-there : (u : Parser Expression) (i : Input) (s : Stop) → u i ≡ Err s → expression_over u i ≡ Err s
unfolding expression_over chain
stops-there u i s read = rw read refl

-- a variable, which is known or not
named : (room : ℕ) (i : Input) (t : Tok) (rest : List Tok) (found : Option ℕ)
    → unary room i ≡ (tree.variable <$> known_at found) i → (next i).ahead ≡ t ∷ rest → ends_expression t ≡ true
    → expression_over (unary room) i ≡ unary room i
named room i t rest None read there ends = stops-there (unary room) i _ read ∙ sym read
named room i t rest (Some n) read there ends =
    ends-there (unary room) i (next i) (tree.variable n) t rest read there ends ∙ sym read

-- the operand by its token
by-token : (room : ℕ) (i : Input) (tokens : List Tok) → i.ahead ≡ tokens
    → unary room i ≡ unary_by (unary (room - 1)) (expression_over (unary (room - 1))) room (first tokens) i
by-token room i tokens ahead = unary-is room i
    ∙ ap (λ all. unary_by (unary (room - 1)) (expression_over (unary (room - 1))) room (first all) i) ahead

-- an operand that stands alone is read as an expression is
pub alone : (room : ℕ) (i : Input) (tokens : List Tok) → i.ahead ≡ tokens → stands_alone tokens ≡ true
    → expression_over (unary room) i ≡ unary room i
unfolding known
alone room i (toks.Num n ∷ t ∷ rest) ahead single = let read = by-token room i (toks.Num n ∷ t ∷ rest) ahead in
    ends-there (unary room) i (next i) (tree.number n) t rest read (ap (λ all. drop 1 all) ahead) single ∙ sym read
alone room i (toks.Name x ∷ t ∷ rest) ahead single = named room i t rest (index_of i.vars x)
    (by-token room i (toks.Name x ∷ t ∷ rest) ahead) (ap (λ all. drop 1 all) ahead) single
alone room i (toks.Key k.Me ∷ t ∷ rest) ahead single = let read = by-token room i (toks.Key k.Me ∷ t ∷ rest) ahead in
    ends-there (unary room) i (next i) tree.me t rest read (ap (λ all. drop 1 all) ahead) single ∙ sym read
alone room i tokens ahead single = absurd (grind arith)
