-- What is wrong first with a text, from what is wrong with its length, its tokens or their grammar.
use Rattle.std.proofs.Common.{◌≡◌, ℕ, ◌<◌, ◌≤◌, ◌⊎◌, inl, inr, List, length, take, sym, refl, ap, subst, ◌∙◌, arith}
use Rattle.tj_lex.specs.declared.place.Place.{Place}
use Rattle.tj_lex.specs.declared.token.Token.{Token}
use Rattle.tj_lex.specs.declared.token.LexFault.{LexFault}
use Rattle.tj_lex.specs.declared.token.LexFault.TheVariants as lex
use Rattle.tj_lex.specs.Positions.{position_after}
use Rattle.tj_lex.specs.Tokens as tokens
use Rattle.tj_lex.specs.Tokens.{AreTokens}
use Rattle.tj_syntax.specs.declared.fault.ParseFault.{ParseFault}
use Rattle.tj_syntax.specs.declared.fault.ParseFault.TheVariants as parse
use Rattle.tj_syntax.specs.Faults as grammar
use Rattle.tj_syntax.specs.Faults.{IsScript, kinds_of}
use Rattle.tj_syntax.specs.Trees.{Task}
use Rattle.tj_syntax.specs.ScriptTexts.{most_bytes, IsMemory, IsScriptOf, IsFirstFault, too_long, in_tokens, in_grammar}
use Rattle.tj_syntax.specs.declared.script_text.NoScript.TheVariants.{Long, Tokens, Grammar}

-- The first fault of a text, where its tokens have one.
pub token_first : (text : List ℕ) (fault : LexFault) → length text ≤ most_bytes
    → tokens.OrMemory (tokens.IsFirstFault text) fault → IsMemory (Tokens fault) ⊎ IsFirstFault text (Tokens fault)
token_first text (lex.Byte at) short first = inr (in_tokens (lex.Byte at) short first)
token_first text (lex.Number at) short first = inr (in_tokens (lex.Number at) short first)
token_first text (lex.Long at) short first = inr (in_tokens (lex.Long at) short first)
token_first text lex.Oom short first = inl refl

-- a text that has no tokens is no script
pub token_refused : (text : List ℕ) (fault : LexFault)
    → ((all : List Token) → AreTokens text all → fault ≡ lex.Oom)
    → IsMemory (Tokens fault) ⊎ ((script : List Task) → IsScriptOf text script → ⊥)
token_refused text (lex.Byte at) memory =
    inr (λ script is. let e : lex.Byte at ≡ lex.Oom = memory is.tokens is.has_tokens in cc)
token_refused text (lex.Number at) memory =
    inr (λ script is. let e : lex.Number at ≡ lex.Oom = memory is.tokens is.has_tokens in cc)
token_refused text (lex.Long at) memory =
    inr (λ script is. let e : lex.Long at ≡ lex.Oom = memory is.tokens is.has_tokens in cc)
token_refused text lex.Oom memory = inl refl

-- the first fault of a text whose tokens are no script
pub grammar_first : (text : List ℕ) (found : List Token) (fault : ParseFault) → length text ≤ most_bytes
    → AreTokens text found → (fault ≡ parse.Oom) ⊎ grammar.IsFirstFault found fault
    → IsMemory (Grammar fault) ⊎ IsFirstFault text (Grammar fault)
grammar_first text found fault short has (inl memory) = inl memory
grammar_first text found fault short has (inr first) = inr (in_grammar found fault short has first)

-- a text whose tokens are no script is none
pub grammar_refused : (text : List ℕ) (found : List Token) (fault : ParseFault)
    → ((all : List Token) → AreTokens text all → found ≡ all)
    → (fault ≡ parse.Oom) ⊎ ((script : List Task) → IsScript (kinds_of found) script → ⊥)
    → IsMemory (Grammar fault) ⊎ ((script : List Task) → IsScriptOf text script → ⊥)
grammar_refused text found fault only (inl memory) = inl memory
grammar_refused text found fault only (inr none) = inr (λ script is.
    none script (subst (λ l. IsScript (kinds_of l) script) (sym (only is.tokens is.has_tokens)) is.is_script))

-- the fault of a text that is too long, of which these are the first bytes
pub long_first : (at : Place) (text bytes : List ℕ) → at ≡ position_after bytes → bytes ≡ take most_bytes text
    → most_bytes < length text → IsFirstFault text (Long at)
long_first at text bytes position first long =
    subst (λ p. IsFirstFault text (Long p)) (sym (position ∙ ap position_after first)) (too_long long)

-- a text that is too long is no script
pub long_refused : (at : Place) (text : List ℕ) → most_bytes < length text
    → IsMemory (Long at) ⊎ ((script : List Task) → IsScriptOf text script → ⊥)
long_refused at text long = inr (λ script is. let short = is.short in omega arith)

-- what is as long as something is at most as long
pub as_long : (m n : ℕ) → m ≡ n → m ≤ n
as_long m n e = omega arith
