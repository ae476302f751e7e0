-- Which texts are scripts, and what is wrong first with a text that is none.
use Rattle.std.specs.Prelude.{ℕ, ◌≡◌, ◌<◌, ◌≤◌, List, Option, Some, None, length, take}
use Rattle.tj_lex.specs.declared.bytes.TheConstants.{MAX_TEXT}
use Rattle.tj_lex.specs.declared.place.Place.{Place}
use Rattle.tj_lex.specs.declared.token.Tok.{Tok}
use Rattle.tj_lex.specs.declared.token.Token.{Token}
use Rattle.tj_lex.specs.declared.token.LexFault.{LexFault}
use Rattle.tj_lex.specs.declared.token.LexFault.TheVariants as lex
use Rattle.tj_lex.specs.Positions.{position_after}
use Rattle.tj_lex.specs.Tokens as tokens
use Rattle.tj_lex.specs.Tokens.{AreTokens}
use Rattle.tj_syntax.specs.declared.fault.ParseFault.{ParseFault}
use Rattle.tj_syntax.specs.declared.fault.ParseFault.TheVariants as parse
use Rattle.tj_syntax.specs.Faults as grammar
use Rattle.tj_syntax.specs.Faults.{IsScript, kinds_of}
use Rattle.tj_syntax.specs.Trees.{Task}
use Rattle.tj_syntax.specs.declared.script_text.NoScript.{NoScript}
use Rattle.tj_syntax.specs.declared.script_text.NoScript.TheVariants.{Long, Tokens, Grammar}

-- the most bytes of a script, 1048576
abbrev pub most_bytes : ℕ
most_bytes = MAX_TEXT

-- the text is short enough, and its tokens are this script
pub record IsScriptOf (text : List ℕ) (script : List Task) : Type 0 where
  pub short : length text ≤ most_bytes
  pub tokens : List Token
  pub has_tokens : AreTokens text tokens
  pub is_script : IsScript (kinds_of tokens) script

-- some tokens are the script
abbrev pub IsSomeScript : List Task → Type 0
IsSomeScript script = (tokens : List Tok) × IsScript tokens script

-- memory was wanting
abbrev pub IsMemory : NoScript → Type 0
IsMemory (Long at) = ⊥
IsMemory (Tokens fault) = fault ≡ lex.Oom
IsMemory (Grammar fault) = fault ≡ parse.Oom

-- where the text has the fault: want of memory has no position
abbrev pub position_of : NoScript → Option Place
position_of (Long at) = Some at
position_of (Tokens (lex.Byte at)) = Some at
position_of (Tokens (lex.Number at)) = Some at
position_of (Tokens (lex.Long at)) = Some at
position_of (Tokens lex.Oom) = None
position_of (Grammar (parse.Expected at)) = Some at
position_of (Grammar (parse.Unknown at)) = Some at
position_of (Grammar (parse.Twice at)) = Some at
position_of (Grammar (parse.Count at)) = Some at
position_of (Grammar (parse.NoMain at)) = Some at
position_of (Grammar (parse.MainParams at)) = Some at
position_of (Grammar (parse.Deep at)) = Some at
position_of (Grammar (parse.Many at)) = Some at
position_of (Grammar parse.Oom) = None

-- what is wrong first with a text that is no script: its first byte too many, or else the first fault of the tokens, or
-- else that of the grammar
pub data IsFirstFault (text : List ℕ) : NoScript → Type 0 where
  too_long : most_bytes < length text → IsFirstFault text (Long (position_after (take most_bytes text)))
  in_tokens : (fault : LexFault) → length text ≤ most_bytes → tokens.IsFirstFault text fault
      → IsFirstFault text (Tokens fault)
  in_grammar : (found : List Token) (fault : ParseFault) → length text ≤ most_bytes → AreTokens text found
      → grammar.IsFirstFault found fault → IsFirstFault text (Grammar fault)
