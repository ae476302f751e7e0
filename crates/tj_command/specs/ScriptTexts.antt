-- The line of the first fault of a text that is no script.
use Rattle.std.specs.Prelude.{ℕ, ◌≡◌, List, [], codes}
use Rattle.tj_syntax.specs.ScriptTexts.{IsFirstFault}
use Rattle.tj_syntax.specs.declared.script_text.NoScript.{NoScript}
use Rattle.tj_syntax.specs.declared.script_text.NoScript.TheVariants.{Long, Tokens, Grammar}
use Rattle.tj_lex.specs.declared.token.LexFault.{LexFault}
use Rattle.tj_lex.specs.declared.token.LexFault.TheVariants as lex
use Rattle.tj_syntax.specs.declared.fault.ParseFault.{ParseFault}
use Rattle.tj_syntax.specs.declared.fault.ParseFault.TheVariants as parse
use Rattle.tj_command.specs.Texts.{script_fault}

-- the line of a fault of the tokens, and none for want of memory
abbrev pub token_fault : LexFault → List ℕ
token_fault (lex.Byte at) = script_fault (codes "L1") at
token_fault (lex.Number at) = script_fault (codes "L2") at
token_fault (lex.Long at) = script_fault (codes "L3") at
token_fault lex.Oom = []

-- the line of a fault of the grammar, and none for want of memory
abbrev pub grammar_fault : ParseFault → List ℕ
grammar_fault (parse.Expected at) = script_fault (codes "P1") at
grammar_fault (parse.Unknown at) = script_fault (codes "P2") at
grammar_fault (parse.Twice at) = script_fault (codes "P3") at
grammar_fault (parse.Count at) = script_fault (codes "P4") at
grammar_fault (parse.NoMain at) = script_fault (codes "P5") at
grammar_fault (parse.MainParams at) = script_fault (codes "P6") at
grammar_fault (parse.Deep at) = script_fault (codes "P7") at
grammar_fault (parse.Many at) = script_fault (codes "P8") at
grammar_fault parse.Oom = []

-- the line of a fault, and none for want of memory
abbrev pub fault_line : NoScript → List ℕ
fault_line (Long at) = script_fault (codes "T1") at
fault_line (Tokens fault) = token_fault fault
fault_line (Grammar fault) = grammar_fault fault

-- the line of the first fault
abbrev pub IsFaultLine : (text : List ℕ) → List ℕ → Type 0
IsFaultLine text line = (fault : NoScript) × IsFirstFault text fault × (line ≡ fault_line fault)
