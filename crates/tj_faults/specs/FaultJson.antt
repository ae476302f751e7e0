-- The first fault of a text that is no script, as an object of JSON.
use Rattle.std.specs.Prelude.{ℕ, List, [], ◌++◌, codes}
use Rattle.std.specs.List.{flat_map}
use Rattle.tj_lex.specs.declared.token.LexFault.{LexFault}
use Rattle.tj_lex.specs.declared.token.LexFault.TheVariants as lex
use Rattle.tj_lex.specs.declared.token.Token.{Token}
use Rattle.tj_syntax.specs.ScriptTexts.{position_of}
use Rattle.tj_syntax.specs.declared.fault.ParseFault.{ParseFault}
use Rattle.tj_syntax.specs.declared.fault.ParseFault.TheVariants as parse
use Rattle.tj_syntax.specs.declared.script_text.NoScript.{NoScript}
use Rattle.tj_syntax.specs.declared.script_text.NoScript.TheVariants.{Long, Tokens, Grammar}
use Rattle.tj_faults.specs.FaultWords.{fault_words}
use Rattle.tj_faults.specs.Objects.{begin, escaped, quoted}
use Rattle.tj_faults.specs.Spots.{found_text}

-- the letter and the number of a fault of the tokens
abbrev pub token_code : LexFault → List ℕ
token_code (lex.Byte at) = codes "L1"
token_code (lex.Number at) = codes "L2"
token_code (lex.Long at) = codes "L3"
token_code lex.Oom = []

-- those of a fault of the grammar
abbrev pub grammar_code : ParseFault → List ℕ
grammar_code (parse.Expected at) = codes "P1"
grammar_code (parse.Unknown at) = codes "P2"
grammar_code (parse.Twice at) = codes "P3"
grammar_code (parse.Count at) = codes "P4"
grammar_code (parse.NoMain at) = codes "P5"
grammar_code (parse.MainParams at) = codes "P6"
grammar_code (parse.Deep at) = codes "P7"
grammar_code (parse.Many at) = codes "P8"
grammar_code parse.Oom = []

-- those of a fault
abbrev pub fault_code : NoScript → List ℕ
fault_code (Long at) = codes "T1"
fault_code (Tokens fault) = token_code fault
fault_code (Grammar fault) = grammar_code fault

-- what is told of a text with this fault and these tokens
abbrev pub fault_json : List ℕ → List Token → NoScript → List ℕ
fault_json text tokens fault = begin (codes "fault") ++ codes ",\"fault\":" ++ quoted (fault_code fault)
    ++ codes ",\"at\":" ++ quoted (found_text (position_of fault)) ++ codes ",\"words\":"
    ++ quoted (flat_map escaped (fault_words text tokens fault)) ++ codes "}\n"
