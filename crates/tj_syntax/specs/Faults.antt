-- Which lists of tokens are scripts, and the first fault of a list that is none.
use Rattle.std.specs.Prelude.{◌≡◌, ◌≢◌, ℕ, codes, List, [], ◌∷◌, ◌++◌, map, slice_get, Option, Some, None, ◌<◌}
use Rattle.std.specs.Prelude.{nat_eq, if◌then◌else◌}
use Rattle.std.specs.List.{AllByRecursion}
use Rattle.tj_lex.specs.declared.token.Token.{Token}
use Rattle.tj_lex.specs.declared.token.Tok.{Tok}
use Rattle.tj_lex.specs.declared.token.Tok.TheVariants as toks
use Rattle.tj_lex.specs.declared.place.Place.{Place}
use Rattle.tj_syntax.specs.declared.fault.ParseFault.{ParseFault}
use Rattle.tj_syntax.specs.declared.fault.ParseFault.TheVariants as faults
use Rattle.tj_syntax.specs.Trees.{Task}
use Rattle.tj_syntax.specs.declared.fault.Breach.{Breach}
use Rattle.tj_syntax.specs.declared.fault.Breach.TheVariants.{Unknown, Twice, Count, Deep, Many}
use Rattle.tj_syntax.specs.Marks.{Note, broken, forks, declares, Noted, Name, index_of}
use Rattle.tj_syntax.specs.Grammar.{IsProgram}

-- the tokens of notes
abbrev pub tokens_of : List Noted → List Tok
tokens_of = map (λ noted. noted.0)

-- what the tokens of a text are, without their positions
abbrev pub kinds_of : List Token → List Tok
kinds_of = map (λ token. token.what)

-- the last token is the end
pub record EndsInEnd (tokens : List Token) : Type 0 where
  pub front : List Token
  pub last : Token
  pub whole : tokens ≡ front ++ last ∷ []
  pub is_end : last.what ≡ toks.End

-- no rule of names or of numbers is broken at the token
abbrev pub IsUnbroken : Noted → Type 0
IsUnbroken noted = (breach : Breach) → noted.1 ≢ broken breach

-- nothing is broken at any of the tokens
abbrev pub AreUnbroken : List Noted → Type 0
AreUnbroken = AllByRecursion IsUnbroken

-- the task of a number
abbrev pub task_at : List Task → Option ℕ → Option Task
task_at script None = None
task_at script (Some n) = slice_get script n

-- the task of a name, the first where there are several
abbrev pub task_named : List Task → Name → Option Task
task_named script f = task_at script (index_of (map (λ t. t.name) script) f)

-- how a fork with so many arguments is faulty where its name stands for this task
abbrev pub fork_of : Option Task → ℕ → Option Breach
fork_of None count = Some Unknown
fork_of (Some t) count = if nat_eq t.params count then None else Some Count

-- how the token is faulty as the name of a forked task, if it is
abbrev pub fork_breach : List Task → Noted → Option Breach
fork_breach script (toks.Name f, forks count) = fork_of (task_named script f) count
fork_breach script noted = None

-- each fork is of a task with as many parameters as it has arguments
abbrev pub AreForksRight : List Task → List Noted → Type 0
AreForksRight script = AllByRecursion (λ noted. fork_breach script noted ≡ None)

-- the task in which a script begins
abbrev pub main_of : List Task → Option Task
main_of script = task_named script (codes "main")

-- the tokens are a script: its notes spell them and the end, nothing is broken, and it begins in a task without
-- parameters
pub record IsScript (tokens : List Tok) (script : List Task) : Type 0 where
  pub notes : List Noted
  pub derived : IsProgram notes script
  pub spells : tokens ≡ tokens_of notes ++ toks.End ∷ []
  pub unbroken : AreUnbroken notes
  pub forks_right : AreForksRight script notes
  pub main : Task
  pub has_main : main_of script ≡ Some main
  pub no_params : main.params ≡ 0

-- The faults. A sentence is what the grammar alone allows, whatever rules of names and numbers it breaks.

-- the tokens begin a sentence
pub record Begins (tokens : List Tok) : Type 0 where
  pub more : List Tok
  pub notes : List Noted
  pub script : List Task
  pub derived : IsProgram notes script
  pub spells : tokens ++ more ≡ tokens_of notes ++ toks.End ∷ []

-- the tokens begin a sentence in which they have these notes
pub record BeginsWith (tokens : List Tok) (front : List Noted) : Type 0 where
  pub back : List Noted
  pub script : List Task
  pub derived : IsProgram (front ++ back) script
  pub spells : tokens ≡ tokens_of front

-- the fault of a breach
abbrev pub fault_of : Breach → Place → ParseFault
fault_of Unknown = faults.Unknown
fault_of Twice = faults.Twice
fault_of Count = faults.Count
fault_of Deep = faults.Deep
fault_of Many = faults.Many

-- the token can follow those in front of it: with them it begins a sentence, and an end is the last token
pub record CanFollow (front back : List Token) (token : Token) : Type 0 where
  pub begins : Begins (kinds_of (front ++ token ∷ []))
  pub is_last : token.what ≡ toks.End → back ≡ []

-- The first of the faults that stand at a token: behind tokens that break nothing, one that can't follow, or that
-- breaks a rule. A name that is declared twice is that before it is one too many.
pub data IsTokenFault (tokens : List Token) : ParseFault → Type 0 where
  cant_follow : (front back : List Token) (token : Token) (notes : List Noted) → tokens ≡ front ++ token ∷ back
      → BeginsWith (kinds_of front) notes → AreUnbroken notes → (CanFollow front back token → ⊥)
      → IsTokenFault tokens (faults.Expected token.at)
  breaks : (front back : List Token) (token : Token) (notes : List Noted) (breach : Breach)
      → tokens ≡ front ++ token ∷ back
      → BeginsWith (kinds_of (front ++ token ∷ [])) (notes ++ (token.what, broken breach) ∷ []) → AreUnbroken notes
      → IsTokenFault tokens (fault_of breach token.at)

-- The first fault. Where no token is faulty by itself, the forks come in the order of the text, and then the task
-- `main`.
pub data IsFirstFault (tokens : List Token) : ParseFault → Type 0 where
  at_token : {fault : ParseFault} → IsTokenFault tokens fault → IsFirstFault tokens fault
  at_fork : (front back : List Token) (token : Token) (before after : List Noted) (note : Note) (script : List Task)
      (breach : Breach) → tokens ≡ front ++ token ∷ back → kinds_of front ≡ tokens_of before
      → kinds_of back ≡ tokens_of after ++ toks.End ∷ []
      → IsProgram (before ++ (token.what, note) ∷ after) script → AreUnbroken (before ++ (token.what, note) ∷ after)
      → AreForksRight script before → fork_breach script (token.what, note) ≡ Some breach
      → IsFirstFault tokens (fault_of breach token.at)
  no_main : (notes : List Noted) (script : List Task) → kinds_of tokens ≡ tokens_of notes ++ toks.End ∷ []
      → IsProgram notes script → AreUnbroken notes → AreForksRight script notes → main_of script ≡ None
      → IsFirstFault tokens (faults.NoMain (record { line = 1; column = 1 }))
  main_params : (front back : List Token) (token : Token) (before after : List Noted) (script : List Task) (count : ℕ)
      → tokens ≡ front ++ token ∷ back → token.what ≡ toks.Name (codes "main") → kinds_of front ≡ tokens_of before
      → kinds_of back ≡ tokens_of after ++ toks.End ∷ []
      → IsProgram (before ++ (token.what, declares count) ∷ after) script
      → AreUnbroken (before ++ (token.what, declares count) ∷ after)
      → AreForksRight script (before ++ (token.what, declares count) ∷ after) → 0 < count
      → IsFirstFault tokens (faults.MainParams token.at)
