-- The law of the statement that made most: it is one of the script's, and has a position there.
use Rattle.std.specs.Prelude.{ℕ, Bool, List}
use Rattle.tj_lex.specs.declared.token.Token.{Token}
use Rattle.tj_syntax.specs.Grammar.{IsProgram}
use Rattle.tj_syntax.specs.Marks.{Noted}
use Rattle.tj_syntax.specs.PlacesOf.{places_of}
use Rattle.tj_syntax.specs.Starts.{in_tasks}
use Rattle.tj_eval.specs.Stands.{PlacedState, StandsRight}
use Rattle.tj_trace.specs.Logs.{logged_program}
use Rattle.tj_trace.specs.MostMade.{IsMostMade}
use Rattle.tj_trace.specs.SpotLaws.{HasPlace}
use Rattle.tj_trace.specs.declared.most.Most.{Most}

-- the statement that made most has a position among the places of the same script
abbrev pub MostHasAPlace : Bool → PlacedState → Type 0
MostHasAPlace strict root = (N : ℕ) (most : Most) → StandsRight root
    → IsMostMade (logged_program strict root) N most
    → (tokens : List Token) (notes : List Noted) (derived : IsProgram notes root.task.script)
    → HasPlace (places_of tokens (in_tasks derived 0)) most.maker.decl most.maker.at
