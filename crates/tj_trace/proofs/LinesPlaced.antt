-- The numbers that lines tell have positions in their script.
use Rattle.tj_trace.proofs.Prelude.{Bool, Ending, List, PlacedState, Statement, inl, inr, ℕ}
use Rattle.tj_lex.specs.declared.token.Token.{Token}
use Rattle.tj_syntax.specs.Grammar.{IsProgram}
use Rattle.tj_syntax.specs.Marks.{Noted}
use Rattle.tj_syntax.specs.PlacesOf.{places_of}
use Rattle.tj_syntax.specs.Starts.{in_tasks}
use Rattle.tj_syntax.specs.Trees.{Task}
use Rattle.tj_trace.specs.RightLines.{IsStatementAt, StandsWhere}
use Rattle.tj_trace.specs.SpotLaws.{HasPlace, LinesHavePlaces}
use Rattle.tj_trace.proofs.LinesRight.{lines_are_right}
use Rattle.tj_trace.proofs.SpotsThere.{spots_are_there}
use Rattle.tj_mean.specs.declared.outcome.Ending.TheVariants as ending

module _ (tokens : List Token) (notes : List Noted) (script : List Task) (derived : IsProgram notes script) where
  statement_placed : (decl at : ℕ) (s : Statement) → IsStatementAt script decl at s
      → HasPlace (places_of tokens (in_tasks derived 0)) decl at
  statement_placed decl at s i = let h = (spots_are_there tokens notes script derived decl at).0 s i in (_, h.spot)

  end_placed : (decl at : ℕ) (e : Ending) → StandsWhere script decl at e
      → HasPlace (places_of tokens (in_tasks derived 0)) decl at
  end_placed decl at (ending.Done v) (inl s) = statement_placed decl at s.0 s.1
  end_placed decl at (ending.Done v) (inr b) =
      let h = (spots_are_there tokens notes script derived decl at).1 b.0 in (_, h.spot)
  end_placed decl at e s = statement_placed decl at s.0 s.1

-- the law
pub lines_have_places : (strict : Bool) (root : PlacedState) → LinesHavePlaces strict root
lines_have_places strict root N lines right traced tokens notes derived l i =
    let h = lines_are_right strict root N lines right traced l i in
    let script = root.task.script in (
      end_placed tokens notes script derived l.decl l.at l.line.ending h.stands,
      λ m j. let k = h.makers m j in statement_placed tokens notes script derived m.decl m.at k.statement k.is_at,
      λ n j. let k = h.sets n j in statement_placed tokens notes script derived l.decl n.at k.statement k.is_at,
    )
