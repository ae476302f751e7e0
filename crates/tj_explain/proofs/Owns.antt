-- The statuses that what is told of an input can have.
use Rattle.std.proofs.Common.{Bool, List, Option, false, inl, inr, subst, sym, true, ℕ, ◌≡◌}
use Rattle.tj_command.proofs.Puts.{IsOwn}
use Rattle.tj_command.specs.Delivery.{IsPutAs}
use Rattle.tj_command.specs.Statuses.{status_of}
use Rattle.tj_command.specs.declared.status.Status.{Status}
use Rattle.tj_eval.specs.Stands.{PlacedState}
use Rattle.tj_lex.specs.declared.token.Token.{Token}
use Rattle.tj_syntax.specs.Trees.{Task}
use Rattle.tj_explain.specs.WhyOutput.{IsCommandOutput, IsToldRun, ended, needs_more, was_fine}
use Rattle.tj_explain.specs.declared.line.WhyCommand.{WhyCommand}

own-status_of : (marked : Bool) → IsOwn (status_of marked)
own-status_of true = tt
own-status_of false = tt

own-run : (command : WhyCommand) (input : List ℕ) (script : List Task) (tokens : List Token) (root : PlacedState)
    (status : Status) (text : List ℕ) → IsToldRun command input script tokens root status text → IsOwn status
own-run command input script tokens root _ _ (needs_more most places full made placed) = tt
own-run command input script tokens root _ _ (was_fine outcome fits is plain) = tt
own-run command input script tokens root _ _ (ended outcome lines places fits is traced placed) = own-status_of _

-- what is told of an input has one of them
pub own : (command : WhyCommand) (input : List ℕ) (status : Status) (text : List ℕ)
    → IsCommandOutput command input status text → IsOwn status
own command input status text (inl fault) = subst IsOwn (sym fault.is_script) tt
own command input status text (inr told) =
    own-run command input told.script told.is.tokens told.root status text told.told

-- what was put by another name of the text
pub put_items : (Room : ℕ → Type 0) (status answer : Status) (text other : List ℕ) (before now : Option (List ℕ))
    (b a : ℕ) → text ≡ other → IsPutAs Room status text before now b a answer
    → IsPutAs Room status other before now b a answer
put_items Room status answer text other before now b a same put =
    subst (λ t. IsPutAs Room status t before now b a answer) same put
