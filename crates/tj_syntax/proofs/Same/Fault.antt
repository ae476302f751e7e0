-- The first fault is where the reading of a script stops, so that there is one at most, and none of a script.
use Rattle.std.proofs.Common.{◌≡◌, List, [], ◌∷◌, ◌++◌, Option, Some, None, ap, sym, ◌∙◌, subst, codes}
use Rattle.tj_lex.specs.declared.token.Token.{Token}
use Rattle.tj_lex.specs.declared.token.Tok.{Tok}
use Rattle.tj_lex.specs.declared.token.Tok.TheVariants as toks
use Rattle.tj_syntax.specs.declared.fault.Stop.{Stop}
use Rattle.tj_syntax.specs.declared.fault.ParseFault.{ParseFault}
use Rattle.tj_syntax.specs.Trees.{Task}
use Rattle.tj_syntax.specs.Faults.{kinds_of, IsScript, EndsInEnd, IsTokenFault, IsFirstFault, at_token, at_fork}
use Rattle.tj_syntax.specs.Faults.{no_main, main_params, cant_follow, breaks}
use Rattle.tj_syntax.specs.Inner.Input.{heads_from, head_named, first, first_flaw}
use Rattle.tj_syntax.proofs.Complete.Script.{script_reads}
use Rattle.tj_syntax.proofs.Stops.FirstFault.{kinds_with_end}
use Rattle.tj_syntax.proofs.Same.Stop.{stop_of, stop_of_main, stop_of_params, IsOfStop, one_stop, stop_read, fork_stops}
use Rattle.tj_syntax.proofs.Same.Stop.{main_stops, params_stop}
use Rattle.tj_syntax.proofs.Same.Token.{breach_stops, refusal_stops}

-- ---- the laws

-- the kinds of tokens that end in the end
ended_kinds : (tokens : List Token) (e : EndsInEnd tokens) → kinds_of tokens ≡ kinds_of e.front ++ toks.End ∷ []
ended_kinds tokens e = ap kinds_of e.whole ∙ kinds_with_end e.front e.last e.is_end

-- a fault at a token is that of the stop of the reading
token_stops : (tokens : List Token) (e : EndsInEnd tokens) (f : ParseFault) → IsTokenFault tokens f
    → IsOfStop tokens (kinds_of e.front) f
token_stops tokens e f (cant_follow front back token notes parts begins unbroken refuses) =
    refusal_stops tokens (kinds_of e.front) front back token notes (ended_kinds tokens e) parts begins unbroken refuses
token_stops tokens e f (breaks front back token notes breach parts begins unbroken) =
    breach_stops tokens (kinds_of e.front) front back token notes breach (ended_kinds tokens e) parts begins unbroken

-- a first fault is that of the stop of the reading
first_stops : (tokens : List Token) (e : EndsInEnd tokens) (f : ParseFault) → IsFirstFault tokens f
    → IsOfStop tokens (kinds_of e.front) f
first_stops tokens e f (at_token h) = token_stops tokens e _ h
first_stops tokens e f (at_fork front back token before after note script breach parts first last derived unbroken
    right faulty) =
    fork_stops tokens (kinds_of e.front) front back token before after note script breach
    (ended_kinds tokens e) parts first last derived unbroken right faulty
first_stops tokens e f (no_main notes script spells derived unbroken right none) =
    main_stops tokens (kinds_of e.front) notes script e (ended_kinds tokens e) spells derived unbroken right none
first_stops tokens e f (main_params front back token before after script count parts named first last derived
    unbroken right some) =
    params_stop tokens (kinds_of e.front) front back token before after script count
    (ended_kinds tokens e) parts named first last derived unbroken right some

-- there is one first fault at most
pub one_fault : (tokens : List Token) (a b : ParseFault) → EndsInEnd tokens → IsFirstFault tokens a
    → IsFirstFault tokens b → a ≡ b
one_fault tokens a b e p q = one_stop tokens (kinds_of e.front) a b (first_stops tokens e a p)
    (first_stops tokens e b q)

-- the reading of a script doesn't stop
script_goes_on : (ts : List Tok) (script : List Task) → IsScript (ts ++ toks.End ∷ []) script → stop_of ts ≡ None
script_goes_on ts script is =
    let r = script_reads ts script is in
    stop_read ts script r.behind r.reads ∙ ap
    (λ f. first_flaw f (stop_of_main (head_named (heads_from [] ts) (codes "main")))) r.no_flaw
    ∙ ap stop_of_main r.has_main ∙ ap (λ n. stop_of_params n r.main.left) r.no_params

-- a script has no first fault
pub scripts_have_no_fault : (tokens : List Token) (script : List Task) (f : ParseFault) → EndsInEnd tokens
    → IsScript (kinds_of tokens) script → IsFirstFault tokens f → ⊥
scripts_have_no_fault tokens script f e is first =
    let p = first_stops tokens e f first in
    let none = script_goes_on (kinds_of e.front) script (subst (λ l. IsScript l script) (ended_kinds tokens e) is) in
    let both : ◌≡◌ {A = Option Stop} None (Some p.stop_is) = sym none ∙ p.stops in
    cc
