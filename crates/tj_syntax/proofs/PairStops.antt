-- Pairs whose next operand stops stop there.
use Rattle.std.proofs.Common.{◌≡◌, ℕ, suc, [], ◌∷◌, ◌++◌, Option, Some, Result, Err, ap, sym, subst, ◌∙◌}
use Rattle.tj_lex.specs.declared.token.Tok.{Tok}
use Rattle.tj_syntax.specs.Trees.{Expression}
use Rattle.tj_syntax.specs.declared.expr.Op.{Op}
use Rattle.tj_syntax.specs.declared.fault.Stop.{Stop}
use Rattle.tj_syntax.specs.declared.fault.Stop.TheVariants as stop
use Rattle.tj_syntax.specs.declared.read_expr.Level.{Level}
use Rattle.tj_syntax.specs.Inner.Input.{Input, Outcome, Parser, Reads, and_then, first, next}
use Rattle.tj_syntax.specs.Inner.Reading.{PairList, operator, pair_by, pairs_from}

-- the operand behind an operator stops
pub pair_stops : (item : Parser Expression) (level : Level) (more : ℕ) (found : PairList) (i j : Input)
    (t : Option Tok) (o : Option Op) (op : Op) (s : Stop) → t ≡ first i.ahead → o ≡ operator level t → o ≡ Some op
    → j ≡ next i → item j ≡ Err s → pairs_from item level (suc more) found i ≡ Err s
unfolding pairs_from
pair_stops item level more found i j t o op s at is some behind stops =
    let there : operator level (first i.ahead) ≡ Some op = ap (operator level) (sym at) ∙ sym is ∙ some in
    ap (λ p. pair_by item found (pairs_from item level more) p i) there
    ∙ ap (λ r. and_then r (λ y. pairs_from item level more (found ++ (op, y) ∷ []))) (ap item (sym behind) ∙ stops)

stops_there : {A B C D : Type 0} (see : A → B) (shown : C → D) (outcome : Outcome B) (whole : Outcome D) (e : Stop)
    (new : Input) → Reads see outcome (Err e) new → (outcome ≡ Err e → whole ≡ Err e) → Reads shown whole (Err e) new
stops_there see shown outcome whole stop.Oom new reads on = tt
stops_there see shown outcome whole e new reads on = on reads

-- a reading that stops where another one stops
pub stops_alike : {A B C D : Type 0} (see : A → B) (shown : C → D) (outcome : Outcome B) (whole : Outcome D)
    (r : Result C Stop) (e : Stop) (new : Input) → r ≡ Err e → Reads see outcome (Err e) new
    → (outcome ≡ Err e → whole ≡ Err e) → Reads shown whole r new
stops_alike see shown outcome whole r e new same reads on =
    subst (λ result. Reads shown whole result new) (sym same) (stops_there see shown outcome whole e new reads on)
