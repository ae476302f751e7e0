use Rattle.std.proofs.Common.{◌≡◌, ◌+◌, ◌++◌, ◌∷◌, [], ℕ, List, map, Option, Some, None, Vec, Global, refl, ap, sym, subst, ◌∙◌, arith}
use Rattle.std.specs.Prelude.{IfSome, IsNone}
use Rattle.std.specs.List.{All}
use Rattle.tj_mean.specs.Inner.Indexes.{IsLeastCycle}
use Rattle.tj_mean.specs.Outcomes.{AreCycles}
use Rattle.tj_mean.specs.WaitIndexes.{LeadsOn, link_at}
use Rattle.tj_mean.proofs.Outcomes.IndexCycles.{FoundBy, by_all, by_more, by_none, by_on}
use Rattle.tj_mean.proofs.wait_graph.cycles_by.Goals as goal
use Rattle.tj_mean.proofs.wait_graph.cycles_by.Goals.{in-Some+in_ok-push, in_default}

-- what was found from an index
some_least : (next : List (Option ℕ)) (first : ℕ) (o : Option (Vec ℕ Global)) (ps : Vec ℕ Global) → o ≡ Some ps
    → IfSome o (λ indexes. IsLeastCycle next first indexes.items) → IsLeastCycle next first ps.items
some_least next first o ps e h = subst (λ p. IfSome p (λ indexes. IsLeastCycle next first indexes.items)) e h

-- nothing was found from an index
no_least : (next : List (Option ℕ)) (first : ℕ) (o : Option (Vec ℕ Global)) → o ≡ None
    → (IsNone o → (indexes : List ℕ) → ¬ IsLeastCycle next first indexes) → (indexes : List ℕ)
    → ¬ IsLeastCycle next first indexes
no_least next first o e h = subst (λ p. IsNone p → (indexes : List ℕ) → ¬ IsLeastCycle next first indexes) e h refl

pub loop-first-init : goal.loop-first-init
loop-first-init c = by_none c.args.next.now c.new-cycles.result.items c.new-cycles.ensures.items

pub loop-first-preserved : goal.loop-first-preserved
loop-first-preserved c =
    let next = c.args.next.now in let n = c.loop-first.first in let cs = c.loop-first.cycles.items in
    elim c.match-branch-3.branch [
      | in-Some+in_ok-push w ↦
          let it = ap (λ (v : Vec (List ℕ) Global). v.items) w.cycles-is ∙ w.in_ok-push.ensures.items
          ∙ ap (λ z. cs ++ z ∷ []) w.of.ensures in
          subst (λ ds. FoundBy next ds (n + 1)) (sym it)
          (by_more next cs n w.in-Some.indexes.items c.loop-first.invariant
          (some_least next n c.in_ok-indexes.field-0 w.in-Some.indexes w.in-Some.is c.in_ok-indexes.ensures.some))
      | in_default w ↦
          subst (λ ds. FoundBy next ds (n + 1)) (sym (ap (λ (v : Vec (List ℕ) Global). v.items) w.cycles-is))
          (by_on next cs n c.loop-first.invariant
          (no_least next n c.in_ok-indexes.field-0 w.in_default.is c.in_ok-indexes.ensures.none))
    ]

pub returns : goal.returns
returns c =
    let next = c.args.next.now in let l = c.loop-first in
    let ended = c.loop-first-test.false in record {
      on = subst (λ cs. All (λ d. All (LeadsOn next) d) cs) (sym c.of-2.ensures) l.invariant.on;
      cycles = λ tasks apart in_order are.
          subst (λ cs. AreCycles tasks (map (map (link_at tasks)) cs)) (sym c.of-2.ensures)
          (by_all next l.cycles.items l.first l.invariant (omega arith) tasks apart in_order are);
    }
