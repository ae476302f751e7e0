use Rattle.std.proofs.Common.{◌≡◌, ◌+◌, ◌<◌, ℕ, List, [], ◌∷◌, ◌++◌, map, length, take, slice_index_or, ap, sym, subst, ◌∙◌}
use Rattle.std.proofs.lemmas.List.{map-append, take_more}
use Rattle.std.specs.List.{All}
use Rattle.tj_mean.specs.Inner.Indexes.{WaitsAt}
use Rattle.tj_mean.specs.WaitIndexes.{link_at}
use Rattle.tj_mean.specs.declared.outcome.Link.{Link}
use Rattle.tj_mean.specs.declared.stopped.Stopped.{Stopped}
use Rattle.tj_mean.proofs.Lists.Elements.{all_taken, get_less}
use Rattle.tj_mean.proofs.wait_graph.all_links.Goals as goal

-- the tasks of one of the lists wait
waits_in : (ts : List Stopped) (cs : List (List ℕ)) (i : ℕ) (c d : List ℕ) → All (λ c. All (WaitsAt ts) c) cs
    → i < length cs → c ≡ slice_index_or cs i c → d ≡ c → All (WaitsAt ts) d
waits_in ts cs i c d a l e f = subst (All (WaitsAt ts)) (sym (f ∙ e)) (a i c l)

there_in : (ts : List Stopped) (c : List ℕ) → All (WaitsAt ts) c → All (λ p. p < length ts) c
there_in ts c a k d l = let w = a k d l in get_less ts (slice_index_or c k d) w.0 w.1

pub links-requires-clause-there : goal.links-requires-clause-there
links-requires-clause-there c = there_in c.args.tasks.now c.items.result.now
    (waits_in c.args.tasks.now c.args.cycles.now c.loop-cycle.cycle-index c.cycle-item.result c.items.result.now
    c.requires c.loop-cycle-test.true c.cycle-item.is c.items.ensures)

pub links-requires-clause-waiting : goal.links-requires-clause-waiting
links-requires-clause-waiting c = waits_in c.args.tasks.now c.args.cycles.now c.loop-cycle.cycle-index
    c.cycle-item.result c.items.result.now c.requires c.loop-cycle-test.true c.cycle-item.is c.items.ensures

pub loop-cycle-preserved : goal.loop-cycle-preserved
loop-cycle-preserved c =
    let i = c.loop-cycle.cycle-index in let cs = c.args.cycles.now in let x = c.cycle-item.result in
    let f : List ℕ → List Link = map (link_at c.args.tasks.now) in
    let is : c.in_ok-links.field-0 ≡ f x = c.in_ok-links.ensures ∙ ap f c.items.ensures in
    let taken : take (i + 1) cs ≡ take i cs ++ x ∷ [] =
    take_more cs i x c.loop-cycle-test.true ∙ ap (λ z. take i cs ++ z ∷ []) (sym c.cycle-item.is) in
    c.in_ok-push.ensures.items
    ∙ ap (λ l. l ++ c.in_ok-links.field-0 ∷ []) c.loop-cycle.invariant
    ∙ ap (λ (l : List Link). map f (take i cs) ++ l ∷ []) is
    ∙ sym (map-append f (take i cs) (x ∷ []))
    ∙ ap (map f) (sym taken)

pub returns : goal.returns
returns c =
    c.of.ensures ∙ c.loop-cycle.invariant
    ∙ ap (map (map (link_at c.args.tasks.now)))
    (all_taken c.args.cycles.now c.loop-cycle.cycle-index c.loop-cycle-test.false)
