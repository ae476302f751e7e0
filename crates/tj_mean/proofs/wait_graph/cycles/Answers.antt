use Rattle.std.proofs.Common.{◌≡◌, ◌<◌, ℕ, List, Option, Result, Ok, Err, IfOk, length, map, sym, subst, arith}
use Rattle.std.specs.List.{All}
use Rattle.tj_mean.specs.Inner.Indexes.{WaitsAt}
use Rattle.tj_mean.specs.Outcomes.{AreApart, AreCycles, Ascend}
use Rattle.tj_mean.specs.WaitIndexes.{AreNext, Next, link_at}
use Rattle.tj_mean.specs.declared.outcome.Link.{Link}
use Rattle.tj_mean.specs.declared.stopped.Stopped.{Stopped}
use Rattle.tj_mean.proofs.Outcomes.IndexCycles.{by_waits}
use Rattle.tj_mean.proofs.Outcomes.Indexes.{next_length, next_there}
use Rattle.tj_mean.proofs.wait_graph.cycles.Goals as goal

-- where an index leads is in the list
inside : (ts : List Stopped) → AreApart ts → Ascend (map (λ (s : Stopped). s.line.name) ts)
    → (ns next : List (Option ℕ)) → AreNext ts ts next → ns ≡ next → (i j : ℕ) → Next ns i j → j < length ns
inside ts apart in_order ns next are e =
    subst (λ ms. (i j : ℕ) → Next ms i j → j < length ms) (sym e)
    (λ i j l.
    let n = next_length ts ts next are in
    let there = next_there ts apart in_order next are i j l in omega arith)

pub cycles_by-requires : goal.cycles_by-requires
cycles_by-requires c =
    inside c.args.tasks.now c.requires.apart c.requires.in_order c.as_slice.result.now c.in_ok-next.next.items
    c.in_ok-next.ensures c.as_slice.ensures.value

pub all_links-requires : goal.all_links-requires
all_links-requires c =
    let ts = c.args.tasks.now in
    let on = c.in_ok-cycles.ensures.on in
    subst (λ cs. All (λ d. All (WaitsAt ts) d) cs) (sym c.items.ensures)
    (by_waits c.as_slice.result.now ts c.requires.apart c.requires.in_order
    (subst (AreNext ts ts) (sym c.as_slice.ensures.value) c.in_ok-next.ensures) c.in_ok-cycles.cycles on)

-- an answer that is these links is all cycles
answered : {E : Type 0} (ts : List Stopped) (links : List (List Link)) (r : Result (List (List Link)) E)
    → IfOk r (λ all. all ≡ links) → AreCycles ts links → IfOk r (AreCycles ts)
answered ts links (Ok x) e a = subst (AreCycles ts) (sym e) a
answered ts links (Err e) h a = tt

pub returns : goal.returns
returns c =
    let ts = c.args.tasks.now in
    answered ts (map (map (link_at ts)) c.items.result.now) c.all_links.result c.all_links.ensures
    (subst (λ cs. AreCycles ts (map (map (link_at ts)) cs)) (sym c.items.ensures)
    (c.in_ok-cycles.ensures.cycles ts c.requires.apart c.requires.in_order
    (subst (AreNext ts ts) (sym c.as_slice.ensures.value) c.in_ok-next.ensures)))
