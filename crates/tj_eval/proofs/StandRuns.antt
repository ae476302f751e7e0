-- The path to the next ask, one statement at a time, and where the task then stands.
use Rattle.std.proofs.Common.{◌≡◌, ℕ, zero, suc, ◌-◌, ◌<◌, Bool, true, false, List, [], ◌∷◌, length, ap, sym, refl}
use Rattle.std.proofs.Common.{◌∙◌, arith}
use Rattle.std.specs.Prelude.{Option, Some, None, Result, Ok, Err, slice_get, nat_eq, if◌then◌else◌}
use Rattle.tj_base.specs.declared.cause.Trouble.{Trouble}
use Rattle.tj_syntax.specs.Trees as tree
use Rattle.tj_syntax.specs.Trees.{Argument, Given, Statement, Task}
use Rattle.tj_eval.specs.Expressions.{held}
use Rattle.tj_eval.specs.Inner.Effects.{is_ask, IsStep}
use Rattle.tj_eval.specs.Statements.{TaskState, Effect, goes_on, asks, fails, begun, asked, forked, then_effect}
use Rattle.tj_eval.specs.Statements.{arguments, value_in, number, reference, reference_of}
use Rattle.tj_eval.specs.Stands.{Stand, stand_on, stand_over, stand_begun, stand_from, stand_of, stand_ask}

-- the effect isn't to go on without an ask
abbrev Stops : Effect → Type 0
Stops (goes_on new) = ⊥
Stops (asks q new) = Unit {0}
Stops (fails fault) = Unit {0}

stops_then : {A : Type 0} (c : Result A Trouble) (go : A → Effect) → ((x : A) → Stops (go x)) → Stops (then_effect c go)
stops_then (Ok x) go h = h x
stops_then (Err fault) go h = tt

stops_if : (b : Bool) (x y : Effect) → Stops x → Stops y → Stops (if b then x else y)
stops_if true x y h k = h
stops_if false x y h k = k

stops_forked : (t : TaskState) (o : Option Task) (into : Option ℕ) (list : List Argument) → Stops (forked t o into list)
stops_forked t None into list = tt
stops_forked t (Some d) into list = stops_if (nat_eq (length list) d.params) _ _
    (stops_then (arguments t.vars list) _ (λ values. tt)) tt

stops_asked : (t : TaskState) (into : Option ℕ) (q : tree.Ask) → Stops (asked t into q)
stops_asked t into tree.new = tt
stops_asked t into (tree.fork f list) = stops_forked t (slice_get t.script f) into list
stops_asked t into (tree.get r None) = stops_then (reference_of t r) _ (λ k. tt)
stops_asked t into (tree.get r (Some e)) = stops_then (reference_of t r) _ (λ k. tt)
stops_asked t into (tree.join r None) = stops_then (reference_of t r) _ (λ k. tt)
stops_asked t into (tree.join r (Some e)) = stops_then (reference_of t r) _ (λ k. tt)

not_both : false ≡ true → ⊥
not_both e = cc

stops : (t : TaskState) (s : Statement) → is_ask s ≡ true → Stops (begun t s)
stops t (tree.let_new x (tree.answer q)) e = stops_asked t (Some x) q
stops t (tree.let_new x (tree.result_of v)) e = absurd (not_both e)
stops t (tree.assign x (tree.answer q)) e = stops_asked t (Some x) q
stops t (tree.assign x (tree.result_of v)) e = absurd (not_both e)
stops t (tree.ask q) e = stops_asked t None q
stops t (tree.print v) e = stops_then (number (value_in t v)) _ (λ n. tt)
stops t (tree.set_cell x v) e = stops_then (reference (Ok (held t.vars x))) _
    (λ k. stops_then (value_in t v) _ (λ w. tt))
stops t (tree.return v) e = stops_then (value_in t v) _ (λ w. tt)
stops t (tree.choose v body other) e = absurd (not_both e)
stops t (tree.repeat v body) e = absurd (not_both e)

from_stopped : (w : Stand) (effect : Effect) (go : TaskState → Stand → Stand) → Stops effect
    → stand_from w effect go ≡ w
from_stopped w (goes_on new) go h = absurd h
from_stopped w effect go h = refl

-- where no statement is left the task stands at the closing brace
pub stand_done : (n : ℕ) (t : TaskState) (z : Stand) → t.rest ≡ [] → stand_ask n t z ≡ stand_over z.ahead z
stand_done zero t z e = ap (λ r. stand_of z r (λ s rest w. w)) e
stand_done (suc n) t z e = ap (λ r. stand_of z r (λ s rest w. let on = record t { rest = rest; steps = n } in
    stand_from (stand_begun on s w) (begun on s) (stand_ask n))) e

begins : (n : ℕ) (t : TaskState) (z : Stand) (s : Statement) (rest : List Statement) → t.rest ≡ s ∷ rest
    → let on = record t { rest = rest; steps = n } in
    stand_ask (suc n) t z ≡ stand_from (stand_begun on s (stand_on z.ahead z)) (begun on s) (stand_ask n)
begins n t z s rest e = ap (λ r. stand_of z r (λ s rest w. let on = record t { rest = rest; steps = n } in
    stand_from (stand_begun on s w) (begun on s) (stand_ask n))) e

spent : (n : ℕ) (t : TaskState) (z : Stand) (s : Statement) (rest : List Statement) → t.rest ≡ s ∷ rest → n ≡ 0
    → stand_ask n t z ≡ stand_on z.ahead z
spent zero t z s rest e k = ap (λ r. stand_of z r (λ s rest w. w)) e
spent (suc n) t z s rest e k = absurd (omega arith)

-- A statement is taken from those that remain.
module _ (old t : TaskState) (z : Stand) (s : Statement) (r : old.rest ≡ s ∷ t.rest)
    (e : t ≡ record old { rest = t.rest }) where
  -- where no statement may begin any more, the task stands at it
  pub stand_spent : t.steps ≡ 0 → stand_ask old.steps old z ≡ stand_on z.ahead z
  stand_spent k = spent old.steps old z s t.rest r (sym (ap (λ w. w.steps) e) ∙ k)

  -- where it may begin
  module _ (p : 0 < t.steps) where
    abbrev on : TaskState
    on = record t { steps = t.steps - 1 }

    abbrev now : Stand
    now = stand_begun on s (stand_on z.ahead z)

    begin : stand_ask old.steps old z ≡ stand_from now (begun on s) (stand_ask (t.steps - 1))
    begin = let same : t.steps ≡ old.steps = ap (λ w. w.steps) e in
        let one : old.steps ≡ suc (t.steps - 1) = omega arith in
        ap (λ n. stand_ask n old z) one ∙ begins (t.steps - 1) old z s t.rest r
        ∙ ap (λ w. stand_from (stand_begun (record w { steps = t.steps - 1 }) s (stand_on z.ahead z))
        (begun (record w { steps = t.steps - 1 }) s) (stand_ask (t.steps - 1))) (sym e)

    -- it is carried out, and the task stands where it then stands
    pub stand_passes : (new : TaskState) → begun on s ≡ goes_on new → new.steps ≡ t.steps - 1
        → stand_ask new.steps new now ≡ stand_ask old.steps old z
    stand_passes new b n = ap (λ k. stand_ask k new now) n
        ∙ sym (begin ∙ ap (λ x. stand_from now x (stand_ask (t.steps - 1))) b)

    -- it fails
    pub stand_fails : (fault : Trouble) → begun on s ≡ fails fault → now ≡ stand_ask old.steps old z
    stand_fails fault b = sym (begin ∙ ap (λ x. stand_from now x (stand_ask (t.steps - 1))) b)

    -- it asks
    pub stand_asks : is_ask s ≡ true → now ≡ stand_ask old.steps old z
    stand_asks a = sym (begin ∙ from_stopped now (begun on s) (stand_ask (t.steps - 1)) (stops on s a))

    -- the same, as the code tells it
    pub stand_stops : (taken : Bool) (new : TaskState) (w u : Stand) → w ≡ stand_on z.ahead z → u ≡ stand_begun on s w
        → IsStep on s (Ok taken) new → taken ≡ false → u ≡ stand_ask old.steps old z
    stand_stops true new w u a b h f = absurd (not_both (sym f))
    stand_stops false new w u a b h f = b ∙ ap (stand_begun on s) a ∙ stand_asks h.0

-- a number that isn't 0 is more
pub some_left : (n : ℕ) → nat_eq n 0 ≡ false → 0 < n
some_left zero e = absurd (not_both (sym e))
some_left (suc n) e = omega arith
