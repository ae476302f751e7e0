use Rattle.std.proofs.Common.{ℕ, ◌≡◌, ◌<◌, List, sym, ◌∙◌, subst}
use Rattle.std.specs.Prelude.{◌↔◌, IsTrue}
use Rattle.tj_tree.specs.declared.tree.Entry.{Entry}
use Rattle.tj_tree.specs.Forks.{Forks, IsEarlier, order_of, task_count}
use Rattle.tj_tree.specs.Walk.{TakesFewSteps}
use Rattle.tj_tree.specs.Inner.Tree.{AreGapless, AreEntriesOf, MayLook, forks_of}
use Rattle.tj_tree.proofs.Gapless.{HasTask-below, IsHistory-gapless}
use Rattle.tj_tree.proofs.tree.before_of.Goals as goal

may_look : (forks fs now : Forks) (entries items : List Entry) (n : ℕ) → entries ≡ items → AreEntriesOf fs items
    → fs ≡ now → now ≡ forks → n < task_count now → MayLook forks entries n
may_look forks fs now entries items n same of view read there =
    let whole = subst (λ (es : List Entry). AreEntriesOf forks es) (sym same)
    (subst (λ gs. AreEntriesOf gs items) (view ∙ read) of) in
    record {
      entries_of = whole;
      there = HasTask-below forks whole.gapless n
          (subst (λ gs. n < task_count gs) read there);
    }

pub before_in-requires-clause-tree : goal.before_in-requires-clause-tree
before_in-requires-clause-tree g c = (
  g.F.Forked.forks,
  (
    IsHistory-gapless g.F.Forked.forks
        (subst (λ (fs : Forks). AreGapless fs) (c.tree.view_is ∙ c.requires.forks) c.tree.invariant.gapless),
    λ n node
        h. h,
  ),
)

pub before_in-requires-clause-a_open : goal.before_in-requires-clause-a_open
before_in-requires-clause-a_open g c =
    may_look g.F.Forked.forks (forks_of c.tree.inside.entries.items) c.args.tree.now c.as_slice.result.now
    c.tree.inside.entries.items c.args.a.0
    c.as_slice.ensures.value c.tree.invariant c.tree.view_is c.requires.forks c.requires.a_there

pub before_in-requires-clause-b_open : goal.before_in-requires-clause-b_open
before_in-requires-clause-b_open g c =
    may_look g.F.Forked.forks (forks_of c.tree.inside.entries.items) c.args.tree.now c.as_slice.result.now
    c.tree.inside.entries.items c.args.b.0
    c.as_slice.ensures.value c.tree.invariant c.tree.view_is c.requires.forks c.requires.b_there

pub returns-clause-order : goal.returns-clause-order
returns-clause-order g c =
    let history = IsHistory-gapless g.F.Forked.forks
    (subst (λ (fs : Forks). AreGapless fs) (c.tree.view_is ∙ c.requires.forks) c.tree.invariant.gapless) in
    subst (λ (fs : Forks). IsTrue c.before_in.result ↔ IsEarlier (order_of fs) c.args.a.0 c.args.b.0)
    (sym c.requires.forks)
    (c.before_in.ensures.order g.F.Forked.forks history (λ n node h. h))

pub returns-clause-cost : goal.returns-clause-cost
returns-clause-cost g c =
    let history = IsHistory-gapless g.F.Forked.forks
    (subst (λ (fs : Forks). AreGapless fs) (c.tree.view_is ∙ c.requires.forks) c.tree.invariant.gapless) in
    subst (λ (fs : Forks). TakesFewSteps fs c.args.a.0 c.args.b.0 c.args.steps.now c.before_in.new.steps)
    (sym c.requires.forks)
    (c.before_in.ensures.cost g.F.Forked.forks history (λ n node h. h))
