-- The way of a wait, by the fork order of the tree that was seen.
use Rattle.tj_detect.proofs.Prelude.{[], ap, suc, sym, true, way_if, ℕ, ◌*◌, ◌+◌, ◌<◌, ◌^◌, ◌↔◌, ◌∙◌, ◌∷◌, ◌≡◌, ◌≤◌}
use Rattle.std.proofs.Common.{zero, ◌&&◌, max, Bool, false, IsTrue, List, length, get_or, refl, arith}
use mathlib.Core.Option.{some, none, some-injective}
use lib.ListN.{get_elem?}
use Rattle.tj_base.specs.ForkOrder.{Name, before}
use Rattle.tj_body.specs.History.{to_task}
use Rattle.tj_body.specs.declared.point.Reference.{Reference}
use Rattle.tj_tree.specs.Forks.{Forks, IsEarlier, IsHistory, name_of, order_of}
use Rattle.tj_tree.specs.Laws.{OrderIsThatOfNames}
use Rattle.tj_tree.specs.Nodes.{HasNodes, node_of}
use Rattle.tj_words.specs.declared.view.SeenWord.{SeenWord}
use Rattle.tj_words.specs.SeatViews.SeenWords.{IsTaskIn, SeesTree, ShowsNode}
use Rattle.tj_words.specs.LawParts.ShownState.{reference_of}
use Rattle.tj_words.specs.Steps.WalkSteps.{is_task_sort, way_by}
use Rattle.tj_tree.proofs.Trees.{depth-of}
use Rattle.tj_detect.specs.TreeReads.{IsWithinCost, depth_in}
use Rattle.tj_detect.proofs.Prelude.{InEachTree, TreeShown, subst}
use Rattle.tj_tree.specs.Walk.{TakesFewSteps}
use Rattle.tj_words.specs.SeatViews.TreeReads.{IsLater, KnowsTask}
use Rattle.tj_record.specs.declared.record.Rec.{Rec}
use Rattle.tj_words.specs.declared.view.View.{View}
use Rattle.tj_words.proofs.SeatLoads.NodeLooks.{task_later}
use Rattle.tj_log.specs.Shown.{SeatShown}
use Rattle.std.specs.Prelude.{Option}

at_index : (l : List Reference) (c : ℕ) (d x : Reference) → get_elem? l c ≡ some x → get_or l c d ≡ x
at_index [] c d x e = let z : none ≡ some x = e in cc
at_index (y ∷ l) zero d x e = some-injective y x e
at_index (y ∷ l) (suc c) d x e = at_index l c d x e

-- two answers that are true alike are the same
same_answer : (a b : Bool) → IsTrue a ↔ IsTrue b → a ≡ b
same_answer true true h = refl
same_answer false false h = refl
same_answer true false h = sym (h.0 refl)
same_answer false true h = h.1 refl

-- what the tree that was seen says of t and u is the way of a wait
pub seen_way : OrderIsThatOfNames → (seen : List SeenWord) (born : List Reference) → SeesTree seen born → (t u : ℕ)
    → IsTaskIn born t → IsTaskIn born u → (answer : Bool)
    → ((forks : Forks) → IsHistory forks → HasNodes forks (ShowsNode seen)
    → IsTrue answer ↔ IsEarlier (order_of forks) t u)
    → way_by born t u ≡ way_if answer
seen_way names seen born tree t u a b answer tells =
    let x = at_index born t (to_task []) a.0 a.1 in
    let y = at_index born u (to_task []) b.0 b.1 in
    let s = tree.tasks t a.0 a.1 a.2 in
    let r = tree.tasks u b.0 b.1 b.2 in
    let law = names tree.forks t u tree.history s.0 r.0 in
    let told = tells tree.forks tree.history tree.nodes in
    let named : before (name_of tree.forks t) (name_of tree.forks u) ≡ before (reference_of born t).name
    (reference_of born u).name
    = ap (λ (q : Name). before q (name_of tree.forks u)) (s.1 ∙ ap (λ (z : Reference). z.name) (sym x))
    ∙ ap (λ (q : Name). before (reference_of born t).name q) (r.1 ∙ ap (λ (z : Reference). z.name) (sym y)) in
    let same : before (name_of tree.forks t) (name_of tree.forks u) ≡ answer
    = same_answer _ answer ((λ h. told.1 (law.0 h)), (λ h. law.1 (told.0 h))) in
    let task : is_task_sort (reference_of born u).sort ≡ true
    = ap (λ (z : Reference). is_task_sort z.sort) y ∙ ap is_task_sort b.2 in
    ap (λ (q : Bool). way_if (q && before (reference_of born t).name (reference_of born u).name)) task
    ∙ ap way_if (sym named ∙ same)

-- a task of a tree that was seen is as deep there as its name is long
depth_is : (seen : List SeenWord) (born : List Reference) → (tree : SeesTree seen born) → (t : ℕ) → IsTaskIn born t
    → (node_of tree.forks t).depth ≡ depth_in born t
depth_is seen born tree t a =
    let s = tree.tasks t a.0 a.1 a.2 in
    depth-of tree.forks tree.history t s.0
    ∙ ap (λ (q : Name). length q)
    (s.1 ∙ ap (λ (z : Reference). z.name) (sym (at_index born t (to_task []) a.0 a.1)))

-- so the cost by the depths there is that by the names
pub few_steps : (seen : List SeenWord) (born : List Reference) → SeesTree seen born → (t u old new : ℕ)
    → IsTaskIn born t → IsTaskIn born u
    → ((forks : Forks) → IsHistory forks → HasNodes forks (ShowsNode seen) → (digits : ℕ)
    → max (node_of forks t).depth (node_of forks u).depth + 1 < 2 ^ digits → new ≤ old + (16 * digits + 16))
    → IsWithinCost born t u old new
few_steps seen born tree t u old new a b cost digits h =
    let x = depth_is seen born tree t a in
    let y = depth_is seen born tree u b in
    cost tree.forks tree.history tree.nodes digits (omega (arith, x, y, h))

-- what was told of each tree that shows what a seat has seen since it knew both tasks
module _ {B : Type 0} {cells : ℕ} (old new : SeatShown (Option (Rec B)) (View B)) (later : IsLater cells old new) (t u : ℕ)
    (t_known : KnowsTask t old.me.0) (u_known : KnowsTask u old.me.0)
    (tree : SeesTree new.me.0.seen new.me.0.born) where
  t_task : IsTaskIn new.me.0.born t
  t_task = task_later old.me.0 new.me.0 later.1 t t_known.1

  u_task : IsTaskIn new.me.0.born u
  u_task = task_later old.me.0 new.me.0 later.1 u u_known.1

  pub way_told : OrderIsThatOfNames → (answer is : Bool)
      → InEachTree (TreeShown new) (λ forks. IsTrue answer ↔ IsEarlier (order_of forks) t u) → answer ≡ is
      → (born : List Reference) → new.me.0.born ≡ born
      → way_if is ≡ way_by born t u
  way_told names answer is tells e born same =
      sym (ap (λ (l : List Reference). way_by l t u) (sym same)
      ∙ (seen_way names new.me.0.seen new.me.0.born tree t u t_task u_task answer
      (λ forks h has. tells forks h (λ n node k. has n node k.1)) ∙ ap way_if e))

  pub cost_told : (from to : ℕ)
      → InEachTree (TreeShown new) (λ forks. TakesFewSteps forks t u from to)
      → (born : List Reference) (steps : ℕ) → new.me.0.born ≡ born → to ≡ steps
      → IsWithinCost born t u from steps
  cost_told from to tells born steps same same_steps =
      subst (λ n. IsWithinCost born t u from n) same_steps
      (subst (λ (l : List Reference). IsWithinCost l t u from to) same
      (few_steps new.me.0.seen new.me.0.born tree t u from to t_task u_task
      (λ forks h has. tells forks h (λ n node k. has n node k.1))))
