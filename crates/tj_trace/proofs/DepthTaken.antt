-- Tasks of a depth that are taken one by one.
use Rattle.std.proofs.Common.{◌≡◌, ℕ, suc, ◌+◌, ◌-◌, ◌<◌, ◌≤◌, ◌⊎◌, inl, inr, List, [], ◌∷◌, ◌++◌, length}
use Rattle.std.proofs.Common.{None, refl, sym, ap, ◌∙◌, subst, arith, append-nil}
use Rattle.std.proofs.lemmas.List.{length-append}
use Rattle.std.specs.List.{flat_map}
use Rattle.tj_base.specs.ForkOrder.{Name}
use Rattle.tj_body.specs.History.{Assignment, history}
use Rattle.tj_body.specs.Points.{HasEnded, IsIn, IsProper}
use Rattle.tj_body.specs.Programs.{Rules}
use Rattle.tj_body.specs.declared.point.Task.{Task}
use Rattle.tj_body.specs.declared.point.Point.{Point}
use Rattle.tj_body.specs.declared.point.Entry.{Entry}
use Rattle.tj_body.proofs.Lists.{in_either}
use Rattle.tj_mean.specs.Inner.Assignments.{assignment_in}
use Rattle.tj_mean.specs.Inner.NameMaps.{value_at}
use Rattle.tj_mean.specs.declared.name_map.NameMap.{NameMap}
use Rattle.tj_trace.specs.Inner.TaskDepths.{IsDepthTaken, below, made_of, nothing}
use Rattle.tj_trace.proofs.DepthLists.{flat_map_append, made_append}

-- a map without entries
pub empty_map : (map : NameMap Entry) → ((q : Name) → value_at map q ≡ None) → assignment_in map ≡ nothing
empty_map map none = λ i q. none q i

module _ {B : Type 0} (rules : Rules B) where
  -- at first none is taken
  pub none_taken : (ts : List (Task B)) → ts ≡ [] → (room : ℕ) (children : List (Task B)) → children ≡ []
      → IsDepthTaken rules ts room room children
  none_taken ts none room children e = subst (λ l. IsDepthTaken rules l room room children) (sym none) (record {
    ended = λ t i. absurd i;
    left_is = omega arith;
    children_are = λ l. e;
  })

  module _ (ts : List (Task B)) (room left : ℕ) (children : List (Task B))
      (h : IsDepthTaken rules ts room left children) (t : Task B) (p : Point B) (V : Assignment)
      (none : V ≡ nothing) (is : p ≡ history rules V t) (ended : HasEnded p)
      (promises : ℕ) (promises_are : promises ≡ length p.promises) (left' : ℕ) (left_is : left' ≡ left - 1 - promises)
    where
      is_so : p ≡ history rules nothing t
      is_so = is ∙ ap (λ W. history rules W t) none

      ended_all : (x : Task B) → IsIn x (ts ++ t ∷ []) → HasEnded (history rules nothing x)
      ended_all x i = by (in_either x ts (t ∷ []) i) where
        by : IsIn x ts ⊎ IsIn x (t ∷ []) → HasEnded (history rules nothing x)
        by (inl j) = h.ended x j
        by (inr (inl e)) = subst (λ y. HasEnded (history rules nothing y)) (sym e) (subst HasEnded is_so ended)
        by (inr (inr j)) = absurd j

      left_all : left' ≡ room - made_of rules (ts ++ t ∷ [])
      left_all =
          let a = made_append rules ts (t ∷ []) in
          let b = length-append (history rules nothing t).promises [] in
          let c = ap (λ (q : Point B). length q.promises) is_so in
          let d = h.left_is in
          omega arith

      -- one more is taken, and no more room is left
      pub fills_room : left' ≤ 0 → IsDepthTaken rules (ts ++ t ∷ []) room left' children
      fills_room none_left =
          record { ended = ended_all; left_is = left_all; children_are = λ l. absurd (omega arith) }

      -- one more is taken, and its children come last
      pub leaves_room : 0 < left' → (cs children' : List (Task B)) → cs ≡ p.children → children' ≡ children ++ cs
          → IsDepthTaken rules (ts ++ t ∷ []) room left' children'
      leaves_room some cs children' cs_are children_are = record {
        ended = ended_all;
        left_is = left_all;
        children_are = λ l. children_are
            ∙ ap (λ z. z ++ cs) (h.children_are (omega arith))
            ∙ ap (λ z. below rules ts ++ z)
            (cs_are ∙ ap (λ (q : Point B). q.children) is_so
            ∙ sym (append-nil (history rules nothing t).children))
            ∙ sym (flat_map_append (λ x. (history rules nothing x).children) ts (t ∷ []));
      }
