-- One statement made most.
use Rattle.std.proofs.Common.{◌≡◌, ℕ, zero, suc, ◌<◌, ◌≤◌, ◌⊎◌, List, [], ◌∷◌, ◌++◌, map, length, take, Some, inl, inr}
use Rattle.std.proofs.Common.{refl, sym, ap, ◌∙◌, subst, arith}
use native.Mathlib.Decide.{dec_le}
use mathlib.Core.Logic.{dite}
use Rattle.std.specs.List.{flat_map}
use Rattle.std.specs.Prelude.{slice_get}
use Rattle.tj_base.specs.ForkOrder.{Name}
use Rattle.tj_body.specs.History.{history}
use Rattle.tj_body.specs.Laws.{AreDistinct}
use Rattle.tj_body.specs.Points.{IsIn}
use Rattle.tj_body.specs.Programs.{Program}
use Rattle.tj_body.specs.Rounds.{cells, cells_by, given, tasks}
use Rattle.tj_body.specs.declared.point.Task.{Task}
use Rattle.tj_body.proofs.Lists.{in_flat_map, in_right}
use Rattle.tj_mean.specs.FirstFull.{IsFirstFull}
use Rattle.tj_trace.specs.Logs.{Logged}
use Rattle.tj_trace.specs.MadeCells.{AreMadeBy, IsMadeBy}
use Rattle.tj_trace.specs.MostMade.{IsMostMade}
use Rattle.tj_trace.specs.MostOf.{IsMostOf, IsNotAfter}
use Rattle.tj_trace.specs.declared.line.Maker.{Maker}
use Rattle.tj_trace.specs.declared.most.Most.{Most}

first_same : (k j : ℕ) (x y : Name) → k ∷ x ≡ j ∷ y → k ≡ j
first_same k j x y e = cc

rest_same : (k j : ℕ) (x y : Name) → k ∷ x ≡ j ∷ y → x ≡ y
rest_same k j x y e = cc

not_empty : (k : ℕ) (x : Name) → k ∷ x ≡ [] → ⊥
not_empty k x e = cc

some_same : (m k : Maker) → Some m ≡ Some k → m ≡ k
some_same m k e = cc

-- a name with one number more tells both
child_same : (x y : Name) (k j : ℕ) → x ++ k ∷ [] ≡ y ++ j ∷ [] → (x ≡ y) × (k ≡ j)
child_same [] [] k j e = (refl, first_same k j [] [] e)
child_same [] (b ∷ y) k j e = absurd (some_left y (sym (rest_same k b [] (y ++ j ∷ []) e))) where
  some_left : (z : Name) → z ++ j ∷ [] ≡ [] → ⊥
  some_left [] f = not_empty j [] f
  some_left (c ∷ z) f = not_empty c (z ++ j ∷ []) f
child_same (a ∷ x) [] k j e = absurd (some_left x (rest_same a j (x ++ k ∷ []) [] e)) where
  some_left : (z : Name) → z ++ k ∷ [] ≡ [] → ⊥
  some_left [] f = not_empty k [] f
  some_left (c ∷ z) f = not_empty c (z ++ k ∷ []) f
child_same (a ∷ x) (b ∷ y) k j e =
    let r = child_same x y k j (rest_same a b (x ++ k ∷ []) (y ++ j ∷ []) e) in
    let h = first_same a b (x ++ k ∷ []) (y ++ j ∷ []) e in
    (ap (λ z. z ∷ x) h ∙ ap (λ z. b ∷ z) r.0, r.1)

distinct_right : (xs ys : List Name) → AreDistinct (xs ++ ys) → AreDistinct ys
distinct_right [] ys d = d
distinct_right (x ∷ xs) ys d = distinct_right xs ys d.1

module _ (program : Program Logged) (n : ℕ) where
  abbrev cells_of : Task Logged → List Name
  cells_of t = cells_by program.rules (given program n) t

  -- tasks whose cells are apart are told by their names
  task_same : (ts : List (Task Logged)) → AreDistinct (flat_map cells_of ts) → (t u : Task Logged) → IsIn t ts
      → IsIn u ts → t.name ≡ u.name → t ≡ u
  task_same [] d t u i j e = absurd i
  task_same (x ∷ ts) d t u (inl i) (inl j) e = i ∙ sym j
  task_same (x ∷ ts) d t u (inl i) (inr j) e =
      absurd (d.0 (in_right x.name (history program.rules (given program n) x).promises (flat_map cells_of ts)
      (in_flat_map cells_of u x.name ts j (inl (sym (ap (λ (z : Task Logged). z.name) i) ∙ e)))))
  task_same (x ∷ ts) d t u (inr i) (inl j) e =
      absurd (d.0 (in_right x.name (history program.rules (given program n) x).promises (flat_map cells_of ts)
      (in_flat_map cells_of t x.name ts i (inl (sym (ap (λ (z : Task Logged). z.name) j) ∙ sym e)))))
  task_same (x ∷ ts) d t u (inr i) (inr j) e =
      task_same ts (distinct_right (cells_of x) (flat_map cells_of ts) d) t u i j e

  module _ (apart : AreDistinct (cells program (suc n))) where
    -- one statement made a cell
    one_maker : (q : Name) (m k : Maker) → IsMadeBy program n q m → IsMadeBy program n q k → m ≡ k
    one_maker q m k a b =
        let c = child_same a.task.name b.task.name (suc a.thing) (suc b.thing) (sym a.named ∙ b.named) in
        let t = task_same (tasks program (suc n)) apart a.task b.task a.of_round b.of_round c.0 in
        let e : a.thing ≡ b.thing = (let f = c.1 in omega arith) in
        some_same m k (sym a.noted
        ∙ ap (λ x. slice_get (history program.rules (given program n) x).body.makers a.thing) t
        ∙ ap (λ i. slice_get (history program.rules (given program n) b.task).body.makers i) e ∙ b.noted)

    -- and so it is of more
    same_makers : (qs : List Name) (ms ks : List Maker) → AreMadeBy program n qs ms → AreMadeBy program n qs ks
        → ms ≡ ks
    same_makers [] [] [] a b = refl
    same_makers [] [] (k ∷ ks) a b = absurd b
    same_makers [] (m ∷ ms) ks a b = absurd a
    same_makers (q ∷ qs) [] ks a b = absurd a
    same_makers (q ∷ qs) (m ∷ ms) [] a b = absurd b
    same_makers (q ∷ qs) (m ∷ ms) (k ∷ ks) a b =
        ap (λ x. x ∷ ms) (one_maker q m k a.0 b.0) ∙ ap (λ l. k ∷ l) (same_makers qs ms ks a.1 b.1)

-- they tell one statement, and how many cells it made
pub record AreOneMost (a b : Most) : Type 0 where
  pub count : a.count ≡ b.count
  pub decl : a.maker.decl ≡ b.maker.decl
  pub at : a.maker.at ≡ b.maker.at

same_places : (m k : Maker) → IsNotAfter m k → IsNotAfter k m → (m.decl ≡ k.decl) × (m.at ≡ k.at)
same_places m k (inl a) (inl b) = absurd (omega arith)
same_places m k (inl a) (inr b) = let e = b.0 in absurd (omega arith)
same_places m k (inr a) (inl b) = let e = a.0 in absurd (omega arith)
same_places m k (inr a) (inr b) = let x = a.1 in let y = b.1 in (a.0, omega arith)

most_same : (makers : List Maker) (a b : Most) → IsMostOf makers a → IsMostOf makers b → AreOneMost a b
most_same makers a b h g =
    let c : a.count ≡ b.count =
    (let x = g.none_more a.maker h.among in let y = h.none_more b.maker g.among in
    let p = h.count in let q = g.count in omega arith) in
    let s = same_places a.maker b.maker (h.first b.maker g.among (sym g.count ∙ sym c))
    (g.first a.maker h.among (sym h.count ∙ c)) in
    record { count = c; decl = s.0; at = s.1 }

-- one round is the first
one_first : (program : Program Logged) (N n m : ℕ) → IsFirstFull program N n → IsFirstFull program N m → n ≡ m
one_first program N n m a b = dite (dec_le (suc n) m)
    (λ l. let f = b.first n l in let g = a.full in absurd (omega arith))
    (λ l. dite (dec_le (suc m) n)
    (λ k. let f = a.first m k in let g = b.full in absurd (omega arith))
    (λ k. omega arith))

tail_same : (x y : Name) (xs ys : List Name) → x ∷ xs ≡ y ∷ ys → xs ≡ ys
tail_same x y xs ys e = cc

-- one statement is the one that made most
pub one_most : (program : Program Logged) (N : ℕ) → ((n : ℕ) → AreDistinct (cells program n)) → (a b : Most)
    → IsMostMade program N a → IsMostMade program N b → AreOneMost a b
one_most program N apart a b h g =
    let n : suc h.round ≡ suc g.round = one_first program N (suc h.round) (suc g.round) h.is_first g.is_first in
    let r : h.round ≡ g.round = omega (arith, n) in
    let o = tail_same [] [] h.others g.others
    (sym h.first_cells ∙ ap (λ k. take (suc N) (cells program k)) n ∙ g.first_cells) in
    let made = subst (λ k. AreMadeBy program k g.others h.makers) r
    (subst (λ l. AreMadeBy program h.round l h.makers) o h.are_made) in
    let s = same_makers program g.round (apart (suc g.round)) g.others h.makers g.makers made g.are_made in
    most_same g.makers a b (subst (λ l. IsMostOf l a) s h.is_most) g.is_most
