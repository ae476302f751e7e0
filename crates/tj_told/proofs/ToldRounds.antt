-- A cycle of the meaning's waits, by the links of its tasks, is one of the outcome's cycles from its least name on.
use Rattle.std.proofs.Common.{◌≡◌, suc, Bool, List, [], ◌∷◌, ◌++◌}
use Rattle.std.proofs.Common.{refl, sym, ap, ◌∙◌, subst, inl, inr, ◌⊎◌, arith}
use Rattle.std.proofs.Common.{◌+◌, map, length}
use Rattle.std.specs.Bool.{Decides}
use Rattle.std.specs.Prelude.{Contains}
use Rattle.tj_base.specs.Cycles as graph
use Rattle.tj_base.specs.ForkOrder.{Name}
use Rattle.tj_base.proofs.CycleLists.{along_cycle, cycles_return}
use Rattle.tj_base.proofs.CyclesOn.{cycle_list_moves}
use Rattle.tj_body.specs.Names.{same}
use Rattle.tj_body.specs.Points.{IsIn}
use Rattle.tj_body.specs.WaitGraph as meant
use Rattle.tj_body.specs.declared.point.Point.{Point}
use Rattle.tj_mean.specs.Outcomes.{AreTold, IsOutcome, Leads, Owns, Waits}
use Rattle.tj_mean.specs.declared.outcome.Link.{Link}
use Rattle.tj_mean.specs.declared.outcome.Outcome.{Outcome}
use Rattle.tj_mean.specs.declared.stopped.Stopped.{Stopped}
use Rattle.tj_mean.proofs.Lists.Elements.{all_of_in}
use Rattle.tj_mean.proofs.Outcomes.ToldOutcomes.{of_told, told_name, told_owned, told_wait}
use Rattle.tj_told.specs.ToldLinks.{IsFromLeast}

abbrev task_in : Link → Name
task_in l = l.task

nothing_after : {A : Type 0} (xs : List A) → xs ++ [] ≡ xs
nothing_after [] = refl
nothing_after (x ∷ xs) = ap (λ l. x ∷ l) (nothing_after xs)

length_both : {A : Type 0} (xs ys : List A) → length (xs ++ ys) ≡ length xs + length ys
length_both [] ys = omega arith
length_both (x ∷ xs) ys = let r = length_both xs ys in omega arith

map_both : {A C : Type 0} (f : A → C) (xs ys : List A) → map f (xs ++ ys) ≡ map f xs ++ map f ys
map_both f [] ys = refl
map_both f (x ∷ xs) ys = ap (λ l. f x ∷ l) (map_both f xs ys)

in_turned : {A : Type 0} (xs ys : List A) (x : A) → IsIn x (ys ++ xs) → IsIn x (xs ++ ys)
in_turned {A} xs ys x i = by (either ys i) where
  either : (zs : List A) → IsIn x (zs ++ xs) → IsIn x zs ⊎ IsIn x xs
  either [] j = inr j
  either (z ∷ zs) (inl e) = inl (inl e)
  either (z ∷ zs) (inr j) = on (either zs j) where
    on : IsIn x zs ⊎ IsIn x xs → IsIn x (z ∷ zs) ⊎ IsIn x xs
    on (inl k) = inl (inr k)
    on (inr k) = inr k

  left : (zs : List A) → IsIn x zs → IsIn x (zs ++ ys)
  left [] j = absurd j
  left (z ∷ zs) (inl e) = inl e
  left (z ∷ zs) (inr j) = inr (left zs j)

  right : (zs : List A) → IsIn x ys → IsIn x (zs ++ ys)
  right [] j = j
  right (z ∷ zs) j = inr (right zs j)

  by : IsIn x ys ⊎ IsIn x xs → IsIn x (xs ++ ys)
  by (inl j) = right xs j
  by (inr j) = left xs j

module _ {A : Type 0} (Leads : A → A → Type 0) where
  along_split : (a b : A) (xs bs : List A) (z : A) → graph.LeadsAlong Leads a (xs ++ b ∷ bs) z
      → graph.LeadsAlong Leads a xs b × graph.LeadsAlong Leads b bs z
  along_split a b [] bs z l = l
  along_split a b (x ∷ xs) bs z l = let r = along_split x b xs bs z l.1 in ((l.0, r.0), r.1)

  along_joined : (a b : A) (xs bs : List A) (z : A) → graph.LeadsAlong Leads a xs b → graph.LeadsAlong Leads b bs z
      → graph.LeadsAlong Leads a (xs ++ b ∷ bs) z
  along_joined a b [] bs z l m = (l, m)
  along_joined a b (x ∷ xs) bs z l m = (l.0, along_joined x b xs bs z l.1 m)

  contains_there : (b : A) (xs bs : List A) → Contains (xs ++ b ∷ bs) b
  contains_there b [] bs = (0, omega arith, refl)
  contains_there b (x ∷ xs) bs = let r = contains_there b xs bs in
      let l = r.1 in (suc r.0, omega arith, r.2)

  -- a cycle from another of its nodes on
  pub cycle_turned : graph.LeadsToOne Leads → (equal : A → A → Bool) → ((a b : A) → Decides (equal a b) (a ≡ b))
      → (xs ys : List A) → graph.IsCycle Leads equal (xs ++ ys) → graph.IsCycle Leads equal (ys ++ xs)
  cycle_turned one equal decides [] ys c = subst (graph.IsCycle Leads equal) (sym (nothing_after ys)) c
  cycle_turned one equal decides (a ∷ xs) [] c =
      subst (graph.IsCycle Leads equal) (nothing_after (a ∷ xs)) c
  cycle_turned one equal decides (a ∷ xs) (b ∷ bs) c =
      let l = along_split a b xs bs a c.1 in
      let on = cycles_return Leads one equal decides (a ∷ (xs ++ b ∷ bs)) b c (contains_there b (a ∷ xs) bs) in
      let p = length_both xs (b ∷ bs) in
      let q = length_both bs (a ∷ xs) in
      along_cycle Leads one equal decides b (bs ++ a ∷ xs) (along_joined b a bs xs b l.1 l.0)
      (λ k x y. on.least k x (omega arith))

module _ {B : Type 0} (ps : List (Point B)) (ss : List Stopped) (t : AreTold ps ss) where
  waits_told : (x q : Name) → meant.Waits ps x q → Waits ss x q
  waits_told x q (p, spare, i, n, w) =
      let s = of_told ps ss t p i in
      (s.0, s.1, told_name p s.0 s.2 ∙ n, told_wait p s.0 q spare w s.2)

  owns_told : (y q : Name) → meant.Owns ps y q → Owns ss y q
  owns_told y q (p, i, n, j) =
      let s = of_told ps ss t p i in
      (s.0, s.1, told_name p s.0 s.2 ∙ n, subst (IsIn q) (sym (told_owned p s.0 s.2)) j)

-- so links of a cycle of the meaning are told by its outcome, from the least name on
pub cycle_told : {B : Type 0} (ps : List (Point B)) → graph.LeadsToOne (meant.WaitsFor ps)
    → ((x y : Name) → Decides (same x y) (x ≡ y)) → (o : Outcome) → IsOutcome ps o
    → (links turned : List Link) → graph.IsCycle (meant.WaitsFor ps) same (map (λ (l : Link). l.task) links)
    → ((l : Link) → IsIn l links → meant.Waits ps l.task l.cell) → IsFromLeast links turned → IsIn turned o.cycles
cycle_told {B} ps one decides o (ss, t, k) links turned c w f =
    let names : graph.IsCycle (meant.WaitsFor ps) same (map task_in f.before ++ map task_in f.after) =
    subst (graph.IsCycle (meant.WaitsFor ps) same) (ap (map task_in) f.all ∙ map_both task_in f.before f.after) c in
    let around = cycle_turned (meant.WaitsFor ps) one same decides (map task_in f.before) (map task_in f.after) names in
    let is : map task_in f.after ++ map task_in f.before ≡ map task_in turned =
    sym (map_both task_in f.after f.before) ∙ sym (ap (map task_in) f.is) in
    let tasks = subst (graph.IsCycle (meant.WaitsFor ps) same) is around in
    (k.cycles.0 turned).1 (record {
      tasks = cycle_list_moves (meant.WaitsFor ps) (Leads ss)
          (λ x y z l m. (l.0, waits_told ps ss t x l.0 l.1, owns_told ps ss t y l.0 l.2)) same
          (map task_in turned) tasks;
      cells = all_of_in (λ (l : Link). Waits ss l.task l.cell) turned (λ l i.
          waits_told ps ss t l.task l.cell (w l (subst (IsIn l) (sym f.all)
          (in_turned f.before f.after l (subst (IsIn l) f.is i)))));
      least = f.least;
    })
