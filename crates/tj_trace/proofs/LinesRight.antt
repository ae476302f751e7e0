-- The lines of a trace tell statements of the declarations that their tasks run.
use Rattle.tj_trace.proofs.LoggedRules.{rules}
use Rattle.tj_trace.proofs.Prelude.{AreTraced, Assignment, Bool, Ending, IsIn, Logged, Maker, Name, Point, PointStage}
use Rattle.tj_trace.proofs.Prelude.{Some, Task, TraceLine, [], ap, child, history, inl, inr, line_of, logged}
use Rattle.tj_trace.proofs.Prelude.{logged_program}
use Rattle.tj_trace.proofs.Prelude.{names_of, root_task, slice_get, suc, sym, within, ℕ, ◌∙◌, ◌∷◌, ◌≡◌, ◌⊎◌}
use Rattle.std.proofs.Common.{zero, true, false, cond, List, refl, subst, ⊎_elim, ◌≤◌, arith}
use Rattle.std.specs.List.{AllByRecursion, find}
use Rattle.std.specs.List.Sorted.{IsStrictlySortedBy}
use Rattle.std.specs.Cmp.Lexicographic.{slice_cmp, texts_ties}
use Rattle.std.specs.Ordering.{nat_cmp, is_eq}
use Rattle.std.specs.declared.cmp.Ordering.TheVariants.{Less}
use Rattle.tj_base.proofs.ChildNames.{child_some, child_same}
use Rattle.tj_body.specs.Names.{same}
use Rattle.tj_body.specs.Rounds.{family, given, tasks, last_round}
use Rattle.tj_body.proofs.Counts.{same_self}
use Rattle.tj_body.proofs.Lists.{in_begins, in_map, to_map, in_flat_map, from_flat_map}
use Rattle.tj_body.proofs.Rounds.Families.{same_name}
use Rattle.tj_body.proofs.Rounds.Rises.{grown, within as rounds_within}
use Rattle.tj_eval.specs.Stands.{PlacedState, StandsRight}
use Rattle.tj_mean.specs.Outcomes.{Ascend, ending_of, shown_of}
use Rattle.tj_trace.specs.Lookups.{made_by}
use Rattle.tj_trace.specs.RightLines.{StandsWhere, IsMadeIn, IsRightLine, IsForkOf, IsSetIn}
use Rattle.tj_trace.specs.RightLines.{LinesAreRight, LinesAreForked}
use Rattle.tj_trace.specs.Traces.{set_of}
use Rattle.tj_trace.specs.declared.line.SetNote.{SetNote}
use Rattle.tj_trace.specs.declared.logged.PlaceSet.{PlaceSet}
use Rattle.tj_trace.proofs.Noted.{notes_at}
use Rattle.tj_trace.proofs.HasLines.{not_none, some_is, line_is, notes_of_ended, HasLine, of_line, to_line, line_name}
use Rattle.tj_trace.proofs.HasLines.{line_makers, line_stand}
use Rattle.tj_trace.proofs.LineParts.{sets_of_ended}
use Rattle.tj_trace.proofs.RightPoints.{IsNew, IsRightStage, IsRightPoint, right_history}
use Rattle.tj_trace.proofs.RightSets.{AreSets, right_sets}
use Rattle.tj_trace.proofs.SetsThere.{sets_of_point}
use Rattle.tj_base.specs.declared.cell.Sort.TheVariants as sort
use Rattle.tj_body.specs.declared.point.Close.TheVariants as close
use Rattle.tj_body.specs.declared.point.PointStage.TheVariants as stage
use Rattle.tj_syntax.specs.Trees as tree
use Rattle.tj_mean.specs.declared.outcome.Ending.TheVariants as ending

module _ (script : List tree.Task) (d : ℕ) (task : tree.Task) (declared : slice_get script d ≡ Some task) where
  -- where a task that has stopped stands
  stands_where : (z : PointStage) (e : Ending) (x : PlacedState) → x.stand.decl ≡ d → ending_of z ≡ Some e
      → IsRightStage script d (within task.body) z x → StandsWhere script x.stand.decl x.stand.at e
  stands_where (stage.Answered a) e x n h k = absurd (not_none e h)
  stands_where (stage.Waits q spare) e x n h k =
      subst (StandsWhere script x.stand.decl x.stand.at) (some_is (ending.Waits q) e h) (
        k.0,
        record { task = task; is_declared = ap (slice_get script) n ∙ declared; is_there = k.1 },
        k.2,
      )
  stands_where (stage.Closed (close.Failed c)) e x n h k =
      subst (StandsWhere script x.stand.decl x.stand.at) (some_is (ending.Failed c) e h) (
        k.0,
        record { task = task; is_declared = ap (slice_get script) n ∙ declared; is_there = k.1 },
        k.2,
      )
  stands_where (stage.Closed (close.Done v)) e x n h (inl k) =
      subst (StandsWhere script x.stand.decl x.stand.at) (some_is (ending.Done (shown_of v)) e h) (inl (
        k.0,
        record { task = task; is_declared = ap (slice_get script) n ∙ declared; is_there = k.1 },
        k.2,
      ))
  stands_where (stage.Closed (close.Done v)) e x n h (inr k) =
      subst (StandsWhere script x.stand.decl x.stand.at) (some_is (ending.Done (shown_of v)) e h) (inr (
        record { task = task; is_declared = ap (slice_get script) n ∙ declared; is_last = k.0 },
        ap shown_of k.1,
      ))

  -- the line of a point that is right
  right_line : (p : Point Logged) (l : TraceLine) → IsRightPoint script d (within task.body) p
      → AreSets (within task.body) (sets_of_point p) → line_of p ≡ Some l → IsRightLine script l
  right_line p l r s e =
      let k = line_is p l e in
      subst (IsRightLine script) k.2 (record {
        stands = stands_where p.stage k.0 p.body.placed r.run.decl k.1 r.stage;
        makers = λ m i. one m (subst (IsIn m) (sym (notes_of_ended p.stage k.0 p.body k.1)) i);
        sets = λ n i. let f = in_map (set_of p.name p.references) n p.body.sets i in
            set n f.0 f.2 (subst (IsIn f.0) (sets_of_ended p.stage k.0 p.body k.1) f.1);
      }) where
        one : (m : Maker) → IsIn m (notes_at p.stage p.body) → IsMadeIn script p.body.placed.stand.decl m
        one m i = let n = r.notes.right m i in record {
          own = n.0 ∙ sym r.run.decl;
          statement = n.1.0;
          is_at = record {
            task = task;
            is_declared = ap (slice_get script) n.0 ∙ declared;
            is_there = n.1.1;
          };
          makes = n.1.2;
        }

        set : (n : SetNote) (m : PlaceSet) → n ≡ set_of p.name p.references m → IsIn m (sets_of_point p)
            → IsSetIn script p.body.placed.stand.decl n
        set n m same i = let k = s m i in record {
          statement = k.0;
          is_at = record {
            task = task;
            is_declared = ap (slice_get script) r.run.decl ∙ declared;
            is_there = ap (λ (z : SetNote). slice_get (within task.body) z.at) same ∙ k.1;
          };
          sets = k.2;
        }

module _ (strict : Bool) where
  module _ (script : List tree.Task) (V : Assignment) where
    -- the tasks that come from one that is new are new
    family_new : (n : ℕ) (t : Task Logged) → IsNew script t → (c : Task Logged) → IsIn c (family (rules strict) V n t)
        → IsNew script c
    family_new zero t h c (inl e) = subst (IsNew script) (sym e) h
    family_new zero t h c (inr i) = absurd i
    family_new (suc n) t h c (inl e) = subst (IsNew script) (sym e) h
    family_new (suc n) t h c (inr i) =
        let r = from_flat_map (family (rules strict) V n) c (history (rules strict) V t).children i in
        family_new n r.0 ((right_history script strict V t h).notes.forked r.0 r.1).is_new c r.2

  -- a task of a family is the first one, or another's child
  family_forks : (V : Assignment) (n : ℕ) (t c : Task Logged) → IsIn c (family (rules strict) V n t)
      → (c ≡ t) ⊎ ((m : Task Logged) × IsIn m (family (rules strict) V n t)
      × IsIn c (history (rules strict) V m).children)
  family_forks V zero t c (inl e) = inl e
  family_forks V zero t c (inr i) = absurd i
  family_forks V (suc n) t c (inl e) = inl e
  family_forks V (suc n) t c (inr i) =
      let kids = (history (rules strict) V t).children in
      let r = from_flat_map (family (rules strict) V n) c kids i in
      ⊎_elim (λ e. inr (t, inl refl, subst (λ z. IsIn z kids) (sym e) r.1))
      (λ k. inr (k.0, inr (in_flat_map (family (rules strict) V n) r.0 k.0 kids r.1 k.1), k.2))
      (family_forks V n r.0 c r.2)

-- the first line with a name is the one that is there
all_of : (P : Name → Type 0) (ns : List Name) (n : Name) → AllByRecursion P ns → IsIn n ns → P n
all_of P (x ∷ xs) n a (inl e) = subst P (sym e) a.0
all_of P (x ∷ xs) n a (inr i) = all_of P xs n a.1 i
all_of P [] n a i = absurd i

pub found : (x : Name) (lines : List TraceLine) → Ascend (names_of lines) → (l : TraceLine) → IsIn l lines
    → l.line.name ≡ x → find (λ (line : TraceLine). same line.line.name x) lines ≡ Some l
unfolding IsStrictlySortedBy
found x [] a l i e = absurd i
found x (y ∷ ys) a l (inl f) e =
    let n : y.line.name ≡ x = sym (ap (λ (z : TraceLine). z.line.name) f) ∙ e in
    let t : same y.line.name x ≡ true = ap (same y.line.name) (sym n) ∙ same_self y.line.name in
    ap (λ b. cond b (Some y) (find (λ (line : TraceLine). same line.line.name x) ys)) t ∙ ap (λ z. Some z) (sym f)
found x (y ∷ ys) a l (inr i) e = by (same y.line.name x) refl (found x ys a.1 l i e) where
  by : (b : Bool) → same y.line.name x ≡ b → find (λ (line : TraceLine). same line.line.name x) ys ≡ Some l
      → cond b (Some y) (find (λ (line : TraceLine). same line.line.name x) ys) ≡ Some l
  by true t r =
      let less : slice_cmp nat_cmp y.line.name l.line.name ≡ Less =
      all_of (λ z. slice_cmp nat_cmp y.line.name z ≡ Less) (names_of ys) l.line.name a.0
      (to_map (λ (z : TraceLine). z.line.name) l ys i) in
      let f : true ≡ false = sym t ∙ ap (same y.line.name) (sym e) ∙ texts_ties y.line.name l.line.name
      ∙ ap is_eq less in
      absurd (cc)
  by false t r = r

module _ (strict : Bool) (root : PlacedState) (N : ℕ) (right : StandsRight root) where
  abbrev V : Assignment
  V = given (logged_program strict root) (last_round N)

  abbrev all_tasks : List (Task Logged)
  all_tasks = tasks (logged_program strict root) (last_round N)

  abbrev first : Task Logged
  first = root_task (logged root)

  pub task_new : (n : ℕ) (t : Task Logged) → IsIn t (tasks (logged_program strict root) n) → IsNew root.task.script t
  task_new zero t i = absurd i
  task_new (suc n) t i = family_new strict root.task.script (given (logged_program strict root) n) (suc n) first
      (record { right = right; same = refl; fresh = refl; unset = refl }) t i

  task_forked : (n : ℕ) (t : Task Logged) → IsIn t (tasks (logged_program strict root) n)
      → (t ≡ first) ⊎ ((m : Task Logged) × IsIn m (tasks (logged_program strict root) n)
      × IsIn t (history (rules strict) (given (logged_program strict root) n) m).children)
  task_forked zero t i = absurd i
  task_forked (suc n) t i =
      let p = logged_program strict root in
      let earlier = given p n in
      let later = given p (suc n) in
      let m : n ≤ suc n = omega arith in
      ⊎_elim (λ e. inl e)
      (λ k. inr (
        k.0,
        k.1,
        in_begins t (history (rules strict) earlier k.0).children
            (history (rules strict) later k.0).children
            (grown (rules strict) earlier later (rounds_within p n (suc n) m) k.0).0 k.2,
      ))
      (family_forks strict earlier (suc n) first t i)

  module _ (lines : List TraceLine) (traced : AreTraced (logged_program strict root) N lines) where
    abbrev Line : Task Logged → TraceLine → Type 0
    Line = HasLine strict root N

    right_lines : (l : TraceLine) → IsIn l lines → IsRightLine root.task.script l
    right_lines l i =
        let k = of_line strict root N lines traced l i in
        let n = task_new (last_round N) k.0 k.1.there in
        right_line root.task.script k.0.body.placed.stand.decl n.right.task
        (ap (λ s. slice_get s k.0.body.placed.stand.decl) (sym n.same) ∙ n.right.is_declared)
        (history (rules strict) V k.0) l (right_history root.task.script strict V k.0 n)
        (right_sets root.task.script strict V k.0 n) k.1.is

    line_decl : (t : Task Logged) (l : TraceLine) → Line t l → l.decl ≡ t.body.placed.stand.decl
    line_decl t l h = (line_stand strict root N t l h).0
        ∙ (right_history root.task.script strict V t (task_new (last_round N) t h.there)).run.decl

    -- the maker of a task tells the fork of what it runs
    forked_line : (t m : Task Logged) (l : TraceLine) → Line t l → IsIn m all_tasks
        → IsIn t (history (rules strict) V m).children → (x : Name) (k : ℕ) → l.line.name ≡ child x k
        → IsForkOf root.task.script l.decl (made_by (find (λ line. same line.line.name x) lines) k)
    forked_line t m l h i j x k e =
        let n = task_new (last_round N) m i in
        let c = (right_history root.task.script strict V m n).notes.forked t j in
        let o = to_line strict root N lines traced m i in
        let name : l.line.name ≡ child o.0.line.name (suc c.number) =
        line_name strict root N t l h ∙ c.is_named
        ∙ ap (λ y. child y (suc c.number)) (same_name (rules strict) V m ∙ sym (line_name strict root N m o.0 o.2)) in
        let two = child_same x o.0.line.name k (suc c.number) (sym e ∙ name) in
        let maker : Maker = record { sort = sort.Task; decl = m.body.placed.stand.decl; at = c.at } in record {
          maker = maker;
          is_found = ap (λ z. made_by (find (λ line. same line.line.name x) lines) z) two.1
              ∙ ap (λ z. made_by z (suc c.number)) (found x lines traced.in_name_order o.0 o.1 (sym two.0))
              ∙ ap (λ z. slice_get z c.number) (line_makers strict root N m o.0 o.2) ∙ c.is_noted;
          is_task = refl;
          statement = c.statement;
          is_at = record {
            task = n.right.task;
            is_declared = ap (λ s. slice_get s m.body.placed.stand.decl) (sym n.same) ∙ n.right.is_declared;
            is_there = c.is_at;
          };
          list = c.list;
          forks = c.forks ∙ ap (λ f. Some (tree.fork f c.list)) (sym (line_decl t l h));
        }

    forked_lines : (l : TraceLine) → IsIn l lines → (l.line.name ≡ [] → l.decl ≡ root.stand.decl)
        × ((x : Name) (k : ℕ) → l.line.name ≡ child x k
        → IsForkOf root.task.script l.decl (made_by (find (λ line. same line.line.name x) lines) k))
    forked_lines l i = let k = of_line strict root N lines traced l i in
        by k.0 k.1 (task_forked (last_round N) k.0 k.1.there) where
          by : (t : Task Logged) → Line t l
              → (t ≡ first) ⊎ ((m : Task Logged) × IsIn m all_tasks × IsIn t (history (rules strict) V m).children)
              → (l.line.name ≡ [] → l.decl ≡ root.stand.decl)
              × ((x : Name) (k : ℕ) → l.line.name ≡ child x k
              → IsForkOf root.task.script l.decl (made_by (find (λ line. same line.line.name x) lines) k))
          by t h (inl e) = (
            λ n. line_decl t l h ∙ ap (λ (z : Task Logged). z.body.placed.stand.decl) e,
            λ x k f. absurd (child_some x k
                (sym f ∙ line_name strict root N t l h ∙ ap (λ (z : Task Logged). z.name) e)),
          )
          by t h (inr (m, i, j)) = (
            λ n. let r = right_history root.task.script strict V m (task_new (last_round N) m i) in
                let c = r.notes.forked t j in
                absurd (child_some (history (rules strict) V m).name (suc c.number)
                (sym c.is_named ∙ sym (line_name strict root N t l h) ∙ n)),
            forked_line t m l h i j,
          )

-- the laws
pub lines_are_right : (strict : Bool) (root : PlacedState) → LinesAreRight strict root
lines_are_right strict root N lines right traced l i = right_lines strict root N right lines traced l i

pub lines_are_forked : (strict : Bool) (root : PlacedState) → LinesAreForked strict root
lines_are_forked strict root N lines right traced l i = forked_lines strict root N right lines traced l i
