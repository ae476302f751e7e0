-- A task whose declaration has no `new` makes no promise.
use Rattle.std.proofs.Common.{◌≡◌, ℕ, zero, suc, Bool, true, false, List, [], ◌∷◌, ◌++◌, Option, Some, cond}
use Rattle.std.proofs.Common.{refl, sym, ap, ◌∙◌, subst, inl, inr, append-nil}
use Rattle.std.specs.Prelude.{filter, slice_get}
use Rattle.tj_base.specs.declared.cell.Sort.{Sort}
use Rattle.tj_base.specs.declared.cell.Sort.TheVariants as sort
use Rattle.tj_body.specs.Asks.{IsFresh}
use Rattle.tj_body.specs.History.{Assignment, history}
use Rattle.tj_body.specs.Points.{HasStopped, IsIn, IsProper}
use Rattle.tj_body.specs.declared.point.Point.{Point}
use Rattle.tj_body.specs.declared.point.Task.{Task}
use Rattle.tj_body.specs.Programs.{Program}
use Rattle.tj_body.proofs.Histories.Points.{stopped}
use Rattle.tj_syntax.specs.Parts.{own_ask}
use Rattle.tj_syntax.specs.Trees as tree
use Rattle.tj_syntax.specs.Trees.{Ask, Statement}
use Rattle.tj_syntax.specs.Within.{within}
use Rattle.tj_eval.specs.Stands.{PlacedState, StandsRight, placed_awaits, placed_left, placed_places}
use Rattle.tj_trace.specs.Inner.LogLaws.{logged_obeys}
use Rattle.tj_trace.specs.Inner.Quiet.{AreQuiet, are_quiet, is_other, quiet_of}
use Rattle.tj_trace.specs.Inner.RoundMakers.{IsTaken, is_of}
use Rattle.tj_trace.specs.Logs.{Logged, logged, logged_program}
use Rattle.tj_trace.specs.NoteLaws.{is_sort}
use Rattle.tj_trace.specs.RightLines.{Makes}
use Rattle.tj_trace.specs.declared.found.Found.{Found}
use Rattle.tj_trace.specs.declared.line.Maker.{Maker}
use Rattle.tj_trace.proofs.LinesRight.{task_new}
use Rattle.tj_trace.proofs.LoggedRules.{rules}
use Rattle.tj_trace.proofs.MostFound.{round_proper}
use Rattle.tj_trace.proofs.Noted.{notes_at}
use Rattle.tj_trace.proofs.QuietLists.{both_first, both_second}
use Rattle.tj_trace.proofs.RightPoints.{IsNew, IsRightNote, right_history}
use Rattle.tj_trace.proofs.Told.{logged_fresh}

-- what holds of each note of a task that has stopped holds of each of its body
there : (V : Assignment) (p : Point Logged) → HasStopped V p → (X : Maker → Type 0)
    → ((m : Maker) → IsIn m (notes_at p.stage p.body) → X m) → (m : Maker) → IsIn m p.body.makers → X m
there V p (inl e) X h = subst (λ s. (m : Maker) → IsIn m (notes_at s p.body) → X m) e.1 h
there V p (inr w) X h = subst (λ s. (m : Maker) → IsIn m (notes_at s p.body) → X m) w.2 h

-- where no note is of a promise, none is left
none_left : (ms : List Maker) → ((m : Maker) → IsIn m ms → is_of sort.Promise m ≡ false)
    → filter (is_of sort.Promise) ms ≡ []
none_left [] h = refl
none_left (m ∷ ms) h = by (is_of sort.Promise m) (h m (inl refl)) (none_left ms (λ x i. h x (inr i))) where
  by : (b : Bool) → b ≡ false → filter (is_of sort.Promise) ms ≡ []
      → cond b (m ∷ filter (is_of sort.Promise) ms) (filter (is_of sort.Promise) ms) ≡ []
  by true e k = absurd (cc)
  by false e k = k

-- each statement of a quiet declaration has another ask
other_there : (all : List Statement) → are_quiet all ≡ true → (n : ℕ) (s : Statement) → slice_get all n ≡ Some s
    → is_other (own_ask s) ≡ true
other_there [] h n s e = absurd (cc)
other_there (x ∷ xs) h zero s e =
    let g : x ≡ s = cc in
    subst (λ y. is_other (own_ask y) ≡ true) g (both_first (is_other (own_ask x)) (are_quiet xs) h)
other_there (x ∷ xs) h (suc n) s e = other_there xs (both_second (is_other (own_ask x)) (are_quiet xs) h) n s e

-- what such a statement makes isn't a promise
makes_other : (s : Sort) (q : Option Ask) → is_other q ≡ true → Makes s q → is_sort sort.Promise s ≡ false
makes_other sort.Promise q h e = let f : is_other q ≡ false = ap is_other e in absurd (cc)
makes_other sort.Task q h e = refl

module _ (strict : Bool) (V : Assignment) (script : List tree.Task) (t : Task Logged) (n : IsNew script t) where
  -- a task of a quiet declaration makes no promise
  pub makes_none : IsProper (rules strict) t → are_quiet (within n.right.task.body) ≡ true
      → filter (is_of sort.Promise) (history (rules strict) V t).body.makers ≡ []
  makes_none proper quiet =
      let p = history (rules strict) V t in
      let d = t.body.placed.stand.decl in
      let all = within n.right.task.body in
      none_left p.body.makers (λ m i.
      let r = there V p (stopped (rules strict) logged_obeys V t proper) (IsRightNote script d all)
      (right_history script strict V t n).notes.right m i in
      makes_other m.sort (own_ask r.1.0) (other_there all quiet m.at r.1.0 r.1.1) r.1.2)

-- the declaration has what is told of it
told_of : (script : List tree.Task) (d : ℕ) (task : tree.Task) → slice_get script d ≡ Some task
    → slice_get (quiet_of script) d ≡ Some true → are_quiet (within task.body) ≡ true
told_of [] d task e h = absurd (cc)
told_of (x ∷ xs) zero task e h =
    let g : x ≡ task = cc in
    let f : are_quiet (within x.body) ≡ true = cc in
    subst (λ (y : tree.Task). are_quiet (within y.body) ≡ true) g f
told_of (x ∷ xs) (suc d) task e h = told_of xs d task e h

-- tasks of a program whose root stands right make no promise where their declarations are quiet
pub rounds_quiet : (strict : Bool) (root : PlacedState)
    → IsFresh placed_places placed_awaits placed_left 1 root → StandsRight root
    → AreQuiet (logged_program strict root) (quiet_of root.task.script)
rounds_quiet strict root fresh right V zero t i q = absurd i
rounds_quiet strict root fresh right V (suc n) t i q =
    let new = task_new strict root 1 right (suc n) t i in
    makes_none strict V root.task.script t new (round_proper strict (logged root) (logged_fresh root fresh) refl n t i)
    (told_of root.task.script t.body.placed.stand.decl new.right.task
    (ap (λ s. slice_get s t.body.placed.stand.decl) (sym new.same) ∙ new.right.is_declared) q)

-- where nothing is told no task is quiet
pub none_quiet : (program : Program Logged) → AreQuiet program []
none_quiet program V n t i e = absurd (cc)

-- a quiet task, of which no fork is followed, is taken as soon as it is seen
pub leaps : (p : Point Logged) (d : ℕ) (ws : List (Found Logged)) (ms : List Maker)
    → filter (is_of sort.Promise) p.body.makers ≡ [] → d ≡ 0 → IsTaken p d ws ws ms ms
leaps p d ws ms e f = subst (λ n. IsTaken p n ws ws ms ms) (sym f) (record {
  made = sym (append-nil ms) ∙ ap (λ l. ms ++ l) (sym e);
  still = λ below. refl;
  from = λ w i. inl i;
})
