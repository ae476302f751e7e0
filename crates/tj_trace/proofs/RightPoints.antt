-- At each point of a task's history its notes, its children and the statement at which it stands are right.
use Rattle.tj_trace.proofs.LoggedRules.{rules}
use Rattle.tj_trace.proofs.Prelude.{Ask, Assignment, Bool, Cause, Entry, Err, IsIn, List, Logged, Maker, Name, None, Ok}
use Rattle.tj_trace.proofs.Prelude.{Point, PointStage, Reference, Sort, Task, Value, [], after_ask, after_get}
use Rattle.tj_trace.proofs.Prelude.{after_join, after_look, after_new, after_read, after_set, after_stage, after_write}
use Rattle.tj_trace.proofs.Prelude.{ap, ask_as, before, child, cond, hand_all, has, history, inl, inr, length-append}
use Rattle.tj_trace.proofs.Prelude.{logged, logged_left, logged_then}
use Rattle.tj_trace.proofs.Prelude.{made_by, maker_here, map, not, point_after, reference, refl, slice_get}
use Rattle.tj_trace.proofs.Prelude.{suc, sym, true, with_wait, within, zero, ℕ, ◌&&◌, ◌*◌, ◌++◌, ◌∙◌, ◌∷◌, ◌≡◌, ◌⊎◌}
use Rattle.std.proofs.Common.{pos, false, length, Option, Some, Result, subst, arith, ⊎_elim}
use Rattle.tj_base.specs.declared.cause.Trouble.{Trouble}
use Rattle.tj_base.specs.declared.value.Pay.{Pay}
use Rattle.tj_body.specs.Names.{without}
use Rattle.tj_body.specs.History.{after_try_fork, after_failure, after_end, cause_of, hand_one, next_child, value_at}
use Rattle.tj_syntax.specs.Parts.{own_ask}
use Rattle.tj_syntax.specs.Trees.{Argument, Statement}
use Rattle.tj_eval.specs.Bodies.{script_asks}
use Rattle.tj_eval.specs.Stands.{PlacedState, StandsRight, AreNamed, placed, placed_then, all_ahead}
use Rattle.tj_eval.specs.Statements.{TaskState, Due, start, place, cell, cell_or, done, over, answered}
use Rattle.tj_eval.proofs.Stands.{ChildOf, all_named}
use Rattle.tj_mean.proofs.Lists.Elements.{in_snoc}
use Rattle.tj_trace.specs.RightLines.{IsGet, IsJoin, IsWait, IsFork, IsSet, IsReturn, MayFail, Makes}
use Rattle.tj_trace.proofs.Asked.{IsAskOf, IsThere, MayTake, is_asked}
use Rattle.tj_trace.proofs.Noted.{notes_at}
use Rattle.tj_base.specs.declared.cell.Sort.TheVariants as sort
use Rattle.tj_base.specs.declared.cause.Cause.TheVariants as cause
use Rattle.tj_base.specs.declared.cause.Trouble.TheVariants as trouble
use Rattle.tj_base.specs.declared.value.Pay.TheVariants as pay
use Rattle.tj_body.specs.declared.ask.Answer.TheVariants as answer
use Rattle.tj_body.specs.declared.ask.Ask.TheVariants as ask
use Rattle.tj_body.specs.declared.point.Value.TheVariants as value
use Rattle.tj_body.specs.declared.point.Entry.TheVariants as entry
use Rattle.tj_body.specs.declared.point.Close.TheVariants as close
use Rattle.tj_body.specs.declared.point.PointStage.TheVariants as stage
use Rattle.tj_syntax.specs.Trees as tree

-- a task of the script that has noted nothing, and stands right
pub record IsNew (script : List tree.Task) (t : Task Logged) : Type 0 where
  pub right : StandsRight t.body.placed
  pub same : t.body.placed.task.script ≡ script
  pub fresh : t.body.makers ≡ []
  pub unset : t.body.sets ≡ []

-- the first answer fails no task
begins : (t : TaskState) (d : Due) (fault : Trouble) → answered t d answer.Start ≡ Err fault → ⊥
begins t start fault e = cc
begins t (place into) fault e = cc
begins t (cell into) fault e = cc
begins t (cell_or into x) fault e = cc
begins t done fault e = cc
begins t over fault e = cc

-- the ask isn't the end
abbrev IsNoEnd : Ask TaskState → Type 0
IsNoEnd ask.New = Unit {0}
IsNoEnd (ask.Fork b pass hand) = Unit {0}
IsNoEnd (ask.Set k v) = Unit {0}
IsNoEnd (ask.Get k) = Unit {0}
IsNoEnd (ask.Join k) = Unit {0}
IsNoEnd (ask.GetOr k) = Unit {0}
IsNoEnd (ask.JoinOr k) = Unit {0}
IsNoEnd (ask.Emit i) = Unit {0}
IsNoEnd (ask.End v) = ⊥
IsNoEnd (ask.Fail t) = Unit {0}

-- what a task ends with is one value
end_is : (v w : Pay) → ◌≡◌ {A = Ask TaskState} (ask.End v) (ask.End w) → v ≡ w
end_is v w e = cc

-- a fork that is refused hands what isn't owned, or what isn't a promise
abbrev IsRefusal : Result (List Name) Cause → Type 0
IsRefusal (Ok left) = Unit {0}
IsRefusal (Err cause.Arith) = ⊥
IsRefusal (Err cause.Kind) = Unit {0}
IsRefusal (Err cause.Steps) = ⊥
IsRefusal (Err (cause.Owner q)) = Unit {0}
IsRefusal (Err (cause.Broken q)) = ⊥
IsRefusal (Err (cause.Order q)) = ⊥

refused_one : (s : Sort) (b : Bool) (q : Name) (rest : Result (List Name) Cause) → IsRefusal rest
    → IsRefusal (hand_one s b q rest)
refused_one sort.Task b q rest h = tt
refused_one sort.Promise true q rest h = h
refused_one sort.Promise false q rest h = tt

refused : (holds : List Name) (rs : List Reference) → IsRefusal (hand_all holds rs)
refused holds [] = tt
refused holds (r ∷ rs) = refused_one r.sort (has r.name holds) r.name (hand_all (without r.name holds) rs)
    (refused (without r.name holds) rs)

get_front : {A : Type 0} (xs ys : List A) (k : ℕ) (x : A) → slice_get xs k ≡ Some x → slice_get (xs ++ ys) k ≡ Some x
get_front [] ys k x e = absurd (cc)
get_front (z ∷ xs) ys zero x e = e
get_front (z ∷ xs) ys (suc k) x e = get_front xs ys k x e

get_last : {A : Type 0} (xs : List A) (x : A) → slice_get (xs ++ x ∷ []) (length xs) ≡ Some x
get_last [] x = refl
get_last (y ∷ xs) x = get_last xs x

module _ (script : List tree.Task) (d : ℕ) (all : List Statement) where
  -- a statement of the declaration has this number
  abbrev pub IsOne : ℕ → Statement → Type 0
  IsOne n s = slice_get all n ≡ Some s

  -- the note tells a statement of the declaration that makes such a thing
  abbrev pub IsRightNote : Maker → Type 0
  IsRightNote m = (m.decl ≡ d) × ((s : Statement) × IsOne m.at s × Makes m.sort (own_ask s))

  -- the child with this name runs what the statement forks that its note tells
  pub record IsRightChild (x : Name) (notes : List Maker) (c : Task Logged) : Type 0 where
    pub number : ℕ
    pub at : ℕ
    pub is_named : c.name ≡ child x (suc number)
    pub is_noted : slice_get notes number ≡ Some (record { sort = sort.Task; decl = d; at = at })
    pub statement : Statement
    pub is_at : IsOne at statement
    pub list : List Argument
    pub forks : own_ask statement ≡ Some (tree.fork c.body.placed.stand.decl list)
    pub is_new : IsNew script c

  -- the notes of a task that has made so many things
  pub record AreRight (x : Name) (notes : List Maker) (made : ℕ) (children : List (Task Logged)) : Type 0 where
    pub each : length notes ≡ made
    pub right : (m : Maker) → IsIn m notes → IsRightNote m
    pub forked : (c : Task Logged) → IsIn c children → IsRightChild x notes c

  -- the statement at which a task stands fits its stage
  abbrev pub IsRightStage : PointStage → PlacedState → Type 0
  IsRightStage (stage.Answered a) x = MayTake all x a
  IsRightStage (stage.Waits q spare) x = (s : Statement) × IsOne x.stand.at s × IsWait (own_ask s)
  IsRightStage (stage.Closed (close.Done v)) x =
      ((s : Statement) × IsOne x.stand.at s × IsReturn s) ⊎ ((x.stand.at ≡ length all) × (v ≡ value.Num (pos 0)))
  IsRightStage (stage.Closed (close.Failed c)) x = (s : Statement) × IsOne x.stand.at s × MayFail c s

  -- the task runs the declaration
  pub record IsRun (x : PlacedState) : Type 0 where
    pub named : AreNamed all x.stand.ahead x.task.rest
    pub same : x.task.script ≡ script
    pub decl : x.stand.decl ≡ d

  -- a point of a task that runs the declaration
  pub record IsRightPoint (p : Point Logged) : Type 0 where
    pub run : IsRun p.body.placed
    pub stage : IsRightStage p.stage p.body.placed
    pub notes : AreRight p.name (notes_at p.stage p.body) p.made p.children

  -- the same of one that has taken its answer, and asks this
  record IsAsking (q : Ask TaskState) (p : Point Logged) : Type 0 where
    run : IsRun p.body.placed
    there : IsThere all p.body.placed.stand q
    child : ChildOf script q p.body.placed.stand.called
    notes : AreRight p.name p.body.makers p.made p.children

  -- a thing more is noted and made
  further_note : (x : Name) (notes : List Maker) (made : ℕ) (children : List (Task Logged)) (m : Maker)
      → AreRight x notes made children → IsRightNote m → AreRight x (notes ++ m ∷ []) (suc made) children
  further_note x notes made children m h r = record {
    each = length-append notes (m ∷ []) ∙ (let k = h.each in omega (arith, k));
    right = λ y i. ⊎_elim (λ j. h.right y j) (λ e. subst IsRightNote (sym e) r) (in_snoc notes y m i);
    forked = λ c i. let k = h.forked c i in record {
      number = k.number;
      at = k.at;
      is_named = k.is_named;
      is_noted = get_front notes (m ∷ []) k.number (record { sort = sort.Task; decl = d; at = k.at }) k.is_noted;
      statement = k.statement;
      is_at = k.is_at;
      list = k.list;
      forks = k.forks;
      is_new = k.is_new;
    };
  }

  -- a child more, which is told by the last note
  further_child : (x : Name) (notes : List Maker) (made at : ℕ) (children : List (Task Logged)) (c : Task Logged)
      (s : Statement) (list : List Argument) → c.name ≡ child x (suc made) → length notes ≡ made → IsOne at s
      → own_ask s ≡ Some (tree.fork c.body.placed.stand.decl list) → IsNew script c
      → let m : Maker = record { sort = sort.Task; decl = d; at = at } in
      AreRight x (notes ++ m ∷ []) (suc made) children → AreRight x (notes ++ m ∷ []) (suc made) (children ++ c ∷ [])
  further_child x notes made at children c s list n l e f new h = record {
    each = h.each;
    right = h.right;
    forked = λ y i. ⊎_elim (λ j. h.forked y j) (λ g. subst (IsRightChild x (notes ++ m ∷ [])) (sym g) one)
        (in_snoc children y c i);
  } where
    m : Maker
    m = record { sort = sort.Task; decl = d; at = at }

    one : IsRightChild x (notes ++ record { sort = sort.Task; decl = d; at = at } ∷ []) c
    one = record {
      number = made;
      at = at;
      is_named = n;
      is_noted = subst (λ k. slice_get (notes ++ record { sort = sort.Task; decl = d; at = at } ∷ []) k
          ≡ Some (record { sort = sort.Task; decl = d; at = at })) l (get_last notes _);
      statement = s;
      is_at = e;
      list = list;
      forks = f;
      is_new = new;
    }

  -- the task fails
  failed : (c : Cause) (q : Ask TaskState) (p : Point Logged) → IsAsking q p
      → ((s : Statement) × IsOne p.body.placed.stand.at s × MayFail c s) → IsRightPoint (after_failure c p)
  failed c q p h s = record { run = h.run; stage = s; notes = h.notes }

  -- the task asks this, which isn't the end, so it stands at a statement
  at_statement : (q : Ask TaskState) (p : Point Logged) → IsNoEnd q → IsAsking q p
      → (s : Statement) × IsOne p.body.placed.stand.at s × IsAskOf s p.body.placed.stand.called q
  at_statement q p n h = ⊎_elim (λ s. s) (λ f. absurd (subst IsNoEnd f.1 n)) h.there

  -- a promise more
  made_promise : (p : Point Logged) → p.body.due ≡ Some sort.Promise → IsAsking ask.New p → IsRightPoint (after_new p)
  made_promise p e h =
      let z = p.body.placed.stand in
      let s = at_statement ask.New p tt h in record {
        run = h.run;
        stage = λ fault g. (s.0, s.1);
        notes = subst (λ o. AreRight p.name (p.body.makers ++ maker_here o z) (suc p.made) p.children) (sym e)
            (further_note p.name p.body.makers p.made p.children
            (record { sort = sort.Promise; decl = z.decl; at = z.at }) h.notes (h.run.decl, (s.0, s.1, s.2)));
      }

  -- what is forked is a task of the script at its beginning
  is_new_child : (f : ℕ) (b : TaskState) (pass hand : List ℕ) (x : Name) (passed : List Reference)
      (handed : List Name) → ChildOf script (ask.Fork b pass hand) f
      → IsNew script (record { name = x; body = logged (placed f b); passed = passed; handed = handed })
  is_new_child f b pass hand x passed handed h =
      let found = ap (λ s. slice_get s f) h.2 ∙ h.1 in record {
        right = record {
          task = h.0;
          is_declared = found;
          named = subst (λ o. AreNamed (within h.0.body) (all_ahead o) b.rest) (sym found)
              (subst (AreNamed (within h.0.body) (all_ahead (Some h.0))) (sym h.3) (all_named h.0.body));
        };
        same = h.2;
        fresh = refl;
        unset = refl;
      }

  -- a task more, unless the fork is refused
  made_task : (b : TaskState) (pass hand : List ℕ) (passed : List Reference) (handed : List Name)
      (o : Result (List Name) Cause) (p : Point Logged) → p.body.due ≡ Some sort.Task → IsRefusal o
      → IsAsking (ask.Fork b pass hand) p
      → IsRightPoint (after_try_fork (logged (placed p.body.placed.stand.called b)) passed handed o p)
  made_task b pass hand passed handed (Err c) p e r h =
      let s = at_statement (ask.Fork b pass hand) p tt h in
      failed c (ask.Fork b pass hand) p h (s.0, s.1, by s.0 c r (p.body.placed.stand.called, s.2.0, s.2.1)) where
        by : (s : Statement) (c : Cause) → IsRefusal (Err c) → IsFork (own_ask s) → MayFail c s
        by s cause.Kind r f = tt
        by s (cause.Owner q) r f = inr f
        by s c r f = absurd r
  made_task b pass hand passed handed (Ok left) p e r h =
      let z = p.body.placed.stand in
      let s = at_statement (ask.Fork b pass hand) p tt h in
      let f : IsFork (own_ask s.0) = (z.called, s.2.0, s.2.1) in
      let t : Task Logged = next_child (logged (placed z.called b)) passed handed p in
      let one = further_note p.name p.body.makers p.made p.children
      (record { sort = sort.Task; decl = d; at = z.at }) h.notes (refl, (s.0, s.1, f)) in
      let all_notes = further_child p.name p.body.makers p.made z.at p.children t s.0 s.2.0 refl h.notes.each s.1 s.2.1
      (is_new_child z.called b pass hand t.name passed handed h.child) one in record {
        run = h.run;
        stage = λ fault g. (s.0, s.1);
        notes = subst (λ o. AreRight p.name (p.body.makers ++ maker_here o z) (suc p.made) (p.children ++ t ∷ []))
            (sym e)
            (subst (λ k. AreRight p.name (p.body.makers ++ record { sort = sort.Task; decl = k; at = z.at } ∷ [])
            (suc p.made) (p.children ++ t ∷ [])) (sym h.run.decl) all_notes);
      }

  -- a promise is set
  was_set : (s : Sort) (x : Name) (v : Value) (q : Ask TaskState) (p : Point Logged) → IsAsking q p
      → ((c : Statement) × IsOne p.body.placed.stand.at c × IsSet c) → IsRightPoint (after_set s x v p)
  was_set sort.Task x v q p h s = failed cause.Kind q p h (s.0, s.1, tt)
  was_set sort.Promise x v q p h s = by (has x p.holds) where
    by : (b : Bool) → IsRightPoint (cond b (after_write x v p) (after_failure (cause.Owner x) p))
    by true = record { run = h.run; stage = λ fault g. (s.0, s.1); notes = h.notes }
    by false = failed (cause.Owner x) q p h (s.0, s.1, inl s.2)

  -- a `get` waits
  was_got : (spare : Bool) (s : Sort) (x : Name) (q : Ask TaskState) (p : Point Logged) → IsAsking q p
      → ((c : Statement) × IsOne p.body.placed.stand.at c × IsGet (own_ask c)) → IsRightPoint (after_get spare s x p)
  was_got spare sort.Task x q p h s = failed cause.Kind q p h (s.0, s.1, tt)
  was_got spare sort.Promise x q p h s = record { run = h.run; stage = (s.0, s.1, inl s.2); notes = h.notes }

  -- a `join` waits
  was_joined : (strict spare : Bool) (s : Sort) (x : Name) (q : Ask TaskState) (p : Point Logged) → IsAsking q p
      → ((c : Statement) × IsOne p.body.placed.stand.at c × IsJoin (own_ask c))
      → IsRightPoint (after_join strict spare s x p)
  was_joined strict spare sort.Promise x q p h s = failed cause.Kind q p h (s.0, s.1, tt)
  was_joined strict spare sort.Task x q p h s = by (strict && not (before p.name x)) where
    by : (b : Bool) → IsRightPoint (cond b (after_failure (cause.Order x) p) (with_wait spare x p))
    by true = failed (cause.Order x) q p h (s.0, s.1, s.2)
    by false = record { run = h.run; stage = (s.0, s.1, inr s.2); notes = h.notes }

  -- a task ends with the value
  has_ended : (v : Pay) (p : Point Logged) → IsAsking (ask.End v) p
      → IsRightPoint (after_end (value_at p.name p.references v) p)
  has_ended v p h = record { run = h.run; stage = by h.there; notes = h.notes } where
    by : IsThere all p.body.placed.stand (ask.End v)
        → IsRightStage (stage.Closed (close.Done (value_at p.name p.references v))) p.body.placed
    by (inl s) = inl s
    by (inr f) = inr (f.0, ap (value_at p.name p.references) (end_is v (pay.Num (pos 0)) f.1))

  -- a task fails by itself
  has_failed : (t : Trouble) (p : Point Logged) → IsAsking (ask.Fail t) p → IsRightPoint (after_failure (cause_of t) p)
  has_failed t p h =
      let s = at_statement (ask.Fail t) p tt h in failed (cause_of t) (ask.Fail t) p h (s.0, s.1, by s.0 t) where
        by : (s : Statement) (t : Trouble) → MayFail (cause_of t) s
        by s trouble.Arith = tt
        by s t = tt

  -- each ask
  right_ask : (strict : Bool) (q : Ask TaskState) (p : Point Logged)
      → p.body.due ≡ made_by (ask_as (placed p.body.placed.stand.called) q) → IsAsking q p
      → IsRightPoint (after_ask strict (ask_as logged (ask_as (placed p.body.placed.stand.called) q)) p)
  right_ask strict ask.New p e h = made_promise p e h
  right_ask strict (ask.Fork b pass hand) p e h = made_task b pass hand _ _
      (hand_all p.holds (map (reference p) hand)) p e (refused p.holds (map (reference p) hand)) h
  right_ask strict (ask.Set k v) p e h = let r = reference p k in
      was_set r.sort r.name _ (ask.Set k v) p h (at_statement (ask.Set k v) p tt h)
  right_ask strict (ask.Get k) p e h = let r = reference p k in
      was_got false r.sort r.name (ask.Get k) p h (at_statement (ask.Get k) p tt h)
  right_ask strict (ask.Join k) p e h = let r = reference p k in
      was_joined strict false r.sort r.name (ask.Join k) p h (at_statement (ask.Join k) p tt h)
  right_ask strict (ask.GetOr k) p e h = let r = reference p k in
      was_got true r.sort r.name (ask.GetOr k) p h (at_statement (ask.GetOr k) p tt h)
  right_ask strict (ask.JoinOr k) p e h = let r = reference p k in
      was_joined strict true r.sort r.name (ask.JoinOr k) p h (at_statement (ask.JoinOr k) p tt h)
  right_ask strict (ask.Emit i) p e h = let s = at_statement (ask.Emit i) p tt h in
      record { run = h.run; stage = λ fault g. (s.0, s.1); notes = h.notes }
  right_ask strict (ask.End v) p e h = has_ended v p h
  right_ask strict (ask.Fail t) p e h = has_failed t p h

  -- what became of a cell is read
  right_look : (spare : Bool) (x : Name) (o : Option Entry) (p : Point Logged) → p.stage ≡ stage.Waits x spare
      → IsRightPoint p → IsRightPoint (after_look spare x o p)
  right_look spare x None p e h = h
  right_look spare x (Some y) p e h = by spare y where
    notes : AreRight p.name p.body.makers p.made p.children
    notes = subst (λ s. AreRight p.name (notes_at s p.body) p.made p.children) e h.notes

    at : IsRightStage (stage.Waits x spare) p.body.placed
    at = subst (λ s. IsRightStage s p.body.placed) e h.stage

    by : (b : Bool) (y : Entry) → IsRightPoint (after_read b x y p)
    by true entry.Broken = record { run = h.run; stage = λ fault g. (at.0, at.1); notes = notes }
    by false entry.Broken = record { run = h.run; stage = (at.0, at.1, at.2); notes = notes }
    by b (entry.Value (value.Num i)) = record { run = h.run; stage = λ fault g. (at.0, at.1); notes = notes }
    by b (entry.Value (value.Ref r)) = record { run = h.run; stage = λ fault g. (at.0, at.1); notes = notes }

  module _ (strict : Bool) where
    -- each step
    right_step : (V : Assignment) (s : PointStage) (p : Point Logged) → p.stage ≡ s → IsRightPoint p
        → IsRightPoint (after_stage (rules strict) V s p)
    right_step V (stage.Answered a) p e h =
        let x = p.body.placed in
        let k = is_asked all x a h.run.named (subst (λ s. IsRightStage s x) e h.stage) in
        right_ask strict (script_asks x.task a) (record p { body = logged_then p.body a }) refl (record {
          run = record { named = k.named; same = k.script ∙ h.run.same; decl = k.decl ∙ h.run.decl };
          there = k.there;
          child = subst (λ s. ChildOf s (script_asks x.task a) (placed_then x a).stand.called) h.run.same k.child;
          notes = subst (λ s. AreRight p.name (notes_at s p.body) p.made p.children) e h.notes;
        })
    right_step V (stage.Waits x spare) p e h = right_look spare x (V x) p e h
    right_step V (stage.Closed c) p e h = h

    pub right_point : (V : Assignment) (t : Task Logged) → IsRun t.body.placed → t.body.makers ≡ [] → (k : ℕ)
        → IsRightPoint (point_after (rules strict) V k t)
    right_point V t r e zero = record {
      run = r;
      stage = λ fault f. absurd (begins _ t.body.placed.task.due fault f);
      notes = record {
        each = ap length e;
        right = λ m i. absurd (subst (IsIn m) e i);
        forked = λ c i. absurd i;
      };
    }
    right_point V t r e (suc k) =
        let p = point_after (rules strict) V k t in right_step V p.stage p refl (right_point V t r e k)

-- where a task stood that has stopped, and what it noted and forked
pub right_history : (script : List tree.Task) (strict : Bool) (V : Assignment) (t : Task Logged) (n : IsNew script t)
    → IsRightPoint script t.body.placed.stand.decl (within n.right.task.body)
    (history (rules strict) V t)
right_history script strict V t n =
    right_point script t.body.placed.stand.decl (within n.right.task.body) strict V t
    (record { named = n.right.named; same = n.same; decl = refl }) n.fresh (2 * suc (logged_left t.body))
