-- What a task made is what its notes tell, step by step.
use Rattle.tj_trace.proofs.LoggedRules.{rules}
use Rattle.tj_trace.proofs.Prelude.{Ask, Assignment, Bool, Cause, Entry, Err, IsIn, List, Logged, Maker, Name, None}
use Rattle.tj_trace.proofs.Prelude.{Ok, Option, Point, PointStage, Reference, Some, Sort, Task, TraceLine, Value, []}
use Rattle.tj_trace.proofs.Prelude.{after_ask, after_get, after_join, after_look, after_new, after_read, after_set}
use Rattle.tj_trace.proofs.Prelude.{ap, ask_as, before, child, cond, ending_of, hand_all, has, history, inl, inr}
use Rattle.tj_trace.proofs.Prelude.{line_in, logged, logged_then, maker_here, map, not, option_map, reference, refl}
use Rattle.tj_trace.proofs.Prelude.{root_task, suc, sym, true, with_wait, zero, ℕ, ◌&&◌, ◌*◌, ◌++◌, ◌+◌, ◌∙◌, ◌∷◌}
use Rattle.tj_trace.proofs.Prelude.{◌≡◌}
use Rattle.std.proofs.Common.{false, length, Result, subst, arith, ⊎_elim, append-nil}
use Rattle.std.proofs.lemmas.List.{length-append, map-append}
use Rattle.std.specs.List.{flat_map}
use Rattle.tj_body.specs.History.{after_try_fork, after_failure, after_write, after_stage, next_child, point_after}
use Rattle.tj_body.specs.Rounds.{family, given, tasks, last_round}
use Rattle.tj_body.proofs.Lists.{in_either}
use Rattle.tj_eval.specs.Stands.{PlacedState, placed_asks}
use Rattle.tj_trace.specs.Logs.{made_by, noted, logged_left, logged_program}
use Rattle.tj_trace.specs.NoteLaws.{is_sort, things, AreNoted, NotesAreWhole}
use Rattle.tj_base.specs.declared.cell.Sort.TheVariants as sort
use Rattle.tj_base.specs.declared.cause.Cause.TheVariants as cause
use Rattle.tj_body.specs.declared.ask.Ask.TheVariants as ask
use Rattle.tj_body.specs.declared.point.Value.TheVariants as value
use Rattle.tj_body.specs.declared.point.Entry.TheVariants as entry
use Rattle.tj_body.specs.declared.point.Close.TheVariants as close
use Rattle.tj_body.specs.declared.point.PointStage.TheVariants as stage

-- the name of the thing that a task makes next, if it is of this sort
abbrev next_thing : Sort → Maker → Name → ℕ → List Name
next_thing s m x n = cond (is_sort s m.sort) (child x (suc n) ∷ []) []

-- one note more tells one thing more
things_more : (s : Sort) (x : Name) (n : ℕ) (ms : List Maker) (m : Maker)
    → things s x n (ms ++ m ∷ []) ≡ things s x n ms ++ next_thing s m x (n + length ms)
things_more s x n [] m = by (is_sort s m.sort) (sym (zero_right n)) where
  zero_right : (n : ℕ) → n + 0 ≡ n
  zero_right n = omega arith

  by : (b : Bool) {k : ℕ} → n ≡ k → cond b (child x (suc n) ∷ []) [] ≡ cond b (child x (suc k) ∷ []) []
  by b e = ap (λ j. cond b (child x (suc j) ∷ []) []) e
things_more s x n (y ∷ ms) m = by (is_sort s y.sort)
    (things_more s x (suc n) ms m ∙ ap (λ k. things s x (suc n) ms ++ next_thing s m x k) (one n (length ms))) where
      one : (j k : ℕ) → suc j + k ≡ j + suc k
      one j k = omega arith

      by : (b : Bool)
          → things s x (suc n) (ms ++ m ∷ []) ≡ things s x (suc n) ms ++ next_thing s m x (n + suc (length ms))
          → cond b (child x (suc n) ∷ things s x (suc n) (ms ++ m ∷ [])) (things s x (suc n) (ms ++ m ∷ []))
          ≡ cond b (child x (suc n) ∷ things s x (suc n) ms) (things s x (suc n) ms)
          ++ next_thing s m x (n + suc (length ms))
      by true rest = ap (λ l. child x (suc n) ∷ l) rest
      by false rest = rest

-- the same where these are all
thing_behind : (s : Sort) (x : Name) (ms : List Maker) (m : Maker)
    → things s x 0 (ms ++ m ∷ []) ≡ things s x 0 ms ++ next_thing s m x (length ms)
thing_behind s x ms m =
    things_more s x 0 ms m ∙ ap (λ k. things s x 0 ms ++ next_thing s m x k) (none (length ms)) where
      none : (k : ℕ) → 0 + k ≡ k
      none k = omega arith

-- a task that has asked nothing yet
abbrev pub IsLogged : Task Logged → Type 0
IsLogged t = t.body ≡ logged t.body.placed

-- the tasks have asked nothing yet
abbrev pub AreFresh : List (Task Logged) → Type 0
AreFresh ts = (t : Task Logged) → IsIn t ts → IsLogged t

-- what the task has noted once it has taken the answer that this stage holds
abbrev pub notes_at : PointStage → Logged → List Maker
notes_at (stage.Answered a) x = noted a x
notes_at (stage.Waits q spare) x = x.makers
notes_at (stage.Closed e) x = x.makers

-- what a task made until it came to a point is what it notes, and its children have asked nothing
pub record IsWhole (p : Point Logged) : Type 0 where
  pub made : AreNoted p.name (notes_at p.stage p.body) p.made p.promises p.children
  children : AreFresh p.children

-- the same of a task that has taken its answer
record IsTaken (p : Point Logged) : Type 0 where
  made : AreNoted p.name p.body.makers p.made p.promises p.children
  children : AreFresh p.children

-- a promise more is noted and made
promise_more : (x : Name) (ms : List Maker) (d n made : ℕ) (promises : List Name) (children : List (Task Logged))
    → AreNoted x ms made promises children
    → AreNoted x (ms ++ record { sort = sort.Promise; decl = d; at = n } ∷ []) (suc made)
    (promises ++ child x (suc made) ∷ []) children
promise_more x ms d n made promises children h =
    let m : Maker = record { sort = sort.Promise; decl = d; at = n } in record {
      each = length-append ms (m ∷ []) ∙ (let k = h.each in omega (arith, k));
      all_promises = thing_behind sort.Promise x ms m
          ∙ ap (λ l. l ++ child x (suc (length ms)) ∷ []) h.all_promises
          ∙ ap (λ k. promises ++ child x (suc k) ∷ []) h.each;
      all_children = thing_behind sort.Task x ms m ∙ append-nil (things sort.Task x 0 ms) ∙ h.all_children;
    }

-- a task more is noted and made
task_more : (x : Name) (ms : List Maker) (d n made : ℕ) (promises : List Name) (children : List (Task Logged))
    (t : Task Logged) → t.name ≡ child x (suc made) → AreNoted x ms made promises children
    → AreNoted x (ms ++ record { sort = sort.Task; decl = d; at = n } ∷ []) (suc made) promises (children ++ t ∷ [])
task_more x ms d n made promises children t e h =
    let m : Maker = record { sort = sort.Task; decl = d; at = n } in record {
      each = length-append ms (m ∷ []) ∙ (let k = h.each in omega (arith, k));
      all_promises = thing_behind sort.Promise x ms m ∙ append-nil (things sort.Promise x 0 ms) ∙ h.all_promises;
      all_children = thing_behind sort.Task x ms m
          ∙ ap (λ l. l ++ child x (suc (length ms)) ∷ []) h.all_children
          ∙ ap (λ k. map (λ (c : Task Logged). c.name) children ++ child x (suc k) ∷ []) h.each
          ∙ ap (λ q. map (λ (c : Task Logged). c.name) children ++ q ∷ []) (sym e)
          ∙ sym (map-append (λ (c : Task Logged). c.name) children (t ∷ []));
    }

-- what was asked is noted where it is made
promise_noted : (p : Point Logged) → p.body.due ≡ Some sort.Promise → IsTaken p → IsWhole (after_new p)
promise_noted p e h = record {
  made = subst (λ o. AreNoted p.name (p.body.makers ++ maker_here o p.body.placed.stand) (suc p.made)
      (p.promises ++ child p.name (suc p.made) ∷ []) p.children) (sym e)
      (promise_more p.name p.body.makers _ _ p.made p.promises p.children h.made);
  children = h.children;
}

fork_noted : (b : PlacedState) (passed : List Reference) (handed : List Name) (o : Result (List Name) Cause)
    (p : Point Logged) → p.body.due ≡ Some sort.Task → IsTaken p
    → IsWhole (after_try_fork (logged b) passed handed o p)
fork_noted b passed handed (Err c) p e h = record { made = h.made; children = h.children }
fork_noted b passed handed (Ok left) p e h =
    let t : Task Logged = next_child (logged b) passed handed p in record {
      made = subst (λ o. AreNoted p.name (p.body.makers ++ maker_here o p.body.placed.stand) (suc p.made) p.promises
          (p.children ++ t ∷ [])) (sym e)
          (task_more p.name p.body.makers _ _ p.made p.promises p.children t refl h.made);
      children = λ c i. ⊎_elim (h.children c) (λ j. one c t refl j) (in_either c p.children (t ∷ []) i);
    } where
      one : (c t : Task Logged) → IsLogged t → IsIn c (t ∷ []) → IsLogged c
      one c t f (inl e) = subst IsLogged (sym e) f
      one c t f (inr i) = absurd i

set_noted : (s : Sort) (q : Name) (v : Value) (p : Point Logged) → IsTaken p → IsWhole (after_set s q v p)
set_noted sort.Task q v p h = record { made = h.made; children = h.children }
set_noted sort.Promise q v p h = by (has q p.holds) where
  by : (b : Bool) → IsWhole (cond b (after_write q v p) (after_failure (cause.Owner q) p))
  by true = record { made = h.made; children = h.children }
  by false = record { made = h.made; children = h.children }

get_noted : (spare : Bool) (s : Sort) (q : Name) (p : Point Logged) → IsTaken p → IsWhole (after_get spare s q p)
get_noted spare sort.Task q p h = record { made = h.made; children = h.children }
get_noted spare sort.Promise q p h = record { made = h.made; children = h.children }

join_noted : (strict spare : Bool) (s : Sort) (q : Name) (p : Point Logged) → IsTaken p
    → IsWhole (after_join strict spare s q p)
join_noted strict spare sort.Promise q p h = record { made = h.made; children = h.children }
join_noted strict spare sort.Task q p h = by (strict && not (before p.name q)) where
  by : (b : Bool) → IsWhole (cond b (after_failure (cause.Order q) p) (with_wait spare q p))
  by true = record { made = h.made; children = h.children }
  by false = record { made = h.made; children = h.children }

ask_noted : (strict : Bool) (a : Ask PlacedState) (p : Point Logged) → p.body.due ≡ made_by a → IsTaken p
    → IsWhole (after_ask strict (ask_as logged a) p)
ask_noted strict ask.New p e h = promise_noted p e h
ask_noted strict (ask.Fork b pass hand) p e h = fork_noted b _ _ (hand_all p.holds (map (reference p) hand)) p e h
ask_noted strict (ask.Set k v) p e h = set_noted (reference p k).sort (reference p k).name _ p h
ask_noted strict (ask.Get k) p e h = get_noted false (reference p k).sort (reference p k).name p h
ask_noted strict (ask.Join k) p e h = join_noted strict false (reference p k).sort (reference p k).name p h
ask_noted strict (ask.GetOr k) p e h = get_noted true (reference p k).sort (reference p k).name p h
ask_noted strict (ask.JoinOr k) p e h = join_noted strict true (reference p k).sort (reference p k).name p h
ask_noted strict a p e h = record { made = h.made; children = h.children }

look_noted : (spare : Bool) (q : Name) (o : Option Entry) (p : Point Logged) → p.stage ≡ stage.Waits q spare
    → IsWhole p → IsWhole (after_look spare q o p)
look_noted spare q None p e h = h
look_noted spare q (Some x) p e h = read spare x where
  taken : AreNoted p.name p.body.makers p.made p.promises p.children
  taken = subst (λ s. AreNoted p.name (notes_at s p.body) p.made p.promises p.children) e h.made

  read : (b : Bool) (x : Entry) → IsWhole (after_read b q x p)
  read true entry.Broken = record { made = taken; children = h.children }
  read false entry.Broken = record { made = taken; children = h.children }
  read b (entry.Value (value.Num i)) = record { made = taken; children = h.children }
  read b (entry.Value (value.Ref r)) = record { made = taken; children = h.children }

-- no line is none
not_none : {A : Type 0} (x : A) → ◌≡◌ {A = Option A} None (Some x) → ⊥
not_none x e = cc

-- what is Some is one thing
some_is : {A : Type 0} (x y : A) → ◌≡◌ {A = Option A} (Some x) (Some y) → x ≡ y
some_is x y e = cc

module _ (strict : Bool) where
  stage_noted : (V : Assignment) (s : PointStage) (p : Point Logged) → p.stage ≡ s → IsWhole p
      → IsWhole (after_stage (rules strict) V s p)
  stage_noted V (stage.Answered a) p e h =
      ask_noted strict (placed_asks p.body.placed a) (record p { body = logged_then p.body a }) refl
      (record {
        made = subst (λ s. AreNoted p.name (notes_at s p.body) p.made p.promises p.children) e h.made;
        children = h.children;
      })
  stage_noted V (stage.Waits q spare) p e h = look_noted spare q (V q) p e h
  stage_noted V (stage.Closed c) p e h = h

  point_noted : (V : Assignment) (t : Task Logged) → IsLogged t → (k : ℕ)
      → IsWhole (point_after (rules strict) V k t)
  point_noted V t e zero = record {
    made = record {
      each = ap (λ (x : Logged). length x.makers) e;
      all_promises = ap (λ (x : Logged). things sort.Promise t.name 0 x.makers) e;
      all_children = ap (λ (x : Logged). things sort.Task t.name 0 x.makers) e;
    };
    children = λ c i. absurd i;
  }
  point_noted V t e (suc k) =
      let p = point_after (rules strict) V k t in stage_noted V p.stage p refl (point_noted V t e k)

  -- so it is of a history
  pub history_noted : (V : Assignment) (t : Task Logged) → IsLogged t → IsWhole (history (rules strict) V t)
  history_noted V t e = point_noted V t e (2 * suc (logged_left t.body))

  each_fresh : (V : Assignment) (d : ℕ)
      → ((t : Task Logged) → IsLogged t → AreFresh (family (rules strict) V d t)) → (ts : List (Task Logged))
      → AreFresh ts → AreFresh (flat_map (family (rules strict) V d) ts)
  each_fresh V d go [] f c i = absurd i
  each_fresh V d go (u ∷ ts) f c i = ⊎_elim (λ j. go u (f u (inl refl)) c j)
      (λ j. each_fresh V d go ts (λ x k. f x (inr k)) c j)
      (in_either c (family (rules strict) V d u) (flat_map (family (rules strict) V d) ts) i)

  -- the tasks that come from one have asked nothing
  pub family_fresh : (V : Assignment) (d : ℕ) (t : Task Logged) → IsLogged t
      → AreFresh (family (rules strict) V d t)
  family_fresh V zero t e c (inl f) = subst IsLogged (sym f) e
  family_fresh V zero t e c (inr i) = absurd i
  family_fresh V (suc d) t e c (inl f) = subst IsLogged (sym f) e
  family_fresh V (suc d) t e c (inr i) =
      each_fresh V d (family_fresh V d) (history (rules strict) V t).children (history_noted V t e).children c i

-- the points of tasks that had asked nothing are whole
each_whole : (strict : Bool) (V : Assignment) (ts : List (Task Logged)) → AreFresh ts → (p : Point Logged)
    → IsIn p (map (history (rules strict) V) ts) → IsWhole p
each_whole strict V [] f p i = absurd i
each_whole strict V (t ∷ ts) f p (inl e) = subst IsWhole (sym e) (history_noted strict V t (f t (inl refl)))
each_whole strict V (t ∷ ts) f p (inr i) = each_whole strict V ts (λ x k. f x (inr k)) p i

-- the line of a task that is at this stage, if it has one
abbrev line_at : Point Logged → PointStage → Option TraceLine
line_at p z = option_map (line_in p) (option_map
    (λ e. record { line = record { name = p.name; prints = p.prints; ending = e; owes = p.owed }; holds = p.holds })
    (ending_of z))

same_line : (p : Point Logged) (x l : TraceLine) → ◌≡◌ {A = Option TraceLine} (Some x) (Some l)
    → AreNoted x.line.name x.makers p.made p.promises p.children
    → AreNoted l.line.name l.makers p.made p.promises p.children
same_line p x l e h =
    subst (λ (z : TraceLine). AreNoted z.line.name z.makers p.made p.promises p.children) (some_is x l e) h

line_noted : (p : Point Logged) (l : TraceLine) (z : PointStage) → line_at p z ≡ Some l
    → AreNoted p.name (notes_at z p.body) p.made p.promises p.children
    → AreNoted l.line.name l.makers p.made p.promises p.children
line_noted p l (stage.Answered a) e h = absurd (not_none l e)
line_noted p l (stage.Closed (close.Done v)) e h = same_line p _ l e h
line_noted p l z e h = same_line p _ l e h

-- the law
pub notes_are_whole : (strict : Bool) (root : PlacedState) → NotesAreWhole strict root
notes_are_whole strict root N p l i e =
    let program = logged_program strict root in
    let h = each_whole strict (given program (last_round N)) (tasks program (last_round N)) (fresh (last_round N)) p i in
    line_noted p l p.stage e h.made where
      fresh : (n : ℕ) → AreFresh (tasks (logged_program strict root) n)
      fresh zero = λ t i. absurd i
      fresh (suc n) = family_fresh strict (given (logged_program strict root) n) (suc n)
          (root_task (logged_program strict root).root) refl
