-- A cell is broken by the end of a task: it is the result of one that failed, or one owed it. A task fails for a
-- broken cell only where that is broken.
use Rattle.std.proofs.Common.{◌≡◌, ℕ, zero, suc, ◌&&◌, Bool, true, false, not, cond, List, [], ◌∷◌, ◌++◌, map}
use Rattle.std.proofs.Common.{Option, Some, None, Result, Ok, Err, refl, sym, ap, subst, ◌∙◌, inl, inr, ◌⊎◌}
use Rattle.tj_base.specs.ForkOrder.{Name, before}
use Rattle.tj_base.specs.declared.cause.Cause.{Cause}
use Rattle.tj_base.specs.declared.cause.Cause.TheVariants as cause
use Rattle.tj_base.specs.declared.cause.Trouble.{Trouble}
use Rattle.tj_base.specs.declared.cause.Trouble.TheVariants as trouble
use Rattle.tj_base.specs.declared.cell.Sort.{Sort}
use Rattle.tj_base.specs.declared.cell.Sort.TheVariants as sort
use Rattle.tj_body.specs.History.{Assignment, after_ask, after_close, after_failure, after_get, after_join, after_look}
use Rattle.tj_body.specs.History.{after_read, after_set, after_stage, after_try_fork, cause_of, hand_all, hand_one}
use Rattle.tj_body.specs.History.{point_after, reference, value_at, with_entry}
use Rattle.tj_body.specs.Inner.AskSteps.{IsAskStep, fails, ends, makes, forks, sets, gets, joins, prints}
use Rattle.tj_body.specs.Names.{has, in_order, without}
use Rattle.tj_body.specs.Points.{IsIn}
use Rattle.tj_body.specs.Programs.{Rules}
use Rattle.tj_body.specs.declared.ask.Answer.TheVariants as answer
use Rattle.tj_body.specs.declared.ask.Ask.{Ask}
use Rattle.tj_body.specs.declared.ask.Ask.TheVariants as ask
use Rattle.tj_body.specs.declared.point.Close.TheVariants as close
use Rattle.tj_body.specs.declared.point.Entry.{Entry}
use Rattle.tj_body.specs.declared.point.Entry.TheVariants as entry
use Rattle.tj_body.specs.declared.point.Point.{Point}
use Rattle.tj_body.specs.declared.point.PointStage.{PointStage}
use Rattle.tj_body.specs.declared.point.PointStage.TheVariants as stage
use Rattle.tj_body.specs.declared.point.Reference.{Reference}
use Rattle.tj_body.specs.declared.point.Task.{Task}
use Rattle.tj_body.specs.declared.point.Value.{Value}
use Rattle.tj_body.specs.declared.point.Value.TheVariants as value
use Rattle.tj_body.proofs.Histories.AskSteps.{is_ask_step}
use Rattle.tj_body.proofs.Lists.{in_either, in_map}

-- a failure for a broken cell
abbrev pub broken_by : Name → PointStage
broken_by q = stage.Closed (close.Failed (cause.Broken q))

-- handing is refused for another cause
hand_refused : (holds : List Name) (rs : List Reference) (q : Name) → hand_all holds rs ≡ Err (cause.Broken q) → ⊥
hand_refused holds [] q e = absurd (cc)
hand_refused holds (r ∷ rs) q e =
    by r.sort (has r.name holds) r.name (hand_all (without r.name holds) rs)
    (hand_refused (without r.name holds) rs q) e where
      by : (s : Sort) (b : Bool) (x : Name) (rest : Result (List Name) Cause) → (rest ≡ Err (cause.Broken q) → ⊥)
          → hand_one s b x rest ≡ Err (cause.Broken q) → ⊥
      by sort.Task b x rest none e = absurd (cc)
      by sort.Promise true x rest none e = none e
      by sort.Promise false x rest none e = absurd (cc)

-- what is broken since it was owed
owed_broken : (qs : List Name) (q : Name) → IsIn (q, entry.Broken) (map (with_entry entry.Broken) qs) → IsIn q qs
owed_broken qs q i =
    let x = in_map (with_entry entry.Broken) (q, entry.Broken) qs i in
    subst (λ y. IsIn y qs) (sym (ap (λ (w : Name × Entry). w.0) x.2)) x.1

module _ {B : Type 0} where
  -- no ask fails a task for a broken cell
  of_fork : (b : B) (pass : List Reference) (hand : List Name) (l : Result (List Name) Cause) (p : Point B) (q : Name)
      → (l ≡ Err (cause.Broken q) → ⊥) → (after_try_fork b pass hand l p).stage ≡ broken_by q → ⊥
  of_fork b pass hand (Ok left) p q none e = absurd (cc)
  of_fork b pass hand (Err c) p q none e = none (ap Err (failed c (cause.Broken q) e)) where
    failed : (a b : Cause) → stage.Closed (close.Failed a) ≡ stage.Closed (close.Failed b) → a ≡ b
    failed a b e = cc

  of_set : (s : Sort) (x : Name) (v : Value) (p : Point B) (q : Name) → (after_set s x v p).stage ≡ broken_by q → ⊥
  of_set sort.Task x v p q e = absurd (cc)
  of_set sort.Promise x v p q e = by (has x p.holds) e where
    by : (b : Bool) → (cond b (record p {
      stage = stage.Answered answer.Done;
      holds = without x p.holds;
      writes = p.writes ++ (x, entry.Value v) ∷ [];
    }) (after_failure (cause.Owner x) p)).stage ≡ broken_by q → ⊥
    by true e = absurd (cc)
    by false e = absurd (cc)

  of_get : (spare : Bool) (s : Sort) (x : Name) (p : Point B) (q : Name)
      → (after_get spare s x p).stage ≡ broken_by q → ⊥
  of_get spare sort.Task x p q e = absurd (cc)
  of_get spare sort.Promise x p q e = absurd (cc)

  of_join : (strict spare : Bool) (s : Sort) (x : Name) (p : Point B) (q : Name)
      → (after_join strict spare s x p).stage ≡ broken_by q → ⊥
  of_join strict spare sort.Promise x p q e = absurd (cc)
  of_join strict spare sort.Task x p q e = by (strict && not (before p.name x)) e where
    by : (b : Bool) → (cond b (after_failure (cause.Order x) p) (record p { stage = stage.Waits x spare })).stage
        ≡ broken_by q → ⊥
    by true e = absurd (cc)
    by false e = absurd (cc)

  of_trouble : (t : Trouble) (p : Point B) (q : Name) → (after_failure (cause_of t) p).stage ≡ broken_by q → ⊥
  of_trouble trouble.Arith p q e = absurd (cc)
  of_trouble trouble.Kind p q e = absurd (cc)
  of_trouble trouble.Steps p q e = absurd (cc)

  of_ask : (strict : Bool) (a : Ask B) (p : Point B) (q : Name) → (after_ask strict a p).stage ≡ broken_by q → ⊥
  of_ask strict ask.New p q e = absurd (cc)
  of_ask strict (ask.Fork b pass hand) p q e =
      of_fork b (map (reference p) pass) (map (λ k. (reference p k).name) hand)
      (hand_all p.holds (map (reference p) hand)) p q (hand_refused p.holds (map (reference p) hand) q) e
  of_ask strict (ask.Set k v) p q e =
      of_set (reference p k).sort (reference p k).name (value_at p.name p.references v) p q e
  of_ask strict (ask.Get k) p q e = of_get false (reference p k).sort (reference p k).name p q e
  of_ask strict (ask.Join k) p q e = of_join strict false (reference p k).sort (reference p k).name p q e
  of_ask strict (ask.GetOr k) p q e = of_get true (reference p k).sort (reference p k).name p q e
  of_ask strict (ask.JoinOr k) p q e = of_join strict true (reference p k).sort (reference p k).name p q e
  of_ask strict (ask.Emit i) p q e = absurd (cc)
  of_ask strict (ask.End v) p q e = absurd (cc)
  of_ask strict (ask.Fail t) p q e = of_trouble t p q e

  -- a task has failed for broken cells alone that are broken
  abbrev pub NamesBroken : Assignment → Point B → Type 0
  NamesBroken V p = (q : Name) → p.stage ≡ broken_by q → V q ≡ Some entry.Broken

  names_read : (V : Assignment) (spare : Bool) (x : Name) (o : Option Entry) (p : Point B)
      → p.stage ≡ stage.Waits x spare → V x ≡ o → NamesBroken V (after_look spare x o p)
  names_read V spare x None p at is q e = let z : stage.Waits x spare ≡ broken_by q = sym at ∙ e in absurd (cc)
  names_read V true x (Some entry.Broken) p at is q e = absurd (cc)
  names_read V false x (Some entry.Broken) p at is q e = subst (λ y. V y ≡ Some entry.Broken) (named x q e) is where
    named : (x q : Name) → broken_by x ≡ broken_by q → x ≡ q
    named x q e = cc
  names_read V spare x (Some (entry.Value (value.Num i))) p at is q e = absurd (cc)
  names_read V spare x (Some (entry.Value (value.Ref r))) p at is q e = absurd (cc)

  -- where a cell is broken among what was written, the task has ended, and it is the result of one that failed, or owed
  abbrev pub BreaksAt : PointStage → Point B → Type 0
  BreaksAt (stage.Answered a) p = (q : Name) → IsIn (q, entry.Broken) p.writes → ⊥
  BreaksAt (stage.Waits x spare) p = (q : Name) → IsIn (q, entry.Broken) p.writes → ⊥
  BreaksAt (stage.Closed (close.Failed c)) p =
      (q : Name) → IsIn (q, entry.Broken) p.writes → (q ≡ p.name) ⊎ IsIn q p.owed
  BreaksAt (stage.Closed (close.Done v)) p = (q : Name) → IsIn (q, entry.Broken) p.writes → IsIn q p.owed

  -- the same in its stage
  abbrev pub Breaks : Point B → Type 0
  Breaks p = BreaksAt p.stage p

  -- nothing is broken yet
  abbrev NothingBroken : Point B → Type 0
  NothingBroken p = (q : Name) → IsIn (q, entry.Broken) p.writes → ⊥

  closes_failed : (c : Cause) (p : Point B) → NothingBroken p → Breaks (after_failure c p)
  closes_failed c p none q i =
      by (in_either (q, entry.Broken) p.writes
      ((p.name, entry.Broken) ∷ map (with_entry entry.Broken) (in_order p.holds)) i) where
        by : IsIn (q, entry.Broken) p.writes
            ⊎ IsIn (q, entry.Broken) ((p.name, entry.Broken) ∷ map (with_entry entry.Broken) (in_order p.holds))
            → (q ≡ p.name) ⊎ IsIn q (in_order p.holds)
        by (inl j) = absurd (none q j)
        by (inr (inl e)) = inl (ap (λ (w : Name × Entry). w.0) e)
        by (inr (inr j)) = inr (owed_broken (in_order p.holds) q j)

  closes_done : (v : Value) (p : Point B) → NothingBroken p → Breaks (after_close (close.Done v) (entry.Value v) p)
  closes_done v p none q i =
      by (in_either (q, entry.Broken) p.writes
      ((p.name, entry.Value v) ∷ map (with_entry entry.Broken) (in_order p.holds)) i) where
        by : IsIn (q, entry.Broken) p.writes
            ⊎ IsIn (q, entry.Broken) ((p.name, entry.Value v) ∷ map (with_entry entry.Broken) (in_order p.holds))
            → IsIn q (in_order p.holds)
        by (inl j) = absurd (none q j)
        by (inr (inl e)) = let z : entry.Broken ≡ entry.Value v = ap (λ (w : Name × Entry). w.1) e in absurd (cc)
        by (inr (inr j)) = owed_broken (in_order p.holds) q j

  keeps : (strict : Bool) (p : Point B) (a : Ask B) (q : Point B) → IsAskStep strict p a q → NothingBroken p → Breaks q
  keeps strict p _ _ (fails a c) h = closes_failed c p h
  keeps strict p _ _ (ends v) h = closes_done (value_at p.name p.references v) p h
  keeps strict p _ _ makes h = h
  keeps strict p _ _ (forks b pass hand l e) h = h
  keeps strict p _ _ (sets k v s o) h = λ q i. by q (in_either (q, entry.Broken) p.writes _ i) where
    by : (q : Name) → IsIn (q, entry.Broken) p.writes
        ⊎ IsIn (q, entry.Broken) (with_entry (entry.Value (value_at p.name p.references v)) (reference p k).name ∷ [])
        → ⊥
    by q (inl j) = h q j
    by q (inr (inl e)) =
        let z : entry.Broken ≡ entry.Value (value_at p.name p.references v) = ap (λ (w : Name × Entry). w.1) e in
        absurd (cc)
    by q (inr (inr j)) = j
  keeps strict p _ _ (gets spare k s) h = h
  keeps strict p _ _ (joins spare k s o) h = h
  keeps strict p _ _ (prints i) h = h

  reads : (spare : Bool) (q : Name) (x : Entry) (p : Point B) → NothingBroken p → Breaks (after_read spare q x p)
  reads true q entry.Broken p h = h
  reads false q entry.Broken p h = closes_failed (cause.Broken q) p h
  reads spare q (entry.Value (value.Num i)) p h = h
  reads spare q (entry.Value (value.Ref r)) p h = h

  module _ (rules : Rules B) (V : Assignment) where
    named_at : (s : PointStage) (p : Point B) → p.stage ≡ s → NamesBroken V p → NamesBroken V (after_stage rules V s p)
    named_at (stage.Answered a) p at h q e =
        absurd (of_ask rules.strict (rules.asks p.body a) (record p { body = rules.then p.body a }) q e)
    named_at (stage.Waits x spare) p at h q e = names_read V spare x (V x) p at refl q e
    named_at (stage.Closed c) p at h q e = h q e

    pub names_broken : (t : Task B) (k : ℕ) → NamesBroken V (point_after rules V k t)
    names_broken t zero q e = absurd (cc)
    names_broken t (suc k) q e = let p = point_after rules V k t in named_at p.stage p refl (names_broken t k) q e

    looks : (spare : Bool) (x : Name) (o : Option Entry) (p : Point B) → p.stage ≡ stage.Waits x spare → Breaks p
        → Breaks (after_look spare x o p)
    looks spare x None p at h = h
    looks spare x (Some e) p at h = reads spare x e p (subst (λ s. BreaksAt s p) at h)

    breaks_at : (s : PointStage) (p : Point B) → p.stage ≡ s → Breaks p → Breaks (after_stage rules V s p)
    breaks_at (stage.Answered a) p at h =
        let q = record p { body = rules.then p.body a } in
        keeps rules.strict q (rules.asks p.body a) (after_ask rules.strict (rules.asks p.body a) q)
        (is_ask_step rules.strict q (rules.asks p.body a)) (subst (λ s. BreaksAt s p) at h)
    breaks_at (stage.Waits x spare) p at h = looks spare x (V x) p at h
    breaks_at (stage.Closed c) p at h = h

    pub breaks : (t : Task B) (k : ℕ) → Breaks (point_after rules V k t)
    breaks t zero = λ q i. i
    breaks t (suc k) = let p = point_after rules V k t in breaks_at p.stage p refl (breaks t k)
