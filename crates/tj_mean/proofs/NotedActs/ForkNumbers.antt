-- A task forks its own children, each with a greater number than those before.
use Rattle.std.proofs.Common.{◌≡◌, ◌⊎◌, ℕ, zero, suc, ◌<◌, ◌≤◌, List, [], ◌∷◌, ◌++◌, map, length, Some, None, Option}
use Rattle.std.proofs.Common.{Result, Ok, Err}
use Rattle.std.proofs.Common.{Bool, true, false}
use Rattle.std.proofs.Common.{inl, inr, sym, ap, subst, arith, append-nil}
use Rattle.std.specs.Prelude.{is_some, slice_get}
use Rattle.tj_base.specs.ForkOrder.{Name, child}
use Rattle.tj_base.specs.declared.cause.Cause.{Cause}
use Rattle.tj_base.specs.declared.cell.Sort.{Sort}
use Rattle.tj_base.specs.declared.cell.Sort.TheVariants as sort
use Rattle.tj_mean.specs.Acts.{fork_acts, join_acts}
use Rattle.tj_body.specs.History.{Assignment}
use Rattle.tj_mean.specs.declared.act.Act.{Act}
use Rattle.tj_mean.specs.declared.act.Act.TheVariants as act
use Rattle.tj_mean.specs.Acts.{acts_within, ask_acts, stage_acts}
use Rattle.tj_body.specs.Programs.{Rules}
use Rattle.tj_body.specs.History.{after_ask, after_look, after_stage, after_try_fork, hand_all, next_name, point_after}
use Rattle.tj_body.specs.History.{reference}
use Rattle.tj_body.specs.Inner.AskSteps.{IsAskStep, fails, ends, makes, forks, sets, gets, joins, prints}
use Rattle.tj_body.specs.declared.ask.Ask.{Ask}
use Rattle.tj_body.specs.declared.ask.Ask.TheVariants as ask
use Rattle.tj_body.specs.declared.point.Value.TheVariants as value
use Rattle.tj_body.specs.declared.point.Entry.{Entry}
use Rattle.tj_body.specs.declared.point.Entry.TheVariants as entry
use Rattle.tj_body.specs.declared.point.PointStage.{PointStage}
use Rattle.tj_body.specs.declared.point.PointStage.TheVariants as stage
use Rattle.tj_body.specs.declared.point.Point.{Point}
use Rattle.tj_body.specs.declared.point.Reference.{Reference}
use Rattle.tj_body.specs.declared.point.Task.{Task}
use Rattle.tj_body.proofs.Histories.Grows.{from_start}
use Rattle.tj_body.proofs.Histories.AskSteps.{is_ask_step}
use Rattle.tj_base.proofs.ChildNames.{child_same}
use Rattle.tj_mean.proofs.Lists.Elements.{get_less}
use Rattle.tj_mean.proofs.Lists.Ends.{get_snoc}
use Rattle.tj_mean.proofs.NotedActs.NotedAsks.{other_body}

-- the forks among the acts are of children of x with numbers up to m, each greater than those before
pub record AreNumbered (x : Name) (m : ℕ) (acts : List Act) : Type 0 where
  pub own : (n : ℕ) (c : Name) → slice_get acts n ≡ Some (act.Fork c) → (j : ℕ) × (c ≡ child x j) × (j ≤ m)
  pub rise : (i n j k : ℕ) → i < n → slice_get acts i ≡ Some (act.Fork (child x j))
      → slice_get acts n ≡ Some (act.Fork (child x k)) → j < k

-- no act yet
pub none_numbered : (x : Name) (m : ℕ) → AreNumbered x m []
none_numbered x m = record {
  own = λ n c h. absurd (cc);
  rise = λ i n j k l h g. absurd (cc);
}

-- more things made
pub more_numbered : (x : Name) (m n : ℕ) (acts : List Act) → m ≤ n → AreNumbered x m acts → AreNumbered x n acts
more_numbered x m n acts l a = record {
  own = λ i c h. let r = a.own i c h in (r.0, r.1, let z = r.2 in omega (arith, z));
  rise = a.rise;
}

-- the other task of an act
abbrev other : Act → Name
other (act.Fork c) = c
other (act.Join u answered) = u

-- a join more
pub join_numbered : (x : Name) (m : ℕ) (acts : List Act) (u : Name) (b : Bool) → AreNumbered x m acts
    → AreNumbered x m (acts ++ act.Join u b ∷ [])
join_numbered x m acts u b a = record { own = own; rise = rise } where
  old : (n : ℕ) (c : Name) → slice_get (acts ++ act.Join u b ∷ []) n ≡ Some (act.Fork c)
      → slice_get acts n ≡ Some (act.Fork c)
  old n c h = by (get_snoc acts (act.Join u b) n (act.Fork c) h) where
    by : (slice_get acts n ≡ Some (act.Fork c)) ⊎ ((n ≡ length acts) × (act.Join u b ≡ act.Fork c))
        → slice_get acts n ≡ Some (act.Fork c)
    by (inl e) = e
    by (inr e) = let z = e.1 in absurd (cc)

  own : (n : ℕ) (c : Name) → slice_get (acts ++ act.Join u b ∷ []) n ≡ Some (act.Fork c)
      → (j : ℕ) × (c ≡ child x j) × (j ≤ m)
  own n c h = a.own n c (old n c h)

  rise : (i n j k : ℕ) → i < n → slice_get (acts ++ act.Join u b ∷ []) i ≡ Some (act.Fork (child x j))
      → slice_get (acts ++ act.Join u b ∷ []) n ≡ Some (act.Fork (child x k)) → j < k
  rise i n j k l h g = a.rise i n j k l (old i (child x j) h) (old n (child x k) g)

-- a fork more
pub fork_numbered : (x : Name) (m : ℕ) (acts : List Act) → AreNumbered x m acts
    → AreNumbered x (suc m) (acts ++ act.Fork (child x (suc m)) ∷ [])
fork_numbered x m acts a = record { own = own; rise = rise } where
  new : Act
  new = act.Fork (child x (suc m))

  Old : ℕ → Name → Type 0
  Old n c = (slice_get acts n ≡ Some (act.Fork c)) ⊎ ((n ≡ length acts) × (new ≡ act.Fork c))

  own : (n : ℕ) (c : Name) → slice_get (acts ++ act.Fork (child x (suc m)) ∷ []) n ≡ Some (act.Fork c)
      → (j : ℕ) × (c ≡ child x j) × (j ≤ suc m)
  own n c h = by (get_snoc acts new n (act.Fork c) h) where
    by : Old n c → (j : ℕ) × (c ≡ child x j) × (j ≤ suc m)
    by (inl e) = let r = a.own n c e in (r.0, r.1, let z = r.2 in omega (arith, z))
    by (inr e) = (suc m, sym (ap other e.1), omega arith)

  rise : (i n j k : ℕ) → i < n → slice_get (acts ++ act.Fork (child x (suc m)) ∷ []) i ≡ Some (act.Fork (child x j))
      → slice_get (acts ++ act.Fork (child x (suc m)) ∷ []) n ≡ Some (act.Fork (child x k)) → j < k
  rise i n j k l h g =
      by (get_snoc acts new i (act.Fork (child x j)) h) (get_snoc acts new n (act.Fork (child x k)) g) where
        by : Old i (child x j) → Old n (child x k) → j < k
        by (inl e) (inl f) = a.rise i n j k l e f
        by (inl e) (inr f) =
            let r = a.own i (child x j) e in
            let first = (child_same x x j r.0 r.1).1 in
            let last = (child_same x x (suc m) k (ap other f.1)).1 in
            let most = r.2 in omega (arith, first, last, most)
        by (inr e) (inl f) =
            let z = get_less acts n (act.Fork (child x k)) f in let y = e.0 in absurd (omega (arith, l, z, y))
        by (inr e) (inr f) = let y = e.0 in let z = f.0 in absurd (omega (arith, l, y, z))

module _ {B : Type 0} where
  -- an ask takes nothing back of what was made
  ask_step_makes : (strict : Bool) (p : Point B) (a : Ask B) (p' : Point B) → IsAskStep strict p a p' → p.made ≤ p'.made
  ask_step_makes strict p _ _ (fails a c) = omega arith
  ask_step_makes strict p _ _ (ends v) = omega arith
  ask_step_makes strict p _ _ makes = omega arith
  ask_step_makes strict p _ _ (forks b pass hand left e) = omega arith
  ask_step_makes strict p _ _ (sets k v s o) = omega arith
  ask_step_makes strict p _ _ (gets spare k s) = omega arith
  ask_step_makes strict p _ _ (joins spare k s o) = omega arith
  ask_step_makes strict p _ _ (prints n) = omega arith

  module _ (rules : Rules B) (W : Assignment) (x : Name) where
    -- what no act is added to
    still_numbered : (m n : ℕ) (acts : List Act) → m ≤ n → AreNumbered x m acts → AreNumbered x n (acts ++ [])
    still_numbered m n acts l a =
        subst (λ z. AreNumbered x n z) (sym (append-nil acts)) (more_numbered x m n acts l a)

    forks_numbered : (p : Point B) (b : B) (passed : List Reference) (handed : List Name) (acts : List Act)
        → p.name ≡ x → AreNumbered x p.made acts → (o : Result (List Name) Cause)
        → AreNumbered x (after_try_fork b passed handed o p).made (acts ++ fork_acts (next_name p) o)
    forks_numbered p b passed handed acts e a (Ok left) =
        subst (λ z. AreNumbered x (suc p.made) (acts ++ act.Fork (child z (suc p.made)) ∷ [])) (sym e)
        (fork_numbered x p.made acts a)
    forks_numbered p b passed handed acts e a (Err c) = still_numbered p.made p.made acts (omega arith) a

    joins_numbered : (m n : ℕ) (acts : List Act) → m ≤ n → AreNumbered x m acts → (s : Sort) (u : Name)
        → AreNumbered x n (acts ++ join_acts W s u)
    joins_numbered m n acts l a sort.Task u = join_numbered x n acts u (is_some (W u)) (more_numbered x m n acts l a)
    joins_numbered m n acts l a sort.Promise u = still_numbered m n acts l a

    ask_numbered : (p : Point B) (acts : List Act) → p.name ≡ x → AreNumbered x p.made acts → (a : Ask B)
        → p.made ≤ (after_ask rules.strict a p).made
        → AreNumbered x (after_ask rules.strict a p).made (acts ++ ask_acts W a p)
    ask_numbered p acts e n (ask.Fork b pass hand) l =
        forks_numbered p b (map (reference p) pass) (map (λ k. (reference p k).name) hand) acts e n
        (hand_all p.holds (map (reference p) hand))
    ask_numbered p acts e n (ask.Join k) l =
        joins_numbered p.made _ acts l n (reference p k).sort (reference p k).name
    ask_numbered p acts e n (ask.JoinOr k) l =
        joins_numbered p.made _ acts l n (reference p k).sort (reference p k).name
    ask_numbered p acts e n q l = still_numbered p.made _ acts l n

    look_makes : (spare : Bool) (q : Name) (o : Option Entry) (p : Point B)
        → p.made ≤ (after_look spare q o p).made
    look_makes spare q None p = omega arith
    look_makes true q (Some entry.Broken) p = omega arith
    look_makes false q (Some entry.Broken) p = omega arith
    look_makes spare q (Some (entry.Value (value.Num i))) p = omega arith
    look_makes spare q (Some (entry.Value (value.Ref r))) p = omega arith

    stage_numbered : (p : Point B) (acts : List Act) → p.name ≡ x → AreNumbered x p.made acts → (st : PointStage)
        → AreNumbered x (after_stage rules W st p).made (acts ++ stage_acts rules W st p)
    stage_numbered p acts e n (stage.Answered a) =
        let next : Point B = record p { body = rules.then p.body a } in
        let ask = rules.asks p.body a in
        subst (λ l. AreNumbered x (after_ask rules.strict ask next).made (acts ++ l))
        (other_body W ask p (rules.then p.body a))
        (ask_numbered next acts e n ask (ask_step_makes rules.strict next ask _ (is_ask_step rules.strict next ask)))
    stage_numbered p acts e n (stage.Waits q spare) =
        still_numbered p.made _ acts (look_makes spare q (W q) p) n
    stage_numbered p acts e n (stage.Closed c) = still_numbered p.made p.made acts (omega arith) n

  module _ (rules : Rules B) (W : Assignment) (t : Task B) where
    -- the forks of a history's first steps have the numbers 1 to what was made, and rise
    pub history_numbered : (k : ℕ) → AreNumbered t.name (point_after rules W k t).made (acts_within rules W k t)
    history_numbered zero = none_numbered t.name 0
    history_numbered (suc k) =
        let p = point_after rules W k t in
        stage_numbered rules W t.name p (acts_within rules W k t) (from_start rules W k t).5
        (history_numbered k) p.stage
