-- Each name that a task holds, has written or handed on is one that it was handed, its own, or one that it made,
-- as often.
use Rattle.std.proofs.Common.{◌≡◌, ℕ, zero, suc, ◌+◌, Bool, true, false, List, [], ◌∷◌, map}
use Rattle.std.proofs.Common.{Option, Some, None, refl, ap, subst, arith}
use Rattle.tj_base.specs.ForkOrder.{Name, child}
use Rattle.tj_base.specs.declared.cause.Cause.TheVariants as cause
use Rattle.tj_body.specs.Names.{in_order}
use Rattle.tj_body.specs.Programs.{Rules}
use Rattle.tj_body.specs.History.{Assignment, reference, reference_at, value_at, with_entry, owned_in}
use Rattle.tj_body.specs.History.{owned}
use Rattle.tj_body.specs.History.{after_close, next_name, next_child}
use Rattle.tj_body.specs.History.{after_read, after_look, after_stage, point_after}
use Rattle.tj_body.specs.Inner.AskSteps.{IsAskStep, fails, ends, makes, forks, sets, gets, joins, prints}
use Rattle.tj_body.specs.declared.ask.Ask.{Ask}
use Rattle.tj_body.specs.declared.point.Reference.{Reference}
use Rattle.tj_body.specs.declared.point.Value.TheVariants as value
use Rattle.tj_body.specs.declared.point.Entry.{Entry}
use Rattle.tj_body.specs.declared.point.Entry.TheVariants as entry
use Rattle.tj_body.specs.declared.point.Close.{Close}
use Rattle.tj_body.specs.declared.point.Close.TheVariants as close
use Rattle.tj_body.specs.declared.point.PointStage.{PointStage}
use Rattle.tj_body.specs.declared.point.PointStage.TheVariants as stage
use Rattle.tj_body.specs.declared.point.Task.{Task}
use Rattle.tj_body.specs.declared.point.Point.{Point}
use Rattle.tj_body.proofs.Histories.AskSteps.{is_ask_step}
use Rattle.tj_body.proofs.Counts.{is, total, times, wrote, total_append, times_without, times_in_order, wrote_all}
use Rattle.tj_body.proofs.Counts.{times_hand_all}

-- the things that x made, newest first
abbrev pub numbered : Name → ℕ → List Name
numbered x zero = []
numbered x (suc k) = child x (suc k) ∷ numbered x k

names_of : (x : Name) (references : List Reference) (l : List ℕ)
    → map (λ (r : Reference). r.name) (map (reference_at x references) l)
    ≡ map (λ k. (reference_at x references k).name) l
names_of x references [] = refl
names_of x references (k ∷ ks) = ap (λ z. (reference_at x references k).name ∷ z) (names_of x references ks)

-- f is any number that a name has
module _ {B : Type 0} (q : Name) (f : Name → ℕ) where
  -- how often q is handed to a task
  abbrev pub handed_to : Task B → ℕ
  handed_to t = times q t.handed

  -- what f gives for the name of a task
  abbrev pub named : Task B → ℕ
  named t = f t.name

  -- what is owned, o times q, is neither written nor handed on, and was handed or made here; h times q was handed
  abbrev pub IsBalanced : ℕ → Point B → ℕ → Type 0
  IsBalanced h p o = o + (wrote q p.writes + total handed_to p.children) ≡ h + (times q p.promises + is q p.name)

  -- children and promises are the things made
  abbrev pub IsMade : Point B → Type 0
  IsMade p = total named p.children + total f p.promises ≡ total f (numbered p.name p.made)

  -- the account of a point
  abbrev pub IsFair : ℕ → Point B → Type 0
  IsFair h p = IsBalanced h p (times q (owned p)) × IsMade p

  -- the account of a point that is about to go on
  abbrev pub IsOpen : ℕ → Point B → Type 0
  IsOpen h p = IsBalanced h p (is q p.name + times q p.holds) × IsMade p

  module _ (h : ℕ) where
    closes : (e : Close) (r : Entry) (p : Point B) → IsOpen h p → IsFair h (after_close e r p)
    closes e r p o =
        let a = o.0 in
        let broken = map (with_entry entry.Broken) (in_order p.holds) in
        let b = total_append (λ (w : Name × Entry). is q w.0) p.writes ((p.name, r) ∷ broken) in
        let c = wrote_all q entry.Broken (in_order p.holds) in
        let d = times_in_order q p.holds in
        (omega arith, o.1)

    reads : (spare : Bool) (c : Name) (e : Entry) (p : Point B) → IsOpen h p → IsFair h (after_read spare c e p)
    reads true c entry.Broken p o = o
    reads false c entry.Broken p o = closes (close.Failed (cause.Broken c)) entry.Broken p o
    reads spare c (entry.Value (value.Num i)) p o = o
    reads spare c (entry.Value (value.Ref r)) p o = o

    -- an ask keeps the account
    ask_steps : (strict : Bool) (p : Point B) (a : Ask B) (p' : Point B) → IsAskStep strict p a p' → IsOpen h p
        → IsFair h p'
    ask_steps strict p _ _ (fails a c) o = closes (close.Failed c) entry.Broken p o
    ask_steps strict p _ _ (ends v) o =
        let w = value_at p.name p.references v in closes (close.Done w) (entry.Value w) p o
    ask_steps strict p _ _ makes o =
        let a = o.0 in
        let b = o.1 in
        let x = total_append (is q) p.holds (next_name p ∷ []) in
        let y = total_append (is q) p.promises (next_name p ∷ []) in
        let z = total_append f p.promises (next_name p ∷ []) in
        (omega arith, omega arith)
    ask_steps strict p _ _ (forks b pass hand l e) o =
        let a = o.0 in
        let c = o.1 in
        let k = next_child b (map (reference p) pass) (map (λ k. (reference p k).name) hand) p in
        let x = total_append handed_to p.children (k ∷ []) in
        let y = total_append named p.children (k ∷ []) in
        let d = times_hand_all q p.holds (map (reference p) hand) l e in
        let n = ap (times q) (names_of p.name p.references hand) in
        (omega arith, omega arith)
    ask_steps strict p _ _ (sets k v s e) o =
        let c = (reference p k).name in
        let a = o.0 in
        let b = total_append (λ (w : Name × Entry). is q w.0) p.writes
        ((c, entry.Value (value_at p.name p.references v)) ∷ []) in
        let d = times_without q c p.holds e in
        (omega arith, o.1)
    ask_steps strict p _ _ (gets spare k s) o = o
    ask_steps strict p _ _ (joins spare k s e) o = o
    ask_steps strict p _ _ (prints i) o = o

    looks : (spare : Bool) (c : Name) (o : Option Entry) (p : Point B) → p.stage ≡ stage.Waits c spare → IsFair h p
        → IsFair h (after_look spare c o p)
    looks spare c None p g f = f
    looks spare c (Some e) p g f =
        reads spare c e p (subst (λ z. IsBalanced h p (times q (owned_in z p.name p.holds))) g f.0, f.1)

    module _ (rules : Rules B) where
      goes : (V : Assignment) (st : PointStage) (p : Point B) → p.stage ≡ st → IsFair h p
          → IsFair h (after_stage rules V st p)
      goes V (stage.Answered a) p g f =
          let ask = rules.asks p.body a in let next : Point B = record p { body = rules.then p.body a } in
          ask_steps rules.strict next ask _ (is_ask_step rules.strict next ask)
          (subst (λ z. IsBalanced h p (times q (owned_in z p.name p.holds))) g f.0, f.1)
      goes V (stage.Waits c spare) p g f = looks spare c (V c) p g f
      goes V (stage.Closed e) p g f = f

  -- of every point
  pub fair : (rules : Rules B) (V : Assignment) (k : ℕ) (t : Task B)
      → IsFair (times q t.handed) (point_after rules V k t)
  fair rules V zero t = (omega arith, refl)
  fair rules V (suc k) t =
      let p = point_after rules V k t in
      goes (times q t.handed) rules V p.stage p refl (fair rules V k t)
