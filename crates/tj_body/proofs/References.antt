-- Each reference of a point of the rounds is to a task or a promise: it is to the task itself, was passed, is to what
-- the task has made, or was written by a task of a round.
use Rattle.std.proofs.Common.{◌≡◌, ℕ, zero, suc, ◌*◌, Bool, true, false, inl, inr, ⊎_elim, List, [], ◌∷◌, ◌++◌, map}
use Rattle.std.proofs.Common.{Option, Some, None, refl, sym, subst}
use Rattle.tj_base.specs.ForkOrder.{Name}
use Rattle.tj_base.specs.declared.cell.Sort.{Sort}
use Rattle.tj_base.specs.declared.cell.Sort.TheVariants as sort
use Rattle.tj_base.specs.declared.value.Pay.{Pay}
use Rattle.tj_base.specs.declared.value.Pay.TheVariants as pay
use Rattle.tj_body.specs.Names.{in_order}
use Rattle.tj_body.specs.Programs.{Rules, Program, AreLawful, root_task}
use Rattle.tj_body.specs.History.{Assignment, to_task, with_entry, reference_at, reference, value_at, next_name}
use Rattle.tj_body.specs.History.{next_child, after_read, after_look, after_stage, point_after, history}
use Rattle.tj_body.specs.Rounds.{family, writes_by, given, tasks}
use Rattle.tj_body.specs.Points.{IsIn, IsProper}
use Rattle.tj_body.specs.RoundPoints.{IsNamed}
use Rattle.tj_body.specs.Inner.AskSteps.{IsAskStep, fails, ends, makes, forks, sets, gets, joins, prints}
use Rattle.tj_body.specs.declared.ask.Ask.{Ask}
use Rattle.tj_body.specs.declared.point.Reference.{Reference}
use Rattle.tj_body.specs.declared.point.Value.{Value}
use Rattle.tj_body.specs.declared.point.Value.TheVariants as value
use Rattle.tj_body.specs.declared.point.Entry.{Entry}
use Rattle.tj_body.specs.declared.point.Entry.TheVariants as entry
use Rattle.tj_body.specs.declared.point.PointStage.{PointStage}
use Rattle.tj_body.specs.declared.point.PointStage.TheVariants as stage
use Rattle.tj_body.specs.declared.point.Task.{Task}
use Rattle.tj_body.specs.declared.point.Point.{Point}
use Rattle.tj_body.proofs.Lists.{in_either, in_right, in_flat_map, from_flat_map, in_map}
use Rattle.tj_body.proofs.Histories.AskSteps.{is_ask_step}
use Rattle.tj_body.proofs.Rounds.Rises.{in_entries}
use Rattle.tj_body.proofs.Rounds.Keeps.{forked}

-- what is said of each reference
module _ (Named : Sort → Name → Type 0) where
  abbrev pub AllNamed : List Reference → Type 0
  AllNamed rs = (r : Reference) → IsIn r rs → Named r.sort r.name

  abbrev pub IsNamedValue : Value → Type 0
  IsNamedValue (value.Num i) = Unit {0}
  IsNamedValue (value.Ref r) = Named r.sort r.name

  abbrev pub IsNamedEntry : Entry → Type 0
  IsNamedEntry entry.Broken = Unit {0}
  IsNamedEntry (entry.Value v) = IsNamedValue v

  abbrev pub AllWritten : List (Name × Entry) → Type 0
  AllWritten writes = (q : Name) (e : Entry) → IsIn (q, e) writes → IsNamedEntry e

  one_more : (rs : List Reference) (r : Reference) → AllNamed rs → Named r.sort r.name → AllNamed (rs ++ r ∷ [])
  one_more rs r h n x i = ⊎_elim (λ j. h x j) (λ j. last j) (in_either x rs (r ∷ []) i) where
    last : IsIn x (r ∷ []) → Named x.sort x.name
    last (inl e) = subst (λ (z : Reference). Named z.sort z.name) (sym e) n
    last (inr k) = absurd k

  broken : (l : List Name) → AllWritten (map (with_entry entry.Broken) l)
  broken [] q e i = absurd i
  broken (x ∷ xs) q e (inl h) =
      subst (λ (z : Name × Entry). IsNamedEntry z.1) (sym h) tt
  broken (x ∷ xs) q e (inr h) = broken xs q e h

  -- what is written after other entries
  further : (l m : List (Name × Entry)) (c : Name) (r : Entry) → AllWritten l → IsNamedEntry r → AllWritten m
      → AllWritten (l ++ (c, r) ∷ m)
  further l m c r h n g q e i = ⊎_elim (λ j. h q e j) (λ j. later j) (in_either (q, e) l ((c, r) ∷ m) i) where
    later : IsIn (q, e) ((c, r) ∷ m) → IsNamedEntry e
    later (inl k) = subst (λ (z : Name × Entry). IsNamedEntry z.1) (sym k) n
    later (inr k) = g q e k

  -- the reference at a place of a task that has a name of its own
  pub at_place : (x : Name) (rs : List Reference) (k : ℕ) → Named sort.Task x → AllNamed rs
      → Named (reference_at x rs k).sort (reference_at x rs k).name
  at_place x [] k n h = n
  at_place x (r ∷ rs) zero n h = h r (inl refl)
  at_place x (r ∷ rs) (suc k) n h = at_place x rs k n (λ y i. h y (inr i))

  value_named : (x : Name) (rs : List Reference) (v : Pay) → Named sort.Task x → AllNamed rs
      → IsNamedValue (value_at x rs v)
  value_named x rs (pay.Num i) n h = tt
  value_named x rs (pay.Ref k) n h = at_place x rs k n h

  passed_named : (x : Name) (rs : List Reference) (l : List ℕ) → Named sort.Task x → AllNamed rs
      → AllNamed (map (reference_at x rs) l)
  passed_named x rs l n h r i =
      let p = in_map (reference_at x rs) r l i in
      subst (λ (z : Reference). Named z.sort z.name) (sym p.2) (at_place x rs p.0 n h)

  module _ {B : Type 0} where
    -- the task itself, all its references, those of its children, and those that it has written
    abbrev pub HasNamed : Point B → Type 0
    HasNamed p = Named sort.Task p.name × AllNamed p.references
        × ((c : Task B) → IsIn c p.children → AllNamed c.passed) × AllWritten p.writes

    -- what it has made
    abbrev pub HasNamedThings : Point B → Type 0
    HasNamedThings p = ((q : Name) → IsIn q p.promises → Named sort.Promise q)
        × ((c : Task B) → IsIn c p.children → Named sort.Task c.name)

    closes : (p : Point B) (r : Entry) → HasNamed p → IsNamedEntry r
        → AllWritten (p.writes ++ (p.name, r) ∷ map (with_entry entry.Broken) (in_order p.holds))
    closes p r h n =
        further p.writes (map (with_entry entry.Broken) (in_order p.holds)) p.name r h.3 n (broken (in_order p.holds))

    -- an ask keeps it, where what it makes is named
    ask_steps : (strict : Bool) (p : Point B) (a : Ask B) (p' : Point B) → IsAskStep strict p a p' → HasNamed p
        → HasNamedThings p' → HasNamed p'
    ask_steps strict p _ _ (fails a c) h t = (h.0, h.1, h.2, closes p entry.Broken h tt)
    ask_steps strict p _ _ (ends v) h t = (
      h.0,
      h.1,
      h.2,
      closes p (entry.Value (value_at p.name p.references v)) h
          (value_named p.name p.references v h.0 h.1),
    )
    ask_steps strict p _ _ makes h t = (
      h.0,
      one_more p.references _ h.1 (t.0 (next_name p) (in_right (next_name p) p.promises _ (inl refl))),
      h.2,
      h.3,
    )
    ask_steps strict p _ _ (forks b pass hand l e) h t = (
      h.0,
      one_more p.references (to_task (next_name p)) h.1 (t.1 child (in_right child p.children _ (inl refl))),
      λ c i. ⊎_elim (λ j. h.2 c j) (λ j. newest c j) (in_either c p.children _ i),
      h.3,
    ) where
      child : Task B
      child = next_child b (map (reference p) pass) (map (λ k. (reference p k).name) hand) p

      newest : (c : Task B) → IsIn c (child ∷ []) → AllNamed c.passed
      newest c (inl e) =
          subst (λ (z : Task B). AllNamed z.passed) (sym e) (passed_named p.name p.references pass h.0 h.1)
      newest c (inr j) = absurd j
    ask_steps strict p _ _ (sets k v s o) h t = (
      h.0,
      h.1,
      h.2,
      further p.writes [] _ (entry.Value (value_at p.name p.references v)) h.3
          (value_named p.name p.references v h.0 h.1) (λ q x i. absurd i),
    )
    ask_steps strict p _ _ step h t = h

    reads : (spare : Bool) (c : Name) (x : Entry) (p : Point B) → HasNamed p → IsNamedEntry x
        → HasNamed (after_read spare c x p)
    reads true c entry.Broken p h n = h
    reads false c entry.Broken p h n = (h.0, h.1, h.2, closes p entry.Broken h tt)
    reads spare c (entry.Value (value.Num i)) p h n = h
    reads spare c (entry.Value (value.Ref r)) p h n = (h.0, one_more p.references r h.1 n, h.2, h.3)

    looks : (spare : Bool) (c : Name) (o : Option Entry) (p : Point B) → HasNamed p
        → ((x : Entry) → o ≡ Some x → IsNamedEntry x) → HasNamed (after_look spare c o p)
    looks spare c None p h n = h
    looks spare c (Some x) p h n = reads spare c x p h (n x refl)

    goes : (rules : Rules B) (V : Assignment) → ((q : Name) (e : Entry) → V q ≡ Some e → IsNamedEntry e)
        → (st : PointStage) (p : Point B) → HasNamed p → HasNamedThings (after_stage rules V st p)
        → HasNamed (after_stage rules V st p)
    goes rules V n (stage.Answered a) p h t =
        let b = rules.asks p.body a in let next : Point B = record p { body = rules.then p.body a } in
        ask_steps rules.strict next b _ (is_ask_step rules.strict next b) h t
    goes rules V n (stage.Waits q spare) p h t = looks spare q (V q) p h (n q)
    goes rules V n (stage.Closed e) p h t = h

  -- the cell of a wait
  abbrev pub WaitsNamed : PointStage → Type 0
  WaitsNamed (stage.Answered a) = Unit {0}
  WaitsNamed (stage.Waits q spare) = (s : Sort) × Named s q
  WaitsNamed (stage.Closed e) = Unit {0}

  module _ {B : Type 0} where
    ask_steps_wait : (strict : Bool) (p : Point B) (a : Ask B) (p' : Point B) → IsAskStep strict p a p' → HasNamed p
        → WaitsNamed p'.stage
    ask_steps_wait strict p _ _ (fails a c) h = tt
    ask_steps_wait strict p _ _ (ends v) h = tt
    ask_steps_wait strict p _ _ makes h = tt
    ask_steps_wait strict p _ _ (forks b pass hand l e) h = tt
    ask_steps_wait strict p _ _ (sets k v s o) h = tt
    ask_steps_wait strict p _ _ (gets spare k s) h = ((reference p k).sort, at_place p.name p.references k h.0 h.1)
    ask_steps_wait strict p _ _ (joins spare k s o) h = ((reference p k).sort, at_place p.name p.references k h.0 h.1)
    ask_steps_wait strict p _ _ (prints i) h = tt

    reads_wait : (spare : Bool) (c : Name) (x : Entry) (p : Point B) → WaitsNamed (after_read spare c x p).stage
    reads_wait true c entry.Broken p = tt
    reads_wait false c entry.Broken p = tt
    reads_wait spare c (entry.Value (value.Num i)) p = tt
    reads_wait spare c (entry.Value (value.Ref r)) p = tt

    looks_wait : (spare : Bool) (c : Name) (o : Option Entry) (p : Point B) → WaitsNamed p.stage
        → WaitsNamed (after_look spare c o p).stage
    looks_wait spare c None p h = h
    looks_wait spare c (Some x) p h = reads_wait spare c x p

    goes_wait : (rules : Rules B) (V : Assignment) (st : PointStage) (p : Point B) → HasNamed p → WaitsNamed p.stage
        → WaitsNamed (after_stage rules V st p).stage
    goes_wait rules V (stage.Answered a) p h w =
        let b = rules.asks p.body a in let next : Point B = record p { body = rules.then p.body a } in
        ask_steps_wait rules.strict next b _ (is_ask_step rules.strict next b) h
    goes_wait rules V (stage.Waits q spare) p h w = looks_wait spare q (V q) p w
    goes_wait rules V (stage.Closed e) p h w = w

module _ {B : Type 0} (program : Program B) (obeys : AreLawful program.rules)
    (proper : IsProper program.rules (root_task program.root)) where
  abbrev V : ℕ → Assignment
  V n = given program n

  abbrev Named : Sort → Name → Type 0
  Named s x = IsNamed program s x

  -- what a round says of the cells
  abbrev IsNamedGiven : ℕ → Type 0
  IsNamedGiven n = (q : Name) (e : Entry) → V n q ≡ Some e → IsNamedEntry Named e

  points : (n : ℕ) → IsNamedGiven n → (t : Task B) → IsIn t (tasks program (suc n)) → AllNamed Named t.passed
      → (k : ℕ) → HasNamed Named (point_after program.rules (V n) k t)
  points n h t i c zero = (own, one, (λ x j. absurd j), (λ q e j. absurd j)) where
    own : Named sort.Task t.name
    own = (t, (suc n, i), refl)

    one : AllNamed Named (to_task t.name ∷ t.passed)
    one r (inl e) = subst (λ (z : Reference). Named z.sort z.name) (sym e) own
    one r (inr j) = c r j
  points n h t i c (suc k) =
      let p = point_after program.rules (V n) k t in
      let next = point_after program.rules (V n) (suc k) t in
      goes Named program.rules (V n) h p.stage p (points n h t i c k) (
        (λ q j. (next, (t, (suc n, i), (n, (suc k, refl))), j)),
        (λ x j. (x, (suc (suc n), forked program obeys proper n t next i (suc k, refl) x j), refl)),
      )

  in_family : (n : ℕ) → IsNamedGiven n → (d : ℕ) (t : Task B)
      → ((c : Task B) → IsIn c (family program.rules (V n) d t) → IsIn c (tasks program (suc n)))
      → AllNamed Named t.passed → (c : Task B) → IsIn c (family program.rules (V n) d t) → AllNamed Named c.passed
  in_family n h zero t s k c (inl e) = subst (λ (z : Task B). AllNamed Named z.passed) (sym e) k
  in_family n h zero t s k c (inr i) = absurd i
  in_family n h (suc d) t s k c (inl e) = subst (λ (z : Task B). AllNamed Named z.passed) (sym e) k
  in_family n h (suc d) t s k c (inr i) =
      let children = (history program.rules (V n) t).children in
      let f = from_flat_map (family program.rules (V n) d) c children i in
      let p = points n h t (s t (inl refl)) k (2 * suc (program.rules.left t.body)) in
      in_family n h d f.0
      (λ x j. s x (inr (in_flat_map (family program.rules (V n) d) f.0 x children f.1 j))) (p.2 f.0 f.1) c f.2

  passed : (n : ℕ) → IsNamedGiven n → (t : Task B) → IsIn t (tasks program (suc n)) → AllNamed Named t.passed
  passed n h t i = in_family n h (suc n) (root_task program.root) (λ c j. j) (λ r j. absurd j) t i

  named_given : (n : ℕ) → IsNamedGiven n
  named_given zero q e h = absurd (cc)
  named_given (suc n) q e h =
      let i = in_entries program (suc n) q e h in
      let f = from_flat_map (writes_by program.rules (V n)) (q, e) (tasks program (suc n)) i in
      let g = named_given n in
      (points n g f.0 f.1 (passed n g f.0 f.1) (2 * suc (program.rules.left f.0.body))).3 q e f.2

  -- all references of a point are named
  pub has_named : (n : ℕ) (t : Task B) → IsIn t (tasks program (suc n)) → (k : ℕ)
      → HasNamed Named (point_after program.rules (V n) k t)
  has_named n t i k = let g = named_given n in points n g t i (passed n g t i) k

  -- and so is the cell that a task waits for
  pub waits_named : (n : ℕ) (t : Task B) → IsIn t (tasks program (suc n)) → (k : ℕ)
      → WaitsNamed Named (point_after program.rules (V n) k t).stage
  waits_named n t i zero = tt
  waits_named n t i (suc k) =
      let p = point_after program.rules (V n) k t in
      goes_wait Named program.rules (V n) p.stage p (has_named n t i k) (waits_named n t i k)
