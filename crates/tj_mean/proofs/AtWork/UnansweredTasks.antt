-- Tasks that go on to where they end or first wait, and of which only the children are kept.
use Rattle.std.proofs.Common.{◌≡◌, ℕ, zero, suc, ◌+◌, ◌-◌, ◌<◌, ◌≤◌, ◌⊎◌, inl, inr, Bool, true, false, cond}
use Rattle.std.proofs.Common.{List, [], ◌∷◌, ◌++◌, map, length, get_or, Option, Some, None}
use Rattle.std.proofs.Common.{refl, sym, ap, ◌∙◌, subst, arith, append_assoc, length-append}
use Rattle.std.proofs.Math.Seq.{get_or-append_seam, set-append_seam}
use Rattle.std.proofs.lemmas.List.{map-append}
use Rattle.std.specs.Prelude.{slice_set}
use Rattle.tj_base.specs.ForkOrder.{Name}
use Rattle.tj_body.specs.History.{Assignment, after_look, after_stage, start}
use Rattle.tj_body.specs.Names.{same}
use Rattle.tj_body.specs.Points.{IsIn, IsProper, IsGood, HasStopped, weight}
use Rattle.tj_body.specs.Programs.{Rules, Program, AreLawful, root_task}
use Rattle.tj_body.specs.Rounds.{IsFull, entry_in}
use Rattle.tj_body.specs.declared.point.Entry.{Entry}
use Rattle.tj_body.specs.declared.point.PointStage.{PointStage}
use Rattle.tj_body.specs.declared.point.PointStage.TheVariants as stage
use Rattle.tj_body.specs.declared.point.Task.{Task}
use Rattle.tj_body.specs.declared.point.Point.{Point}
use Rattle.tj_body.proofs.Counts.{same_self, total_append}
use Rattle.tj_body.proofs.Rounds.Families.{from_entry}
use Rattle.tj_mean.specs.Inner.Reached.{steps_from, Reaches, Enters, emptied}
use Rattle.tj_mean.proofs.AtWork.TasksAtWork.{IsAtWork, steps_left, begins, good_here, full_here, goes_on, falls}

-- a list in which the cell stands says something of it
some_entry : (ws : List (Name × Entry)) (q : Name) (e : Entry) → IsIn (q, e) ws → (x : Entry) × (entry_in ws q ≡ Some x)
some_entry [] q e i = absurd i
some_entry (w ∷ ws) q e i = by (λ j. some_entry ws q e j) (same q w.0) refl i where
  by : (IsIn (q, e) ws → (x : Entry) × (entry_in ws q ≡ Some x)) → (b : Bool) → same q w.0 ≡ b → IsIn (q, e) (w ∷ ws)
      → (x : Entry) × (cond b (Some w.1) (entry_in ws q) ≡ Some x)
  by further true s i = (w.1, refl)
  by further false s (inl x) =
      let y : true ≡ false = sym (same_self q) ∙ (ap (λ (z : Name × Entry). same q z.0) x ∙ s) in absurd (cc)
  by further false s (inr j) = further j

-- what there is, or else the other
abbrev pub or_else : Option Entry → Option Entry → Option Entry
or_else None o = o
or_else (Some e) o = Some e

-- what had an entry keeps it, and what was written has one
abbrev pub with_writes : List (Name × Entry) → Assignment → Assignment
with_writes ws V q = or_else (V q) (entry_in ws q)

pub enters_writes : (ws : List (Name × Entry)) (V : Assignment) → Enters ws V (with_writes ws V)
enters_writes ws V = record { written = written; stays = stays; only = λ q e. only q e (V q) } where
  either : (o : Option Entry) (q : Name) (e : Entry) → IsIn (q, e) ws
      → (x : Entry) × (or_else o (entry_in ws q) ≡ Some x)
  either None q e i = some_entry ws q e i
  either (Some x) q e i = (x, refl)

  written : (q : Name) (e : Entry) → IsIn (q, e) ws → (x : Entry) × (with_writes ws V q ≡ Some x)
  written q e i = either (V q) q e i

  stays : (q : Name) (e : Entry) → V q ≡ Some e → (x : Entry) × (with_writes ws V q ≡ Some x)
  stays q e h = (e, ap (λ o. or_else o (entry_in ws q)) h)

  only : (q : Name) (e : Entry) (o : Option Entry) → or_else o (entry_in ws q) ≡ Some e
      → IsIn (q, e) ws ⊎ (o ≡ Some e)
  only q e None h = inl (from_entry ws q e h)
  only q e (Some x) h = inr h

module _ {B : Type 0} (rules : Rules B) (V W : Assignment) (none : (q : Name) → V q ≡ None) where
  same_or_stays : (s : PointStage) (p : Point B)
      → (after_stage rules V s p ≡ p) ⊎ (after_stage rules V s p ≡ after_stage rules W s p)
  same_or_stays (stage.Answered a) p = inr refl
  same_or_stays (stage.Waits q spare) p = inl (ap (λ o. after_look spare q o p) (none q))
  same_or_stays (stage.Closed e) p = inl refl

  -- where no wait is answered a task comes only to points to which it comes under any entries
  pub reaches_any : (p q : Point B) → Reaches rules V p q → Reaches rules W p q
  reaches_any p q r = subst (Reaches rules W p) (sym r.1) (by r.0) where
    by : (k : ℕ) → Reaches rules W p (steps_from rules V p k)
    by zero = (0, refl)
    by (suc k) =
        let z = steps_from rules V p k in
        on z (by k) (same_or_stays z.stage z)
      where
        on : (z : Point B) → Reaches rules W p z
            → (after_stage rules V z.stage z ≡ z) ⊎ (after_stage rules V z.stage z ≡ after_stage rules W z.stage z)
            → Reaches rules W p (after_stage rules V z.stage z)
        on z r (inl e) = subst (Reaches rules W p) (sym e) r
        on z r (inr e) = (suc r.0, e ∙ ap (λ (y : Point B). after_stage rules W y.stage y) r.1)

-- a task at its start hasn't stopped
pub start_goes : {B : Type 0} (V : Assignment) (t : Task B) → ¬ HasStopped V (start t)
start_goes V t (inl e) = let h = e.1 in absurd (cc)
start_goes V t (inr w) = let h = w.2 in absurd (cc)

module _ {B : Type 0} (program : Program B) where
  abbrev starts : List (Task B) → List (Point B)
  starts ts = map (λ t. start t) ts

  -- with the points that others came to, these tasks are at work, and so many cells may still be made
  pub record AreCounted (N : ℕ) (ts : List (Task B)) (room : ℕ) : Type 0 where
    pub taken : List (Point B)
    pub entered : Assignment
    pub at_work : IsAtWork program N entered (taken ++ starts ts) room

  -- the root begins
  pub counted_first : (N : ℕ) (ts : List (Task B)) (room : ℕ) → ts ≡ root_task program.root ∷ [] → suc room ≡ N
      → AreCounted N ts room
  counted_first N ts room e n = record {
    taken = [];
    entered = λ q. None;
    at_work = begins program N (λ q. None) (starts ts) room (λ q. refl) (ap starts e) n;
  }

  module _ (obeys : AreLawful program.rules) (proper : IsProper program.rules (root_task program.root)) (N : ℕ)
      (t : Task B) (ts : List (Task B)) (room : ℕ) (w : AreCounted N (t ∷ ts) room) where
    abbrev all : List (Point B)
    all = w.taken ++ starts (t ∷ ts)

    there : length w.taken < length all
    there = let l = length-append w.taken (starts (t ∷ ts)) in omega arith

    here : (d : Point B) → get_or all (length w.taken) d ≡ start t
    here d = get_or-append_seam w.taken (start t) (starts ts) d

    first_good : IsGood program.rules (start t)
    first_good = good_here program obeys proper N w.entered all room w.at_work (length w.taken) there (start t) here

    module _ (V : Assignment) (none : (q : Name) → V q ≡ None) (r : Point B)
        (reached : Reaches program.rules V (start t) r) where
      reached_so : Reaches program.rules w.entered (start t) r
      reached_so = reaches_any program.rules V w.entered none (start t) r reached

      first_full : room < r.made → IsFull program N
      first_full l = full_here program obeys proper N w.entered all room w.at_work (length w.taken) there (start t) here
          r reached_so (omega arith)

      -- it is taken, and its children come last
      module _ (left : ℕ) (few : left + r.made ≡ room) where
        abbrev taken_too : List (Point B)
        taken_too = w.taken ++ emptied r ∷ []

        abbrev rest : List (Point B)
        rest = taken_too ++ starts (ts ++ r.children)

        rest_is : rest ≡ slice_set all (length w.taken) (emptied r) ++ starts r.children
        rest_is =
            ap (λ l. taken_too ++ l) (map-append (λ t. start t) ts r.children)
            ∙ append_assoc w.taken (emptied r ∷ []) (starts ts ++ starts r.children)
            ∙ sym (append_assoc w.taken (emptied r ∷ starts ts) (starts r.children))
            ∙ ap (λ l. l ++ starts r.children) (sym (set-append_seam w.taken (start t) (starts ts) (emptied r)))

        counted_next : AreCounted N (ts ++ r.children) left
        counted_next = record {
          taken = taken_too;
          entered = with_writes r.writes w.entered;
          at_work = goes_on program obeys proper N w.entered all room w.at_work (length w.taken) there (start t) here
              r reached_so rest (with_writes r.writes w.entered) left rest_is (enters_writes r.writes w.entered)
              (omega arith);
        }

        counted_falls : weight program.rules.left r < weight program.rules.left (start t)
            → steps_left program.rules.left (starts (ts ++ r.children)) left
            < steps_left program.rules.left (starts (t ∷ ts)) room
        counted_falls l =
            let a = falls program obeys proper N w.entered all room w.at_work (length w.taken) there (start t) here
            r reached_so rest (with_writes r.writes w.entered) left rest_is (enters_writes r.writes w.entered)
            (omega arith) l in
            let b = total_append (weight program.rules.left) w.taken (starts (t ∷ ts)) in
            let c = total_append (weight program.rules.left) taken_too (starts (ts ++ r.children)) in
            let d = total_append (weight program.rules.left) w.taken (emptied r ∷ []) in
            omega arith

  -- the same, as the code has it
  module _ (obeys : AreLawful program.rules) (proper : IsProper program.rules (root_task program.root)) (N : ℕ)
      (us : List (Task B)) (room : ℕ) (w : AreCounted N us room) (t : Task B) (ts : List (Task B)) (first : us ≡ t ∷ ts)
      (p : Point B) (begins : p ≡ start t) where
    w_first : AreCounted N (t ∷ ts) room
    w_first = subst (λ l. AreCounted N l room) first w

    -- the first task can go on
    pub unanswered_good : IsGood program.rules p
    unanswered_good = subst (IsGood program.rules) (sym begins) (first_good obeys proper N t ts room w_first)

    module _ (V : Assignment) (none : (q : Name) → V q ≡ None) (r : Point B)
        (reached : Reaches program.rules V p r) where
      reached_first : Reaches program.rules V (start t) r
      reached_first = subst (λ z. Reaches program.rules V z r) begins reached

      -- it has made more than there may be
      pub unanswered_full : room < r.made → IsFull program N
      unanswered_full l = first_full obeys proper N t ts room w_first V none r reached_first l

      module _ (cs : List (Task B)) (cs_are : cs ≡ r.children) (vs : List (Task B)) (vs_are : vs ≡ ts ++ cs)
          (fits : r.made ≤ room) where
        vs_same : vs ≡ ts ++ r.children
        vs_same = vs_are ∙ ap (λ l. ts ++ l) cs_are

        -- the others and its children are still to be taken
        pub unanswered_next : AreCounted N vs (room - r.made)
        unanswered_next = subst (λ l. AreCounted N l (room - r.made)) (sym vs_same)
            (counted_next obeys proper N t ts room w_first V none r reached_first (room - r.made) (omega arith))

        -- and fewer steps are left
        pub unanswered_falls : (¬ HasStopped V p → weight program.rules.left r < weight program.rules.left p)
            → steps_left program.rules.left (starts vs) (room - r.made)
            < steps_left program.rules.left (starts us) room
        unanswered_falls nearer =
            let left = program.rules.left in
            let l = subst (λ z. weight left r < weight left z) begins
            (nearer (subst (λ z. ¬ HasStopped V z) (sym begins) (start_goes V t))) in
            let h = counted_falls obeys proper N t ts room w_first V none r reached_first (room - r.made) (omega arith)
            l in
            subst (λ k. steps_left left (starts k) (room - r.made) < steps_left left (starts us) room) (sym vs_same)
            (subst (λ k. steps_left left (starts (ts ++ r.children)) (room - r.made) < steps_left left (starts k) room)
            (sym first) h)
