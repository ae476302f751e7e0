-- Tasks at work: points and entries of rounds, of which nothing is lost and nothing stands twice.
use Rattle.std.proofs.Common.{◌≡◌, ℕ, suc, ◌+◌, ◌*◌, ◌<◌, ◌≤◌, ◌⊎◌, inl, inr, List, [], ◌∷◌, ◌++◌, map, length}
use Rattle.std.proofs.Common.{get_or, Some, None, Option, refl, sym, ap, ◌∙◌, subst, arith}
use Rattle.std.specs.Prelude.{slice_set, slice_get}
use Rattle.tj_base.specs.ForkOrder.{Name}
use Rattle.tj_body.specs.Asks.{most_left}
use Rattle.tj_body.specs.History.{Assignment, history, start}
use Rattle.tj_body.specs.Points.{IsIn, IsProper, IsGood, IsGoodAt, HasStopped, IsAtRest, weight}
use Rattle.tj_body.specs.Programs.{Rules, Program, AreLawful, root_task}
use Rattle.tj_body.specs.RoundPoints.{Becomes, IsOfRounds}
use Rattle.tj_body.specs.Rounds.{given, tasks, cells, last_round, meaning, IsFull}
use Rattle.tj_body.specs.declared.point.Entry.{Entry}
use Rattle.tj_body.specs.declared.point.PointStage.{PointStage}
use Rattle.tj_body.specs.declared.point.PointStage.TheVariants as stage
use Rattle.tj_body.specs.declared.point.Task.{Task}
use Rattle.tj_body.specs.declared.point.Point.{Point}
use Rattle.tj_body.proofs.Counts.{is, times, times_map, total, total_append}
use Rattle.tj_body.proofs.Lists.{in_either, in_right, in_map, to_map}
use Rattle.tj_body.proofs.RoundPoints.{points_are_good, tasks_start, things_in_rounds, writes_become}
use Rattle.tj_body.proofs.Rounds.Rests.{rests}
use Rattle.tj_body.proofs.Rounds.Settles.{is_last}
use Rattle.tj_mean.specs.Inner.KeptPoints.{IsKept, AreKept}
use Rattle.tj_mean.specs.Inner.Reached.{Reaches, Enters, emptied}
use Rattle.tj_mean.specs.Inner.ToldOrder.{AreRestOf, AreEntriesOf}
use Rattle.tj_mean.proofs.AtWork.CellCounts.{names_of, names_at, forked, made_by, cells_at, AreNamed, cells_length, full_at}
use Rattle.tj_mean.proofs.AtWork.CellCounts.{names_distinct, name_there, promise_there, root_there, child_there}
use Rattle.tj_mean.proofs.Lists.Elements.{in_get, get_in}
use Rattle.tj_mean.proofs.AtWork.Fronts.{with_front}
use Rattle.tj_mean.proofs.AtWork.KeptPoints.{in_set, in_at, total_set, kept_at, kept_set, kept_append}
use Rattle.tj_mean.proofs.AtWork.KeptPoints.{kept_starts, kept_length, kept_made, kept_bodies, kept_stopped, kept_front}
use Rattle.tj_mean.proofs.AtWork.KeptPoints.{kept_emptied}
use Rattle.tj_mean.proofs.Lists.KeyedLists.{same_permuted}
use Rattle.tj_mean.proofs.MeaningNames.{meaning_distinct}
use Rattle.tj_mean.proofs.AtWork.PointSteps.{front_reaches, good_reaches, grows, same_task, rounds_reach}

-- the most steps that a task makes from its start
abbrev most_weight : ℕ
most_weight = 2 * most_left + 2

-- how many steps are left at most, where so many cells may still be made
abbrev pub steps_left : {B : Type 0} → (B → ℕ) → List (Point B) → ℕ → ℕ
steps_left left qs room = most_weight * room + total (weight left) qs

module _ {B : Type 0} where
  -- whether a task can go on doesn't hang on what was handed on
  pub unfront : (rules : Rules B) (cs : List (Task B)) (ws : List (Name × Entry)) (q : Point B) (s : PointStage)
      → IsGoodAt rules s (with_front cs ws q) → IsGoodAt rules s q
  unfront rules cs ws q (stage.Answered a) g =
      record { fits = g.fits; all_places = g.all_places; room = g.room }
  unfront rules cs ws q (stage.Waits x spare) g =
      record { awaits_cell = g.awaits_cell; all_places = g.all_places; room = g.room }
  unfront rules cs ws q (stage.Closed e) g = tt

  pub times_names : (q : Name) (cs ds : List (Task B))
      → times q (names_of (cs ++ ds)) ≡ times q (names_of cs) + times q (names_of ds)
  times_names q cs ds =
      let a = times_map (λ (c : Task B). c.name) q cs in
      let b = times_map (λ (c : Task B). c.name) q ds in
      let c = times_map (λ (c : Task B). c.name) q (cs ++ ds) in
      let d = total_append (λ (c : Task B). is q c.name) cs ds in
      omega arith

  abbrev starts : List (Task B) → List (Point B)
  starts cs = map (λ c. start c) cs

  pub starts_names : (cs : List (Task B)) → names_at (starts cs) ≡ names_of cs
  starts_names [] = refl
  starts_names (c ∷ cs) = ap (λ l. c.name ∷ l) (starts_names cs)

  pub starts_forked : (q : Name) (cs : List (Task B)) → forked q (starts cs) ≡ 0
  starts_forked q [] = refl
  starts_forked q (c ∷ cs) = let h = starts_forked q cs in omega arith

  starts_made : (cs : List (Task B)) → made_by (starts cs) ≡ 0
  starts_made [] = refl
  starts_made (c ∷ cs) = let h = starts_made cs in omega arith

  -- what is left of a point weighs as much
  emptied_weight : (left : B → ℕ) (q : Point B) → weight left (emptied q) ≡ weight left q
  emptied_weight left q = refl

  emptied_made : (q : Point B) → (emptied q).made ≡ q.made
  emptied_made q = refl

  starts_weight : (rules : Rules B) (cs : List (Task B)) → ((c : Task B) → IsIn c cs → IsProper rules c)
      → total (weight rules.left) (starts cs) ≤ most_weight * length cs
  starts_weight rules [] h = omega arith
  starts_weight rules (c ∷ cs) h =
      let a = (h c (inl refl)).fresh.ends in
      let b = starts_weight rules cs (λ d i. h d (inr i)) in
      omega arith

module _ {B : Type 0} (program : Program B) where
  -- the points are of rounds, each child is one of the tasks or pending, and what has an entry has it in some round
  pub record Stand (E : Assignment) (ps : List (Point B)) (pending : List Name) : Type 0 where
    pub of_rounds : (p : Point B) → IsIn p ps → IsOfRounds program p
    pub named : AreNamed ps pending
    pub entered : (q : Name) (e : Entry) → E q ≡ Some e → Becomes program q e

  -- what was written has an entry
  abbrev pub AreWritten : Assignment → List (Point B) → Type 0
  AreWritten E ps = (p : Point B) (q : Name) (e : Entry) → IsIn p ps → IsIn (q, e) p.writes
      → (x : Entry) × (E q ≡ Some x)

  -- the kept points stand for points so, and so many cells may still be made
  pub record IsAtWork (N : ℕ) (E : Assignment) (qs : List (Point B)) (room : ℕ) : Type 0 where
    pub whole : List (Point B)
    pub kept : AreKept qs whole
    pub stand : Stand E whole []
    pub written : AreWritten E whole
    pub counted : suc (made_by qs + room) ≡ N

  -- where no task can go on the meaning isn't full, and the points and the entries are its own
  pub record HasRested (N : ℕ) (E : Assignment) (qs : List (Point B)) : Type 0 where
    pub fits : ¬ IsFull program N
    pub rest : AreRestOf (meaning program N) qs
    pub entries : AreEntriesOf program N E

  -- the root begins
  pub begins : (N : ℕ) (E : Assignment) (qs : List (Point B)) (room : ℕ) → ((q : Name) → E q ≡ None)
      → qs ≡ start (root_task program.root) ∷ [] → suc room ≡ N → IsAtWork N E qs room
  begins N E qs room none e n = record {
    whole = starts (root_task program.root ∷ []);
    kept = subst (λ l. AreKept l (starts (root_task program.root ∷ []))) (sym e)
        (kept_starts (root_task program.root ∷ []));
    stand = record {
      of_rounds = by;
      named = λ q. omega arith;
      entered = λ q e h. let z : None ≡ Some e = sym (none q) ∙ h in absurd (cc);
    };
    written = λ p q e i w. absurd (no_writes p q e i w);
    counted = let m = ap (λ l. made_by l) e in omega arith;
  }
    where
      by : (p : Point B) → IsIn p (starts (root_task program.root ∷ [])) → IsOfRounds program p
      by p (inl e) =
          let s = tasks_start program in
          subst (IsOfRounds program) (sym e) (s.1 (root_task program.root) s.0).1
      by p (inr i) = absurd i

      no_writes : (p : Point B) (q : Name) (e : Entry) → IsIn p (starts (root_task program.root ∷ []))
          → IsIn (q, e) p.writes → ⊥
      no_writes p q e (inl h) w = subst (λ (z : Point B). IsIn (q, e) z.writes) h w
      no_writes p q e (inr i) w = i

  module _ (obeys : AreLawful program.rules) (proper : IsProper program.rules (root_task program.root)) where
    module _ (N : ℕ) (E : Assignment) (qs : List (Point B)) (room : ℕ) (w : IsAtWork N E qs room)
        (at : ℕ) (there : at < length qs) (q : Point B) (here : (d : Point B) → get_or qs at d ≡ q) where
      abbrev p : Point B
      p = get_or w.whole at q

      kept_here : IsKept q p
      kept_here = subst (λ z. IsKept z p) (here q) (kept_at qs w.whole w.kept at q q there)

      there_too : at < length w.whole
      there_too = let l = kept_length qs w.whole w.kept in omega arith

      whole_front : p ≡ with_front kept_here.handed_children kept_here.handed_writes q
      whole_front = kept_front q p kept_here

      p_of_rounds : IsOfRounds program p
      p_of_rounds = w.stand.of_rounds p (in_at w.whole at q there_too)

      -- the point is one from which its task can go on
      pub good_here : IsGood program.rules q
      good_here =
          let g = subst (IsGood program.rules) whole_front (points_are_good program obeys proper p p_of_rounds) in
          record {
            at_stage = unfront program.rules kept_here.handed_children kept_here.handed_writes q q.stage g.at_stage;
            children = λ c i. absurd (subst (λ l. IsIn c l) kept_here.no_children i);
            made = g.made;
          }

      -- where the task comes to r
      module _ (r : Point B) (reached : Reaches program.rules E q r) where
        abbrev after : Point B
        after = with_front kept_here.handed_children kept_here.handed_writes r

        after_reached : Reaches program.rules E p after
        after_reached = subst (λ z. Reaches program.rules E z after) (sym whole_front)
            (front_reaches program.rules E kept_here.handed_children kept_here.handed_writes q r reached)

        after_of_rounds : IsOfRounds program after
        after_of_rounds = rounds_reach program E w.stand.entered p after p_of_rounds after_reached

        abbrev moved : List (Point B)
        moved = slice_set w.whole at after

        moved_of_rounds : (x : Point B) → IsIn x moved → IsOfRounds program x
        moved_of_rounds x i = by (in_set w.whole at after x i) where
          by : (x ≡ after) ⊎ IsIn x w.whole → IsOfRounds program x
          by (inl e) = subst (IsOfRounds program) (sym e) after_of_rounds
          by (inr j) = w.stand.of_rounds x j

        moved_named : AreNamed moved (names_of r.children)
        moved_named x =
            let a = w.stand.named x in
            let b = times_map (λ (z : Point B). z.name) x w.whole in
            let c = times_map (λ (z : Point B). z.name) x moved in
            let d = total_set (λ (z : Point B). is x z.name) w.whole at after q there_too in
            let e = ap (λ z. is x z) (same_task program.rules E p after after_reached) in
            let f = total_set (λ (z : Point B). times x (names_of z.children)) w.whole at after q there_too in
            let g = times_names x kept_here.handed_children r.children in
            let h = ap (λ (z : Point B). times x (names_of z.children)) kept_here.stands_for in
            omega arith

        moved_stand : Stand E moved (names_of r.children)
        moved_stand = record { of_rounds = moved_of_rounds; named = moved_named; entered = w.stand.entered }

        moved_made : made_by moved + q.made ≡ made_by qs + r.made
        moved_made =
            let a = kept_made qs w.whole w.kept in
            let b = total_set (λ (z : Point B). z.made) w.whole at after q there_too in
            let c = ap (λ (z : Point B). z.made) kept_here.stands_for in
            omega arith

        -- it has made more than there may be
        pub full_here : q.made + room < r.made → IsFull program N
        full_here l =
            let a = moved_made in
            let b = w.counted in
            full_at program obeys proper moved (names_of r.children) moved_of_rounds moved_named N (omega arith)

        child_proper : (c : Task B) → IsIn c r.children → IsProper program.rules c
        child_proper c i = (good_reaches program.rules E obeys q r good_here reached).children c i

        -- what stands where it was handed on
        module _ (rest : List (Point B)) (F : Assignment) (room' : ℕ)
            (rest_is : rest ≡ slice_set qs at (emptied r) ++ starts r.children)
            (enters : Enters r.writes E F) (few : room' + r.made ≡ q.made + room) where
          abbrev all : List (Point B)
          all = moved ++ starts r.children

          all_kept : AreKept rest all
          all_kept = subst (λ l. AreKept l all) (sym rest_is)
              (kept_append (slice_set qs at (emptied r)) moved (starts r.children) (starts r.children)
              (kept_set qs w.whole w.kept at (emptied r) after
              (kept_emptied kept_here.handed_children kept_here.handed_writes r))
              (kept_starts r.children))

          child_of_rounds : (c : Task B) → IsIn c r.children → IsOfRounds program (start c)
          child_of_rounds c i =
              let s = (things_in_rounds program obeys proper after after_of_rounds).1 c
              (in_right c kept_here.handed_children r.children i) in
              ((tasks_start program).1 c s).1

          all_of_rounds : (x : Point B) → IsIn x all → IsOfRounds program x
          all_of_rounds x i = by (in_either x moved (starts r.children) i) where
            by : IsIn x moved ⊎ IsIn x (starts r.children) → IsOfRounds program x
            by (inl j) = moved_of_rounds x j
            by (inr j) =
                let m = in_map (λ (c : Task B). start c) x r.children j in
                subst (IsOfRounds program) (sym m.2) (child_of_rounds m.0 m.1)

          all_named : AreNamed all []
          all_named x =
              let a = moved_named x in
              let b = times_map (λ (z : Point B). z.name) x moved in
              let c = times_map (λ (z : Point B). z.name) x all in
              let d = times_map (λ (z : Point B). z.name) x (starts r.children) in
              let e = total_append (λ (z : Point B). is x z.name) moved (starts r.children) in
              let f = ap (λ l. times x l) (starts_names r.children) in
              let g = total_append (λ (z : Point B). times x (names_of z.children)) moved (starts r.children) in
              let h = starts_forked x r.children in
              omega arith

          after_written : (x : Name) (e : Entry) → IsIn (x, e) after.writes → (y : Entry) × (F x ≡ Some y)
          after_written x e i = by (in_either (x, e) kept_here.handed_writes r.writes i) where
            by : IsIn (x, e) kept_here.handed_writes ⊎ IsIn (x, e) r.writes → (y : Entry) × (F x ≡ Some y)
            by (inl j) =
                let o = w.written p x e (in_at w.whole at q there_too)
                (subst (λ (z : Point B). IsIn (x, e) z.writes) (sym kept_here.stands_for) j) in
                enters.stays x o.0 o.1
            by (inr j) = enters.written x e j

          all_written : AreWritten F all
          all_written y x e i j = by (in_either y moved (starts r.children) i) where
            moved_by : (y ≡ after) ⊎ IsIn y w.whole → (z : Entry) × (F x ≡ Some z)
            moved_by (inl h) = after_written x e (subst (λ (z : Point B). IsIn (x, e) z.writes) h j)
            moved_by (inr k) = let o = w.written y x e k j in enters.stays x o.0 o.1

            by : IsIn y moved ⊎ IsIn y (starts r.children) → (z : Entry) × (F x ≡ Some z)
            by (inl k) = moved_by (in_set w.whole at after y k)
            by (inr k) =
                let m = in_map (λ (c : Task B). start c) y r.children k in
                absurd (subst (λ (z : Point B). IsIn (x, e) z.writes) m.2 j)

          all_entered : (x : Name) (e : Entry) → F x ≡ Some e → Becomes program x e
          all_entered x e h = by (enters.only x e h) where
            by : IsIn (x, e) r.writes ⊎ (E x ≡ Some e) → Becomes program x e
            by (inl i) = writes_become program obeys proper after x e after_of_rounds
                (in_right (x, e) kept_here.handed_writes r.writes i)
            by (inr g) = w.stand.entered x e g

          rest_made : made_by rest + q.made ≡ made_by qs + r.made
          rest_made =
              let a = ap (λ l. made_by l) rest_is in
              let b = total_append (λ (z : Point B). z.made) (slice_set qs at (emptied r))
              (starts r.children) in
              let c = total_set (λ (z : Point B). z.made) qs at (emptied r) q there in
              let d = ap (λ (z : Point B). z.made) (here q) in
              let e = starts_made r.children in
              let f = emptied_made r in
              omega arith

          pub goes_on : IsAtWork N F rest room'
          goes_on = record {
            whole = all;
            kept = all_kept;
            stand = record { of_rounds = all_of_rounds; named = all_named; entered = all_entered };
            written = all_written;
            counted = let a = rest_made in let b = w.counted in omega arith;
          }

          -- fewer steps are left
          pub falls : weight program.rules.left r < weight program.rules.left q
              → steps_left program.rules.left rest room' < steps_left program.rules.left qs room
          falls l =
              let left = program.rules.left in
              let a = ap (λ z. total (weight left) z) rest_is in
              let b = total_append (weight left) (slice_set qs at (emptied r)) (starts r.children) in
              let c = total_set (weight left) qs at (emptied r) q there in
              let d = ap (λ z. weight left z) (here q) in
              let e = emptied_weight left r in
              let f = starts_weight program.rules r.children child_proper in
              let g = grows program.rules E q r reached in
              let h = ap (λ (z : List (Task B)). length z) kept_here.no_children in
              omega arith

    -- where no task can go on
    module _ (N : ℕ) (E : Assignment) (qs : List (Point B)) (room : ℕ) (w : IsAtWork N E qs room)
        (stopped : (q : Point B) → IsIn q qs → HasStopped E q) where
      abbrev at : ℕ → Option (Point B)
      at c = slice_get w.whole c

      at_rest : IsAtRest program E at
      at_rest = record {
        root_there = let r = root_there program obeys proper w.whole w.stand.named in
            let c = get_in w.whole r.0 r.1 in (c.0, r.0, c.1, r.2);
        meant = λ c x e. w.stand.of_rounds x (in_get w.whole c x e);
        stopped = λ c x e. kept_stopped E qs w.whole w.kept stopped x (in_get w.whole c x e);
        forked = λ c x k e i.
            let r = child_there program obeys proper w.whole w.stand.named x k (in_get w.whole c x e) i in
            let d = get_in w.whole r.0 r.1 in (d.0, r.0, d.1, r.2);
        written = λ c x q e f i. w.written x q e (in_get w.whole c x f) i;
        entered = w.stand.entered;
      }

      few_cells : length (cells_at w.whole) ≤ N
      few_cells =
          let a = cells_length program obeys proper w.whole [] w.stand.of_rounds w.stand.named in
          let b = kept_made qs w.whole w.kept in
          let c = w.counted in
          omega arith

      abbrev last : Assignment
      last = given program (last_round N)

      result : (¬ IsFull program N) × ((x : Name) → E x ≡ last x)
          × ((c : ℕ) (x : Point B) → at c ≡ Some x
          → (t : Task B) × IsIn t (tasks program (last_round N)) × (x ≡ history program.rules last t))
          × ((t : Task B) → IsIn t (tasks program (last_round N))
          → (c : ℕ) × (at c ≡ Some (history program.rules last t)))
          × ((x : Name) → IsIn x (cells program (last_round N)) → IsIn x (cells_at w.whole))
      result = rests program obeys proper E at at_rest (cells_at w.whole)
          (λ c x e. name_there program obeys proper w.whole [] w.stand.of_rounds w.stand.named x (in_get w.whole c x e))
          (λ c x q e i. promise_there program obeys proper w.whole [] w.stand.of_rounds w.stand.named x q
          (in_get w.whole c x e) i)
          N few_cells

      -- the meaning isn't full
      fits : ¬ IsFull program N
      fits = result.0

      -- and the same is told of it
      rest : AreRestOf (meaning program N) qs
      rest = (
        w.whole,
        same_permuted (λ (x : Point B). x.name) (meaning program N) w.whole (meaning_distinct program N)
            (names_distinct program obeys proper w.whole [] w.stand.of_rounds w.stand.named) to from,
        kept_bodies qs w.whole w.kept,
      )
        where
          to : (x : Point B) → IsIn x (meaning program N) → IsIn x w.whole
          to x i =
              let m = in_map (λ t. history program.rules (given program (last_round N)) t) x
              (tasks program (last_round N)) i in
              let r = result.3 m.0 m.1 in
              subst (λ z. IsIn z w.whole) (sym m.2)
              (in_get w.whole r.0 (history program.rules (given program (last_round N)) m.0) r.1)

          from : (x : Point B) → IsIn x w.whole → IsIn x (meaning program N)
          from x i =
              let c = get_in w.whole x i in
              let r = result.2 c.0 x c.1 in
              subst (λ z. IsIn z (meaning program N)) (sym r.2)
              (to_map (λ t. history program.rules (given program (last_round N)) t) r.0
              (tasks program (last_round N)) r.1)

      -- the entries are those of its round and of the one before
      before_last : given program (2 * N) ≡ given program (last_round N)
      before_last = sym (is_last program N fits).1

      entries : AreEntriesOf program N E
      entries = record { kept = (λ i q. result.1 q i) ∙ sym before_last; assigned = before_last }

      pub at_the_end : HasRested N E qs
      at_the_end = record { fits = fits; rest = rest; entries = entries }
