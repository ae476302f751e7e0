-- A task is taken up: what stands before and after, as the code has it.
use Rattle.std.proofs.Common.{◌≡◌, ℕ, ◌+◌, ◌-◌, ◌<◌, ◌≤◌, inl, inr, List, ◌++◌, map, get_or}
use Rattle.std.proofs.Common.{refl, sym, ap, ◌∙◌, subst, arith}
use Rattle.std.proofs.lemmas.List.{get_or-set_same, set-set}
use Rattle.std.specs.Prelude.{slice_set, IsSome}
use Rattle.tj_base.specs.ForkOrder.{Name}
use Rattle.tj_body.specs.History.{Assignment, start}
use Rattle.tj_body.specs.Points.{IsProper, IsGood, HasStopped, weight}
use Rattle.tj_body.specs.Programs.{Program, AreLawful, root_task}
use Rattle.tj_body.specs.Rounds.{IsFull}
use Rattle.tj_body.specs.declared.point.Entry.{Entry}
use Rattle.tj_body.specs.declared.point.Close.{Close}
use Rattle.tj_body.specs.declared.point.Close.TheVariants as close
use Rattle.tj_body.specs.declared.point.PointStage.TheVariants as stage
use Rattle.tj_body.specs.declared.point.Task.{Task}
use Rattle.tj_body.specs.declared.point.Point.{Point}
use Rattle.tj_body.proofs.Counts.{total_in}
use Rattle.tj_mean.specs.Inner.Reached.{Reaches, Enters, CanGoOn, emptied}
use Rattle.tj_mean.specs.Outcomes.{ending_of}
use Rattle.tj_mean.proofs.AtWork.KeptPoints.{any_default, in_at}
use Rattle.tj_mean.proofs.AtWork.TasksAtWork.{IsAtWork, steps_left, good_here, full_here, goes_on, falls}

-- a task that has stopped has an ending
pub has_ending : {B : Type 0} (V : Assignment) (p : Point B) → HasStopped V p → IsSome (ending_of p.stage)
has_ending V p (inl e) = subst (λ s. IsSome (ending_of s)) (sym e.1) (by e.0) where
  by : (c : Close) → IsSome (ending_of (stage.Closed c))
  by (close.Done v) = refl
  by (close.Failed c) = refl
has_ending V p (inr w) = subst (λ s. IsSome (ending_of s)) (sym w.2) refl

-- the tasks are at work afterwards, and fewer steps are left where the point has come nearer to its end
abbrev pub GoesOn : {B : Type 0} → Program B → ℕ → Assignment → List (Point B) → ℕ → Assignment → List (Point B) → ℕ
    → Type 0 → Type 0
GoesOn program N E qs room F rest left nearer = IsAtWork program N F rest left
    × (nearer → steps_left program.rules.left rest left < steps_left program.rules.left qs room)

module _ {B : Type 0} (program : Program B) (obeys : AreLawful program.rules)
    (proper : IsProper program.rules (root_task program.root)) (N : ℕ) (E : Assignment) (qs : List (Point B)) (room : ℕ)
    (w : IsAtWork program N E qs room) (at : ℕ) (can : CanGoOn E qs at) where
  -- it has made no more than all have
  pub made_in_room : (a : Point B) → a ≡ get_or qs at a → a.made + room < N
  made_in_room a e =
      let i = total_in (λ (p : Point B). p.made) (get_or qs at a) qs (in_at qs at a can.0) in
      let m = ap (λ (p : Point B). p.made) e in
      let c = w.counted in
      omega arith

  module _ (q : Point B) (q_is : q ≡ get_or qs at q) where
    here : (d : Point B) → get_or qs at d ≡ q
    here d = any_default qs at can.0 d q ∙ sym q_is

    going : ¬ HasStopped E q
    going h = can.1 q (subst (HasStopped E) (sym (here q)) h)

    -- its task can go on from its point
    pub good_point : IsGood program.rules q
    good_point = good_here program obeys proper N E qs room w at can.0 q here

    module _ (r : Point B) (reached : Reaches program.rules E q r) (a : Point B) (a_is : a ≡ get_or qs at a) where
      a_made : a.made ≡ q.made
      a_made = ap (λ (p : Point B). p.made) (a_is ∙ here a)

      -- it has made more than there may be
      pub full_point : a.made + room < r.made → IsFull program N
      full_point l =
          let m = a_made in
          full_here program obeys proper N E qs room w at can.0 q here r reached (omega arith)

      module _ (r1 r2 e : Point B) (r1_is : r1 ≡ get_or (slice_set qs at r) at r1)
          (r2_is : r2 ≡ get_or (slice_set qs at r) at r2) (e_is : e ≡ emptied r2)
          (cs : List (Task B)) (cs_are : cs ≡ r2.children) (ws : List (Name × Entry)) (ws_are : ws ≡ r2.writes)
          (F : Assignment) (enters : Enters ws E F) (rest : List (Point B))
          (rest_is : rest ≡ slice_set (slice_set qs at r) at e ++ map start cs) (fits : r.made ≤ a.made + room) where
        r2_same : r2 ≡ r
        r2_same = r2_is ∙ get_or-set_same qs at r r2 can.0

        e_same : e ≡ emptied r
        e_same = e_is ∙ ap (λ (p : Point B). emptied p) r2_same

        cs_same : cs ≡ r.children
        cs_same = cs_are ∙ ap (λ (p : Point B). p.children) r2_same

        ws_same : ws ≡ r.writes
        ws_same = ws_are ∙ ap (λ (p : Point B). p.writes) r2_same

        rest_same : rest ≡ slice_set qs at (emptied r) ++ map (λ c. start c) r.children
        rest_same = rest_is
            ∙ ap (λ l. l ++ map (λ c. start c) cs) (set-set qs at r e)
            ∙ ap (λ p. slice_set qs at p ++ map (λ c. start c) cs) e_same
            ∙ ap (λ l. slice_set qs at (emptied r) ++ map (λ c. start c) l) cs_same

        enters_same : Enters r.writes E F
        enters_same = subst (λ l. Enters l E F) ws_same enters

        few : (a.made + room) - r1.made + r.made ≡ q.made + room
        few =
            let m = a_made in
            let n = ap (λ (p : Point B). p.made) (r1_is ∙ get_or-set_same qs at r r1 can.0) in
            omega arith

        -- the tasks are at work
        at_work : IsAtWork program N F rest ((a.made + room) - r1.made)
        at_work = goes_on program obeys proper N E qs room w at can.0 q here r reached rest F
            ((a.made + room) - r1.made) rest_same enters_same few

        -- fewer steps are left
        fewer_left : (¬ HasStopped E q → weight program.rules.left r < weight program.rules.left q)
            → steps_left program.rules.left rest ((a.made + room) - r1.made) < steps_left program.rules.left qs room
        fewer_left l = falls program obeys proper N E qs room w at can.0 q here r reached rest F
            ((a.made + room) - r1.made) rest_same enters_same few (l going)

        pub goes_on_so : GoesOn program N E qs room F rest ((a.made + room) - r1.made)
            (¬ HasStopped E q → weight program.rules.left r < weight program.rules.left q)
        goes_on_so = (at_work, fewer_left)
