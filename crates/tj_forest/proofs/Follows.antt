-- Each consequence follows from the cause below which it stands, and each has one.
use Rattle.std.proofs.Common.{◌≡◌, ◌≤◌, ℕ, zero, suc, Bool, true, false, cond, List, [], ◌∷◌, ◌++◌, map, Option, Some, None}
use Rattle.std.proofs.Common.{refl, sym, ap, subst, ◌∙◌, ◌⊎◌, inl, inr, arith}
use Rattle.std.specs.Prelude.{option_and_then}
use Rattle.std.specs.List.{flat_map}
use Rattle.std.specs.Option.{is_some, option_map}
use Rattle.tj_base.specs.Cycles as graph
use Rattle.tj_base.specs.ForkOrder.{Name}
use Rattle.tj_base.specs.declared.cause.Cause.{Cause}
use Rattle.tj_base.specs.declared.cause.Cause.TheVariants as cause
use Rattle.tj_base.specs.declared.cell.TheConstants.{MAX_CELLS}
use Rattle.tj_base.specs.declared.value.Shown.{Shown}
use Rattle.tj_body.specs.Names.{has}
use Rattle.tj_body.specs.Points.{IsIn}
use Rattle.tj_body.specs.Rounds.{IsFull, meaning}
use Rattle.tj_body.specs.WaitGraph as points
use Rattle.tj_body.specs.declared.point.Point.{Point}
use Rattle.tj_body.proofs.Counts.{has_of_times, times_of_in}
use Rattle.tj_body.proofs.Lists.{from_flat_map, in_either, in_flat_map, in_map}
use Rattle.tj_eval.specs.Stands.{PlacedState}
use Rattle.tj_eval.specs.Statements.{TaskState}
use Rattle.tj_mean.specs.Outcomes.{IsOutcome}
use Rattle.tj_mean.specs.declared.outcome.Ending.{Ending}
use Rattle.tj_mean.specs.declared.outcome.Ending.TheVariants as ending
use Rattle.tj_mean.specs.declared.outcome.Link.{Link}
use Rattle.tj_mean.specs.declared.outcome.Outcome.{Outcome}
use Rattle.tj_mean.proofs.Lists.Elements.{in_of_has}
use Rattle.tj_syntax.specs.PlacesOf.{PlacesOfTask}
use Rattle.tj_trace.specs.Logs.{logged_program}
use Rattle.tj_trace.specs.Lookups.{kept_by, kept_with}
use Rattle.tj_trace.specs.TraceLaws.{script_program}
use Rattle.tj_trace.specs.Traces.{AreTraced}
use Rattle.tj_trace.specs.declared.line.TraceLine.{TraceLine}
use Rattle.tj_forest.proofs.BelowCauses.{AreBelow, AreFollowed, IsKnown, all_below, followed_in, known_first}
use Rattle.tj_forest.proofs.Claims.{Claims, kept, one_claims, result, waits_owe_none}
use Rattle.tj_forest.proofs.CycleOwners.{members_told}
use Rattle.tj_forest.proofs.ChainEnds.{origin_begins}
use Rattle.tj_forest.proofs.FirstEchoes.{HasChain, echoes_none, has_chain}
use Rattle.tj_forest.proofs.CyclesFirst.{in_turn}
use Rattle.tj_forest.proofs.LedOn.{IsLed, led_on}
use Rattle.tj_forest.proofs.Origins.{Broke, IsFirst, by_debt, by_failure, came_from, origin_there, stopped_so}
use Rattle.tj_forest.proofs.Roots.{IsCauseOf, a_cycle, a_debt, a_failure, bare_roots, cause_of, cycle_is_cause}
use Rattle.tj_forest.proofs.Roots.{debt_is_cause, failure_is_cause, roots_are_causes, roots_of}
use Rattle.tj_forest.proofs.ToldOnce.{link_found, link_says, to_point}
use Rattle.tj_forest.specs.CauseOrder.{AreInTurn}
use Rattle.tj_forest.specs.Consequences.{CameAtFirstFrom, FailsAfter, FollowsFrom, IsInOrder, IsOriginOf}
use Rattle.tj_findings.specs.Echoes.{breaker, echoed, echoed_by, origin}
use Rattle.tj_forest.specs.Explanations.{OwedIt, members_of}
use Rattle.tj_findings.specs.Findings.{behind, behind_with, echo, echo_with, is_member, is_owing, link_wait, owed, stop_of}
use Rattle.tj_findings.specs.Findings.{told_cycle, told_debt, told_echo, told_failure, told_task, told_wait}
use Rattle.tj_findings.specs.Forests.{Forest, Tree, after_chain, after_cycle, after_failure, bare, begun_at, begun_by}
use Rattle.tj_findings.specs.Forests.{begun_with, cause_from, causes, consequences, first_echo, follow, forest_of, led_to}
use Rattle.tj_findings.specs.Forests.{names_of_cause}
use Rattle.tj_findings.specs.Searches.{line_of}
use Rattle.tj_findings.specs.declared.finding.Finding.{Finding}
use Rattle.tj_findings.specs.declared.finding.Finding.TheVariants as finding
use Rattle.tj_findings.specs.declared.finding.Wait.{Wait}

-- what follows with a name is one of the findings
follow_in : (x : Option Name) (fs : List Finding) (k : Option Name × Finding) → IsIn k (follow x fs)
    → (f : Finding) × IsIn f fs × (k ≡ (x, f))
follow_in x fs k i = in_map (λ f. (x, f)) k fs i

module _ (strict : Bool) (root : PlacedState) (N : ℕ) (places : List PlacesOfTask) (lines : List TraceLine)
    (o : Outcome)
    (owners : points.OwnersWait (script_program strict root))
    (lead : points.WaitsLeadToCycle (script_program strict root))
    (room : ¬ IsFull (script_program strict root) N) (small : N ≤ MAX_CELLS)
    (traced : AreTraced (logged_program strict root) N lines)
    (out : IsOutcome (meaning (script_program strict root) N) o) where
  abbrev ps : List (Point TaskState)
  ps = meaning (script_program strict root) N

  abbrev cs : List Finding
  cs = causes places lines o.cycles

  -- a cause that is known by a name which the line claims
  data IsRootOf (l : TraceLine) (x : Name) (f : Finding) : Type 0 where
    by_cycle : (c : List Link) → IsIn c o.cycles → f ≡ told_cycle lines c → (q : Name)
        → l.line.ending ≡ ending.Waits q → IsIn x (members_of (flat_map (link_wait lines) c)) → IsRootOf l x f
    by_fault : (c : Cause) → l.line.ending ≡ ending.Failed c → echoed c ≡ None → f ≡ told_failure lines l c
        → IsRootOf l x f
    by_owing : (v : Shown) → l.line.ending ≡ ending.Done v → f ≡ told_debt lines l x → IsRootOf l x f

  -- a member of a cycle that is told has a line, and waits
  member_line : (c : List Link) → IsIn c o.cycles → (x : Name) → IsIn x (members_of (flat_map (link_wait lines) c))
      → (m : TraceLine) × IsIn m lines × (m.line.name ≡ x) × ((q : Name) × (m.line.ending ≡ ending.Waits q))
  member_line c there x i =
      let told = members_told lines [] c (λ k j.
      link_found strict root N lines o traced out k (in_flat_map (λ (c : List Link). c) c k o.cycles there j)) in
      let k = in_map (λ (k : Link). k.task) x c (subst (IsIn x) told i) in
      let says = link_says strict root N lines o traced out k.0
      (in_flat_map (λ (c : List Link). c) c k.0 o.cycles there k.1) in
      (says.0, says.1, says.2 ∙ sym k.2, (k.0.cell, says.3))

  kept_waiting : (m : TraceLine) (q : Name) → m.line.ending ≡ ending.Waits q → IsIn m.line.name (kept_by m)
  kept_waiting m q is = subst (λ e. IsIn m.line.name (kept_with e m)) (sym is) (inl refl)

  kept_owing : (m : TraceLine) (v : Shown) (q : Name) → m.line.ending ≡ ending.Done v → IsIn q m.line.owes
      → IsIn q (kept_by m)
  kept_owing m v q is i = subst (λ e. IsIn q (kept_with e m)) (sym is) i

  -- a cause is known by what its line claims
  root_of : (f : Finding) → IsCauseOf lines o.cycles f → (x : Name) → has x (names_of_cause f) ≡ true
      → (m : TraceLine) × IsIn m lines × Claims m x × IsRootOf m x f
  root_of f (a_cycle c there e) x known =
      let i = in_of_has x (members_of (flat_map (link_wait lines) c))
      (subst (λ g. has x (names_of_cause g) ≡ true) e known) in
      let m = member_line c there x i in (
        m.0,
        m.1,
        kept (subst (λ y. IsIn y (kept_by m.0)) m.2 (kept_waiting m.0 m.3.0 m.3.1)),
        by_cycle c there e m.3.0 m.3.1 i,
      )
  root_of f (a_failure l there c is none e) x known =
      by (in_of_has x (l.line.name ∷ []) (subst (λ g. has x (names_of_cause g) ≡ true) e known)) where
        by : IsIn x (l.line.name ∷ []) → (m : TraceLine) × IsIn m lines × Claims m x × IsRootOf m x f
        by (inl named) = (l, there, result c named is, by_fault c is none e)
        by (inr i) = absurd i
  root_of f (a_debt l there v is q i e) x known =
      by (in_of_has x (q ∷ []) (subst (λ g. has x (names_of_cause g) ≡ true) e known)) where
        by : IsIn x (q ∷ []) → (m : TraceLine) × IsIn m lines × Claims m x × IsRootOf m x f
        by (inl named) = (
          l,
          there,
          kept (kept_owing l v x is (subst (λ y. IsIn y l.line.owes) (sym named) i)),
          by_owing v is (e ∙ ap (told_debt lines l) (sym named)),
        )
        by (inr i) = absurd i

  -- where what a line claims is the name of a cause, and what such causes are is followed, the finding has its place
  known_by : (l : TraceLine) → IsIn l lines → (x : Name) → Claims l x → (f : Finding)
      → ((h : Finding) → IsRootOf l x h → FollowsFrom ps h f) → (g : Finding) → IsIn g cs
      → has x (names_of_cause g) ≡ true → IsKnown (FollowsFrom ps) cs (Some x, f)
  known_by l there x claims f all g i known =
      known_first (FollowsFrom ps) x cs f (λ h j is.
      let r = root_of h (cause_of lines o.cycles places h j) x is in
      let same = one_claims strict root N lines traced r.0 l r.1 there x r.2 claims in
      all h (subst (λ m. IsRootOf m x h) same r.3)) g i known

  -- ---- what a task owed that failed

  -- no line ends in two ways
  not_both : {A : Type 0} (l : TraceLine) (e f : Ending) → l.line.ending ≡ e → l.line.ending ≡ f → (e ≡ f → ⊥) → A
  not_both l e f is other differ = absurd (differ (sym is ∙ other))

  done_fails : (v : Shown) (c : Cause) → ending.Done v ≡ ending.Failed c → ⊥
  done_fails v c e = cc

  waits_fails : (q : Name) (c : Cause) → ending.Waits q ≡ ending.Failed c → ⊥
  waits_fails q c e = cc

  waits_done : (q : Name) (v : Shown) → ending.Waits q ≡ ending.Done v → ⊥
  waits_done q v e = cc

  -- below the failure of a task stands what fails after it
  below_failure : (b : TraceLine) → IsIn b lines → (c : Cause) → b.line.ending ≡ ending.Failed c → echoed c ≡ None
      → (f : Finding) → ((h : Finding) → h ≡ told_failure lines b c → FollowsFrom ps h f)
      → IsKnown (FollowsFrom ps) cs (Some b.line.name, f)
  below_failure b there c is none f follows =
      known_by b there b.line.name (result c refl is) f all (told_failure lines b c)
      (failure_is_cause lines o.cycles places b there c is none)
      (has_of_times b.line.name (b.line.name ∷ []) (times_of_in b.line.name (b.line.name ∷ []) (inl refl))) where
        all : (h : Finding) → IsRootOf b b.line.name h → FollowsFrom ps h f
        all h (by_cycle k i e q waits j) = not_both b (ending.Waits q) (ending.Failed c) waits is (waits_fails q c)
        all h (by_fault d fails other e) = follows h (e ∙ ap (told_failure lines b) (same (sym fails ∙ is))) where
          same : ending.Failed d ≡ ending.Failed c → d ≡ c
          same e = cc
        all h (by_owing v done e) = not_both b (ending.Done v) (ending.Failed c) done is (done_fails v c)

  -- below a promise that an ended task owed stands what fails after it
  below_debt : (b : TraceLine) → IsIn b lines → (v : Shown) → b.line.ending ≡ ending.Done v → (q : Name)
      → IsIn q b.line.owes → (f : Finding) → ((h : Finding) → h ≡ told_debt lines b q → FollowsFrom ps h f)
      → IsKnown (FollowsFrom ps) cs (Some q, f)
  below_debt b there v is q i f follows =
      known_by b there q (kept (kept_owing b v q is i)) f all (told_debt lines b q)
      (debt_is_cause lines o.cycles places b there v is q i)
      (has_of_times q (q ∷ []) (times_of_in q (q ∷ []) (inl refl))) where
        all : (h : Finding) → IsRootOf b q h → FollowsFrom ps h f
        all h (by_cycle k j e r waits m) = not_both b (ending.Waits r) (ending.Done v) waits is (waits_done r v)
        all h (by_fault c fails other e) =
            not_both b (ending.Done v) (ending.Failed c) is fails (done_fails v c)
        all h (by_owing w done e) = follows h e

  -- what a task that failed is told to owe, and its echo
  data FailedPart (l : TraceLine) (f : Finding) : Type 0 where
    owes : (q : Name) → f ≡ told_debt lines l q → (c : Cause) → l.line.ending ≡ ending.Failed c → FailedPart l f
    echoes : (q : Name) → f ≡ told_echo lines l q → l.line.ending ≡ ending.Failed (cause.Broken q) → FailedPart l f

  debt_of : (l : TraceLine) → IsIn l lines → (f : Finding) → IsIn f (owed lines false l)
      → (q : Name) × (f ≡ told_debt lines l q) × ((c : Cause) × (l.line.ending ≡ ending.Failed c))
  debt_of l there f i = by l.line.ending refl i where
    by : (e : Ending) → l.line.ending ≡ e → IsIn f (cond (is_owing false e) (map (told_debt lines l) l.line.owes) [])
        → (q : Name) × (f ≡ told_debt lines l q) × ((c : Cause) × (l.line.ending ≡ ending.Failed c))
    by (ending.Done v) is i = absurd i
    by (ending.Failed c) is i = let q = in_map (told_debt lines l) f l.line.owes i in (q.0, q.2, (c, is))
    by (ending.Waits q) is i = absurd (subst (λ qs. IsIn f (map (told_debt lines l) qs))
        (waits_owe_none strict root N lines traced l there q is) i)

  echo_part : (l : TraceLine) (e : Ending) → l.line.ending ≡ e → (f : Finding) → IsIn f (echo_with lines l e)
      → FailedPart l f
  echo_part l (ending.Done v) is f i = absurd i
  echo_part l (ending.Failed cause.Arith) is f i = absurd i
  echo_part l (ending.Failed cause.Kind) is f i = absurd i
  echo_part l (ending.Failed cause.Steps) is f i = absurd i
  echo_part l (ending.Failed (cause.Owner q)) is f i = absurd i
  echo_part l (ending.Failed (cause.Broken q)) is f (inl e) = echoes q e is
  echo_part l (ending.Failed (cause.Broken q)) is f (inr i) = absurd i
  echo_part l (ending.Failed (cause.Order q)) is f i = absurd i
  echo_part l (ending.Waits q) is f i = absurd i

  -- where an echo of the task tells this task as its origin
  abbrev TellsOrigin : TraceLine → TraceLine → Type 0
  TellsOrigin l b = (q : Name) → l.line.ending ≡ ending.Failed (cause.Broken q) → origin lines q ≡ Some b

  -- what a task owed follows from that after which it failed
  debt_follows : (l : TraceLine) (f h : Finding) (q : Name) → f ≡ told_debt lines l q → (c : Cause)
      → l.line.ending ≡ ending.Failed c → FailsAfter ps h l.line.name → FollowsFrom ps h f
  debt_follows l f h q e c is after = subst (FollowsFrom ps h) (sym e) (ap stop_of is, after)

  -- so does each part, below the task that an echo tells as its origin
  part_follows : (l b : TraceLine) (f h : Finding) → FailedPart l f → TellsOrigin l b
      → FailsAfter ps h l.line.name → IsOriginOf h (Some (told_task lines b)) → FollowsFrom ps h f
  part_follows l b f h (owes q e c is) tells after began = debt_follows l f h q e c is after
  part_follows l b f h (echoes q e is) tells after began = subst (FollowsFrom ps h) (sym e)
      (after, subst (IsOriginOf h) (sym (ap (option_map (told_task lines)) (tells q is))) began)

  -- a task fails after itself
  after_itself : (l : TraceLine) (c : Cause) (h : Finding) → h ≡ told_failure lines l c → FailsAfter ps h l.line.name
  after_itself l c h e = subst (λ g. FailsAfter ps g l.line.name) (sym e) (zero, refl)

  known_after_failure : (l : TraceLine) → IsIn l lines → (k : Option Name × Finding) → IsIn k (after_failure lines l)
      → IsKnown (FollowsFrom ps) cs k
  known_after_failure l there k i = by (is_some (echoed_by l.line.ending)) refl i where
    by : (b : Bool) → is_some (echoed_by l.line.ending) ≡ b
        → IsIn k (cond b [] (follow (Some l.line.name) (owed lines false l))) → IsKnown (FollowsFrom ps) cs k
    by true is i = absurd i
    by false is i =
        let f = follow_in (Some l.line.name) (owed lines false l) k i in
        subst (IsKnown (FollowsFrom ps) cs) (sym f.2) (of_part f.0 (debt_of l there f.0 f.1)) where
          none : (o : Option Name) → is_some o ≡ false → o ≡ None
          none None e = refl
          none (Some x) e = absurd (cc)

          of_part : (f : Finding)
              → (q : Name) × (f ≡ told_debt lines l q) × ((c : Cause) × (l.line.ending ≡ ending.Failed c))
              → IsKnown (FollowsFrom ps) cs (Some l.line.name, f)
          of_part f (q, e, (c, failed)) =
              below_failure l there c failed (ap echoed_by (sym failed) ∙ none (echoed_by l.line.ending) is) f
              (λ h told. debt_follows l f h q e c failed (after_itself l c h told))

  -- ---- echoes

  -- an echo, and what its task owed, stand below that by which the chain began
  known_in_chain : (l : TraceLine) → IsIn l lines → (f : Finding) → FailedPart l f
      → HasChain strict root N lines traced o out l → IsKnown (FollowsFrom ps) cs (begun_by lines l, f)
  known_in_chain l there f p h =
      subst (λ z. IsKnown (FollowsFrom ps) cs (z, f)) (sym begun) (by h.begins.is_first h.begins.broke) where
        m : TraceLine
        m = first_echo lines l

        cell : Name
        cell = h.chained.cell

        b : TraceLine
        b = h.begins.breaks

        begun : begun_by lines l ≡ Some (begun_with cell b b.line.ending)
        begun =
            ap (λ e. option_and_then (begun_at lines) (echoed_by e)) h.chained.is
            ∙ ap (option_map (λ (z : TraceLine). begun_with cell z z.line.ending)) h.begins.found

        -- the origin that the echo tells is the task that broke the first cell
        tells : TellsOrigin l b
        tells q is =
            let r = origin_there strict root N lines traced o out l.line.name small l there refl q is in
            r.found ∙ ap (λ z. Some z) (sym (origin_begins lines l b r.line q is
            (ap (λ e. option_and_then (breaker lines) (echoed_by e)) h.chained.is ∙ h.begins.found)
            (echoes_none b h.begins.is_first) r.found (echoes_none r.line r.is_first)))

        came : CameAtFirstFrom ps l.line.name b.line.name
        came = (
          suc h.chained.reached.0,
          (
            m.line.name,
            h.chained.reached.1,
            came_from strict root N lines traced o out l.line.name m b h.chained.there h.begins.there cell
                h.chained.is h.begins.broke,
          ),
        )

        at_debt : (v : Shown) → b.line.ending ≡ ending.Done v → IsIn cell b.line.owes
            → FailsAfter ps (told_debt lines b cell) l.line.name
        at_debt v is i =
            let q = to_point strict root N lines o traced out b h.begins.there in
            let so = q.2 in (
              m.line.name,
              h.chained.reached,
              stopped_so strict root N lines traced o out l.line.name m h.chained.there
                  (ending.Failed (cause.Broken cell)) h.chained.is,
              (q.0, q.1, so.name, subst (IsIn cell) (sym so.owed) i),
            )

        owing : (v : Shown) → b.line.ending ≡ ending.Done v → Broke strict root N lines traced b cell
            → IsIn cell b.line.owes
        owing v is (inl (e, (c, failed))) =
            not_both b (ending.Done v) (ending.Failed c) is failed (done_fails v c)
        owing v is (inr i) = i

        by : IsFirst b → Broke strict root N lines traced b cell
            → IsKnown (FollowsFrom ps) cs (Some (begun_with cell b b.line.ending), f)
        by (by_failure c is none) broken =
            subst (λ e. IsKnown (FollowsFrom ps) cs (Some (begun_with cell b e), f)) (sym is)
            (below_failure b h.begins.there c is none f (λ r e. part_follows l b f r p tells
            (subst (λ g. FailsAfter ps g l.line.name) (sym e) came)
            (subst (λ g. IsOriginOf g (Some (told_task lines b))) (sym e) refl)))
        by (by_debt v q is i) broken =
            let j = owing v is broken in
            subst (λ e. IsKnown (FollowsFrom ps) cs (Some (begun_with cell b e), f)) (sym is)
            (below_debt b h.begins.there v is cell j f (λ r e. part_follows l b f r p tells
            (subst (λ g. FailsAfter ps g l.line.name) (sym e) (at_debt v is j))
            (subst (λ g. IsOriginOf g (Some (told_task lines b))) (sym e) refl)))

  -- for which cell a task failed that echoes
  fails : (e : Ending) (q : Name) → echoed_by e ≡ Some q → e ≡ ending.Failed (cause.Broken q)
  fails (ending.Done v) q e = absurd (cc)
  fails (ending.Failed cause.Arith) q e = absurd (cc)
  fails (ending.Failed cause.Kind) q e = absurd (cc)
  fails (ending.Failed cause.Steps) q e = absurd (cc)
  fails (ending.Failed (cause.Owner p)) q e = absurd (cc)
  fails (ending.Failed (cause.Broken p)) q e = ap (λ z. ending.Failed (cause.Broken z)) (same p q e) where
    same : (p q : Name) → ◌≡◌ {A = Option Name} (Some p) (Some q) → p ≡ q
    same p q e = cc
  fails (ending.Failed (cause.Order p)) q e = absurd (cc)
  fails (ending.Waits p) q e = absurd (cc)

  chain_part : (l : TraceLine) → IsIn l lines → (f : Finding) → IsIn f (echo lines l ++ owed lines false l)
      → FailedPart l f
  chain_part l there f i = which (in_either f (echo lines l) (owed lines false l) i) where
    which : IsIn f (echo lines l) ⊎ IsIn f (owed lines false l) → FailedPart l f
    which (inl j) = echo_part l l.line.ending refl f j
    which (inr j) = let q = debt_of l there f j in owes q.0 q.1 q.2.0 q.2.1

  known_after_chain : (l : TraceLine) → IsIn l lines → (k : Option Name × Finding) → IsIn k (after_chain lines l)
      → IsKnown (FollowsFrom ps) cs k
  known_after_chain l there k i = by (echoed_by l.line.ending) refl i where
    by : (o : Option Name) → echoed_by l.line.ending ≡ o
        → IsIn k (cond (is_some o) (follow (begun_by lines l) (echo lines l ++ owed lines false l)) [])
        → IsKnown (FollowsFrom ps) cs k
    by None is i = absurd i
    by (Some q) is i =
        let f = follow_in (begun_by lines l) (echo lines l ++ owed lines false l) k i in
        subst (IsKnown (FollowsFrom ps) cs) (sym f.2) (known_in_chain l there f.0 (chain_part l there f.0 f.1)
        (has_chain strict root N lines traced o out small l there q (fails l.line.ending q is)))

  -- ---- waits

  -- below a cycle stands a wait that leads to it
  known_wait : (l : TraceLine) → IsIn l lines → (q : Name) → l.line.ending ≡ ending.Waits q
      → IsKnown (FollowsFrom ps) cs (Some (led_to lines l).line.name, finding.Behind (told_wait lines l q))
  known_wait l there q is = by (led_on strict root N lines o owners lead room traced out small l (there, (q, is))) where
    m : TraceLine
    m = led_to lines l

    f : Finding
    f = finding.Behind (told_wait lines l q)

    by : IsLed strict root N lines o owners lead room traced out l m → IsKnown (FollowsFrom ps) cs (Some m.line.name, f)
    by h =
        let waits = h.waiting in
        let told = members_told lines [] h.cycle (λ k j.
        link_found strict root N lines o traced out k (in_flat_map (λ (c : List Link). c) h.cycle k o.cycles h.there j))
        in
        let member : IsIn m.line.name (members_of (flat_map (link_wait lines) h.cycle)) =
        subst (IsIn m.line.name) (sym told) h.member in
        known_by m waits.0 m.line.name (kept (kept_waiting m waits.1.0 waits.1.1)) f (all waits.1.0 waits.1.1 h.way)
        (told_cycle lines h.cycle) (cycle_is_cause lines o.cycles places h.cycle h.there)
        (has_of_times m.line.name (members_of (flat_map (link_wait lines) h.cycle))
        (times_of_in m.line.name (members_of (flat_map (link_wait lines) h.cycle)) member))
      where
        all : (r : Name) → m.line.ending ≡ ending.Waits r
            → (k : ℕ) × graph.Reaches (points.WaitsFor ps) l.line.name k m.line.name
            → (g : Finding) → IsRootOf m m.line.name g → FollowsFrom ps g f
        all r waits way g (by_cycle c i e p again j) =
            (flat_map (link_wait lines) c, e, (m.line.name, way.0, way.1, j))
        all r waits way g (by_fault c failed none e) =
            not_both m (ending.Waits r) (ending.Failed c) waits failed (waits_fails r c)
        all r waits way g (by_owing v done e) =
            not_both m (ending.Waits r) (ending.Done v) waits done (waits_done r v)

  known_after_cycle : (l : TraceLine) → IsIn l lines → (k : Option Name × Finding)
      → IsIn k (after_cycle lines o.cycles l) → IsKnown (FollowsFrom ps) cs k
  known_after_cycle l there k i =
      let f = follow_in (Some (led_to lines l).line.name) (behind lines o.cycles l) k i in
      subst (IsKnown (FollowsFrom ps) cs) (sym f.2)
      (by (is_member o.cycles l.line.name) l.line.ending refl f.0 f.1) where
        by : (b : Bool) (e : Ending) → l.line.ending ≡ e → (f : Finding) → IsIn f (behind_with lines b l e)
            → IsKnown (FollowsFrom ps) cs (Some (led_to lines l).line.name, f)
        by b (ending.Done v) is f i = absurd i
        by b (ending.Failed c) is f i = absurd i
        by true (ending.Waits q) is f i = absurd i
        by false (ending.Waits q) is f (inl e) =
            subst (λ g. IsKnown (FollowsFrom ps) cs (Some (led_to lines l).line.name, g)) (sym e)
            (known_wait l there q is)
        by false (ending.Waits q) is f (inr i) = absurd i

  -- ---- all

  known_all : (k : Option Name × Finding) → IsIn k (consequences lines o.cycles) → IsKnown (FollowsFrom ps) cs k
  known_all k i = by (in_either k (flat_map (after_failure lines) lines) (flat_map both lines) i) where
    both : TraceLine → List (Option Name × Finding)
    both l = after_cycle lines o.cycles l ++ after_chain lines l

    which : (l : TraceLine) → IsIn l lines → IsIn k (after_cycle lines o.cycles l) ⊎ IsIn k (after_chain lines l)
        → IsKnown (FollowsFrom ps) cs k
    which l there (inl j) = known_after_cycle l there k j
    which l there (inr j) = known_after_chain l there k j

    by : IsIn k (flat_map (after_failure lines) lines) ⊎ IsIn k (flat_map both lines) → IsKnown (FollowsFrom ps) cs k
    by (inl j) =
        let l = from_flat_map (after_failure lines) k lines j in known_after_failure l.0 l.1 k l.2
    by (inr j) =
        let l = from_flat_map both k lines j in
        which l.0 l.1 (in_either k (after_cycle lines o.cycles l.0) (after_chain lines l.0) l.2)

  bare_followed : (fs : List Finding) → AreFollowed (FollowsFrom ps) (map bare fs)
  bare_followed [] = tt
  bare_followed (f ∷ fs) = ((λ g i. absurd i), bare_followed fs)

  -- the forest is in order
  pub in_order : IsInOrder ps places (forest_of places lines o.cycles)
  in_order =
      let found : (c : List Link) → IsIn c o.cycles → (k : Link) → IsIn k c
      → (l : TraceLine) × (line_of lines k.task ≡ Some l) × (l.line.name ≡ k.task) =
      λ c there k i. link_found strict root N lines o traced out k
      (in_flat_map (λ (c : List Link). c) c k o.cycles there i) in
      let start : Forest = record { trees = map bare cs; strays = [] } in
      let h = all_below (FollowsFrom ps) cs (consequences lines o.cycles) start known_all
      (record { roots = bare_roots cs; followed = bare_followed cs; no_strays = refl }) in
      record {
        causes = roots_are_causes places lines o.cycles;
        follow = λ t i g j. followed_in (FollowsFrom ps) (forest_of places lines o.cycles).trees h.followed t i g j;
        no_strays = h.no_strays;
        turn = subst (AreInTurn places) (sym (roots_of places lines o.cycles)) (in_turn places lines o.cycles found);
      }
