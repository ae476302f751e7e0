-- What a task that is told to wait waits for has an owner, and leads to a cycle that is told.
use Rattle.std.proofs.Common.{◌≡◌, ℕ, Bool, true, List, [], ◌∷◌, ◌++◌, map, length}
use Rattle.std.proofs.Common.{get_or, Option, Some, None}
use Rattle.std.proofs.Common.{refl, sym, ap, subst, ◌∙◌, inl, inr}
use Rattle.std.specs.Option.{option_map}
use Rattle.std.specs.List.{AllByRecursion, flat_map}
use Rattle.tj_base.specs.ForkOrder.{Name}
use Rattle.tj_base.specs.Cycles as graph
use Rattle.tj_base.proofs.CycleLists.{cycles_return, returns_are_cycles}
use Rattle.tj_base.proofs.CyclesOn.{on_cycle_moves}
use Rattle.tj_base.proofs.Ways.{cycle_leads}
use Rattle.tj_body.specs.NameLaws.{AreInOrder}
use Rattle.tj_body.specs.Names.{at_most, in_order, same}
use Rattle.tj_body.specs.Points.{IsIn}
use Rattle.tj_body.specs.Rounds.{IsFull, meaning}
use Rattle.tj_body.specs.WaitGraph as points
use Rattle.tj_body.specs.declared.point.Close.TheVariants as close
use Rattle.tj_body.specs.declared.point.Point.{Point}
use Rattle.tj_body.specs.declared.point.PointStage.{PointStage}
use Rattle.tj_body.specs.declared.point.PointStage.TheVariants as stage
use Rattle.tj_body.proofs.Lists.{from_flat_map, in_flat_map, to_map}
use Rattle.tj_body.proofs.NameLaws.{ordered_has_same, ordered_is_one}
use Rattle.tj_eval.specs.Statements.{TaskState}
use Rattle.tj_eval.specs.Stands.{PlacedState}
use Rattle.tj_mean.specs.Outcomes.{AreApart, IsCycle, IsOutcome, Leads, Owns, Waits, ending_of}
use Rattle.tj_mean.specs.declared.outcome.Ending.{Ending}
use Rattle.tj_mean.specs.declared.outcome.Ending.TheVariants as ending
use Rattle.tj_mean.specs.declared.outcome.Link.{Link}
use Rattle.tj_mean.specs.declared.outcome.Outcome.{Outcome}
use Rattle.tj_mean.specs.declared.stopped.Stopped.{Stopped}
use Rattle.tj_mean.proofs.Lists.Elements.{all_of_in, in_contains}
use Rattle.tj_mean.proofs.Outcomes.Indexes.{at_most_self, names_lead, same_names}
use Rattle.tj_mean.proofs.Outcomes.ToldOutcomes.{meaning_apart, of_told, told_name, told_owned, told_wait}
use Rattle.tj_trace.specs.Logs.{logged_program}
use Rattle.tj_trace.specs.TraceLaws.{script_program}
use Rattle.tj_trace.specs.Traces.{AreTraced}
use Rattle.tj_trace.specs.declared.line.TraceLine.{TraceLine}
use Rattle.tj_forest.proofs.CycleOwners.{cycles_told, members_told, owner_is}
use Rattle.tj_forest.proofs.CyclesApart.{shares}
use Rattle.tj_forest.proofs.Found.{IsOf, a_cycle, a_debt, a_failure, a_wait, an_echo, is_of}
use Rattle.tj_forest.proofs.ToldOnce.{link_found, waits_from}
use Rattle.tj_forest.specs.Explanations.{LeadsToToldCycle, cycles_in, link_told, members_of, told_waits_in, waits_in}
use Rattle.tj_findings.specs.Findings.{behind, behind_with, echo, echo_with, failed, failed_with, findings_of, is_member}
use Rattle.tj_findings.specs.Findings.{is_owing, link_wait, owed, told_cycle, told_debt, wait_by}
use Rattle.tj_findings.specs.Findings as findings
use Rattle.tj_findings.specs.Searches.{line_of, owner_of}
use Rattle.tj_findings.specs.declared.finding.Finding.{Finding}
use Rattle.tj_findings.specs.declared.finding.Finding.TheVariants as finding
use Rattle.tj_findings.specs.declared.finding.Wait.{Wait}

-- the first of names in order is the least
first_least : (x q : Name) (xs : List Name) → AllByRecursion (λ y. at_most x y ≡ true) xs → IsIn q (x ∷ xs)
    → at_most x q ≡ true
first_least x q xs h (inl e) = subst (λ z. at_most x z ≡ true) (sym e) (at_most_self x)
first_least x q [] h (inr i) = absurd i
first_least x q (y ∷ ys) h (inr (inl e)) = subst (λ z. at_most x z ≡ true) (sym e) h.0
first_least x q (y ∷ ys) h (inr (inr i)) = first_least x q ys h.1 (inr i)

-- the least of some names
least_of : (l : List Name) (a : Name) → IsIn a l
    → (z : Name) × IsIn z l × ((x : Name) → IsIn x l → at_most z x ≡ true)
least_of l a i = by (in_order l) refl where
  by : (m : List Name) → in_order l ≡ m → (z : Name) × IsIn z l × ((x : Name) → IsIn x l → at_most z x ≡ true)
  by [] e = absurd (subst (IsIn a) e ((ordered_has_same a l).1 i))
  by (z ∷ zs) e = (
    z,
    (ordered_has_same z l).0 (subst (IsIn z) (sym e) (inl refl)),
    λ x j. first_least z x zs (subst AreInOrder e (ordered_is_one l).1).0
        (subst (IsIn x) e ((ordered_has_same x l).1 j)),
  )

module _ (ss : List Stopped) (apart : AreApart ss) where
  abbrev one : graph.LeadsToOne (Leads ss)
  one = names_lead ss apart

  -- links of tasks with these names, which wait
  links_for : (zs : List Name) → ((x : Name) → IsIn x zs → (q : Name) × Waits ss x q)
      → (c : List Link) × (map (λ (l : Link). l.task) c ≡ zs)
      × ((l : Link) → IsIn l c → Waits ss l.task l.cell)
  links_for [] h = ([], refl, λ l i. absurd i)
  links_for (z ∷ zs) h =
      let q = h z (inl refl) in
      let r = links_for zs (λ x i. h x (inr i)) in
      let link : Link = record { task = z; cell = q.0 } in
      (link ∷ r.0, ap (λ l. z ∷ l) r.1, each link q.1 r.0 r.2)
    where
      each : (k : Link) → Waits ss k.task k.cell → (ls : List Link)
          → ((l : Link) → IsIn l ls → Waits ss l.task l.cell)
          → (l : Link) → IsIn l (k ∷ ls) → Waits ss l.task l.cell
      each k w ls g l (inl e) = subst (λ (m : Link). Waits ss m.task m.cell) (sym e) w
      each k w ls g l (inr i) = g l i

  -- a task on a cycle is a member of one that stands from its least name on
  pub stands_with : (y : Name) → graph.IsOnCycle (Leads ss) y
      → (c : List Link) × IsCycle ss c × IsIn y (map (λ (l : Link). l.task) c)
  stands_with y (n, on) =
      let r = returns_are_cycles (Leads ss) one same same_names y n on in
      let z = least_of (y ∷ r.0) y (inl refl) in
      let back = cycles_return (Leads ss) one same same_names (y ∷ r.0) z.0 r.1 (in_contains (y ∷ r.0) z.0 z.1) in
      let t = returns_are_cycles (Leads ss) one same same_names z.0 (length (y ∷ r.0)) back in
      let within : (x : Name) → IsIn x (z.0 ∷ t.0) → IsIn x (y ∷ r.0) =
      λ x i. shares ss apart y r.0 z.0 t.0 r.1 t.1 z.0 x z.1 (inl refl) i in
      let here : IsIn y (z.0 ∷ t.0) = shares ss apart z.0 t.0 y r.0 t.1 r.1 z.0 y (inl refl) z.1 (inl refl) in
      let c = links_for (z.0 ∷ t.0) (λ x i.
      let l = cycle_leads (Leads ss) x (length (z.0 ∷ t.0))
      (cycles_return (Leads ss) one same same_names (z.0 ∷ t.0) x t.1 (in_contains (z.0 ∷ t.0) x i)) in
      (l.1.0, l.1.1)) in
      (c.0, of_links c.0 z.0 t.0 t.1 c.1 c.2 (λ x i. z.2 x (within x i)), subst (IsIn y) (sym c.1) here)
    where
      of_links : (c : List Link) (z : Name) (bs : List Name) → graph.IsCycle (Leads ss) same (z ∷ bs)
          → map (λ (l : Link). l.task) c ≡ z ∷ bs → ((l : Link) → IsIn l c → Waits ss l.task l.cell)
          → ((x : Name) → IsIn x (z ∷ bs) → at_most z x ≡ true) → IsCycle ss c
      of_links [] z bs cycle named waits least = absurd (cc)
      of_links (k ∷ ks) z bs cycle named waits least =
          let first : k.task ≡ z = ap (λ ns. get_or ns 0 []) named in
          record {
            tasks = subst (graph.IsCycle (Leads ss) same) (sym named) cycle;
            cells = all_of_in (λ (l : Link). Waits ss l.task l.cell) (k ∷ ks) waits;
            least = all_of_in (λ (l : Link). at_most k.task l.task ≡ true) (k ∷ ks) (λ l i.
                subst (λ f. at_most f l.task ≡ true) (sym first)
                (least l.task (subst (IsIn l.task) named (to_map (λ (m : Link). m.task) l (k ∷ ks) i))));
          }

-- the waits that findings tell, in short
in_short : (fs : List Finding) → flat_map waits_in fs ≡ map link_told (flat_map told_waits_in fs)
in_short [] = refl
in_short (f ∷ fs) = ap (λ z. waits_in f ++ z) (in_short fs) ∙ by f where
  by : (f : Finding) → waits_in f ++ map link_told (flat_map told_waits_in fs)
      ≡ map link_told (told_waits_in f ++ flat_map told_waits_in fs)
  by (finding.Cycle ws) = joins ws where
    joins : (ws : List Wait) → map link_told ws ++ map link_told (flat_map told_waits_in fs)
        ≡ map link_told (ws ++ flat_map told_waits_in fs)
    joins [] = refl
    joins (w ∷ ws) = ap (λ z. link_told w ∷ z) (joins ws)
  by (finding.Behind w) = refl
  by (finding.Failed t c m) = refl
  by (finding.Owed q t) = refl
  by (finding.Echo t q o) = refl

module _ (lines : List TraceLine) where
  -- a wait tells the owner that is found
  abbrev TellsOwner : Wait → Type 0
  TellsOwner w = w.owner ≡ option_map (λ (l : TraceLine). l.line.name) (owner_of lines w.cell.name)

  of_links : (ks : List Link) (w : Wait) → IsIn w (flat_map (link_wait lines) ks) → TellsOwner w
  of_links ks w i = let k = from_flat_map (link_wait lines) w ks i in by k.0.cell (line_of lines k.0.task) k.2 where
    by : (q : Name) (o : Option TraceLine) → IsIn w (wait_by lines q o) → TellsOwner w
    by q None i = absurd i
    by q (Some l) (inl e) = subst TellsOwner (sym e) refl
    by q (Some l) (inr i) = absurd i

  of_finding : (cycles : List (List Link)) (w : Wait) (f : Finding) → IsOf lines cycles f → IsIn w (told_waits_in f)
      → TellsOwner w
  of_finding cycles w f (a_cycle c j e) i = of_links c w (subst (λ h. IsIn w (told_waits_in h)) e i)
  of_finding cycles w f (a_wait l there q is e) i = by (subst (λ h. IsIn w (told_waits_in h)) e i) where
    by : IsIn w (findings.told_wait lines l q ∷ []) → TellsOwner w
    by (inl same) = subst TellsOwner (sym same) refl
    by (inr j) = absurd j
  of_finding cycles w f (a_failure l there c is none e) i = absurd (subst (λ h. IsIn w (told_waits_in h)) e i)
  of_finding cycles w f (a_debt l there q owed e) i = absurd (subst (λ h. IsIn w (told_waits_in h)) e i)
  of_finding cycles w f (an_echo l there q is e) i = absurd (subst (λ h. IsIn w (told_waits_in h)) e i)

  tells_owner : (cycles : List (List Link)) (w : Wait) → IsIn w (flat_map told_waits_in (findings_of lines cycles))
      → TellsOwner w
  tells_owner cycles w i =
      let f = from_flat_map told_waits_in w (findings_of lines cycles) i in
      of_finding cycles w f.0 (is_of lines cycles f.0 f.1) f.2

module _ (strict : Bool) (root : PlacedState) (N : ℕ) (lines : List TraceLine) (o : Outcome)
    (owners : points.OwnersWait (script_program strict root))
    (lead : points.WaitsLeadToCycle (script_program strict root))
    (room : ¬ IsFull (script_program strict root) N) (traced : AreTraced (logged_program strict root) N lines)
    (out : IsOutcome (meaning (script_program strict root) N) o) where
  abbrev ps : List (Point TaskState)
  ps = meaning (script_program strict root) N

  abbrev ss : List Stopped
  ss = out.0

  apart : AreApart ss
  apart = meaning_apart (script_program strict root) N ss out.1

  pub own_told : (y q : Name) → points.Owns ps y q → Owns ss y q
  own_told y q (p, i, n, j) =
      let s = of_told ps ss out.1 p i in
      (s.0, s.1, told_name p s.0 s.2 ∙ n, subst (IsIn q) (sym (told_owned p s.0 s.2)) j)

  pub lead_told : (x y : Name) → points.WaitsFor ps x y → Leads ss x y
  lead_told x y (q, (p, spare, i, n, e), own) =
      let s = of_told ps ss out.1 p i in
      (q, (s.0, s.1, told_name p s.0 s.2 ∙ n, told_wait p s.0 q spare e s.2), own_told y q own)

  pub waits_at : (q : Name) (z : PointStage) → ending_of z ≡ Some (ending.Waits q)
      → (spare : Bool) × (z ≡ stage.Waits q spare)
  waits_at q (stage.Answered a) e = absurd (cc)
  waits_at q (stage.Closed (close.Done v)) e = absurd (cc)
  waits_at q (stage.Closed (close.Failed c)) e = absurd (cc)
  waits_at q (stage.Waits c spare) e = (spare, same e) where
    same : ◌≡◌ {A = Option Ending} (Some (ending.Waits c)) (Some (ending.Waits q))
        → stage.Waits c spare ≡ stage.Waits q spare
    same e = cc

  -- a told wait is one of the meaning
  waits_there : (w : Wait) → IsIn w (flat_map told_waits_in (findings_of lines o.cycles))
      → points.Waits ps w.task.name w.cell.name
  waits_there w i =
      let k = subst (IsIn (link_told w)) (sym (in_short (findings_of lines o.cycles)))
      (to_map link_told w (flat_map told_waits_in (findings_of lines o.cycles)) i) in
      let p = waits_from strict root N lines o traced out (link_told w) k in
      let at = waits_at w.cell.name p.0.stage p.3 in
      (p.0, at.0, p.1, p.2, at.1)

  pub led : (w : Wait) → IsIn w (flat_map told_waits_in (findings_of lines o.cycles))
      → LeadsToToldCycle ps (findings_of lines o.cycles) w.task.name
      × ((y : Name) × (w.owner ≡ Some y) × points.WaitsFor ps w.task.name y)
  led w i =
      let waits = waits_there w i in
      let way = lead N room w.task.name w.cell.name waits in
      let on = on_cycle_moves (points.WaitsFor ps) (Leads ss) (λ a b c l m. lead_told a b l)
      (λ a b c l m. names_lead ss apart a b c (lead_told a b l) (lead_told a c m)) (names_lead ss apart) way.0 way.3 in
      let c = stands_with ss apart way.0 on in
      let there = (out.2.cycles.0 c.0).1 c.1 in
      let own = (owners N room w.task.name w.cell.name waits).1 in
      let told : IsIn (flat_map (link_wait lines) c.0) (flat_map cycles_in (findings_of lines o.cycles)) =
      subst (IsIn (flat_map (link_wait lines) c.0)) (sym (cycles_told lines o.cycles))
      (to_map (flat_map (link_wait lines)) c.0 o.cycles there) in
      let member : IsIn way.0 (members_of (flat_map (link_wait lines) c.0)) =
      subst (IsIn way.0) (sym (members_told lines [] c.0 (λ k j.
      link_found strict root N lines o traced out k (in_flat_map (λ (c : List Link). c) c.0 k o.cycles there j))))
      c.2 in
      let owner : w.owner ≡ Some own.0 = tells_owner lines o.cycles w i
      ∙ owner_is strict root N lines o traced out own.0 w.cell.name (own_told own.0 w.cell.name own.2) in (
        (way.0, way.1, way.2, (flat_map (link_wait lines) c.0, told, member)),
        (own.0, owner, (w.cell.name, waits, own.2)),
      )
