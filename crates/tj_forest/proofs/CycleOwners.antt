-- In a cycle that is told each owner is the next member.
use Rattle.std.proofs.Common.{◌≡◌, ℕ, Bool, true, false, cond, List, [], ◌∷◌, ◌++◌, map, Option, Some}
use Rattle.std.proofs.Common.{refl, sym, ap, subst, ◌∙◌, inl, inr, ◌⊎◌, append-nil}
use Rattle.std.specs.Prelude.{drop, take}
use Rattle.std.specs.Option.{option_map}
use Rattle.std.specs.List.{find, flat_map}
use Rattle.tj_base.specs.ForkOrder.{Name}
use Rattle.tj_base.specs.Cycles as graph
use Rattle.tj_base.specs.declared.cause.Cause.TheVariants as cause
use Rattle.tj_body.specs.Names.{at_most, has}
use Rattle.tj_body.specs.Points.{IsIn}
use Rattle.tj_body.specs.Rounds.{meaning}
use Rattle.tj_body.specs.SeenAs.{IsSeenAs, point_as}
use Rattle.tj_body.specs.declared.point.Point.{Point}
use Rattle.tj_body.proofs.Counts.{has_of_times, times_of_in}
use Rattle.tj_body.proofs.Lists.{in_flat_map, in_map, to_map}
use Rattle.tj_body.proofs.SeenAs.{meaning_seen}
use Rattle.tj_eval.specs.Stands.{PlacedState}
use Rattle.tj_mean.specs.Outcomes.{AreTold, IsCycle, IsOutcome, Leads, Owns, Waits, owned_with, stopped_of}
use Rattle.tj_mean.specs.declared.outcome.Ending.{Ending}
use Rattle.tj_mean.specs.declared.outcome.Ending.TheVariants as ending
use Rattle.tj_mean.specs.declared.outcome.Link.{Link}
use Rattle.tj_mean.specs.declared.outcome.Outcome.{Outcome}
use Rattle.tj_mean.specs.declared.stopped.Stopped.{Stopped}
use Rattle.tj_mean.proofs.Lists.Elements.{in_of_all, in_of_has, some_is}
use Rattle.tj_mean.proofs.Lists.KeyedLists.{one_of_key}
use Rattle.tj_mean.proofs.Lists.NameOrder.{in_unpermuted}
use Rattle.tj_mean.proofs.Outcomes.ToldOutcomes.{meaning_apart, told_of}
use Rattle.tj_trace.specs.Inner.LogLaws.{are_seen}
use Rattle.tj_trace.specs.Logs.{Logged, erased, logged_program}
use Rattle.tj_trace.specs.Lookups.{kept_by, kept_with}
use Rattle.tj_trace.specs.TraceLaws.{script_program}
use Rattle.tj_trace.specs.Traces.{AreTraced, line_in}
use Rattle.tj_trace.specs.Traces as traces
use Rattle.tj_trace.specs.declared.line.TraceLine.{TraceLine}
use Rattle.tj_trace.proofs.OwnersOne.{owners_are_one}
use Rattle.tj_forest.proofs.ToldOnce.{link_found}
use Rattle.tj_forest.proofs.ToldParts.{no_debt, none_of, six}
use Rattle.tj_forest.specs.Explanations.{BeginsLeast, IsToldCycle, OwnersAreNext, cycles_in, members_of}
use Rattle.tj_findings.specs.Findings.{behind, behind_with, echo, echo_with, failed, failed_with, findings_of, is_member}
use Rattle.tj_findings.specs.Findings.{is_owing, link_wait, owed, told_cycle, wait_by}
use Rattle.tj_findings.specs.Searches.{line_of, owner_of}
use Rattle.tj_findings.specs.declared.finding.Wait.{Wait}

-- a list that has an element which passes has a first one
pub found : {A : Type 0} (p : A → Bool) (xs : List A) (x : A) → IsIn x xs → p x ≡ true
    → (y : A) × (find p xs ≡ Some y) × IsIn y xs × (p y ≡ true)
found p [] x i e = absurd i
found {A} p (y ∷ ys) x i e = by (p y) refl i (λ j. found p ys x j e) where
  by : (b : Bool) → p y ≡ b → (x ≡ y) ⊎ IsIn x ys
      → (IsIn x ys → (z : A) × (find p ys ≡ Some z) × IsIn z ys × (p z ≡ true))
      → (z : A) × (cond b (Some y) (find p ys) ≡ Some z) × IsIn z (y ∷ ys) × (p z ≡ true)
  by true is j rest = (y, refl, inl refl, is)
  by false is (inl same) rest = let z : true ≡ false = sym e ∙ ap p same ∙ is in absurd (cc)
  by false is (inr j) rest = let r = rest j in (r.0, r.1, inr r.2, r.3)

module _ (lines : List TraceLine) (cycles : List (List Link)) where
  no_behind : (l : TraceLine) (b : Bool) (e : Ending) → flat_map cycles_in (behind_with lines b l e) ≡ []
  no_behind l b (ending.Done v) = refl
  no_behind l b (ending.Failed c) = refl
  no_behind l true (ending.Waits q) = refl
  no_behind l false (ending.Waits q) = refl

  no_failed : (l : TraceLine) (e : Ending) → flat_map cycles_in (failed_with lines l e) ≡ []
  no_failed l (ending.Done v) = refl
  no_failed l (ending.Failed cause.Arith) = refl
  no_failed l (ending.Failed cause.Kind) = refl
  no_failed l (ending.Failed cause.Steps) = refl
  no_failed l (ending.Failed (cause.Owner q)) = refl
  no_failed l (ending.Failed (cause.Broken q)) = refl
  no_failed l (ending.Failed (cause.Order q)) = refl
  no_failed l (ending.Waits q) = refl

  no_echo : (l : TraceLine) (e : Ending) → flat_map cycles_in (echo_with lines l e) ≡ []
  no_echo l (ending.Done v) = refl
  no_echo l (ending.Failed cause.Arith) = refl
  no_echo l (ending.Failed cause.Kind) = refl
  no_echo l (ending.Failed cause.Steps) = refl
  no_echo l (ending.Failed (cause.Owner q)) = refl
  no_echo l (ending.Failed (cause.Broken q)) = refl
  no_echo l (ending.Failed (cause.Order q)) = refl
  no_echo l (ending.Waits q) = refl

  told : (cs : List (List Link)) → flat_map cycles_in (map (told_cycle lines) cs) ≡ map (flat_map (link_wait lines)) cs
  told [] = refl
  told (c ∷ cs) = ap (λ z. flat_map (link_wait lines) c ∷ z) (told cs)

  -- the cycles that all findings tell
  pub cycles_told : flat_map cycles_in (findings_of lines cycles) ≡ map (flat_map (link_wait lines)) cycles
  cycles_told =
      six lines cycles cycles_in (map (flat_map (link_wait lines)) cycles) [] [] [] [] [] (told cycles)
      (none_of cycles_in (behind lines cycles)
      (λ l. no_behind l (is_member cycles l.line.name) l.line.ending) lines)
      (none_of cycles_in (failed lines) (λ l. no_failed l l.line.ending) lines)
      (none_of cycles_in (owed lines true)
      (λ l. no_debt lines cycles cycles_in l (λ q. refl) (is_owing true l.line.ending) l.line.owes) lines)
      (none_of cycles_in (owed lines false)
      (λ l. no_debt lines cycles cycles_in l (λ q. refl) (is_owing false l.line.ending) l.line.owes) lines)
      (none_of cycles_in (echo lines) (λ l. no_echo l l.line.ending) lines)
      ∙ bare (map (flat_map (link_wait lines)) cycles)
    where
      bare : (ws : List (List Wait)) → ws ++ [] ++ [] ++ [] ++ [] ++ [] ≡ ws
      bare ws =
          append-nil (ws ++ [] ++ [] ++ [] ++ []) ∙ append-nil (ws ++ [] ++ [] ++ []) ∙ append-nil (ws ++ [] ++ [])
          ∙ append-nil (ws ++ []) ∙ append-nil ws

  -- who is told to own the cell of a link
  abbrev owner_told : Link → Option Name
  owner_told k = option_map (λ l. l.line.name) (owner_of lines k.cell)

  abbrev AreFound : List Link → Type 0
  AreFound ks = (k : Link) → IsIn k ks → (l : TraceLine) × (line_of lines k.task ≡ Some l) × (l.line.name ≡ k.task)

  -- the waits of links whose tasks have lines
  owners_told : (ks : List Link) → AreFound ks
      → map (λ (w : Wait). w.owner) (flat_map (link_wait lines) ks) ≡ map owner_told ks
  owners_told [] there = refl
  owners_told (k ∷ ks) there =
      let l = there k (inl refl) in
      ap (λ o. map (λ (w : Wait). w.owner) (wait_by lines k.cell o ++ flat_map (link_wait lines) ks)) l.1
      ∙ ap (λ z. owner_told k ∷ z) (owners_told ks (λ m i. there m (inr i)))

  pub members_told : (ks : List Link) → AreFound ks
      → members_of (flat_map (link_wait lines) ks) ≡ map (λ (k : Link). k.task) ks
  members_told [] there = refl
  members_told (k ∷ ks) there =
      let l = there k (inl refl) in
      ap (λ o. members_of (wait_by lines k.cell o ++ flat_map (link_wait lines) ks)) l.1
      ∙ (ap (λ x. x ∷ members_of (flat_map (link_wait lines) ks)) l.2
      ∙ ap (λ z. k.task ∷ z) (members_told ks (λ m i. there m (inr i))))

module _ (strict : Bool) (root : PlacedState) (N : ℕ) (lines : List TraceLine) (o : Outcome)
    (traced : AreTraced (logged_program strict root) N lines)
    (out : IsOutcome (meaning (script_program strict root) N) o) where
  abbrev ss : List Stopped
  ss = out.0

  -- what is told of the histories without notes is told of those with notes
  told_as : (ps : List (Point Logged)) → map stopped_of (map (point_as erased) ps) ≡ map stopped_of ps
  told_as [] = refl
  told_as (p ∷ ps) = ap (λ os. stopped_of p ∷ os) (told_as ps)

  told_logged : AreTold (meaning (logged_program strict root) N) ss
  told_logged =
      let seen : IsSeenAs erased (logged_program strict root) (script_program strict root) =
      record { rules = are_seen strict; root = refl } in
      let same = meaning_seen erased (logged_program strict root) (script_program strict root) seen N in
      sym (told_as (meaning (logged_program strict root) N)) ∙ (ap (map stopped_of) (sym same) ∙ out.1)

  -- each task that is told has a line, which says what it holds
  line_for : (s : Stopped) → IsIn s ss
      → (l : TraceLine) × IsIn l lines × (l.line ≡ s.line) × (l.holds ≡ s.holds)
  line_for s i =
      let p = told_of (meaning (logged_program strict root) N) ss told_logged s i in
      let j = in_unpermuted (meaning (logged_program strict root) N) traced.histories traced.same_histories p.0 p.1 in
      let is : traces.line_of p.0 ≡ Some (line_in p.0 s) = ap (option_map (line_in p.0)) p.2 in
      let k = subst (IsIn (traces.line_of p.0)) traced.are_told (to_map traces.line_of p.0 traced.histories j) in
      let l = in_map (λ (z : TraceLine). Some z) (traces.line_of p.0) traced.told k in
      let same : l.0 ≡ line_in p.0 s = some_is l.0 (line_in p.0 s) (sym l.2 ∙ is) in (
        l.0,
        in_unpermuted traced.told lines traced.same_lines l.0 l.1,
        ap (λ (z : TraceLine). z.line) same,
        ap (λ (z : TraceLine). z.holds) same,
      )

  -- what a task owns its line keeps
  keeps : (l : TraceLine) (s : Stopped) (q : Name) (e : Ending) → s.line.ending ≡ e → l.line ≡ s.line
      → l.holds ≡ s.holds → IsIn q (owned_with e s.line.name s.holds) → IsIn q (kept_by l)
  keeps l s q (ending.Done v) is a b i = absurd i
  keeps l s q (ending.Failed c) is a b i = absurd i
  keeps l s q (ending.Waits c) is a b i =
      let ends : l.line.ending ≡ ending.Waits c = ap (λ z. z.ending) a ∙ is in
      subst (λ e. IsIn q (kept_with e l)) (sym ends)
      (subst (λ z. IsIn q (z ∷ l.holds)) (sym (ap (λ z. z.name) a))
      (subst (λ z. IsIn q (s.line.name ∷ z)) (sym b) i))

  -- the owner of a cell is told
  pub owner_is : (y q : Name) → Owns ss y q → option_map (λ (l : TraceLine). l.line.name) (owner_of lines q) ≡ Some y
  owner_is y q (u, i, named, own) =
      let l = line_for u i in
      let kept = keeps l.0 u q u.line.ending refl l.2 l.3 own in
      let f = found (λ (l : TraceLine). has q (kept_by l)) lines l.0 l.1
      (has_of_times q (kept_by l.0) (times_of_in q (kept_by l.0) kept)) in
      let same = owners_are_one strict root N lines traced f.0 l.0 q f.2 l.1 (in_of_has q (kept_by f.0) f.3) kept in
      ap (option_map (λ (l : TraceLine). l.line.name)) f.1
      ∙ ap (λ (z : TraceLine). Some z.line.name) same ∙ ap (λ z. Some z) (ap (λ z. z.name) l.2 ∙ named)

  -- a task waits for one cell
  one_cell : (x p q : Name) → Waits ss x p → Waits ss x q → p ≡ q
  one_cell x p q (s, i, n, e) (u, j, m, f) =
      let apart = meaning_apart (script_program strict root) N ss out.1 in
      let same = one_of_key (λ (z : Stopped). z.line.name) ss apart.names s u i j (n ∙ sym m) in
      waits (sym e ∙ ap (λ (z : Stopped). z.line.ending) same ∙ f)
    where
      waits : ending.Waits p ≡ ending.Waits q → p ≡ q
      waits e = cc

  next_owner : (k : Link) (y : Name) → Waits ss k.task k.cell → Leads ss k.task y → owner_told lines [] k ≡ Some y
  next_owner k y w (q, v, own) =
      owner_is y k.cell (subst (Owns ss y) (one_cell k.task q k.cell v w) own)

  along : (z : Name) (k : Link) (ks : List Link) → ((m : Link) → IsIn m (k ∷ ks) → Waits ss m.task m.cell)
      → graph.LeadsAlong (Leads ss) k.task (map (λ (m : Link). m.task) ks) z
      → map (owner_told lines []) (k ∷ ks) ≡ map (λ x. Some x) (map (λ (m : Link). m.task) ks ++ z ∷ [])
  along z k [] waits leads = ap (λ x. x ∷ []) (next_owner k z (waits k (inl refl)) leads)
  along z k (m ∷ ms) waits (first, rest) =
      ap (λ x. x ∷ map (owner_told lines []) (m ∷ ms)) (next_owner k m.task (waits k (inl refl)) first)
      ∙ ap (λ x. Some m.task ∷ x) (along z m ms (λ n i. waits n (inr i)) rest)

  -- the law
  pub owners_are_next : (waits : List Wait) → IsIn waits (flat_map cycles_in (findings_of lines o.cycles))
      → IsToldCycle waits
  owners_are_next waits i =
      let c = in_map (flat_map (link_wait lines)) waits o.cycles
      (subst (IsIn waits) (cycles_told lines o.cycles) i) in
      subst IsToldCycle (sym c.2) (of_cycle c.0 c.1 ((out.2.cycles.0 c.0).0 c.1))
    where
      -- the first name of a cycle comes before the others
      least : (k : Link) (ks : List Link) → IsCycle ss (k ∷ ks) → BeginsLeast (map (λ (l : Link). l.task) (k ∷ ks))
      least k ks is y i =
          let l = in_map (λ (l : Link). l.task) y ks i in
          subst (λ w. at_most k.task w ≡ true) (sym l.2)
          (in_of_all (λ (l : Link). at_most k.task l.task ≡ true) (k ∷ ks) is.least l.0 (inr l.1))

      of_cycle : (c : List Link) → IsIn c o.cycles → IsCycle ss c → IsToldCycle (flat_map (link_wait lines) c)
      of_cycle [] there is = absurd is.tasks
      of_cycle (k ∷ ks) there is =
          let found : AreFound lines [] (k ∷ ks) =
          λ m i. link_found strict root N lines o traced out m
          (in_flat_map (λ (c : List Link). c) (k ∷ ks) m o.cycles there i) in
          let waits = in_of_all (λ (l : Link). Waits ss l.task l.cell) (k ∷ ks) is.cells in
          let members = members_told lines [] (k ∷ ks) found in (
            subst BeginsLeast (sym members) (least k ks is),
            owners_told lines [] (k ∷ ks) found ∙ along k.task k ks waits is.tasks.1
                ∙ ap (λ ns. map (λ x. Some x) (drop 1 ns ++ take 1 ns)) (sym members),
          )
