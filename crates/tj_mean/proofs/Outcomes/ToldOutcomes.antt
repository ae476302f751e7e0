-- What is told of histories that have stopped, in any order, and of those of a meaning.
use Rattle.std.proofs.Common.{◌≡◌, ℕ, suc, ◌*◌, ◌≤◌, inl, inr, Bool, Option, Some, None, List, [], ◌∷◌, map, drop, get_or}
use Rattle.std.proofs.Common.{refl, sym, ap, ◌∙◌, subst, arith}
use Rattle.std.specs.Prelude.{unwrap_or}
use Rattle.std.specs.List.{flat_map}
use Rattle.std.specs.List.Sorted.{IsPermutation}
use Rattle.std.specs.Option.{option_map}
use Rattle.std.proofs.lemmas.List.Sorted.{IsPermutation-map, IsPermutation-sym, IsPermutation-trans}
use Rattle.tj_base.specs.ForkOrder.{Name}
use Rattle.tj_base.proofs.CyclesOn.{cycle_list_moves}
use Rattle.tj_body.specs.Programs.{Program}
use Rattle.tj_body.specs.History.{Assignment, history, owned, owned_in}
use Rattle.tj_body.specs.Names.{same}
use Rattle.tj_body.specs.Rounds.{cells_by, given, tasks, cells, last_round, meaning}
use Rattle.tj_body.specs.Points.{IsIn}
use Rattle.tj_body.specs.declared.point.Task.{Task}
use Rattle.tj_body.specs.declared.point.Point.{Point}
use Rattle.tj_body.specs.declared.point.PointStage.{PointStage}
use Rattle.tj_body.specs.declared.point.PointStage.TheVariants as stage
use Rattle.tj_body.specs.declared.point.Close.TheVariants as close
use Rattle.tj_body.proofs.Counts.{is, times, total_append, distinct_of_times}
use Rattle.tj_body.proofs.Lists.{in_map}
use Rattle.tj_body.proofs.Rounds.Families.{same_name}
use Rattle.tj_body.proofs.Rounds.Rises.{once_name, owners_apart}
use Rattle.tj_mean.specs.Outcomes.{ending_of, stopped_of, AreTold, owned_by, Waits, Leads, IsCycle}
use Rattle.tj_mean.specs.Outcomes.{AreApart, IsOutcomeOf, IsOutcome, shown_of}
use Rattle.tj_mean.specs.WaitIndexes.{waited}
use Rattle.tj_mean.specs.declared.outcome.Ending.{Ending}
use Rattle.tj_mean.specs.declared.outcome.Ending.TheVariants as ending
use Rattle.tj_mean.specs.declared.outcome.Link.{Link}
use Rattle.tj_mean.specs.declared.outcome.Outcome.{Outcome}
use Rattle.tj_mean.specs.declared.stopped.Stopped.{Stopped}
use Rattle.tj_mean.proofs.Lists.Elements.{some_is}
use Rattle.tj_mean.proofs.Lists.NameOrder.{distinct_permuted, in_permuted, in_unpermuted}

-- tasks that are among others wait and own as these do
module _ (ss us : List Stopped) (to : (s : Stopped) → IsIn s ss → IsIn s us) where
  waits_to : (x q : Name) → Waits ss x q → Waits us x q
  waits_to x q (s, i, n, e) = (s, to s i, n, e)

  cycle_to : (c : List Link) → IsCycle ss c → IsCycle us c
  cycle_to c k = record {
    tasks = cycle_list_moves (Leads ss) (Leads us)
        (λ x y z l m. (l.0, waits_to x l.0 l.1, (l.2.0, to l.2.0 l.2.1, l.2.2, l.2.3))) same
        (map (λ (l : Link). l.task) c) k.tasks;
    cells = λ i d l. let m : Link = get_or c i d in waits_to m.task m.cell (k.cells i d l);
    least = k.least;
  }

module _ (ss us : List Stopped) (p : IsPermutation ss us) where
  -- tasks that are apart are so in another order
  pub apart_in_order : AreApart ss → AreApart us
  apart_in_order a = record {
    names = distinct_permuted (λ (s : Stopped). s.line.name) ss us p a.names;
    owners = λ s u q i j x y. a.owners s u q (in_permuted ss us p s i) (in_permuted ss us p u j) x y;
  }

  -- and their outcome is that of tasks in another order
  pub outcome_in_order : (o : Outcome) → IsOutcomeOf us o → IsOutcomeOf ss o
  outcome_in_order o k = record {
    lines = IsPermutation-trans (map (λ (s : Stopped). s.line) ss) (map (λ (s : Stopped). s.line) us) o.lines
        (IsPermutation-map (λ (s : Stopped). s.line) ss us p) k.lines;
    lines_in_order = k.lines_in_order;
    cycles = (
      λ c. (
        λ i. cycle_to us ss (in_permuted ss us p) c ((k.cycles.0 c).0 i),
        λ h. (k.cycles.0 c).1 (cycle_to ss us (in_unpermuted ss us p) c h),
      ),
      k.cycles.1,
    );
  }

-- what is told of one history
module _ {B : Type 0} (p : Point B) (s : Stopped) where
  abbrev told_with : Ending → Stopped
  told_with e = record {
    line = record { name = p.name; prints = p.prints; ending = e; owes = p.owed };
    holds = p.holds;
  }

  -- it has its name
  pub told_name : stopped_of p ≡ Some s → s.line.name ≡ p.name
  told_name h = by (ending_of p.stage) h where
    by : (o : Option Ending) → option_map told_with o ≡ Some s → s.line.name ≡ p.name
    by None e = absurd (cc)
    by (Some x) e = ap (λ (z : Stopped). z.line.name) (sym (some_is (told_with x) s e))

  -- it owns what its task owns
  pub told_owned : stopped_of p ≡ Some s → owned_by s ≡ owned p
  told_owned h = by p.stage h where
    by : (st : PointStage) → option_map told_with (ending_of st) ≡ Some s → owned_by s ≡ owned_in st p.name p.holds
    by (stage.Answered a) e = absurd (cc)
    by (stage.Waits q spare) e = ap owned_by (sym (some_is (told_with (ending.Waits q)) s e))
    by (stage.Closed (close.Done v)) e = ap owned_by (sym (some_is (told_with (ending.Done (shown_of v))) s e))
    by (stage.Closed (close.Failed c)) e = ap owned_by (sym (some_is (told_with (ending.Failed c)) s e))

  -- it waits only where its task does
  pub told_waits : (q : Name) → stopped_of p ≡ Some s → s.line.ending ≡ ending.Waits q
      → (spare : Bool) × (p.stage ≡ stage.Waits q spare)
  told_waits q h w = by p.stage h where
    by : (st : PointStage) → option_map told_with (ending_of st) ≡ Some s → (spare : Bool) × (st ≡ stage.Waits q spare)
    by (stage.Answered a) e = absurd (cc)
    by (stage.Waits r spare) e =
        let same_ending : ending.Waits r ≡ ending.Waits q =
        ap (λ (z : Stopped). z.line.ending) (some_is (told_with (ending.Waits r)) s e) ∙ w in
        (spare, ap (λ x. stage.Waits x spare) (ap waited same_ending))
    by (stage.Closed (close.Done v)) e =
        let z : ending.Done (shown_of v) ≡ ending.Waits q =
        ap (λ (z : Stopped). z.line.ending) (some_is (told_with (ending.Done (shown_of v))) s e) ∙ w in absurd (cc)
    by (stage.Closed (close.Failed c)) e =
        let z : ending.Failed c ≡ ending.Waits q =
        ap (λ (z : Stopped). z.line.ending) (some_is (told_with (ending.Failed c)) s e) ∙ w in absurd (cc)

-- the task of a history that waits is told to wait
pub told_wait : {B : Type 0} (p : Point B) (s : Stopped) (q : Name) (spare : Bool) → p.stage ≡ stage.Waits q spare
    → stopped_of p ≡ Some s → s.line.ending ≡ ending.Waits q
told_wait p s q spare w h = ap (λ (z : Stopped). z.line.ending) (sym (some_is (told_with p s (ending.Waits q)) s
    (sym (ap (λ st. option_map (told_with p s) (ending_of st)) w) ∙ h)))

-- something in place of what is told of a history that goes on
abbrev nobody : Stopped
nobody = record { line = record { name = []; prints = []; ending = ending.Waits []; owes = [] }; holds = [] }

told_back : (ss : List Stopped) → map (λ o. unwrap_or o nobody) (map (λ s. Some s) ss) ≡ ss
told_back [] = refl
told_back (s ∷ ss) = ap (λ l. s ∷ l) (told_back ss)

-- what is told is one list
pub same_told : (ss us : List Stopped) → map (λ s. Some s) ss ≡ map (λ s. Some s) us → ss ≡ us
same_told ss us e = sym (told_back ss) ∙ (ap (λ l. map (λ o. unwrap_or o nobody) l) e ∙ told_back us)

module _ {B : Type 0} where
  -- what is told is told of one of the histories, and of each of them something is told
  pub told_of : (ps : List (Point B)) (ss : List Stopped) → AreTold ps ss → (s : Stopped) → IsIn s ss
      → (p : Point B) × IsIn p ps × (stopped_of p ≡ Some s)
  told_of [] [] e s i = absurd i
  told_of [] (u ∷ us) e s i = absurd (cc)
  told_of (p ∷ ps) [] e s i = absurd i
  told_of (p ∷ ps) (u ∷ us) e s (inl q) =
      (p, inl refl, ap (λ l. get_or l 0 None) e ∙ ap (λ z. Some z) (sym q))
  told_of (p ∷ ps) (u ∷ us) e s (inr i) =
      let r = told_of ps us (ap (λ l. drop 1 l) e) s i in (r.0, inr r.1, r.2)

  pub of_told : (ps : List (Point B)) (ss : List Stopped) → AreTold ps ss → (p : Point B) → IsIn p ps
      → (s : Stopped) × IsIn s ss × (stopped_of p ≡ Some s)
  of_told [] ss e p i = absurd i
  of_told (q ∷ ps) [] e p i = absurd (cc)
  of_told (q ∷ ps) (u ∷ us) e p (inl k) = (u, inl refl, ap stopped_of k ∙ ap (λ l. get_or l 0 None) e)
  of_told (q ∷ ps) (u ∷ us) e p (inr i) =
      let r = of_told ps us (ap (λ l. drop 1 l) e) p i in (r.0, inr r.1, r.2)

  told_names : (ps : List (Point B)) (ss : List Stopped) → AreTold ps ss
      → map (λ (s : Stopped). s.line.name) ss ≡ map (λ (p : Point B). p.name) ps
  told_names [] [] e = refl
  told_names [] (u ∷ us) e = absurd (cc)
  told_names (p ∷ ps) [] e = absurd (cc)
  told_names (p ∷ ps) (u ∷ us) e =
      let first = told_name p u (ap (λ l. get_or l 0 None) e) in
      let rest = told_names ps us (ap (λ l. drop 1 l) e) in λ i. first i ∷ rest i

  -- what is told of a history that has stopped
  abbrev told : Point B → Stopped
  told p = unwrap_or (stopped_of p) nobody

  all_told : (ps : List (Point B)) → ((p : Point B) → IsIn p ps → (s : Stopped) × (stopped_of p ≡ Some s))
      → AreTold ps (map told ps)
  all_told [] h = refl
  all_told (p ∷ ps) h =
      let s = h p (inl refl) in
      let first : stopped_of p ≡ Some (told p) = s.1 ∙ ap (λ o. Some (unwrap_or o nobody)) (sym s.1) in
      let rest = all_told ps (λ q i. h q (inr i)) in λ i. first i ∷ rest i

  -- histories in another order are told in another order
  pub told_in_order : (ps qs : List (Point B)) → IsPermutation ps qs → (ss : List Stopped) → AreTold ps ss
      → (us : List Stopped) × AreTold qs us × IsPermutation ss us
  told_in_order ps qs perm ss t =
      let has : (p : Point B) → IsIn p ps → (s : Stopped) × (stopped_of p ≡ Some s) = λ p i.
      let s = of_told ps ss t p i in (s.0, s.2) in
      let whole = all_told ps has in
      let same_list : ss ≡ map told ps = same_told ss (map told ps) (sym t ∙ whole) in (
        map told qs,
        all_told qs (λ q i. has q (in_permuted ps qs perm q i)),
        subst (λ l. IsPermutation l (map told qs)) (sym same_list) (IsPermutation-map told ps qs perm),
      )

  -- histories in another order have the same outcome
  pub any_order : (ps qs : List (Point B)) (o : Outcome) → IsPermutation ps qs → IsOutcome ps o → IsOutcome qs o
  any_order ps qs o perm (ss, t, k) =
      let r = told_in_order ps qs perm ss t in
      (r.0, r.1, outcome_in_order r.0 ss (IsPermutation-sym ss r.0 r.2) o k)

module _ {B : Type 0} (program : Program B) (N : ℕ) where
  abbrev last_given : Assignment
  last_given = given program (last_round N)

  abbrev last_tasks : List (Task B)
  last_tasks = tasks program (last_round N)

  abbrev history_at : Task B → Point B
  history_at t = history program.rules last_given t

  name_times : (U : Assignment) (q : Name) (l : List (Task B))
      → times q (map (λ (p : Point B). p.name) (map history_at l)) ≤ times q (flat_map (cells_by program.rules U) l)
  name_times U q [] = omega arith
  name_times U q (x ∷ xs) =
      let h = name_times U q xs in
      let n = ap (λ z. is q z) (same_name program.rules last_given x) in
      let a = total_append (is q) (history program.rules U x).promises
      (flat_map (cells_by program.rules U) xs) in
      omega arith

  -- no two tasks of a meaning have one name, and none owns what another owns
  pub meaning_apart : (ss : List Stopped) → AreTold (meaning program N) ss → AreApart ss
  meaning_apart ss t = record {
    names = distinct_of_times (map (λ (s : Stopped). s.line.name) ss)
        (λ q. let a = name_times (given program (2 * N)) q last_tasks in
        let z : suc (2 * N) ≡ last_round N = omega arith in
        let b = once_name program (last_round N) q in
        let c = ap (λ k. times q (flat_map (cells_by program.rules (given program (2 * N)))
        (tasks program k))) z in
        let d = ap (λ k. times q (cells program k)) z in
        let e = ap (λ l. times q l) (told_names (meaning program N) ss t) in
        omega arith);
    owners = λ s u q i j a b.
        let r = told_of (meaning program N) ss t s i in
        let v = told_of (meaning program N) ss t u j in
        let x = in_map history_at r.0 last_tasks r.1 in
        let y = in_map history_at v.0 last_tasks v.1 in
        let o = owners_apart program (last_round N) (last_round N) x.0 y.0 q
        (omega arith) x.1 y.1
        (subst (λ p. IsIn q (owned p)) x.2 (subst (IsIn q) (told_owned r.0 s r.2) a))
        (subst (λ p. IsIn q (owned p)) y.2 (subst (IsIn q) (told_owned v.0 u v.2) b)) in
        some_is s u (sym r.2 ∙ ap stopped_of (x.2 ∙ ap history_at o.0 ∙ sym y.2) ∙ v.2);
  }
