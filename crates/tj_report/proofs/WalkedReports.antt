-- The report of tasks, task by task in name order.
use Rattle.tj_report.proofs.Prelude.{AreDistinct, AreRecordsOf, AreToldInSomeOrder, AreWordsOf, IsBefore, IsCell, IsIn}
use Rattle.tj_report.proofs.Prelude.{IsRecordBelow, Link, List, Name, Point, Program, Rec, Reference, RestCell, Stopped}
use Rattle.tj_report.proofs.Prelude.{TellsHistory, [], ap, drop, in_either, in_left, in_right, inl, inr, map, meaning}
use Rattle.tj_report.proofs.Prelude.{meaning_distinct, name_by, name_text, names, refl, same_permuted, subst, suc, sym}
use Rattle.tj_report.proofs.Prelude.{to_task, told_by, told_name, true, zero, ℕ, ◌++◌, ◌<◌, ◌∙◌, ◌∷◌, ◌≡◌, ◌⊎◌}
use Rattle.std.proofs.Common.{Bool, false, ◌||◌, not, Option, Some, None, length, get_or, replicate, arith}
use Rattle.std.specs.Prelude.{slice_set}
use Rattle.std.specs.List.{All, AllByRecursion, flat_map, list_any}
use Rattle.std.specs.List.Sorted.{IsStrictlySortedBy}
use Rattle.std.specs.Cmp.Lexicographic.{nat_list_cmp_total}
use Rattle.std.proofs.lemmas.List.{append-nil, get_or-set_other}
use Rattle.std.proofs.lemmas.List.Folds.{list_any-append}
use Rattle.std.proofs.lemmas.Grind.{flat_map-append}
use Rattle.std.proofs.lemmas.List.Sorted.{IsPermutation-refl}
use native.Mathlib.Decide.{ℕ_discrete}
use mathlib.Core.Logic.{dite}
use Rattle.tj_mean.specs.Outcomes.{Ascend, AreCycles, AreTold, IsCycle, IsOutcomeOf, Waits, is_marked, is_nil}
use Rattle.tj_mean.specs.Outcomes.{is_troubled, is_undone, stopped_of}
use Rattle.tj_mean.specs.WaitIndexes.{LeadsOn, link_at}
use Rattle.tj_mean.specs.declared.outcome.Outcome.{Outcome}
use Rattle.tj_mean.specs.declared.outcome.TaskLine.{TaskLine}
use Rattle.tj_mean.proofs.Lists.Elements.{all_of_in, in_of_all, some_is}
use Rattle.tj_mean.proofs.Lists.Maps.{map_map}
use Rattle.tj_words.specs.LawParts.Telling.{ArePairs}
use Rattle.tj_report.specs.Inner.AwaitedCells.{AreRecordsBelow}
use Rattle.tj_report.specs.Inner.CellNamesBy.{names_by}
use Rattle.tj_report.specs.Inner.RestAlarms.{AreAlarmsBy, link_in}
use Rattle.tj_report.specs.Inner.WalkedReports.{AreToldBefore, AreToldBelow, AreToldTo, has_trouble}
use Rattle.tj_mean.specs.ReportTexts.{alarm_line, lines_of, report, task_lines, verdict_line}
use Rattle.tj_report.specs.RestReports.{IsReportOf}
use Rattle.tj_report.proofs.AwaitedCells.{told_line, told_there, told_trouble}
use Rattle.tj_report.proofs.CellIndexes.{get_of_elem, within}
use Rattle.tj_report.proofs.CellNames.{length_names}
use Rattle.tj_report.proofs.ClosedOutcomes.{told_alarmed, told_apart, told_outcome}
use Rattle.tj_report.proofs.NameSteps.{not_before}
use Rattle.tj_report.proofs.NamesBy.{names_are}
use Rattle.tj_report.proofs.NextOwners.{link_told, next_are, pairs_more}
use Rattle.tj_report.proofs.RestAlarms.{alarms_by}
use Rattle.tj_report.proofs.ToldTasks.{map_append, same_point, told_at, told_more}
use Rattle.tj_mean.specs.declared.outcome.Ending.TheVariants as ending

abbrev line : Stopped → TaskLine
line s = s.line

abbrev task_name : Stopped → Name
task_name s = s.line.name

or_false : (b : Bool) → (b || false) ≡ b
or_false true = refl
or_false false = refl

or_right : (a b : Bool) → b ≡ true → (a || b) ≡ true
or_right true b e = refl
or_right false b e = e

or_swap : (a b : Bool) → (a || b) ≡ (b || a)
or_swap true true = refl
or_swap true false = refl
or_swap false true = refl
or_swap false false = refl

none_told : (n d : ℕ) → get_or (replicate n false) d false ≡ false
none_told zero d = refl
none_told (suc n) zero = refl
none_told (suc n) (suc d) = none_told n d

-- a task is among the lines of all
any_of : (test : TaskLine → Bool) (ss : List Stopped) (s : Stopped) → IsIn s ss → test s.line ≡ true
    → list_any test (map line ss) ≡ true
any_of test [] s i e = absurd i
any_of test (u ∷ us) s (inl q) e =
    ap (λ b. b || list_any test (map line us)) (ap (λ (z : Stopped). test z.line) (sym q) ∙ e)
any_of test (u ∷ us) s (inr i) e = or_right (test u.line) (list_any test (map line us)) (any_of test us s i e)

-- a task that waits is troubled
wait_troubles : (l : TaskLine) (q : Name) → l.ending ≡ ending.Waits q → is_troubled l ≡ true
wait_troubles l q e = ap (λ x. is_undone x || not (is_nil l.owes)) e

-- where there is a cycle, a task is troubled
pub cycle_troubles : (ss : List Stopped) (c : List Link) → IsCycle ss c → list_any is_troubled (map line ss) ≡ true
cycle_troubles ss [] c = absurd c.tasks
cycle_troubles ss (l ∷ ls) c =
    let x = in_of_all (λ (m : Link). Waits ss m.task m.cell) (l ∷ ls) c.cells l (inl refl) in
    any_of is_troubled ss x.0 x.1 (wait_troubles x.0.line l.cell x.3)

-- so the outcome is marked where one is troubled
marks : (ss : List Stopped) (cs : List (List Link)) → AreCycles ss cs
    → list_any is_troubled (map line ss) ≡ (not (is_nil cs) || list_any is_troubled (map line ss))
marks ss [] k = refl
marks ss (c ∷ cs) k = cycle_troubles ss c ((k.0 c).0 (inl refl))

-- what agrees with an element of the one list
paired : {A C : Type 0} (F : A → C → Type 0) (xs : List A) (ys : List C) → ArePairs F xs ys → (x : A) → IsIn x xs
    → (y : C) × F x y
paired F [] ys h x i = absurd i
paired F (a ∷ xs) [] h x i = absurd h
paired F (a ∷ xs) (c ∷ ys) h x (inl e) = (c, subst (λ z. F z c) (sym e) h.0)
paired F (a ∷ xs) (c ∷ ys) h x (inr i) = paired F xs ys h.1 x i

-- one name more, which comes after all of them
ascend_more : (ss : List Stopped) (s : Stopped) → Ascend (map task_name ss)
    → ((u : Stopped) → IsIn u ss → IsBefore (task_name u) (task_name s)) → Ascend (map task_name (ss ++ s ∷ []))
unfolding IsStrictlySortedBy
ascend_more [] s a h = (tt, tt)
ascend_more (u ∷ us) s a h = (
  more us (h u (inl refl)) a.0,
  ascend_more us s a.1 (λ v i. h v (inr i)),
)
  where
    more : (vs : List Stopped) → IsBefore (task_name u) (task_name s)
        → AllByRecursion (λ z. IsBefore (task_name u) z) (map task_name vs)
        → AllByRecursion (λ z. IsBefore (task_name u) z) (map task_name (vs ++ s ∷ []))
    more [] l k = (l, tt)
    more (v ∷ vs) l k = (k.0, more vs l k.1)

-- names that ascend are distinct
distinct : (ss : List Stopped) → Ascend (map task_name ss) → AreDistinct (map task_name ss)
unfolding IsStrictlySortedBy
distinct [] a = tt
distinct (s ∷ ss) a = (apart (map task_name ss) a.0, distinct ss a.1)
  where
    apart : (ns : List Name) → AllByRecursion (λ z. IsBefore (task_name s) z) ns → IsIn (task_name s) ns → ⊥
    apart [] k i = i
    apart (n ∷ ns) k (inl e) = not_before (task_name s) (subst (IsBefore (task_name s)) (sym e) k.0)
    apart (n ∷ ns) k (inr i) = apart ns k.1 i

-- what is told of histories has their names
told_names : {B : Type 0} (ps : List (Point B)) (ss : List Stopped) → AreTold ps ss
    → map task_name ss ≡ map (λ (p : Point B). p.name) ps
told_names [] [] t = refl
told_names [] (s ∷ ss) t = absurd (cc)
told_names (p ∷ ps) [] t = absurd (cc)
told_names (p ∷ ps) (s ∷ ss) t =
    let head : stopped_of p ≡ Some s = ap (λ l. get_or l 0 None) t in
    let rest : AreTold ps ss = ap (drop 1) t in
    let is = told_name p s head in let more = told_names ps ss rest in λ i. is i ∷ more i

module _ {B : Type 0} (program : Program B) (N : ℕ) (shown : List RestCell) (records : List (Option (Rec B)))
    (born : List Reference) where
  -- the walk begins
  pub told_none : (at : ℕ) (order : List ℕ) (told : List Bool) (text : List ℕ) → order ≡ []
      → told ≡ replicate (length shown) false → text ≡ []
      → AreToldBefore program N shown records born at order told text false
  unfolding IsStrictlySortedBy
  told_none at order told text n e f = record {
    so_far = record {
      ss = [];
      ps = [];
      are_told = refl;
      ascend = tt;
      cells = subst (λ o. ArePairs (TellsHistory born records) o []) (sym n) tt;
      only = λ p i. absurd i;
      all = λ p d i l h.
          let z : true ≡ false = sym l ∙ ap (λ m. get_or m d false) e ∙ none_told (length shown) d in absurd (cc);
      text_is = f;
      marked_is = refl;
    };
    before = λ s i. absurd i;
  }

  -- the next task comes after them
  pub told_further : (at next : ℕ) (order : List ℕ) (told : List Bool) (text : List ℕ) (marked : Bool)
      → AreToldTo program N shown records born at order told text marked
      → IsBefore (name_by shown at) (name_by shown next)
      → AreToldBefore program N shown records born next order told text marked
  told_further at next order told text marked t later = record {
    so_far = t.so_far;
    before = t.before (name_by shown next) later;
  }

  module _ (w : AreWordsOf program N born shown) (rs : AreRecordsOf program N born records) where
    -- one task more
    pub told_on : (at : ℕ) (order longer : List ℕ) (told more : List Bool) (text further : List ℕ) (marked any : Bool)
        (r : Rec B) → AreToldBefore program N shown records born at order told text marked
        → get_or records at None ≡ Some r → at < length told → longer ≡ order ++ at ∷ [] → more ≡ slice_set told at true
        → ((s : Stopped) → told_by (names_by shown) r ≡ Some s
        → further ≡ text ++ lines_of (name_text (name_by shown at)) s.line)
        → any ≡ (has_trouble r.finish r.owed || marked)
        → AreToldTo program N shown records born at longer more further any
    told_on at order longer told more text further marked any r t e inside ordered is added joined =
        let x = told_at program N shown records born w rs at r e in
        let ns = names born in
        let there = told_there ns r (length ns) x.below.stops in
        let s = there.0 in
        let told_is = there.1 in
        let line_is = told_line ns r s told_is in
        let tells : stopped_of x.p ≡ Some s = sym x.tells ∙ told_is in
        let cell : r.cell.0 ≡ at = same_cell x.p x.is_of in
        let name : task_name s ≡ name_by shown at =
        ap (λ (l : TaskLine). l.name) line_is.2
        ∙ ap (λ c. get_or ns c []) cell ∙ ap (λ l. get_or l at []) (sym (names_are shown born w.named)) in
        let old = t.so_far in
        record {
          so_far = record {
            ss = old.ss ++ s ∷ [];
            ps = old.ps ++ x.p ∷ [];
            are_told = told_more old.ps old.ss x.p s old.are_told tells;
            ascend = ascend_more old.ss s old.ascend (λ u i. subst (IsBefore (task_name u)) (sym name) (t.before u i));
            cells = subst (λ o. ArePairs (TellsHistory born records) o (old.ps ++ x.p ∷ [])) (sym ordered)
                (pairs_more (TellsHistory born records) order old.ps at x.p old.cells x.is_of);
            only = λ p i. only x.p old.ps x.meant old.only p (in_either p old.ps (x.p ∷ []) i);
            all = λ p d i l h. dite (ℕ_discrete d at)
                (λ q. in_right p old.ps (x.p ∷ []) (inl (same_point program N shown records born w rs at p x.p i x.meant
                (subst (λ n. TellsHistory born records n p) q h) x.is_of)))
                (λ n. in_left p old.ps (x.p ∷ []) (old.all p d i
                (sym (ap (λ m. get_or m d false) is ∙ get_or-set_other told at d true false n) ∙ l) h));
            text_is = added s (ap (λ l. told_by l r) (names_are shown born w.named) ∙ told_is)
                ∙ ap (λ n. text ++ lines_of (name_text n) s.line) (sym name)
                ∙ ap (λ l. l ++ task_lines s.line) old.text_is
                ∙ ap (λ l. flat_map task_lines (map line old.ss) ++ l) (sym (append-nil (task_lines s.line)))
                ∙ sym (flat_map-append task_lines (map line old.ss) (s.line ∷ []))
                ∙ ap (flat_map task_lines) (sym (map_append line old.ss (s ∷ [])));
            marked_is = joined
                ∙ or_swap (has_trouble r.finish r.owed) marked
                ∙ ap (λ b. marked || b) (told_trouble ns r s told_is)
                ∙ ap (λ b. b || (is_troubled s.line)) old.marked_is
                ∙ ap (λ b. list_any is_troubled (map line old.ss) || b) (sym (or_false (is_troubled s.line)))
                ∙ sym (list_any-append is_troubled (map line old.ss) (s.line ∷ []))
                ∙ ap (list_any is_troubled) (sym (map_append line old.ss (s ∷ [])));
          };
          before = λ y later u i. before old.ss s name t.before y later u (in_either u old.ss (s ∷ []) i);
        }
      where
        same_cell : (p : Point B) → TellsHistory born records at p → r.cell.0 ≡ at
        same_cell p h =
            let same : h.r ≡ r = some_is h.r r (sym (get_of_elem records at h.r h.lies) ∙ e) in
            ap (λ (z : Rec B). z.cell.0) (sym same) ∙ h.own

        only : (x : Point B) (ps : List (Point B)) → IsIn x (meaning program N)
            → ((p : Point B) → IsIn p ps → IsIn p (meaning program N)) → (p : Point B)
            → IsIn p ps ⊎ IsIn p (x ∷ []) → IsIn p (meaning program N)
        only x ps m old p (inl i) = old p i
        only x ps m old p (inr (inl i)) = subst (λ z. IsIn z (meaning program N)) (sym i) m
        only x ps m old p (inr (inr i)) = absurd i

        before : (us : List Stopped) (s : Stopped) → task_name s ≡ name_by shown at
            → ((u : Stopped) → IsIn u us → IsBefore (task_name u) (name_by shown at)) → (y : Name)
            → IsBefore (name_by shown at) y → (u : Stopped) → IsIn u us ⊎ IsIn u (s ∷ []) → IsBefore (task_name u) y
        before us s name old y later u (inl i) =
            nat_list_cmp_total.trans (task_name u) (name_by shown at) y (old u i) later
        before us s name old y later u (inr (inl i)) =
            subst (λ z. IsBefore z y) (sym (ap task_name i ∙ name)) later
        before us s name old y later u (inr (inr i)) = absurd i

    -- each of the cells in order is there
    pub order_there : (order : List ℕ) (ps : List (Point B)) → ArePairs (TellsHistory born records) order ps
        → All (λ c. c < length shown) order
    order_there order ps h = all_of_in (λ c. c < length shown) order (λ c i.
        let p = paired (TellsHistory born records) order ps h c i in
        let l = within born c (to_task p.0.name)
        (subst (λ n. IsCell born n (to_task p.0.name)) p.1.own p.1.tells.of) in
        let n = w.named.all in omega arith)

    -- each cell that a record names is shown
    pub records_below : AreRecordsBelow shown records
    records_below c r e =
        subst (λ n. IsRecordBelow n r) (length_names born ∙ w.named.all)
        (told_at program N shown records born w rs c r e).below

    module _ (at : ℕ) (order : List ℕ) (told : List Bool) (text : List ℕ) (marked : Bool)
        (t : AreToldTo program N shown records born at order told text marked)
        (all : AreToldBelow (length shown) records told) where
      -- where all are told, this is told of all histories
      pub all_told : AreToldInSomeOrder (meaning program N) t.so_far.ss
      all_told =
          let s = t.so_far in
          let names_same = told_names s.ps s.ss s.are_told in (
            s.ps,
            same_permuted (λ (p : Point B). p.name) (meaning program N) s.ps (meaning_distinct program N)
                (subst AreDistinct names_same (distinct s.ss s.ascend))
                (λ p i.
                let h = rs.histories p i in
                let n = w.named.all in
                let l = within born h.0 (to_task p.name)
                (subst (λ c. IsCell born c (to_task p.name)) h.1.own h.1.tells.of) in
                s.all p h.0 i (all h.0 h.1.r (omega arith) (get_of_elem records h.0 h.1.r h.1.lies)) h.1)
                s.only,
            s.are_told,
          )

      -- and with the lines of all cycles it is the report of an outcome but for its last line
      pub told_whole : (whole : List ℕ) (cs : List (List Link)) → AreCycles t.so_far.ss cs
          → whole ≡ (text ++ flat_map alarm_line cs) ++ verdict_line marked → IsReportOf program N shown whole marked
      told_whole whole cs cycles e =
          let s = t.so_far in
          let lines = map line s.ss in
          let o : Outcome = record { lines = lines; cycles = cs } in
          let k : IsOutcomeOf s.ss o = record {
            lines = IsPermutation-refl lines;
            lines_in_order = subst Ascend (sym (map_map line (λ (l : TaskLine). l.name) s.ss)) s.ascend;
            cycles = cycles;
          } in
          let same_mark : marked ≡ is_marked o = s.marked_is ∙ marks s.ss cs cycles in
          record {
            outcome = o;
            is_outcome = told_outcome program N s.ss all_told o k;
            alarmed = told_alarmed program N s.ss all_told o k shown born w;
            text_is = e
                ∙ ap (λ l. (l ++ flat_map alarm_line cs) ++ verdict_line marked) s.text_is
                ∙ ap (λ b. (flat_map task_lines lines ++ flat_map alarm_line cs) ++ verdict_line b) same_mark;
            marked_is = same_mark;
          }

      -- where none is troubled there is no cycle
      pub no_cycles : marked ≡ false → AreCycles t.so_far.ss []
      unfolding IsStrictlySortedBy
      no_cycles none = (
        λ c. (
          λ i. absurd i,
          λ h. let z : true ≡ false = sym (cycle_troubles t.so_far.ss c h) ∙ sym t.so_far.marked_is ∙ none in
              absurd (cc),
        ),
        tt,
      )

      -- the lines of the cycles that were found are those of all cycles
      pub found_cycles : (after : List ℕ) → AreAlarmsBy shown records order text after
          → (cs : List (List Link)) × AreCycles t.so_far.ss cs × (after ≡ text ++ flat_map alarm_line cs)
      found_cycles after a =
          let s = t.so_far in
          let apart = told_apart program N s.ss all_told in
          let are = next_are program N shown records born w rs order s.ps s.ss s.cells s.are_told s.only apart s.ascend
          a.ranks a.ranks_are a.next a.next_is in (
            map (map (link_at s.ss)) a.cs,
            a.cycles s.ss apart s.ascend are,
            a.text_is ∙ ap (λ l. text ++ l) (alarms_by (LeadsOn a.next) (link_in shown records order) (link_at s.ss)
                (link_told program N shown records born w rs order s.ps s.ss s.cells s.are_told s.only apart s.ascend
                a.next are) a.cs a.on),
          )
