-- What is told of findings that say the same begins with the word of their kind, and has their names and their count.
use Rattle.std.proofs.Common.{◌<◌, ◌≤◌, ◌+◌, inl, inr, zero, suc, arith}
use Rattle.std.proofs.Common.{◌≡◌, ℕ, Bool, true, false, ◌||◌, nat_eq, nat_le, cond, List, [], ◌∷◌, ◌++◌, length}
use Rattle.std.proofs.Common.{map, Option, Some, None}
use Rattle.std.proofs.Common.{◌-◌, refl, sym, ap, subst, ◌∙◌, append_assoc, eqb-true}
use Rattle.std.specs.Prelude.{codes, decimal, option_to_list, slice_get, unwrap_or}
use Rattle.std.specs.List.{flat_map, list_all, range_with_len}
use Rattle.std.specs.Option.{option_map}
use Rattle.std.proofs.lemmas.Bool.Decides.{nat_tests}
use Rattle.std.proofs.lemmas.Grind.{flat_map-append}
use Rattle.tj_base.specs.ForkOrder.{Name}
use Rattle.tj_base.specs.Texts.{name_text}
use Rattle.tj_base.specs.declared.cause.Cause.{Cause}
use Rattle.tj_base.specs.declared.cause.Cause.TheVariants as cause
use Rattle.tj_body.specs.Points.{IsIn}
use Rattle.tj_mean.specs.ReportTexts.{line_feed}
use Rattle.tj_trace.specs.declared.line.Maker.{Maker}
use Rattle.tj_findings.specs.Arguments.{arguments_text}
use Rattle.tj_findings.specs.Groups.{cells_told, same_maker, tasks_told, waits_at}
use Rattle.tj_findings.specs.LinesTold.{StandInOrder, StandsIn}
use Rattle.tj_findings.specs.LetNames.{let_name, let_text}
use Rattle.tj_findings.specs.PartTexts.{made_text, promise_text, stopped_word, where_agreed}
use Rattle.tj_findings.specs.Scenes.{Told, forked_text, label, name_of, spot_text, stop_text, task_at}
use Rattle.tj_findings.specs.declared.finding.Finding.{Finding}
use Rattle.tj_findings.specs.declared.finding.Finding.TheVariants as finding
use Rattle.tj_findings.specs.declared.finding.ToldCell.{ToldCell}
use Rattle.tj_findings.specs.declared.finding.ToldTask.{ToldTask}
use Rattle.tj_findings.specs.declared.finding.Wait.{Wait}
use Rattle.tj_findings.proofs.PartsInOrder.{all_before, all_both, behind_more, whole}
use Rattle.tj_texts.specs.GroupLaws.{AllStandAlike, SaySame}
use Rattle.tj_texts.specs.LineLaws.{BeginsSo, HaveNames, cycles_head, finding_name, member_name}
use Rattle.tj_texts.specs.LineLaws.{names_part, owed_words, spaced_names, stop_part, wait_part}
use Rattle.tj_texts.specs.WhyTexts as why
use Rattle.tj_texts.proofs.TextsOfLines.{at_place}

-- the text begins with the part
abbrev Begins : List ℕ → List ℕ → Type 0
Begins p text = (rest : List ℕ) × (text ≡ p ++ rest)

-- it does so with more behind it
longer : (p x y : List ℕ) → Begins p x → Begins p (x ++ y)
longer p x y i = (i.0 ++ y, ap (λ z. z ++ y) i.1 ∙ append_assoc p i.0 y)

-- and with the same in front of both
further : (w p x : List ℕ) → Begins p x → Begins (w ++ p) (w ++ x)
further w p x i = (i.0, ap (λ z. w ++ z) i.1 ∙ sym (append_assoc w p i.0))

-- the text begins so, with more behind it
so_more : (h : List ℕ) (ps : List (List ℕ)) (x y : List ℕ) → BeginsSo h ps x → BeginsSo h ps (x ++ y)
so_more h ps x y i = (i.0 ++ y, ap (λ z. z ++ y) i.1 ∙ append_assoc h i.0 y, all_before ps i.0 y i.2)

-- and with the same in front of both
so_further : (w h : List ℕ) (ps : List (List ℕ)) (x : List ℕ) → BeginsSo h ps x → BeginsSo (w ++ h) ps (w ++ x)
so_further w h ps x i = (i.0, ap (λ z. w ++ z) i.1 ∙ sym (append_assoc w h i.0), i.2)

-- a part of what stands behind a text that begins so
so_part : (h q x y : List ℕ) → Begins h x → StandsIn q y → BeginsSo h (q ∷ []) (x ++ y)
so_part h q x y i stands =
    (i.0 ++ y, ap (λ z. z ++ y) i.1 ∙ append_assoc h i.0 y, (behind_more q i.0 y stands, tt))

-- the parts stand in the text, the first of them in front
so_in_order : (h : List ℕ) (ps : List (List ℕ)) (x : List ℕ) → BeginsSo h ps x → StandInOrder (h ∷ ps) x
so_in_order h ps x i = (record { before = []; behind = i.0; is = i.1 }, i.2)

-- four parts, the last three as one
last_three : (a b c d : List ℕ) → a ++ b ++ c ++ d ≡ a ++ (b ++ c ++ d)
last_three a b c d = ap (λ z. z ++ d) (append_assoc a b c) ∙ append_assoc a (b ++ c) d

-- several names
same_names : (xs : List Name) → why.first_names xs ≡ names_part xs
same_names [] = refl
same_names (x ∷ []) = refl
same_names (x ∷ y ∷ []) = refl
same_names (x ∷ y ∷ z ∷ more) = refl

-- with a blank behind them
spaced : (xs : List Name) (b : List ℕ) → Begins (spaced_names xs) (why.first_names xs ++ (codes " " ++ b))
spaced xs b =
    (b, ap (λ z. z ++ (codes " " ++ b)) (same_names xs) ∙ sym (append_assoc (names_part xs) (codes " ") b))

-- how many cycles there are, and of how many tasks
pub cycles_begin : (k n : ℕ) (rest : List ℕ)
    → codes "deadlock: " ++ why.times k ++ why.tasks_text n ++ why.each_other n ++ rest ≡ cycles_head k n ++ rest
cycles_begin k n rest = ap (λ z. z ++ rest) (by (nat_eq n 1)) where
  first : List ℕ
  first = codes "deadlock: " ++ why.times k

  by : (b : Bool) → first ++ cond b (codes "1 task") (decimal n ++ codes " tasks")
      ++ cond b (codes " waits for itself\n") (codes " wait for each other\n")
      ≡ first ++ cond b (codes "1 task waits for itself\n") (decimal n ++ codes " tasks wait for each other\n")
  by true = append_assoc first (codes "1 task") (codes " waits for itself\n")
  by false =
      append_assoc first (decimal n ++ codes " tasks") (codes " wait for each other\n")
      ∙ ap (λ z. first ++ z) (append_assoc (decimal n) (codes " tasks") (codes " wait for each other\n"))

-- the names of tasks, and of the tasks of waits
abbrev task_names : List ToldTask → List Name
task_names ts = map (λ t. t.name) ts

abbrev wait_names : List Wait → List Name
wait_names ws = task_names (map (λ w. w.task) ws)

-- each of these findings says the same as the one
abbrev Same : Finding → List Finding → Type 0
Same f gs = (g : Finding) → IsIn g gs → SaySame f g

-- the names of findings that say the same, of each kind
behind_names : (w : Wait) (gs : List Finding) → Same (finding.Behind w) gs
    → wait_names (waits_at 0 gs) ≡ map finding_name gs
behind_names w [] same = refl
behind_names w (finding.Behind v ∷ gs) same = ap (λ z. v.task.name ∷ z) (behind_names w gs (λ g i. same g (inr i)))
behind_names w (finding.Cycle vs ∷ gs) same = absurd (same (finding.Cycle vs) (inl refl))
behind_names w (finding.Failed u d n ∷ gs) same = absurd (same (finding.Failed u d n) (inl refl))
behind_names w (finding.Owed p u ∷ gs) same = absurd (same (finding.Owed p u) (inl refl))
behind_names w (finding.Echo u p r ∷ gs) same = absurd (same (finding.Echo u p r) (inl refl))

failed_names : (t : ToldTask) (c : Cause) (m : Option Maker) (gs : List Finding) → Same (finding.Failed t c m) gs
    → task_names (tasks_told gs) ≡ map finding_name gs
failed_names t c m [] same = refl
failed_names t c m (finding.Failed u d n ∷ gs) same =
    ap (λ z. u.name ∷ z) (failed_names t c m gs (λ g i. same g (inr i)))
failed_names t c m (finding.Cycle vs ∷ gs) same = absurd (same (finding.Cycle vs) (inl refl))
failed_names t c m (finding.Behind v ∷ gs) same = absurd (same (finding.Behind v) (inl refl))
failed_names t c m (finding.Owed p u ∷ gs) same = absurd (same (finding.Owed p u) (inl refl))
failed_names t c m (finding.Echo u p r ∷ gs) same = absurd (same (finding.Echo u p r) (inl refl))

echo_names : (t : ToldTask) (q : ToldCell) (o : Option ToldTask) (gs : List Finding) → Same (finding.Echo t q o) gs
    → task_names (tasks_told gs) ≡ map finding_name gs
echo_names t q o [] same = refl
echo_names t q o (finding.Echo u p r ∷ gs) same =
    ap (λ z. u.name ∷ z) (echo_names t q o gs (λ g i. same g (inr i)))
echo_names t q o (finding.Cycle vs ∷ gs) same = absurd (same (finding.Cycle vs) (inl refl))
echo_names t q o (finding.Behind v ∷ gs) same = absurd (same (finding.Behind v) (inl refl))
echo_names t q o (finding.Failed u d n ∷ gs) same = absurd (same (finding.Failed u d n) (inl refl))
echo_names t q o (finding.Owed p u ∷ gs) same = absurd (same (finding.Owed p u) (inl refl))

owed_names : (q : ToldCell) (t : ToldTask) (gs : List Finding) → Same (finding.Owed q t) gs
    → cells_told gs ≡ map finding_name gs
owed_names q t [] same = refl
owed_names q t (finding.Owed p u ∷ gs) same = ap (λ z. p.name ∷ z) (owed_names q t gs (λ g i. same g (inr i)))
owed_names q t (finding.Cycle vs ∷ gs) same = absurd (same (finding.Cycle vs) (inl refl))
owed_names q t (finding.Behind v ∷ gs) same = absurd (same (finding.Behind v) (inl refl))
owed_names q t (finding.Failed u d n ∷ gs) same = absurd (same (finding.Failed u d n) (inl refl))
owed_names q t (finding.Echo u p r ∷ gs) same = absurd (same (finding.Echo u p r) (inl refl))

-- cycles that say the same have as many members
as_many : (ws vs : List Wait) → AllStandAlike ws vs → length ws ≡ length vs
as_many [] [] same = refl
as_many [] (v ∷ vs) same = absurd same
as_many (w ∷ ws) [] same = absurd same
as_many (w ∷ ws) (v ∷ vs) same = ap (λ n. suc n) (as_many ws vs same.1)

-- the names of their members with one number
cycle_names : (ws : List Wait) (n : ℕ) → n < length ws → (gs : List Finding) → Same (finding.Cycle ws) gs
    → wait_names (waits_at n gs) ≡ map (member_name n) gs
cycle_names ws n less [] same = refl
cycle_names ws n less (finding.Cycle vs ∷ gs) same =
    let long = as_many ws vs (same (finding.Cycle vs) (inl refl)) in
    by (slice_get vs n) (at_place vs n (omega (arith, less, long))).1 (cycle_names ws n less gs (λ g i. same g (inr i)))
  where
    by : (o : Option Wait) {v : Wait} → o ≡ Some v → wait_names (waits_at n gs) ≡ map (member_name n) gs
        → wait_names (option_to_list o ++ waits_at n gs)
        ≡ unwrap_or (option_map (λ w. w.task.name) o) [] ∷ map (member_name n) gs
    by None e rest = absurd (cc)
    by (Some v) e rest = ap (λ z. v.task.name ∷ z) rest
cycle_names ws n less (finding.Behind v ∷ gs) same = absurd (same (finding.Behind v) (inl refl))
cycle_names ws n less (finding.Failed u d m ∷ gs) same = absurd (same (finding.Failed u d m) (inl refl))
cycle_names ws n less (finding.Owed p u ∷ gs) same = absurd (same (finding.Owed p u) (inl refl))
cycle_names ws n less (finding.Echo u p r ∷ gs) same = absurd (same (finding.Echo u p r) (inl refl))

module _ (s : Told) where
  -- a task with its declaration
  in_label : (t : ToldTask) → Begins (spaced_names (t.name ∷ [])) (label s t)
  in_label t =
      let p = spaced_names (t.name ∷ []) in
      let name = name_of (slice_get s.script t.decl) in
      let values = arguments_text (slice_get s.script t.decl) t.began in
      let begun = name_text t.name ++ codes " (task " in
      longer p (begun ++ name ++ values ++ forked_text s t.fork) (codes ")")
      (longer p (begun ++ name ++ values) (forked_text s t.fork)
      (longer p (begun ++ name) values (longer p begun name (spaced (t.name ∷ []) (codes "(task ")))))

  -- tasks
  in_tasks : (t : ToldTask) (ts : List ToldTask)
      → Begins (spaced_names (task_names (t ∷ ts))) (why.tasks_named s (t ∷ ts))
  in_tasks t [] = in_label t
  in_tasks t (u ∷ more) =
      let p = spaced_names (task_names (t ∷ u ∷ more)) in
      let names = why.first_names (task_names (t ∷ u ∷ more)) in
      let name = name_of (slice_get s.script t.decl) in
      longer p (names ++ codes " of task " ++ name)
      (where_agreed (list_all (λ v. same_maker t.fork v.fork) (t ∷ u ∷ more)) (why.fork_text s t.fork))
      (longer p (names ++ codes " of task ") name (spaced (task_names (t ∷ u ∷ more)) (codes "of task ")))

  -- a line for waits
  in_wait : (w : Wait) (ws : List Wait) → BeginsSo (spaced_names (wait_names (w ∷ ws)))
      (stop_part s w.task (codes " for ") ∷ []) (why.wait_text s w (w ∷ ws))
  in_wait w ws =
      so_more p (q ∷ []) (names ++ waits ++ stop ++ codes " for " ++ cell) line_feed
      (so_more p (q ∷ []) (names ++ waits ++ stop ++ codes " for ") cell
      (subst (BeginsSo p (q ∷ [])) (sym (last_three names waits stop (codes " for ")))
      (so_part p q names (waits ++ stop ++ codes " for ") (in_tasks w.task (map (λ v. v.task) ws))
      (by (nat_eq (length (w ∷ ws)) 1))))) where
        p : List ℕ
        p = spaced_names (wait_names (w ∷ ws))

        names : List ℕ
        names = why.tasks_named s (map (λ v. v.task) (w ∷ ws))

        waits : List ℕ
        waits = why.one_or (length (w ∷ ws)) (codes " waits at ") (codes " wait at ")

        stop : List ℕ
        stop = stop_text s w.task

        cell : List ℕ
        cell = why.cell_text s w (w ∷ ws)

        q : List ℕ
        q = stop_part s w.task (codes " for ")

        by : (b : Bool) → StandsIn q (cond b (codes " waits at ") (codes " wait at ") ++ stop ++ codes " for ")
        by true = behind_more q (codes " waits") q (whole q)
        by false = behind_more q (codes " wait") q (whole q)

  -- tasks that failed
  in_failed : (t : ToldTask) (fs : List Finding) (ts : List ToldTask) → tasks_told fs ≡ t ∷ ts
      → BeginsSo (codes "failed: " ++ spaced_names (task_names (t ∷ ts))) (stop_part s t (codes ": ") ∷ [])
      (why.failed_text s t fs)
  in_failed t fs ts is =
      let them = spaced_names (task_names (t ∷ ts)) in
      let p = codes "failed: " ++ them in
      let q = stop_part s t (codes ": ") in
      let names = codes "failed: " ++ why.tasks_named s (tasks_told fs) in
      subst (BeginsSo p (q ∷ [])) (sym (last_three names (codes " at ") (stop_text s t) (codes ": ")))
      (so_part p q names q
      (further (codes "failed: ") them (why.tasks_named s (tasks_told fs))
      (subst (λ z. Begins them (why.tasks_named s z)) (sym is) (in_tasks t ts))) (whole q))

  -- behind the statement that made a promise, if it is told, stands a blank
  made_spaced : (m : Option Maker) (b : List ℕ) → Begins (codes " ") (made_text s m ++ (codes " " ++ b))
  made_spaced None b = (b, refl)
  made_spaced (Some m) b = (
    codes "(" ++ let_text (let_name s m) ++ codes "made at " ++ spot_text s m.decl m.at ++ codes ")"
        ++ (codes " " ++ b),
    refl,
  )

  -- so there is one behind the name
  named_made : (x : List ℕ) (m : Option Maker) (b : List ℕ)
      → Begins (x ++ codes " ") (x ++ made_text s m ++ (codes " " ++ b))
  named_made x m b =
      let i = made_spaced m b in (
        i.0,
        append_assoc x (made_text s m) (codes " " ++ b) ∙ ap (λ z. x ++ z) i.1 ∙ sym (append_assoc x (codes " ") i.0),
      )

  -- a promise that was owed
  in_debt : (q : ToldCell) (t : ToldTask)
      → Begins (codes "owed: the promise " ++ spaced_names (q.name ∷ [])) (why.debt_line s q t)
  in_debt q t =
      let x = name_text q.name in
      let p = codes "owed: the promise " ++ spaced_names (q.name ∷ []) in
      let did = codes " owned it and " ++ stopped_word t.stop ++ codes " at " in
      let owed = codes "owed: " ++ promise_text s q ++ codes " was never set: " in
      longer p (owed ++ task_at s t did) line_feed
      (longer p owed (task_at s t did)
      (further (codes "owed: the promise ") (x ++ codes " ") (x ++ made_text s q.maker ++ codes " was never set: ")
      (named_made x q.maker (codes "was never set: "))))

  -- promises that were owed
  in_owed : (q : ToldCell) (t : ToldTask) (gs : List Finding)
      → Begins (owed_words gs ++ spaced_names (q.name ∷ cells_told gs)) (why.owed_line s q t (finding.Owed q t ∷ gs))
  in_owed q t [] = in_debt q t
  in_owed q t (g ∷ gs) = by (nat_eq (length fs) 1) refl where
    fs : List Finding
    fs = finding.Owed q t ∷ g ∷ gs

    names : List ℕ
    names = why.first_names (cells_told fs)

    made : List ℕ
    made = made_text s q.maker

    unset : List ℕ
    unset = why.never_set s t fs

    rest : List ℕ
    rest = codes "were never set" ++ why.owners_text s t (tasks_told fs) ++ line_feed

    by : (b : Bool) → nat_eq (length fs) 1 ≡ b
        → Begins (codes "owed: the promises " ++ spaced_names (cells_told fs))
        (cond b (why.debt_line s q t) (why.debts_line s q t fs))
    by true e = absurd (omega (arith, eqb-true (length fs) 1 e))
    by false e =
        further (codes "owed: the promises ") (spaced_names (cells_told fs)) (names ++ made ++ unset)
        (subst (λ z. Begins (z ++ codes " ") (names ++ made ++ unset)) (same_names (cells_told fs))
        (named_made names q.maker rest))

  module _ (ws : List Wait) (gs : List Finding) (same : Same (finding.Cycle ws) gs) where
    abbrev own : List Finding
    own = finding.Cycle ws ∷ gs

    -- the names of the members with this number
    abbrev names_at : ℕ → List ℕ
    names_at n = spaced_names (map (member_name n) own)

    -- with what stands in front of them, and where these members wait
    abbrev parts_at : ℕ → List (List ℕ)
    parts_at n = (codes "  " ++ names_at n) ∷ wait_part s (slice_get ws n) ∷ []

    -- the members with this number
    in_member : (n : ℕ) → n < length ws → StandInOrder (parts_at n) (why.member s own n)
    in_member n less =
        let here = at_place ws n less in
        let w = here.0 in
        let them = waits_at n gs in
        let line = why.wait_text s w (w ∷ them) in
        let names : wait_names (w ∷ them) ≡ map (member_name n) own
        = ap (λ z. w.task.name ∷ z) (cycle_names ws n less gs same)
        ∙ ap (λ o. unwrap_or (option_map (λ v. v.task.name) o) [] ∷ map (member_name n) gs) (sym here.1) in
        let part : BeginsSo (names_at n) (wait_part s (slice_get ws n) ∷ []) line
        = subst (λ o. BeginsSo (names_at n) (wait_part s o ∷ []) line) (sym here.1)
        (subst (λ z. BeginsSo (spaced_names z) (wait_part s (Some w) ∷ []) line) names (in_wait w them)) in
        let rest = wait_part s (slice_get ws n) ∷ [] in
        subst (λ z. StandInOrder (parts_at n) (why.member_lines s z)) (sym (ap (λ o. option_to_list o ++ them) here.1))
        (so_in_order (codes "  " ++ names_at n) rest (codes "  " ++ line ++ why.source_line s w.task)
        (so_more (codes "  " ++ names_at n) rest (codes "  " ++ line) (why.source_line s w.task)
        (so_further (codes "  ") (names_at n) rest line part)))

    -- so many members
    in_members : (k n : ℕ) → n + k ≤ length ws
        → StandInOrder (flat_map parts_at (range_with_len n k)) (why.members_from s own n k)
    in_members zero n within = tt
    in_members (suc k) n within =
        all_both (parts_at n) (flat_map parts_at (range_with_len (n + 1) k)) (why.member s own n)
        (why.members_from s own (n + 1) k)
        (in_member n (omega (arith, within))) (in_members k (n + 1) (omega (arith, within)))

    -- the members at the two ends
    in_ends : 20 < length ws
        → StandInOrder (flat_map parts_at (range_with_len 0 10 ++ range_with_len (length ws - 10) 10))
        (why.ends s own (length ws))
    in_ends long =
        let from : ℕ = length ws - 10 in
        let first = why.members_from s own 0 10 in
        let left = why.left_out (length ws - 20) in
        let last = why.members_from s own from 10 in
        let at_first : List (List ℕ) = flat_map parts_at (range_with_len 0 10) in
        let at_last : List (List ℕ) = flat_map parts_at (range_with_len from 10) in
        subst (λ z. StandInOrder z (first ++ left ++ last))
        (sym (flat_map-append parts_at (range_with_len 0 10) (range_with_len from 10)))
        (all_both at_first at_last (first ++ left) last
        (all_before at_first first left (in_members 10 0 (omega (arith, long))))
        (in_members 10 from (omega (arith, long))))

    -- those that are told
    in_told : (a t : Bool) → nat_le (length ws) 20 ≡ t
        → StandInOrder (flat_map parts_at (cond (a || t) (range_with_len 0 (length ws))
        (range_with_len 0 10 ++ range_with_len (length ws - 10) 10)))
        (cond (a || t) (why.members_from s own 0 (length ws)) (why.ends s own (length ws)))
    in_told true t e = in_members (length ws) 0 (omega arith)
    in_told false true e = in_members (length ws) 0 (omega arith)
    in_told false false e = let long : 20 < length ws = grind (arith, nat_tests, e) in in_ends long

  -- a line that begins with these words and names
  one_line : (words : List ℕ) (x : Name) (xs ys : List Name) (ps : List (List ℕ)) (text : List ℕ) → xs ≡ ys
      → BeginsSo (words ++ spaced_names (x ∷ xs)) ps text → BeginsSo (words ++ spaced_names (x ∷ ys)) ps text
  one_line words x xs ys ps text e i = subst (λ z. BeginsSo (words ++ spaced_names (x ∷ z)) ps text) e i

  -- what is told of findings that are told together
  pub have_names : HaveNames s
  have_names all (finding.Cycle ws) gs same =
      let fs = finding.Cycle ws ∷ gs in
      let members = why.members s all fs (length ws) in (
        members,
        cycles_begin (length fs) (length ws) members,
        in_told ws gs same all (nat_le (length ws) 20) refl,
      )
  have_names all (finding.Behind w) gs same =
      let ws = waits_at 0 gs in
      let at = stop_part s w.task (codes " for ") ∷ [] in
      one_line (codes "behind a deadlock: ") w.task.name (wait_names ws) (map finding_name gs) at
      (why.members_text s all (finding.Behind w ∷ gs)) (behind_names w gs same)
      (so_further (codes "behind a deadlock: ") (spaced_names (wait_names (w ∷ ws))) at
      (why.wait_text s w (w ∷ ws)) (in_wait w ws))
  have_names all (finding.Failed t c m) gs same =
      let fs = finding.Failed t c m ∷ gs in
      let p = codes "failed: " ++ spaced_names (task_names (tasks_told fs)) in
      let at = stop_part s t (codes ": ") ∷ [] in
      let failed = why.failed_text s t fs in
      let cause = why.why_failed s t c fs in
      let about = why.about_text s t m fs in
      one_line (codes "failed: ") t.name (task_names (tasks_told gs)) (map finding_name gs) at
      (why.members_text s all fs) (failed_names t c m gs same)
      (so_more p at (failed ++ cause ++ about ++ line_feed) (why.source_line s t)
      (so_more p at (failed ++ cause ++ about) line_feed
      (so_more p at (failed ++ cause) about
      (so_more p at failed cause (in_failed t fs (tasks_told gs) refl)))))
  have_names all (finding.Owed q t) gs same =
      let i = in_owed q t gs in
      one_line (owed_words gs) q.name (cells_told gs) (map finding_name gs) []
      (why.members_text s all (finding.Owed q t ∷ gs)) (owed_names q t gs same) (i.0, i.1, tt)
  have_names all (finding.Echo t q o) gs same =
      let fs = finding.Echo t q o ∷ gs in
      let p = codes "failed: " ++ spaced_names (task_names (tasks_told fs)) in
      let at = stop_part s t (codes ": ") ∷ [] in
      let failed = why.failed_text s t fs in
      let broken = why.cause_of (cause.Broken q.name) fs in
      let made = why.all_made s q.maker fs in
      let origins = why.origins_text s o fs in
      one_line (codes "failed: ") t.name (task_names (tasks_told gs)) (map finding_name gs) at
      (why.members_text s all fs) (echo_names t q o gs same)
      (so_more p at (failed ++ broken ++ made ++ origins) line_feed
      (so_more p at (failed ++ broken ++ made) origins
      (so_more p at (failed ++ broken) made
      (so_more p at failed broken (in_failed t fs (tasks_told gs) refl)))))
