-- The tasks that findings tell are those of lines, and stand where these say.
use Rattle.std.proofs.Common.{◌≡◌, ℕ, zero, suc, ◌<◌, ◌+◌, ◌-◌, Bool, true, false, cond, List, [], ◌∷◌, map}
use Rattle.std.proofs.Common.{length, Option, Some, None, refl, sym, ap, subst, ◌∙◌, inl, inr, ◌⊎◌, take, arith}
use Rattle.std.specs.Prelude.{option_to_list, option_and_then, slice_get, unwrap_or}
use Rattle.std.specs.Option.{option_map, option_or}
use Rattle.std.specs.List.{find, flat_map}
use Rattle.std.proofs.Math.Seq.{take-length}
use Rattle.std.proofs.lemmas.List.{take_more}
use Rattle.tj_base.specs.ForkOrder.{Name, child}
use Rattle.tj_body.specs.Points.{IsIn}
use Rattle.tj_body.specs.Names.{same}
use Rattle.tj_body.specs.Rounds.{meaning}
use Rattle.tj_body.specs.declared.point.Point.{Point}
use Rattle.tj_body.proofs.Lists.{from_flat_map, in_map}
use Rattle.tj_eval.specs.Stands.{AreNamed, IsPlacedMain, PlacedState, StandsRight, all_ahead, within}
use Rattle.tj_eval.specs.Statements.{listed}
use Rattle.tj_eval.proofs.Stands.{all_named}
use Rattle.tj_lex.specs.declared.token.Token.{Token}
use Rattle.tj_mean.specs.declared.outcome.Ending.{Ending}
use Rattle.tj_mean.specs.declared.outcome.Ending.TheVariants as ending
use Rattle.tj_mean.specs.declared.outcome.Link.{Link}
use Rattle.tj_syntax.specs.Grammar.{IsProgram}
use Rattle.tj_syntax.specs.Marks.{Noted}
use Rattle.tj_syntax.specs.PlacesOf.{PlacesOfTask, places_of}
use Rattle.tj_syntax.specs.Starts.{in_tasks}
use Rattle.tj_syntax.specs.Trees.{Task}
use Rattle.tj_trace.specs.Logs.{logged_program}
use Rattle.tj_trace.specs.Lookups.{made_by}
use Rattle.tj_trace.specs.RightLines.{IsForkOf, StandsWhere}
use Rattle.tj_trace.specs.TraceLaws.{script_program}
use Rattle.tj_trace.specs.Traces.{AreTraced}
use Rattle.tj_trace.specs.declared.line.Maker.{Maker}
use Rattle.tj_trace.specs.declared.line.TraceLine.{TraceLine}
use Rattle.tj_trace.proofs.LinesPlaced.{lines_have_places}
use Rattle.tj_trace.proofs.LinesRight.{lines_are_forked, lines_are_right}
use Rattle.tj_mean.proofs.Lists.Elements.{in_get, some_is}
use Rattle.tj_forest.proofs.Found.{IsOf, a_cycle, a_debt, a_failure, a_wait, an_echo, is_of}
use Rattle.tj_forest.proofs.ToldOnce.{to_point}
use Rattle.tj_forest.specs.Explanations.{StoppedSo}
use Rattle.tj_findings.specs.Echoes.{back, back_by, breaker, echoed_by, most_doublings, origin}
use Rattle.tj_findings.specs.Findings.{findings_of}
use Rattle.tj_findings.specs.Findings.{link_wait, owed, told_task, wait_by}
use Rattle.tj_forest.specs.Positions.{IsToldRight, TasksAreToldRight, tasks_in}
use Rattle.tj_findings.specs.Searches.{last_number, line_of, maker_name, maker_of, owner_of}
use Rattle.tj_findings.specs.declared.finding.Finding.{Finding}
use Rattle.tj_findings.specs.declared.finding.ToldTask.{ToldTask}
use Rattle.tj_findings.specs.declared.finding.Wait.{Wait}

-- the body of `main` stands right, and is the script's
pub main_right : (script : List Task) (steps : ℕ) (root : PlacedState) → IsPlacedMain script steps root
    → StandsRight root × (root.task.script ≡ script)
main_right script steps root is =
    let main = is.0.0 in
    let f = is.1.0 in
    let own : root.task.script ≡ script = ap (λ t. t.script) is.0.2 in
    let there : slice_get root.task.script f ≡ Some main = ap (λ s. slice_get s f) own ∙ is.1.1 ∙ is.0.1 in
    let decl : root.stand.decl ≡ f = ap (λ (x : PlacedState). x.stand.decl) is.1.2 in
    let ahead : root.stand.ahead ≡ all_ahead (Some main) =
    ap (λ (x : PlacedState). x.stand.ahead) is.1.2 ∙ ap all_ahead there in
    let rest : root.task.rest ≡ listed main.body = ap (λ t. t.rest) is.0.2 in (
      record {
        task = main;
        is_declared = ap (λ n. slice_get root.task.script n) decl ∙ there;
        named = subst (λ ns. AreNamed (within main.body) ns root.task.rest) (sym ahead)
            (subst (AreNamed (within main.body) (all_ahead (Some main))) (sym rest) (all_named main.body));
      },
      own,
    )

-- what is found is an element
pub found_in : (p : TraceLine → Bool) (ls : List TraceLine) (l : TraceLine) → find p ls ≡ Some l → IsIn l ls
found_in p [] l e = absurd (cc)
found_in p (m ∷ ms) l e = by (p m) (found_in p ms l) e where
  by : (b : Bool) → (find p ms ≡ Some l → IsIn l ms) → cond b (Some m) (find p ms) ≡ Some l → (l ≡ m) ⊎ IsIn l ms
  by true rest e = inl (sym (some_is m l e))
  by false rest e = inr (rest e)

module _ (lines : List TraceLine) where
  -- the task is that of a line
  abbrev IsOfLine : ToldTask → Type 0
  IsOfLine t = (l : TraceLine) × IsIn l lines × (t ≡ told_task lines l)

  breaker_in : (q : Name) (l : TraceLine) → breaker lines q ≡ Some l → IsIn l lines
  breaker_in q l e = by (owner_of lines q) refl e where
    by : (o : Option TraceLine) → owner_of lines q ≡ o → option_or o (line_of lines q) ≡ Some l → IsIn l lines
    by None is e = found_in _ lines l e
    by (Some m) is e = found_in _ lines l (is ∙ e)

  back_in : (l m : TraceLine) → back lines l ≡ Some m → IsIn m lines
  back_in l m e = by (echoed_by l.line.ending) e where
    by : (o : Option Name) → option_and_then (breaker lines) o ≡ Some m → IsIn m lines
    by None e = absurd (cc)
    by (Some q) e = breaker_in q m e

  far_in : (k : ℕ) (l : TraceLine) → IsIn l lines → IsIn (back_by lines k l) lines
  far_in zero l i = by (back lines l) refl where
    by : (o : Option TraceLine) → back lines l ≡ o → IsIn (unwrap_or o l) lines
    by None e = i
    by (Some m) e = back_in l m e
  far_in (suc k) l i = far_in k (back_by lines k l) (far_in k l i)

  of_origin : (q : Name) (t : ToldTask) → IsIn t (option_to_list (option_map (told_task lines) (origin lines q)))
      → IsOfLine t
  of_origin q t i = by (breaker lines q) refl i where
    by : (o : Option TraceLine) → breaker lines q ≡ o
        → IsIn t (option_to_list (option_map (told_task lines) (option_map (back_by lines most_doublings) o)))
        → IsOfLine t
    by None e i = absurd i
    by (Some l) e (inl same) = (back_by lines most_doublings l, far_in most_doublings l (breaker_in q l e), same)
    by (Some l) e (inr i) = absurd i

  one_task : (l : TraceLine) → IsIn l lines → (t : ToldTask) → IsIn t (told_task lines l ∷ []) → IsOfLine t
  one_task l there t (inl e) = (l, there, e)
  one_task l there t (inr i) = absurd i

  of_waits : (ks : List Link) (t : ToldTask) → IsIn t (map (λ (w : Wait). w.task) (flat_map (link_wait lines) ks))
      → IsOfLine t
  of_waits ks t i = found (in_map (λ (w : Wait). w.task) t (flat_map (link_wait lines) ks) i) where
    one : (q : Name) (o : Option TraceLine) → ((l : TraceLine) → o ≡ Some l → IsIn l lines) → (w : Wait)
        → IsIn w (wait_by lines q o) → t ≡ w.task → IsOfLine t
    one q None there w i e = absurd i
    one q (Some l) there w (inl same) e = (l, there l refl, e ∙ ap (λ (x : Wait). x.task) same)
    one q (Some l) there w (inr i) e = absurd i

    found : (w : Wait) × IsIn w (flat_map (link_wait lines) ks) × (t ≡ w.task) → IsOfLine t
    found (w, j, e) =
        let k = from_flat_map (link_wait lines) w ks j in
        one k.0.cell (line_of lines k.0.task) (λ l h. found_in _ lines l h) w k.2 e

  of_finding : (cycles : List (List Link)) (t : ToldTask) (f : Finding) → IsOf lines cycles f → IsIn t (tasks_in f)
      → IsOfLine t
  of_finding cycles t f (a_cycle c j e) i = of_waits c t (subst (λ h. IsIn t (tasks_in h)) e i)
  of_finding cycles t f (a_wait l there q is e) i = one_task l there t (subst (λ h. IsIn t (tasks_in h)) e i)
  of_finding cycles t f (a_failure l there c is none e) i = one_task l there t (subst (λ h. IsIn t (tasks_in h)) e i)
  of_finding cycles t f (a_debt l there q owed e) i = one_task l there t (subst (λ h. IsIn t (tasks_in h)) e i)
  of_finding cycles t f (an_echo l there q is e) i = by (subst (λ h. IsIn t (tasks_in h)) e i) where
    by : IsIn t (told_task lines l ∷ option_to_list (option_map (told_task lines) (origin lines q))) → IsOfLine t
    by (inl same) = (l, there, same)
    by (inr j) = of_origin q t j

  -- each task that is told is one of a line
  pub of_lines : (cycles : List (List Link)) (t : ToldTask) → IsIn t (flat_map tasks_in (findings_of lines cycles))
      → IsOfLine t
  of_lines cycles t i =
      let f = from_flat_map tasks_in t (findings_of lines cycles) i in
      of_finding cycles t f.0 (is_of lines cycles f.0 f.1) f.2

-- the name without its last number, and that number, are the name
pub split_name : (x : Name) → 0 < length x → x ≡ child (maker_name x) (last_number x)
split_name x some =
    let whole : length x ≡ (length x - 1) + 1 = omega arith in
    sym (take-length x) ∙ ap (λ k. take k x) whole ∙ take_more x (length x - 1) 0 (omega arith)

-- a maker that is told is one that a line tells
pub maker_in : (lines : List TraceLine) (x : Name) (m : Maker) → maker_of lines x ≡ Some m
    → (l : TraceLine) × IsIn l lines × IsIn m l.makers
maker_in lines [] m e = absurd (cc)
maker_in lines (x ∷ xs) m e =
    by (line_of lines (maker_name (x ∷ xs))) (λ l h. found_in _ lines l h) (last_number (x ∷ xs)) e where
      at_number : (l : TraceLine) (k : ℕ) → made_by (Some l) k ≡ Some m → IsIn m l.makers
      at_number l zero e = absurd (cc)
      at_number l (suc k) e = in_get l.makers k m e

      by : (o : Option TraceLine) → ((l : TraceLine) → o ≡ Some l → IsIn l lines) → (k : ℕ) → made_by o k ≡ Some m
          → (l : TraceLine) × IsIn l lines × IsIn m l.makers
      by None there k e = absurd (cc)
      by (Some l) there k e = (l, there l refl, at_number l k e)

-- a statement at which a task stopped is one of a declaration
declared_where : (script : List Task) (decl at : ℕ) (e : Ending) → StandsWhere script decl at e
    → (d : Task) × (slice_get script decl ≡ Some d)
declared_where script decl at (ending.Done v) (inl (s, there, r)) = (there.task, there.is_declared)
declared_where script decl at (ending.Done v) (inr (there, r)) = (there.task, there.is_declared)
declared_where script decl at (ending.Failed c) (s, there, r) = (there.task, there.is_declared)
declared_where script decl at (ending.Waits q) (s, there, r) = (there.task, there.is_declared)

module _ (root : PlacedState) (right : StandsRight root) (tokens : List Token) (notes : List Noted)
    (derived : IsProgram notes root.task.script) (strict : Bool) (N : ℕ) (lines : List TraceLine)
    (traced : AreTraced (logged_program strict root) N lines) where
  abbrev own_places : List PlacesOfTask
  own_places = places_of tokens (in_tasks derived 0)

  forked_by : (l : TraceLine) → IsIn l lines → (x : Name) → l.line.name ≡ x → ¬ (x ≡ [])
      → IsForkOf root.task.script l.decl (maker_of lines x)
  forked_by l i [] e some = absurd (some refl)
  forked_by l i (x ∷ xs) e some =
      (lines_are_forked strict root N lines right traced l i).1 (maker_name (x ∷ xs)) (last_number (x ∷ xs))
      (e ∙ split_name (x ∷ xs) (omega arith))

  -- the task of a line is told right
  line_right : {B : Type 0} (ps : List (Point B)) (l : TraceLine) → IsIn l lines
      → StoppedSo ps l.line.name l.line.ending → IsToldRight ps root.task.script own_places (told_task lines l)
  line_right ps l i so =
      let is = lines_are_right strict root N lines right traced l i in
      let there = lines_have_places strict root N lines right traced tokens notes derived in
      record {
        declared = declared_where root.task.script l.decl l.at l.line.ending is.stands;
        stopped = (l.line.ending, so, refl, is.stands);
        stands = (there l i).0;
        root = λ e. ap (maker_of lines) e;
        forked = forked_by l i l.line.name refl;
        fork_stands = λ m e. let k = maker_in lines l.line.name m e in (there k.0 k.1).1 m k.2;
      }

-- the law
pub tasks_are_told_right : TasksAreToldRight
tasks_are_told_right script steps root main tokens notes derived strict N lines o traced out t i =
    let facts = main_right script steps root main in
    let l = of_lines lines o.cycles t i in
    let ps = meaning (script_program strict root) N in
    let p = to_point strict root N lines o traced out l.0 l.1 in
    let told : (d : IsProgram notes root.task.script)
    → IsToldRight ps root.task.script (places_of tokens (in_tasks d 0)) t =
    λ d. subst (IsToldRight ps root.task.script (places_of tokens (in_tasks d 0))) (sym l.2)
    (line_right root facts.0 tokens notes d strict N lines traced ps l.0 l.1 (p.0, p.1, p.2.name, p.2.stopped)) in
    subst (λ s. (d : IsProgram notes s) → IsToldRight ps s (places_of tokens (in_tasks d 0)) t) facts.1 told derived
