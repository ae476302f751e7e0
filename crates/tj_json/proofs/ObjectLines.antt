-- The objects of a forest are those of its findings, and each is one line.
use Rattle.std.proofs.Common.{◌≡◌, ℕ, List, [], ◌∷◌, ◌++◌, take, map, Option, Some, None}
use Rattle.std.proofs.Common.{refl, sym, ap, ◌∙◌}
use Rattle.std.specs.Prelude.{codes, decimal, slice_get}
use Rattle.std.specs.List.{flat_map}
use Rattle.std.proofs.lemmas.Grind.{flat_map-append}
use Rattle.std.proofs.lemmas.List.Folds.{flat_map-map}
use Rattle.tj_base.specs.ForkOrder.{Name, child}
use Rattle.tj_base.specs.Texts.{name_text}
use Rattle.tj_base.specs.declared.cause.Cause.{Cause}
use Rattle.tj_base.specs.declared.cause.Cause.TheVariants as cause
use Rattle.tj_body.specs.declared.point.Value.{Value}
use Rattle.tj_body.specs.declared.point.Value.TheVariants as value
use Rattle.tj_syntax.specs.Trees.{Task}
use Rattle.tj_trace.specs.declared.line.Maker.{Maker}
use Rattle.tj_faults.specs.Objects.{begin, quoted}
use Rattle.tj_reasons.specs.declared.reason.Reason.{Reason}
use Rattle.tj_findings.specs.Forests.{Tree}
use Rattle.tj_findings.specs.LetNames.{let_name}
use Rattle.tj_findings.specs.LinesTold.{AreLines, HasPlainNames, IsPlain, tree_with_levels}
use Rattle.tj_findings.specs.PartTexts.{cause_word, is_promise, stopped_word}
use Rattle.tj_findings.specs.ReasonTexts.{reason_for, reason_words}
use Rattle.tj_findings.specs.Scenes.{Told, name_of, spot_text, stop_text}
use Rattle.tj_findings.specs.declared.finding.Finding.{Finding}
use Rattle.tj_findings.specs.declared.finding.Finding.TheVariants as finding
use Rattle.tj_findings.specs.declared.finding.ToldCell.{ToldCell}
use Rattle.tj_findings.specs.declared.finding.ToldTask.{ToldTask}
use Rattle.tj_findings.specs.declared.finding.Wait.{Wait}
use Rattle.tj_findings.specs.declared.finding.Went.{Went}
use Rattle.tj_findings.specs.declared.finding.Went.TheVariants as went
use Rattle.tj_findings.proofs.PlainTexts.{one_line, plain_before, plain_both, plain_cond, plain_decimal}
use Rattle.tj_findings.proofs.PlainParts.{plain_name, plain_named, plain_reason, plain_signed, plain_spot, plain_stop}
use Rattle.tj_findings.proofs.PlainParts.{plain_stopped, plain_word}
use Rattle.tj_json.specs.LineLaws.{AreOneLine, TellEach}
use Rattle.tj_json.specs.JsonTexts as json

-- a text in quotes
plain_quoted : (x : List ℕ) → IsPlain x → IsPlain (quoted x)
plain_quoted x p = plain_both (codes "\"" ++ x) (codes "\"") (plain_both (codes "\"") x refl p) refl

-- the beginning of an object
plain_begin : (kind : List ℕ) → IsPlain kind → IsPlain (begin kind)
plain_begin kind p = plain_both (codes "{\"kind\":") (quoted kind) refl (plain_quoted kind p)

-- the same with a level
plain_begin_at : (n : ℕ) (kind : List ℕ) → IsPlain kind → IsPlain (json.begin_at n kind)
plain_begin_at n kind p =
    plain_both (begin kind ++ codes ",\"level\":") (decimal n)
    (plain_both (begin kind) (codes ",\"level\":") (plain_begin kind p) refl) (plain_decimal n)

-- a position
plain_place : (s : Told) (m : Option Maker) → IsPlain (json.spot_json s m)
plain_place s None = refl
plain_place s (Some m) = plain_quoted (spot_text s m.decl m.at) (plain_spot s m.decl m.at)

-- a name, if there is one
plain_owner : (o : Option Name) → IsPlain (json.name_json o)
plain_owner None = refl
plain_owner (Some x) = plain_quoted (name_text x) (plain_name x)

-- the sort of a cell
plain_sort : (m : Option Maker) → IsPlain (json.sort_json m)
plain_sort m = plain_cond (is_promise m) (codes "promise") (codes "task") refl refl

-- how and where a task stopped
plain_end : (s : Told) (t : ToldTask) → IsPlain (json.stop_json s t)
plain_end s t =
    let how = quoted (stopped_word t.stop) in
    plain_both (how ++ codes ",\"at\":") (quoted (stop_text s t))
    (plain_both how (codes ",\"at\":") (plain_quoted (stopped_word t.stop) (plain_stopped t.stop)) refl)
    (plain_quoted (stop_text s t) (plain_stop s t))

-- a value
plain_value : (v : Value) → IsPlain (json.value_json v)
plain_value (value.Num i) = plain_signed i
plain_value (value.Ref r) = plain_quoted (name_text r.name) (plain_name r.name)

-- further values
plain_next : (vs : List Value) → IsPlain (flat_map json.next_value vs)
plain_next [] = refl
plain_next (v ∷ vs) =
    plain_both (json.next_value v) (flat_map json.next_value vs)
    (plain_both (codes ",") (json.value_json v) refl (plain_value v)) (plain_next vs)

-- values
plain_values : (vs : List Value) → IsPlain (json.values_json vs)
plain_values [] = refl
plain_values (v ∷ vs) =
    plain_both (json.value_json v) (flat_map json.next_value vs) (plain_value v) (plain_next vs)

-- the arguments of a task
plain_arguments : (d : Option Task) (vs : List Value) → IsPlain (json.arguments_json d vs)
plain_arguments None vs = refl
plain_arguments (Some d) vs = plain_values (take d.params vs)

-- a reason
plain_why : (t : ToldTask) (r : Option Reason) → IsPlain (json.reason_json t r)
plain_why t None = refl
plain_why t (Some r) = plain_quoted (reason_words t r) (plain_reason t r)

-- the end of an object of where a promise went
plain_at : (s : Told) (d n : ℕ) → IsPlain (json.at_json s d n)
plain_at s d n =
    let spot = quoted (spot_text s d n) in
    plain_both (codes ",\"at\":" ++ spot) (codes "}")
    (plain_both (codes ",\"at\":") spot refl (plain_quoted (spot_text s d n) (plain_spot s d n))) refl

-- a name behind the beginning of such an object
plain_by : (before : List ℕ) (x : Name) → IsPlain before → IsPlain (before ++ quoted (name_text x))
plain_by before x p = plain_both before (quoted (name_text x)) p (plain_quoted (name_text x) (plain_name x))

-- where a promise went
plain_went : (s : Told) (d : ℕ) (w : Went) → IsPlain (json.went_json s d w)
plain_went s d went.Nowhere = refl
plain_went s d (went.SetHere n) = plain_both (begin (codes "set here")) (json.at_json s d n) refl (plain_at s d n)
plain_went s d (went.HandedHere x k n) =
    let start = begin (codes "handed here") ++ codes ",\"to\":" in
    plain_both (start ++ quoted (name_text (child x k))) (json.at_json s d n) (plain_by start (child x k) refl)
    (plain_at s d n)
plain_went s d went.TwiceHere = refl
plain_went s d (went.SetBy x e n) =
    let start = begin (codes "set") ++ codes ",\"by\":" in
    plain_both (start ++ quoted (name_text x)) (json.at_json s e n) (plain_by start x refl) (plain_at s e n)
plain_went s d (went.OwnedBy x) =
    let start = begin (codes "owned") ++ codes ",\"by\":" in
    plain_both (start ++ quoted (name_text x)) (codes "}") (plain_by start x refl) refl

module _ (s : Told) (plain : HasPlainNames s) where
  -- the variable of a `let`
  plain_let : (m : Option Maker) → IsPlain (json.let_json s m)
  plain_let None = refl
  plain_let (Some m) = by (let_name s m) refl where
    by : (x : Option (List ℕ)) → let_name s m ≡ x → IsPlain (json.variable_json x)
    by None e = refl
    by (Some x) e = plain_quoted x (plain.variables m x e)

  -- where a cell was made
  plain_made : (m : Option Maker) → IsPlain (json.made_json s m)
  plain_made m =
      plain_both (json.spot_json s m ++ codes ",\"variable\":") (json.let_json s m)
      (plain_both (json.spot_json s m) (codes ",\"variable\":") (plain_place s m) refl) (plain_let m)

  -- a cell
  plain_cell : (x : Name) (m : Option Maker) → IsPlain (json.cell_json s x m)
  plain_cell x m =
      let name = codes "{\"name\":" ++ quoted (name_text x) in
      let kind = name ++ codes ",\"sort\":" ++ quoted (json.sort_json m) in
      plain_both (kind ++ codes ",\"made\":" ++ json.made_json s m) (codes "}")
      (plain_both (kind ++ codes ",\"made\":") (json.made_json s m)
      (plain_both kind (codes ",\"made\":")
      (plain_both (name ++ codes ",\"sort\":") (quoted (json.sort_json m))
      (plain_both name (codes ",\"sort\":") (plain_by (codes "{\"name\":") x refl) refl)
      (plain_quoted (json.sort_json m) (plain_sort m))) refl) (plain_made m)) refl

  -- what a task runs
  plain_start : (t : ToldTask) → IsPlain (json.start_json s t)
  plain_start t =
      let d = slice_get s.script t.decl in
      let name = quoted (name_of d) in
      let values = json.arguments_json d t.began in
      let fork = codes "],\"forked\":" in
      plain_both (name ++ codes ",\"began\":[" ++ values ++ fork) (json.spot_json s t.fork)
      (plain_both (name ++ codes ",\"began\":[" ++ values) fork
      (plain_both (name ++ codes ",\"began\":[") values
      (plain_both name (codes ",\"began\":[") (plain_quoted (name_of d) (plain_named s plain t.decl)) refl)
      (plain_arguments d t.began)) refl) (plain_place s t.fork)

  -- a task
  plain_task : (t : ToldTask) → IsPlain (json.task_json s t)
  plain_task t =
      let name = codes "{\"name\":" ++ quoted (name_text t.name) in
      let start = name ++ codes ",\"task\":" ++ json.start_json s t in
      plain_both (start ++ codes ",\"stopped\":" ++ json.stop_json s t) (codes "}")
      (plain_both (start ++ codes ",\"stopped\":") (json.stop_json s t)
      (plain_both start (codes ",\"stopped\":")
      (plain_both (name ++ codes ",\"task\":") (json.start_json s t)
      (plain_both name (codes ",\"task\":") (plain_by (codes "{\"name\":") t.name refl) refl) (plain_start t)) refl)
      (plain_end s t)) refl

  -- a task, if there is one
  plain_task_if : (t : Option ToldTask) → IsPlain (json.task_if_json s t)
  plain_task_if None = refl
  plain_task_if (Some t) = plain_task t

  -- a wait
  plain_wait : (w : Wait) → IsPlain (json.wait_json s w)
  plain_wait w =
      let cell = json.cell_json s w.cell.name w.cell.maker in
      let awaited = json.awaited_json s w.cell w.owner in
      let task = codes "{\"task\":" ++ json.task_json s w.task in
      plain_both (task ++ codes ",\"cell\":" ++ awaited) (codes "}")
      (plain_both (task ++ codes ",\"cell\":") awaited
      (plain_both task (codes ",\"cell\":") (plain_both (codes "{\"task\":") (json.task_json s w.task) refl
      (plain_task w.task)) refl)
      (plain_both (cell ++ codes ",\"owner\":") (json.name_json w.owner)
      (plain_both cell (codes ",\"owner\":") (plain_cell w.cell.name w.cell.maker) refl) (plain_owner w.owner))) refl

  -- further waits
  plain_more : (ws : List Wait) → IsPlain (flat_map (json.more_waits s) ws)
  plain_more [] = refl
  plain_more (w ∷ ws) =
      plain_both (json.more_waits s w) (flat_map (json.more_waits s) ws)
      (plain_both (codes ",") (json.wait_json s w) refl (plain_wait w)) (plain_more ws)

  -- waits
  plain_waits : (ws : List Wait) → IsPlain (json.waits_json s ws)
  plain_waits [] = refl
  plain_waits (w ∷ ws) =
      plain_both (json.wait_json s w) (flat_map (json.more_waits s) ws) (plain_wait w) (plain_more ws)

  -- the cell that a cause names
  plain_of_cause : (c : Cause) (m : Option Maker) → IsPlain (json.named_json s c m)
  plain_of_cause cause.Arith m = refl
  plain_of_cause cause.Kind m = refl
  plain_of_cause cause.Steps m = refl
  plain_of_cause (cause.Owner q) m = plain_cell q m
  plain_of_cause (cause.Broken q) m = plain_cell q m
  plain_of_cause (cause.Order q) m = plain_cell q m

  -- why a task failed, the cell, and where that went
  plain_about : (t : ToldTask) (c : Cause) (m : Option Maker) → IsPlain (json.about_json s t c m)
  plain_about t c m =
      let why = json.reason_json t (reason_for s t c) in
      let cell = why ++ codes ",\"cell\":" ++ json.named_json s c m in
      plain_both (cell ++ codes ",\"went\":") (json.went_json s t.decl t.went)
      (plain_both cell (codes ",\"went\":")
      (plain_both (why ++ codes ",\"cell\":") (json.named_json s c m)
      (plain_both why (codes ",\"cell\":") (plain_why t (reason_for s t c)) refl) (plain_of_cause c m)) refl)
      (plain_went s t.decl t.went)

  -- a cause
  plain_caused : (t : ToldTask) (c : Cause) (m : Option Maker) → IsPlain (json.cause_json s t c m)
  plain_caused t c m =
      let word = quoted (cause_word c) in
      plain_both (word ++ codes ",\"reason\":") (json.about_json s t c m)
      (plain_both word (codes ",\"reason\":") (plain_quoted (cause_word c) (plain_word c)) refl) (plain_about t c m)

  -- a broken cell, and where an echo began
  plain_began : (q : ToldCell) (o : Option ToldTask) → IsPlain (json.began_json s q o)
  plain_began q o =
      let cell = json.cell_json s q.name q.maker in
      plain_both (cell ++ codes ",\"origin\":") (json.task_if_json s o)
      (plain_both cell (codes ",\"origin\":") (plain_cell q.name q.maker) refl) (plain_task_if o)

  -- an object that ends with a part
  ended : (before part : List ℕ) → IsPlain before → IsPlain part → AreLines 1 (before ++ part ++ codes "}\n")
  ended before part p q =
      plain_before 1 (before ++ part) (codes "}\n") (plain_both before part p q) (one_line (codes "}") refl)

  -- an object of two parts behind its level
  pub of_two : (n : ℕ) (kind first x second y : List ℕ) → IsPlain kind → IsPlain first → IsPlain x → IsPlain second
      → IsPlain y → AreLines 1 (json.begin_at n kind ++ (first ++ x ++ second ++ y ++ codes "}\n"))
  of_two n kind first x second y k p a q b =
      plain_before 1 (json.begin_at n kind) (first ++ x ++ second ++ y ++ codes "}\n") (plain_begin_at n kind k)
      (ended (first ++ x ++ second) y (plain_both (first ++ x) second (plain_both first x p a) q) b)

  -- each object
  pub each_one_line : AreOneLine s
  each_one_line n (finding.Cycle waits) =
      let start = json.begin_at n (codes "deadlock") in
      let all = json.waits_json s waits in
      plain_before 1 (start ++ codes ",\"waits\":[" ++ all) (codes "]}\n")
      (plain_both (start ++ codes ",\"waits\":[") all
      (plain_both start (codes ",\"waits\":[") (plain_begin_at n (codes "deadlock") refl) refl) (plain_waits waits))
      (one_line (codes "]}") refl)
  each_one_line n (finding.Behind w) =
      let start = json.begin_at n (codes "behind") in
      ended (start ++ codes ",\"wait\":") (json.wait_json s w)
      (plain_both start (codes ",\"wait\":") (plain_begin_at n (codes "behind") refl) refl) (plain_wait w)
  each_one_line n (finding.Failed t c m) =
      of_two n (codes "failed") (codes ",\"task\":") (json.task_json s t) (codes ",\"cause\":")
      (json.cause_json s t c m) refl refl (plain_task t) refl (plain_caused t c m)
  each_one_line n (finding.Owed q t) =
      of_two n (codes "owed") (codes ",\"cell\":") (json.cell_json s q.name q.maker) (codes ",\"task\":")
      (json.task_json s t) refl refl (plain_cell q.name q.maker) refl (plain_task t)
  each_one_line n (finding.Echo t q o) =
      of_two n (codes "echo") (codes ",\"task\":") (json.task_json s t) (codes ",\"cell\":") (json.began_json s q o)
      refl refl (plain_task t) refl (plain_began q o)

module _ (s : Told) where
  -- the object of a finding with its level
  abbrev object : ℕ × Finding → List ℕ
  object g = json.finding_json s g.0 g.1

  -- the objects of trees
  of_trees : (ts : List Tree) → flat_map (json.tree_json s) ts ≡ flat_map object (flat_map tree_with_levels ts)
  of_trees [] = refl
  of_trees (t ∷ ts) =
      let root = json.finding_json s 0 t.root in
      ap (λ z. (root ++ z) ++ flat_map (json.tree_json s) ts) (sym (flat_map-map object (λ f. (1, f)) t.below))
      ∙ ap (λ z. (root ++ flat_map object (map (λ f. (1, f)) t.below)) ++ z) (of_trees ts)
      ∙ sym (flat_map-append object (tree_with_levels t) (flat_map tree_with_levels ts))

  -- the objects of a forest
  pub tell_each : TellEach s
  tell_each f =
      ap (λ z. z ++ flat_map (json.finding_json s 0) f.strays) (of_trees f.trees)
      ∙ ap (λ z. flat_map object (flat_map tree_with_levels f.trees) ++ z)
      (sym (flat_map-map object (λ g. (0, g)) f.strays))
      ∙ sym (flat_map-append object (flat_map tree_with_levels f.trees) (map (λ g. (0, g)) f.strays))
