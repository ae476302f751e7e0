-- The object of a finding has the names of its tasks and cells, in order.
use Rattle.std.proofs.Common.{◌≡◌, ℕ, List, [], ◌∷◌, ◌++◌, Option, Some, None}
use Rattle.std.proofs.Common.{sym, ap, subst, ◌∙◌, append_assoc, append-nil}
use Rattle.std.specs.Prelude.{codes}
use Rattle.std.specs.List.{flat_map}
use Rattle.std.specs.Option.{option_map}
use Rattle.tj_base.specs.ForkOrder.{Name}
use Rattle.tj_base.specs.Texts.{name_text}
use Rattle.tj_base.specs.declared.cause.Cause.{Cause}
use Rattle.tj_base.specs.declared.cause.Cause.TheVariants as cause
use Rattle.tj_trace.specs.declared.line.Maker.{Maker}
use Rattle.tj_faults.specs.Objects.{quoted}
use Rattle.tj_findings.specs.Groups.{cell_named}
use Rattle.tj_findings.specs.LinesTold.{StandInOrder, StandsIn}
use Rattle.tj_findings.specs.PartTexts.{cause_word}
use Rattle.tj_findings.specs.ReasonTexts.{reason_for}
use Rattle.tj_findings.specs.Scenes.{Told}
use Rattle.tj_findings.specs.declared.finding.Finding.TheVariants as finding
use Rattle.tj_findings.specs.declared.finding.ToldTask.{ToldTask}
use Rattle.tj_findings.specs.declared.finding.Wait.{Wait}
use Rattle.tj_findings.proofs.PartsInOrder.{all_before, all_behind, all_both, before_more, one_first}
use Rattle.tj_json.specs.LineLaws.{HasNames, cell_if, cell_part, origin_part, owner_part, task_part}
use Rattle.tj_json.specs.LineLaws.{wait_parts}
use Rattle.tj_json.specs.JsonTexts as json

-- a name behind the bytes with which each task and each cell begins
abbrev named : Name → List ℕ
named x = codes "{\"name\":" ++ quoted (name_text x)

-- the text begins with this name
record BeginsNamed (x : Name) (text : List ℕ) : Type 0 where
  rest : List ℕ
  is : text ≡ named x ++ rest

-- what a text begins with, one with more behind it does
begins_more : (x : Name) (y z : List ℕ) → BeginsNamed x y → BeginsNamed x (y ++ z)
begins_more x y z b = record {
  rest = b.rest ++ z;
  is = ap (λ t. t ++ z) b.is ∙ append_assoc (named x) b.rest z;
}

-- parts of a text, and parts of one behind it that begins with a key
behind_key : (ps qs : List (List ℕ)) (x key y : List ℕ) → StandInOrder ps x → StandInOrder qs (key ++ y)
    → StandInOrder (ps ++ qs) (x ++ key ++ y)
behind_key ps qs x key y first more =
    subst (StandInOrder (ps ++ qs)) (sym (append_assoc x key y)) (all_both ps qs x (key ++ y) first more)

-- a part that ends a text, behind a byte
ends_with : (b : ℕ) (p : List ℕ) → StandsIn p (b ∷ p)
ends_with b p = record { before = b ∷ []; behind = []; is = sym (append-nil (b ∷ p)) }

module _ (s : Told) where
  -- a cell, and a task
  cell_begins : (x : Name) (m : Option Maker) → BeginsNamed x (json.cell_json s x m)
  cell_begins x m =
      let sorted = named x ++ codes ",\"sort\":" ++ quoted (json.sort_json m) in
      begins_more x (sorted ++ codes ",\"made\":" ++ json.made_json s m) (codes "}")
      (begins_more x (sorted ++ codes ",\"made\":") (json.made_json s m)
      (begins_more x sorted (codes ",\"made\":")
      (begins_more x (named x ++ codes ",\"sort\":") (quoted (json.sort_json m))
      (begins_more x (named x) (codes ",\"sort\":")
      (record { rest = []; is = sym (append-nil (named x)) })))))

  task_begins : (t : ToldTask) → BeginsNamed t.name (json.task_json s t)
  task_begins t =
      let x = t.name in
      let start = named x ++ codes ",\"task\":" ++ json.start_json s t in
      begins_more x (start ++ codes ",\"stopped\":" ++ json.stop_json s t) (codes "}")
      (begins_more x (start ++ codes ",\"stopped\":") (json.stop_json s t)
      (begins_more x start (codes ",\"stopped\":")
      (begins_more x (named x ++ codes ",\"task\":") (json.start_json s t)
      (begins_more x (named x) (codes ",\"task\":")
      (record { rest = []; is = sym (append-nil (named x)) })))))

  -- the same behind its key, in front of which there is one byte
  in_cell : (x : Name) (m : Option Maker) → StandsIn (cell_part x) (codes ",\"cell\":" ++ json.cell_json s x m)
  in_cell x m =
      let b = cell_begins x m in
      record { before = codes ","; behind = b.rest; is = ap (λ t. codes ",\"cell\":" ++ t) b.is }

  in_task : (b : ℕ) (t : ToldTask)
      → StandsIn (task_part t.name) (b ∷ codes "\"task\":" ++ json.task_json s t)
  in_task b t =
      let u = task_begins t in
      record { before = b ∷ []; behind = u.rest; is = ap (λ z. b ∷ codes "\"task\":" ++ z) u.is }

  -- an owner
  in_owner : (o : Option Name) → StandsIn (owner_part o) (codes ",\"owner\":" ++ json.name_json o)
  in_owner None = ends_with 44 (owner_part None)
  in_owner (Some x) = ends_with 44 (owner_part (Some x))

  -- the task where an echo began
  in_origin : (o : Option ToldTask)
      → StandsIn (origin_part (option_map (λ u. u.name) o)) (codes ",\"origin\":" ++ json.task_if_json s o)
  in_origin None = ends_with 44 (origin_part None)
  in_origin (Some t) =
      let u = task_begins t in
      record { before = codes ","; behind = u.rest; is = ap (λ z. codes ",\"origin\":" ++ z) u.is }

  -- the cell that a cause names
  in_named : (c : Cause) (m : Option Maker)
      → StandsIn (cell_if (cell_named c)) (codes ",\"cell\":" ++ json.named_json s c m)
  in_named cause.Arith m = ends_with 44 (cell_if None)
  in_named cause.Kind m = ends_with 44 (cell_if None)
  in_named cause.Steps m = ends_with 44 (cell_if None)
  in_named (cause.Owner q) m = in_cell q m
  in_named (cause.Broken q) m = in_cell q m
  in_named (cause.Order q) m = in_cell q m

  -- a wait
  in_wait : (w : Wait) → StandInOrder (wait_parts w) (json.wait_json s w)
  in_wait w =
      let task = codes "{\"task\":" ++ json.task_json s w.task in
      let cell = json.cell_json s w.cell.name w.cell.maker in
      all_before (wait_parts w) (task ++ codes ",\"cell\":" ++ json.awaited_json s w.cell w.owner) (codes "}")
      (behind_key (task_part w.task.name ∷ []) (cell_part w.cell.name ∷ owner_part w.owner ∷ []) task
      (codes ",\"cell\":") (json.awaited_json s w.cell w.owner) (in_task 123 w.task, tt)
      (behind_key (cell_part w.cell.name ∷ []) (owner_part w.owner ∷ []) (codes ",\"cell\":" ++ cell)
      (codes ",\"owner\":") (json.name_json w.owner) (in_cell w.cell.name w.cell.maker, tt) (in_owner w.owner, tt)))

  -- further waits
  in_more : (ws : List Wait) → StandInOrder (flat_map wait_parts ws) (flat_map (json.more_waits s) ws)
  in_more [] = tt
  in_more (w ∷ ws) =
      all_both (wait_parts w) (flat_map wait_parts ws) (json.more_waits s w) (flat_map (json.more_waits s) ws)
      (all_behind (wait_parts w) (codes ",") (json.wait_json s w) (in_wait w)) (in_more ws)

  -- waits
  in_waits : (ws : List Wait) → StandInOrder (flat_map wait_parts ws) (json.waits_json s ws)
  in_waits [] = tt
  in_waits (w ∷ ws) =
      all_both (wait_parts w) (flat_map wait_parts ws) (json.wait_json s w) (flat_map (json.more_waits s) ws)
      (in_wait w) (in_more ws)

  -- a cause with its cell
  in_cause : (t : ToldTask) (c : Cause) (m : Option Maker)
      → StandInOrder ((codes "\"cause\":" ++ quoted (cause_word c)) ∷ cell_if (cell_named c) ∷ [])
      (codes ",\"cause\":" ++ json.cause_json s t c m)
  in_cause t c m =
      let word = codes "\"cause\":" ++ quoted (cause_word c) in
      let parts = cell_if (cell_named c) ∷ [] in
      let why = json.reason_json t (reason_for s t c) in
      let cell = json.named_json s c m in
      let gone = json.went_json s t.decl t.went in
      one_first word parts (codes "," ++ word ++ codes ",\"reason\":") (json.about_json s t c m)
      (before_more word (codes "," ++ word) (codes ",\"reason\":") (ends_with 44 word))
      (all_before parts (why ++ codes ",\"cell\":" ++ cell ++ codes ",\"went\":") gone
      (all_before parts (why ++ codes ",\"cell\":" ++ cell) (codes ",\"went\":")
      (behind_key [] parts why (codes ",\"cell\":") cell tt (in_named c m, tt))))

  -- an object of two parts behind its level
  in_parts : (ps qs : List (List ℕ)) (n : ℕ) (kind x key y : List ℕ) → StandInOrder ps x
      → StandInOrder qs (key ++ y)
      → StandInOrder (ps ++ qs) (json.begin_at n kind ++ (x ++ key ++ y ++ codes "}\n"))
  in_parts ps qs n kind x key y first more =
      all_behind (ps ++ qs) (json.begin_at n kind) (x ++ key ++ y ++ codes "}\n")
      (all_before (ps ++ qs) (x ++ key ++ y) (codes "}\n") (behind_key ps qs x key y first more))

  -- the object of a finding
  pub has_names : HasNames s
  has_names n (finding.Cycle ws) =
      let start = json.begin_at n (codes "deadlock") ++ codes ",\"waits\":[" in
      let parts = flat_map wait_parts ws in
      all_before parts (start ++ json.waits_json s ws) (codes "]}\n")
      (all_behind parts start (json.waits_json s ws) (in_waits ws))
  has_names n (finding.Behind w) =
      let start = json.begin_at n (codes "behind") ++ codes ",\"wait\":" in
      all_before (wait_parts w) (start ++ json.wait_json s w) (codes "}\n")
      (all_behind (wait_parts w) start (json.wait_json s w) (in_wait w))
  has_names n (finding.Failed t c m) =
      in_parts (task_part t.name ∷ []) ((codes "\"cause\":" ++ quoted (cause_word c)) ∷ cell_if (cell_named c) ∷ [])
      n (codes "failed") (codes ",\"task\":" ++ json.task_json s t) (codes ",\"cause\":") (json.cause_json s t c m)
      (in_task 44 t, tt) (in_cause t c m)
  has_names n (finding.Owed q t) =
      in_parts (cell_part q.name ∷ []) (task_part t.name ∷ [])
      n (codes "owed") (codes ",\"cell\":" ++ json.cell_json s q.name q.maker) (codes ",\"task\":")
      (json.task_json s t) (in_cell q.name q.maker, tt) (in_task 44 t, tt)
  has_names n (finding.Echo t q o) =
      in_parts (task_part t.name ∷ []) (cell_part q.name ∷ origin_part (option_map (λ u. u.name) o) ∷ [])
      n (codes "echo") (codes ",\"task\":" ++ json.task_json s t) (codes ",\"cell\":") (json.began_json s q o)
      (in_task 44 t, tt)
      (behind_key (cell_part q.name ∷ []) (origin_part (option_map (λ u. u.name) o) ∷ [])
      (codes ",\"cell\":" ++ json.cell_json s q.name q.maker) (codes ",\"origin\":") (json.task_if_json s o)
      (in_cell q.name q.maker, tt) (in_origin o, tt))
