-- Which cells the words, the records at home and the walks name, and that these are there.
use Rattle.std.specs.Prelude.{◌≡◌, ℕ, List, [], ◌∷◌, ◌++◌, map, Option, Some, None}
use Rattle.tj_events.specs.declared.walk.Way.{Way}
use Rattle.tj_events.specs.declared.walk.TrailLink.{TrailLink}
use Rattle.tj_events.specs.declared.walk.Walker.{Walker}
use Rattle.tj_events.specs.declared.walk.LastRead.{LastRead}
use Rattle.tj_events.specs.declared.walk.LastRead.TheVariants as last
use Rattle.tj_words.specs.declared.phase.Walk.{Walk}
use Rattle.tj_words.specs.declared.phase.Phase.{Phase}
use Rattle.tj_words.specs.declared.phase.Phase.TheVariants.{Waiting}
use Rattle.tj_base.specs.declared.cell.CellId.{CellId}
use Rattle.tj_record.specs.declared.record.Fill.{Fill}
use Rattle.tj_record.specs.declared.record.Fill.TheVariants as fill
use Rattle.tj_record.specs.declared.record.Hurt.{Hurt}
use Rattle.tj_record.specs.declared.record.Hurt.TheVariants as hurt
use Rattle.tj_record.specs.declared.record.Finish.{Finish}
use Rattle.tj_record.specs.declared.record.Finish.TheVariants as finish
use Rattle.tj_record.specs.declared.record.Held.{Held}
use Rattle.tj_record.specs.declared.record.Rec.{Rec}
use Rattle.tj_words.specs.declared.view.Hand.{Hand}
use Rattle.tj_words.specs.declared.view.Does.{Does}
use Rattle.tj_words.specs.declared.view.Does.TheVariants as does
use Rattle.tj_words.specs.declared.view.Custody.{Custody}
use Rattle.tj_words.specs.Words.Lists.{Each, All, numbers}
use Rattle.tj_words.specs.LawParts.Hands.{IsThere}

-- the cell of a value
abbrev pub fill_cells : Fill → List ℕ
fill_cells (fill.Num i) = []
fill_cells (fill.Promise c) = c.0 ∷ []
fill_cells (fill.Task c) = c.0 ∷ []

-- the cell of a failure
abbrev pub hurt_cells : Hurt → List ℕ
hurt_cells hurt.Arith = []
hurt_cells hurt.Kind = []
hurt_cells hurt.Steps = []
hurt_cells (hurt.Owner c) = c.0 ∷ []
hurt_cells (hurt.Broken c) = c.0 ∷ []
hurt_cells (hurt.Order c) = c.0 ∷ []

-- the cell of an ending
abbrev pub finish_cells : Option Finish → List ℕ
finish_cells None = []
finish_cells (Some (finish.Done f)) = fill_cells f
finish_cells (Some (finish.Failed h)) = hurt_cells h

-- the cells that a record names
abbrev pub record_cells : {B : Type 0} → Rec B → List ℕ
record_cells r =
    r.cell.0 ∷ (map (λ (h : Held). h.cell.0) r.held ++ (numbers r.owned ++ (numbers r.owed ++ finish_cells r.finish)))

-- the cells of a trail: the owners that were passed, and what each waited for
abbrev pub trail_cells : List TrailLink → List ℕ
trail_cells [] = []
trail_cells (link ∷ links) = link.owner ∷ link.next ∷ trail_cells links

-- the cells of a last read
abbrev pub read_cells : LastRead → List ℕ
read_cells last.Published = []
read_cells (last.SawOthers n) = []
read_cells last.Counted = []
read_cells (last.SawOwner None) = []
read_cells (last.SawOwner (Some u)) = u ∷ []
read_cells (last.SawWait u None) = u ∷ []
read_cells (last.SawWait u (Some c)) = u ∷ c ∷ []
read_cells last.Passed = []
read_cells last.Changed = []

-- the cells of a walk that starts at p
abbrev pub walk_cells : ℕ → Walker → List ℕ
walk_cells p w = p ∷ (trail_cells w.trail ++ read_cells w.last)

-- the cells that a view names by what a task does
abbrev pub does_cells : Does → List ℕ
does_cells does.Unborn = []
does_cells does.Fresh = []
does_cells does.Running = []
does_cells does.Raised = []
does_cells (does.Walking p way w) = walk_cells p w
does_cells (does.Alarmed p way w) = walk_cells p w

-- each of the cells is drawn and not in hand
abbrev pub AreThere : ℕ → (ℕ → Option Hand) → List ℕ → Type 0
AreThere drawn hand cells = All (IsThere drawn hand) cells

module _ {B : Type 0} (drawn : ℕ) (hand : ℕ → Option Hand) where
  -- no OWN, no PHASE, no record at home and no walk names a cell that isn't drawn or is in hand; nor is a cell that a
  -- seat knows. BITS has its place with what becomes of cells
  pub record NamesCells (own : ℕ → Option ℕ) (phase : ℕ → Phase) (home : ℕ → Option (Rec B))
      (tasks : List (List (Custody B)))
      (known : List (List ℕ)) : Type 0 where
    pub owned : (c t : ℕ) → own c ≡ Some t → IsThere drawn hand c × IsThere drawn hand t
    pub waits : (t : ℕ) (c : CellId) (way : Way) (walk : Walk) → phase t ≡ Waiting c way walk
        → IsThere drawn hand c.0
    pub records : (t : ℕ) (r : Rec B) → home t ≡ Some r → AreThere drawn hand (record_cells r)
    pub walks : Each (λ j ks. All (λ (k : Custody B). AreThere drawn hand (does_cells k.does)) ks) tasks
    pub knows : Each (λ j cells. AreThere drawn hand cells) known
