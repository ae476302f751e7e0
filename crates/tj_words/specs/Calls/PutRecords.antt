-- A record that was put into its slot, before it comes home: what the seat that put it there knows of it.
use Rattle.std.specs.Prelude.{◌≡◌, ℕ, ◌∷◌, Bool, Some}
use Rattle.atomic_table.specs.Table.{rest}
use Rattle.tj_body.specs.Points.{IsIn}
use Rattle.tj_body.specs.Programs.{Program}
use Rattle.tj_record.specs.declared.record.Rec.{Rec}
use Rattle.tj_words.specs.declared.view.About.{About}
use Rattle.tj_words.specs.declared.view.Custody.{Custody}
use Rattle.tj_words.specs.declared.view.View.{View}
use Rattle.tj_words.specs.Words.Lists.{All, numbers}
use Rattle.tj_words.specs.LawParts.NamedCells.{record_cells}
use Rattle.tj_words.specs.SeatViews.KnownEntries.{ToldBy}
use Rattle.tj_words.specs.SeatViews.SeatSteps.{SeatMe}

module _ {B : Type 0} where
  -- the record tells a point of the program of this root and rule, by what the view knows
  abbrev pub TellsPoint : (Bool → B → Program B) → View B → Rec B → Type 0
  TellsPoint program v r = (a : About B) × (v.about ≡ Some a)
      × ToldBy (program a.strict a.root) v.born v.filled r

  -- the record lies in the slot of task t, which the seat took last: it is that of the task, has what the seat has for
  -- the task, names known cells, and tells a point
  pub record PutsHome (program : Bool → B → Program B) (t : ℕ) (k : Custody B) (r : Rec B) (me : SeatMe B) :
      Type 0 where
    pub slot : me.1 ≡ (t, Some r) ∷ rest me.1
    pub cell : r.cell.0 ≡ t
    pub owned : numbers r.owned ≡ k.owned
    pub made : r.made ≡ k.made
    pub knows : All (λ c. IsIn c me.0.known) (record_cells r)
    pub told : TellsPoint program me.0 r
