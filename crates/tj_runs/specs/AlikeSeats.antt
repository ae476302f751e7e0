-- That seats number cells alike. The names and the values that a seat has are the table's own, and stay so: so where
-- one seat has taken another in, or the table is at rest, both speak of the same cells. And at rest the record of a
-- task says what the words of its result say.
use Rattle.std.specs.Prelude.{◌≡◌, ◌↔◌, ℕ, Bool, List, Option, Some, None}
use mathlib.Core.Option.{some}
use lib.ListN.{get_elem?}
use Rattle.tj_body.specs.Programs.{Program}
use Rattle.tj_body.specs.declared.point.Reference.{Reference}
use Rattle.tj_record.specs.declared.record.Fill.{Fill}
use Rattle.tj_record.specs.declared.record.Finish.{Finish}
use Rattle.tj_record.specs.declared.record.Finish.TheVariants as finish
use Rattle.tj_record.specs.declared.record.Rec.{Rec}
use Rattle.tj_words.specs.declared.table.Key.{Key}
use Rattle.tj_words.specs.declared.view.Filled.{Filled}
use Rattle.tj_words.specs.declared.view.View.{View}
use Rattle.tj_words.specs.AtRest.RestingSeats.{MayRest}
use Rattle.tj_words.specs.CallLaws.CallRuns.{AreAskedMoments, IsIdleMerge}
use Rattle.tj_words.specs.CallLaws.RestedRuns.{Ruled, last_moment}
use Rattle.tj_words.specs.Law.{Law}
use Rattle.tj_words.specs.LawParts.Contents.{Contents, bits_in, contents_of, home_of, tag_in}
use Rattle.tj_words.specs.LawParts.Telling.{BitsSay, tag_of}
use Rattle.tj_words.specs.LawParts.TreeWords.{IsCell}
use Rattle.tj_words.specs.Words.Lists.{All}
use Rattle.tj_words.specs.Words.Values.{fill_in, tag_word}

module _ {B : Type 0} {program : Program B} {cells : ℕ} {x : Contents B} (law : Law program cells x) where
  -- what a seat with this view has is the table's own: each cell that it names has that name, and TAG and BITS of each
  -- cell of which it knows what has become say that
  pub record IsTheTables (v : View B) : Type 0 where
    pub names : (c : ℕ) (r : Reference) → IsCell v.born c r
        → (s : Reference) × IsCell law.born c s × (s.name ≡ r.name)
    pub values : All (λ (f : Filled). (tag_in x f.cell ≡ tag_of f.entry)
        × BitsSay law.born f.entry (bits_in x f.cell)) v.filled

-- what becomes of the result of a task that ended like this: its value, or nothing where it failed
abbrev pub fill_of : Finish → Option Fill
fill_of (finish.Done f) = Some f
fill_of (finish.Failed h) = None

-- TAG and BITS of the result of a task say what its record does: that nothing has become of it, or how it ended
abbrev pub ResultSays : ℕ → ℕ → Option Finish → Type 0
ResultSays tag bits None = tag ≡ 0
ResultSays tag bits (Some f) = (tag ≡ tag_word (fill_of f)) × (fill_in tag bits ≡ fill_of f)

module _ (B : Type 0) where
  -- what a seat has at one moment of a run is the table's own at each later one
  abbrev pub SeatsKnowForGood : Type 0
  SeatsKnowForGood = (program : Bool → B → Program B) (key : Key B) (u : Ruled program key)
      (later : List (Ruled program key)) → AreAskedMoments program key u later → (id : ℕ) (v : View B)
      → get_elem? u.now.views id ≡ some v → IsTheTables (last_moment program key u later).rule.law v

  -- so two seats, the one at some moment and the other at that moment or a later one, number cells alike: they have one
  -- name for one number
  abbrev pub SeatsNumberAlike : Type 0
  SeatsNumberAlike = (program : Bool → B → Program B) (key : Key B) (u : Ruled program key)
      (later : List (Ruled program key)) → AreAskedMoments program key u later → (id other : ℕ) (v w : View B)
      → get_elem? u.now.views id ≡ some v
      → get_elem? (last_moment program key u later).now.views other ≡ some w
      → (c d : ℕ) (r s : Reference) → IsCell v.born c r → IsCell w.born d s → (c ≡ d) ↔ (r.name ≡ s.name)

  -- once a seat has taken another in, what either of them had is the table's own
  abbrev pub MergedSeatsAgree : Type 0
  MergedSeatsAgree = (program : Bool → B → Program B) (key : Key B) (u w : Ruled program key)
      (m : IsIdleMerge u.now w.now) → IsTheTables w.rule.law m.merge.view × IsTheTables w.rule.law m.merge.taken

  -- where a seat may close the table, TAG and BITS of a task's result say what its record does
  abbrev pub RecordsSayResults : Type 0
  RecordsSayResults = (program : Bool → B → Program B) (key : Key B) (u : Ruled program key) (id : ℕ) (v : View B)
      → get_elem? u.now.views id ≡ some v → MayRest v → (t : ℕ) (r : Rec B)
      → home_of (contents_of u.now) t ≡ Some r
      → ResultSays (tag_in (contents_of u.now) t) (bits_in (contents_of u.now) t) r.finish
