-- What the words of a cell were when the table was closed: by the last loads in a log that its last seat has taken in.
use Rattle.std.proofs.Common.{◌≡◌, ◌≢◌, ◌<◌, ℕ, zero, suc, Bool, List, [], ◌∷◌, Option, Some, None, length, map, sym}
use Rattle.std.proofs.Common.{◌∙◌, ap, arith, get_or, refl, subst}
use Rattle.std.proofs.lemmas.List.{length-map}
use mathlib.Core.Option as maybe
use lib.ListN.{get_elem?}
use Rattle.tj_body.specs.Points.{IsIn}
use Rattle.tj_body.specs.Programs.{Program}
use Rattle.tj_body.specs.declared.point.Reference.{Reference}
use Rattle.tj_cells.specs.CallLogs.{Seat}
use Rattle.tj_cells.specs.declared.seen.Seen.{Seen}
use Rattle.tj_words.proofs.Meaning.RestingCells as cell
use Rattle.tj_words.proofs.Meaning.RestingMeaning.{are_slots}
use Rattle.tj_words.specs.AtRest.ClosedCells.{AreNamed}
use Rattle.tj_words.specs.AtRest.EndedRuns.{EndsRun}
use Rattle.tj_words.specs.AtRest.RestingSeats.{MayRest}
use Rattle.tj_words.specs.AtRest.ShownCells.{AreCellsOf, cell_of}
use Rattle.tj_words.specs.CallLaws.RestedRuns.{Ruled, last_moment}
use Rattle.tj_words.specs.Law.{Rule}
use Rattle.tj_words.specs.LawParts.Contents.{Contents, bits_in, contents_of, home_of, tag_in}
use Rattle.tj_words.specs.LawParts.Holding.{record_in}
use Rattle.tj_words.specs.declared.closed.RestCell.{RestCell}
use Rattle.tj_words.specs.declared.offsets.Once.TheVariants as once
use Rattle.tj_record.specs.declared.record.Rec.{Rec}
use Rattle.tj_future.specs.declared.watched.Watched.TheVariants as watched
use Rattle.tj_future.proofs.EndedLoads.{EndsWithEntry, EndsWithLook, entry_stands, rest_stands}
use Rattle.tj_future.proofs.RootRecords.{root_inside, root_no_promise}

module _ {B : Type 0} where
  -- the slots, with what lies at home
  abbrev pub slot_of : maybe.Option (Option (Rec B)) → Option (Rec B)
  slot_of maybe.none = None
  slot_of (maybe.some r) = r

  pub slot_left : (homes : List (maybe.Option (Option (Rec B)))) (k : ℕ) (y : Option (Rec B))
      → get_elem? homes k ≡ maybe.some (maybe.some y) → get_elem? (map slot_of homes) k ≡ maybe.some y
  slot_left [] k y e = absurd (cc)
  slot_left (h ∷ homes) zero y e = grind arith
  slot_left (h ∷ homes) (suc k) y e = slot_left homes k y e

  -- the record in the first slot lies at home
  first_home : (homes : List (maybe.Option (Option (Rec B)))) (y : Rec B) → get_or (map slot_of homes) 0 None ≡ Some y
      → get_elem? homes 0 ≡ maybe.some (maybe.some (Some y))
  first_home [] y e = absurd (cc)
  first_home (maybe.none ∷ homes) y e = absurd (cc)
  first_home (maybe.some r ∷ homes) y e = ap (λ z. maybe.some (maybe.some z)) e

module _ {B : Type 0} {program : Bool → B → Program B} {limit : ℕ} {strict : Bool} {root : B} {seat : Seat B}
    {cells : List RestCell} {records : List (Option (Rec B))}
    (ends : EndsRun program limit strict root seat cells records) (may : MayRest seat.me.0) where
  abbrev pub final : Ruled program ends.key
  final = last_moment program ends.key ends.run.first ends.run.later

  pub rule : Rule program ends.key ends.last
  rule = subst (Rule program ends.key) ends.run.end final.rule

  abbrev pub x : Contents B
  x = contents_of ends.last

  pub are : AreCellsOf ends.last.words ends.key.cells cells
  are = subst (λ n. AreCellsOf ends.last.words n cells) (sym ends.key_cells) ends.shown

  pub named : AreNamed cells rule.law.born
  named = cell.named rule seat.id ends.seat_is may are

  pub long : length ends.last.homes ≡ length (map slot_of ends.last.homes)
  long = sym (length-map ends.last.homes slot_of)

  -- a cell whose TAG isn't 0 is shown
  pub tagged : (c : ℕ) → tag_in x c ≢ 0 → c < length cells
  tagged c some = subst (λ n. c < n) (sym are.all) (rule.law.once_words.valued c once.Tag (λ h. h) some).0.0

  -- the root's record lies at home, and is the first of the closed ones
  pub root_home : (y : Rec B) × (home_of x 0 ≡ Some y) × (get_elem? records 0 ≡ maybe.some (Some y))
  root_home = by (get_or (map slot_of ends.last.homes) 0 None) refl
    where
      shown : get_elem? cells 0 ≡ maybe.some (cell_of ends.last.words 0)
      shown = are.each 0 (root_inside cells rule.law.born named)

      by : (o : Option (Rec B)) → get_or (map slot_of ends.last.homes) 0 None ≡ o
          → (y : Rec B) × (home_of x 0 ≡ Some y) × (get_elem? records 0 ≡ maybe.some (Some y))
      by None e =
          let slots = are_slots rule seat.id ends.seat_is may are (map slot_of ends.last.homes) long
          (slot_left ends.last.homes) in
          absurd (root_no_promise cells rule.law.born named
          (cell_of ends.last.words 0, shown, (slots.promises 0 (cell_of ends.last.words 0) shown).0 e))
      by (Some y) e = let lies = first_home ends.last.homes y e in
          (y, ap record_in lies, ends.home 0 (Some y) lies)

  module _ (p : ℕ) (given : Seat B) (taken : IsIn given.log seat.took) where
    -- TAG and BITS are those that were loaded last
    pub loaded : (s : Seen) (h : EndsWithEntry p s given.log) → (tag_in x p ≡ h.tag) × (bits_in x p ≡ h.bits)
    loaded s h =
        let log = ends.run.taken seat.id given.log (subst (IsIn given.log) ends.took taken) in
        let e = entry_stands program ends.key log.0 p ends.run.first ends.run.later ends.run.moments given.log log.1
        s h in (
          ap (λ z. tag_in (contents_of z) p) (sym ends.run.end) ∙ e.0,
          ap (λ z. bits_in (contents_of z) p) (sym ends.run.end) ∙ e.1,
        )

    -- where LIVE was loaded as 0, and then TAG, TAG is 0
    pub loaded_rest : EndsWithLook p watched.Rested given.log → tag_in x p ≡ 0
    loaded_rest h =
        let log = ends.run.taken seat.id given.log (subst (IsIn given.log) ends.took taken) in
        ap (λ z. tag_in (contents_of z) p) (sym ends.run.end) ∙ rest_stands program ends.key log.0 p ends.run.first
        ends.run.later ends.run.moments given.log log.1 h
