-- What a watch was answered is what the closed words say of the cell, and of the root its record: by the last loads in
-- its log.
use Rattle.std.proofs.Common.{◌≡◌, ◌≢◌, ◌<◌, ◌≤◌, ℕ, Bool, List, Option, Some, None, length, map, refl, sym, ap}
use Rattle.std.proofs.Common.{◌∙◌, arith, subst}
use mathlib.Core.Option as maybe
use lib.ListN.{get_elem?}
use Rattle.tj_body.specs.Laws.{IsLast, RestsAtMeaning}
use Rattle.tj_body.specs.Points.{IsIn}
use Rattle.tj_body.specs.Programs.{Program}
use Rattle.tj_body.specs.declared.point.Entry.{Entry}
use Rattle.tj_body.specs.declared.point.Entry.TheVariants as entry
use Rattle.tj_body.specs.declared.point.Reference.{Reference}
use Rattle.tj_body.specs.declared.point.Value.{Value}
use Rattle.tj_cells.specs.CallLogs.{Seat}
use Rattle.tj_cells.specs.SeenValues.{seen_in}
use Rattle.tj_cells.specs.declared.seen.Seen.{Seen}
use Rattle.tj_cells.specs.declared.seen.Seen.TheVariants as seen
use Rattle.tj_words.proofs.Cells.CellNames.{AreApartByName, born_apart}
use Rattle.tj_words.proofs.Meaning.ClosedValues.{values_meant}
use Rattle.tj_words.proofs.Meaning.RestingCells as cell
use Rattle.tj_words.proofs.SeatLoads.KnowLoads.{at_index}
use Rattle.tj_words.proofs.Stores.SeatLists.{inside}
use Rattle.tj_words.specs.AtRest.EndedRuns.{EndsRun}
use Rattle.tj_words.specs.AtRest.RestValues.{AreValuesOfMeaning, IsValueOf, value_shown}
use Rattle.tj_words.specs.AtRest.RestingSeats.{MayRest}
use Rattle.tj_words.specs.AtRest.ShownCells.{cell_of}
use Rattle.tj_words.specs.CallLaws.RestedRuns.{Ruled}
use Rattle.tj_words.specs.Law.{IsRooted}
use Rattle.tj_words.specs.LawParts.Contents.{bits_in, tag_in}
use Rattle.tj_words.specs.LawParts.Telling.{FillSays}
use Rattle.tj_words.specs.Words.Values.{fill_in, tag_word}
use Rattle.tj_words.specs.declared.closed.RestCell.{RestCell}
use Rattle.tj_record.specs.declared.record.Fill.{Fill}
use Rattle.tj_record.specs.declared.record.Rec.{Rec}
use Rattle.tj_words.specs.declared.view.View.{View}
use Rattle.tj_runs.proofs.EndedRecords.{records_say_results}
use Rattle.tj_runs.specs.AlikeSeats.{ResultSays}
use Rattle.tj_run.specs.declared.why.Why.{Why}
use Rattle.tj_future.specs.CellWatches.{IsCellWatched}
use Rattle.tj_future.specs.RootWatches.{IsRootWatched, watched_of}
use Rattle.tj_future.specs.WatchedRuns.{IsWatch}
use Rattle.tj_future.specs.declared.watched.Watched.{Watched}
use Rattle.tj_future.specs.declared.watched.Watched.TheVariants as watched
use Rattle.tj_future.proofs.EndedCells as ended
use Rattle.tj_future.proofs.EndedLoads.{EndsWithEntry, EndsWithLook, looks_end}
use Rattle.tj_future.proofs.LookAnswers.{broken_told, rest_told, value_told}

-- what was seen tells what the words stand for
seen_value : (f : Fill) (o : Option Fill) → seen_in (Some f) ≡ seen_in o → o ≡ Some f
seen_value f o e = grind arith

seen_broken : (o : Option Fill) → seen.Broken ≡ seen_in o → o ≡ None
seen_broken o e = grind arith

-- and what TAG is
tag_of_fill : (tag bits : ℕ) (f : Fill) → fill_in tag bits ≡ Some f → tag ≡ tag_word (Some f)
tag_of_fill tag bits f e = grind arith

tag_of_broken : (tag bits : ℕ) → tag ≢ 0 → tag ≤ 4 → fill_in tag bits ≡ None → tag ≡ 4
tag_of_broken tag bits some small e = grind arith

module _ (born : List Reference) (apart : AreApartByName born) where
  -- one value stands for what a name has
  one_fill : (v : Value) (x y : Fill) → FillSays born x v → FillSays born y v → x ≡ y
  one_fill v x y h k = grind (arith, apart)

  one_value : (o : Option Entry) (x y : Option Fill) → IsValueOf born x o → IsValueOf born y o → x ≡ y
  one_value None x y h k = h ∙ sym k
  one_value (Some entry.Broken) x y h k = h ∙ sym k
  one_value (Some (entry.Value v)) x y h k = h.1 ∙ (ap Some (one_fill v h.0 k.0 h.2 k.2) ∙ sym k.1)

module _ {B : Type 0} {program : Bool → B → Program B} {limit : ℕ} {strict : Bool} {root : B} {seat : Seat B}
    {cells : List RestCell} {records : List (Option (Rec B))}
    (ends : EndsRun program limit strict root seat cells records) (may : MayRest seat.me.0) where
  module _ (rests : (strict : Bool) (root : B) → IsRooted (program strict root) → RestsAtMeaning (program strict root))
      (last : (strict : Bool) (root : B) → IsRooted (program strict root) → IsLast (program strict root))
      (words : List ℕ) (values : AreValuesOfMeaning (program strict root) limit cells words) where
    -- the values that were closed are those of the table's own program
    own_values : AreValuesOfMeaning (program ends.key.strict ends.key.root.value) ends.key.cells cells words
    own_values = subst (λ n. AreValuesOfMeaning (program ends.key.strict ends.key.root.value) n cells words)
        (sym ends.key_cells)
        (subst (λ b. AreValuesOfMeaning (program b ends.key.root.value) limit cells words) (sym ends.key_strict)
        (subst (λ r. AreValuesOfMeaning (program strict r) limit cells words) (sym ends.key_root) values))

    -- so closed words have the values that stood last
    same_value : (c : ℕ) → c < length cells → value_shown words c ≡ value_shown ends.last.words c
    same_value c l =
        let r = ended.rule ends may in let named = ended.named ends may in let all = named.all in
        let z = at_index r.law.born c (omega arith) in
        let meant = values_meant r seat.id ends.seat_is may (ended.are ends may) (map ended.slot_of ends.last.homes)
        (ended.long ends may) (ended.slot_left ends.last.homes)
        (rests ends.key.strict ends.key.root.value r.rooted) (last ends.key.strict ends.key.root.value r.rooted) in
        one_value r.law.born (born_apart r.law) _ (value_shown words c) (value_shown ends.last.words c)
        (own_values r.law.born named c z.0 z.1) (meant r.law.born named c z.0 z.1)

    module _ (p : ℕ) (given : Seat B) (taken : IsIn given.log seat.took) where
      -- so they stand for what was seen
      module _ (s : Seen) (h : EndsWithEntry p s given.log) where
        some : tag_in (ended.x ends may) p ≢ 0
        some z = h.some (sym (ended.loaded ends may p given taken s h).0 ∙ z)

        there : get_elem? cells p ≡ maybe.some (cell_of ends.last.words p)
        there = (ended.are ends may).each p (ended.tagged ends may p some)

        shown : value_shown words p ≡ fill_in h.tag h.bits
        shown = let e = ended.loaded ends may p given taken s h in
            same_value p (ended.tagged ends may p some)
            ∙ (ap (λ t. fill_in t (bits_in (ended.x ends may) p)) e.0 ∙ ap (fill_in h.tag) e.1)

      told : (answer : Watched) → EndsWithLook p answer given.log → ((why : Why) → answer ≢ watched.Stopped why)
          → IsCellWatched cells words p answer
      told (watched.Value f) h on = let s = seen_in (Some f) in
          (cell_of ends.last.words p, there s h, shown s h ∙ seen_value f _ h.says)
      told watched.Broken h on = let s = seen.Broken in
          (cell_of ends.last.words p, there s h, some s h, shown s h ∙ seen_broken _ h.says)
      told watched.Rested h on = λ x is.
          let zero = ended.loaded_rest ends may p given taken h in (
            ap (λ (z : RestCell). z.tag)
                (cell.shown_is (ended.rule ends may) seat.id ends.seat_is may (ended.are ends may) p x is) ∙ zero,
            same_value p (inside cells p x is)
                ∙ ap (λ t. fill_in t (bits_in (ended.x ends may) p)) zero,
          )
      told (watched.Stopped why) h on = absurd (on why refl)

      -- the watch's answer is what the closed words say
      pub answer_closed : (answer : Watched) (v : View B) → IsWatch program limit p answer v given
          → ((why : Why) → answer ≢ watched.Stopped why) → IsCellWatched cells words p answer
      answer_closed answer v h on = told answer (looks_end p answer h.begun given h.looks) on

  -- of the root: what its record says
  module _ (given : Seat B) (taken : IsIn given.log seat.took) where
    abbrev at_end : Ruled program ends.key
    at_end = record { now = ends.last; rule = ended.rule ends may }

    abbrev the : Rec B
    the = (ended.root_home ends may).0

    says : ResultSays (tag_in (ended.x ends may) 0) (bits_in (ended.x ends may) 0) the.finish
    says = records_say_results B program ends.key at_end seat.id seat.me.0 ends.seat_is may 0 the
        (ended.root_home ends may).1

    root_told : (answer : Watched) → EndsWithLook 0 answer given.log → ((why : Why) → answer ≢ watched.Stopped why)
        → answer ≡ watched_of the.finish
    root_told (watched.Value f) h on =
        let e = ended.loaded ends may 0 given taken (seen_in (Some f)) h in
        let is = seen_value f _ h.says in
        value_told (tag_in (ended.x ends may) 0) (bits_in (ended.x ends may) 0) f the.finish
        (e.0 ∙ tag_of_fill h.tag h.bits f is)
        (ap (λ t. fill_in t (bits_in (ended.x ends may) 0)) e.0 ∙ (ap (fill_in h.tag) e.1 ∙ is)) says
    root_told watched.Broken h on =
        let e = ended.loaded ends may 0 given taken seen.Broken h in
        broken_told (tag_in (ended.x ends may) 0) (bits_in (ended.x ends may) 0) the.finish
        (e.0 ∙ tag_of_broken h.tag h.bits h.some h.small (seen_broken _ h.says)) says
    root_told watched.Rested h on =
        rest_told (tag_in (ended.x ends may) 0) (bits_in (ended.x ends may) 0) the.finish
        (ended.loaded_rest ends may 0 given taken h) says
    root_told (watched.Stopped why) h on = absurd (on why refl)

    -- the answer of the root's watch is what its record says
    pub root_closed : (answer : Watched) (v : View B) → IsWatch program limit 0 answer v given
        → ((why : Why) → answer ≢ watched.Stopped why) → IsRootWatched records answer
    root_closed answer v h on =
        (the, (ended.root_home ends may).2, root_told answer (looks_end 0 answer h.begun given h.looks) on)
