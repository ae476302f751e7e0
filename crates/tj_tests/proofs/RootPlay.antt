-- The root of a table makes a promise and fills it, makes another one and breaks it: what each call asks.
use Rattle.tj_park.proofs.Prelude.{Begins, Claimed, Custody, IfSome, IsMade, MayFill, MayGiveUp, Option, Rec, SeatMe}
use Rattle.tj_park.proofs.Prelude.{Some, View, WillBecome, [], ap, became, begins_at, child, custody_of, gave_up}
use Rattle.tj_park.proofs.Prelude.{makes_promise, pos, refl, suc, to_promise, true, ℕ, ◌≡◌, ◌≢◌}
use Rattle.tj_park.proofs.TestRoots.{RootRuns, claimed_first, closed_root, first_named, first_set, its, made_is}
use Rattle.tj_park.proofs.TestRoots.{made_owned, made_root, may_close_promise, may_fill_number, may_make, not_root}
use Rattle.tj_park.proofs.TestRoots.{second_broken, second_named, three_promises, value_root, will_become, with_rows}
use Rattle.tj_body.specs.Table.{body_at, lists_of}
use Rattle.tj_body.specs.declared.table.TableBody.{TableBody}
use Rattle.tj_cells.specs.declared.seen.Seen.{Seen}
use Rattle.tj_cells.specs.MadeCells.{MayMake}
use Rattle.tj_cells.specs.SeenValues.{SeesValue}
use Rattle.tj_words.specs.LawParts.FirstState.{first_view}
use Rattle.tj_words.specs.SeatViews.SeenWords.{FindsNothing}
use Rattle.tj_base.specs.declared.cell.Sort.TheVariants as sort
use Rattle.tj_body.specs.declared.point.Entry.TheVariants as entry
use Rattle.tj_body.specs.declared.point.Value.TheVariants as value
use Rattle.tj_cells.specs.declared.seen.Seen.TheVariants as seen
use Rattle.tj_record.specs.declared.record.Fill.TheVariants as fill

-- what a read of a cell's value found
abbrev pub IsRead : ℕ → ℕ → Seen → View TableBody → View TableBody → Type 0
IsRead limit p s v w = (s ≡ seen.NotYet → FindsNothing p v w) × (s ≢ seen.NotYet → SeesValue its limit p s v w)

module _ (cells : ℕ) (b : TableBody) (m : SeatMe TableBody) (o : Option (Rec TableBody)) (r : Rec TableBody)
    (v : View TableBody) (is : lists_of b ≡ three_promises) (first : b ≡ body_at b 0 1)
    (new : m ≡ (first_view cells b true, [])) (some_is : o ≡ Some r)
    (claims : IfSome o (λ x. Claimed its 0 x m.0 v)) (none : r.made ≡ 0) where
  abbrev root : TableBody
  root = with_rows three_promises b

  abbrev k : Custody TableBody
  k = custody_of r

  runs : RootRuns cells root k v
  runs = claimed_first cells b three_promises m o r v is first new some_is claims

  pub makes_first : MayMake its 0 1 v
  makes_first = may_make cells root k v runs 0 1 none refl (first_named b)

  module _ {limit p : ℕ} {v2 : View TableBody} (made : IsMade sort.Promise limit 0 p v v2)
      {s : Seen} {v3 : View TableBody} (read : IsRead limit p s v2 v3) where
    has_first : RootRuns cells root (makes_promise p k) v2
    has_first = made_root cells root k v runs p v2 made

    has_read : RootRuns cells root (makes_promise p k) v3 × Begins v2.born v3.born
    has_read = value_root cells root (makes_promise p k) v2 has_first p s v3 read.0 read.1

    apart : p ≢ 0
    apart = not_root cells root k v runs p v2 made

    pub owns_first : MayGiveUp 0 p v3
    owns_first = may_close_promise cells root (makes_promise p k) v3 has_read.0 p
        (made_owned cells root k v runs p v2 made) apart

    pub fills_first : MayFill its p (fill.Num (pos 5)) v3
    fills_first = may_fill_number cells root (makes_promise p k) v3 has_read.0 p (child [] 1) (pos 5)
        (begins_at v2.born v3.born has_read.1 p (to_promise (child [] 1))
        (made_is cells root k v runs p v2 made 0 none)) (first_set b)

    module _ {v4 : View TableBody} (filled : v4 ≡ became 0 p (entry.Value (value.Num (pos 5))) v3)
        {s5 : Seen} {v5 : View TableBody} (read5 : IsRead limit p s5 v4 v5) where
      abbrev k4 : Custody TableBody
      k4 = gave_up p (makes_promise p k)

      has_filled : RootRuns cells root k4 v4
      has_filled = closed_root cells root (makes_promise p k) v3 has_read.0 p (entry.Value (value.Num (pos 5))) apart v4
          filled

      reads_on : RootRuns cells root k4 v5
      reads_on = (value_root cells root k4 v4 has_filled p s5 v5 read5.0 read5.1).0

      pub makes_second : MayMake its 0 2 v5
      makes_second = may_make cells root k4 v5 reads_on 1 2 (ap (λ (n : ℕ). suc n) none) refl (second_named b)

      module _ {q : ℕ} {v6 : View TableBody} (second : IsMade sort.Promise limit 0 q v5 v6) where
        abbrev k6 : Custody TableBody
        k6 = makes_promise q k4

        has_second : RootRuns cells root k6 v6
        has_second = made_root cells root k4 v5 reads_on q v6 second

        pub owns_second : MayGiveUp 0 q v6
        owns_second = may_close_promise cells root k6 v6 has_second q (made_owned cells root k4 v5 reads_on q v6 second)
            (not_root cells root k4 v5 reads_on q v6 second)

        pub breaks_second : WillBecome its q entry.Broken v6
        breaks_second = will_become cells root k6 v6 has_second q (child [] 2) entry.Broken
            (made_is cells root k4 v5 reads_on q v6 second 1 (ap (λ (n : ℕ). suc n) none)) (second_broken b)
