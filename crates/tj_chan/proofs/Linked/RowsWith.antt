-- Rows of which one is changed: those of other channels are as they were.
use Rattle.std.proofs.Common.{◌≡◌, ℕ, ◌+◌, ◌<◌, Bool, true, false, nat_eq, List, length, Some, refl, sym, ap}
use Rattle.std.proofs.Common.{◌∙◌, subst, eqb-true}
use Rattle.std.proofs.lemmas.Bool.{eqb-false}
use Rattle.std.proofs.lemmas.Option.{same_Some, slice_get_within, get_or_from_slice_get}
use Rattle.std.specs.Prelude.{slice_get}
use Rattle.tj_base.specs.ForkOrder.{Name}
use Rattle.tj_body.specs.History.{to_promise, to_task, reference_at}
use Rattle.tj_body.specs.Points.{IsIn}
use Rattle.tj_body.specs.declared.point.Reference.{Reference}
use Rattle.tj_chan.specs.Channels.{Channel, SendingEnd, is_same, item, end_of, times}
use Rattle.tj_chan.specs.ChanBodies.{with_row}
use Rattle.tj_chan.specs.Inner.RowLaws.{get_written, get_other, length-written}
use Rattle.tj_chan.specs.declared.rows.PromiseRow.{PromiseRow}
use Rattle.tj_chan.proofs.Lists.Runs.{AreOneOrApart}
use Rattle.tj_chan.proofs.Linked.Links.{channel_place, sent_by, is_held, IsRowOf, AreRowsOf}
use Rattle.tj_chan.proofs.Lists.Apart.{one_of_same}
use Rattle.tj_chan.proofs.Linked.Rows.{IsFirstRow, place_found}
use Rattle.tj_chan.proofs.Lists.Kept.{got_there}

module _ (cs : List Channel) (received : List Channel) (references : List Reference)
    (one : (c d : Channel) → IsIn c cs → IsIn d cs → AreOneOrApart c d) (es : List SendingEnd)
    (rows : List PromiseRow) (are : AreRowsOf cs es received references rows) where
  -- the reference to an item
  pub item_reference : (x : Name) (c : Channel) (r : PromiseRow) → IsFirstRow cs es received references rows c r
      → (i : ℕ) → i < c.items → reference_at x references (r.base + i) ≡ to_promise (item c i)
  item_reference x c r f i l =
      get_or_from_slice_get references (r.base + i) (to_promise (item c i)) (to_task x) (f.is_row.base i l)

  -- with one row changed, where the others' ends and receives are as they were
  pub rows_with : (c : Channel) → IsIn c cs → (r s : PromiseRow) → IsFirstRow cs es received references rows c r
      → s.first ≡ r.first → (ends : List SendingEnd) (asked : List Channel)
      → ((d : Channel) → is_same c d ≡ false → end_of d ends ≡ end_of d es)
      → ((d : Channel) → is_same c d ≡ false → times d asked ≡ times d received)
      → ((d : Channel) → IsIn d asked → IsIn d cs)
      → IsRowOf cs ends asked references s.first c s → AreRowsOf cs ends asked references (with_row rows s)
  rows_with c i r s x e ends asked other_ends other_asked known new = record {
    count = length-written rows s.first s ∙ are.count;
    known = known;
    each = λ n d h. at n d h (are.each n d h) (nat_eq n s.first) refl;
  } where
    there : s.first < length rows
    there = subst (λ n. n < length rows) (sym e) (slice_get_within rows r.first r x.there)

    here : slice_get cs r.first ≡ Some c
    here = ap (slice_get cs) x.first ∙ place_found cs c i (λ d j. one c d i j)

    at : (n : ℕ) (d : Channel) → slice_get cs n ≡ Some d
        → ((q : PromiseRow) × (slice_get rows n ≡ Some q) × IsRowOf cs es received references n d q)
        → (b : Bool) → nat_eq n s.first ≡ b
        → (q : PromiseRow) × (slice_get (with_row rows s) n ≡ Some q) × IsRowOf cs ends asked references n d q
    at n d h q true f =
        let z : n ≡ s.first = eqb-true n s.first f in
        let w : c ≡ d = same_Some c d (sym here ∙ ap (slice_get cs) (sym (z ∙ e)) ∙ h) in (
          s,
          ap (slice_get (with_row rows s)) z ∙ get_written rows s.first s there,
          subst (λ k. IsRowOf cs ends asked references k d s) (sym z)
              (subst (λ k. IsRowOf cs ends asked references s.first k s) w new),
        )
    at n d h q false f = (
      q.0,
      get_other rows s.first n s apart ∙ q.1,
      record {
        first = q.2.first;
        items = q.2.items;
        base = q.2.base;
        held = λ g. q.2.held g ∙ ap is_held (sym (other_ends d (told_apart g)));
        sent = λ g h. q.2.sent g h ∙ ap sent_by (sym (other_ends d (told_apart g)));
        asked = λ g. q.2.asked g ∙ sym (other_asked d (told_apart g));
      },
    ) where
      apart : ¬ (n ≡ s.first)
      apart = eqb-false n s.first f

      told_apart : n ≡ (q.0).first → is_same c d ≡ false
      told_apart g = by (is_same c d) refl where
        by : (b : Bool) → is_same c d ≡ b → b ≡ false
        by false z = refl
        by true z =
            let w : c ≡ d = one_of_same c d (one c d i (got_there cs n d h)) z in
            absurd (apart (g ∙ q.2.first ∙ ap (λ k. channel_place k cs) (sym w) ∙ sym x.first ∙ sym e))
