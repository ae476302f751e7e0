-- A spawn, by rows and by channels: which ends can be given, the rows that are kept, the promises that are passed and
-- handed, and the child's rows.
use Rattle.std.proofs.Common.{◌≡◌, ℕ, zero, suc, ◌+◌, Bool, true, false, cond, nat_eq, ◌&&◌, ◌||◌}
use Rattle.std.proofs.Common.{inl, inr, ⊎_elim, List, [], ◌∷◌, ◌++◌, map, length, drop, Option, Some, None, refl}
use Rattle.std.proofs.Common.{sym, ap, ◌∙◌, subst, eqb-true, eq-eqb}
use Rattle.std.proofs.lemmas.List.{map-append}
use Rattle.std.specs.Prelude.{slice_get, slice_set}
use Rattle.std.specs.List.{flat_map}
use Rattle.tj_base.specs.ForkOrder.{Name}
use Rattle.tj_body.specs.History.{to_promise, reference_at}
use Rattle.tj_body.specs.Points.{IsIn}
use Rattle.tj_body.specs.declared.point.Reference.{Reference}
use Rattle.tj_chan.specs.Channels.{Channel, SendingEnd, Parting, parted, items_of, is_same, end_of, without_end}
use Rattle.tj_chan.specs.Channels.{channels_at, part_with, given_both, unsent, all_unsent}
use Rattle.tj_chan.specs.ChanBodies as bodies
use Rattle.tj_chan.specs.ChanBodies.{row_at, first_place, places_from, all_places, unset_places, without_ends, has_end}
use Rattle.tj_chan.specs.ChanBodies.{can_give, position, passed_row, is_given, first_at, passed_rows}
use Rattle.tj_chan.specs.declared.rows.PromiseRow.{PromiseRow}
use Rattle.tj_chan.proofs.Lists.Runs.{AreOneOrApart, AreEndsOnce}
use Rattle.tj_chan.proofs.Linked.Links.{references_of, channel_place, sent_by, is_held, begin_row, begin_rows, IsRowOf}
use Rattle.tj_chan.proofs.Linked.Links.{AreRowsOf}
use Rattle.tj_chan.proofs.Lists.Apart.{not_true, true_false, one_of_same, end_there}
use Rattle.tj_chan.proofs.Lists.Apart.{left_there, once_left}
use Rattle.tj_chan.proofs.Lists.Kept.{got_there, in_last}
use Rattle.tj_chan.proofs.Linked.Rows.{is_some, place_found, place_same, IsFirstRow, row_found, found_split, all_are}
use Rattle.tj_chan.proofs.Linked.Rows.{unset_are, end_only, end_gone, end_stays}

-- A list with one place changed.
set_length : {A : Type 0} (l : List A) (k : ℕ) (x : A) → length (slice_set l k x) ≡ length l
set_length [] k x = refl
set_length (y ∷ ys) zero x = refl
set_length (y ∷ ys) (suc k) x = ap suc (set_length ys k x)

set_same : {A : Type 0} (l : List A) (k : ℕ) (x y : A) → slice_get l k ≡ Some y → slice_get (slice_set l k x) k ≡ Some x
set_same [] k x y h = cc
set_same (z ∷ zs) zero x y h = refl
set_same (z ∷ zs) (suc k) x y h = set_same zs k x y h

set_other : {A : Type 0} (l : List A) (k j : ℕ) (x : A) → ¬ (j ≡ k) → slice_get (slice_set l k x) j ≡ slice_get l j
set_other [] k j x h = refl
set_other (z ∷ zs) zero zero x h = absurd (h refl)
set_other (z ∷ zs) zero (suc j) x h = refl
set_other (z ∷ zs) (suc k) zero x h = refl
set_other (z ∷ zs) (suc k) (suc j) x h = set_other zs k j x (λ e. h (ap suc e))

-- two channels at one place are one
at_one : (cs : List Channel) (k : ℕ) (c d : Channel) → slice_get cs k ≡ Some c → slice_get cs k ≡ Some d → c ≡ d
at_one cs k c d h g = let z : Some c ≡ Some d = sym h ∙ g in cc

module _ (channels : List Channel) (received : List Channel) (references : List Reference)
    (one : (c d : Channel) → IsIn c channels → IsIn d channels → AreOneOrApart c d) where
  abbrev Are : List SendingEnd → List PromiseRow → Type 0
  Are ends rows = AreRowsOf channels ends received references rows

  -- the rows without the end of one channel
  without_row : (ends : List SendingEnd) (rows : List PromiseRow) → Are ends rows → AreEndsOnce ends → (c : Channel)
      → IsIn c channels → (r : PromiseRow) → IsFirstRow channels ends received references rows c r
      → Are (without_end c ends) (bodies.without_end rows (Some r))
  without_row ends rows are once c i r f = record {
    count = set_length rows r.first gone ∙ are.count;
    each = λ k d h. at k d h (nat_eq k r.first) refl;
    known = are.known;
  } where
    gone : PromiseRow
    gone = record r { holds = false }

    found : slice_get channels r.first ≡ Some c
    found = ap (slice_get channels) f.first ∙ place_found channels c i (λ d j. one c d i j)

    at : (k : ℕ) (d : Channel) → slice_get channels k ≡ Some d → (b : Bool) → nat_eq k r.first ≡ b
        → (s : PromiseRow) × (slice_get (slice_set rows r.first gone) k ≡ Some s)
        × IsRowOf channels (without_end c ends) received references k d s
    at k d h true e =
        let z = eqb-true k r.first e in
        let o = at_one channels k d c h (ap (slice_get channels) z ∙ found) in (
          gone,
          ap (slice_get (slice_set rows r.first gone)) z ∙ set_same rows r.first gone r f.there,
          subst (λ x. IsRowOf channels (without_end c ends) received references k x gone) (sym o) (record {
            first = f.is_row.first;
            items = f.is_row.items;
            base = f.is_row.base;
            held = λ q. sym (ap is_held (end_gone c ends once));
            sent = λ q s. let w : false ≡ true = s in cc;
            asked = λ q. f.is_row.asked refl;
          }),
        )
    at k d h false e =
        let a = are.each k d h in
        let n : ¬ (k ≡ r.first) = (λ z. true_false (nat_eq k r.first) (eq-eqb k r.first z) e) in
        let other : k ≡ a.0.first → is_same c d ≡ false = (λ q. not_true (is_same c d) (λ s.
        let z = one_of_same c d (one c d i (got_there channels k d h)) s in
        n (q ∙ (a.2.first ∙ (ap (λ x. channel_place x channels) (sym z) ∙ sym f.first))))) in (
          a.0,
          set_other rows r.first k gone n ∙ a.1,
          record {
            first = a.2.first;
            items = a.2.items;
            base = a.2.base;
            held = λ q. a.2.held q ∙ ap is_held (sym (end_stays c d ends (other q)));
            sent = λ q s. a.2.sent q s ∙ ap sent_by (sym (end_stays c d ends (other q)));
            asked = a.2.asked;
          },
        )

  -- What can be given by rows is what can be given by channels, and the rows kept are those of the ends kept.
  pub record IsGiving (give : List ℕ) (gs : List Channel) (ends : List SendingEnd) (rows : List PromiseRow)
      : Type 0 where
    pub can : can_give rows give ≡ is_some (part_with gs ends)
    pub kept : (p : Parting) → part_with gs ends ≡ Some p → Are p.kept (without_ends rows give)

  pub giving : (give : List ℕ) (gs : List Channel) (ends : List SendingEnd) (rows : List PromiseRow) → Are ends rows
      → AreEndsOnce ends → channels_at channels give ≡ Some gs → IsGiving give gs ends rows
  giving [] gs ends rows are once h = subst (λ l. IsGiving [] l ends rows) e (record {
    can = refl;
    kept = λ p g. let z : parted ends ends ≡ parted ends ends = refl in keep p g;
  }) where
    e : [] ≡ gs
    e = cc

    keep : (p : Parting) → part_with [] ends ≡ Some p → Are p.kept rows
    keep p g = let z : parted [] ends ≡ p = cc in subst (λ (x : Parting). Are x.kept rows) z are
  giving (k ∷ ks) gs ends rows are once h =
      let f = found_split channels received references one k ks gs h in
      let r = row_found channels received references one ends rows are k f.0 f.2 in
      let w = without_row ends rows are once f.0 r.here r.row r.is_first in
      let g =
      giving ks f.1 (without_end f.0 ends) (bodies.without_end rows (Some r.row)) w (once_left f.0 ends once) f.3 in
      subst (λ l. IsGiving (k ∷ ks) l ends rows) f.4 (by f.0 f.1 r.row r.at (r.is_first.is_row.held refl) g) where
        by : (c : Channel) (l : List Channel) (r : PromiseRow) → row_at rows k ≡ Some r
            → r.holds ≡ is_held (end_of c ends)
            → IsGiving ks l (without_end c ends) (bodies.without_end rows (Some r))
            → IsGiving (k ∷ ks) (c ∷ l) ends rows
        by c l r e d g = record {
          can = (λ i. has_end (e i) && can_give (bodies.without_end rows (e i)) ks)
              ∙ ((λ i. d i && g.can i) ∙ both (end_of c ends) (part_with l (without_end c ends)));
          kept = λ p o. subst (λ x. Are p.kept (without_ends (bodies.without_end rows x) ks)) (sym e)
              (keep p (end_of c ends) (part_with l (without_end c ends)) refl o);
        } where
          both : (x : Option SendingEnd) (y : Option Parting) → (is_held x && is_some y) ≡ is_some (given_both x y)
          both None y = refl
          both (Some x) None = refl
          both (Some x) (Some y) = refl

          keep : (p : Parting) (x : Option SendingEnd) (y : Option Parting) → part_with l (without_end c ends) ≡ y
              → given_both x y ≡ Some p → Are p.kept (without_ends (bodies.without_end rows (Some r)) ks)
          keep p None y u v = cc
          keep p (Some x) None u v = cc
          keep p (Some x) (Some q) u v =
              let z : parted (x ∷ q.given) q.kept ≡ p = cc in
              subst (λ (s : Parting). Are s.kept (without_ends (bodies.without_end rows (Some r)) ks)) z (g.kept q u)

  -- Of the rows as they were.
  module _ (x : Name) (ends : List SendingEnd) (rows : List PromiseRow) (are : Are ends rows) (once : AreEndsOnce ends)
      (holds : (e : SendingEnd) → IsIn e ends → IsIn e.channel channels) where
    -- all promises of channels at places
    pub all_passed : (ks : List ℕ) (ps : List Channel) → channels_at channels ks ≡ Some ps
        → map (reference_at x references) (flat_map (λ k. all_places (row_at rows k)) ks) ≡ flat_map references_of ps
    all_passed [] ps h = let e : [] ≡ ps = cc in ap (flat_map references_of) e
    all_passed (k ∷ ks) ps h =
        let f = found_split channels received references one k ks ps h in
        let r = row_found channels received references one ends rows are k f.0 f.2 in
        let a = ap (λ o. map (reference_at x references) (all_places o)) r.at
        ∙ all_are channels received references x ends r.row.first f.0 r.row r.is_first.is_row in
        let b = all_passed ks f.1 f.3 in
        map-append (reference_at x references) (all_places (row_at rows k))
        (flat_map (λ k. all_places (row_at rows k)) ks)
        ∙ ((λ i. a i ++ b i) ∙ ap (flat_map references_of) f.4)

    -- A parting of some of the ends, one end more.
    record IsNextPart (c : Channel) (gs : List Channel) (es : List SendingEnd) (p : Parting) : Type 0 where
      end : SendingEnd
      rest : Parting
      found : end_of c es ≡ Some end
      parts : part_with gs (without_end c es) ≡ Some rest
      is : parted (end ∷ rest.given) rest.kept ≡ p

    next_part : (c : Channel) (gs : List Channel) (es : List SendingEnd) (p : Parting) → part_with (c ∷ gs) es ≡ Some p
        → IsNextPart c gs es p
    next_part c gs es p h = by (end_of c es) refl (part_with gs (without_end c es)) refl h where
      by : (o : Option SendingEnd) → end_of c es ≡ o → (y : Option Parting) → part_with gs (without_end c es) ≡ y
          → given_both o y ≡ Some p → IsNextPart c gs es p
      by None e y f g = cc
      by (Some z) e None f g = cc
      by (Some z) e (Some q) f g = record { end = z; rest = q; found = e; parts = f; is = cc }

    -- an end that is found among some of the ends is found among all, and is that of the channel
    found_all : (c : Channel) → IsIn c channels → (es : List SendingEnd) → ((e : SendingEnd) → IsIn e es → IsIn e ends)
        → (e : SendingEnd) → end_of c es ≡ Some e → (end_of c ends ≡ Some e) × (c ≡ e.channel)
    found_all c i es a e h =
        let t = end_there c es e h in
        let j = a e t.0 in
        (end_only c ends e once j t.1, one_of_same c e.channel (one c e.channel i (holds e j)) t.1)

    -- the promises still to be set of the ends that are given
    pub unset_given : (ks : List ℕ) (gs : List Channel) (es : List SendingEnd)
        → ((e : SendingEnd) → IsIn e es → IsIn e ends) → channels_at channels ks ≡ Some gs → (p : Parting)
        → part_with gs es ≡ Some p
        → map (reference_at x references) (flat_map (λ k. unset_places (row_at rows k)) ks)
        ≡ map to_promise (all_unsent p.given)
    unset_given [] gs es a h p g =
        let e : [] ≡ gs = cc in
        let o : part_with [] es ≡ Some p = subst (λ l. part_with l es ≡ Some p) (sym e) g in
        let z : parted [] es ≡ p = cc in ap (λ (y : Parting). map to_promise (all_unsent y.given)) z
    unset_given (k ∷ ks) gs es a h p g =
        let f = found_split channels received references one k ks gs h in
        let r = row_found channels received references one ends rows are k f.0 f.2 in
        let n = next_part f.0 f.1 es p (subst (λ l. part_with l es ≡ Some p) (sym f.4) g) in
        let t = found_all f.0 r.here es a n.end n.found in
        let held : r.row.holds ≡ true = r.is_first.is_row.held refl ∙ ap is_held t.0 in
        let sent : r.row.sent ≡ length n.end.sent = r.is_first.is_row.sent refl held ∙ ap sent_by t.0 in
        let u = ap (λ o. map (reference_at x references) (unset_places o)) r.at
        ∙ (unset_are channels received references x ends r.row.first f.0 r.row (length n.end.sent) r.is_first.is_row
        sent
        ∙ ap (λ d. map to_promise (drop (length n.end.sent) (items_of d))) t.1) in
        let v = unset_given ks f.1 (without_end f.0 es) (λ e j. a e (left_there f.0 es e j)) f.3 n.rest n.parts in
        map-append (reference_at x references) (unset_places (row_at rows k))
        (flat_map (λ k. unset_places (row_at rows k)) ks)
        ∙ ((λ j. u j ++ v j)
        ∙ (sym (map-append to_promise (unsent n.end) (all_unsent n.rest.given))
        ∙ ap (λ (y : Parting). map to_promise (all_unsent y.given)) n.is))

    -- whether a channel's end is given
    pub given_held : (c : Channel) → IsIn c channels → (ks : List ℕ) (gs : List Channel) (es : List SendingEnd)
        → ((e : SendingEnd) → IsIn e es → IsIn e ends) → channels_at channels ks ≡ Some gs → (p : Parting)
        → part_with gs es ≡ Some p
        → is_given rows ks (channel_place c channels) ≡ is_held (end_of c p.given)
    given_held c i [] gs es a h p g =
        let e : [] ≡ gs = cc in
        let o : part_with [] es ≡ Some p = subst (λ l. part_with l es ≡ Some p) (sym e) g in
        let z : parted [] es ≡ p = cc in ap (λ (y : Parting). is_held (end_of c y.given)) z
    given_held c i (k ∷ ks) gs es a h p g =
        let f = found_split channels received references one k ks gs h in
        let r = row_found channels received references one ends rows are k f.0 f.2 in
        let n = next_part f.0 f.1 es p (subst (λ l. part_with l es ≡ Some p) (sym f.4) g) in
        let t = found_all f.0 r.here es a n.end n.found in
        let u : nat_eq (channel_place c channels) (first_place (row_at rows k)) ≡ is_same c n.end.channel =
        ap (λ o. nat_eq (channel_place c channels) (first_place o)) r.at
        ∙ (ap (nat_eq (channel_place c channels)) r.is_first.first
        ∙ (place_same channels c f.0 i r.here one ∙ ap (is_same c) t.1)) in
        let v = given_held c i ks f.1 (without_end f.0 es) (λ e m. a e (left_there f.0 es e m)) f.3 n.rest n.parts in
        (λ m. u m || v m) ∙ (both n.end (is_same c n.end.channel) (end_of c n.rest.given)
        ∙ ap (λ (y : Parting). is_held (end_of c y.given)) n.is) where
          both : (e : SendingEnd) (b : Bool) (o : Option SendingEnd) → (b || is_held o) ≡ is_held (cond b (Some e) o)
          both e true o = refl
          both e false o = refl

    -- The child's rows.
    length-places : (k n : ℕ) → length (places_from k n) ≡ n
    length-places k zero = refl
    length-places k (suc n) = ap suc (length-places (suc k) n)

    position_seen : (c : Channel) → IsIn c channels → (seen : List Channel)
        → ((d : Channel) → IsIn d seen → IsIn d channels)
        → position (channel_place c channels) (map (λ d. channel_place d channels) seen) ≡ channel_place c seen
    position_seen c i [] a = refl
    position_seen c i (d ∷ ds) a =
        let u = place_same channels c d i (a d (inl refl)) one in
        let v = position_seen c i ds (λ e j. a e (inr j)) in λ m. cond (u m) 0 (suc (v m))

    pub child_rows : (give : List ℕ) (gs : List Channel) → channels_at channels give ≡ Some gs → (p : Parting)
        → part_with gs ends ≡ Some p → ((e : SendingEnd) → IsIn e p.given → IsIn e ends)
        → (firsts : List ℕ) (seen : List Channel) → firsts ≡ map (λ d. channel_place d channels) seen
        → ((d : Channel) → IsIn d seen → IsIn d channels) → (base : ℕ)
        → (ks : List ℕ) (ps : List Channel) → channels_at channels ks ≡ Some ps
        → passed_rows rows give firsts base ks ≡ begin_rows p.given seen base ps
    child_rows give gs g p o a firsts seen q b base [] ps h =
        let e : [] ≡ ps = cc in ap (begin_rows p.given seen base) e
    child_rows give gs g p o a firsts seen q b base (k ∷ ks) ps h =
        let f = found_split channels received references one k ks ps h in
        let c = f.0 in
        let r = row_found channels received references one ends rows are k c f.2 in
        let i = r.here in
        let first : first_at rows give k ≡ channel_place c channels = ap first_place r.at ∙ r.is_first.first in
        let held : is_given rows give (first_at rows give k) ≡ is_held (end_of c p.given) =
        ap (is_given rows give) first ∙ given_held c i give gs ends (λ e j. j) g p o in
        let at : position (first_at rows give k) firsts ≡ channel_place c seen =
        (λ m. position (first m) (q m)) ∙ position_seen c i seen b in
        let n = ap (λ z. length (all_places z)) r.at
        ∙ (length-places r.row.base r.row.items ∙ r.is_first.is_row.items) in
        let row : passed_row (position (first_at rows give k) firsts) base
        (is_given rows give (first_at rows give k)) (row_at rows k) ≡ begin_row p.given seen base c =
        (λ m. passed_row (at m) base (held m) (r.at m)) ∙ one_row c i r.row r.is_first (end_of c p.given) refl in
        let rest = child_rows give gs g p o a (firsts ++ first_at rows give k ∷ []) (seen ++ c ∷ [])
        ((λ m. q m ++ first m ∷ []) ∙ sym (map-append (λ d. channel_place d channels) seen (c ∷ [])))
        (λ d j. ⊎_elim (λ z. b d z) (λ z. subst (λ y. IsIn y channels) (sym z) i) (in_last d c seen j))
        (base + length (all_places (row_at rows k))) ks f.1 f.3 in
        (λ m. row m ∷ rest m)
        ∙ (ap (λ z. begin_row p.given seen base c ∷ begin_rows p.given (seen ++ c ∷ []) (base + z) f.1) n
        ∙ ap (begin_rows p.given seen base) f.4) where
          one_row : (c : Channel) → IsIn c channels → (r : PromiseRow)
              → IsFirstRow channels ends received references rows c r → (y : Option SendingEnd) → end_of c p.given ≡ y
              → passed_row (channel_place c seen) base (is_held y) (Some r) ≡ record {
                first = channel_place c seen;
                base = base;
                items = c.items;
                sent = sent_by y;
                asked = 0;
                holds = is_held y;
              }
          one_row c i r w None e = ap (λ z. record {
            first = channel_place c seen;
            base = base;
            items = z;
            sent = 0;
            asked = 0;
            holds = false;
          }) w.is_row.items
          one_row c i r w (Some y) e =
              let t = found_all c i p.given a y e in
              let l : r.holds ≡ true = w.is_row.held refl ∙ ap is_held t.0 in
              let s : r.sent ≡ length y.sent = w.is_row.sent refl l ∙ ap sent_by t.0 in
              (λ m. record {
                first = channel_place c seen;
                base = base;
                items = w.is_row.items m;
                sent = s m;
                asked = 0;
                holds = true;
              })
