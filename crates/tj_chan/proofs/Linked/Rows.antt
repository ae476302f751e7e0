-- The rows of a body and the channels of a point: the row of a channel is found, promises by their places, and rows
-- without the ends that are given.
use Rattle.std.proofs.Common.{◌≡◌, ℕ, zero, suc, ◌+◌, ◌-◌, ◌<◌, ◌≤◌, Bool, true, false, cond, nat_eq, nat_lt, ◌&&◌}
use Rattle.std.proofs.Common.{inl, inr, List, [], ◌∷◌, map, length, drop, Option, Some, None, refl}
use Rattle.std.proofs.Common.{sym, ap, ◌∙◌, subst, arith, eqb-true, eq-eqb, ltb-true, lt-ltb}
use Rattle.std.proofs.lemmas.Option.{slice_get_past, slice_get_within, get_or_from_slice_get}
use Rattle.std.specs.Prelude.{slice_get}
use Rattle.std.specs.List.{list_all}
use Rattle.tj_base.specs.ForkOrder.{Name, child}
use Rattle.tj_body.specs.Names.{same}
use Rattle.tj_body.specs.History.{to_promise, reference_at}
use Rattle.tj_body.specs.Points.{IsIn}
use Rattle.tj_body.specs.declared.point.Reference.{Reference}
use Rattle.tj_chan.specs.Channels.{Channel, SendingEnd, items_of, things_after, is_same}
use Rattle.tj_chan.specs.Channels.{end_of, without_end, channels_at, found_both}
use Rattle.tj_chan.specs.ChanBodies.{row_at, first_of, places_from, all_places, unset_places, is_there}
use Rattle.tj_chan.specs.declared.rows.PromiseRow.{PromiseRow}
use Rattle.tj_chan.proofs.Lists.Runs.{AreOneOrApart, AreEndsOnce}
use Rattle.tj_chan.proofs.Linked.Links.{references_of, channel_place, IsRowOf, AreRowsOf}
use Rattle.tj_chan.proofs.Lists.Apart.{is_same_self, same_parts, not_true, true_false, one_of_same}
use Rattle.tj_chan.proofs.Lists.Kept.{got_there}

-- where nothing is at a place, the list has ended
pub none_length : {A : Type 0} (l : List A) (k : ℕ) → slice_get l k ≡ None → length l ≤ k
none_length [] k h = omega arith
none_length (x ∷ xs) zero h = cc
none_length (x ∷ xs) (suc k) h = let r = none_length xs k h in omega arith

-- whether there is something
abbrev pub is_some : {A : Type 0} → Option A → Bool
is_some None = false
is_some (Some x) = true

-- The channel stands at its first place.
pub place_found : (cs : List Channel) (c : Channel) → IsIn c cs → ((d : Channel) → IsIn d cs → AreOneOrApart c d)
    → slice_get cs (channel_place c cs) ≡ Some c
place_found [] c i one = absurd i
place_found (d ∷ ds) c i one = by (λ j k. place_found ds c j k) (is_same c d) refl i where
  by : (IsIn c ds → ((x : Channel) → IsIn x ds → AreOneOrApart c x) → slice_get ds (channel_place c ds) ≡ Some c)
      → (b : Bool) → is_same c d ≡ b → IsIn c (d ∷ ds)
      → slice_get (d ∷ ds) (cond b 0 (suc (channel_place c ds))) ≡ Some c
  by rec true s j = ap (λ (x : Channel). Some x) (sym (one_of_same c d (one d (inl refl)) s))
  by rec false s (inl e) =
      absurd (true_false (is_same c d) (subst (λ x. is_same c x ≡ true) e (is_same_self c)) s)
  by rec false s (inr j) = rec j (λ x k. one x (inr k))

-- places tell channels apart
pub place_same : (cs : List Channel) (c d : Channel) → IsIn c cs → IsIn d cs
    → ((x y : Channel) → IsIn x cs → IsIn y cs → AreOneOrApart x y)
    → nat_eq (channel_place c cs) (channel_place d cs) ≡ is_same c d
place_same cs c d i j one = by (is_same c d) refl where
  by : (b : Bool) → is_same c d ≡ b → nat_eq (channel_place c cs) (channel_place d cs) ≡ b
  by true s = eq-eqb (channel_place c cs) (channel_place d cs)
      (ap (λ x. channel_place x cs) (one_of_same c d (one c d i j) s))
  by false s = not_true (nat_eq (channel_place c cs) (channel_place d cs)) (λ e.
      let p = eqb-true (channel_place c cs) (channel_place d cs) e in
      let a = place_found cs c i (λ x k. one c x i k) in
      let b = place_found cs d j (λ x k. one d x j k) in
      let o : Some c ≡ Some d = sym a ∙ (ap (slice_get cs) p ∙ b) in
      let z : c ≡ d = cc in
      true_false (is_same c d) (subst (λ x. is_same c x ≡ true) z (is_same_self c)) s)

-- The row that has what the task did with a channel.
pub record IsFirstRow (channels : List Channel) (ends : List SendingEnd) (received : List Channel)
    (references : List Reference) (rows : List PromiseRow) (c : Channel) (r : PromiseRow) : Type 0 where
  pub first : r.first ≡ channel_place c channels
  pub there : slice_get rows r.first ≡ Some r
  pub is_row : IsRowOf channels ends received references r.first c r

-- Under place k the channel c stands, with this row.
pub record FoundRow (channels : List Channel) (ends : List SendingEnd) (received : List Channel)
    (references : List Reference) (rows : List PromiseRow) (k : ℕ) (c : Channel) : Type 0 where
  pub row : PromiseRow
  pub at : row_at rows k ≡ Some row
  pub here : IsIn c channels
  pub is_first : IsFirstRow channels ends received references rows c row

module _ (channels : List Channel) (received : List Channel) (references : List Reference)
    (one : (c d : Channel) → IsIn c channels → IsIn d channels → AreOneOrApart c d) where
  module _ (ends : List SendingEnd) (rows : List PromiseRow)
      (are : AreRowsOf channels ends received references rows) where
    pub row_found : (k : ℕ) (c : Channel) → slice_get channels k ≡ Some c
        → FoundRow channels ends received references rows k c
    row_found k c h =
        let a = are.each k c h in
        let i = got_there channels k c h in
        let b = are.each (channel_place c channels) c (place_found channels c i (λ d j. one c d i j)) in
        let f = b.2.first in record {
          row = b.0;
          at = ap (first_of rows) a.1 ∙ (ap (slice_get rows) a.2.first ∙ b.1);
          here = i;
          is_first = record {
            first = f;
            there = ap (slice_get rows) f ∙ b.1;
            is_row = subst (λ n. IsRowOf channels ends received references n c b.0) (sym f) b.2;
          };
        }

    -- none is found where there is no channel
    pub row_missing : (k : ℕ) → slice_get channels k ≡ None → row_at rows k ≡ None
    row_missing k h =
        let l = none_length channels k h in
        let n = are.count in
        ap (first_of rows) (slice_get_past rows k (omega arith))

    there_same : (k : ℕ) → is_there rows k ≡ is_some (slice_get channels k)
    there_same k = by (slice_get channels k) refl where
      by : (o : Option Channel) → slice_get channels k ≡ o → nat_lt k (length rows) ≡ is_some o
      by (Some c) h =
          let l = slice_get_within channels k c h in let n = are.count in lt-ltb k (length rows) (omega arith)
      by None h =
          let l = none_length channels k h in let n = are.count in
          not_true (nat_lt k (length rows)) (λ e. let g = ltb-true k (length rows) e in absurd (omega arith))

    -- all places are there where all channels are
    pub all_there : (ks : List ℕ) → list_all (is_there rows) ks ≡ is_some (channels_at channels ks)
    all_there [] = refl
    all_there (k ∷ ks) =
        (λ i. there_same k i && all_there ks i) ∙ sym (both (slice_get channels k) (channels_at channels ks)) where
          both : (x : Option Channel) (y : Option (List Channel)) → is_some (found_both x y) ≡ (is_some x && is_some y)
          both None y = refl
          both (Some c) None = refl
          both (Some c) (Some cs) = refl

  -- the first of some channels that were found
  pub found_split : (k : ℕ) (ks : List ℕ) (l : List Channel) → channels_at channels (k ∷ ks) ≡ Some l
      → (c : Channel) × (gs : List Channel) × (slice_get channels k ≡ Some c) × (channels_at channels ks ≡ Some gs)
      × (c ∷ gs ≡ l)
  found_split k ks l h = by (slice_get channels k) refl (channels_at channels ks) refl h where
    by : (x : Option Channel) → slice_get channels k ≡ x → (y : Option (List Channel)) → channels_at channels ks ≡ y
        → found_both x y ≡ Some l
        → (c : Channel) × (gs : List Channel) × (slice_get channels k ≡ Some c) × (channels_at channels ks ≡ Some gs)
        × (c ∷ gs ≡ l)
    by None e y f g = cc
    by (Some c) e None f g = cc
    by (Some c) e (Some gs) f g = let z : c ∷ gs ≡ l = cc in (c, gs, e, f, z)

-- Promises by their places.
pub map_places : (x : Name) (references : List Reference) (maker : Name) (n base m : ℕ)
    → ((i : ℕ) → i < n → slice_get references (base + i) ≡ Some (to_promise (child maker (m + suc i))))
    → map (reference_at x references) (places_from base n) ≡ map to_promise (things_after maker m n)
map_places x references maker zero base m h = refl
map_places x references maker (suc n) base m h =
    let a : slice_get references base ≡ Some (to_promise (child maker (suc m))) =
    ap (slice_get references) (let z : base ≡ base + 0 = omega arith in z)
    ∙ (h 0 (omega arith) ∙ ap (λ k. Some (to_promise (child maker k))) (let z : m + 1 ≡ suc m = omega arith in z)) in
    let b = get_or_from_slice_get references base _ _ a in
    let c = map_places x references maker n (suc base) (suc m) (λ i l.
    ap (slice_get references) (let z : suc base + i ≡ base + suc i = omega arith in z)
    ∙ (h (suc i) (omega arith)
    ∙ ap (λ k. Some (to_promise (child maker k))) (let z : m + suc (suc i) ≡ suc m + suc i = omega arith in z))) in
    λ i. b i ∷ c i

-- the names behind the first k
pub drop_is : (x : Name) (k m n : ℕ) → drop k (things_after x m n) ≡ things_after x (m + k) (n - k)
drop_is x zero m zero = ap (things_after x (m + 0)) (let z : 0 ≡ 0 - 0 = omega arith in z)
drop_is x (suc k) m zero = ap (things_after x (m + suc k)) (let z : 0 ≡ 0 - suc k = omega arith in z)
drop_is x zero m (suc n) = (λ i. things_after x (a i) (b i)) where
  a : m ≡ m + 0
  a = omega arith

  b : suc n ≡ suc n - 0
  b = omega arith
drop_is x (suc k) m (suc n) = drop_is x k (suc m) n ∙ (λ i. things_after x (a i) (b i)) where
  a : suc m + k ≡ m + suc k
  a = omega arith

  b : n - k ≡ suc n - suc k
  b = omega arith

module _ (channels : List Channel) (received : List Channel) (references : List Reference) (x : Name) where
  -- all promises of a row
  pub all_are : (ends : List SendingEnd) (k : ℕ) (c : Channel) (r : PromiseRow)
      → IsRowOf channels ends received references k c r
      → map (reference_at x references) (all_places (Some r)) ≡ references_of c
  all_are ends k c r i =
      ap (λ n. map (reference_at x references) (places_from r.base n)) i.items
      ∙ map_places x references c.opener c.items r.base c.made_before i.base

  -- those that are still to be set
  pub unset_are : (ends : List SendingEnd) (k : ℕ) (c : Channel) (r : PromiseRow) (n : ℕ)
      → IsRowOf channels ends received references k c r → r.sent ≡ n
      → map (reference_at x references) (unset_places (Some r)) ≡ map to_promise (drop n (items_of c))
  unset_are ends k c r n i e =
      (λ j. map (reference_at x references) (places_from (r.base + e j) (i.items j - e j)))
      ∙ (map_places x references c.opener (c.items - n) (r.base + n) (c.made_before + n) (λ j l.
      ap (slice_get references) (let z : r.base + n + j ≡ r.base + (n + j) = omega arith in z)
      ∙ (i.base (n + j) (omega arith)
      ∙ ap (λ m. Some (to_promise (child c.opener m)))
      (let z : c.made_before + suc (n + j) ≡ c.made_before + n + suc j = omega arith in z)))
      ∙ ap (map to_promise) (sym (drop_is c.opener n c.made_before c.items)))

-- one opener, which had made as much: the channels are the same
pub to_same : (c d : Channel) → c.opener ≡ d.opener → c.made_before ≡ d.made_before → is_same c d ≡ true
to_same c d o m =
    (λ i. same (o i) d.opener && nat_eq (m i) d.made_before) ∙ is_same_self d

-- Ends. The end of a channel that is among ends of different channels is the one that is found.
pub end_only : (c : Channel) (es : List SendingEnd) (e : SendingEnd) → AreEndsOnce es → IsIn e es
    → is_same c e.channel ≡ true → end_of c es ≡ Some e
end_only c [] e o i s = absurd i
end_only c (x ∷ xs) e o i s = by (λ j. end_only c xs e o.1 j s) (is_same c x.channel) refl i where
  by : (IsIn e xs → end_of c xs ≡ Some e) → (b : Bool) → is_same c x.channel ≡ b → IsIn e (x ∷ xs)
      → cond b (Some x) (end_of c xs) ≡ Some e
  by rec b t (inl j) = at b t where
    u : is_same c x.channel ≡ true
    u = subst (λ (z : SendingEnd). is_same c z.channel ≡ true) j s

    at : (b : Bool) → is_same c x.channel ≡ b → cond b (Some x) (end_of c xs) ≡ Some e
    at true t = ap (λ (z : SendingEnd). Some z) (sym j)
    at false t = absurd (true_false (is_same c x.channel) u t)
  by rec true t (inr j) =
      let p = same_parts c x.channel t in
      let q = same_parts c e.channel s in
      let w : is_same x.channel e.channel ≡ true = to_same x.channel e.channel (sym p.0 ∙ q.0) (sym p.1 ∙ q.1) in
      absurd (true_false (is_same x.channel e.channel) w (o.0 e j))
  by rec false t (inr j) = rec j

-- a channel's end isn't there without it
pub end_gone : (c : Channel) (es : List SendingEnd) → AreEndsOnce es → end_of c (without_end c es) ≡ None
end_gone c [] o = refl
end_gone c (e ∷ es) o = by (end_gone c es o.1) (is_same c e.channel) refl where
  none : (fs : List SendingEnd) → ((f : SendingEnd) → IsIn f fs → is_same c f.channel ≡ false) → end_of c fs ≡ None
  none [] h = refl
  none (f ∷ fs) h =
      ap (λ b. cond b (Some f) (end_of c fs)) (h f (inl refl)) ∙ none fs (λ g i. h g (inr i))

  by : end_of c (without_end c es) ≡ None → (b : Bool) → is_same c e.channel ≡ b
      → end_of c (cond b es (e ∷ without_end c es)) ≡ None
  by rec true s = none es (λ f i. not_true (is_same c f.channel) (λ t.
      let p = same_parts c e.channel s in
      let q = same_parts c f.channel t in
      let w : is_same e.channel f.channel ≡ true = to_same e.channel f.channel (sym p.0 ∙ q.0) (sym p.1 ∙ q.1) in
      true_false (is_same e.channel f.channel) w (o.0 f i)))
  by rec false s = ap (λ b. cond b (Some e) (end_of c (without_end c es))) s ∙ rec

-- and the others are
pub end_stays : (c d : Channel) (es : List SendingEnd) → is_same c d ≡ false → end_of d (without_end c es) ≡ end_of d es
end_stays c d [] h = refl
end_stays c d (e ∷ es) h = by (end_stays c d es h) (is_same c e.channel) refl where
  by : end_of d (without_end c es) ≡ end_of d es → (b : Bool) → is_same c e.channel ≡ b
      → end_of d (cond b es (e ∷ without_end c es)) ≡ end_of d (e ∷ es)
  by rec true s = sym (ap (λ b. cond b (Some e) (end_of d es)) (not_true (is_same d e.channel) (λ t.
      let p = same_parts c e.channel s in
      let q = same_parts d e.channel t in
      true_false (is_same c d) (to_same c d (p.0 ∙ sym q.0) (p.1 ∙ sym q.1)) h)))
  by rec false s = ap (cond (is_same d e.channel) (Some e)) rec
