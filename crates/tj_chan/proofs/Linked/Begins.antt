-- The rows with which a task begins are those of the channels that it was passed.
use Rattle.std.proofs.Common.{◌≡◌, ℕ, zero, suc, ◌+◌, ◌<◌, cond, List, [], ◌∷◌, ◌++◌, map, length}
use Rattle.std.proofs.Common.{Some, refl, sym, ap, ◌∙◌, subst, arith, append_assoc, length-append}
use Rattle.std.proofs.lemmas.List.{length-map}
use Rattle.std.specs.Prelude.{slice_get}
use Rattle.std.specs.List.{flat_map}
use Rattle.tj_base.specs.ForkOrder.{Name, child}
use Rattle.tj_body.specs.History.{to_task, to_promise}
use Rattle.tj_body.specs.declared.point.Reference.{Reference}
use Rattle.tj_chan.specs.Channels.{Channel, SendingEnd, item, items_of, things_after, is_same}
use Rattle.tj_chan.specs.declared.rows.PromiseRow.{PromiseRow}
use Rattle.tj_chan.proofs.Linked.Items.{length-things}
use Rattle.tj_chan.proofs.Linked.Links.{references_of, channel_place, begin_row, begin_rows, IsRowOf}
use Rattle.tj_chan.proofs.Linked.Links.{AreRowsOf}
use Rattle.tj_chan.proofs.Lists.Apart.{is_same_self}

-- a channel that stands behind others has the first place that it has among them, or the one behind them
pub place_seen : (c : Channel) (seen rest : List Channel)
    → channel_place c (seen ++ c ∷ rest) ≡ channel_place c seen
place_seen c [] rest = ap (λ b. cond b 0 (suc (channel_place c rest))) (is_same_self c)
place_seen c (d ∷ ds) rest = ap (λ z. cond (is_same c d) 0 (suc z)) (place_seen c ds rest)

-- an element of the second of two lists
pub get_behind : {A : Type 0} (front l : List A) (i : ℕ) → slice_get (front ++ l) (length front + i) ≡ slice_get l i
get_behind [] l i = ap (slice_get l) (let z : 0 + i ≡ i = omega arith in z)
get_behind (x ∷ xs) l i =
    ap (slice_get (x ∷ xs ++ l)) (let z : suc (length xs) + i ≡ suc (length xs + i) = omega arith in z)
    ∙ get_behind xs l i

-- and of the first
pub get_front : {A : Type 0} (l m : List A) (i : ℕ) (x : A) → slice_get l i ≡ Some x → slice_get (l ++ m) i ≡ Some x
get_front [] m i x h = cc
get_front (y ∷ ys) m zero x h = h
get_front (y ∷ ys) m (suc i) x h = get_front ys m i x h

-- the reference to a promise of a channel
pub thing_at : (x : Name) (m n i : ℕ) → i < n
    → slice_get (map to_promise (things_after x m n)) i ≡ Some (to_promise (child x (m + suc i)))
thing_at x m zero i l = absurd (omega arith)
thing_at x m (suc n) zero l =
    ap (λ k. Some (to_promise (child x k))) (let z : suc m ≡ m + 1 = omega arith in z)
thing_at x m (suc n) (suc i) l = thing_at x (suc m) n i (omega arith)
    ∙ ap (λ k. Some (to_promise (child x k))) (let z : suc m + suc i ≡ m + suc (suc i) = omega arith in z)

pub reference_at_item : (c : Channel) (i : ℕ) → i < c.items
    → slice_get (references_of c) i ≡ Some (to_promise (item c i))
reference_at_item c i l = thing_at c.opener c.made_before c.items i l

pub length-references : (c : Channel) → length (references_of c) ≡ c.items
length-references c = length-map (items_of c) to_promise ∙ length-things c.opener c.made_before c.items

-- as many rows as channels
pub length-begin : (given : List SendingEnd) (seen : List Channel) (base : ℕ) (cs : List Channel)
    → length (begin_rows given seen base cs) ≡ length cs
length-begin given seen base [] = refl
length-begin given seen base (c ∷ cs) = ap suc (length-begin given (seen ++ c ∷ []) (base + c.items) cs)

-- the rows behind those that were seen
begin_each : (channels : List Channel) (given : List SendingEnd) (references : List Reference) (n : ℕ)
    (cs seen : List Channel) (base : ℕ) (front : List Reference) → channels ≡ seen ++ cs
    → references ≡ front ++ flat_map references_of cs → length front ≡ base → (k : ℕ) (c : Channel)
    → slice_get cs k ≡ Some c
    → (r : PromiseRow) × (slice_get (begin_rows given seen base cs) k ≡ Some r)
    × IsRowOf channels given [] references n c r
begin_each channels given references n [] seen base front e f g k c h = cc
begin_each channels given references n (d ∷ ds) seen base front e f g zero c h =
    (row, refl, subst (λ z. IsRowOf channels given [] references n z row) x is_row) where
      x : d ≡ c
      x = cc

      row : PromiseRow
      row = begin_row given seen base d

      is_row : IsRowOf channels given [] references n d row
      is_row = record {
        first = sym (ap (channel_place d) e ∙ place_seen d seen ds);
        items = refl;
        base = λ i l. ap (λ z. slice_get z (base + i)) f
            ∙ (ap (λ z. slice_get (front ++ (references_of d ++ flat_map references_of ds)) (z + i)) (sym g)
            ∙ (get_behind front (references_of d ++ flat_map references_of ds) i
            ∙ get_front (references_of d) (flat_map references_of ds) i (to_promise (item d i))
            (reference_at_item d i l)));
        held = λ q. refl;
        sent = λ q s. refl;
        asked = λ q. refl;
      }
begin_each channels given references n (d ∷ ds) seen base front e f g (suc k) c h =
    let m = length-append front (references_of d) in
    let o = length-references d in
    begin_each channels given references n ds (seen ++ d ∷ []) (base + d.items) (front ++ references_of d)
    (e ∙ sym (append_assoc seen (d ∷ []) ds))
    (f ∙ sym (append_assoc front (references_of d) (flat_map references_of ds))) (omega arith) k c h

-- the rows of a whole task
pub begin_are : (x : Name) (given : List SendingEnd) (passed : List Channel)
    → AreRowsOf passed given [] (to_task x ∷ flat_map references_of passed) (begin_rows given [] 1 passed)
begin_are x given passed = record {
  count = length-begin given [] 1 passed;
  each = λ k c h. begin_each passed given (to_task x ∷ flat_map references_of passed) k passed [] 1 (to_task x ∷ [])
      refl refl refl k c h;
  known = λ c i. absurd i;
}
