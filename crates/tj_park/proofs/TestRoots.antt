-- The root of a small table runs alone: what the tests know of it from call to call.
use Rattle.tj_park.proofs.Prelude.{Answer, Begins, Bool, Claimed, Custody, Entry, IsCell, IsIn, IsMade, List, MayFill}
use Rattle.tj_park.proofs.Prelude.{MayGiveUp, Name, None, Program, Rec, Reference, SeatMe, Some, View, WillBecome, []}
use Rattle.tj_park.proofs.Prelude.{ap, became, begins_at, begins_self, child, cond, custody_of, gave_up, get_elem?}
use Rattle.tj_park.proofs.Prelude.{in_left, in_right, inl, inr, inside, noted_here, pos, program_of, refl, some, subst}
use Rattle.tj_park.proofs.Prelude.{suc, sym, to_promise, to_task, true, without, ℕ, ⊎_elim, ◌<◌, ◌∙◌, ◌∷◌, ◌≡◌, ◌≢◌}
use Rattle.std.proofs.Common.{zero, false, nat_eq, get_or, ℤ, Option, IfSome, arith, ne_eqb}
use mathlib.Core.Option.{some-injective, some-ne-none}
use Rattle.tj_body.specs.RoundPoints.{Becomes, InRounds}
use Rattle.tj_body.specs.Table.{body_at, lists_of, table_asks, table_awaits, table_left, table_places, table_then}
use Rattle.tj_body.specs.declared.table.Row.{Row}
use Rattle.tj_body.specs.declared.table.TableBody.{TableBody}
use Rattle.tj_words.specs.Calls.DrawViews.{drawn_next}
use Rattle.tj_words.specs.LawParts.FirstState.{first_view}
use Rattle.tj_words.specs.LawParts.Holding.{held_in, made_by}
use Rattle.tj_words.specs.Steps.QuietSteps.{does_first}
use Rattle.tj_words.specs.SeatViews.SeenWords.{FindsBits, FindsNothing, SeesOnce}
use Rattle.tj_words.specs.Steps.StepEvents.{MayAct}
use Rattle.tj_cells.specs.declared.seen.Seen.{Seen}
use Rattle.tj_cells.specs.MadeCells.{MayMake, makes_promise}
use Rattle.tj_cells.specs.SeenValues.{SeesValue}
use Rattle.tj_base.specs.declared.cell.Sort.TheVariants as sort
use Rattle.tj_base.specs.declared.value.Pay.TheVariants as pay
use Rattle.tj_body.specs.declared.point.Entry.TheVariants as entry
use Rattle.tj_body.specs.declared.point.Value.TheVariants as value
use Rattle.tj_body.specs.declared.table.Row.TheVariants as row
use Rattle.tj_body.specs.declared.ask.Answer.TheVariants as answer
use Rattle.tj_words.specs.declared.offsets.Once.TheVariants as once
use Rattle.tj_record.specs.declared.record.Fill.TheVariants as fill
use Rattle.tj_cells.specs.declared.seen.Seen.TheVariants as seen

-- what the bodies of a table's tasks go by
abbrev pub its : Bool → TableBody → Program TableBody
its = program_of table_places table_awaits table_left table_asks table_then

-- the first body of a table with these lists
abbrev pub with_rows : List (List Row) → TableBody → TableBody
with_rows lists b = record b { lists = record b.lists { now = lists }; list = 0; row = 0; places = 1 }

pub has_rows : (lists : List (List Row)) (b : TableBody) → lists_of b ≡ lists → b ≡ body_at b 0 1
    → b ≡ with_rows lists b
has_rows lists b is first = first ∙ ap (λ l. with_rows l b) is

-- the root makes a promise and sets it to 5, and makes two more
abbrev pub three_promises : List (List Row)
three_promises = (row.New ∷ row.Set 1 (pay.Num (pos 5)) ∷ row.New ∷ row.New ∷ []) ∷ []

module _ (b : TableBody) where
  abbrev pub three : Program TableBody
  three = its true (with_rows three_promises b)

  -- each of them is a cell of some round; the first becomes 5, and the second is broken as the root ends
  pub first_named : InRounds three (child [] 1)
  first_named = (1, inr (inl refl))

  pub second_named : InRounds three (child [] 2)
  second_named = (1, inr (inr (inl refl)))

  pub third_named : InRounds three (child [] 3)
  third_named = (1, inr (inr (inr (inl refl))))

  pub first_set : Becomes three (child [] 1) (entry.Value (value.Num (pos 5)))
  first_set = (1, refl)

  pub second_broken : Becomes three (child [] 2) entry.Broken
  second_broken = (1, refl)

-- what is in a list is in it without another number
without_one : (p x y : ℕ) (ns : List ℕ) → x ≢ p → IsIn x (y ∷ ns) → (IsIn x ns → IsIn x (without p ns))
    → (b : Bool) → nat_eq y p ≡ b → IsIn x (cond b (without p ns) (y ∷ without p ns))
without_one p x y ns n i rest true e = ⊎_elim
    (λ (q : x ≡ y). let f : nat_eq y p ≡ false = ne_eqb y p (λ r. n (q ∙ r)) in
    let z : true ≡ false = sym e ∙ f in absurd (cc))
    rest i
without_one p x y ns n i rest false e = ⊎_elim (λ (q : x ≡ y). inl q) (λ (j : IsIn x ns). inr (rest j)) i

in_without : (p x : ℕ) (ns : List ℕ) → x ≢ p → IsIn x ns → IsIn x (without p ns)
in_without p x [] n i = absurd i
in_without p x (y ∷ ns) n i = without_one p x y ns n i (in_without p x ns n) (nat_eq y p) refl

-- what stands at an index of a list is what is got there
got_at : (l : List Reference) (c : ℕ) (x d : Reference) → get_elem? l c ≡ some x → get_or l c d ≡ x
got_at [] zero x d e = absurd (some-ne-none x (sym e))
got_at [] (suc c) x d e = absurd (some-ne-none x (sym e))
got_at (y ∷ l) zero x d e = some-injective y x e
got_at (y ∷ l) (suc c) x d e = got_at l c x d e

-- the seat runs the root, which owns its result, and has nothing in hand
pub record RootRuns (cells : ℕ) (root : TableBody) (k : Custody TableBody) (v : View TableBody) : Type 0 where
  pub about : v.about ≡ Some (record { root = root; cells = cells; strict = true })
  pub held : held_in v.tasks 0 ≡ Some k
  pub may : MayAct k.does
  pub result : IsIn 0 k.owned
  pub out : k.home ≡ None
  pub no_hand : v.hand ≡ None
  pub room : v.refused < v.lot
  pub is_root : IsCell v.born 0 (to_task [])

module _ (cells : ℕ) (root : TableBody) where
  -- the root was claimed by a seat that has nothing in hand, no refused draw, and a lot
  pub claimed_by : (r : Rec TableBody) (v w : View TableBody)
      → v.about ≡ Some (record { root = root; cells = cells; strict = true })
      → v.hand ≡ None → v.refused ≡ 0 → 0 < v.lot → IsCell v.born 0 (to_task []) → Claimed its 0 r v w
      → RootRuns cells root (custody_of r) w
  claimed_by r v w about no_hand none lots is_root c = record {
    about = c.knows.about ∙ about;
    held = c.taken.held;
    may = first_acts r.answer;
    result = c.taken.owns_result;
    out = refl;
    no_hand = c.hand.hand ∙ no_hand;
    room = let a = c.counts.refused in let l = c.knows.lot in omega (arith, none, lots, a, l);
    is_root = begins_at v.born w.born c.knows.born 0 (to_task []) is_root;
  }
    where
      first_acts : (a : Answer) → MayAct (does_first a)
      first_acts answer.Start = tt
      first_acts answer.Done = tt
      first_acts (answer.Local j) = tt
      first_acts (answer.Num i) = tt
      first_acts (answer.RefAt j) = tt
      first_acts answer.Lost = tt

  -- the first seat of a table is such a seat
  pub claimed_root : (r : Rec TableBody) (w : View TableBody) → Claimed its 0 r (first_view cells root true) w
      → RootRuns cells root (custody_of r) w
  claimed_root r w c = claimed_by r (first_view cells root true) w refl refl refl (omega arith) refl c

  -- the first claim of a table whose root has these rows
  pub claimed_first : (lists : List (List Row)) (m : SeatMe TableBody) (o : Option (Rec TableBody))
      (r : Rec TableBody) (w : View TableBody) → lists_of root ≡ lists → root ≡ body_at root 0 1
      → m ≡ (first_view cells root true, []) → o ≡ Some r → IfSome o (λ x. Claimed its 0 x m.0 w)
      → RootRuns cells (with_rows lists root) (custody_of r) w
  claimed_first lists m o r w is first new some_is claims = subst (λ z. RootRuns cells z (custody_of r) w)
      (has_rows lists root is first)
      (claimed_root r w (subst (λ (z : SeatMe TableBody). Claimed its 0 r z.0 w) new
      (subst (λ z. IfSome z (λ x. Claimed its 0 x m.0 w)) some_is claims)))

  module _ (k : Custody TableBody) (v : View TableBody) (runs : RootRuns cells root k v) where
    -- so it does where the view is as it was but for this
    still_runs : (w : View TableBody) → w.about ≡ v.about → w.tasks ≡ v.tasks → w.hand ≡ v.hand
        → w.refused ≡ v.refused → w.lot ≡ v.lot → Begins v.born w.born → RootRuns cells root k w
    still_runs w about tasks hand refused lot born = record {
      about = about ∙ runs.about;
      held = ap (λ l. held_in l 0) tasks ∙ runs.held;
      may = runs.may;
      result = runs.result;
      out = runs.out;
      no_hand = hand ∙ runs.no_hand;
      room = let r = runs.room in omega (arith, refused, lot, r);
      is_root = begins_at v.born w.born born 0 (to_task []) runs.is_root;
    }

    -- it may make its next thing
    pub may_make : (n kid : ℕ) → k.made ≡ n → kid ≡ suc n → InRounds (its true root) (child [] (suc n))
        → MayMake its 0 kid v
    may_make n kid made is named = record {
      draw = record {
        about = record { root = root; cells = cells; strict = true };
        is_about = runs.about;
        has = k;
        held = runs.held;
        may = runs.may;
        result = runs.result;
        out = runs.out;
        no_hand = runs.no_hand;
        room = runs.room;
        task = to_task [];
        is_task = runs.is_root;
        named = subst (λ m. InRounds (its true root) (child [] (suc m))) (sym made) named;
      };
      next = is ∙ ap suc (sym made);
    }

    module _ {limit : ℕ} (c : ℕ) (w : View TableBody) (made : IsMade sort.Promise limit 0 c v w) where
      pub made_root : RootRuns cells root (makes_promise c k) w
      made_root = record {
        about = ap (λ (u : View TableBody). u.about) made.rest ∙ runs.about;
        held = ap (λ l. held_in l 0) made.tasks ∙ noted_here v.tasks 0 k (makes_promise c) runs.held refl;
        may = tt;
        result = in_left 0 k.owned (c ∷ []) runs.result;
        out = runs.out;
        no_hand = ap (λ (u : View TableBody). u.hand) made.rest ∙ runs.no_hand;
        room = subst (λ (u : View TableBody). u.refused < u.lot) (sym made.rest) runs.room;
        is_root = begins_at v.born w.born made.begins 0 (to_task []) runs.is_root;
      }

      pub not_root : c ≢ 0
      not_root e = let i = inside v.born 0 (to_task []) runs.is_root in let n = made.new in omega arith

      pub made_owned : IsIn c (makes_promise c k).owned
      made_owned = in_right c k.owned (c ∷ []) (inl refl)

      pub made_is : (n : ℕ) → k.made ≡ n → IsCell w.born c (to_promise (child [] (suc n)))
      made_is n e = subst (IsCell w.born c) next made.is where
        made_so : made_by (held_in v.tasks 0) None ≡ n
        made_so = ap (λ o. made_by o None) runs.held ∙ e

        next : drawn_next 0 sort.Promise v ≡ to_promise (child [] (suc n))
        next = λ i. record {
          sort = sort.Promise;
          name = child (got_at v.born 0 (to_task []) (to_task []) runs.is_root i).name (suc (made_so i));
        }

    -- it may close a promise that it owns, and the promise becomes what it does in some round
    pub may_close_promise : (c : ℕ) → IsIn c k.owned → c ≢ 0 → MayGiveUp 0 c v
    may_close_promise c i n = (
      record {
        task = 0;
        owner = record {
          custody = k;
          held = runs.held;
          may = runs.may;
          out = runs.out;
          result = runs.result;
          owns = i;
        };
        last = λ e. absurd (n e);
      },
      refl,
    )

    pub will_become : (c : ℕ) (q : Name) (e : Entry) → IsCell v.born c (to_promise q) → Becomes (its true root) q e
        → WillBecome its c e v
    will_become c q e is becomes = record {
      about = record { root = root; cells = cells; strict = true };
      is_about = runs.about;
      becomes = (to_promise q, is, becomes);
    }

    pub may_fill_number : (c : ℕ) (q : Name) (i : ℤ) → IsCell v.born c (to_promise q)
        → Becomes (its true root) q (entry.Value (value.Num i)) → MayFill its c (fill.Num i) v
    may_fill_number c q i is becomes = record {
      value = value.Num i;
      says = refl;
      will = will_become c q (entry.Value (value.Num i)) is becomes;
      knows = λ x j. absurd j;
    }

    pub closed_root : (c : ℕ) (e : Entry) → c ≢ 0 → (w : View TableBody) → w ≡ became 0 c e v
        → RootRuns cells root (gave_up c k) w
    closed_root c e n w is = subst (RootRuns cells root (gave_up c k)) (sym is) (record {
      about = runs.about;
      held = noted_here v.tasks 0 k (gave_up c) runs.held refl;
      may = tt;
      result = in_without c 0 k.owned (λ z. n (sym z)) runs.result;
      out = runs.out;
      no_hand = runs.no_hand;
      room = runs.room;
      is_root = runs.is_root;
    })

    -- it runs on while values are read
    pub value_root : {limit : ℕ} (p : ℕ) (s : Seen) (w : View TableBody) → (s ≡ seen.NotYet → FindsNothing p v w)
        → (s ≢ seen.NotYet → SeesValue its limit p s v w) → RootRuns cells root k w × Begins v.born w.born
    value_root {limit} p s w none has = by s refl where
      saw : SeesValue its limit p s v w → RootRuns cells root k w × Begins v.born w.born
      saw f = subst (λ (u : View TableBody). RootRuns cells root k u × Begins v.born u.born) (sym f.view)
          (still_runs _ refl refl refl refl refl f.begins, f.begins)

      by : (z : Seen) → s ≡ z → RootRuns cells root k w × Begins v.born w.born
      by seen.NotYet e = let f = none e in
          subst (λ (u : View TableBody). RootRuns cells root k u × Begins v.born u.born) (sym f.view)
          (still_runs _ refl refl refl refl refl (begins_self v.born), begins_self v.born)
      by (seen.Num i) e = saw (has (λ q. let d : seen.Num i ≡ seen.NotYet = sym e ∙ q in cc))
      by (seen.Promise c) e = saw (has (λ q. let d : seen.Promise c ≡ seen.NotYet = sym e ∙ q in cc))
      by (seen.Task c) e = saw (has (λ q. let d : seen.Task c ≡ seen.NotYet = sym e ∙ q in cc))
      by seen.Broken e = saw (has (λ q. let d : seen.Broken ≡ seen.NotYet = sym e ∙ q in cc))

    pub tag_root : {limit : ℕ} (p n : ℕ) (w : View TableBody) → SeesOnce its limit once.Tag p n v w
        → RootRuns cells root k w × Begins v.born w.born
    tag_root p zero w f = let x = f.0 refl in
        subst (λ (u : View TableBody). RootRuns cells root k u × Begins v.born u.born) (sym x.view)
        (still_runs _ refl refl refl refl refl (begins_self v.born), begins_self v.born)
    tag_root p (suc n) w f = let x = (f.1 (λ e. omega (arith, e))).0 in
        subst (λ (u : View TableBody). RootRuns cells root k u × Begins v.born u.born) (sym x.view)
        (still_runs _ refl refl refl refl refl x.begins, x.begins)

    pub bits_root : {limit : ℕ} (p n : ℕ) (w : View TableBody) → FindsBits limit p n v w
        → RootRuns cells root k w × Begins v.born w.born
    bits_root p n w x = subst (λ (u : View TableBody). RootRuns cells root k u × Begins v.born u.born) (sym x.view)
        (still_runs _ refl refl refl refl refl x.begins, x.begins)
