-- What a call leaves that is no event: the hand, the tasks and the waits cleared of the view are as they were, and so
-- are PARENT and KID of the cells that are there. A split and a merge leave what seats hold.
use Rattle.tj_words.proofs.Prelude.{IsBegun, SeesOwner, SeesPhase, inl, inr, Bool, IfRecord, IsIdle, KeepsHoldings}
use Rattle.tj_words.proofs.Prelude.{List, LoadsOnly, MakesWith, MayPutOnce, None, Option, Program, PutsOnce, SeatMe}
use Rattle.tj_words.proofs.Prelude.{SeatsHave, SeesOnce, SlotsOf, Some, State, Step, [], ap, arith, at_map, both}
use Rattle.tj_words.proofs.Prelude.{contents_of, dite, get_elem?, hand_of, head_in, head_load, keeps, left_half}
use Rattle.tj_words.proofs.Prelude.{live_load, lowered_with, map, push_exchange, raised_with, refl, right_half}
use Rattle.tj_words.proofs.Prelude.{seats_have, set, shut_swap, some, spent, subst, sym, total, true, words_say, ℕ}
use Rattle.tj_words.proofs.Prelude.{ℕ_discrete, ⊎_elim, ◌++◌, ◌+◌, ◌∙◌, ◌∷◌, ◌≡◌, ◌≢◌, ◌⊎◌}
use Rattle.tj_words.specs.declared.offsets.Once.{Once}
use Rattle.tj_words.specs.declared.phase.Phase.{Phase}
use Rattle.tj_record.specs.declared.record.Rec.{Rec}
use Rattle.tj_words.specs.declared.view.Custody.{Custody}
use Rattle.tj_words.specs.declared.view.Hand.{Hand}
use Rattle.tj_words.specs.declared.view.Rest.{Rest}
use Rattle.tj_words.specs.declared.view.View.{View}
use Rattle.tj_words.proofs.SeatLoads.MetCells.{begun_or}
use Rattle.tj_words.proofs.Lemmas.{hand_finds, none_some, parts_of, same_field}
use Rattle.tj_words.proofs.Seating.Appending.{find_snoc, hand_snoc, making_snoc, total_snoc}
use Rattle.tj_words.proofs.Waiters.ChainsSaid.{shut_or}
use Rattle.tj_words.proofs.Seating.Splitting.{halves}
use Rattle.tj_words.specs.declared.offsets.Once.TheVariants as once

module _ {B : Type 0} where
  -- what the core state shows of a view
  abbrev shown : View B → Option Hand × List (Custody B) × ℕ
  shown v = (v.hand, v.tasks, v.cleared)

  -- of the views the core state shows the same, and one that has loaded LIVE as 0 has still
  abbrev pub ShowsSame : View B → View B → Type 0
  ShowsSame v w = (shown w ≡ shown v) × (v.rested ≡ true → w.rested ≡ true)

  -- hands, tasks, waits cleared and slots stay
  module _ (s t : State (Option (Rec B)) (View B)) (id i n : ℕ) (m m' : SeatMe B)
      (h : MakesWith keeps id i n m m' s t) where
    pub holdings : ShowsSame m.0 m'.0 → KeepsHoldings (contents_of s) (contents_of t)
    holdings q = record {
      slots = ap (λ (z : State (Option (Rec B)) (View B)). z.homes) h.after;
      hands = ap (λ (z : State (Option (Rec B)) (View B)). map (λ (v : View B). v.hand) z.views) h.after
          ∙ same_field (λ (v : View B). v.hand) s.views id m.0 m'.0 h.at (ap (λ z. z.0) q.0);
      tasks = ap (λ (z : State (Option (Rec B)) (View B)). map (λ (v : View B). v.tasks) z.views) h.after
          ∙ same_field (λ (v : View B). v.tasks) s.views id m.0 m'.0 h.at (ap (λ z. z.1) q.0);
      cleared = ap (λ (z : State (Option (Rec B)) (View B)). map (λ (v : View B). v.cleared) z.views) h.after
          ∙ same_field (λ (v : View B). v.cleared) s.views id m.0 m'.0 h.at (ap (λ z. z.2) q.0);
    }

  -- a view that is one that shows the same
  pub as_it_was : (v w u : View B) → w ≡ u → shown u ≡ shown v → u.rested ≡ v.rested → ShowsSame v w
  as_it_was v w u e same rests = (ap shown e ∙ same, λ r. ap (λ (z : View B). z.rested) e ∙ (rests ∙ r))

  -- what each play of a load tells
  pub head_same : (program : Bool → B → Program B) (cells c n : ℕ) (st : Step (Option (Rec B))) (m m' : SeatMe B)
      → head_load program cells c st m n m' → ShowsSame m.0 m'.0
  head_same program cells c n st m m' h = ⊎_elim (λ e. as_it_was m.0 m'.0 _ (h.2 e).view refl refl)
      (λ e. as_it_was m.0 m'.0 _ (h.3 e).view refl refl) (shut_or (head_in n))

  pub push_same : (program : Bool → B → Program B) (cells p n : ℕ) (st : Step (Option (Rec B))) (m m' : SeatMe B)
      → n ≢ st.first → push_exchange program cells p st m n m' → ShowsSame m.0 m'.0
  push_same program cells p n st m m' f h = head_same program cells p n st m m' (h.0, h.1, h.3 f, h.4 f)

  pub live_same : (n : ℕ) (st : Step (Option (Rec B))) (m m' : SeatMe B) → live_load st m n m' → ShowsSame m.0 m'.0
  live_same n st m m' h = dite (ℕ_discrete n 0)
      (λ e. (ap shown (h.1 e), λ r. ap (λ (v : View B). v.rested) (h.1 e)))
      (λ e. as_it_was m.0 m'.0 _ (h.2 e) refl refl)

  pub once_same : (program : Bool → B → Program B) (cells c n : ℕ) (f : Once) (v w : View B)
      → SeesOnce program cells f c n v w → ShowsSame v w
  once_same program cells c n once.Tag v w h = dite (ℕ_discrete n 0)
      (λ e. as_it_was v w _ (h.0 e).view refl refl)
      (λ e. as_it_was v w _ (h.1 e).0.view refl refl)
  once_same program cells c n f v w h = as_it_was v w _ h.view refl refl

  pub owner_same : (cells c : ℕ) (o : Option ℕ) (v w : View B) → SeesOwner cells c o v w → ShowsSame v w
  owner_same cells c None v w h = as_it_was v w _ h refl refl
  owner_same cells c (Some u) v w h = as_it_was v w _ h.view refl refl

  pub phase_same : (cells t : ℕ) (p : Phase) (v w : View B) → SeesPhase cells t p v w → ShowsSame v w
  phase_same cells t p v w h = by v.rest refl (begun_or p)
    where
      by : (o : Option Rest) → v.rest ≡ o → IsBegun p ⊎ (¬ IsBegun p) → ShowsSame v w
      by None e (inl b) = as_it_was v w _ (h.0 e b).view refl refl
      by None e (inr b) = as_it_was v w _ (h.1 (inr b)) refl refl
      by (Some q) e b = as_it_was v w _ (h.1 (inl (λ z. none_some v.rest q z e))) refl refl

  -- the store of a word that is written once
  pub put_same : (program : Bool → B → Program B) (c n : ℕ) (f : Once) (v w : View B) → MayPutOnce program f c n v
      → PutsOnce program f c n v w → ShowsSame v w
  put_same program c n once.Tag v w m p = as_it_was v w _ (p m) refl refl
  put_same program c n once.Bits v w m p = as_it_was v w _ (p m) refl refl
  put_same program c n f v w m p = as_it_was v w _ p refl refl

  -- LIVE up and down, where no record comes home
  raised_same : (v : View B) (slots : SlotsOf B) → IfRecord (λ t r. ⊥) slots → ShowsSame v (raised_with v slots).0
  raised_same v slots h = grind arith

  lowered_same : (v : View B) (slots : SlotsOf B) → IfRecord (λ t r. ⊥) slots → ShowsSame v (lowered_with v slots).0
  lowered_same v slots h = grind arith

  pub raise_same : (m m' : SeatMe B) → m' ≡ raised_with m.0 m.1 → IfRecord (λ t r. ⊥) m.1 → ShowsSame m.0 m'.0
  raise_same m m' e h = subst (λ (z : SeatMe B). ShowsSame m.0 z.0) (sym e) (raised_same m.0 m.1 h)

  pub lower_same : (m m' : SeatMe B) → m' ≡ lowered_with m.0 m.1 → IfRecord (λ t r. ⊥) m.1 → ShowsSame m.0 m'.0
  lower_same m m' e h = subst (λ (z : SeatMe B). ShowsSame m.0 z.0) (sym e) (lowered_same m.0 m.1 h)

  pub shut_same : (cells p n : ℕ) (st : Step (Option (Rec B))) (m m' : SeatMe B) → shut_swap cells p st m n m'
      → ShowsSame m.0 m'.0
  shut_same cells p n st m m' h = ⊎_elim (λ e. as_it_was m.0 m'.0 _ (h.2 e) refl refl)
      (λ e. as_it_was m.0 m'.0 _ (h.3 e).view refl refl) (shut_or (head_in n))

  -- who stores a word that is written once stores none of PARENT and KID of the cells that are there
  module _ (program : Bool → B → Program B) (c n : ℕ) (s : State (Option (Rec B)) (View B)) (id : ℕ) (v : View B)
      (at : get_elem? s.views id ≡ some v) (d : ℕ) (out : hand_of (contents_of s) d ≡ None) where
    not_in_hand : (g : Hand) → v.hand ≡ Some g → g.cell ≡ c → d ≢ c
    not_in_hand g has its_cell e = none_some (hand_of (contents_of s) d) found.0 out
        (ap (hand_of (contents_of s)) (e ∙ sym its_cell) ∙ found.1)
      where
        found : (k : Hand) × (hand_of (contents_of s) g.cell ≡ Some k)
        found = hand_finds (seats_have s.views).hands id g
            (at_map (λ (w : View B). w.hand) s.views id v at ∙ ap some has)

    pub writes_apart : (f : Once) → MayPutOnce program f c n v
        → (d ≢ c) ⊎ ((once.Parent ≢ f) × (once.Kid ≢ f))
    writes_apart f may = grind (arith, not_in_hand)

  -- a split leaves all that the core state is shown by
  pub split_parts : (cells : ℕ) (s : State (Option (Rec B)) (View B)) (id : ℕ) (v : View B)
      → get_elem? s.views id ≡ some v
      → parts_of cells (contents_of (record {
        words = s.words;
        homes = s.homes;
        views = set s.views id (left_half v) ++ right_half v ∷ [];
      })) ≡ parts_of cells (contents_of s)
  split_parts cells s id v at = ap (λ (z : SeatsHave B). parts_of cells (record {
    words = words_say s.words;
    slots = s.homes;
    seats = z;
  })) (halves s.views id v at) ∙ (λ j. record (parts_of cells (contents_of s)) {
    hand = λ c. hand_snoc old.hands c j;
    making = λ t. making_snoc old.hands t j;
    held = λ t. find_snoc old.tasks t j;
    cleared = (total_snoc old.cleared 0 ∙ no_more (total old.cleared)) j;
  })
    where
      old : SeatsHave B
      old = seats_have s.views

      no_more : (n : ℕ) → n + 0 ≡ n
      no_more n = omega arith

  -- a merge of an idle seat is like a load
  pub merge_merges : (s : State (Option (Rec B)) (View B)) (id other : ℕ) (v w : View B)
      → get_elem? s.views id ≡ some v → get_elem? (set s.views id (both v w)) other ≡ some w → IsIdle w
      → LoadsOnly (contents_of s) (contents_of (record {
        words = s.words;
        homes = s.homes;
        views = set (set s.views id (both v w)) other spent;
      }))
  merge_merges s id other v w at there idle = record {
    words = refl;
    keeps = record {
      slots = refl;
      hands = same (λ (u : View B). u.hand) refl (sym idle.hand);
      tasks = same (λ (u : View B). u.tasks) refl (sym idle.tasks);
      cleared = same (λ (u : View B). u.cleared) refl (sym idle.cleared);
    };
  }
    where
      same : {A : Type 0} (f : View B → A) → f (both v w) ≡ f v → f spent ≡ f w
          → map f (set (set s.views id (both v w)) other spent) ≡ map f s.views
      same f a b = same_field f (set s.views id (both v w)) other w spent there b
          ∙ same_field f s.views id v (both v w) at a
