-- What never changes in a run of a table. A word stays, or the call is one of those that store into it, and what such
-- a call asks of its seat can't be so where the law says that the word is written for good.
use Rattle.tj_words.proofs.Prelude.{AreMoments, Bool, Contents, Each, IsCallStep, IsDue, IsOfTree, IsTableStep}
use Rattle.tj_words.proofs.Prelude.{IsThere, List, MayPutOnce, MayPutOwner, None, Option, Program, Ruled, Some, Sort}
use Rattle.tj_words.proofs.Prelude.{State, [], ap, arith, at_map, both, cond, contents_of, count_at, drawn_in}
use Rattle.tj_words.proofs.Prelude.{hand_in, hand_of, head_in, inl, inr, last_moment, left_half, map, ne_eqb, once_at}
use Rattle.tj_words.proofs.Prelude.{own_at, owner_in, place_of, refl, right_half, set, spent, subst, suc, sym, word}
use Rattle.tj_words.proofs.Prelude.{ℕ, ⊎_elim, ◌∙◌, ◌∷◌, ◌≡◌, ◌≢◌, ◌⊎◌}
use Rattle.tj_words.specs.declared.offsets.Once.{Once}
use Rattle.tj_record.specs.declared.record.Rec.{Rec}
use Rattle.tj_words.specs.declared.table.Key.{Key}
use Rattle.tj_words.specs.declared.view.Hand.{Hand}
use Rattle.tj_words.specs.declared.view.View.{View}
use Rattle.tj_words.proofs.Lemmas.{TableWord, each_set, index}
use Rattle.tj_runs.proofs.CallStores.{step_stays}
use Rattle.tj_runs.specs.LastingWords.{AreOpenPushes, CellsAreForGood, ClosesAreForGood, CellsStay}
use Rattle.tj_runs.specs.LastingWords.{CountNeverFalls, CountStays, IsOpenPush, NobodyStays, ShutHeadsStay}
use Rattle.tj_runs.specs.LastingWords.{ShutsAreForGood, TreeWordsAreForGood, TreeWordsStay, ValuesAreForGood}
use Rattle.tj_runs.specs.LastingWords.{ValuesStay}
use Rattle.tj_words.proofs.SeatLoads.KnowLoads.{hand_not}
use Rattle.tj_runs.proofs.MomentLaws.{owner_is}
use Rattle.tj_words.proofs.Stores.SeatLists.{each_snoc}
use Rattle.tj_runs.proofs.CallViews.{leaves, IsOut}
use Rattle.tj_runs.proofs.CallStores.{IsStoredBy}
use Rattle.tj_words.specs.declared.offsets.Once.TheVariants as once
use Rattle.tj_words.specs.CallLaws.StepCalls as call
use Rattle.tj_words.proofs.Stores.TableWords as table_word

-- it is in none, where it isn't in the first and in none of the others
not_first : (c : ℕ) (o : Option Hand) (hands : List (Option Hand)) → IsOut c o → hand_in hands c ≡ None
    → hand_in (o ∷ hands) c ≡ None
not_first c None hands out e = e
not_first c (Some h) hands out e =
    ap (λ (b : Bool). cond b (Some h) (hand_in hands c)) (ne_eqb h.cell c (out h refl)) ∙ e

module _ {B : Type 0} (c : ℕ) where
  -- the cell is out of the hands of all seats with these views
  abbrev AreOut : List (View B) → Type 0
  AreOut views = Each (λ j (v : View B). IsOut c v.hand) views

  abbrev hands_of : List (View B) → List (Option Hand)
  hands_of views = map (λ (v : View B). v.hand) views

  all_out : (views : List (View B)) → hand_in (hands_of views) c ≡ None → AreOut views
  all_out views e j v at h is z = hand_not (hands_of views) c j e
      (v.hand, at_map (λ (u : View B). u.hand) views j v at, (h, is, z))

  none_in : (views : List (View B)) → AreOut views → hand_in (hands_of views) c ≡ None
  none_in [] out = refl
  none_in (v ∷ vs) out = not_first c v.hand (hands_of vs) (out 0 v refl) (none_in vs (λ j u at. out (suc j) u at))

module _ {B : Type 0} (program : Bool → B → Program B) (key : Key B) where
  abbrev Table : Type 0
  Table = State (Option (Rec B)) (View B)

  abbrev The : Table → Contents B
  The s = contents_of s

  module _ (u : Ruled program key) (t : Table) where
    abbrev ws : List ℕ
    ws = u.now.words

    -- a call between, and what the law says of it
    module _ (k : IsCallStep program key u.now t) where
      -- the seat hasn't a cell in hand that is there
      not_mine : (c : ℕ) → IsThere (drawn_in key.cells (The u.now)) (hand_of (The u.now)) c → IsOut c k.seat.0.hand
      not_mine c there = all_out c u.now.views there.1 k.id k.seat.0 k.makes.at

      no_write : (c : ℕ) (f : Once) → IsOfTree f → IsOut c k.seat.0.hand
          → ¬ MayPutOnce program f c k.operands.first k.seat.0
      no_write c f tree out may = grind (arith, out)

      mine : (c : ℕ) (f : Once) → IsDue c f k.seat.0.dues → u.rule.law.once_words.due_to c f ≡ Some k.id
      mine c f due = u.rule.law.once_words.dues_mine k.id k.seat.0.dues
          (at_map (λ (w : View B). w.dues) u.now.views k.id k.seat.0 k.makes.at) (record { cell = c; word = f }) due

      -- a word that is due isn't written yet
      unwritten : (c : ℕ) (f : Once) → IsDue c f k.seat.0.dues → word ws (once_at c f) ≡ 0
      unwritten c f due = u.rule.law.once_words.unwritten c k.id f (mine c f due)

      -- and BITS is due only while TAG is
      no_tag : (c : ℕ) → IsDue c once.Bits k.seat.0.dues → word ws (once_at c once.Tag) ≡ 0
      no_tag c due = let o = u.rule.law.once_words in o.unwritten c k.id once.Tag
          ((o.may_be_due c k.id once.Bits (mine c once.Bits due)).tag_last (λ z. z))

      -- nobody gives a cell that nobody owns
      no_gift : (c : ℕ) (o : Option ℕ) → IsThere (drawn_in key.cells (The u.now)) (hand_of (The u.now)) c
          → owner_in (word ws (own_at c)) ≡ None → MayPutOwner c o k.seat.0 → o ≡ None
      no_gift c None there free may = refl
      no_gift c (Some d) there free may = ⊎_elim
          (λ g. absurd (not_mine c there g.hand g.has g.its_cell))
          (λ g. let e = owner_is program key u k.id k.seat.0 k.makes.at c g.task g.owner.custody g.owner.held
          g.owner.owns in
          let y : Some g.task ≡ None = sym (ap owner_in e) ∙ free in absurd (cc)) may

    module _ (a : IsTableStep program key u.now t) where
      -- a word stays, or the step is a call that may store this there
      its : (x : TableWord) → (word t.words (index x) ≡ word ws (index x)) ⊎ IsStoredBy program key u.now t a x
      its x = step_stays program key u.now t a x

      step_counts : CountStays key.cells (The u.now) (The t)
      step_counts = ⊎_elim (λ e. omega (arith, e)) (λ p. let q = p.2 in let n = p.3 in omega (arith, q, n))
          (its table_word.Count)

      step_shuts : IsOpenPush program key u.now t a → ShutHeadsStay key.cells (The u.now) (The t)
      step_shuts unshut p shut = ⊎_elim (λ e. ap head_in e ∙ shut)
          (λ q. let here : IsOpenPush program key u.now t (inl q.0)
          = subst (IsOpenPush program key u.now t) q.1 unshut in
          ⊎_elim (λ e. ap head_in (q.2 ∙ e)) (λ e. absurd (here p e.0 (ap head_in (sym e.1) ∙ shut))) q.3)
          (its (table_word.Head p))

    -- a cell that is there stays out of all hands
    views_out : (c : ℕ) → IsThere (drawn_in key.cells (The u.now)) (hand_of (The u.now)) c
        → IsTableStep program key u.now t → AreOut c t.views
    views_out c there a = by a where
      out : AreOut c u.now.views
      out = all_out c u.now.views there.1

      new : (k : IsCallStep program key u.now t) (d : ℕ) (o : Sort) → k.call ≡ call.draws d o
          → c ≢ word ws (place_of k.call)
      new k d o e z = let l = there.0 in let q : place_of k.call ≡ count_at = ap place_of e in
          let y : c ≡ word ws count_at = z ∙ ap (word ws) q in omega arith

      by : IsTableStep program key u.now t → AreOut c t.views
      by (inl k) = subst (λ (z : Table). AreOut c z.views) (sym k.makes.after)
          (each_set _ u.now.views k.id k.seat_after.0 out
          ((leaves c program key.cells k.call k.number (word ws (place_of k.call)) k.operands k.seat k.seat_after
          (new k) k.told).1 (out k.id k.seat.0 k.makes.at)))
      by (inr (inl p)) = subst (λ (z : Table). AreOut c z.views) (sym p.after)
          (each_snoc _ (set u.now.views p.id (left_half p.view)) (right_half p.view)
          (each_set _ u.now.views p.id (left_half p.view) out (out p.id p.view p.at)) (λ j h e. absurd (cc)))
      by (inr (inr p)) = subst (λ (z : Table). AreOut c z.views) (sym p.after)
          (each_set _ (set u.now.views p.id (both p.view p.taken)) p.other spent
          (each_set _ u.now.views p.id (both p.view p.taken) out (out p.id p.view p.at)) (λ h e. absurd (cc)))

  -- what lasts from one moment to a later one
  record Lasts (x y : Contents B) : Type 0 where
    values : ValuesStay key.cells x y
    count : CountStays key.cells x y
    there : CellsStay key.cells x y
    closes : NobodyStays key.cells x y
    trees : TreeWordsStay key.cells x y

  step_lasts : (u : Ruled program key) (t : Table) → IsTableStep program key u.now t → Lasts (The u.now) (The t)
  step_lasts u t a = record {
    values = λ c has. (
      ⊎_elim (λ e. e) (λ p. absurd (has (unwritten u t p.0 c once.Tag p.3.due)))
          (its u t a (table_word.Written c once.Tag)),
      ⊎_elim (λ e. e) (λ p. absurd (has (no_tag u t p.0 c p.3.due))) (its u t a (table_word.Written c once.Bits)),
    );
    count = step_counts u t a;
    there = λ c there. (
      (let q = step_counts u t a in let l = there.0 in omega arith),
      none_in c t.views (views_out u t c there a),
    );
    closes = λ c there free. ⊎_elim (λ e. ap owner_in e ∙ free)
        (λ p. ap owner_in (p.2 ∙ p.3.0) ∙ no_gift u t p.0 c (owner_in p.0.operands.first) there free p.3.1)
        (its u t a (table_word.Own c));
    trees = λ c f tree there. ⊎_elim (λ e. e)
        (λ p. absurd (no_write u t p.0 c f tree (not_mine u t p.0 c there) p.3)) (its u t a (table_word.Written c f));
  }

  -- so it is of a run
  lasting : (u : Ruled program key) (later : List (Ruled program key)) → AreMoments program key u later
      → Lasts (The u.now) (The (last_moment program key u later).now)
  lasting u [] a = record {
    values = λ c has. (refl, refl);
    count = omega arith;
    there = λ c there. there;
    closes = λ c there free. free;
    trees = λ c f tree there. refl;
  }
  lasting u (w ∷ ws) a = let f = step_lasts u w.now a.0 in let g = lasting w ws a.1 in record {
    values = λ c has. let p = f.values c has in let q = g.values c (λ e. has (sym p.0 ∙ e)) in (q.0 ∙ p.0, q.1 ∙ p.1);
    count = (let m = f.count in let n = g.count in omega arith);
    there = λ c there. g.there c (f.there c there);
    closes = λ c there free. g.closes c (f.there c there) (f.closes c there free);
    trees = λ c w tree there. g.trees c w tree (f.there c there) ∙ f.trees c w tree there;
  }

  shuts_stay : (u : Ruled program key) (later : List (Ruled program key)) (a : AreMoments program key u later)
      → AreOpenPushes program key u later a
      → ShutHeadsStay key.cells (The u.now) (The (last_moment program key u later).now)
  shuts_stay u [] a unshut = λ p shut. shut
  shuts_stay u (w ∷ ws) a unshut = λ p shut. shuts_stay w ws a.1 unshut.1 p (step_shuts u w.now a.0 unshut.0 p shut)

pub values_for_good : (B : Type 0) → ValuesAreForGood B
values_for_good B program key u later a = (lasting program key u later a).values

pub shuts_for_good : (B : Type 0) → ShutsAreForGood B
shuts_for_good B program key u later a unshut = shuts_stay program key u later a unshut

pub count_never_falls : (B : Type 0) → CountNeverFalls B
count_never_falls B program key u later a = (lasting program key u later a).count

pub cells_for_good : (B : Type 0) → CellsAreForGood B
cells_for_good B program key u later a = (lasting program key u later a).there

pub closes_for_good : (B : Type 0) → ClosesAreForGood B
closes_for_good B program key u later a = (lasting program key u later a).closes

pub trees_for_good : (B : Type 0) → TreeWordsAreForGood B
trees_for_good B program key u later a = (lasting program key u later a).trees
