-- What each call leaves of its seat's view: one that has loaded LIVE as 0 has done so afterwards, and a cell that isn't
-- in the seat's hand stays out of it, where a draw finds another cell.
use Rattle.tj_words.proofs.Prelude.{Bool, MayPutOwner, MaySwap, None, Option, Program, PutsOwner, PutsPhase, SeatMe}
use Rattle.tj_words.proofs.Prelude.{SlotsOf, Some, Sort, Step, StepCall, Swaps, ap, arith, dec_le, dite, draw_step}
use Rattle.tj_words.proofs.Prelude.{false, lowered_with, mark, owner_in, phase_in, raised_with, refl, subst, sym}
use Rattle.tj_words.proofs.Prelude.{told_by, true, ℕ, ℕ_discrete, ⊎_elim, ◌∙◌, ◌≡◌, ◌≢◌}
use Rattle.tj_words.specs.declared.phase.Phase.{Phase}
use Rattle.tj_record.specs.declared.record.Rec.{Rec}
use Rattle.tj_words.specs.declared.view.Hand.{Hand}
use Rattle.tj_words.specs.declared.view.View.{View}
use Rattle.tj_runs.proofs.CallChanges.{ShowsSame, head_same, live_same, once_same, push_same, put_same}
use Rattle.tj_runs.proofs.CallChanges.{owner_same, phase_same, shut_same}
use Rattle.tj_words.specs.declared.phase.Phase.TheVariants as phase
use Rattle.tj_words.specs.declared.phase.Walk.TheVariants as walk
use Rattle.tj_words.specs.CallLaws.StepCalls as call

-- the cell isn't in this hand
abbrev pub IsOut : ℕ → Option Hand → Type 0
IsOut c o = (h : Hand) → o ≡ Some h → h.cell ≢ c

mark_out : (c : ℕ) (o : Option Hand) → IsOut c o → IsOut c (mark o)
mark_out c o out h e = grind arith

module _ {B : Type 0} (c : ℕ) where
  -- from the view v on a seat keeps that it has loaded LIVE as 0, and that the cell is out of its hand
  abbrev pub Leaves : View B → View B → Type 0
  Leaves v w = (v.rested ≡ true → w.rested ≡ true) × (IsOut c v.hand → IsOut c w.hand)

  by_view : (v w u : View B) → w ≡ u → u.rested ≡ v.rested → u.hand ≡ v.hand → Leaves v w
  by_view v w u e rests same = (
    (λ r. ap (λ (x : View B). x.rested) e ∙ (rests ∙ r)),
    (λ out h q. out h (sym same ∙ (ap (λ (x : View B). x.hand) (sym e) ∙ q))),
  )

  by_me : (m m' n : SeatMe B) → m' ≡ n → n.0.rested ≡ m.0.rested → n.0.hand ≡ m.0.hand → Leaves m.0 m'.0
  by_me m m' n e rests same = by_view m.0 m'.0 n.0 (ap (λ (x : SeatMe B). x.0) e) rests same

  by_shown : (v w : View B) → ShowsSame v w → Leaves v w
  by_shown v w q = (q.1, λ out h z. out h (sym (ap (λ x. x.0) q.0) ∙ z))

  module _ (program : Bool → B → Program B) (cells : ℕ) where
    drawn : (t : ℕ) (o : Sort) (st : Step (Option (Rec B))) (m m' : SeatMe B) (k : ℕ) → c ≢ k
        → draw_step program cells t o st m k m' → Leaves m.0 m'.0
    drawn t o st m m' k apart h = dite (dec_le cells k)
        (λ l. by_view m.0 m'.0 _ (h.1 l).0.view refl refl)
        (λ l. let f = (h.0 (omega arith)).0 in (
          (λ r. ap (λ (x : View B). x.rested) f.view ∙ r),
          (λ out g q z.
              let y : Some (record { cell = k; maker = t; sort = o; marked = false }) ≡ Some g
              = sym (ap (λ (x : View B). x.hand) f.view) ∙ q in
              let d : record { cell = k; maker = t; sort = o; marked = false } ≡ g = cc in
              apart (sym (ap (λ (x : Hand). x.cell) d ∙ z))),
        ))

    put_owner : (o : Option ℕ) (d : ℕ) (v w : View B) → MayPutOwner d o v → PutsOwner d o v w → Leaves v w
    put_owner None d v w m p = by_view v w _ (p m) refl refl
    put_owner (Some u) d v w m p = ⊎_elim
        (λ g. (
          (λ r. ap (λ (x : View B). x.rested) (p.0 g) ∙ r),
          (λ out h q. let y : None ≡ Some h = sym (ap (λ (x : View B). x.hand) (p.0 g)) ∙ q in absurd (cc)),
        ))
        (λ g. by_view v w _ (p.1 g) refl refl) m

    put_phase : (q : Phase) (t : ℕ) (m m' : SeatMe B) → PutsPhase t q m m' → Leaves m.0 m'.0
    put_phase phase.Unborn t m m' p = absurd p
    put_phase phase.Running t m m' p = absurd p
    put_phase phase.Promise t m m' p = (
      (λ r. ap (λ (x : SeatMe B). x.0.rested) p ∙ r),
      (λ out h q. mark_out c m.0.hand out h (sym (ap (λ (x : SeatMe B). x.0.hand) p) ∙ q)),
    )
    put_phase (phase.Waiting d way walk.Walking) t m m' p = by_me m m' _ p refl refl
    put_phase q t m m' p = by_me m m' _ p refl refl

    swapped : (t : ℕ) (was to : Phase) (m m' : SeatMe B) → MaySwap t was to m.0 → Swaps program t was to m m'
        → Leaves m.0 m'.0
    swapped t was to m m' may s = ⊎_elim
        (λ q. let r = s.claims q.0 in by_me m m' _ r.2 refl refl)
        (λ q. ⊎_elim
        (λ w. by_me m m' _ (s.wakes q.0 q.1 q.2 w.0) refl refl)
        (λ w. let r = s.goes_back q.0 q.1 q.2 w.0 in by_me m m' _ r.3 refl refl) q.3) may

    raised : (v : View B) (slots : SlotsOf B) → Leaves v (raised_with v slots).0
    raised v slots = grind arith

    lowered : (v : View B) (slots : SlotsOf B) → Leaves v (lowered_with v slots).0
    lowered v slots = grind arith

    -- so is each call
    pub leaves : (a : StepCall) (n k : ℕ) (st : Step (Option (Rec B))) (m m' : SeatMe B)
        → ((t : ℕ) (o : Sort) → a ≡ call.draws t o → c ≢ k) → told_by program cells a n st m k m' → Leaves m.0 m'.0
    leaves (call.draws t o) n k st m m' new h = drawn t o st m m' k (new t o refl) h.1
    leaves (call.puts_once d f) n k st m m' new h =
        by_shown m.0 m'.0 (put_same program d st.first f m.0 m'.0 h.1.0 h.1.2)
    leaves (call.sees_once d f) n k st m m' new h = by_shown m.0 m'.0 (once_same program cells d k f m.0 m'.0 h.1.1)
    leaves (call.puts_owner d) n k st m m' new h = put_owner (owner_in st.first) d m.0 m'.0 h.1.0 h.1.1.1
    leaves (call.puts_phase t) n k st m m' new h = put_phase (phase_in st.first) t m m' h.1
    leaves (call.swaps_phase t) n k st m m' new h = dite (ℕ_discrete k st.first)
        (λ e. swapped t (phase_in st.first) (phase_in st.second) m m' h.2.0 (h.2.1.0 e))
        (λ e. by_me m m' _ (h.2.1.1 e).1 refl refl)
    leaves call.raises_live n k st m m' new h = subst (λ (z : SeatMe B). Leaves m.0 z.0) (sym h.1) (raised m.0 m.1)
    leaves call.lowers_live n k st m m' new h = subst (λ (z : SeatMe B). Leaves m.0 z.0) (sym h.1) (lowered m.0 m.1)
    leaves call.sees_live n k st m m' new h = by_shown m.0 m'.0 (live_same k st m m' h.1)
    leaves call.stops n k st m m' new h = by_me m m' _ h.1.0 refl refl
    leaves (call.sees_head p) n k st m m' new h = by_shown m.0 m'.0 (head_same program cells p k st m m' h.1)
    leaves (call.pushes p) n k st m m' new h = dite (ℕ_discrete k st.first)
        (λ e. by_view m.0 m'.0 _ (h.2.2 e) refl refl)
        (λ e. by_shown m.0 m'.0 (push_same program cells p k st m m' e h.2))
    leaves (call.shuts p) n k st m m' new h = by_shown m.0 m'.0 (shut_same cells p k st m m' h.1)
    leaves (call.sees_owner d) n k st m m' new h =
        by_shown m.0 m'.0 (owner_same cells d (owner_in k) m.0 m'.0 h.1.1)
    leaves (call.sees_phase t) n k st m m' new h =
        by_shown m.0 m'.0 (phase_same cells t (phase_in k) m.0 m'.0 h.1.1)
    leaves call.counts n k st m m' new h = by_view m.0 m'.0 _ h.1.1 refl refl
    leaves a n k st m m' new h = by_view m.0 m'.0 _ h.1.1 refl refl
