-- What each call leaves of the records that its seat's view says it put home: they are those of before, or one more,
-- which has no finish unless the call is the store of Ended for its task.
use Rattle.std.proofs.Common.{◌≡◌, ◌⊎◌, ◌∙◌, ℕ, Bool, [], ◌∷◌, Option, Some, None}
use Rattle.std.proofs.Common.{refl, sym, ap, subst, inl, inr, ⊎_elim, arith}
use mathlib.Core.Logic.{dite}
use native.Mathlib.Decide.{dec_le, ℕ_discrete}
use Rattle.atomic_table.specs.Table.{Step, rest}
use Rattle.tj_base.specs.declared.cell.Sort.{Sort}
use Rattle.tj_body.specs.Points.{IsIn}
use Rattle.tj_body.specs.Programs.{Program}
use Rattle.tj_record.specs.declared.record.Rec.{Rec}
use Rattle.tj_words.specs.CallLaws.CallRuns.{asked_by}
use Rattle.tj_words.specs.CallLaws.StepCalls.{StepCall, told_by}
use Rattle.tj_words.specs.CallLaws.StepCalls as call
use Rattle.tj_words.specs.Calls.ChainSteps.{shut_swap}
use Rattle.tj_words.specs.Calls.DrawViews.{draw_step}
use Rattle.tj_words.specs.Calls.EntryViews.{MayPutOnce, PutsOnce}
use Rattle.tj_words.specs.Calls.ExchangeViews.{MaySwap, Swaps}
use Rattle.tj_words.specs.Calls.LiveViews.{IfRecord, LaysChild, Shelves, SlotsOf, lowered_with, put_with, raised_with}
use Rattle.tj_words.specs.Calls.MetCells.{SeesOwner, SeesPhase}
use Rattle.tj_words.specs.Calls.OwnerViews.{MayPutOwner, PutsOwner}
use Rattle.tj_words.specs.Calls.PhaseViews.{MayPutPhase, PutsPhase}
use Rattle.tj_words.specs.SeatViews.SeatSteps.{SeatMe, live_load}
use Rattle.tj_words.specs.SeatViews.SeenWords.{SeesOnce, head_load}
use Rattle.tj_words.specs.Steps.StepEvents.{IsBegun}
use Rattle.tj_words.specs.Words.Heads.{head_in}
use Rattle.tj_words.specs.Words.Owners.{owner_in}
use Rattle.tj_words.specs.Words.Phases.{phase_in}
use Rattle.tj_words.specs.declared.offsets.Once.{Once}
use Rattle.tj_words.specs.declared.offsets.Once.TheVariants as once
use Rattle.tj_words.specs.declared.phase.Phase.{Phase}
use Rattle.tj_words.specs.declared.phase.Phase.TheVariants as phase
use Rattle.tj_words.specs.declared.phase.Walk.TheVariants as walk
use Rattle.tj_words.specs.declared.table.Key.{Key}
use Rattle.tj_words.specs.declared.view.Rest.{Rest}
use Rattle.tj_words.specs.declared.view.View.{View}
use Rattle.tj_words.proofs.Lemmas.{none_some}
use Rattle.tj_words.proofs.SeatLoads.MetCells.{begun_or}
use Rattle.tj_words.proofs.Waiters.ChainsSaid.{shut_or}
use Rattle.tj_runs.specs.HomeRecords.{HasFinish}

module _ {B : Type 0} where
  -- both views say the same of the records put home
  abbrev PutsNone : View B → View B → Type 0
  PutsNone v w = w.put_home ≡ v.put_home

  by_view : (v w u : View B) → w ≡ u → u.put_home ≡ v.put_home → PutsNone v w
  by_view v w u e same = ap (λ (x : View B). x.put_home) e ∙ same

  by_me : (m m' n : SeatMe B) → m' ≡ n → n.0.put_home ≡ m.0.put_home → PutsNone m.0 m'.0
  by_me m m' n e same = ap (λ (x : SeatMe B). x.0.put_home) e ∙ same

  once_none : (program : Bool → B → Program B) (cells c n : ℕ) (f : Once) (v w : View B)
      → SeesOnce program cells f c n v w → PutsNone v w
  once_none program cells c n once.Tag v w h = dite (ℕ_discrete n 0)
      (λ e. by_view v w _ (h.0 e).view refl)
      (λ e. by_view v w _ (h.1 e).0.view refl)
  once_none program cells c n f v w h = by_view v w _ h.view refl

  owner_none : (cells c : ℕ) (o : Option ℕ) (v w : View B) → SeesOwner cells c o v w → PutsNone v w
  owner_none cells c None v w h = by_view v w _ h refl
  owner_none cells c (Some u) v w h = by_view v w _ h.view refl

  phase_none : (cells t : ℕ) (p : Phase) (v w : View B) → SeesPhase cells t p v w → PutsNone v w
  phase_none cells t p v w h = by v.rest refl (begun_or p)
    where
      by : (o : Option Rest) → v.rest ≡ o → IsBegun p ⊎ (¬ IsBegun p) → PutsNone v w
      by None e (inl b) = by_view v w _ (h.0 e b).view refl
      by None e (inr b) = by_view v w _ (h.1 (inr b)) refl
      by (Some q) e b = by_view v w _ (h.1 (inl (λ z. none_some v.rest q z e))) refl

  word_none : (program : Bool → B → Program B) (c n : ℕ) (f : Once) (v w : View B) → MayPutOnce program f c n v
      → PutsOnce program f c n v w → PutsNone v w
  word_none program c n once.Tag v w m p = by_view v w _ (p m) refl
  word_none program c n once.Bits v w m p = by_view v w _ (p m) refl
  word_none program c n f v w m p = by_view v w _ p refl

  put_owner_none : (o : Option ℕ) (d : ℕ) (v w : View B) → MayPutOwner d o v → PutsOwner d o v w → PutsNone v w
  put_owner_none None d v w m p = by_view v w _ (p m) refl
  put_owner_none (Some u) d v w m p = ⊎_elim
      (λ g. by_view v w _ (p.0 g) refl) (λ g. by_view v w _ (p.1 g) refl) m

  head_none : (program : Bool → B → Program B) (cells c n : ℕ) (st : Step (Option (Rec B))) (m m' : SeatMe B)
      → head_load program cells c st m n m' → PutsNone m.0 m'.0
  head_none program cells c n st m m' h = ⊎_elim (λ e. by_view m.0 m'.0 _ (h.2 e).view refl)
      (λ e. by_view m.0 m'.0 _ (h.3 e).view refl) (shut_or (head_in n))

  live_none : (n : ℕ) (st : Step (Option (Rec B))) (m m' : SeatMe B) → live_load st m n m' → PutsNone m.0 m'.0
  live_none n st m m' h = dite (ℕ_discrete n 0)
      (λ e. by_view m.0 m'.0 _ (h.1 e) refl) (λ e. by_view m.0 m'.0 _ (h.2 e) refl)

  shut_none : (cells p n : ℕ) (st : Step (Option (Rec B))) (m m' : SeatMe B) → shut_swap cells p st m n m'
      → PutsNone m.0 m'.0
  shut_none cells p n st m m' h = ⊎_elim (λ e. by_view m.0 m'.0 _ (h.2 e) refl)
      (λ e. by_view m.0 m'.0 _ (h.3 e).view refl) (shut_or (head_in n))

  draw_none : (program : Bool → B → Program B) (cells t : ℕ) (o : Sort) (st : Step (Option (Rec B))) (m m' : SeatMe B)
      (k : ℕ) → draw_step program cells t o st m k m' → PutsNone m.0 m'.0
  draw_none program cells t o st m m' k h = dite (dec_le cells k)
      (λ l. by_view m.0 m'.0 _ (h.1 l).0.view refl)
      (λ l. by_view m.0 m'.0 _ (h.0 (omega arith)).0.view refl)

  swap_none : (program : Bool → B → Program B) (t : ℕ) (was to : Phase) (m m' : SeatMe B) → MaySwap t was to m.0
      → Swaps program t was to m m' → PutsNone m.0 m'.0
  swap_none program t was to m m' may s = ⊎_elim
      (λ q. let r = s.claims q.0 in by_me m m' _ r.2 refl)
      (λ q. ⊎_elim
      (λ w. by_me m m' _ (s.wakes q.0 q.1 q.2 w.0) refl)
      (λ w. let r = s.goes_back q.0 q.1 q.2 w.0 in by_me m m' _ r.3 refl) q.3) may

  -- the call is the store of Ended for the task of this record, which lies in the slot that the seat took last
  pub record EndsWith (a : StepCall) (st : Step (Option (Rec B))) (m : SeatMe B) (r : Rec B) : Type 0 where
    pub task : ℕ
    pub is : a ≡ call.puts_phase task
    pub ends : phase_in st.first ≡ phase.Ended
    pub cell : r.cell.0 ≡ task
    pub slot : m.1 ≡ (task, Some r) ∷ rest m.1

  -- a record with a finish that the seat says it put home it put there before, or by such a call
  abbrev pub AddsEnded : StepCall → Step (Option (Rec B)) → SeatMe B → SeatMe B → Type 0
  AddsEnded a st m m' = (r : Rec B) → IsIn r m'.0.put_home → HasFinish r → IsIn r m.0.put_home ⊎ EndsWith a st m r

  none : (a : StepCall) (st : Step (Option (Rec B))) (m m' : SeatMe B) → PutsNone m.0 m'.0 → AddsEnded a st m m'
  none a st m m' e r i f = inl (subst (IsIn r) e i)

  -- a record without a finish isn't one with it
  unfinished : (r x : Rec B) → r ≡ x → x.finish ≡ None → HasFinish r → ⊥
  unfinished r x e n f = none_some r.finish f.0 (ap (λ (z : Rec B). z.finish) e ∙ n) f.1

  -- one that comes home beside LIVE has none
  raised_ends : (v : View B) (slots : SlotsOf B) (F : ℕ → Rec B → Type 0)
      → ((t : ℕ) (z : Rec B) → F t z → z.finish ≡ None) → IfRecord F slots → (r : Rec B)
      → IsIn r (raised_with v slots).0.put_home → HasFinish r → IsIn r v.put_home
  raised_ends v [] F lacks h r i f = i
  raised_ends v ((t, None) ∷ slots) F lacks h r i f = i
  raised_ends v ((t, Some z) ∷ slots) F lacks h r (inl e) f = absurd (unfinished r z e (lacks t z h) f)
  raised_ends v ((t, Some z) ∷ slots) F lacks h r (inr i) f = i

  lowered_ends : (v : View B) (slots : SlotsOf B) (F : ℕ → Rec B → Type 0)
      → ((t : ℕ) (z : Rec B) → F t z → z.finish ≡ None) → IfRecord F slots → (r : Rec B)
      → IsIn r (lowered_with v slots).0.put_home → HasFinish r → IsIn r v.put_home
  lowered_ends v [] F lacks h r i f = i
  lowered_ends v ((t, None) ∷ slots) F lacks h r i f = i
  lowered_ends v ((t, Some z) ∷ slots) F lacks h r (inl e) f = absurd (unfinished r z e (lacks t z h) f)
  lowered_ends v ((t, Some z) ∷ slots) F lacks h r (inr i) f = i

  -- the store of a phase
  phase_ends : (program : Bool → B → Program B) (q : Phase) (t : ℕ) (st : Step (Option (Rec B))) (m m' : SeatMe B)
      → phase_in st.first ≡ q → MayPutPhase program t q m → PutsPhase t q m m'
      → AddsEnded (call.puts_phase t) st m m'
  phase_ends program phase.Unborn t st m m' is may p = absurd p
  phase_ends program phase.Running t st m m' is may p = absurd p
  phase_ends program phase.Ended t st m m' is may p = λ r i f. ⊎_elim
      (λ (e : r ≡ may.record_of). inr (subst (EndsWith (call.puts_phase t) st m) (sym e) (record {
        task = t;
        is = refl;
        ends = is;
        cell = may.puts.cell;
        slot = may.puts.slot;
      })))
      (λ (j : IsIn r m.0.put_home). inl j)
      (subst (IsIn r) (ap (λ (z : SeatMe B). z.0.put_home) p ∙ ap (λ l. put_with l m.0.put_home) may.puts.slot) i)
  phase_ends program (phase.Waiting d way walk.Parked) t st m m' is may p = λ r i f. ⊎_elim
      (λ (e : r ≡ may.record_of). absurd (unfinished r may.record_of e may.unfinished f))
      (λ (j : IsIn r m.0.put_home). inl j)
      (subst (IsIn r) (ap (λ (z : SeatMe B). z.0.put_home) p ∙ ap (λ l. put_with l m.0.put_home) may.puts.slot) i)
  phase_ends program (phase.Waiting d way walk.Walking) t st m m' is may p =
      none (call.puts_phase t) st m m' (by_me m m' _ p refl)
  phase_ends program (phase.Waiting d way walk.Alarmed) t st m m' is may p =
      none (call.puts_phase t) st m m' (by_me m m' _ p refl)
  phase_ends program q t st m m' is may p = none (call.puts_phase t) st m m' (by_me m m' _ p refl)

  -- so is each call
  pub call_ends : (program : Bool → B → Program B) (key : Key B) (a : StepCall) (n k : ℕ) (st : Step (Option (Rec B)))
      (m m' : SeatMe B) → asked_by program key a st m → told_by program key.cells a n st m k m' → AddsEnded a st m m'
  call_ends program key (call.draws t o) n k st m m' ask h =
      none (call.draws t o) st m m' (draw_none program key.cells t o st m m' k h.1)
  call_ends program key (call.puts_once d f) n k st m m' ask h =
      none (call.puts_once d f) st m m' (word_none program d st.first f m.0 m'.0 h.1.0 h.1.2)
  call_ends program key (call.sees_once d f) n k st m m' ask h =
      none (call.sees_once d f) st m m' (once_none program key.cells d k f m.0 m'.0 h.1.1)
  call_ends program key (call.puts_owner d) n k st m m' ask h =
      none (call.puts_owner d) st m m' (put_owner_none (owner_in st.first) d m.0 m'.0 h.1.0 h.1.1.1)
  call_ends program key (call.puts_phase t) n k st m m' ask h =
      phase_ends program (phase_in st.first) t st m m' refl ask.1 h.1
  call_ends program key (call.swaps_phase t) n k st m m' ask h = none (call.swaps_phase t) st m m'
      (dite (ℕ_discrete k st.first)
      (λ e. swap_none program t (phase_in st.first) (phase_in st.second) m m' h.2.0 (h.2.1.0 e))
      (λ e. by_me m m' _ (h.2.1.1 e).1 refl))
  call_ends program key call.raises_live n k st m m' ask h = λ r i f.
      inl (raised_ends m.0 m.1 (λ t z. LaysChild program t z m) (λ t z l. l.unfinished) ask.lays r
      (subst (λ (z : SeatMe B). IsIn r z.0.put_home) h.1 i) f)
  call_ends program key call.lowers_live n k st m m' ask h = λ r i f.
      inl (lowered_ends m.0 m.1 (λ t z. Shelves program t z m) (λ t z l. l.unfinished) ask.shelves r
      (subst (λ (z : SeatMe B). IsIn r z.0.put_home) h.1 i) f)
  call_ends program key call.sees_live n k st m m' ask h =
      none call.sees_live st m m' (live_none k st m m' h.1)
  call_ends program key call.stops n k st m m' ask h = none call.stops st m m' (by_me m m' _ h.1.0 refl)
  call_ends program key (call.sees_head p) n k st m m' ask h =
      none (call.sees_head p) st m m' (head_none program key.cells p k st m m' h.1)
  call_ends program key (call.pushes p) n k st m m' ask h = none (call.pushes p) st m m' (dite (ℕ_discrete k st.first)
      (λ e. by_view m.0 m'.0 _ (h.2.2 e) refl)
      (λ e. head_none program key.cells p k st m m' (h.2.0, h.2.1, h.2.3 e, h.2.4 e)))
  call_ends program key (call.shuts p) n k st m m' ask h =
      none (call.shuts p) st m m' (shut_none key.cells p k st m m' h.1)
  call_ends program key (call.sees_owner d) n k st m m' ask h =
      none (call.sees_owner d) st m m' (owner_none key.cells d (owner_in k) m.0 m'.0 h.1.1)
  call_ends program key (call.sees_phase t) n k st m m' ask h =
      none (call.sees_phase t) st m m' (phase_none key.cells t (phase_in k) m.0 m'.0 h.1.1)
  call_ends program key a n k st m m' ask h = none a st m m' (by_view m.0 m'.0 _ h.1.1 refl)
