-- Where LIVE is 0 in a run from a new table, no cell is in hand: the maker of what is in hand isn't unborn, so it
-- counts in LIVE, or it has alarmed and its seat has a token.
use Rattle.std.proofs.Common.{◌≡◌, ◌≢◌, ◌⊎◌, ℕ, Bool, true, List, [], ◌∷◌, Option, Some, None}
use Rattle.std.proofs.Common.{refl, sym, ap, ◌∙◌, subst, inl, inr, ⊎_elim, arith, set}
use native.Mathlib.Decide.{ℕ_discrete, dec_le}
use mathlib.Core.Logic.{dite}
use mathlib.Core.Option.{some}
use lib.ListN.{get_elem?}
use Rattle.atomic_table.specs.Table.{State, Step}
use Rattle.tj_body.specs.Programs.{Program}
use Rattle.tj_words.specs.declared.phase.Phase.{Phase}
use Rattle.tj_words.specs.declared.phase.Phase.TheVariants as phase
use Rattle.tj_words.specs.declared.phase.Walk.TheVariants as walk
use Rattle.tj_record.specs.declared.record.Rec.{Rec}
use Rattle.tj_words.specs.declared.table.Key.{Key}
use Rattle.tj_words.specs.declared.view.Custody.{Custody}
use Rattle.tj_words.specs.declared.view.Does.{Does}
use Rattle.tj_words.specs.declared.view.Does.TheVariants as does
use Rattle.tj_words.specs.declared.view.Hand.{Hand}
use Rattle.tj_words.specs.declared.view.View.{View}
use Rattle.tj_words.specs.CallLaws.CallRuns.{AreAskedMoments, IsAskedStep, asked_by}
use Rattle.tj_words.specs.CallLaws.RestedRuns.{Ruled, last_moment}
use Rattle.tj_words.specs.CallLaws.StepCalls.{StepCall, place_of, told_by}
use Rattle.tj_words.specs.CallLaws.StepCalls as call
use Rattle.tj_words.specs.Calls.DrawViews.{mark, new_hand}
use Rattle.tj_words.specs.Calls.ExchangeViews.{MaySwap, Swaps}
use Rattle.tj_words.specs.Calls.LiveViews.{SlotsOf, lowered_with, raised_with}
use Rattle.tj_words.specs.Calls.OwnerViews.{MayPutOwner, PutsOwner}
use Rattle.tj_words.specs.Calls.PhaseViews.{PutsPhase}
use Rattle.tj_words.specs.LawParts.Contents.{hand_of}
use Rattle.tj_words.specs.LawParts.Holding.{held_in, phase_of}
use Rattle.tj_words.specs.LawParts.LiveCount.{DoesRun, DoesWalk, HasAlarmed}
use Rattle.tj_words.specs.SeatViews.SeatSteps.{SeatMe}
use Rattle.tj_words.specs.SeatViews.Views.{both, left_half, right_half, spent}
use Rattle.tj_words.specs.Steps.StepEvents.{MayAct}
use Rattle.tj_words.specs.Words.Lists.{Each}
use Rattle.tj_words.specs.Words.Offsets.{word}
use Rattle.tj_words.specs.Words.Owners.{owner_in}
use Rattle.tj_words.specs.Words.Phases.{phase_in}
use Rattle.tj_words.proofs.Prelude.{at_map, some-injective}
use Rattle.tj_words.proofs.Lemmas.{each_set, hand_found}
use Rattle.tj_runs.proofs.CallChanges.{ShowsSame, head_same, live_same, once_same, push_same, put_same}
use Rattle.tj_runs.proofs.CallChanges.{owner_same, phase_same, shut_same}
use Rattle.tj_words.proofs.Stores.SeatLists.{each_only, each_snoc, map_back}
use Rattle.tj_runs.specs.Moments.{contents_at}
use Rattle.tj_laws.specs.RestedTables.{NoneInHandAtRest}
use Rattle.tj_runs.proofs.PhaseRows.{GoesByRow, held_phase, step_rows}
use Rattle.tj_laws.proofs.RestedWords.{dull}

-- nothing goes to Unborn
never_unborn : (p q : Phase) → GoesByRow p q → p ≢ phase.Unborn → q ≢ phase.Unborn
never_unborn p q (inl e) n u = n (sym e ∙ u)
never_unborn phase.Unborn q h n u = n refl
never_unborn phase.Ready q (inr (inl h)) n u = h
never_unborn phase.Ready q (inr (inr e)) n u = let z : phase.Running ≡ phase.Unborn = sym e ∙ u in absurd (cc)
never_unborn phase.Running q (inr (inl (inl e))) n u =
    let z : phase.Ended ≡ phase.Unborn = sym e ∙ u in absurd (cc)
never_unborn phase.Running q (inr (inl (inr h))) n u =
    let z : phase.Waiting h.0 h.1 walk.Walking ≡ phase.Unborn = sym h.2 ∙ u in absurd (cc)
never_unborn phase.Running q (inr (inr h)) n u = h
never_unborn phase.Ended q (inr (inl h)) n u = h
never_unborn phase.Ended q (inr (inr h)) n u = h
never_unborn phase.Promise q (inr (inl h)) n u = h
never_unborn phase.Promise q (inr (inr h)) n u = h
never_unborn (phase.Waiting c w walk.Walking) q (inr (inl (inl e))) n u =
    let z : phase.Waiting c w walk.Parked ≡ phase.Unborn = sym e ∙ u in absurd (cc)
never_unborn (phase.Waiting c w walk.Walking) q (inr (inl (inr e))) n u =
    let z : phase.Waiting c w walk.Alarmed ≡ phase.Unborn = sym e ∙ u in absurd (cc)
never_unborn (phase.Waiting c w walk.Walking) q (inr (inr h)) n u = h
never_unborn (phase.Waiting c w walk.Parked) q (inr (inl h)) n u = h
never_unborn (phase.Waiting c w walk.Parked) q (inr (inr (inl e))) n u =
    let z : phase.Ready ≡ phase.Unborn = sym e ∙ u in absurd (cc)
never_unborn (phase.Waiting c w walk.Parked) q (inr (inr (inr e))) n u =
    let z : phase.Running ≡ phase.Unborn = sym e ∙ u in absurd (cc)
never_unborn (phase.Waiting c w walk.Alarmed) q (inr (inl h)) n u = h
never_unborn (phase.Waiting c w walk.Alarmed) q (inr (inr h)) n u = h

acting_phase : (d : Does) → MayAct d → phase_of d ≡ phase.Running
acting_phase d h = grind arith

-- What is in the hand of a seat after a call: what was there, or nothing, or a cell of a task that may act.
module _ {B : Type 0} (m : SeatMe B) where
  -- a hand whose maker is that of the seat's hand, or a task of the seat that may act
  abbrev IsFrom : Option Hand → Type 0
  IsFrom o = (h : Hand) → o ≡ Some h → ((g : Hand) × (m.0.hand ≡ Some g) × (g.maker ≡ h.maker))
      ⊎ ((k : Custody B) × (held_in m.0.tasks h.maker ≡ Some k) × MayAct k.does)

  same_from : (o : Option Hand) → o ≡ m.0.hand → IsFrom o
  same_from o e h is = inl (h, sym e ∙ is, refl)

  by_view : (v w : View B) → v ≡ w → w.hand ≡ m.0.hand → IsFrom v.hand
  by_view v w e same = same_from v.hand (ap (λ (z : View B). z.hand) e ∙ same)

  by_me : (n w : SeatMe B) → n ≡ w → w.0.hand ≡ m.0.hand → IsFrom n.0.hand
  by_me n w e same = same_from n.0.hand (ap (λ (z : SeatMe B). z.0.hand) e ∙ same)

  by_shown : (v : View B) → ShowsSame m.0 v → IsFrom v.hand
  by_shown v q = same_from v.hand (ap (λ z. z.0) q.0)

  none_from : (o : Option Hand) → o ≡ None → IsFrom o
  none_from o e h is = let z : None ≡ Some h = sym e ∙ is in absurd (cc)

  mark_from : (o : Option Hand) → o ≡ mark m.0.hand → IsFrom o
  mark_from o e h is = by m.0.hand refl where
    by : (g : Option Hand) → m.0.hand ≡ g → ((g : Hand) × (m.0.hand ≡ Some g) × (g.maker ≡ h.maker))
        ⊎ ((k : Custody B) × (held_in m.0.tasks h.maker ≡ Some k) × MayAct k.does)
    by None q = let z : None ≡ Some h = sym (e ∙ ap mark q) ∙ is in absurd (cc)
    by (Some g) q = let z : Some (record g { marked = true }) ≡ Some h = sym (e ∙ ap mark q) ∙ is in
        let y : record g { marked = true } ≡ h = cc in inl (g, q, ap (λ (k : Hand). k.maker) y)

  put_owner : (o : Option ℕ) (d : ℕ) (w : View B) → MayPutOwner d o m.0 → PutsOwner d o m.0 w → IsFrom w.hand
  put_owner None d w may p = by_view w _ (p may) refl
  put_owner (Some u) d w (inl g) p = none_from w.hand (ap (λ (z : View B). z.hand) (p.0 g))
  put_owner (Some u) d w (inr g) p = by_view w _ (p.1 g) refl

  put_phase : (q : Phase) (t : ℕ) (n : SeatMe B) → PutsPhase t q m n → IsFrom n.0.hand
  put_phase phase.Unborn t n p = absurd p
  put_phase phase.Running t n p = absurd p
  put_phase phase.Promise t n p = mark_from n.0.hand (ap (λ (z : SeatMe B). z.0.hand) p)
  put_phase (phase.Waiting d way walk.Walking) t n p = by_me n _ p refl
  put_phase q t n p = by_me n _ p refl

  raised_hand : (v : View B) (slots : SlotsOf B) → (raised_with v slots).0.hand ≡ v.hand
  raised_hand v [] = refl
  raised_hand v ((t, None) ∷ slots) = refl
  raised_hand v ((t, Some r) ∷ slots) = refl

  lowered_hand : (v : View B) (slots : SlotsOf B) → (lowered_with v slots).0.hand ≡ v.hand
  lowered_hand v [] = refl
  lowered_hand v ((t, None) ∷ slots) = refl
  lowered_hand v ((t, Some r) ∷ slots) = refl

  module _ (program : Bool → B → Program B) (key : Key B) where
    swapped : (t : ℕ) (was to : Phase) (n : SeatMe B) → MaySwap t was to m.0 → Swaps program t was to m n
        → IsFrom n.0.hand
    swapped t was to n (inl q) s = let r = s.claims q.0 in by_me n _ r.2 refl
    swapped t was to n (inr q) s = ⊎_elim
        (λ w. by_me n _ (s.wakes q.0 q.1 q.2 w.0) refl)
        (λ w. let r = s.goes_back q.0 q.1 q.2 w.0 in by_me n _ r.3 refl) q.3

    call_hand : (a : StepCall) (n k : ℕ) (st : Step (Option (Rec B))) (m' : SeatMe B) → asked_by program key a st m
        → told_by program key.cells a n st m k m' → IsFrom m'.0.hand
    call_hand (call.draws t o) n k st m' ask h = dite (dec_le key.cells k)
        (λ l. by_view m'.0 _ (h.1.1 l).0.view refl)
        (λ l. let f = (h.1.0 (omega arith)).0 in λ g is.
        let z : Some (new_hand k t o) ≡ Some g = sym (ap (λ (v : View B). v.hand) f.view) ∙ is in
        let y : new_hand k t o ≡ g = cc in
        inr (ask.has, ap (held_in m.0.tasks) (sym (ap (λ (b : Hand). b.maker) y)) ∙ ask.held, ask.may))
    call_hand (call.puts_once d f) n k st m' ask h =
        by_shown m'.0 (put_same program d st.first f m.0 m'.0 h.1.0 h.1.2)
    call_hand (call.sees_once d f) n k st m' ask h =
        by_shown m'.0 (once_same program key.cells d k f m.0 m'.0 h.1.1)
    call_hand (call.puts_owner d) n k st m' ask h = put_owner (owner_in st.first) d m'.0 h.1.0 h.1.1.1
    call_hand (call.puts_phase t) n k st m' ask h = put_phase (phase_in st.first) t m' h.1
    call_hand (call.swaps_phase t) n k st m' ask h = dite (ℕ_discrete k st.first)
        (λ e. swapped t (phase_in st.first) (phase_in st.second) m' h.2.0 (h.2.1.0 e))
        (λ e. by_me m' _ (h.2.1.1 e).1 refl)
    call_hand call.raises_live n k st m' ask h = same_from m'.0.hand
        (ap (λ (z : SeatMe B). z.0.hand) h.1 ∙ raised_hand m.0 m.1)
    call_hand call.lowers_live n k st m' ask h = same_from m'.0.hand
        (ap (λ (z : SeatMe B). z.0.hand) h.1 ∙ lowered_hand m.0 m.1)
    call_hand call.sees_live n k st m' ask h = by_shown m'.0 (live_same k st m m' h.1)
    call_hand call.stops n k st m' ask h = by_me m' _ h.1.0 refl
    call_hand (call.sees_head p) n k st m' ask h = by_shown m'.0 (head_same program key.cells p k st m m' h.1)
    call_hand (call.pushes p) n k st m' ask h = dite (ℕ_discrete k st.first)
        (λ e. by_view m'.0 _ (h.2.2 e) refl)
        (λ e. by_shown m'.0 (push_same program key.cells p k st m m' e h.2))
    call_hand (call.shuts p) n k st m' ask h = by_shown m'.0 (shut_same key.cells p k st m m' h.1)
    call_hand (call.sees_owner d) n k st m' ask h =
        by_shown m'.0 (owner_same key.cells d (owner_in k) m.0 m'.0 h.1.1)
    call_hand (call.sees_phase t) n k st m' ask h =
        by_shown m'.0 (phase_same key.cells t (phase_in k) m.0 m'.0 h.1.1)
    call_hand call.counts n k st m' ask h = by_view m'.0 _ h.1.1 refl
    call_hand a n k st m' ask h = by_view m'.0 _ h.1.1 refl

module _ {B : Type 0} (program : Bool → B → Program B) (key : Key B) where
  -- PHASE of a task at a moment
  abbrev phase_at_of : Ruled program key → ℕ → Phase
  phase_at_of u t = (contents_at program key u).words.phase t

  -- the maker of what is in the hand isn't unborn
  abbrev HasBegunMaker : (ℕ → Phase) → Option Hand → Type 0
  HasBegunMaker phases o = (h : Hand) → o ≡ Some h → phases h.maker ≢ phase.Unborn

  abbrev HaveBegunMakers : Ruled program key → List (View B) → Type 0
  HaveBegunMakers u views = Each (λ j (v : View B). HasBegunMaker (phase_at_of u) v.hand) views

  begun_on : (u w : Ruled program key) → IsAskedStep program key u.now w.now → HaveBegunMakers u u.now.views
      → HaveBegunMakers w w.now.views
  begun_on u w a begun = by a where
    row : (t : ℕ) → GoesByRow (phase_at_of u t) (phase_at_of w t)
    row t = step_rows program key u w.now a t

    still : Each (λ j (v : View B). HasBegunMaker (phase_at_of w) v.hand) u.now.views
    still j v at h is = never_unborn (phase_at_of u h.maker) (phase_at_of w h.maker) (row h.maker) (begun j v at h is)

    by : IsAskedStep program key u.now w.now → HaveBegunMakers w w.now.views
    by (inl k) = let m = k.made in
        subst (λ (s : State (Option (Rec B)) (View B)). HaveBegunMakers w s.views) (sym m.makes.after)
        (each_set _ u.now.views m.id m.seat_after.0 still
        (λ h is. ⊎_elim
        (λ g. let n = begun m.id m.seat.0 m.makes.at g.0 g.1 in
        never_unborn (phase_at_of u h.maker) (phase_at_of w h.maker) (row h.maker)
        (subst (λ t. phase_at_of u t ≢ phase.Unborn) g.2 n))
        (λ g. never_unborn (phase_at_of u h.maker) (phase_at_of w h.maker) (row h.maker) (λ e.
        let z : phase.Running ≡ phase.Unborn = sym (held_phase program key u m.id m.seat m.makes.at h.maker g.0 g.1
        ∙ acting_phase g.0.does g.2) ∙ e in absurd (cc)))
        (call_hand m.seat program key m.call m.number (word u.now.words (place_of m.call)) m.operands m.seat_after
        k.asks m.told h is)))
    by (inr (inl p)) = subst (λ (s : State (Option (Rec B)) (View B)). HaveBegunMakers w s.views) (sym p.after)
        (each_snoc _ (set u.now.views p.id (left_half p.view)) (right_half p.view)
        (each_set _ u.now.views p.id (left_half p.view) still (still p.id p.view p.at)) (λ j h e. absurd (cc)))
    by (inr (inr p)) = let q = p.merge in
        subst (λ (s : State (Option (Rec B)) (View B)). HaveBegunMakers w s.views) (sym q.after)
        (each_set _ (set u.now.views q.id (both q.view q.taken)) q.other spent
        (each_set _ u.now.views q.id (both q.view q.taken) still (still q.id q.view q.at)) (λ h e. absurd (cc)))

  begun_run : (u : Ruled program key) (later : List (Ruled program key)) → AreAskedMoments program key u later
      → HaveBegunMakers u u.now.views
      → HaveBegunMakers (last_moment program key u later) (last_moment program key u later).now.views
  begun_run u [] a begun = begun
  begun_run u (w ∷ ws) a begun = begun_run w ws a.1 (begun_on u w a.0 begun)

  -- so where LIVE is 0 no seat has a cell in hand
  module _ (u : Ruled program key) (z : (contents_at program key u).words.live ≡ 0)
      (begun : HaveBegunMakers u u.now.views) where
    no_hand : (j : ℕ) (v : View B) → get_elem? u.now.views j ≡ some v → (h : Hand) → v.hand ≡ Some h → ⊥
    no_hand j v at h is = by k.does refl
      where
        found : (ks : List (Custody B)) × (get_elem? (contents_at program key u).seats.tasks j ≡ some ks)
            × ((k : Custody B) × (held_in ks h.maker ≡ Some k) × (k.home ≡ None))
        found = (u.rule.law.hands.each j h (at_map (λ (w : View B). w.hand) u.now.views j v at ∙ ap some is)).maker_held

        held : held_in v.tasks h.maker ≡ Some found.2.0
        held = ap (λ ks. held_in ks h.maker)
            (some-injective v.tasks found.0 (sym (at_map (λ (w : View B). w.tasks) u.now.views j v at) ∙ found.1))
            ∙ found.2.1

        k : Custody B
        k = found.2.0

        its_phase : phase_at_of u h.maker ≡ phase_of k.does
        its_phase = held_phase program key u j (v, []) at h.maker k held

        lively : DoesRun k.does ⊎ DoesWalk k.does → ⊥
        lively (inl d) = dull program key u z j (v, []) at (inr (inl (h.maker, k, held, d)))
        lively (inr d) = dull program key u z j (v, []) at (inr (inr (h.maker, k, held, d)))

        by : (d : Does) → k.does ≡ d → ⊥
        by does.Unborn e = begun j v at h is (its_phase ∙ ap phase_of e)
        by does.Fresh e = lively (inl (subst DoesRun (sym e) tt))
        by does.Running e = lively (inl (subst DoesRun (sym e) tt))
        by does.Raised e = lively (inl (subst DoesRun (sym e) tt))
        by (does.Walking c w o) e = lively (inr (subst DoesWalk (sym e) tt))
        by (does.Alarmed c w o) e = dull program key u z j (v, []) at (inl
            ((u.rule.seats j v at).backing.alarms (h.maker, k, held, subst HasAlarmed (sym e) tt)))

    none_there : (c : ℕ) → hand_of (contents_at program key u) c ≡ None
    none_there c = by (hand_of (contents_at program key u) c) refl where
      by : (o : Option Hand) → hand_of (contents_at program key u) c ≡ o → o ≡ None
      by None e = refl
      by (Some h) e = let f = hand_found (contents_at program key u).seats.hands c h e in
          let b = map_back (λ (v : View B). v.hand) u.now.views f.0.0 (Some h) f.0.1 in
          absurd (no_hand f.0.0 b.0 b.1 h b.2)

pub none_in_hand : (B : Type 0) → NoneInHandAtRest B
none_in_hand B program key u later new a z = none_there program key (last_moment program key u later) z
    (begun_run program key u later a
    (subst (λ (s : State (Option (Rec B)) (View B)). HaveBegunMakers program key u s.views) (sym new)
    (each_only _ _ (λ h e. absurd (cc)))))
