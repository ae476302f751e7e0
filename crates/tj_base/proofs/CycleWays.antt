-- The way on from a node, one step after the other, until it comes back or ends.
use Rattle.std.proofs.Common.{◌≡◌, ◌≢◌, ℕ, suc, ◌<◌, ◌≤◌, Bool, List, [], ◌∷◌, ◌++◌, length, refl, sym, ap, ◌∙◌, subst}
use Rattle.std.proofs.Common.{length-append, arith}
use Rattle.std.specs.Bool.{Decides}
use native.Mathlib.Decide.{ℕ_discrete}
use mathlib.Core.Logic.{dite}
use Rattle.tj_base.specs.Cycles.{LeadsToOne, LeadsAlong, Reaches, IsOnCycleOf, IsOnCycle, IsCycleFrom}
use Rattle.tj_base.proofs.Ways.{reach_one, cycle_at, cycle_leads}
use Rattle.tj_base.proofs.CycleLists.{along_cycle}

module _ {A : Type 0} (Leads : A → A → Type 0) where
  -- a is the first of these nodes, each leads to the next and the last to z
  abbrev pub IsWay : A → List A → A → Type 0
  IsWay a [] z = a ≡ z
  IsWay a (b ∷ bs) z = (a ≡ b) × ((c : A) × Leads b c × IsWay c bs z)

  -- so many steps lead from a through these nodes to `at`, and not back before
  pub record IsOnWay (a at : A) (step : ℕ) (nodes : List A) : Type 0 where
    pub so_far : length nodes ≡ step
    pub way : IsWay a nodes at
    pub reached : Reaches Leads a step at
    pub none : (k : ℕ) → 0 < k → k < suc step → ¬ Reaches Leads a k a

  way_more : (a y z : A) (bs : List A) → IsWay a bs y → Leads y z → IsWay a (bs ++ y ∷ []) z
  way_more a y z [] h l = (h, (z, l, refl))
  way_more a y z (b ∷ bs) h l = (h.0, (h.1.0, h.1.1, way_more h.1.0 y z bs h.1.2 l))

  way_along : (b z c : A) (bs : List A) → Leads b c → IsWay c bs z → LeadsAlong Leads b bs z
  way_along b z c [] l h = subst (Leads b) h l
  way_along b z c (d ∷ ds) l h = (subst (Leads b) h.0 l, way_along d z h.1.0 ds h.1.1 h.1.2)

  -- no step yet
  pub way_starts : (a : A) → IsOnWay a a 0 []
  way_starts a = record { so_far = refl; way = refl; reached = refl; none = λ k x y. absurd (omega arith) }

module _ {A : Type 0} (Leads : A → A → Type 0) (one : LeadsToOne Leads) (a at : A) (step : ℕ) (nodes : List A)
    (h : IsOnWay Leads a at step nodes) where
  module _ (next : A) (l : Leads at next) (more : List A) (e : more ≡ nodes ++ at ∷ []) where
    longer : IsWay Leads a more next
    longer = subst (λ z. IsWay Leads a z next) (sym e) (way_more Leads a at next nodes h.way l)

    counted : length more ≡ suc step
    counted = let f = h.so_far in ap length e ∙ length-append nodes (at ∷ []) ∙ (omega arith)

    further : Reaches Leads a (suc step) next
    further = (at, h.reached, l)

    -- one more step comes back
    pub way_closes : (equal : A → A → Bool) (same : (a b : A) → Decides (equal a b) (a ≡ b)) → next ≡ a
        → IsCycleFrom Leads equal a more
    way_closes equal same back = closed more (subst (IsWay Leads a more) back longer) counted where
      closed : (bs : List A) → IsWay Leads a bs a → length bs ≡ suc step → IsCycleFrom Leads equal a bs
      closed [] w n = absurd (omega arith)
      closed (b ∷ bs) w n =
          let is : a ≡ b = w.0 in
          let along : LeadsAlong Leads b bs b =
          subst (LeadsAlong Leads b bs) is (way_along Leads b a w.1.0 bs w.1.1 w.1.2) in
          let small : length bs ≡ step = omega arith in (
            sym is,
            along_cycle Leads one equal same b bs along
                (λ k x y r. h.none k x (omega arith) (subst (λ z. Reaches Leads z k z) (sym is) r)),
          )

    -- one more step leads on
    pub way_goes_on : next ≢ a → (j : ℕ) → j ≡ suc step → IsOnWay Leads a next j more
    way_goes_on other j is = record {
      so_far = counted ∙ sym is;
      way = longer;
      reached = subst (λ z. Reaches Leads a z next) (sym is) further;
      none = λ k x y r. dite (ℕ_discrete k (suc step))
          (λ d. other (reach_one Leads one a (suc step) next a further (subst (λ z. Reaches Leads a z a) d r)))
          (λ d. h.none k x (omega arith) r);
    }

  -- where the way ends, it was none of a cycle
  pub way_stops : ((b : A) → ¬ Leads at b) → ¬ IsOnCycle Leads a
  way_stops stuck on =
      let x = cycle_leads Leads at on.0 (cycle_at Leads one a on.0 step at on.1 h.reached) in stuck x.0 x.1

  -- where no cycle is longer than the way, it is none of a cycle
  pub way_ends : ((n : ℕ) → IsOnCycleOf Leads a n → n ≤ step) → ¬ IsOnCycle Leads a
  way_ends fits on = let b = fits on.0 on.1 in h.none on.0 on.1.some (omega arith) on.1.round
