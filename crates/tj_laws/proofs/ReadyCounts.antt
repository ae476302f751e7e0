-- How often PHASE of a task changes to Ready, and from Ready to Running: the one goes with the other.
use Rattle.std.proofs.Common.{◌≡◌, ◌+◌, ◌&&◌, ℕ, Bool, not, List, [], ◌∷◌, refl, sym, ap, subst}
use Rattle.std.proofs.Common.{inl, inr, arith}
use Rattle.tj_body.specs.Programs.{Program}
use Rattle.tj_words.specs.declared.phase.Phase.{Phase}
use Rattle.tj_words.specs.declared.phase.Phase.TheVariants as phase
use Rattle.tj_words.specs.declared.phase.Walk.TheVariants as walk
use Rattle.tj_words.specs.declared.table.Key.{Key}
use Rattle.tj_words.specs.CallLaws.CallRuns.{AreAskedMoments}
use Rattle.tj_words.specs.CallLaws.RestedRuns.{Ruled, last_moment}
use Rattle.tj_laws.specs.Holders.{ReadiedOncePerClaim, claims, is_ready, is_running, one_if, phase_then, readied}
use Rattle.tj_runs.proofs.PhaseRows.{GoesByRow, step_rows}

-- a step that goes by a row makes ready as often as it claims, but for what is ready before and after
abbrev IsEven : Phase → Phase → Type 0
IsEven p q = one_if (not (is_ready p) && is_ready q) + one_if (is_ready p)
    ≡ one_if (is_ready p && is_running q) + one_if (is_ready q)

even_same : (p : Phase) → IsEven p p
even_same phase.Unborn = refl
even_same phase.Ready = refl
even_same phase.Running = refl
even_same phase.Ended = refl
even_same phase.Promise = refl
even_same (phase.Waiting c w walk) = refl

to : (p : Phase) {q a : Phase} → q ≡ a → IsEven p a → IsEven p q
to p e h = subst (IsEven p) (sym e) h

row_even : (p q : Phase) → GoesByRow p q → IsEven p q
row_even p q (inl e) = to p e (even_same p)
row_even phase.Unborn q (inr (inl (inl e))) = to phase.Unborn e refl
row_even phase.Unborn q (inr (inl (inr e))) = to phase.Unborn e refl
row_even phase.Unborn q (inr (inr h)) = absurd h
row_even phase.Ready q (inr (inl h)) = absurd h
row_even phase.Ready q (inr (inr e)) = to phase.Ready e refl
row_even phase.Running q (inr (inl (inl e))) = to phase.Running e refl
row_even phase.Running q (inr (inl (inr h))) = to phase.Running h.2 refl
row_even phase.Running q (inr (inr h)) = absurd h
row_even phase.Ended q (inr (inl h)) = absurd h
row_even phase.Ended q (inr (inr h)) = absurd h
row_even phase.Promise q (inr (inl h)) = absurd h
row_even phase.Promise q (inr (inr h)) = absurd h
row_even (phase.Waiting c w walk.Walking) q (inr (inl (inl e))) = to (phase.Waiting c w walk.Walking) e refl
row_even (phase.Waiting c w walk.Walking) q (inr (inl (inr e))) = to (phase.Waiting c w walk.Walking) e refl
row_even (phase.Waiting c w walk.Walking) q (inr (inr h)) = absurd h
row_even (phase.Waiting c w walk.Parked) q (inr (inl h)) = absurd h
row_even (phase.Waiting c w walk.Parked) q (inr (inr (inl e))) = to (phase.Waiting c w walk.Parked) e refl
row_even (phase.Waiting c w walk.Parked) q (inr (inr (inr e))) = to (phase.Waiting c w walk.Parked) e refl
row_even (phase.Waiting c w walk.Alarmed) q (inr (inl h)) = absurd h
row_even (phase.Waiting c w walk.Alarmed) q (inr (inr h)) = absurd h

module _ {B : Type 0} (program : Bool → B → Program B) (key : Key B) (t : ℕ) where
  -- so it is over a run
  counts_even : (u : Ruled program key) (later : List (Ruled program key)) → AreAskedMoments program key u later
      → readied program key t u later + one_if (is_ready (phase_then program key t u))
      ≡ claims program key t u later + one_if (is_ready (phase_then program key t (last_moment program key u later)))
  counts_even u [] a = refl
  counts_even u (w ∷ ws) a =
      let e = row_even (phase_then program key t u) (phase_then program key t w)
      (step_rows program key u w.now a.0 t) in
      let f = counts_even w ws a.1 in omega (arith, e, f)

pub readied_once : (B : Type 0) → ReadiedOncePerClaim B
readied_once B program key t u later a runs ready none =
    let e = counts_even program key t u later a in
    let f : one_if (is_ready (phase_then program key t u)) ≡ 0 = ap (λ p. one_if (is_ready p)) runs in
    let g : one_if (is_ready (phase_then program key t (last_moment program key u later))) ≡ 1
    = ap (λ p. one_if (is_ready p)) ready in omega (arith, e, f, g, none)
