-- A state changed in one cell.
use Rattle.std.proofs.Common.{◌≡◌, ◌≢◌, ℕ, zero, suc, ◌+◌, ◌<◌, ◌≤◌, refl, sym, ap, subst, arith}
use mathlib.Core.Logic.{dite}
use native.Mathlib.Decide.{ℕ_discrete}
use Rattle.tj_base.specs.Puts.{put}
use Rattle.tj_base.proofs.Puts.{put_here, put_else, at_put}
use Rattle.tj_events.specs.CoreState.{CellStage, CellState, Cells, CoreState, owner, stage}
use Rattle.tj_events.specs.Events.{staged, restage, raised_by}
use Rattle.tj_events.specs.Facts.{raised_by_all}

module _ (s : CoreState) (t : ℕ) (f : CellStage → CellStage) where
  -- the cell of t with its new stage
  abbrev restaged_cell : CellState
  restaged_cell = staged (f (stage s.cells t)) (s.cells t)

  -- another stage changes no owner
  pub re_owner : (c : ℕ) → owner (restage s t f).cells c ≡ owner s.cells c
  re_owner c = at_put s.cells t restaged_cell (λ j x. x.owner ≡ owner s.cells j) c refl (λ n. refl)

  -- the stage of t
  pub re_here : stage (restage s t f).cells t ≡ f (stage s.cells t)
  re_here = ap (λ (x : CellState). x.stage) (put_here s.cells t restaged_cell)

  -- the stage of every other cell
  pub re_else : (j : ℕ) → j ≢ t → stage (restage s t f).cells j ≡ stage s.cells j
  re_else j n = ap (λ (x : CellState). x.stage) (put_else s.cells t restaged_cell j n)

-- a change from n on is not counted among the first n cells
pub raised-put_from : (n : ℕ) (f : Cells) (i : ℕ) (a : CellState)
    → n ≤ i → raised_by_all n (put f i a) ≡ raised_by_all n f
raised-put_from zero f i a h = refl
raised-put_from (suc n) f i a h =
    λ j. raised_by (put_else f i a n (λ x. omega arith) j).stage + raised-put_from n f i a (omega arith) j

-- a change below n counts by how much the two cells differ
pub raised-put : (n : ℕ) (f : Cells) (i : ℕ) (a : CellState)
    → i < n → raised_by_all n (put f i a) + raised_by (stage f i) ≡ raised_by_all n f + raised_by a.stage
raised-put zero f i a h = absurd (omega arith)
raised-put (suc n) f i a h = dite (ℕ_discrete n i)
    (λ e. subst
    (λ k. raised_by_all (suc k) (put f i a) + raised_by (stage f i) ≡ raised_by_all (suc k) f + raised_by a.stage)
    (sym e)
    (let here : raised_by (stage (put f i a) i) ≡ raised_by a.stage = λ j. raised_by (put_here f i a j).stage in
    let below = raised-put_from i f i a (omega arith) in omega arith))
    (λ d.
    let else : raised_by (stage (put f i a) n) ≡ raised_by (stage f n) = λ j. raised_by (put_else f i a n d j).stage in
    let below = raised-put n f i a (omega arith) in omega arith)
