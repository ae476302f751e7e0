-- A task that is taken up in a wave, as the code has it.
use Rattle.std.proofs.Common.{◌≡◌, ℕ, zero, suc, ◌<◌, ◌≤◌, inl, inr, List, [], ◌∷◌, ◌++◌, map, length, get_or}
use Rattle.std.proofs.Common.{refl, ap, ◌∙◌, subst, arith}
use Rattle.std.proofs.lemmas.List.{get_or-set_same, set-set}
use Rattle.std.specs.Prelude.{slice_set}
use Rattle.tj_base.specs.ForkOrder.{Name}
use Rattle.tj_body.specs.History.{Assignment, start}
use Rattle.tj_body.specs.Points.{HasStopped}
use Rattle.tj_body.specs.Programs.{Rules}
use Rattle.tj_body.specs.declared.point.Entry.{Entry}
use Rattle.tj_body.specs.declared.point.Task.{Task}
use Rattle.tj_body.specs.declared.point.Point.{Point}
use Rattle.tj_mean.specs.Inner.Reached.{Reaches, emptied}
use Rattle.tj_mean.specs.Inner.Waves.{IsTakenUp}
use Rattle.tj_mean.proofs.AtWork.KeptPoints.{any_default}

module _ {B : Type 0} (rules : Rules B) (V : Assignment) (N n at : ℕ) (qs : List (Point B)) (there : at < length qs)
    (q : Point B) (q_is : q ≡ get_or qs at q) (end : Point B) (reached : Reaches rules V q end)
    (stopped : HasStopped V end) (r : Point B) (r_is : r ≡ get_or (slice_set qs at end) at r) (e : Point B)
    (e_is : e ≡ emptied r) (cs : List (Task B)) (cs_are : cs ≡ r.children) (ws : List (Name × Entry))
    (ws_are : ws ≡ r.writes) (writes writes' : List (Name × Entry)) (written : writes' ≡ writes ++ ws) where
  r_same : r ≡ end
  r_same = r_is ∙ get_or-set_same qs at end r there

  front_same : slice_set (slice_set qs at end) at e ≡ slice_set qs at (emptied end)
  front_same = set-set qs at end e ∙ ap (λ p. slice_set qs at p) (e_is ∙ ap (λ (p : Point B). emptied p) r_same)

  cs_same : cs ≡ end.children
  cs_same = cs_are ∙ ap (λ (p : Point B). p.children) r_same

  all_written : writes' ≡ writes ++ end.writes
  all_written = written ∙ ap (λ l. writes ++ l) (ws_are ∙ ap (λ (p : Point B). p.writes) r_same)

  reached_so : (d : Point B) → Reaches rules V (get_or qs at d) end
  reached_so d = subst (λ z. Reaches rules V z end) (q_is ∙ any_default qs at there q d) reached

  module _ (p : Point B) (p_is : p ≡ get_or (slice_set (slice_set qs at end) at e) at p) where
    has_index : at < length (slice_set qs at end)
    has_index = by qs at there where
      by : (l : List (Point B)) (i : ℕ) → i < length l → i < length (slice_set l i end)
      by [] i h = absurd (omega arith)
      by (x ∷ xs) zero h = omega arith
      by (x ∷ xs) (suc i) h = let m = by xs i (omega arith) in omega arith

    name_same : length p.name ≡ length end.name
    name_same = ap (λ (z : Point B). length z.name) (p_is
        ∙ get_or-set_same (slice_set qs at end) at e p has_index
        ∙ e_is ∙ ap (λ (z : Point B). emptied z) r_same)

    -- its children begin
    pub children_begin : (kept : List (Task B)) (rest : List (Point B)) → length p.name ≤ n
        → rest ≡ slice_set (slice_set qs at end) at e ++ map start cs
        → IsTakenUp rules V N n at qs rest kept kept writes writes'
    children_begin kept rest l rest_is = let m = name_same in record {
      end = end;
      reached = reached_so;
      stopped = stopped;
      written = all_written;
      children = inl (
        omega arith,
        rest_is ∙ ap (λ l. l ++ map start cs) front_same
            ∙ ap (λ l. slice_set qs at (emptied end) ++ map start l) cs_same,
        refl,
      );
    }

    -- its children come later
    pub children_kept : (kept kept' : List (Task B)) (rest : List (Point B)) → n < length p.name
        → rest ≡ slice_set (slice_set qs at end) at e → kept' ≡ kept ++ cs
        → IsTakenUp rules V N n at qs rest kept kept' writes writes'
    children_kept kept kept' rest l rest_is kept_are = let m = name_same in record {
      end = end;
      reached = reached_so;
      stopped = stopped;
      written = all_written;
      children = inr (omega arith, rest_is ∙ front_same, inl (kept_are ∙ ap (λ l. kept ++ l) cs_same));
    }

    -- more than the limit come later
    pub children_left_out : (kept : List (Task B)) (rest : List (Point B)) → n < length p.name
        → rest ≡ slice_set (slice_set qs at end) at e → N < length kept
        → IsTakenUp rules V N n at qs rest kept kept writes writes'
    children_left_out kept rest l rest_is many = let m = name_same in record {
      end = end;
      reached = reached_so;
      stopped = stopped;
      written = all_written;
      children = inr (omega arith, rest_is ∙ front_same, inr (many, refl));
    }
