-- A task that is ending owns its result, and the promises that it still has.
use Rattle.tj_park.proofs.Prelude.{CellId, IsIn, List, View, inl, numbers, refl, subst, sym, ℕ, ◌∷◌}
use Rattle.tj_words.specs.Calls.OwnerViews.{IsOwnersSeat}
use Rattle.tj_park.specs.Inner.Breaks.{OwnsStill}

-- it owns each of these
abbrev pub owner_still : {B : Type 0} {t c : ℕ} {promises : List CellId} {v : View B} → OwnsStill t promises v
    → IsIn c (t ∷ numbers promises) → IsOwnersSeat t c v
owner_still {t = t} {c = c} o i = record {
  custody = o.custody;
  held = o.held;
  may = o.runs;
  out = o.out;
  result = subst (IsIn t) (sym o.owned) (inl refl);
  owns = subst (IsIn c) (sym o.owned) i;
}
