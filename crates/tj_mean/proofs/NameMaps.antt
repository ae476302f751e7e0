-- A map from names where one name's value changes.
use Rattle.std.proofs.Common.{◌≡◌, cond, Option, sym, ap, ◌∙◌}
use Rattle.std.specs.BTreeMap.{BTreeMap, get, is_at}
use Rattle.std.specs.Cmp.Lexicographic.{nat_list_eq_equiv}
use Rattle.tj_base.specs.ForkOrder.{Name}
use Rattle.tj_base.specs.MapOrder.{map_order}
use Rattle.tj_base.specs.MapOrderTies.{keys_tie}
use Rattle.tj_body.specs.Names.{same}

-- a map that is changed at a name, by the names' equality
pub changed_at : {V : Type 0} (old new : BTreeMap Name V) (x : Name) (o : Option V)
    → ((q : Name) → get map_order new q ≡ cond (is_at (map_order x) q) o (get map_order old q))
    → (q : Name) → get map_order new q ≡ cond (same q x) o (get map_order old q)
changed_at old new x o updates q =
    updates q ∙ ap (λ t. cond t o (get map_order old q)) (sym (nat_list_eq_equiv.symm q x ∙ keys_tie x q))
