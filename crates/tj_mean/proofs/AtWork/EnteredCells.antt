-- One entry more in the map.
use Rattle.std.proofs.Common.{◌≡◌, Bool, true, false, cond, ◌⊎◌, inl, inr, List, [], ◌∷◌, ◌++◌, Some}
use Rattle.std.proofs.Common.{refl, sym, ap, ◌∙◌, subst}
use Rattle.tj_base.specs.ForkOrder.{Name}
use Rattle.tj_body.specs.History.{Assignment}
use Rattle.tj_body.specs.Names.{same}
use Rattle.tj_body.specs.Points.{IsIn}
use Rattle.tj_body.specs.declared.point.Entry.{Entry}
use Rattle.tj_body.proofs.Counts.{same_self, same_is}
use Rattle.tj_body.proofs.Lists.{in_left, in_right, in_either}
use Rattle.tj_mean.specs.Inner.Reached.{Enters}
use Rattle.tj_mean.proofs.Lists.Elements.{some_is}

-- nothing is entered
pub enters_none : (V : Assignment) → Enters [] V V
enters_none V = record {
  written = λ q e i. absurd i;
  stays = λ q e h. (e, h);
  only = λ q e h. inr h;
}

module _ (ws : List (Name × Entry)) (V W X : Assignment) (x : Name) (e : Entry)
    (put : (q : Name) → X q ≡ cond (same q x) (Some e) (W q)) (h : Enters ws V W) where
  at_same : (q : Name) (b : Bool) → same q x ≡ b → X q ≡ cond b (Some e) (W q)
  at_same q b s = put q ∙ ap (λ t. cond t (Some e) (W q)) s

  keeps : (q : Name) (d : Entry) → W q ≡ Some d → (y : Entry) × (X q ≡ Some y)
  keeps q d g = by (same q x) refl where
    by : (b : Bool) → same q x ≡ b → (y : Entry) × (X q ≡ Some y)
    by true s = (e, at_same q true s)
    by false s = (d, at_same q false s ∙ g)

  written_too : (q : Name) (d : Entry) → IsIn (q, d) ws ⊎ IsIn {A = Name × Entry} (q, d) ((x, e) ∷ [])
      → (y : Entry) × (X q ≡ Some y)
  written_too q d (inl i) = let r = h.written q d i in keeps q r.0 r.1
  written_too q d (inr (inl g)) =
      let n : q ≡ x = ap (λ (w : Name × Entry). w.0) g in
      (e, at_same q true (subst (λ z. same q z ≡ true) n (same_self q)))
  written_too q d (inr (inr i)) = absurd i

  only_these : (q : Name) (d : Entry) → X q ≡ Some d → IsIn (q, d) (ws ++ (x, e) ∷ []) ⊎ (V q ≡ Some d)
  only_these q d g = by (same q x) refl where
    before : IsIn (q, d) ws ⊎ (V q ≡ Some d) → IsIn (q, d) (ws ++ (x, e) ∷ []) ⊎ (V q ≡ Some d)
    before (inl i) = inl (in_left (q, d) ws ((x, e) ∷ []) i)
    before (inr v) = inr v

    by : (b : Bool) → same q x ≡ b → IsIn (q, d) (ws ++ (x, e) ∷ []) ⊎ (V q ≡ Some d)
    by true s =
        let n = same_is q x s in
        let y : d ≡ e = some_is d e (sym g ∙ at_same q true s) in
        let both : (q, d) ≡ (x, e) = λ i. (n i, y i) in
        inl (in_right (q, d) ws ((x, e) ∷ []) (inl both))
    by false s = before (h.only q d (sym (at_same q false s) ∙ g))

  -- one more
  pub enters_more : Enters (ws ++ (x, e) ∷ []) V X
  enters_more = record {
    written = λ q d i. written_too q d (in_either (q, d) ws ((x, e) ∷ []) i);
    stays = λ q d g. let r = h.stays q d g in keeps q r.0 r.1;
    only = only_these;
  }
