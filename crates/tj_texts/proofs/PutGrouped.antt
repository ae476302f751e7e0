-- A cause that is put into the first group to which it belongs, as the code does it.
use Rattle.std.proofs.Common.{◌≡◌, ◌<◌, ◌≤◌, ◌+◌, ◌∙◌, ℕ, suc, Bool, true, false, not, cond, List, [], ◌∷◌, ◌++◌}
use Rattle.std.proofs.Common.{arith, ap, get_or, length, map, slice_set, subst, sym}
use Rattle.tj_texts.specs.Inner.GroupKeys as keys
use Rattle.tj_findings.specs.Forests.{Tree}
use Rattle.tj_findings.specs.Groups.{alone, belongs, grouped, with_tree}
use Rattle.tj_texts.specs.Inner.GroupViews.{view}
use Rattle.tj_texts.specs.declared.groups.Group as code

-- how many groups stand in front of the first to which the cause belongs
abbrev pub before : Tree → List code.Group → ℕ
before t gs = keys.before t.root gs

-- there is such a group
grouped_there : (t : Tree) (gs : List code.Group) (old new : code.Group) → before t gs < length gs
    → old ≡ get_or gs (before t gs) old → view new ≡ with_tree t (view old)
    → map view (slice_set gs (before t gs) new) ≡ grouped (map view gs) t
grouped_there t [] old new less is put = absurd (omega (arith, less))
grouped_there t (x ∷ gs) old new less is put =
    by (belongs t.root (view x).members) (λ l i. grouped_there t gs old new l i put) less is where
      place : Bool → ℕ
      place b = cond (not b) (1 + before t gs) 0

      by : (b : Bool)
          → (before t gs < length gs → old ≡ get_or gs (before t gs) old
          → map view (slice_set gs (before t gs) new) ≡ grouped (map view gs) t)
          → place b < length (x ∷ gs) → old ≡ get_or (x ∷ gs) (place b) old
          → map view (slice_set (x ∷ gs) (place b) new)
          ≡ cond b (with_tree t (view x) ∷ map view gs) (view x ∷ grouped (map view gs) t)
      by true h l i = ap (λ z. z ∷ map view gs) (put ∙ ap (λ (g : code.Group). with_tree t (view g)) i)
      by false h l i =
          let next : suc (before t gs) ≡ 1 + before t gs = omega arith in
          ap (λ m. map view (slice_set (x ∷ gs) m new)) (sym next)
          ∙ ap (λ z. view x ∷ z) (h (omega (arith, l)) (i ∙ ap (λ m. get_or (x ∷ gs) m old) (sym next)))

-- the same by a number that is found
pub grouped_at : (t : Tree) (gs : List code.Group) (n : ℕ) (old new : code.Group) → n ≡ before t gs → n < length gs
    → old ≡ get_or gs n old → view new ≡ with_tree t (view old)
    → map view (slice_set gs n new) ≡ grouped (map view gs) t
grouped_at t gs n old new same less is put =
    ap (λ m. map view (slice_set gs m new)) same
    ∙ grouped_there t gs old new (subst (λ m. m < length gs) same less) (is ∙ ap (λ m. get_or gs m old) same) put

-- there is no such group
pub grouped_behind : (t : Tree) (gs : List code.Group) (new : code.Group) → length gs ≤ before t gs
    → view new ≡ alone t → map view (gs ++ new ∷ []) ≡ grouped (map view gs) t
grouped_behind t [] new past put = ap (λ z. z ∷ []) put
grouped_behind t (x ∷ gs) new past put =
    by (belongs t.root (view x).members) (λ p. grouped_behind t gs new p put) past where
      place : Bool → ℕ
      place b = cond (not b) (1 + before t gs) 0

      by : (b : Bool) → (length gs ≤ before t gs → map view (gs ++ new ∷ []) ≡ grouped (map view gs) t)
          → length (x ∷ gs) ≤ place b
          → map view ((x ∷ gs) ++ new ∷ [])
          ≡ cond b (with_tree t (view x) ∷ map view gs) (view x ∷ grouped (map view gs) t)
      by true h p = absurd (omega (arith, p))
      by false h p = ap (λ z. view x ∷ z) (h (omega (arith, p)))
