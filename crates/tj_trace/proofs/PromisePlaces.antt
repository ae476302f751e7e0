-- Places that refer to promises refer to the same ones when there are more references.
use Rattle.tj_trace.proofs.Prelude.{List, Name, Ok, Reference, [], ap, hand_all, has, map, refl, zero, suc, Bool}
use Rattle.tj_trace.proofs.Prelude.{Sort, false, true, ℕ, ◌++◌, ◌∙◌, ◌∷◌, ◌≡◌}
use Rattle.tj_body.specs.History.{hand_one, reference_at}
use Rattle.tj_body.specs.Names.{without}
use Rattle.tj_trace.specs.Traces.{set_of, hand_of}
use Rattle.tj_trace.specs.declared.line.HandNote.{HandNote}
use Rattle.tj_trace.specs.declared.line.SetNote.{SetNote}
use Rattle.tj_trace.specs.declared.logged.PlaceHand.{PlaceHand}
use Rattle.tj_trace.specs.declared.logged.PlaceSet.{PlaceSet}
use Rattle.tj_base.specs.declared.cell.Sort.TheVariants as sort

no_promise : ◌≡◌ {A = Sort} sort.Task sort.Promise → ⊥
no_promise e = cc

-- a place that refers to a promise refers to it when there are more references
pub same_reference : (x : Name) (rs more : List Reference) (k : ℕ) → (reference_at x rs k).sort ≡ sort.Promise
    → reference_at x (rs ++ more) k ≡ reference_at x rs k
same_reference x [] more zero e = absurd (no_promise e)
same_reference x [] more (suc k) e = absurd (no_promise e)
same_reference x (r ∷ rs) more zero e = refl
same_reference x (r ∷ rs) more (suc k) e = same_reference x rs more k e

-- the places refer to promises
abbrev pub ArePromises : Name → List Reference → List ℕ → Type 0
ArePromises x rs [] = Unit {0}
ArePromises x rs (k ∷ ks) = ((reference_at x rs k).sort ≡ sort.Promise) × ArePromises x rs ks

-- they do so when there are more references
pub still_promises : (x : Name) (rs more : List Reference) (ks : List ℕ) → ArePromises x rs ks
    → ArePromises x (rs ++ more) ks
still_promises x rs more [] h = tt
still_promises x rs more (k ∷ ks) h =
    (ap (λ (r : Reference). r.sort) (same_reference x rs more k h.0) ∙ h.0, still_promises x rs more ks h.1)

-- these and those do so
pub both_promises : (x : Name) (rs : List Reference) (ks ls : List ℕ) → ArePromises x rs ks → ArePromises x rs ls
    → ArePromises x rs (ks ++ ls)
both_promises x rs [] ls h l = l
both_promises x rs (k ∷ ks) ls h l = (h.0, both_promises x rs ks ls h.1 l)

-- the places of sets
abbrev pub set_places : List PlaceSet → List ℕ
set_places = map (λ n. n.place)

-- what was set is the same promises when there are more references
pub same_sets : (x : Name) (rs more : List Reference) (ns : List PlaceSet) → ArePromises x rs (set_places ns)
    → map (set_of x (rs ++ more)) ns ≡ map (set_of x rs) ns
same_sets x rs more [] h = refl
same_sets x rs more (n ∷ ns) h =
    ap (λ (r : Reference). let s : SetNote = record { promise = r.name; at = n.at } in
    s ∷ map (set_of x (rs ++ more)) ns) (same_reference x rs more n.place h.0)
    ∙ ap (λ l. set_of x rs n ∷ l) (same_sets x rs more ns h.1)

-- the places of hands
abbrev pub hand_places : List PlaceHand → List ℕ
hand_places = map (λ n. n.place)

-- what was handed on is the same promises when there are more references
pub same_hands : (x : Name) (rs more : List Reference) (ns : List PlaceHand) → ArePromises x rs (hand_places ns)
    → map (hand_of x (rs ++ more)) ns ≡ map (hand_of x rs) ns
same_hands x rs more [] h = refl
same_hands x rs more (n ∷ ns) h =
    ap (λ (r : Reference). let s : HandNote = record { promise = r.name; thing = n.thing } in
    s ∷ map (hand_of x (rs ++ more)) ns) (same_reference x rs more n.place h.0)
    ∙ ap (λ l. hand_of x rs n ∷ l) (same_hands x rs more ns h.1)

-- what is handed by a fork that is made are promises
pub handed_promises : (x : Name) (rs : List Reference) (holds left : List Name) (ks : List ℕ)
    → hand_all holds (map (reference_at x rs) ks) ≡ Ok left → ArePromises x rs ks
handed_promises x rs holds left [] e = tt
handed_promises x rs holds left (k ∷ ks) e =
    let r = reference_at x rs k in
    by r.sort (has r.name holds) refl (handed_promises x rs (without r.name holds) left ks) e where
      by : (s : Sort) (b : Bool) → (reference_at x rs k).sort ≡ s
          → (hand_all (without (reference_at x rs k).name holds) (map (reference_at x rs) ks) ≡ Ok left
          → ArePromises x rs ks)
          → hand_one s b (reference_at x rs k).name
          (hand_all (without (reference_at x rs k).name holds) (map (reference_at x rs) ks)) ≡ Ok left
          → ArePromises x rs (k ∷ ks)
      by sort.Task b s rest f = absurd (cc)
      by sort.Promise false s rest f = absurd (cc)
      by sort.Promise true s rest f = (s, rest f)
