-- What `known` tells: it has one answer, and what each step of the mode gives for it.
use Rattle.tj_modes.proofs.Prelude.{Err, Full, IfOk, IsKnownOf, IsStartOf, Limits, List, NeedsMore, Ok, Oom, Output}
use Rattle.tj_modes.proofs.Prelude.{Program, Result, Start, Status, Task, [], ap, full_line, in_unpermuted}
use Rattle.tj_modes.proofs.Prelude.{needs_more, refl, status_of, subst, sym, tells, ℕ, ◌↔◌, ◌∙◌, ◌∷◌, ◌≡◌}
use Rattle.tj_mean.specs.Acts.{AreActsOf, meant_lines}
use Rattle.tj_mean.specs.declared.act.ActLine.{ActLine}
use Rattle.tj_mean.proofs.Lists.NameOrder.{in_permuted}
use Rattle.tj_mean.proofs.Outcomes.OneOutcome.{same_in_order}
use Rattle.tj_known.specs.KnownLines.{AreTold, IsTold, Join, joins_in}
use Rattle.tj_known.specs.KnownTexts.{known_text}
use Rattle.tj_known.specs.declared.known.How.{How}
use Rattle.tj_known.specs.declared.known.KnownLine.{KnownLine}
use Rattle.tj_modes.specs.KnownRuns.{AreJoinsOf, has_against}
use Rattle.tj_modes.proofs.Outputs.{if_ok}
use Rattle.tj_known.specs.declared.known.How.TheVariants as how

-- ---- one answer

-- a meaning has one list of acts
pub one_acts : {B : Type 0} (program : Program B) (N : ℕ) (a b : List ActLine) → AreActsOf program N a
    → AreActsOf program N b → a ≡ b
one_acts program N a b x y = same_in_order (λ (l : ActLine). l.name) a b x.in_name_order y.in_name_order
    (λ l i. in_unpermuted (meant_lines program N) b y.same_lines l
    (in_permuted (meant_lines program N) a x.same_lines l i))
    (λ l i. in_unpermuted (meant_lines program N) a x.same_lines l
    (in_permuted (meant_lines program N) b y.same_lines l i))

-- two that are `Known` exactly where the one thing is so, and `Along` exactly where the other is
one_how : (IsKnown IsAlong : Type 0) (x y : How) → (x ≡ how.Known) ↔ IsKnown → (y ≡ how.Known) ↔ IsKnown
    → (x ≡ how.Along) ↔ IsAlong → (y ≡ how.Along) ↔ IsAlong → x ≡ y
one_how IsKnown IsAlong how.Known y a b c d = sym (b.1 (a.0 refl))
one_how IsKnown IsAlong how.Along y a b c d = sym (d.1 (c.0 refl))
one_how IsKnown IsAlong how.Against how.Known a b c d = a.1 (b.0 refl)
one_how IsKnown IsAlong how.Against how.Along a b c d = c.1 (d.0 refl)
one_how IsKnown IsAlong how.Against how.Against a b c d = refl

one_line : (lines : List ActLine) (j : Join) (k m : KnownLine) → IsTold lines j k → IsTold lines j m → k ≡ m
one_line lines j k m x y =
    let by : k.by ≡ m.by = x.by ∙ sym y.by in
    let joined : k.of ≡ m.of = x.of_joined ∙ sym y.of_joined in
    let same : k.how ≡ m.how = one_how _ _ k.how m.how x.known y.known x.along y.along in
    λ i. record { by = by i; of = joined i; how = same i }

one_told : (lines : List ActLine) (js : List Join) (ks ms : List KnownLine) → AreTold lines js ks → AreTold lines js ms
    → ks ≡ ms
one_told lines [] [] [] x y = refl
one_told lines [] [] (m ∷ ms) x y = absurd y
one_told lines [] (k ∷ ks) ms x y = absurd x
one_told lines (j ∷ js) [] ms x y = absurd x
one_told lines (j ∷ js) (k ∷ ks) [] x y = absurd y
one_told lines (j ∷ js) (k ∷ ks) (m ∷ ms) x y =
    let first = one_line lines j k m x.0 y.0 in
    let rest = one_told lines js ks ms x.1 y.1 in
    λ i. first i ∷ rest i

-- one thing is told of the joins of a meaning
pub one_joins : (start : Start) (a b : List KnownLine) → AreJoinsOf start a → AreJoinsOf start b → a ≡ b
one_joins start a b x y =
    let same : y.lines ≡ x.lines = one_acts start.program start.cells y.lines x.lines y.acts x.acts in
    one_told x.lines (joins_in x.lines) a b x.told (subst (λ lines. AreTold lines (joins_in lines) b) same y.told)

-- and `known` gives one status and one text
pub one_known : (start : Start) (a b : Status) (s t : List ℕ) → IsKnownOf start a s → IsKnownOf start b t
    → (a ≡ b) × (s ≡ t)
one_known start a b s t (needs_more m) (needs_more n) = (refl, refl)
one_known start a b s t (needs_more m) (tells joins fits are) = absurd (fits m)
one_known start a b s t (tells joins fits are) (needs_more m) = absurd (fits m)
one_known start a b s t (tells joins fits are) (tells others also are_too) =
    let same = one_joins start joins others are are_too in
    (ap (λ x. status_of (has_against x)) same, ap known_text same)

-- ---- what the steps give

-- what `known` gives of a script under these limits
abbrev pub Known : Limits → List Task → Status → List ℕ → Type 0
Known limits script status text = (start : Start) × IsStartOf limits script start × IsKnownOf start status text

-- the joins of acts are told
pub Known-told : (start : Start) (limits : Limits) (script : List Task) (lines : List ActLine) (r : Result Output Oom)
    → IsStartOf limits script start → ¬ NeedsMore start → AreActsOf start.program start.cells lines
    → IfOk r (λ output. (joins : List KnownLine) × AreTold lines (joins_in lines) joins
    × (output.status ≡ status_of (has_against joins)) × (output.text.items ≡ known_text joins))
    → IfOk r (λ output. Known limits script output.status output.text.items)
Known-told start limits script lines r is fits acts told = if_ok r (λ output t. (
  start,
  is,
  subst (λ z. IsKnownOf start z output.text.items) (sym t.2)
      (subst (λ z. IsKnownOf start (status_of (has_against t.0)) z) (sym t.3)
      (tells t.0 fits (record { lines = lines; acts = acts; told = t.1 }))),
)) told

-- the meaning is full
pub Known-full : (start : Start) (limits : Limits) (script : List Task) (r : Result Output Oom)
    → IsStartOf limits script start → NeedsMore start → IfOk r (λ output. output.status ≡ Full)
    → IfOk r (λ output. output.text.items ≡ full_line start.cells)
    → IfOk r (λ output. Known limits script output.status output.text.items)
Known-full start limits script (Ok output) is more s t = (
  start,
  is,
  subst (λ z. IsKnownOf start z output.text.items) (sym s)
      (subst (λ z. IsKnownOf start Full z) (sym t) (needs_more more)),
)
Known-full start limits script (Err oom) is more s t = tt
