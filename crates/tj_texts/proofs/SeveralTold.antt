-- One step of what is told of the members of several cycles.
use Rattle.std.proofs.Common.{◌≡◌, ◌<◌, ◌-◌, ◌+◌, ◌∙◌, ℕ, suc, List, ◌++◌, ap, sym, arith}
use Rattle.std.proofs.lemmas.List.{append_assoc}
use Rattle.tj_findings.specs.Scenes.{Told}
use Rattle.tj_texts.specs.WhyTexts.{member, members_from}
use Rattle.tj_findings.specs.declared.finding.Finding.{Finding}

-- one member more
pub one_member : (s : Told) (fs : List Finding) (n k : ℕ) (old new part added total : List ℕ) → n < k
    → old ++ members_from s fs n (k - n) ≡ total → added ≡ member s fs n → part ≡ added → new ≡ old ++ part
    → new ++ members_from s fs (n + 1) (k - (n + 1)) ≡ total
one_member s fs n k old new part added total less so_far told same grown =
    let more : k - n ≡ suc (k - (n + 1)) = omega arith in
    let rest = members_from s fs (n + 1) (k - (n + 1)) in
    ap (λ z. z ++ rest) (grown ∙ ap (λ z. old ++ z) (same ∙ told))
    ∙ append_assoc old (member s fs n) rest
    ∙ ap (λ m. old ++ members_from s fs n m) (sym more)
    ∙ so_far
