use Rattle.std.proofs.Common.{◌≡◌, List, [], ◌∷◌, map, refl, sym, ap, ◌∙◌}
use Rattle.tj_body.specs.SeenAs.{point_as}
use Rattle.tj_body.specs.declared.point.Point.{Point}
use Rattle.tj_mean.specs.Outcomes.{stopped_of}
use Rattle.tj_mean.proofs.laws.outcome_is_seen.Goals as goal

told : {B C : Type 0} (e : B → C) (ps : List (Point B)) → map stopped_of (map (point_as e) ps) ≡ map stopped_of ps
told e [] = refl
told e (p ∷ ps) = ap (λ z. stopped_of p ∷ z) (told e ps)

pub returns : goal.returns
returns g c = λ e ps o. (λ h. (h.0, sym (told e ps) ∙ h.1, h.2), λ h. (h.0, told e ps ∙ h.1, h.2))
