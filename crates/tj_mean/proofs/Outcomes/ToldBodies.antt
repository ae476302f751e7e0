-- What is told of tasks with their bodies is what is told of them.
use Rattle.std.proofs.Common.{◌≡◌, List, [], ◌∷◌, map, Option, Some, None, refl, sym, ap, ◌∙◌}
use Rattle.std.specs.Option.{option_map}
use Rattle.tj_body.specs.declared.point.Point.{Point}
use Rattle.tj_body.specs.declared.point.Reference.{Reference}
use Rattle.tj_mean.specs.Outcomes.{stopped_of, body_of}
use Rattle.tj_mean.specs.declared.stopped.Stopped.{Stopped}
use Rattle.tj_mean.specs.declared.stopped.StoppedBody.{StoppedBody}

module _ {B : Type 0} where
  -- what is told of a task without its body
  abbrev pub without : Option (StoppedBody B) → Option Stopped
  without o = option_map (λ (b : StoppedBody B). b.told) o

  one : (b : B) (rs : List Reference) (o : Option Stopped)
      → without (option_map (λ s. record { told = s; body = b; references = rs }) o) ≡ o
  one b rs None = refl
  one b rs (Some s) = refl

  all : (ps : List (Point B)) → map stopped_of ps ≡ map without (map body_of ps)
  all [] = refl
  all (p ∷ ps) = ap (λ o. o ∷ map stopped_of ps) (sym (one p.body p.references (stopped_of p)))
      ∙ ap (λ os. without (body_of p) ∷ os) (all ps)

  -- where the same is told with bodies, the same is told
  pub same_without : (ps qs : List (Point B)) → map body_of ps ≡ map body_of qs → map stopped_of ps ≡ map stopped_of qs
  same_without ps qs e = all ps ∙ ap (λ os. map without os) e ∙ sym (all qs)

  -- with a body the same is told of a point
  pub told_with : (p : Point B) (b : StoppedBody B) → body_of p ≡ Some b → stopped_of p ≡ Some b.told
  told_with p b e = sym (one p.body p.references (stopped_of p)) ∙ ap without e
