-- What is told of an outcome that is marked is what is told of its forest.
use Rattle.std.proofs.Common.{◌≡◌, ◌∙◌, Bool, true, cond, List, length, ap, sym}
use Rattle.tj_mean.specs.Outcomes.{is_marked}
use Rattle.tj_mean.specs.declared.outcome.Link.{Link}
use Rattle.tj_mean.specs.declared.outcome.Outcome.{Outcome}
use Rattle.tj_trace.specs.declared.line.TraceLine.{TraceLine}
use Rattle.tj_findings.specs.Forests.{Forest, forest_of}
use Rattle.tj_json.specs.JsonTexts.{fine_json, forest_json, told_json}
use Rattle.tj_findings.specs.Scenes.{Told}
use Rattle.tj_texts.specs.WhyTexts.{fine_text, forest_text, told_text}

module _ (s : Told) (lines : List TraceLine) (o : Outcome) (cycles : List (List Link)) (f : Forest)
    (marked : is_marked o ≡ true) (same : cycles ≡ o.cycles) (is : f ≡ forest_of s.places lines cycles) where
  -- the forest is that of the outcome
  its_forest : f ≡ forest_of s.places lines o.cycles
  its_forest = is ∙ ap (forest_of s.places lines) same

  -- in words
  pub words_told : (all : Bool) → forest_text s all f ≡ told_text s lines o all
  words_told all =
      ap (forest_text s all) its_forest
      ∙ ap (λ b. cond b (forest_text s all (forest_of s.places lines o.cycles)) (fine_text (length lines))) (sym marked)

  -- as objects
  pub objects_told : forest_json s f ≡ told_json s lines o
  objects_told =
      ap (forest_json s) its_forest
      ∙ ap (λ b. cond b (forest_json s (forest_of s.places lines o.cycles)) (fine_json (length lines))) (sym marked)
