use Rattle.std.proofs.Common.{Bor, List, ap, arith, ℕ, ◌∙◌}
use Rattle.std.proofs.lemmas.List.{take_all}
use Rattle.std.specs.List.{flat_map}
use Rattle.tj_faults.proofs.JoinedTexts.{texts_are}
use Rattle.tj_faults.proofs.texts.joined.Goals as goal

pub returns : goal.returns
returns c =
    let l = c.loop-part in
    let ended = c.loop-part-test.false in
    l.invariant
    ∙ ap (flat_map (λ (part : Bor (List ℕ)). part.now)) (take_all l.part-index c.args.parts.now (omega arith))
    ∙ texts_are (λ (part : Bor (List ℕ)). part.now) c.args.parts.now
