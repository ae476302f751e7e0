-- An exchange of what lies in a slot that a seat has shows nothing, whatever the law has beside the words then.
use Rattle.tj_words.proofs.Prelude.{WordsSay, ap, arith, drawn_in, min, refl, ◌∙◌, ◌≡◌}
use Rattle.tj_words.proofs.Lemmas.{IsQuietStep}
use Rattle.tj_runs.specs.OneStates.{SlotStepsShow}
use Rattle.tj_runs.proofs.OneStates.{chained}
use Rattle.tj_words.proofs.Events.QuietMoves.{still}

pub slot_steps_show : (B : Type 0) → SlotStepsShow B
slot_steps_show B m y l = (quiet.0, λ r. chained m.law r quiet.1 (omega (arith, same)) same ∙ quiet.0)
  where
    same : drawn_in m.cells y ≡ drawn_in m.cells m.now
    same = ap (λ (z : WordsSay). min z.count m.cells) l.words

    quiet : IsQuietStep m.law y
    quiet = still m.law y m.now.words l.words l.keeps refl refl refl refl (λ d i. (refl, refl))
