-- A task that may act hasn't alarmed.
use Rattle.tj_run.proofs.Prelude.{Does, HasAlarmed, MayAct}
use Rattle.tj_words.specs.declared.view.Does.TheVariants as does

pub acts_quietly : (d : Does) → MayAct d → ¬ HasAlarmed d
acts_quietly (does.Alarmed q way w) m a = m
acts_quietly d m a = a
