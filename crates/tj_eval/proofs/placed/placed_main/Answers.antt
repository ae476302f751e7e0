-- The declaration of `main` is one of the script.
use Rattle.std.proofs.Common.{◌∙◌, sym}
use Rattle.tj_eval.proofs.placed.placed_main.Goals as goal

pub placed-requires-clause-home : goal.placed-requires-clause-home
placed-requires-clause-home c = let is = c.requires.script.1 in
    (is.main, c.home_of-home.ensures.home is.main (sym c.main_number-f.ensures.main ∙ is.has_main))
