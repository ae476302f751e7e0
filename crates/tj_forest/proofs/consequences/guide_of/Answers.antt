use Rattle.std.proofs.Common.{subst, sym}
use Rattle.tj_findings.specs.Echoes.{back}
use Rattle.tj_forest.specs.Inner.Numbers.{AreSteps}
use Rattle.tj_forest.proofs.consequences.guide_of.Goals as goal

pub returns-clause-guide : goal.returns-clause-guide
returns-clause-guide c =
    let lines = c.args.lookups.lines.now in record {
      searchable = c.requires.lookups;
      members = c.in_ok-members.ensures.found;
      ahead = c.in_ok-ahead.ensures;
      steps = c.in_ok-steps.ensures;
      to_echoes = c.in_ok-to_echoes.ensures;
      back = c.in_ok-back.ensures lines (back lines)
          (subst (AreSteps lines (back lines)) (sym c.as_slice-2.ensures.value) c.in_ok-steps.ensures);
    }
