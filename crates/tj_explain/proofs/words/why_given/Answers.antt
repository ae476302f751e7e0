use Rattle.std.proofs.Common.{ap, sym, ◌∙◌, ◌≡◌}
use Rattle.tj_command.specs.declared.given.Given.TheVariants.{Words}
use Rattle.tj_explain.proofs.SameWords.{to_same_words}
use Rattle.tj_explain.proofs.words.why_given.Goals as goal

pub returns-in-Words-clause-words : goal.returns-in-Words-clause-words
returns-in-Words-clause-words g c = λ words given.
    let both : Words c.in-Words.words ≡ Words words = sym c.in-Words.is ∙ given in
    let same : c.in-Words.words ≡ words = cc in
    let seen : c.as_slice.result.now ≡ words.items = c.as_slice.ensures.value ∙ ap (λ w. w.items) same in
    let top = c.why_words.ensures in
    to_same_words seen
    (record {
      output = top.output;
      whole = top.whole;
      exact = top.exact;
      cause = top.cause;
      taken = top.taken;
      usage = top.usage;
      untouched = top.untouched;
      read_fault = top.read_fault;
      unwritten = top.unwritten;
      write_fault = top.write_fault;
      part = top.part;
      fits = top.fits;
      part_cause = top.part_cause;
      memory = top.memory;
      source_counted = top.source_counted;
      source_quiet = top.source_quiet;
      sink_counted = top.sink_counted;
      sink_quiet = top.sink_quiet;
      sound = top.sound;
    })
