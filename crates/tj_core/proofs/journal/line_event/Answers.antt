use Rattle.std.proofs.Common.{rules, tests, ◌≡◌, ℕ, List, ap, ◌∙◌, subst, map}
use Rattle.std.specs.Prelude.{◌==◌}
use Rattle.std.specs.Option.{IfSome, IfNone}
use Rattle.std.proofs.lemmas.Iterator.Consumers.{map_from_collect}
use Rattle.std.proofs.lemmas.Iterator.Splits.{YieldsList-from_slice_split}
use Rattle.tj_events.specs.declared.event.Event.{Event}
use Rattle.tj_core.specs.Journals.Lines.{words_of, HasSmallCells, Names}
use Rattle.tj_core.proofs.Journals.Words.{if_none}
use Rattle.tj_core.proofs.journal.line_event.Goals as goal

-- the words that the line was cut into are its words
words_cut : (c : goal.After-drop-words) → map (λ w. w.now) c.as_slice.result.now ≡ words_of c.args.line.now
words_cut c =
    let got = map_from_collect c.collect.result c.collect.ensures.ran
    (YieldsList-from_slice_split _ (λ (b : ℕ). b == 32) c.args.line.now c.split.ensures.rest c.split.ensures.done
    c.split.ensures.closure (λ x r q k. search (rules, tests))) in
    let h = rw c.in_ok-words.was at got in ap (map (λ w. w.now)) c.as_slice.ensures.value ∙ h

pub returns-clause-found : goal.returns-clause-found
returns-clause-found c =
    subst (λ (ws : List (List ℕ)). IfSome c.event_of.result (λ f. HasSmallCells f × Names ws f)) (words_cut c)
    c.event_of.ensures.found

pub returns-clause-none : goal.returns-clause-none
returns-clause-none c =
    if_none c.event_of.result _ _
    (λ (none : (f : Event) → HasSmallCells f → ¬ Names (words_of c.args.line.now) f). λ g. none g.0 g.1 g.2)
    (subst (λ (ws : List (List ℕ)). IfNone c.event_of.result ((f : Event) → HasSmallCells f → ¬ Names ws f))
    (words_cut c) c.event_of.ensures.none)
