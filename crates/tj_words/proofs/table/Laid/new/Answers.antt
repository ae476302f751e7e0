use Rattle.tj_words.proofs.Prelude.{IsRooted, TasksStart, ap, first_slots, length, program_of, refl, subst, sym, ◌∙◌}
use Rattle.tj_words.proofs.Seating.Opening.{opening_meets, first_deep}
use Rattle.tj_words.proofs.Seating.FirstWords.{first_wide}
use Rattle.tj_words.proofs.table.Laid.new.Goals as goal

pub new-requires : goal.new-requires
new-requires g c = (
  opening_meets _ (record { cells = c.args.cells; root = c.of.result; strict = c.args.strict }) c.requires.some
      c.requires.few c.start_meets_facts.ensures
      (subst (λ z. TasksStart (program_of g.B.Body.places g.B.Body.awaits g.B.Body.left g.B.Body.asks g.B.Body.then
      c.args.strict z)) (sym c.of.ensures) (c.points_in_rounds.ensures.start c.args.strict c.args.root c.requires.root))
      (subst (λ z. IsRooted (program_of g.B.Body.places g.B.Body.awaits g.B.Body.left g.B.Body.asks g.B.Body.then
      c.args.strict z)) (sym c.of.ensures) c.requires.root) refl _ c.in_ok-slots.slots.items
      c.words_at_first.ensures
      (c.in_ok-slots.ensures ∙ ap (λ z. first_slots c.args.cells z) (sym c.of.ensures)),
  (
    c.words_at_first.ensures,
    c.in_ok-slots.ensures ∙ ap (λ z. first_slots c.args.cells z) (sym c.of.ensures),
  ),
)

pub invariant_of-result : goal.invariant_of-result
invariant_of-result g c = let m = c.in-Ok.ensures.ok in record {
  words = m.0 ∙ (ap (λ l. length l) c.words_at_first.ensures
      ∙ first_wide c.args.cells c.requires.some);
  slots = m.1 ∙ (ap (λ l. length l) c.in_ok-slots.ensures ∙ first_deep c.args.cells c.requires.some c.args.root);
  key_cells = ap (λ k. k.cells) m.5;
  key_strict = ap (λ k. k.strict) m.5;
  key_root = ap (λ k. k.root.value) m.5 ∙ (c.of.ensures ∙ sym c.of-about.ensures);
  unused = c.in_ok-room.ensures.len;
  roomy = c.in_ok-room.ensures.capacity;
  some = c.requires.some;
  few = c.requires.few;
}
