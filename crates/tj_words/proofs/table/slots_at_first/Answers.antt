use Rattle.tj_words.proofs.Prelude.{None, Some, [], ap, arith, replicate, root_record, ◌++◌, ◌+◌, ◌-◌, ◌∙◌, ◌∷◌, ◌≡◌}
use Rattle.tj_words.proofs.Prelude.{◌≤◌}
use Rattle.std.proofs.lemmas.List.{replicate_more}
use Rattle.tj_words.proofs.table.slots_at_first.Goals as goal

pub loop-i-preserved : goal.loop-i-preserved
loop-i-preserved g c = let i = c.loop-i.invariant in record {
  so_far = c.push_reserved-in-loop-i.ensures.items
      ∙ (ap (λ l. l ++ None ∷ []) i.so_far
      ∙ ap (λ l. Some (root_record c.args.root) ∷ l) (replicate_more (c.loop-i._i - 1) None
      ∙ ap (λ n. replicate n None)
      (let n : c.loop-i._i - 1 + 1 ≡ c.loop-i._i + 1 - 1 = (let s = i.some in omega arith) in n)));
  some = omega arith;
  length = (let n = i.length in omega arith);
  room = (let r = i.room in omega arith);
}

pub returns : goal.returns
returns g c = let i = c.loop-i.invariant in
    i.so_far ∙ ap (λ n. Some (root_record c.args.root) ∷ replicate n None)
    (let e : c.loop-i._i - 1 ≡ c.args.cells - 1 = (let t = c.loop-i-test.false in
    let a : c.loop-i._i ≤ c.args.cells = c.loop-i.auto._i-end c.requires.some in omega arith) in e)
