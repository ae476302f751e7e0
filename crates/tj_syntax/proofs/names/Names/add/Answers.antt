-- The map has the new name's index, and the others keep theirs.
use Rattle.std.proofs.Common.{arith, ◌≡◌, [], ◌∷◌, ◌++◌, length, None, length-append, ◌<◌}
use Rattle.std.proofs.lemmas.Grind.{common_steps}
use Rattle.std.proofs.lemmas.Map.Text.{btree_map_updates_str}
use Rattle.tj_syntax.specs.Marks.{index_of, most_tasks}
use Rattle.tj_syntax.proofs.Naming.Indexes.{indexed_push}
use Rattle.tj_syntax.proofs.names.Names.add.Goals as goal

pub invariant_of-self-in-Ok : goal.invariant_of-self-in-Ok
invariant_of-self-in-Ok c =
    let old = c.self.inside.list.items in
    let y = c.args.name.now in
    let updated = btree_map_updates_str y c.self.inside.numbers c.insert.new.self _ c.in-Ok.ensures.updates in
    let count : c.len-number.result ≡ length old = grind (arith, common_steps) in
    let pushed : c.push.new.self.items ≡ old ++ y ∷ [] = grind (arith, common_steps) in
    let absent : index_of old y ≡ None = grind (arith, common_steps) in
    record {
      indexed = λ x. let step = indexed_push old y c.self.inside.numbers c.insert.new.self c.self.invariant.indexed
          absent (rw count at updated) x in rw pushed step;
      few =
          let more = length-append old (y ∷ []) in
          let few : length old < most_tasks = grind (arith, common_steps) in
          rw pushed (omega (arith, more, few));
    }
