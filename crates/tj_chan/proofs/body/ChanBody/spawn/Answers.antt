use Rattle.std.proofs.Common.{arith, sym, subst, length, ◌≤◌, ◌*◌, ◌∙◌}
use Rattle.std.specs.Prelude.{IsTrue}
use Rattle.std.specs.List.{list_all, flat_map}
use Rattle.tj_chan.specs.Chats.{most_items}
use Rattle.tj_chan.specs.ChanBodies.{is_row, most_row_places, all_places, row_at}
use Rattle.tj_chan.specs.Inner.RowLaws.{rows_stay, spawn_fits}
use Rattle.tj_chan.proofs.body.ChanBody.spawn.Given.{Over}
use Rattle.tj_chan.proofs.body.ChanBody.spawn.Goals as goal

pub places_of-requires-clause-room : goal.places_of-requires-clause-room
places_of-requires-clause-room g c = let b = c.args.self.now in
    subst (λ z. IsTrue (list_all (is_row most_row_places) z)) (sym c.items-4.ensures)
    (rows_stay b.places most_row_places b.rows c.requires.room c.requires.places)

pub places_of-requires-2-clause-room : goal.places_of-requires-2-clause-room
places_of-requires-2-clause-room g c = let b = c.args.self.now in
    subst (λ z. IsTrue (list_all (is_row most_row_places) z)) (sym c.items-6.ensures)
    (rows_stay b.places most_row_places b.rows c.requires.room c.requires.places)

pub child_rows-requires-clause-room : goal.child_rows-requires-clause-room
child_rows-requires-clause-room g c = let b = c.args.self.now in
    subst (λ z. IsTrue (list_all (is_row most_row_places) z)) (sym c.items-8.ensures)
    (rows_stay b.places most_row_places b.rows c.requires.room c.requires.places)

module _ (g : Over) (c : goal.After-items-11 g) where
  -- a spawn passes few enough promises
  passed_few : length c.items-11.result.now ≤ most_items * length c.args.pass.now
  passed_few = let b = c.args.self.now in let pass = c.args.pass.now in
      let few = (spawn_fits b.places b.rows pass c.args.give.now c.requires.rows c.requires.places).few in
      subst (λ z. length z ≤ most_items * length pass) (sym (c.items-11.ensures ∙ c.in_ok-passed.ensures))
      (subst (λ z. length (flat_map (λ k. all_places (row_at z k)) c.items-5.result.now) ≤ most_items * length pass)
      (sym c.items-4.ensures)
      (subst (λ z. length (flat_map (λ k. all_places (row_at b.rows k)) z) ≤ most_items * length pass)
      (sym c.items-5.ensures) few))

pub overflow_cast-body : goal.overflow_cast-body
overflow_cast-body g c = let n = passed_few g c in let l = c.requires.few in omega arith

pub overflow_add-body : goal.overflow_add-body
overflow_add-body g c = let n = passed_few g c in let l = c.requires.few in omega arith
