use Rattle.std.proofs.Common.{◌++◌, ◌∷◌, ◌+◌, [], ap, ◌∙◌, sym, append_assoc}
use Rattle.tj_chan.specs.ChanBodies as bodies
use Rattle.tj_chan.proofs.RowLoops.{places_more}
use Rattle.tj_chan.proofs.rows.add_places.Goals as goal

pub loop-k-preserved : goal.loop-k-preserved
loop-k-preserved c = let xs = c.args.places.now.items in let from = c.args.from in let k = c.loop-k.k in
    c.in_ok-push.ensures.items ∙ ap (λ l. l ++ (from + k) ∷ []) c.loop-k.invariant
    ∙ append_assoc xs (bodies.places_from from k) ((from + k) ∷ [])
    ∙ ap (λ l. xs ++ l) (sym (places_more from k))
