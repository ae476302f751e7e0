use Rattle.std.proofs.Common.{◌≡◌, [], ◌∷◌, ◌++◌, map, length, take, slice_index_or, ap, sym, subst, refl, ◌∙◌}
use Rattle.std.proofs.lemmas.List.{map-append, take_more}
use Rattle.std.proofs.lemmas.Option.{slice_get_read}
use Rattle.tj_mean.specs.Inner.Indexes.{Waiting}
use Rattle.tj_mean.specs.WaitIndexes.{link_at}
use Rattle.tj_mean.specs.declared.outcome.Link.{Link}
use Rattle.tj_mean.proofs.Lists.Elements.{some_is}
use Rattle.tj_mean.proofs.Outcomes.Indexes.{link_is}
use Rattle.tj_mean.proofs.wait_graph.links.Goals as goal

pub link_of-requires : goal.link_of-requires
link_of-requires c =
    let i = c.loop-index.index-index in let ts = c.args.tasks.now in let s = c.index-tasks-index.result in
    let inside = c.requires.there i 0 c.loop-index-test.true in
    let w = c.requires.waiting i 0 c.loop-index-test.true in
    let p = slice_index_or c.args.indexes.now i 0 in
    let got = slice_get_read ts (length ts) p s refl inside c.index-tasks-index.is in
    subst Waiting (some_is w.0 s (sym w.1 ∙ got)) w.2

pub loop-index-preserved : goal.loop-index-preserved
loop-index-preserved c =
    let i = c.loop-index.index-index in let ts = c.args.tasks.now in let s = c.index-tasks-index.result in
    let ps = c.args.indexes.now in
    let p = slice_index_or ps i 0 in
    let got = slice_get_read ts (length ts) p s refl (c.requires.there i 0 c.loop-index-test.true)
    c.index-tasks-index.is in
    let is : c.in_ok-link_of.field-0 ≡ link_at ts p = c.in_ok-link_of.ensures ∙ sym (link_is ts p s got) in
    c.in_ok-push.ensures.items
    ∙ ap (λ l. l ++ c.in_ok-link_of.field-0 ∷ []) c.loop-index.invariant
    ∙ ap (λ (l : Link). map (link_at ts) (take i ps) ++ l ∷ []) is
    ∙ sym (map-append (link_at ts) (take i ps) (p ∷ []))
    ∙ ap (map (link_at ts)) (sym (take_more ps i 0 c.loop-index-test.true))
