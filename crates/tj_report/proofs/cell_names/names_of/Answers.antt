use Rattle.tj_report.proofs.Prelude.{Begins, IsShown, List, Name, [], ap, arith, length, length-append, names}
use Rattle.tj_report.proofs.Prelude.{next_name, refl, subst, sym, ◌++◌, ◌∙◌, ◌∷◌, ◌≡◌}
use Rattle.tj_report.proofs.CellNames.{maker_below, name_next, named_all}
use Rattle.tj_report.proofs.cell_names.names_of.Goals as goal

pub loop-c-init : goal.loop-c-init
loop-c-init g c =
    let none = c.new-names.ensures.items in
    (ap (λ (l : List Name). length l) none, λ born h. subst (λ l. Begins l (names born)) (sym none) (names born, refl))

pub next_name-requires : goal.next_name-requires
next_name-requires g c some =
    let long = c.loop-c.invariant.0 in
    let here = ap (λ (l : List Name). length l) c.as_slice.ensures.value in
    let below = maker_below c.args.rest.now.cells c.requires.0 c.requires.1 c.loop-c.c c.cell.result c.cell.ensures
    (omega arith) in
    omega arith

pub loop-c-preserved : goal.loop-c-preserved
loop-c-preserved g c =
    let i = c.loop-c.invariant in
    let long = i.0 in
    let pushed = c.in_ok-push.ensures.items in
    let more = length-append c.loop-c.names.items (c.in_ok-name.name ∷ []) in
    let all = ap (λ (l : List Name). length l) pushed in
    let is : c.in_ok-name.name ≡ next_name c.loop-c.names.items c.cell.result =
    c.in_ok-name.ensures ∙ ap (λ l. next_name l c.cell.result) c.as_slice.ensures.value in (
      omega arith,
      λ born h. subst (λ l. Begins l (names born))
          (sym (pushed ∙ ap (λ n. c.loop-c.names.items ++ n ∷ []) is))
          (name_next c.args.rest.now.cells born h c.loop-c.names.items c.cell.result (i.1 born h)
          (subst (λ n. IsShown c.args.rest.now.cells n c.cell.result) (sym long) c.cell.ensures)),
    )

pub returns : goal.returns
returns g c born h =
    let i = c.loop-c.invariant in
    let long = i.0 in
    let test = c.loop-c-test.false in
    let drawn = c.drawn-c-end.ensures in
    named_all c.args.rest.now.cells born h c.loop-c.names.items (i.1 born h) (omega arith)
