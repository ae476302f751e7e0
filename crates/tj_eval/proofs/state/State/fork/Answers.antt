use Rattle.std.proofs.Common.{◌≡◌, arith, sym, subst, true, map}
use Rattle.tj_syntax.specs.View as view
use Rattle.tj_eval.specs.Bodies.{all_have_few_params}
use Rattle.tj_eval.proofs.Programs.{few_at}
use Rattle.tj_eval.proofs.state.State.fork.Goals as goal

pub child-requires : goal.child-requires
child-requires c = let found = c.in-Some.ensures.lookup in
    let here = subst (λ t. all_have_few_params t.script ≡ true) (sym c.self.view_is) c.requires in
    let all_few = subst (λ decls. all_have_few_params (map view.task decls) ≡ true) (sym c.deref.ensures.value) here in
    let few = few_at c.deref.result.now c.args.f c.in-Some.decl.now all_few found.3.0 found.1 in
    record { few = omega (arith, few, c.if-args-decl.false) }
