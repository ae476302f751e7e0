-- The head of a name that breaks no rule is added.
use Rattle.std.proofs.Common.{◌≡◌, ◌+◌, ◌≤◌, suc, length, map, is_some, rules, arith, ap, sym, subst, ◌∙◌}
use Rattle.std.proofs.lemmas.Grind.{common_steps}
use Rattle.std.proofs.lemmas.List.{length-map}
use Rattle.tj_syntax.specs.declared.heads.Head.{Head}
use Rattle.tj_syntax.specs.Marks.{most_tasks}
use Rattle.tj_syntax.specs.Inner.Heads.{head_of}
use Rattle.tj_syntax.specs.Inner.State.{bare}
use Rattle.tj_syntax.specs.Inner.Input as spec
use Rattle.tj_syntax.specs.Inner.Input.{breach_of, count_params}
use Rattle.tj_syntax.proofs.Naming.HeadNames.{with_head-same, with_head-more}
use Rattle.tj_syntax.proofs.heads.Heads.add.Goals as goal

pub returns-then-is_some : goal.returns-then-is_some
returns-then-is_some c =
    let old = c.args.self.now in
    sym (with_head-same old.list.items old.names c.args.name.now (map bare c.args.rest.now) old.named
    (sym (ap is_some c.breach.ensures) ∙ sym c.is_some.ensures ∙ c.if-is_some.true))

pub invariant_of-self-in-Err : goal.invariant_of-self-in-Err
invariant_of-self-in-Err c =
    let old = c.args.self.now in
    let same : c.pop.new.self.items ≡ old.list.items = first_of (search rules, grind (arith, common_steps)) in
    record {
      named = c.in-Err.ensures.kept ∙ old.named ∙ ap (map (λ (h : Head). h.name.now)) (sym same);
      few = subst (λ names. length names ≤ most_tasks) (sym c.in-Err.ensures.kept) old.few;
    }

pub returns : goal.returns
returns c =
    let old = c.args.self.now in
    let tokens = map bare c.args.rest.now in
    let h : Head = record { name = c.args.name; params = c.count_params.result; left = length c.args.rest.now + 1 } in
    let count : length c.args.rest.now + 1 ≡ suc (length tokens) = omega (arith, length-map c.args.rest.now bare) in
    let is : head_of h ≡ record { name = c.args.name.now; params = count_params tokens; left = suc (length tokens) } =
    ap (λ n. let s : spec.Head = record { name = c.args.name.now; params = n; left = length c.args.rest.now + 1 } in
    s) c.count_params.ensures
    ∙ ap (λ n. let s : spec.Head = record { name = c.args.name.now; params = count_params tokens; left = n } in s)
    count in
    ap (map head_of) c.in_ok-push.ensures.items
    ∙ with_head-more old.list.items old.names c.args.name.now tokens h old.named
    (sym (ap is_some c.breach.ensures) ∙ sym c.is_some.ensures ∙ c.if-is_some.false) is
