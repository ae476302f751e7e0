use Rattle.std.proofs.Common.{◌≡◌, ◌+◌, ◌∙◌, ap, rules, arith, false, length, true}
use Rattle.std.specs.Option.{option_map}
use Rattle.tj_syntax.specs.Trees as tree
use Rattle.tj_syntax.specs.View as view
use Rattle.tj_syntax.specs.declared.stmt.Stmt.{the_lemmas}
use Rattle.tj_eval.specs.Expressions.{is_zero}
use Rattle.tj_eval.proofs.NumbersOpened.{begins_first, begins_loop, begins_other, number_read, on_ok_as}
use Rattle.tj_eval.proofs.Tables.{first_there, other_there, inside_if, inside_choose, inside_while, read_is}
use Rattle.tj_eval.proofs.numbers.Numbers.begin.Goals as goal

pub overflow_add-first-in-Some : goal.overflow_add-first-in-Some
overflow_add-first-in-Some c = omega (arith, c.size_at.ensures.room, c.size_at.ensures.first)

pub open-requires : goal.open-requires
open-requires c = let own = c.args.own.now in let at = c.args.self.now.at in let s = view.statement c.args.stmt.now in
    let x = view.expression c.in-If.e in let b = view.block c.in-If.body in let d = view.block c.in-Some.other in
    let is : s ≡ tree.choose x b (tree.block d) = search (rules, the_lemmas) in
    let i = inside_if x b d s is in
    let size = ap (λ z. z.first) (read_is own at s c.requires c.size_at.result c.size_at.ensures.size) in
    other_there own at s c.requires b d c.size_at.result.first (size ∙ ap length i.1) i.0

pub open-requires-in-Ok : goal.open-requires-in-Ok
open-requires-in-Ok c = let own = c.args.own.now in let at = c.args.self.now.at in
    let s = view.statement c.args.stmt.now in
    let x = view.expression c.in-If.e in let b = view.block c.in-If.body in
    let o = view.otherwise_of (option_map view.block c.in-If.other) in
    let is : s ≡ tree.choose x b o = search (rules, the_lemmas) in
    first_there own at s c.requires b _ (inside_choose x b o s is)

pub open-requires-in-Ok-number : goal.open-requires-in-Ok-number
open-requires-in-Ok-number c = let own = c.args.own.now in let at = c.args.self.now.at in
    let s = view.statement c.args.stmt.now in let x = view.expression c.in-While.e in
    let b = view.block c.in-While.body in
    let is : s ≡ tree.repeat x b = search (rules, the_lemmas) in
    let i = inside_while x b s is in first_there own at s c.requires b _ i.0

pub returns-in-Some : goal.returns-in-Some
returns-in-Some c = let own = c.args.own.now in let at = c.args.self.now.at in let s = view.statement c.args.stmt.now in
    let x = view.expression c.in-If.e in let b = view.block c.in-If.body in let d = view.block c.in-Some.other in
    let is : s ≡ tree.choose x b (tree.block d) = search (rules, the_lemmas) in
    let i = inside_if x b d s is in
    let size = ap (λ z. z.first) (read_is own at s c.requires c.size_at.result c.size_at.ensures.size) in
    let vars = c.deref.ensures.value ∙ ap (λ z. z.vars) c.t.view_is in
    let is_number = number_read c.args.t.now x c.deref.result.now c.number.result c.in-Ok-eq0.field-0 vars
    c.number.ensures
    c.in-Ok-eq0.is in
    let none : is_zero c.in-Ok-eq0.field-0 ≡ true = search rules in
    on_ok_as c.open.result (begins_other c.args.t.now x s c.in-Ok-eq0.field-0 is_number b d is none own
    c.args.self.now c.open.new.self _
    (ap (λ k. at + 1 + k) (size ∙ ap length i.1))) c.open.ensures

pub returns-in-Ok : goal.returns-in-Ok
returns-in-Ok c = let own = c.args.own.now in let at = c.args.self.now.at in let s = view.statement c.args.stmt.now in
    let x = view.expression c.in-If.e in let b = view.block c.in-If.body in
    let o = view.otherwise_of (option_map view.block c.in-If.other) in
    let is : s ≡ tree.choose x b o = search (rules, the_lemmas) in
    let vars = c.deref.ensures.value ∙ ap (λ z. z.vars) c.t.view_is in
    let is_number = number_read c.args.t.now x c.deref.result.now c.number.result c.in-Ok.field-0 vars c.number.ensures
    c.in-Ok.is in
    let more : is_zero c.in-Ok.field-0 ≡ false = search rules in
    on_ok_as c.open-in-Ok.result (begins_first c.args.t.now x s c.in-Ok.field-0 is_number b o is more own
    c.args.self.now
    c.open-in-Ok.new.self) c.open-in-Ok.ensures

pub returns-in_ok-open_run-in-Ok-number : goal.returns-in_ok-open_run-in-Ok-number
returns-in_ok-open_run-in-Ok-number c = let own = c.args.own.now in let s = view.statement c.args.stmt.now in
    let x = view.expression c.in-While.e in let b = view.block c.in-While.body in
    let is : s ≡ tree.repeat x b = search (rules, the_lemmas) in
    let vars = c.deref-in-While.ensures.value ∙ ap (λ z. z.vars) c.t.view_is in
    let is_number = number_read c.args.t.now x c.deref-in-While.result.now c.number-in-While.result
    c.in-Ok-number.field-0 vars c.number-in-While.ensures c.in-Ok-number.is in
    let more : is_zero c.in-Ok-number.field-0 ≡ false = search rules in
    on_ok_as c.open-in-Ok-number.result (begins_loop c.args.t.now x s c.in-Ok-number.field-0 is_number b is more own
    c.args.self.now c.open_run.new.self c.open-in-Ok-number.new.self c.in_ok-open_run-in-Ok-number.ensures)
    c.open-in-Ok-number.ensures
