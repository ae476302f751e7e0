use Rattle.std.proofs.Common.{◌≡◌, sym, subst, ap, ◌∙◌, arith, decimal}
use Rattle.std.proofs.lemmas.Fmt.{parse-decimal, IsAscii-decimal}
use Rattle.std.proofs.lemmas.Str.{IsUtf8-from_ascii}
use Rattle.std.proofs.lemmas.Slice.Eq.{bytes_eq-Decides}
use Rattle.std.specs.Str.{IsUtf8}
use Rattle.tj_core.proofs.line.cell.Goals as goal

pub returns-in_default-clause-none : goal.returns-in_default-clause-none
returns-in_default-clause-none c = λ n small e.
    c.in_default.ensures.cases.0 (subst IsUtf8 e (IsUtf8-from_ascii (decimal n) (IsAscii-decimal n (omega arith))))

pub returns-in_default-parse-clause-none : goal.returns-in_default-parse-clause-none
returns-in_default-parse-clause-none c = λ n small e.
    let text = c.in-Ok.ensures.cases.0 in
    let p = parse-decimal 32 n c.in-Ok.text.now c.parse.result small (omega arith) (text ∙ sym e)
    c.parse.ensures.value.0 in
    let f = c.in_default-parse.is in absurd (cc)

pub returns-else-eq-clause-none : goal.returns-else-eq-clause-none
returns-else-eq-clause-none c = λ n small e.
    let text = c.in-Ok.ensures.cases.0 in let number = c.in-Ok-parse.number in
    let p = parse-decimal 32 n c.in-Ok.text.now c.parse.result small (omega arith) (text ∙ sym e)
    c.parse.ensures.value.0 in
    let is = c.in-Ok-parse.is in
    let same : number ≡ n = cc in
    let printed = c.as_bytes-printed.result.now in
    let shown : printed ≡ c.args.word.now = c.as_bytes-printed.ensures.value ∙ c.format.ensures.text ∙ ap decimal same
    ∙ e in
    let yes = (bytes_eq-Decides printed c.args.word.now).1 shown in
    let no = c.if-eq.false in let test = c.eq.ensures in absurd (cc)
