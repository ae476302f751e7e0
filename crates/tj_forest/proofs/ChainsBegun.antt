-- By what a chain of echoes began, where its first echo was looked up.
use Rattle.std.proofs.Common.{◌≡◌, ◌∙◌, Option, Some, None, ap, refl, List}
use Rattle.std.specs.Prelude.{option_and_then}
use Rattle.std.specs.Option.{option_map}
use Rattle.tj_trace.specs.declared.line.TraceLine.{TraceLine}
use Rattle.tj_base.specs.ForkOrder.{Name}
use Rattle.tj_findings.specs.Echoes.{back, back_by, breaker, echoed_by, most_doublings, origin}
use Rattle.tj_findings.specs.Forests.{begun_at, begun_by, begun_with, first_echo}

some_line : (a b : TraceLine) → Some a ≡ Some b → a ≡ b
some_line a b e = cc

-- the first echo of the line that was looked up has begun with what that of the line says
pub begun_on : (lines : List TraceLine) (o : Option TraceLine) (first : TraceLine)
    → Some first ≡ option_map (first_echo lines) o
    → option_and_then (begun_at lines) (echoed_by first.line.ending) ≡ option_and_then (begun_by lines) o
begun_on lines None first e = absurd (cc)
begun_on lines (Some l) first e =
    ap (λ (z : TraceLine). option_and_then (begun_at lines) (echoed_by z.line.ending))
    (some_line first (first_echo lines l) e)

-- what a chain began by, where the task that broke the cell of its first echo was looked up
pub broken_by : (lines : List TraceLine) (first : TraceLine) (broke : Option TraceLine) → broke ≡ back lines first
    → option_and_then (λ q. option_map (λ (l : TraceLine). begun_with q l l.line.ending) broke)
    (echoed_by first.line.ending)
    ≡ option_and_then (begun_at lines) (echoed_by first.line.ending)
broken_by lines first broke is =
    ap (λ b. option_and_then (λ q. option_map (λ (l : TraceLine). begun_with q l l.line.ending) b)
    (echoed_by first.line.ending)) is
    ∙ by (echoed_by first.line.ending)
  where
    by : (x : Option Name)
        → option_and_then (λ q. option_map (λ (l : TraceLine). begun_with q l l.line.ending)
        (option_and_then (breaker lines) x)) x
        ≡ option_and_then (begun_at lines) x
    by None = refl
    by (Some q) = refl

-- the line from which an echo came at first, where the steps back from its own line were taken
pub origin_here : (lines : List TraceLine) (l : TraceLine) (q : Name) (o r : Option TraceLine)
    → r ≡ option_map (back_by lines most_doublings) (option_and_then (back lines) o) → o ≡ Some l
    → echoed_by l.line.ending ≡ Some q → r ≡ origin lines q
origin_here lines l q o r is here echoes =
    is
    ∙ ap (λ z. option_map (back_by lines most_doublings) (option_and_then (back lines) z)) here
    ∙ ap (λ e. option_map (back_by lines most_doublings) (option_and_then (breaker lines) e)) echoes
