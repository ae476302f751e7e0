-- What is said of an event is one text, so a list of events is judged in one way.
use Rattle.std.proofs.Common.{◌≡◌, ℕ, ◌∙◌, suc, Bool, ◌||◌, inl, inr, List, [], ◌∷◌, ◌++◌, sym, ap}
use Rattle.tj_events.specs.declared.event.Event.{Event}
use Rattle.tj_events.specs.declared.event.Event.TheVariants.{Alarm, Settle}
use Rattle.tj_events.specs.declared.walk.Walker.{Walker}
use Rattle.tj_events.specs.CoreState.{CoreState, root_alone}
use Rattle.tj_events.specs.Events.{after}
use Rattle.tj_core.specs.Journals.Judging.{IsSaid, is_alarm, IsJudgedFrom, settled_line, alarm_line}
use Rattle.tj_core.specs.Journals.Laws.{JudgingIsOne}
use Rattle.tj_events.proofs.Graph.CycleLists.{cycle_one}

-- what is said of an event is one text
said_one : (s : CoreState) (e : Event) (x y : List ℕ) → IsSaid s e x → IsSaid s e y → x ≡ y
said_one s (Alarm t) x y a b =
    let same = sym a.3 ∙ b.3 in
    let walker : a.2 ≡ b.2 = cc in
    let tasks : a.4.0 ≡ b.4.0 = cycle_one s.cells t.0 a.4.0 b.4.0 a.4.1 b.4.1 in
    a.4.2 ∙ ap (λ (w : Walker). alarm_line s.cells t.0 w.loads a.4.0) walker
    ∙ ap (alarm_line s.cells t.0 b.2.loads) tasks ∙ sym b.4.2
said_one s (Settle t) x y a b =
    let same = sym a.3 ∙ b.3 in
    let walker : a.2 ≡ b.2 = cc in
    a.4 ∙ ap (λ (w : Walker). settled_line t.0 w.loads w.last) walker ∙ sym b.4
said_one s e x y a b = a ∙ sym b

-- from one state on, events have one text and one mark
judged_one : (N : ℕ) (s : CoreState) (before : ℕ) (es : List Event) (t u : List ℕ) (m n : Bool)
    → IsJudgedFrom N s before es t m → IsJudgedFrom N s before es u n → (t ≡ u) × (m ≡ n)
judged_one N s before [] t u m n a b = (a.0 ∙ sym b.0, a.1 ∙ sym b.1)
judged_one N s before (e ∷ es) t u m n (inl a) (inl b) = (a.1 ∙ sym b.1, a.2 ∙ sym b.2)
judged_one N s before (e ∷ es) t u m n (inl a) (inr b) = absurd (a.0 b.0)
judged_one N s before (e ∷ es) t u m n (inr a) (inl b) = absurd (b.0 a.0)
judged_one N s before (e ∷ es) t u m n (inr a) (inr b) =
    let x = a.1 in
    let y = b.1 in
    let said : x.0 ≡ y.0 = said_one s e x.0 y.0 x.3 y.3 in
    let rest = judged_one N (after s e) (suc before) es x.1 y.1 x.2 y.2 x.4 y.4 in (
      x.5 ∙ ap (λ (z : List ℕ). z ++ x.1) said ∙ ap (λ (z : List ℕ). y.0 ++ z) rest.0 ∙ sym y.5,
      x.6 ∙ ap (λ (z : Bool). is_alarm e || z) rest.1 ∙ sym y.6,
    )

-- a list of events is judged with one text at most, and with one mark
pub judging_one : JudgingIsOne
judging_one N events t u m n a b = judged_one N root_alone 0 events t u m n a b
