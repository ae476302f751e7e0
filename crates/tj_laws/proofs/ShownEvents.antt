-- What the calls of a run from a new table show is a legal run, so the laws of legal runs hold of it.
use Rattle.std.proofs.Common.{◌≡◌, ℕ, List, [], ◌∷◌, ◌++◌, sym, ap, ◌∙◌, subst, append_assoc}
use Rattle.tj_events.specs.declared.event.Event.{Event}
use Rattle.tj_events.specs.declared.event.Event.TheVariants.{Alarm, Close, Unwait}
use Rattle.tj_events.specs.CoreState.{root_alone}
use Rattle.tj_events.specs.Runs.{IsLegalRun}
use Rattle.tj_words.specs.CallLaws.CallRuns.{CallRunsAreLegal, joined}
use Rattle.tj_laws.specs.TableEvents.{AreAlarmsLast, AreClearedSettled, AreClosedOnce, EventsAreOnce}
use Rattle.tj_laws.proofs.ClosedOnce.{alarms_last, closes_once, two_parts, unwaits_settled}

-- two events of a list, with what comes after them apart
two_of : (before between later : List Event) (e f : Event)
    → before ++ e ∷ (between ++ f ∷ later) ≡ (before ++ e ∷ (between ++ f ∷ [])) ++ later
two_of before between later e f = ap (λ z. before ++ e ∷ z) (sym (append_assoc between (f ∷ []) later))
    ∙ sym (append_assoc before (e ∷ (between ++ f ∷ [])) later)

module _ (N : ℕ) (es : List Event) (legal : IsLegalRun N es) where
  begins_legal : (fs gs : List Event) → es ≡ fs ++ gs → IsLegalRun N fs
  begins_legal fs gs e = (two_parts N root_alone fs gs (subst (IsLegalRun N) e legal)).0

  closed : AreClosedOnce es
  closed before between later t u p e = closes_once N before between t u p
      (begins_legal (before ++ Close t p ∷ (between ++ Close u p ∷ [])) later
      (e ∙ two_of before between later (Close t p) (Close u p)))

  cleared : AreClearedSettled es
  cleared before later t e = let s = unwaits_settled N before t
      (begins_legal (before ++ Unwait t ∷ []) later (e ∙ sym (append_assoc before (Unwait t ∷ []) later))) in
      (s.0, s.1, s.3)

  last : AreAlarmsLast es
  last before between later t f e = alarms_last N before between t f
      (begins_legal (before ++ Alarm t ∷ (between ++ f ∷ [])) later
      (e ∙ two_of before between later (Alarm t) f))

pub events_once : (B : Type 0) → CallRunsAreLegal B → EventsAreOnce B
events_once B runs program key u later new a = let g = runs program key u later new a in (
  g.0,
  g.1,
  closed key.cells (joined g.0) g.2,
  cleared key.cells (joined g.0) g.2,
  last key.cells (joined g.0) g.2,
)
