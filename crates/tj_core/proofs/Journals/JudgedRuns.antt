-- How far a run has been judged, and what is said of its events.
use Rattle.std.proofs.Common.{◌≡◌, inl, inr, ℕ, suc, ◌<◌, Bool, true, false, ◌||◌, List, [], ◌∷◌, ◌++◌, length, drop, get_or, refl, sym, subst, append_assoc, drop-cons}
use Rattle.tj_events.specs.declared.event.Event.{Event}
use Rattle.tj_events.specs.CoreState.{CoreState, root_alone}
use Rattle.tj_events.specs.CoreFacts.{CoreFacts}
use Rattle.tj_events.specs.Events.{Allowed, after}
use Rattle.tj_core.specs.Journals.Judging.{IsSaid, is_alarm, IsJudged, IsJudgedFrom, legal_line, illegal_line}
use Rattle.tj_events.proofs.Events.EachEvent.{facts_after_event}
use Rattle.tj_events.proofs.Events.LegalRuns.{start_facts}

-- so many events were allowed and led to s, with this text and mark so far
pub record IsJudgedTo (N : ℕ) (events : List Event) (s : CoreState) (at : ℕ) (text : List ℕ) (marked : Bool) : Type 0
  where
    pub facts : CoreFacts s
    pub goes_on : (rest : List ℕ) (more : Bool) → IsJudgedFrom N s at (drop at events) rest more
        → IsJudged N events (text ++ rest) (marked || more)

or_assoc : (a b c : Bool) → (a || (b || c)) ≡ ((a || b) || c)
or_assoc true b c = refl
or_assoc false b c = refl

or_true : (a : Bool) → (a || true) ≡ true
or_true true = refl
or_true false = refl

or_false : (a : Bool) → (a || false) ≡ a
or_false true = refl
or_false false = refl

-- the same of equal parts
pub judged_same : (N : ℕ) (events : List Event) (s s' : CoreState) (at at' : ℕ) (text text' : List ℕ)
    (marked marked' : Bool)
    → IsJudgedTo N events s at text marked → s' ≡ s → at' ≡ at → text' ≡ text → marked' ≡ marked
    → IsJudgedTo N events s' at' text' marked'
judged_same N events s s' at at' text text' marked marked' h e f g k =
    subst (λ (A : Type 0). A) (λ i. IsJudgedTo N events (sym e i) (sym f i) (sym g i) (sym k i)) h

pub outcome_same : (N : ℕ) (events : List Event) (text text' : List ℕ) (marked marked' : Bool)
    → IsJudged N events text marked → text' ≡ text → marked' ≡ marked → IsJudged N events text' marked'
outcome_same N events text text' marked marked' h e f =
    subst (λ (A : Type 0). A) (λ i. IsJudged N events (sym e i) (sym f i)) h

pub judge_starts : (N : ℕ) (events : List Event) (s : CoreState) (text : List ℕ) → s ≡ root_alone → text ≡ []
    → IsJudgedTo N events s 0 text false
judge_starts N events s text e f = judged_same N events root_alone s 0 0 [] text false false
    (record { facts = start_facts; goes_on = λ rest more h. h }) e refl f refl

module _ (N : ℕ) (events : List Event) (s : CoreState) (at : ℕ) (text : List ℕ) (marked : Bool)
    (h : IsJudgedTo N events s at text marked) where
  module _ (d : Event) (inside : at < length events) where
    abbrev e : Event
    e = get_or events at d

    left : drop at events ≡ e ∷ drop (suc at) events
    left = drop-cons events at d inside

    pub judge_on : Allowed N s e → (said : List ℕ) → IsSaid s e said → IsJudgedTo N events (after s e) (suc at)
        (text ++ said) (marked || is_alarm e)
    judge_on a said q = record {
      facts = facts_after_event N s e h.facts a;
      goes_on = λ rest more r.
          let from : IsJudgedFrom N s at (e ∷ drop (suc at) events) (said ++ rest) (is_alarm e || more) =
          inr (a, (said, rest, more, q, r, refl, refl)) in
          let whole = h.goes_on (said ++ rest) (is_alarm e || more)
          (subst (λ (l : List Event). IsJudgedFrom N s at l (said ++ rest) (is_alarm e || more)) (sym left) from) in
          outcome_same N events _ _ _ _ whole (append_assoc text said rest) (sym (or_assoc marked (is_alarm e) more));
    }

    pub judge_illegal : ¬ Allowed N s e → IsJudged N events (text ++ illegal_line (suc at)) true
    judge_illegal a =
        let from : IsJudgedFrom N s at (e ∷ drop (suc at) events) (illegal_line (suc at)) true = inl (a, refl, refl) in
        subst (λ (b : Bool). IsJudged N events (text ++ illegal_line (suc at)) b) (or_true marked)
        (h.goes_on (illegal_line (suc at)) true
        (subst (λ (l : List Event). IsJudgedFrom N s at l (illegal_line (suc at)) true) (sym left) from))

  pub judge_legal : drop at events ≡ [] → IsJudged N events (text ++ legal_line at) marked
  judge_legal e =
      subst (λ (b : Bool). IsJudged N events (text ++ legal_line at) b) (or_false marked)
      (h.goes_on (legal_line at) false
      (subst (λ (l : List Event). IsJudgedFrom N s at l (legal_line at) false) (sym e) (refl, refl)))
