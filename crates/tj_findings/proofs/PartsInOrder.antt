-- Parts that stand in a text, and parts that stand in it one behind the other: how such texts are put together.
use Rattle.std.proofs.Common.{ℕ, List, [], ◌∷◌, ◌++◌, refl, sym, ap, ◌∙◌, append_assoc, append-nil}
use Rattle.tj_findings.specs.LinesTold.{StandInOrder, StandsIn}

-- what stands in a text stands in it with more behind it
abbrev pub before_more : (p x y : List ℕ) → StandsIn p x → StandsIn p (x ++ y)
before_more p x y i = record {
  before = i.before;
  behind = i.behind ++ y;
  is = ap (λ z. z ++ y) i.is ∙ append_assoc (i.before ++ p) i.behind y;
}

-- and with more in front of it
abbrev pub behind_more : (p x y : List ℕ) → StandsIn p y → StandsIn p (x ++ y)
behind_more p x y i = record {
  before = x ++ i.before;
  behind = i.behind;
  is = ap (λ z. x ++ z) i.is ∙ sym (append_assoc x (i.before ++ p) i.behind)
      ∙ ap (λ z. z ++ i.behind) (sym (append_assoc x i.before p));
}

-- the same of several
pub all_behind : (ps : List (List ℕ)) (x y : List ℕ) → StandInOrder ps y → StandInOrder ps (x ++ y)
all_behind [] x y all = tt
all_behind (p ∷ ps) x y all = (behind_more p x y all.0, all.1)

pub all_before : (ps : List (List ℕ)) (x y : List ℕ) → StandInOrder ps x → StandInOrder ps (x ++ y)
all_before [] x y all = tt
all_before (p ∷ ps) x y all = (before_more p x y all.0, all_before ps all.0.behind y all.1)

pub all_both : (ps qs : List (List ℕ)) (x y : List ℕ) → StandInOrder ps x → StandInOrder qs y
    → StandInOrder (ps ++ qs) (x ++ y)
all_both [] qs x y all more = all_behind qs x y more
all_both (p ∷ ps) qs x y all more = (before_more p x y all.0, all_both ps qs all.0.behind y all.1 more)

-- a text stands at the beginning of one
pub at_first : (p y : List ℕ) → StandsIn p (p ++ y)
at_first p y = record { before = []; behind = y; is = refl }

-- it stands in itself
pub whole : (p : List ℕ) → StandsIn p p
whole p = record { before = []; behind = []; is = sym (append-nil p) }

-- one more in front
pub one_first : (p : List ℕ) (ps : List (List ℕ)) (x y : List ℕ) → StandsIn p x → StandInOrder ps y
    → StandInOrder (p ∷ ps) (x ++ y)
one_first p ps x y i rest = (before_more p x y i, all_behind ps i.behind y rest)
