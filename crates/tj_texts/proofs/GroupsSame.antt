-- Findings of one group say the same, and of two they don't.
use Rattle.std.proofs.Common.{◌≡◌, ◌⊎◌, inl, inr, ℕ, ◌+◌, ◌*◌, Bool, true, false, true≢false, ◌&&◌, nat_eq, cond}
use Rattle.std.proofs.Common.{eqb-true, eq-eqb}
use Rattle.std.proofs.Common.{List, [], ◌∷◌, ◌++◌, get_or, refl, sym, ap, subst, ◌∙◌, Option, Some, None}
use Rattle.std.specs.Prelude.{codes}
use Rattle.std.specs.List.{fold}
use Rattle.tj_base.specs.declared.cause.Cause.{Cause}
use Rattle.tj_base.specs.declared.cause.Cause.TheVariants as cause
use Rattle.tj_body.specs.Points.{IsIn}
use Rattle.tj_trace.specs.declared.line.Maker.{Maker}
use Rattle.tj_findings.specs.Forests.{Tree}
use Rattle.tj_findings.specs.Groups.{Group, alike, belongs, grouped, same_maker, same_stand, same_stands}
use Rattle.tj_findings.specs.Groups.{with_tree, word_number}
use Rattle.tj_findings.specs.PartTexts.{cause_word}
use Rattle.tj_findings.specs.declared.finding.Finding.{Finding}
use Rattle.tj_findings.specs.declared.finding.Finding.TheVariants as finding
use Rattle.tj_findings.specs.declared.finding.ToldTask.{ToldTask}
use Rattle.tj_findings.specs.declared.finding.Wait.{Wait}
use Rattle.tj_texts.specs.GroupLaws.{AllSaySame, AllStandAlike, AreApart, GroupsSaySame, MadeAlike, NoneSaysSame}
use Rattle.tj_texts.specs.GroupLaws.{SaySame, StandAlike}

-- both of two
pub of_both : (a b : Bool) → (a && b) ≡ true → (a ≡ true) × (b ≡ true)
of_both true b e = (refl, e)
of_both false b e = absurd (true≢false (sym e))

both_true : (a b : Bool) → a ≡ true → b ≡ true → (a && b) ≡ true
both_true true b p q = q
both_true false b p q = p

-- two numbers and two numbers
pub same_pair : (a b c d : ℕ) → (nat_eq a b && nat_eq c d) ≡ true → (a ≡ b) × (c ≡ d)
same_pair a b c d e =
    let both = of_both (nat_eq a b) (nat_eq c d) e in
    (eqb-true a b both.0, eqb-true c d both.1)

pair_same : (a b c d : ℕ) → a ≡ b → c ≡ d → (nat_eq a b && nat_eq c d) ≡ true
pair_same a b c d p q = both_true (nat_eq a b) (nat_eq c d) (eq-eqb a b p) (eq-eqb c d q)

-- where tasks stopped
pub stand_alike : (t u : ToldTask) → same_stand t u ≡ true → StandAlike t u
stand_alike t u e = same_pair t.decl u.decl t.at u.at e

alike_stand : (t u : ToldTask) → StandAlike t u → same_stand t u ≡ true
alike_stand t u e = pair_same t.decl u.decl t.at u.at e.0 e.1

-- where those of waits did
waits_alike : (ws vs : List Wait) → same_stands ws vs ≡ true → AllStandAlike ws vs
waits_alike [] [] e = tt
waits_alike [] (v ∷ vs) e = absurd (true≢false (sym e))
waits_alike (w ∷ ws) [] e = absurd (true≢false (sym e))
waits_alike (w ∷ ws) (v ∷ vs) e =
    let both = of_both (same_stand w.task v.task) (same_stands ws vs) e in
    (stand_alike w.task v.task both.0, waits_alike ws vs both.1)

alike_waits : (ws vs : List Wait) → AllStandAlike ws vs → same_stands ws vs ≡ true
alike_waits [] [] e = refl
alike_waits [] (v ∷ vs) e = absurd e
alike_waits (w ∷ ws) [] e = absurd e
alike_waits (w ∷ ws) (v ∷ vs) e =
    both_true (same_stand w.task v.task) (same_stands ws vs) (alike_stand w.task v.task e.0) (alike_waits ws vs e.1)

-- what made promises
made_alike : (m n : Option Maker) → same_maker m n ≡ true → MadeAlike m n
made_alike None None e = tt
made_alike None (Some n) e = absurd (true≢false (sym e))
made_alike (Some m) None e = absurd (true≢false (sym e))
made_alike (Some m) (Some n) e = same_pair m.decl n.decl m.at n.at e

alike_made : (m n : Option Maker) → MadeAlike m n → same_maker m n ≡ true
alike_made None None e = refl
alike_made None (Some n) e = absurd e
alike_made (Some m) None e = absurd e
alike_made (Some m) (Some n) e = pair_same m.decl n.decl m.at n.at e.0 e.1

-- the word with this number
word_of : ℕ → List ℕ
word_of n =
    cond (nat_eq n 0) (codes "arith") (cond (nat_eq n 1) (codes "kind") (cond (nat_eq n 2) (codes "steps")
    (cond (nat_eq n 3) (codes "owner") (cond (nat_eq n 4) (codes "broken") (codes "order")))))

word_numbered : (c : Cause) → word_of (word_number c) ≡ cause_word c
unfolding word_of
word_numbered cause.Arith = refl
word_numbered cause.Kind = refl
word_numbered cause.Steps = refl
word_numbered (cause.Owner q) = refl
word_numbered (cause.Broken q) = refl
word_numbered (cause.Order q) = refl

same_word : (c d : Cause) → word_number c ≡ word_number d → cause_word c ≡ cause_word d
same_word c d e = sym (word_numbered c) ∙ ap word_of e ∙ word_numbered d

-- the number of a word, by its first two letters
number_of : List ℕ → ℕ
number_of w =
    let n : ℕ = get_or w 0 0 * 256 + get_or w 1 0 in
    cond (nat_eq n 24946) 0 (cond (nat_eq n 27497) 1 (cond (nat_eq n 29556) 2 (cond (nat_eq n 28535) 3
    (cond (nat_eq n 25202) 4 5))))

numbered_word : (c : Cause) → number_of (cause_word c) ≡ word_number c
unfolding number_of
numbered_word cause.Arith = refl
numbered_word cause.Kind = refl
numbered_word cause.Steps = refl
numbered_word (cause.Owner q) = refl
numbered_word (cause.Broken q) = refl
numbered_word (cause.Order q) = refl

same_number : (c d : Cause) → cause_word c ≡ cause_word d → word_number c ≡ word_number d
same_number c d e = sym (numbered_word c) ∙ ap number_of e ∙ numbered_word d

-- findings that are alike say the same
say_same : (f g : Finding) → alike f g ≡ true → SaySame f g
say_same (finding.Cycle ws) (finding.Cycle vs) e = waits_alike ws vs e
say_same (finding.Cycle ws) (finding.Behind v) e = absurd (true≢false (sym e))
say_same (finding.Cycle ws) (finding.Failed u d n) e = absurd (true≢false (sym e))
say_same (finding.Cycle ws) (finding.Owed p u) e = absurd (true≢false (sym e))
say_same (finding.Cycle ws) (finding.Echo u p r) e = absurd (true≢false (sym e))
say_same (finding.Behind w) (finding.Cycle vs) e = absurd (true≢false (sym e))
say_same (finding.Behind w) (finding.Behind v) e = stand_alike w.task v.task e
say_same (finding.Behind w) (finding.Failed u d n) e = absurd (true≢false (sym e))
say_same (finding.Behind w) (finding.Owed p u) e = absurd (true≢false (sym e))
say_same (finding.Behind w) (finding.Echo u p r) e = absurd (true≢false (sym e))
say_same (finding.Failed t c m) (finding.Cycle vs) e = absurd (true≢false (sym e))
say_same (finding.Failed t c m) (finding.Behind v) e = absurd (true≢false (sym e))
say_same (finding.Failed t c m) (finding.Failed u d n) e =
    let both = of_both (same_stand t u) (nat_eq (word_number c) (word_number d)) e in
    (stand_alike t u both.0, same_word c d (eqb-true (word_number c) (word_number d) both.1))
say_same (finding.Failed t c m) (finding.Owed p u) e = absurd (true≢false (sym e))
say_same (finding.Failed t c m) (finding.Echo u p r) e = absurd (true≢false (sym e))
say_same (finding.Owed q t) (finding.Cycle vs) e = absurd (true≢false (sym e))
say_same (finding.Owed q t) (finding.Behind v) e = absurd (true≢false (sym e))
say_same (finding.Owed q t) (finding.Failed u d n) e = absurd (true≢false (sym e))
say_same (finding.Owed q t) (finding.Owed p u) e = made_alike q.maker p.maker e
say_same (finding.Owed q t) (finding.Echo u p r) e = absurd (true≢false (sym e))
say_same (finding.Echo t q o) (finding.Cycle vs) e = absurd (true≢false (sym e))
say_same (finding.Echo t q o) (finding.Behind v) e = absurd (true≢false (sym e))
say_same (finding.Echo t q o) (finding.Failed u d n) e = absurd (true≢false (sym e))
say_same (finding.Echo t q o) (finding.Owed p u) e = absurd (true≢false (sym e))
say_same (finding.Echo t q o) (finding.Echo u p r) e = stand_alike t u e

-- findings that say the same are alike
are_alike : (f g : Finding) → SaySame f g → alike f g ≡ true
are_alike (finding.Cycle ws) (finding.Cycle vs) e = alike_waits ws vs e
are_alike (finding.Cycle ws) (finding.Behind v) e = absurd e
are_alike (finding.Cycle ws) (finding.Failed u d n) e = absurd e
are_alike (finding.Cycle ws) (finding.Owed p u) e = absurd e
are_alike (finding.Cycle ws) (finding.Echo u p r) e = absurd e
are_alike (finding.Behind w) (finding.Cycle vs) e = absurd e
are_alike (finding.Behind w) (finding.Behind v) e = alike_stand w.task v.task e
are_alike (finding.Behind w) (finding.Failed u d n) e = absurd e
are_alike (finding.Behind w) (finding.Owed p u) e = absurd e
are_alike (finding.Behind w) (finding.Echo u p r) e = absurd e
are_alike (finding.Failed t c m) (finding.Cycle vs) e = absurd e
are_alike (finding.Failed t c m) (finding.Behind v) e = absurd e
are_alike (finding.Failed t c m) (finding.Failed u d n) e =
    both_true (same_stand t u) (nat_eq (word_number c) (word_number d)) (alike_stand t u e.0)
    (eq-eqb (word_number c) (word_number d) (same_number c d e.1))
are_alike (finding.Failed t c m) (finding.Owed p u) e = absurd e
are_alike (finding.Failed t c m) (finding.Echo u p r) e = absurd e
are_alike (finding.Owed q t) (finding.Cycle vs) e = absurd e
are_alike (finding.Owed q t) (finding.Behind v) e = absurd e
are_alike (finding.Owed q t) (finding.Failed u d n) e = absurd e
are_alike (finding.Owed q t) (finding.Owed p u) e = alike_made q.maker p.maker e
are_alike (finding.Owed q t) (finding.Echo u p r) e = absurd e
are_alike (finding.Echo t q o) (finding.Cycle vs) e = absurd e
are_alike (finding.Echo t q o) (finding.Behind v) e = absurd e
are_alike (finding.Echo t q o) (finding.Failed u d n) e = absurd e
are_alike (finding.Echo t q o) (finding.Owed p u) e = absurd e
are_alike (finding.Echo t q o) (finding.Echo u p r) e = alike_stand t u e

-- groups whose findings say the same
abbrev Same : List Group → Type 0
Same gs = (g : Group) → IsIn g gs → AllSaySame g.members

-- one of some, or the one behind them
in_behind : (x f : Finding) (fs : List Finding) → IsIn x (fs ++ f ∷ []) → IsIn x fs ⊎ (x ≡ f)
in_behind x f [] (inl e) = inr e
in_behind x f [] (inr i) = absurd i
in_behind x f (g ∷ fs) (inl e) = inl (inl e)
in_behind x f (g ∷ fs) (inr i) = by (in_behind x f fs i) where
  by : IsIn x fs ⊎ (x ≡ f) → IsIn x (g ∷ fs) ⊎ (x ≡ f)
  by (inl j) = inl (inr j)
  by (inr e) = inr e

-- a finding more that is like the first
one_same : (fs : List Finding) (f : Finding) → belongs f fs ≡ true → AllSaySame fs → AllSaySame (fs ++ f ∷ [])
one_same [] f e all = absurd (true≢false (sym e))
one_same (g ∷ fs) f e all = λ x i. by x (in_behind x f fs i) where
  by : (x : Finding) → IsIn x fs ⊎ (x ≡ f) → SaySame g x
  by x (inl j) = all x j
  by x (inr is) = subst (SaySame g) (sym is) (say_same g f e)

-- a cause more in groups
same_more : (gs : List Group) (t : Tree) → Same gs → Same (grouped gs t)
same_more [] t have g (inl e) = subst (λ h. AllSaySame h.members) (sym e) (λ x i. absurd i)
same_more [] t have g (inr i) = absurd i
same_more (h ∷ gs) t have g i =
    by (belongs t.root h.members) refl (same_more gs t (λ k j. have k (inr j))) g i where
      by : (b : Bool) → belongs t.root h.members ≡ b → Same (grouped gs t)
          → Same (cond b (with_tree t h ∷ gs) (h ∷ grouped gs t))
      by true e rest k (inl is) =
          subst (λ l. AllSaySame l.members) (sym is) (one_same h.members t.root e (have h (inl refl)))
      by true e rest k (inr j) = have k (inr j)
      by false e rest k (inl is) = have k (inl is)
      by false e rest k (inr j) = rest k j

-- what holds of each finding of groups, and of a cause, holds of each when that is one more
each_more : (P : Finding → Type 0) (gs : List Group) (t : Tree)
    → ((h : Group) → IsIn h gs → (x : Finding) → IsIn x h.members → P x) → P t.root
    → (h : Group) → IsIn h (grouped gs t) → (x : Finding) → IsIn x h.members → P x
each_more P [] t each root h (inl e) x i = by (subst (λ k. IsIn x k.members) e i) where
  by : IsIn x (t.root ∷ []) → P x
  by (inl is) = subst P (sym is) root
  by (inr j) = absurd j
each_more P [] t each root h (inr j) x i = absurd j
each_more P (g ∷ gs) t each root h j x i =
    by (belongs t.root g.members) (each_more P gs t (λ k l. each k (inr l)) root) h j x i where
      put : (x : Finding) → IsIn x g.members ⊎ (x ≡ t.root) → P x
      put x (inl l) = each g (inl refl) x l
      put x (inr is) = subst P (sym is) root

      by : (b : Bool) → ((h : Group) → IsIn h (grouped gs t) → (x : Finding) → IsIn x h.members → P x)
          → (h : Group) → IsIn h (cond b (with_tree t g ∷ gs) (g ∷ grouped gs t)) → (x : Finding) → IsIn x h.members
          → P x
      by true rest k (inl is) y l = put y (in_behind y t.root g.members (subst (λ m. IsIn y m.members) is l))
      by true rest k (inr m) y l = each k (inr m) y l
      by false rest k (inl is) y l = each g (inl refl) y (subst (λ m. IsIn y m.members) is l)
      by false rest k (inr m) y l = rest k m y l

-- a finding more that is like the first of a group: others say still not the same
still_none : (fs gs : List Finding) (f : Finding) → belongs f fs ≡ true → NoneSaysSame fs gs
    → NoneSaysSame (fs ++ f ∷ []) gs
still_none [] gs f e none = absurd (true≢false (sym e))
still_none (g ∷ fs) gs f e none = none

-- one that isn't like the first doesn't say the same
none_more : (fs : List Finding) (gs : List Group) (t : Tree) → belongs t.root fs ≡ false
    → ((h : Group) → IsIn h gs → NoneSaysSame fs h.members)
    → (h : Group) → IsIn h (grouped gs t) → NoneSaysSame fs h.members
none_more [] gs t e none h i = tt
none_more (f ∷ fs) gs t e none h i =
    each_more (λ x. SaySame f x → ⊥) gs t none (λ s. true≢false (sym (are_alike f t.root s) ∙ e)) h i

-- a cause more in groups that are apart
apart_more : (gs : List Group) (t : Tree) → AreApart gs → AreApart (grouped gs t)
apart_more [] t apart = ((λ h i. absurd i), tt)
apart_more (g ∷ gs) t apart = by (belongs t.root g.members) refl (apart_more gs t apart.1) where
  by : (b : Bool) → belongs t.root g.members ≡ b → AreApart (grouped gs t)
      → AreApart (cond b (with_tree t g ∷ gs) (g ∷ grouped gs t))
  by true e rest = ((λ h i. still_none g.members h.members t.root e (apart.0 h i)), apart.1)
  by false e rest = (none_more g.members gs t e apart.0, rest)

-- all causes
all_same : (ts : List Tree) (gs : List Group) → Same gs → Same (fold grouped gs ts)
all_same [] gs have = have
all_same (t ∷ ts) gs have = all_same ts (grouped gs t) (same_more gs t have)

all_apart : (ts : List Tree) (gs : List Group) → AreApart gs → AreApart (fold grouped gs ts)
all_apart [] gs apart = apart
all_apart (t ∷ ts) gs apart = all_apart ts (grouped gs t) (apart_more gs t apart)

-- the law
pub groups_same : GroupsSaySame
groups_same ts = (all_same ts [] (λ g i. absurd i), all_apart ts [] tt)
