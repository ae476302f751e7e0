-- The lines that are told of joins, from the marks of each task whose acts are all worked off.
use Rattle.std.proofs.Common.{◌≡◌, ℕ, zero, suc, ◌+◌, ◌↔◌, Bool, true, false, cond, List, [], ◌∷◌, ◌++◌, Some, length}
use Rattle.std.proofs.Common.{inl, inr, refl, sym, ap, ◌∙◌, subst, arith, true≢false, take, append-nil, append_assoc}
use Rattle.std.proofs.lemmas.List.{take_more}
use Rattle.std.specs.Prelude.{slice_get}
use Rattle.tj_base.specs.ForkOrder.{Name, before, IsBefore}
use Rattle.tj_base.proofs.Orders.{before_tells}
use Rattle.tj_mean.specs.ActLines.{AreActLines}
use Rattle.tj_mean.specs.declared.act.Act.{Act}
use Rattle.tj_mean.specs.declared.act.Act.TheVariants as act
use Rattle.tj_mean.specs.declared.act.ActLine.{ActLine}
use Rattle.std.proofs.lemmas.Option.{get_or_from_slice_get}
use Rattle.tj_mean.proofs.Lists.Elements.{get_less}
use Rattle.tj_mean.proofs.NotedActs.LineIndexes.{acts_at}
use Rattle.tj_known.specs.Knowledge.{Knows}
use Rattle.tj_known.specs.KnownLines.{AreTold, IsTold, Join, KnownAreAlong, how_of, joins_from, joins_in, joins_of}
use Rattle.tj_known.specs.declared.known.How.{How}
use Rattle.tj_known.specs.declared.known.How.TheVariants as how
use Rattle.tj_known.specs.declared.known.KnownLine.{KnownLine}
use Rattle.tj_known.specs.Inner.Learners.{IsLearner, has_index, is_done}
use Rattle.tj_known.specs.Inner.Marks.{marked_lines}
use Rattle.tj_known.specs.declared.learner.Learner.{Learner}
use Rattle.tj_known.proofs.Joined.{done_tells}
use Rattle.tj_known.proofs.KnownAlong.{known_before}
use Rattle.tj_known.proofs.StepIndexes.{steps_count}

-- whether a join is told as known
abbrev is_known : How → Bool
is_known how.Known = true
is_known how.Along = false
is_known how.Against = false

-- whether it is told as along
abbrev is_along : How → Bool
is_along how.Known = false
is_along how.Along = true
is_along how.Against = false

-- a join is told as known where this was said
told_known : (b : Bool) (t u : Name) → (how_of b t u ≡ how.Known) ↔ (b ≡ true)
told_known true t u = (λ _. refl, λ _. refl)
told_known false t u = by (before t u) where
  by : (c : Bool) → (cond c how.Along how.Against ≡ how.Known) ↔ (false ≡ true)
  by true = (λ e. ap is_known e, λ e. absurd (true≢false (sym e)))
  by false = (λ e. ap is_known e, λ e. absurd (true≢false (sym e)))

-- and as along where it wasn't, and its task is before the other
told_along : (b : Bool) (t u : Name) → (how_of b t u ≡ how.Along) ↔ ((b ≡ false) × (before t u ≡ true))
told_along true t u = (λ e. absurd (true≢false (sym (ap is_along e))), λ x. absurd (true≢false x.0))
told_along false t u = by (before t u) where
  by : (c : Bool) → (cond c how.Along how.Against ≡ how.Along) ↔ ((false ≡ false) × (c ≡ true))
  by true = (λ _. (refl, refl), λ _. refl)
  by false = (λ e. absurd (true≢false (sym (ap is_along e))), λ x. absurd (true≢false (sym x.1)))

-- a truth value is one of two
not_true : {P : Type 0} (b : Bool) → (b ≡ true) ↔ P → (b ≡ false) ↔ (P → ⊥)
not_true true h = (λ e. absurd (true≢false e), λ n. absurd (n (h.0 refl)))
not_true false h = (λ _ p. true≢false (sym (h.1 p)), λ _. refl)

from_zero : (k : ℕ) → k ≡ 0 + k
from_zero k = omega arith

module _ (lines : List ActLine) where
  -- the line of a join by what was known
  told_one : (t u : Name) (n : ℕ) (b : Bool) → (b ≡ true) ↔ Knows lines t n u
      → IsTold lines (record { task = t; earlier = n; joined = u }) (record { by = t; of = u; how = how_of b t u })
  told_one t u n b h =
      let known = told_known b t u in
      let along = told_along b t u in
      let unknown = not_true b h in
      let order = before_tells t u (before t u) refl in
      record {
        by = refl;
        of_joined = refl;
        known = (λ e. h.0 (known.0 e), λ knew. known.1 (h.1 knew));
        along = (
          λ e. let x = along.0 e in (unknown.0 x.0, order.0 x.1),
          λ x. along.1 (unknown.1 x.0, order.1 x.1),
        );
      }

  -- the lines of acts after n acts of a task
  told_from : (t : Name) (acts : List Act) (marks : List Bool) (n : ℕ) → length acts ≡ length marks
      → ((k : ℕ) (u : Name) (answered : Bool) → slice_get acts k ≡ Some (act.Join u answered)
      → (has_index marks k ≡ true) ↔ Knows lines t (n + k) u)
      → AreTold lines (joins_from t n acts) (marked_lines t acts marks)
  told_from t [] marks n count each = tt
  told_from t (a ∷ acts) [] n count each = absurd (omega (arith, count))
  told_from t (act.Fork c ∷ acts) (m ∷ marks) n count each = told_from t acts marks (suc n) (omega (arith, count))
      (λ k u answered h. subst (λ j. (has_index marks k ≡ true) ↔ Knows lines t j u) (omega arith)
      (each (suc k) u answered h))
  told_from t (act.Join u is ∷ acts) (m ∷ marks) n count each = (
    told_one t u n m (subst (λ j. (m ≡ true) ↔ Knows lines t j u) (omega arith) (each zero u is refl)),
    told_from t acts marks (suc n) (omega (arith, count))
        (λ k u answered h. subst (λ j. (has_index marks k ≡ true) ↔ Knows lines t j u) (omega arith)
        (each (suc k) u answered h)),
  )

  -- more joins with more lines
  told_append : (js hs : List Join) (ks ls : List KnownLine) → AreTold lines js ks → AreTold lines hs ls
      → AreTold lines (js ++ hs) (ks ++ ls)
  told_append [] hs [] ls told more = more
  told_append [] hs (k ∷ ks) ls told more = absurd told
  told_append (j ∷ js) hs [] ls told more = absurd told
  told_append (j ∷ js) hs (k ∷ ks) ls told more = (told.0, told_append js hs ks ls told.1 more)

  -- the joins of one line more
  joins_append : (ls : List ActLine) (l : ActLine) → joins_in (ls ++ l ∷ []) ≡ joins_in ls ++ joins_of l
  joins_append [] l = append-nil (joins_of l)
  joins_append (x ∷ ls) l = ap (λ js. joins_of x ++ js) (joins_append ls l)
      ∙ sym (append_assoc (joins_of x) (joins_in ls) (joins_of l))

  module _ (fit : AreActLines lines) where
    -- a task whose acts are all worked off has a mark for each
    pub marks_count : (l : ActLine) (x : Learner) → IsLearner lines l x → is_done x ≡ true
        → length l.acts ≡ length x.marks.items
    marks_count l x is done =
        let tells = done_tells x done in
        let many = steps_count lines l.acts x.steps.items is.steps in omega arith

    -- the joins of a task whose acts are all worked off are told
    pub told_more : (i : ℕ) (l : ActLine) (x : Learner) (ks : List KnownLine) → slice_get lines i ≡ Some l
        → IsLearner lines l x → is_done x ≡ true → AreTold lines (joins_in (take i lines)) ks
        → AreTold lines (joins_in (take (i + 1) lines)) (ks ++ marked_lines l.name l.acts x.marks.items)
    told_more i l x ks there is done told =
        let tells = done_tells x done in
        let many = steps_count lines l.acts x.steps.items is.steps in
        let acts = acts_at lines fit.in_order i l there in
        let line = told_from l.name l.acts x.marks.items 0 (marks_count l x is done) (λ k u answered h.
        subst (λ j. (has_index x.marks.items k ≡ true) ↔ Knows lines l.name j u) (from_zero k)
        (is.marked k u answered (let less = get_less l.acts k (act.Join u answered) h in omega arith)
        (subst (λ as_. slice_get as_ k ≡ Some (act.Join u answered)) (sym acts) h))) in
        let less = get_less lines i l there in
        let same : take (i + 1) lines ≡ take i lines ++ l ∷ [] =
        take_more lines i l less
        ∙ ap (λ z. take i lines ++ z ∷ []) (get_or_from_slice_get lines i l l there) in
        subst (λ js. AreTold lines js (ks ++ marked_lines l.name l.acts x.marks.items))
        (sym (ap joins_in same ∙ joins_append (take i lines) l))
        (told_append (joins_in (take i lines)) (joins_of l) ks (marked_lines l.name l.acts x.marks.items) told line)

    -- a join that is told as known is along the fork order
    pub known_along : (js : List Join) (ks : List KnownLine) → AreTold lines js ks → KnownAreAlong ks
    known_along [] [] told k is e = absurd is
    known_along [] (x ∷ ks) told k is e = absurd told
    known_along (j ∷ js) [] told k is e = absurd is
    known_along (j ∷ js) (x ∷ ks) told k (inl same) e = subst (λ (y : KnownLine). IsBefore y.by y.of) (sym same)
        (subst (λ t. IsBefore t x.of) (sym told.0.by) (subst (λ u. IsBefore j.task u) (sym told.0.of_joined)
        (known_before lines fit j.task j.joined j.earlier
        (told.0.known.0 (ap (λ (y : KnownLine). y.how) (sym same) ∙ e)))))
    known_along (j ∷ js) (x ∷ ks) told k (inr is) e = known_along js ks told.1 k is e
