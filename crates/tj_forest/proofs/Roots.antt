-- The roots of a forest are causes: cycles, failures for no broken cell, and what tasks owed that ended.
use Rattle.std.proofs.Common.{◌≡◌, Bool, true, false, cond, List, [], ◌∷◌, ◌++◌, map, Option, Some, None, refl, sym, ap}
use Rattle.std.proofs.Common.{subst, ◌∙◌, ◌⊎◌, inl, inr, zero, suc, ℕ}
use Rattle.std.specs.Prelude.{option_and_then}
use Rattle.std.specs.List.{flat_map}
use Rattle.tj_base.specs.ForkOrder.{Name}
use Rattle.tj_base.specs.declared.cause.Cause.{Cause}
use Rattle.tj_base.specs.declared.cause.Cause.TheVariants as cause
use Rattle.tj_base.specs.declared.value.Shown.{Shown}
use Rattle.tj_body.specs.Points.{IsIn}
use Rattle.tj_body.proofs.Lists.{from_flat_map, in_either, in_flat_map, in_left, in_map, in_right, to_map}
use Rattle.tj_mean.specs.declared.outcome.Ending.{Ending}
use Rattle.tj_mean.specs.declared.outcome.Ending.TheVariants as ending
use Rattle.tj_mean.specs.declared.outcome.Link.{Link}
use Rattle.tj_mean.proofs.Lists.NameOrder.{in_permuted, in_unpermuted}
use Rattle.tj_syntax.specs.PlacesOf.{PlacesOfTask}
use Rattle.tj_trace.specs.declared.line.TraceLine.{TraceLine}
use Rattle.tj_forest.proofs.Forests.{causes_permuted}
use Rattle.tj_forest.proofs.Origins.{other_cause}
use Rattle.tj_forest.specs.Consequences.{IsCause}
use Rattle.tj_findings.specs.Echoes.{echoed}
use Rattle.tj_findings.specs.Findings.{failed, failed_with, is_owing, owed, stop_of, told_cycle, told_debt, told_failure}
use Rattle.tj_findings.specs.Forests.{Forest, Tree, bare, cause_from, causes, consequences, forest_of, put, put_all}
use Rattle.tj_findings.specs.Forests.{put_below, put_named}
use Rattle.tj_findings.specs.declared.finding.Finding.{Finding}

-- what is put below a cause leaves the roots
below_roots : (n : ℕ) (f : Finding) (ts : List Tree)
    → map (λ (t : Tree). t.root) (put_below n f ts) ≡ map (λ (t : Tree). t.root) ts
below_roots n f [] = refl
below_roots zero f (t ∷ ts) = refl
below_roots (suc n) f (t ∷ ts) = ap (λ z. t.root ∷ z) (below_roots n f ts)

pub put_roots : (n : Option ℕ) (f : Finding) (forest : Forest)
    → map (λ (t : Tree). t.root) (put n f forest).trees ≡ map (λ (t : Tree). t.root) forest.trees
put_roots None f forest = refl
put_roots (Some n) f forest = below_roots n f forest.trees

all_roots : (fs : List Finding) (ks : List (Option Name × Finding)) (forest : Forest)
    → map (λ (t : Tree). t.root) (put_all fs forest ks).trees ≡ map (λ (t : Tree). t.root) forest.trees
all_roots fs [] forest = refl
all_roots fs (k ∷ ks) forest = all_roots fs ks (put_named fs forest k)
    ∙ put_roots (option_and_then (cause_from 0 fs) k.0) k.1 forest

pub bare_roots : (fs : List Finding) → map (λ (t : Tree). t.root) (map bare fs) ≡ fs
bare_roots [] = refl
bare_roots (f ∷ fs) = ap (λ z. f ∷ z) (bare_roots fs)

-- the root of a tree is among the roots
root_in : (t : Tree) (ts : List Tree) → IsIn t ts → IsIn t.root (map (λ (t : Tree). t.root) ts)
root_in t [] i = absurd i
root_in t (u ∷ ts) (inl e) = inl (ap (λ (t : Tree). t.root) e)
root_in t (u ∷ ts) (inr i) = inr (root_in t ts i)

module _ (lines : List TraceLine) (cycles : List (List Link)) where
  -- what a cause is of: a cycle, or the line of a task that failed for no broken cell, or that ended and owes
  pub data IsCauseOf (f : Finding) : Type 0 where
    a_cycle : (c : List Link) → IsIn c cycles → f ≡ told_cycle lines c → IsCauseOf f
    a_failure : (l : TraceLine) → IsIn l lines → (c : Cause) → l.line.ending ≡ ending.Failed c → echoed c ≡ None
        → f ≡ told_failure lines l c → IsCauseOf f
    a_debt : (l : TraceLine) → IsIn l lines → (v : Shown) → l.line.ending ≡ ending.Done v → (q : Name)
        → IsIn q l.line.owes → f ≡ told_debt lines l q → IsCauseOf f

  of_failed : (l : TraceLine) → IsIn l lines → (e : Ending) → l.line.ending ≡ e → (f : Finding)
      → IsIn f (failed_with lines l e) → IsCauseOf f
  of_failed l there (ending.Done v) is f i = absurd i
  of_failed l there (ending.Failed cause.Arith) is f (inl e) = a_failure l there cause.Arith is refl e
  of_failed l there (ending.Failed cause.Kind) is f (inl e) = a_failure l there cause.Kind is refl e
  of_failed l there (ending.Failed cause.Steps) is f (inl e) = a_failure l there cause.Steps is refl e
  of_failed l there (ending.Failed (cause.Owner q)) is f (inl e) = a_failure l there (cause.Owner q) is refl e
  of_failed l there (ending.Failed (cause.Order q)) is f (inl e) = a_failure l there (cause.Order q) is refl e
  of_failed l there (ending.Failed cause.Arith) is f (inr i) = absurd i
  of_failed l there (ending.Failed cause.Kind) is f (inr i) = absurd i
  of_failed l there (ending.Failed cause.Steps) is f (inr i) = absurd i
  of_failed l there (ending.Failed (cause.Owner q)) is f (inr i) = absurd i
  of_failed l there (ending.Failed (cause.Order q)) is f (inr i) = absurd i
  of_failed l there (ending.Failed (cause.Broken q)) is f i = absurd i
  of_failed l there (ending.Waits q) is f i = absurd i

  of_owed : (l : TraceLine) → IsIn l lines → (e : Ending) → l.line.ending ≡ e → (f : Finding)
      → IsIn f (cond (is_owing true e) (map (told_debt lines l) l.line.owes) []) → IsCauseOf f
  of_owed l there (ending.Done v) is f i =
      let q = in_map (told_debt lines l) f l.line.owes i in a_debt l there v is q.0 q.1 q.2
  of_owed l there (ending.Failed c) is f i = absurd i
  of_owed l there (ending.Waits q) is f i = absurd i

  abbrev failures : List Finding
  failures = flat_map (failed lines) lines

  abbrev told_cycles : List Finding
  told_cycles = map (told_cycle lines) cycles

  abbrev ended_debts : List Finding
  ended_debts = flat_map (owed lines true) lines

  module _ (places : List PlacesOfTask) where
    -- each cause of the list is of something
    pub cause_of : (f : Finding) → IsIn f (causes places lines cycles) → IsCauseOf f
    cause_of f i = by (in_either f (failures ++ told_cycles) ended_debts
        (in_permuted ((failures ++ told_cycles) ++ ended_debts) (causes places lines cycles)
        (causes_permuted places lines cycles) f i)) where
          first : IsIn f failures ⊎ IsIn f told_cycles → IsCauseOf f
          first (inl i) =
              let l = from_flat_map (failed lines) f lines i in of_failed l.0 l.1 l.0.line.ending refl f l.2
          first (inr i) = let c = in_map (told_cycle lines) f cycles i in a_cycle c.0 c.1 c.2

          by : IsIn f (failures ++ told_cycles) ⊎ IsIn f ended_debts → IsCauseOf f
          by (inl i) = first (in_either f failures told_cycles i)
          by (inr i) =
              let l = from_flat_map (owed lines true) f lines i in of_owed l.0 l.1 l.0.line.ending refl f l.2

    to_causes : (f : Finding) → IsIn f ((failures ++ told_cycles) ++ ended_debts)
        → IsIn f (causes places lines cycles)
    to_causes f i = in_unpermuted ((failures ++ told_cycles) ++ ended_debts) (causes places lines cycles)
        (causes_permuted places lines cycles) f i

    -- a failure for no broken cell, a cycle, and what an ended task owed are causes
    pub failure_is_cause : (l : TraceLine) → IsIn l lines → (c : Cause) → l.line.ending ≡ ending.Failed c
        → echoed c ≡ None → IsIn (told_failure lines l c) (causes places lines cycles)
    failure_is_cause l there c is none = to_causes f (in_left f (failures ++ told_cycles) ended_debts
        (in_left f failures told_cycles (in_flat_map (failed lines) l f lines there
        (subst (λ e. IsIn f (failed_with lines l e)) (sym is) (by c none))))) where
          f : Finding
          f = told_failure lines l c

          by : (c : Cause) → echoed c ≡ None → IsIn (told_failure lines l c) (failed_with lines l (ending.Failed c))
          by cause.Arith e = inl refl
          by cause.Kind e = inl refl
          by cause.Steps e = inl refl
          by (cause.Owner q) e = inl refl
          by (cause.Broken q) e = absurd (cc)
          by (cause.Order q) e = inl refl

    pub cycle_is_cause : (c : List Link) → IsIn c cycles → IsIn (told_cycle lines c) (causes places lines cycles)
    cycle_is_cause c there = to_causes (told_cycle lines c) (in_left (told_cycle lines c) (failures ++ told_cycles)
        ended_debts (in_right (told_cycle lines c) failures told_cycles (to_map (told_cycle lines) c cycles there)))

    pub debt_is_cause : (l : TraceLine) → IsIn l lines → (v : Shown) → l.line.ending ≡ ending.Done v → (q : Name)
        → IsIn q l.line.owes → IsIn (told_debt lines l q) (causes places lines cycles)
    debt_is_cause l there v is q i = to_causes (told_debt lines l q) (in_right (told_debt lines l q)
        (failures ++ told_cycles) ended_debts (in_flat_map (owed lines true) l (told_debt lines l q) lines there
        (subst (λ e. IsIn (told_debt lines l q) (cond (is_owing true e) (map (told_debt lines l) l.line.owes) []))
        (sym is) (to_map (told_debt lines l) q l.line.owes i))))

-- what a cause is of is one
cause_is : (lines : List TraceLine) (cycles : List (List Link)) (f : Finding) → IsCauseOf lines cycles f → IsCause f
cause_is lines cycles f (a_cycle c i e) = subst IsCause (sym e) tt
cause_is lines cycles f (a_failure l i c is none e) = subst IsCause (sym e) (λ q s. other_cause c q none s)
cause_is lines cycles f (a_debt l i v is q j e) = subst IsCause (sym e) (ap stop_of is)

-- the roots of the forest are the causes, in their order
pub roots_of : (places : List PlacesOfTask) (lines : List TraceLine) (cycles : List (List Link))
    → map (λ (t : Tree). t.root) (forest_of places lines cycles).trees ≡ causes places lines cycles
roots_of places lines cycles =
    let cs = causes places lines cycles in
    all_roots cs (consequences lines cycles) (record { trees = map bare cs; strays = [] }) ∙ bare_roots cs

-- each root of the forest is a cause
pub roots_are_causes : (places : List PlacesOfTask) (lines : List TraceLine) (cycles : List (List Link)) (t : Tree)
    → IsIn t (forest_of places lines cycles).trees → IsCause t.root
roots_are_causes places lines cycles t i =
    cause_is lines cycles t.root (cause_of lines cycles places t.root
    (subst (IsIn t.root) (roots_of places lines cycles)
    (root_in t (forest_of places lines cycles).trees i)))
