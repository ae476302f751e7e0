-- A push that succeeds lengthens the very chain that was found: two lists that NEXT links and that begin alike are one.
use Rattle.tj_words.proofs.Prelude.{AreLinked, Bool, IsIn, List, Option, Program, Ruled, State, [], ap, arith, at_map}
use Rattle.tj_words.proofs.Prelude.{cell, get_elem?, head_at, head_in, head_of, length, next_at, place_of, set, some}
use Rattle.tj_words.proofs.Prelude.{subst, suc, sym, told_by, word, ℕ, ⊎_elim, ◌++◌, ◌<◌, ◌∙◌, ◌∷◌, ◌≡◌, ◌≢◌}
use Rattle.tj_words.specs.declared.head.Head.{Head}
use Rattle.tj_words.specs.declared.head.Head.TheVariants.{Shut, Task}
use Rattle.tj_record.specs.declared.record.Rec.{Rec}
use Rattle.tj_words.specs.declared.table.Key.{Key}
use Rattle.tj_words.specs.declared.view.Found.{Found}
use Rattle.tj_words.specs.declared.view.View.{View}
use Rattle.tj_words.proofs.Calls.FoundHeads.{head_suc}
use Rattle.tj_words.proofs.Stores.SeatLists.{word_else, word_here}
use Rattle.tj_words.proofs.Waiters.ChainFacts.{first_of, linked_one, no_shut}
use Rattle.tj_runs.specs.PushRuns.{AreFoundStill, FoundChainsStand, Pushes, PushesLengthen}

-- the end of a list that NEXT links is linked
linked_end : (next : ℕ → Head) (more old : List ℕ) → AreLinked next (more ++ old) → AreLinked next old
linked_end next [] old h = h
linked_end next (t ∷ more) old h = linked_end next more old h.1

-- links stay where NEXT does
linked_same : (next next' : ℕ → Head) → ((t : ℕ) → next t ≡ next' t) → (l : List ℕ) → AreLinked next l
    → AreLinked next' l
linked_same next next' same [] h = tt
linked_same next next' same (t ∷ ts) h = (sym (same t) ∙ h.0, linked_same next next' same ts h.1)

-- an end of a list that NEXT links, which begins as the list does, is the list
whole_end : (next : ℕ → Head) (line more old : List ℕ) → AreLinked next line → line ≡ more ++ old
    → head_of old ≡ head_of line → line ≡ old
whole_end next line more old h e same = linked_one next line old h
    (linked_end next more old (subst (AreLinked next) e h)) (sym same)

module _ {B : Type 0} (program : Bool → B → Program B) (key : Key B) where
  found_stand : (u : Ruled program key) (id p : ℕ) (v : View B) → get_elem? u.now.views id ≡ some v
      → AreFoundStill program key u p v
  found_stand u id p v at f i here begins = let c = u.rule.law.chains in
      let grows = c.grows id v.found (at_map (λ (z : View B). z.found) u.now.views id v at) f i in
      let unshut : head_in (word u.now.words (head_at p)) ≢ Shut = λ e. no_shut f.chain (begins ∙ e) in
      let is = c.heads p unshut in
      ⊎_elim
      (λ (e : head_in (word u.now.words (head_at f.cell)) ≡ Shut).
      absurd (unshut (ap (λ d. head_in (word u.now.words (head_at d))) (sym here) ∙ e)))
      (λ (m : (more : List ℕ) × (c.line f.cell ≡ more ++ f.chain)).
      whole_end _ (c.line p) m.0 f.chain (c.linked p) (ap c.line (sym here) ∙ m.1) (begins ∙ is)) grows

  module _ (u w : Ruled program key) (p t : ℕ) (behind : Head) (e : Pushes program key u w p t behind) where
    abbrev ws : List ℕ
    ws = u.now.words

    abbrev i : ℕ
    i = place_of e.made.call

    at_head : i ≡ head_at p
    at_head = ap place_of e.is

    -- what the call stored
    its_number : e.made.number ≡ suc t
    its_number = let h = subst (λ a. told_by program key.cells a e.made.number e.made.operands e.made.seat
        (word ws (place_of a)) e.made.seat_after) e.is e.made.told in h.0 e.succeeds ∙ e.adds

    after : (j : ℕ) → word w.now.words j ≡ word (set ws (head_at p) (suc t)) j
    after j = ap (λ (z : State (Option (Rec B)) (View B)). word z.words j) e.made.makes.after
        ∙ (ap (λ k. word (set ws k e.made.number) j) at_head ∙ ap (λ n. word (set ws (head_at p) n) j) its_number)

    head_now : head_in (word w.now.words (head_at p)) ≡ Task (cell t)
    head_now = ap head_in (after (head_at p)
        ∙ word_here ws (head_at p) (suc t) (subst (λ j. j < length ws) at_head e.made.makes.inside))
        ∙ head_suc t (λ z. let f = u.rule.few_cells in let s = e.small in omega arith)

    next_now : (d : ℕ) → head_in (word w.now.words (next_at d)) ≡ head_in (word ws (next_at d))
    next_now d = ap head_in (after (next_at d) ∙ word_else ws (head_at p) (next_at d) (suc t) (λ z. omega arith))

    longer : w.rule.law.chains.line p ≡ t ∷ u.rule.law.chains.line p
    longer = let c = u.rule.law.chains in let d = w.rule.law.chains in
        let unshut : head_in (word w.now.words (head_at p)) ≢ Shut = λ z. let y : Task (cell t) ≡ Shut
        = sym head_now ∙ z in cc in
        let first = first_of (d.line p) t (sym (d.heads p unshut) ∙ head_now) in
        let linked = subst (AreLinked _) first.1 (d.linked p) in
        let stored : head_in (word ws (next_at t)) ≡ behind = next_is in
        let begins : head_of first.0 ≡ behind = sym linked.0 ∙ (next_now t ∙ stored) in
        let was : head_in (word ws (head_at p)) ≡ behind = ap head_in e.succeeds ∙ e.asks in
        let open_was : head_in (word ws (head_at p)) ≢ Shut = λ z. no_shut first.0 (begins ∙ (sym was ∙ z)) in
        first.1 ∙ ap (λ l. t ∷ l) (linked_one _ first.0 (c.line p)
        (linked_same _ _ next_now first.0 linked.1) (c.linked p)
        (begins ∙ (sym was ∙ c.heads p open_was)))
      where
        next_is : head_in (word ws (next_at t)) ≡ behind
        next_is = let c = u.rule.law.chains in let q = e.has in
            subst (λ d. head_in (word ws (next_at d)) ≡ behind) q.2.0
            ((c.to_push e.made.id e.made.seat.0.pushes
            (at_map (λ (z : View B). z.pushes) u.now.views e.made.id e.made.seat.0 e.made.makes.at)
            q.0 q.1).stored behind q.2.2)

    of_found : (f : Found) → IsIn f e.made.seat.0.found → f.cell ≡ p → head_of f.chain ≡ behind
        → w.rule.law.chains.line p ≡ t ∷ f.chain
    of_found f j here begins = longer ∙ ap (λ l. t ∷ l)
        (found_stand u e.made.id p e.made.seat.0 e.made.makes.at f j here
        (begins ∙ (sym e.asks ∙ ap head_in (sym e.succeeds))))

pub found_chains_stand : (B : Type 0) → FoundChainsStand B
found_chains_stand B program key u id p v at = found_stand program key u id p v at

pub pushes_lengthen : (B : Type 0) → PushesLengthen B
pushes_lengthen B program key u w p t behind e = (
  longer program key u w p t behind e,
  λ f i here begins. of_found program key u w p t behind e f i here begins,
)
