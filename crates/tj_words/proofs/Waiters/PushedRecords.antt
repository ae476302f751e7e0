-- What a step leaves of the records of tasks that are to be pushed: they lie at home as their seats put them there.
use Rattle.tj_words.proofs.Prelude.{All, Bool, IsIn, Key, List, None, Option, Program, Push, Rec, Rule, Slots, Some}
use Rattle.tj_words.proofs.Prelude.{State, View, Way, ap, at_map, cond, eq-eqb, get_elem?, home_in, length, ne_eqb}
use Rattle.tj_words.proofs.Prelude.{new_push, none, set, some, subst, sym, without_push, words_say, ℕ, ⊎_elim, ◌<◌}
use Rattle.tj_words.proofs.Prelude.{◌∙◌, ◌∷◌, ◌≡◌, ◌≢◌}
use Rattle.tj_words.specs.LawParts.PushedRecords.{LieAsPut, put_last}
use Rattle.tj_words.proofs.Holders.HomeSlots.{home_laid, home_else_laid, home_else_out}
use Rattle.tj_words.proofs.Stores.StoreSteps.{LeavesPushed}
use Rattle.tj_words.proofs.Waiters.ChainFacts.{IsNotParked, push_parked}
use Rattle.tj_words.proofs.Waiters.ChainLists.{in_without_push}
use Rattle.tj_words.proofs.Holders.HeldTasks.{one_some}

module _ {B : Type 0} where
  -- the record put last of its own task, and of another one
  pub last_here : (c : Rec B) (put : List (Rec B)) (t : ℕ) → c.cell.0 ≡ t → put_last (c ∷ put) t ≡ Some c
  last_here c put t e = ap (λ (b : Bool). cond b (Some c) (put_last put t)) (eq-eqb c.cell.0 t e)

  pub last_else : (c : Rec B) (put : List (Rec B)) (t : ℕ) → c.cell.0 ≢ t → put_last (c ∷ put) t ≡ put_last put t
  last_else c put t n = ap (λ (b : Bool). cond b (Some c) (put_last put t)) (ne_eqb c.cell.0 t n)

module _ {B : Type 0} {program : Bool → B → Program B} {key : Key B} {s : State (Option (Rec B)) (View B)}
    (r : Rule program key s) (id : ℕ) {v : View B} (at : get_elem? s.views id ≡ some v) where
  -- a task that isn't parked is to be pushed by nobody
  pub not_pushed : (t : ℕ) → IsNotParked ((words_say s.words).phase t) → (j : ℕ) (u : View B)
      → get_elem? s.views j ≡ some u → (e : Push) → IsIn e u.pushes → e.task ≢ t
  not_pushed t free j u here e i q = free e.cell (push_parked r.law.chains t j e
      (r.law.chains.to_push j u.pushes (at_map (λ (z : View B). z.pushes) s.views j u here) e i) q)

  -- the record c of such a task comes home
  module _ (t : ℕ) (c : Rec B) (its : c.cell.0 ≡ t) (free : IsNotParked ((words_say s.words).phase t)) where
    pub laid_leaves : LeavesPushed s (set s.homes t (some (Some c))) id
    laid_leaves j u n here e i = home_else_laid s.homes t c e.task (not_pushed t free j u here e i)

    laid_one : (put : List (Rec B)) → put ≡ c ∷ v.put_home → (e : Push) → IsIn e v.pushes
        → home_in (set s.homes t (some (Some c))) e.task ≡ put_last put e.task
    laid_one put is e i = let n = not_pushed t free id v at e i in
        home_else_laid s.homes t c e.task n
        ∙ (r.pushed id v at e i
        ∙ (sym (last_else c v.put_home e.task (λ q. n (sym q ∙ its))) ∙ ap (λ l. put_last l e.task) (sym is)))

    pub laid_as_put : (put : List (Rec B)) → put ≡ c ∷ v.put_home
        → LieAsPut (set s.homes t (some (Some c))) v.pushes put
    laid_as_put put is e i = laid_one put is e i

    -- and the task is to be pushed from now on
    pub parked_as_put : t < length s.homes → (p : ℕ) (way : Way) (put : List (Rec B)) → put ≡ c ∷ v.put_home
        → LieAsPut (set s.homes t (some (Some c))) (new_push t p way ∷ v.pushes) put
    parked_as_put small p way put is e i = ⊎_elim
        (λ (q : e ≡ new_push t p way). subst
        (λ u. home_in (set s.homes t (some (Some c))) u ≡ put_last put u) (ap (λ (z : Push). z.task) (sym q))
        (home_laid s.homes t c small ∙ (sym (last_here c v.put_home t its) ∙ ap (λ l. put_last l t) (sym is))))
        (λ (k : IsIn e v.pushes). laid_one put is e k) i

  -- the slot of such a task is taken
  module _ (t : ℕ) (free : IsNotParked ((words_say s.words).phase t)) where
    pub taken_leaves : LeavesPushed s (set s.homes t none) id
    taken_leaves j u n here e i = home_else_out s.homes t e.task (not_pushed t free j u here e i)

    pub taken_as_put : LieAsPut (set s.homes t none) v.pushes v.put_home
    taken_as_put e i = home_else_out s.homes t e.task (not_pushed t free id v at e i) ∙ r.pushed id v at e i

  -- the slot of a task is taken that the seat was to push
  module _ (t : ℕ) (push : Push) (has : IsIn push v.pushes) (its : push.task ≡ t) where
    pub back_leaves : LeavesPushed s (set s.homes t none) id
    back_leaves j u n here e i = home_else_out s.homes t e.task (λ q. n (one_some j id
        (sym (r.law.chains.to_push j u.pushes (at_map (λ (z : View B). z.pushes) s.views j u here) e i).mine
        ∙ (ap r.law.chains.pusher (q ∙ sym its)
        ∙ (r.law.chains.to_push id v.pushes (at_map (λ (z : View B). z.pushes) s.views id v at) push has).mine))))

    pub back_as_put : LieAsPut (set s.homes t none) (without_push t v.pushes) v.put_home
    back_as_put e i = let w = in_without_push t v.pushes e i in
        home_else_out s.homes t e.task w.1 ∙ r.pushed id v at e w.0

    -- and what lay there is what the seat put there
    pub lay_as_put : home_in s.homes t ≡ put_last v.put_home t
    lay_as_put = subst (λ u. home_in s.homes u ≡ put_last v.put_home u) its (r.pushed id v at push has)
