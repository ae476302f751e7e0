-- A moment has one holder of each task and one line of each cell.
use Rattle.tj_words.proofs.Prelude.{Chains, Contents, Law, List, Option, Program, Some, [], ap, arith, inl, inr, refl}
use Rattle.tj_words.proofs.Prelude.{subst, sym, ℕ, ⊎_elim, ◌∙◌, ◌∷◌, ◌≡◌, ◌≢◌, ◌⊎◌}
use Rattle.tj_words.specs.declared.head.Head.{Head}
use Rattle.tj_words.specs.declared.head.Head.TheVariants.{Shut}
use Rattle.tj_words.specs.declared.phase.Phase.{Phase}
use Rattle.tj_words.specs.declared.view.Found.{Found}
use Rattle.tj_words.specs.declared.view.Push.{Push}
use Rattle.tj_words.specs.declared.view.Rest.{Rest}
use Rattle.tj_runs.specs.OneHolders.{OneLineStands, OneSeatHolds, OneSeatPushes}
use Rattle.tj_words.proofs.Waiters.ChainFacts.{linked_one}
use Rattle.tj_words.proofs.Waiters.ChainsSaid.{shut_or}

-- where each of two options is the other's number, if it has one, they are the same
one_option : (a b : Option ℕ) → ((j : ℕ) → a ≡ Some j → b ≡ Some j) → ((j : ℕ) → b ≡ Some j → a ≡ Some j) → a ≡ b
one_option a b f g = grind arith

empty_or : (l : List ℕ) → (l ≡ []) ⊎ (l ≢ [])
empty_or [] = inl refl
empty_or (x ∷ xs) = inr (λ e. cc)

module _ {tag : ℕ → ℕ} {head next : ℕ → Head} {phase : ℕ → Phase} {pushes : List (List Push)} {shuts : List (List ℕ)}
    {rests : List (Option Rest)} {closed : List (List ℕ)} {found : List (List Found)}
    (c d : Chains tag head next phase pushes shuts rests closed found) where
  pusher_too : (t j : ℕ) → c.pusher t ≡ Some j → d.pusher t ≡ Some j
  pusher_too t j e = let h = c.pushing t j e in
      subst (λ z. d.pusher z ≡ Some j) h.2.2 (d.to_push j h.0 h.1 h.2.0 h.2.1).mine

  -- a line that has some task, of a cell whose head is shut, is the rest that its seat has
  rest_too : (p : ℕ) → head p ≡ Shut → c.line p ≢ [] → d.line p ≡ c.line p
  rest_too p shut some = let h = c.taken p shut some in let r = h.2.0 in
      let a = c.rest (c.taker p) h.0 h.1 r h.2.1 in let b = d.rest (c.taker p) h.0 h.1 r h.2.1 in
      ap d.line (sym h.2.2) ∙ (b.left ∙ (sym a.left ∙ ap c.line h.2.2))

module _ {tag : ℕ → ℕ} {head next : ℕ → Head} {phase : ℕ → Phase} {pushes : List (List Push)} {shuts : List (List ℕ)}
    {rests : List (Option Rest)} {closed : List (List ℕ)} {found : List (List Found)}
    (c d : Chains tag head next phase pushes shuts rests closed found) where
  one_line : (p : ℕ) → c.line p ≡ d.line p
  one_line p = ⊎_elim
      (λ shut. ⊎_elim
      (λ none. ⊎_elim (λ (e : d.line p ≡ []). none ∙ sym e) (λ some. rest_too d c p shut some) (empty_or (d.line p)))
      (λ some. sym (rest_too c d p shut some))
      (empty_or (c.line p)))
      (λ unshut. linked_one next (c.line p) (d.line p) (c.linked p) (d.linked p)
      (sym (c.heads p unshut) ∙ d.heads p unshut))
      (shut_or (head p))

  one_pusher : (t : ℕ) → c.pusher t ≡ d.pusher t
  one_pusher t = one_option (c.pusher t) (d.pusher t) (pusher_too c d t) (pusher_too d c t)

module _ {B : Type 0} {program : Program B} {cells : ℕ} {x : Contents B} where
  holder_too : (r s : Law program cells x) (t j : ℕ) → r.custody.holder t ≡ Some j → s.custody.holder t ≡ Some j
  holder_too r s t j e = let h = r.custody.holders t j e in (s.custody.held j h.0 h.1 t h.2.0 h.2.1).mine

pub one_seat_holds : (B : Type 0) → OneSeatHolds B
one_seat_holds B m r t = one_option (r.custody.holder t) (m.law.custody.holder t) (holder_too r m.law t)
    (holder_too m.law r t)

pub one_line_stands : (B : Type 0) → OneLineStands B
one_line_stands B m r p = one_line r.chains m.law.chains p

pub one_seat_pushes : (B : Type 0) → OneSeatPushes B
one_seat_pushes B m r t = one_pusher r.chains m.law.chains t
