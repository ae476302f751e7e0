-- A round once more, task by task, with the acts of each task noted.
use Rattle.std.proofs.Common.{◌≡◌, ℕ, suc, ◌<◌, List, [], ◌∷◌, ◌++◌, map, length, inl, refl, sym, ap, ◌∙◌, subst}
use Rattle.std.proofs.Common.{append_assoc, arith}
use Rattle.std.proofs.lemmas.List.{append-nil, map-append}
use Rattle.tj_body.specs.Programs.{Program, root_task}
use Rattle.tj_body.specs.History.{Assignment, history}
use Rattle.tj_body.specs.Rounds.{family, given, tasks}
use Rattle.tj_body.specs.Points.{IsIn}
use Rattle.tj_body.specs.declared.point.Task.{Task}
use Rattle.tj_body.proofs.Lists.{in_right}
use Rattle.tj_mean.specs.Acts.{line_of}
use Rattle.tj_mean.specs.Inner.KeptRounds.{offspring, still}
use Rattle.tj_mean.specs.declared.act.ActLine.{ActLine}
use Rattle.tj_mean.specs.declared.round.Pending.{Pending}
use Rattle.tj_mean.proofs.AtWork.RoundSteps.{family_begins, still_push}

module _ {B : Type 0} (program : Program B) (n : ℕ) where
  abbrev V : Assignment
  V = given program n

  abbrev noted : Task B → ActLine
  noted t = line_of program.rules V t

  -- the tasks that were taken, with their acts, and those that are pending are together the round
  pub record IsNoted (pending : List (Pending B)) (lines : List ActLine) : Type 0 where
    pub taken : List (Task B)
    pub whole : taken ++ still program.rules V pending ≡ tasks program (suc n)
    pub lines_taken : lines ≡ map (line_of program.rules V) taken

  -- at first the root is pending
  pub begins_noted : (pending : List (Pending B)) (lines : List ActLine) (w : Pending B) → pending ≡ w ∷ []
      → lines ≡ [] → w.task ≡ root_task program.root → w.depth ≡ suc n → IsNoted pending lines
  begins_noted pending lines w p e t d = record {
    taken = [];
    whole = ap (λ l. still program.rules V l) p ∙ ap (λ x. family program.rules V w.depth x) t
        ∙ ap (λ k. family program.rules V k (root_task program.root)) d;
    lines_taken = e;
  }

  -- in the end nothing is pending
  pub ends_noted : (pending : List (Pending B)) (lines : List ActLine) → pending ≡ [] → IsNoted pending lines
      → lines ≡ map (line_of program.rules V) (tasks program (suc n))
  ends_noted pending lines e u =
      let all : u.taken ≡ tasks program (suc n) = sym (append-nil u.taken)
      ∙ ap (λ l. u.taken ++ still program.rules V l) (sym e) ∙ u.whole in
      u.lines_taken ∙ ap (λ l. map noted l) all

  module _ (pending ws : List (Pending B)) (w : Pending B) (stack : pending ≡ ws ++ w ∷ []) where
    abbrev after : List (Task B) → List (Task B)
    after children = offspring program.rules V w.depth children ++ still program.rules V ws

    -- the task that is taken next comes first
    first_of : still program.rules V pending ≡ w.task ∷ after (history program.rules V w.task).children
    first_of = ap (λ l. still program.rules V l) stack ∙ still_push program.rules V ws w
        ∙ ap (λ l. l ++ still program.rules V ws) (family_begins program.rules V w.depth w.task)

    -- fewer are still to be taken when it was
    pub falls_noted : (children : List (Task B)) → children ≡ (history program.rules V w.task).children
        → (pending' : List (Pending B)) → still program.rules V pending' ≡ after children
        → length (still program.rules V pending') < length (still program.rules V pending)
    falls_noted children c pending' s =
        let a = ap (λ (l : List (Task B)). length l) first_of in
        let b = ap (λ (l : List (Task B)). length l) (s ∙ ap after c) in
        omega arith

    module _ (lines : List ActLine) (u : IsNoted pending lines) where
      -- so the round goes on with it behind what was taken
      next : tasks program (suc n) ≡ u.taken ++ w.task ∷ after (history program.rules V w.task).children
      next = sym u.whole ∙ ap (λ l. u.taken ++ l) first_of

      -- it is one of the round
      pub next_noted : IsIn w.task (tasks program (suc n))
      next_noted = subst (IsIn w.task) (sym next)
          (in_right w.task u.taken (w.task ∷ after (history program.rules V w.task).children) (inl refl))

      -- what stands when it was taken
      pub takes_noted : (children : List (Task B)) → children ≡ (history program.rules V w.task).children
          → (pending' : List (Pending B)) → still program.rules V pending' ≡ after children
          → (line : ActLine) → line ≡ line_of program.rules V w.task
          → (lines' : List ActLine) → lines' ≡ lines ++ line ∷ [] → IsNoted pending' lines'
      takes_noted children c pending' s line l lines' e = record {
        taken = u.taken ++ w.task ∷ [];
        whole = append_assoc u.taken (w.task ∷ []) (still program.rules V pending')
            ∙ ap (λ r. u.taken ++ w.task ∷ r) (s ∙ ap after c) ∙ sym next;
        lines_taken = e ∙ ap (λ r. r ++ line ∷ []) u.lines_taken ∙ ap (λ x. map noted u.taken ++ x ∷ []) l
            ∙ sym (map-append noted u.taken (w.task ∷ []));
      }
