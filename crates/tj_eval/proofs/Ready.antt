-- A task that knows where it stands, up to its next ask: what it keeps stays right.
use Rattle.std.proofs.Common.{◌≡◌, ℕ, zero, suc, ◌+◌, ◌<◌, arith, List, [], ◌∷◌, ◌++◌, length, refl, ap, sym, subst}
use Rattle.std.proofs.Common.{◌∙◌}
use Rattle.std.proofs.lemmas.List.{length-map}
use Rattle.std.specs.Prelude.{Option, Some, None, Ok, slice_get}
use Rattle.tj_body.specs.declared.ask.Answer.{Answer}
use Rattle.tj_body.specs.declared.ask.Ask.{Ask}
use Rattle.tj_body.specs.declared.ask.Ask.TheVariants as ask
use Rattle.tj_body.specs.Asks.{new_places}
use Rattle.tj_syntax.specs.Trees.{Statement, Task}
use Rattle.tj_syntax.specs.View as view
use Rattle.tj_syntax.specs.declared.script.Decl.{Decl}
use Rattle.std.specs.Option.{option_map}
use Rattle.tj_eval.specs.Sizes.{size_of, sizes_of, task_sizes}
use Rattle.tj_eval.specs.Stands.{AreNamed, IsAt, PlacedState, Stand, numbers, placed, stand_in, stand_on, stand_begun}
use Rattle.tj_eval.specs.Stands.{stand_next, within}
use Rattle.tj_eval.specs.declared.sizes.Size.{Size}
use Rattle.tj_eval.specs.Statements.{listed, TaskState, goes_on, begun, next, answered}
use Rattle.tj_eval.specs.declared.placed.Standing.{Standing}
use Rattle.tj_eval.specs.Inner.Standing.{ahead_of, first_numbers, shown, stands, ForksIn, HasNext, IsHome, IsNumbered}
use Rattle.tj_eval.specs.Inner.Standing.{IsReady}
use Rattle.tj_eval.proofs.Stands.{all_named, ChildOf, IsRightEffect, IsRightNext, IsSameRest, rest_answered}
use Rattle.tj_eval.proofs.Stands.{right_after, right_begun}
use Rattle.tj_eval.proofs.Tables.{body_read, has_next}
use Rattle.tj_eval.proofs.Views.{get_map, listed_block}

-- it stays right where its script is the same and the numbers ahead are right
pub ready_from : (b new : Standing) (h : IsReady b) → new.home ≡ b.home → new.body.script ≡ b.body.script
    → AreNamed (within h.task.body) (shown new).stand.ahead new.body.rest → IsReady new
ready_from b new h e s n = record {
  task = h.task;
  is_home = subst (λ z. IsHome z h.task) (sym e) h.is_home;
  script = s ∙ h.script ∙ ap (λ z. view.script z.script.now) (sym e);
  named = n;
}

-- the next of the statements that remain has the first number ahead
on_named : (all : List Statement) (z : Stand) (s : Statement) (rest : List Statement) → AreNamed all z.ahead (s ∷ rest)
    → IsAt all (stand_on z.ahead z).at s × AreNamed all (stand_on z.ahead z).ahead rest
on_named all z s rest h = by z.ahead h where
  by : (ahead : List ℕ) → AreNamed all ahead (s ∷ rest)
      → IsAt all (stand_on ahead z).at s × AreNamed all (stand_on ahead z).ahead rest
  by [] h = absurd h
  by (n ∷ more) h = h

-- no number but that of the closing brace is ahead where no statement remains
over_named : (all : List Statement) (ahead : List ℕ) → AreNamed all ahead [] → ahead ≡ length all ∷ []
over_named all [] h = absurd h
over_named all (n ∷ more) h = ap (λ k. k ∷ more) h.0 ∙ ap (λ z. length all ∷ z) h.1

module _ (b : Standing) (h : IsReady b) where
  -- where a statement remains, its number comes next
  pub next_there : (s : Statement) (rest : List Statement) → b.body.rest ≡ s ∷ rest
      → HasNext b.home.own.now (ahead_of b.home.own.now b.numbers)
  next_there s rest e = subst (λ own. HasNext own (ahead_of b.home.own.now b.numbers)) (sym h.is_home.own)
      (has_next (within h.task.body) (ahead_of b.home.own.now b.numbers) s rest
      (subst (AreNamed (within h.task.body) (ahead_of b.home.own.now b.numbers)) e h.named))

  -- where none does, that of the closing brace is ahead
  pub none_there : b.body.rest ≡ [] → ahead_of b.home.own.now b.numbers ≡ length b.home.own.now ∷ []
  none_there e = over_named (within h.task.body) (ahead_of b.home.own.now b.numbers)
      (subst (AreNamed (within h.task.body) (ahead_of b.home.own.now b.numbers)) e h.named)
      ∙ ap (λ k. k ∷ []) (sym (length-map (within h.task.body) size_of) ∙ ap length (sym h.is_home.own))

  -- A statement is taken.
  module _ (now : Standing) (s : Statement) (e : now.home ≡ b.home) (r : b.body.rest ≡ s ∷ now.body.rest)
      (script : now.body.script ≡ b.body.script)
      (z : (shown now).stand ≡ stand_on (shown b).stand.ahead (shown b).stand) where
    taken : IsAt (within h.task.body) (stand_on (shown b).stand.ahead (shown b).stand).at s
        × AreNamed (within h.task.body) (stand_on (shown b).stand.ahead (shown b).stand).ahead now.body.rest
    taken = on_named (within h.task.body) (shown b).stand s now.body.rest
        (subst (AreNamed (within h.task.body) (shown b).stand.ahead) r h.named)

    taken_at : IsAt (within h.task.body) now.numbers.at s
    taken_at = subst (λ w. IsAt (within h.task.body) w.at s) (sym z) taken.0

    -- the task stands right at it
    pub taken_ready : IsReady now
    taken_ready = ready_from b now h e script
        (subst (λ w. AreNamed (within h.task.body) w.ahead now.body.rest) (sym z) taken.1)

    -- and the table has its size
    pub taken_numbered : IsNumbered now.home.own.now now.numbers.at s
    taken_numbered = (within h.task.body, ap (λ w. w.own.now) e ∙ h.is_home.own, taken_at)

    -- It begins, and asks nothing.
    pub passed_ready : (new : Standing) (t : TaskState) → new.home ≡ now.home → t.rest ≡ now.body.rest
        → t.script ≡ now.body.script → begun t s ≡ goes_on new.body
        → (shown new).stand ≡ stand_begun t s (shown now).stand → IsReady new
    passed_ready new t same rest kept g w = let all = within h.task.body in
        let ready = taken_ready in
        let right = subst (λ x. IsRightEffect all t (shown now).stand x (stand_begun t s (shown now).stand)) g
        (right_begun all t (shown now).stand (subst (AreNamed all (shown now).stand.ahead) (sym rest)
        (subst (λ v. AreNamed all v.ahead now.body.rest) (sym z) taken.1)) s taken_at) in
        ready_from b new h (same ∙ e) (right.script ∙ kept ∙ script)
        (subst (λ v. AreNamed all v.ahead new.body.rest) (sym w) right.named)

  -- An answer that is taken leaves what remains.
  pub answered_ready : (new : Standing) (t : TaskState) (a : Answer) → new.home ≡ b.home → new.numbers ≡ b.numbers
      → t.rest ≡ b.body.rest → t.script ≡ b.body.script → answered t t.due a ≡ Ok new.body → IsReady new
  answered_ready new t a e n rest script o =
      let same = subst (IsSameRest t) o (rest_answered t t.due a) in
      ready_from b new h e (same.1 ∙ script)
      (subst (λ w. AreNamed (within h.task.body) (ahead_of w.own.now new.numbers) new.body.rest) (sym e)
      (subst (λ w. AreNamed (within h.task.body) (ahead_of b.home.own.now w) new.body.rest) (sym n)
      (subst (AreNamed (within h.task.body) (ahead_of b.home.own.now b.numbers)) (sym (same.0 ∙ rest)) h.named)))

  -- Its next ask is given.
  module _ (a : Answer) where
    now_right : let t = record b.body { places = b.body.places + new_places a } in
        IsRightNext (within h.task.body) t (shown b).stand (next b.body a) (stand_next b.body a (shown b).stand)
    now_right = let t = record b.body { places = b.body.places + new_places a } in
        right_after (within h.task.body) t (shown b).stand (answered t t.due a) h.named (rest_answered t t.due a)

    pub asked_ready : (new : Standing) → new.home ≡ b.home → new.body ≡ (next b.body a).1
        → (shown new).stand ≡ stand_next b.body a (shown b).stand → IsReady new
    asked_ready new e t z = let on = now_right.0 in
        ready_from b new h e (ap (λ x. x.script) t ∙ on.script)
        (subst (λ w. AreNamed (within h.task.body) w.ahead new.body.rest) (sym z)
        (subst (λ x. AreNamed (within h.task.body) (stand_next b.body a (shown b).stand).ahead x.rest) (sym t)
        on.named))

    -- what it forks is a task of the script
    pub asked_forks : (f : ℕ) (q : Ask TaskState) → q ≡ (next b.body a).0
        → f ≡ (stand_next b.body a (shown b).stand).called → ForksIn b.home f q
    asked_forks f q e n = subst (ForksIn b.home f) (sym e) (subst (λ k. ForksIn b.home k (next b.body a).0) (sym n)
        (by (next b.body a).0 now_right.1)) where
          by : (q : Ask TaskState) → ChildOf b.body.script q (stand_next b.body a (shown b).stand).called
              → ForksIn b.home (stand_next b.body a (shown b).stand).called q
          by (ask.Fork c pass hand) k = (
            k.0,
            ap (λ s. slice_get s (stand_next b.body a (shown b).stand).called) (sym h.script) ∙ k.1,
            k.2 ∙ h.script,
            k.3,
          )
          by q k = tt

-- An equal task stands where it stands.
module _ (b new : Standing) (h : IsReady b) (e : new.home ≡ b.home) (t : new.body ≡ b.body)
    (same : (own : List Size) (decl : ℕ) → stands own decl new.numbers ≡ stands own decl b.numbers) where
  twin_stand : (shown new).stand ≡ (shown b).stand
  twin_stand = same new.home.own.now new.home.decl ∙ ap (λ z. stands z.own.now z.decl b.numbers) e

  pub twin_ready : IsReady new
  twin_ready = ready_from b new h e (ap (λ z. z.script) t)
      (subst (λ z. AreNamed (within h.task.body) z.ahead new.body.rest) (sym twin_stand)
      (subst (λ z. AreNamed (within h.task.body) (shown b).stand.ahead z.rest) (sym t) h.named))

  pub twin_shown : shown new ≡ shown b
  twin_shown = let of : TaskState → Stand → PlacedState = λ x z. record { task = x; stand = z } in
      ap (λ x. of x (shown new).stand) t ∙ ap (of b.body) twin_stand

-- A task that has just begun, or has ended, is made with these numbers.
module _ (b : Standing) (d : Task) (home : IsHome b.home d) (script : b.body.script ≡ view.script b.home.script.now)
  where
    -- it has ended
    pub over_ready : b.body.rest ≡ [] → ahead_of b.home.own.now b.numbers ≡ length b.home.own.now ∷ [] → IsReady b
    over_ready rest ahead = record {
      task = d;
      is_home = home;
      script = script;
      named = subst (AreNamed (within d.body) (ahead_of b.home.own.now b.numbers)) (sym rest)
          (subst (λ z. AreNamed (within d.body) z []) (sym ahead)
          (ap length home.own ∙ length-map (within d.body) size_of, refl));
    }

    module _ (n : ℕ) (count : n ≡ length (listed d.body)) (rest : b.body.rest ≡ listed d.body)
        (made : (own : List Size) (decl : ℕ) → stands own decl b.numbers
        ≡ record { decl = decl; ahead = first_numbers own 0 n ++ length own ∷ []; at = 0; called = 0 }) where
      all_ahead_of : ahead_of b.home.own.now b.numbers ≡ numbers 0 d.body ++ length (within d.body) ∷ []
      all_ahead_of = ap (λ z. z.ahead) (made b.home.own.now 0)
          ∙ ap (λ own. first_numbers own 0 n ++ length own ∷ []) home.own
          ∙ ap (λ k. first_numbers (task_sizes d) 0 k ++ length (task_sizes d) ∷ []) count
          ∙ ap (λ z. z ++ length (task_sizes d) ∷ []) (body_read d.body)
          ∙ ap (λ k. numbers 0 d.body ++ k ∷ []) (length-map (within d.body) size_of)

      -- it begins
      start_ready : IsReady b
      start_ready = record {
        task = d;
        is_home = home;
        script = script;
        named = subst (AreNamed (within d.body) (ahead_of b.home.own.now b.numbers)) (sym rest)
            (subst (λ z. AreNamed (within d.body) z (listed d.body)) (sym all_ahead_of) (all_named d.body));
      }

      -- it stands at the beginning of its declaration
      start_shown : shown b ≡ placed b.home.decl b.body
      start_shown = let w = made b.home.own.now b.home.decl in
          let found = ap (λ z. slice_get z b.home.decl) script ∙ home.is_declared in
          let seen : Stand → PlacedState = λ z. record { task = b.body; stand = z } in
          let from : List ℕ → Stand = λ z. record { decl = b.home.decl; ahead = z; at = 0; called = 0 } in
          ap seen (w
          ∙ ap from (sym (ap (λ z. z.ahead) w) ∙ all_ahead_of)
          ∙ sym (ap (stand_in b.home.decl) found))

      pub starts : IsReady b × (shown b ≡ placed b.home.decl b.body)
      starts = (start_ready, start_shown)

some_is : {A : Type 0} (x y : A) → Some x ≡ Some y → x ≡ y
some_is x y e = ap (λ o. elim o [ Some z ↦ z | None ↦ x ]) e

-- The sizes of a declaration are found by its number.
module _ (script : List Task) (all : List (List Size)) (e : all ≡ sizes_of script) (f : ℕ) where
  pub sizes_there : f < length script → f < length all
  sizes_there l = let n = ap length e in let m = length-map script task_sizes in omega (arith, l, n, m)

  pub own_sizes : (d : Task) (own : List Size) → slice_get script f ≡ Some d → slice_get all f ≡ Some own
      → own ≡ task_sizes d
  own_sizes d own k h = some_is own (task_sizes d) (sym h ∙ ap (λ z. slice_get z f) e ∙ get_map task_sizes script f
      ∙ ap (option_map task_sizes) k)

-- a declaration that is found by its number is one of the script
pub declared_there : {A : Type 0} (xs : List A) (n : ℕ) (x : A) → slice_get xs n ≡ Some x → n < length xs
declared_there [] n x e = absurd (not_none x e) where
  not_none : {A : Type 0} (x : A) → ◌≡◌ {A = Option A} None (Some x) → ⊥
  not_none x e = cc
declared_there (y ∷ xs) zero x e = omega arith
declared_there (y ∷ xs) (suc n) x e = let l = declared_there xs n x e in omega (arith, l)

-- a declaration that is read has as many statements as the task that was found by its number
pub count_is : (r : Decl) (d : Task) (o : Option Task) → o ≡ Some d → o ≡ Some (view.task r)
    → length r.body.stmts.items ≡ length (listed d.body)
count_is r d o e h = sym (length-map r.body.stmts.items view.statement) ∙ ap length (sym (listed_block r.body))
    ∙ ap (λ z. length (listed z.body)) (some_is (view.task r) d (sym h ∙ e))
