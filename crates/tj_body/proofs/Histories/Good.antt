-- From each point of a proper task its body can go on: what it is given is what it awaits, it has as many places as
-- its task has references, and there is room for those to come.
use Rattle.std.proofs.Common.{◌≡◌, ℕ, zero, suc, ◌+◌, ◌*◌, ◌≤◌, Bool, true, false, ◌⊎◌, inl, inr, ⊎_elim}
use Rattle.std.proofs.Common.{List, [], ◌∷◌, ◌++◌, map, Option, Some, None, length, refl, sym}
use Rattle.std.proofs.Common.{◌∙◌, subst, arith, length-append}
use Rattle.std.proofs.lemmas.List.{length-map}
use Rattle.tj_base.specs.ForkOrder.{Name}
use Rattle.tj_base.specs.declared.cause.Cause.TheVariants as cause
use Rattle.tj_body.specs.Asks.{Await, place, done, cell, cell_or, Fits, awaited, Ends, most_passed, IsFresh, IsPlaced}
use Rattle.tj_body.specs.Programs.{Rules, Program, AreLawful, root_task}
use Rattle.tj_body.specs.History.{Assignment, to_task, to_promise, next_name, reference, after_close}
use Rattle.tj_body.specs.History.{with_wait, next_child}
use Rattle.tj_body.specs.History.{after_read, after_look, after_stage, point_after, history}
use Rattle.tj_body.specs.Rounds.{family, given, tasks}
use Rattle.tj_body.specs.Points.{IsIn, cell_if, most_places, IsProper, MayAnswer, MayWait, IsGoodAt, IsGood}
use Rattle.tj_body.specs.Inner.AskSteps.{get_of, join_of, IsAskStep, fails, ends, makes, forks, sets, gets, joins, prints}
use Rattle.tj_body.specs.declared.ask.Answer.{Answer}
use Rattle.tj_body.specs.declared.ask.Answer.TheVariants as answer
use Rattle.tj_body.specs.declared.ask.Ask.{Ask}
use Rattle.tj_body.specs.declared.point.Reference.{Reference}
use Rattle.tj_body.specs.declared.point.Value.TheVariants as value
use Rattle.tj_body.specs.declared.point.Entry.{Entry}
use Rattle.tj_body.specs.declared.point.Entry.TheVariants as entry
use Rattle.tj_body.specs.declared.point.Close.{Close}
use Rattle.tj_body.specs.declared.point.Close.TheVariants as close
use Rattle.tj_body.specs.declared.point.PointStage.{PointStage}
use Rattle.tj_body.specs.declared.point.PointStage.TheVariants as stage
use Rattle.tj_body.specs.declared.point.Task.{Task}
use Rattle.tj_body.specs.declared.point.Point.{Point}
use Rattle.tj_body.proofs.Histories.AskSteps.{is_ask_step}
use Rattle.tj_body.proofs.Lists.{in_either, from_flat_map}

-- what no ask but a last one has
pub not_last : {A : Type 0} → ⊥ ⊎ A → A
not_last h = ⊎_elim (λ x. absurd x) (λ x. x) h

-- what is awaited after a get and a join, which are no last asks
get_awaits : (B : Type 0) (spare : Bool) (k : ℕ) → awaited (get_of {B = B} spare k) ≡ cell_if spare
get_awaits B true k = refl
get_awaits B false k = refl

join_awaits : (B : Type 0) (spare : Bool) (k : ℕ) → awaited (join_of {B = B} spare k) ≡ cell_if spare
join_awaits B true k = refl
join_awaits B false k = refl

pub get_goes_on : (B : Type 0) {A : Type 0} (spare : Bool) (k : ℕ) → Ends (get_of {B = B} spare k) ⊎ A → A
get_goes_on B true k h = not_last h
get_goes_on B false k h = not_last h

pub join_goes_on : (B : Type 0) {A : Type 0} (spare : Bool) (k : ℕ) → Ends (join_of {B = B} spare k) ⊎ A → A
join_goes_on B true k h = not_last h
join_goes_on B false k h = not_last h

-- there is room for one place more, and for as many as the body still has asks
abbrev pub HasRoom : ℕ → ℕ → Type 0
HasRoom places_now left_now = places_now + left_now + 1 ≤ most_places

module _ {B : Type 0} (rules : Rules B) where
  abbrev Good : Point B → Type 0
  Good p = IsGood rules p

  -- the parts of a good point that have nothing to do with its stage
  abbrev Kept : Point B → Type 0
  Kept p = ((c : Task B) → IsIn c p.children → IsProper rules c) × (suc p.made ≤ length p.references)

  -- the body has asked, and awaits an answer of this sort
  abbrev Asked : Await → Point B → Type 0
  Asked w p = (rules.awaits p.body ≡ w) × (rules.places p.body ≡ length p.references)
      × HasRoom (length p.references) (rules.left p.body) × Kept p

  closes : (e : Close) (r : Entry) (p : Point B) → Kept p → Good (after_close e r p)
  closes e r p k = record { at_stage = tt; children = k.0; made = k.1 }

  waits : (spare : Bool) (c : Name) (p : Point B) → Asked (cell_if spare) p → Good (with_wait spare c p)
  waits spare c p o =
      record { at_stage = record { awaits_cell = o.0; all_places = o.1; room = o.2 }; children = o.3.0; made = o.3.1 }

  fits_done : (b : B) → rules.awaits b ≡ done → Fits (rules.awaits b) (rules.places b) answer.Done
  fits_done b e = subst (λ w. Fits w (rules.places b) answer.Done) (sym e) tt

  fits_local : (b : B) (n : ℕ) → rules.awaits b ≡ place → rules.places b ≡ n
      → Fits (rules.awaits b) (rules.places b) (answer.Local n)
  fits_local b n e d = subst (λ w. Fits w (rules.places b) (answer.Local n)) (sym e) (sym d)

  one_more : (l : List Reference) (r : Reference) → length (l ++ r ∷ []) ≡ suc (length l)
  one_more l r = let a = length-append l (r ∷ []) in omega arith

  -- an ask keeps it
  ask_steps : (strict : Bool) (p : Point B) (a : Ask B) (p' : Point B) → IsAskStep strict p a p'
      → IsPlaced rules.places rules.awaits rules.left (rules.places p.body) a → rules.awaits p.body ≡ awaited a
      → rules.places p.body ≡ length p.references → Ends a ⊎ HasRoom (length p.references) (rules.left p.body)
      → Kept p → Good p'
  ask_steps strict p _ _ (fails a c) f w n r k = closes (close.Failed c) entry.Broken p k
  ask_steps strict p _ _ (ends v) f w n r k = closes _ _ p k
  ask_steps strict p _ _ makes f w n r k =
      let h = not_last r in
      let m = k.1 in
      let l = one_more p.references (to_promise (next_name p)) in
      record {
        at_stage = record { fits = fits_local p.body _ w n; all_places = omega arith; room = omega arith };
        children = k.0;
        made = omega arith;
      }
  ask_steps strict p _ _ (forks b pass hand left e) f w n r k =
      let h = not_last r in
      let m = k.1 in
      let l = one_more p.references (to_task (next_name p)) in
      record {
        at_stage = record { fits = fits_local p.body _ w n; all_places = omega arith; room = omega arith };
        children = λ c i. ⊎_elim (λ j. k.0 c j) (λ j. newest c j) (in_either c p.children _ i);
        made = omega arith;
      } where
        child : Task B
        child = next_child b (map (reference p) pass) (map (λ k. (reference p k).name) hand) p

        proper : IsProper rules child
        proper =
            let m = length-map pass (reference p) in record {
              fresh = subst (λ n. IsFresh rules.places rules.awaits rules.left (suc n) b) (sym m) f.fresh;
              few = subst (λ n. n ≤ most_passed) (sym m) f.few;
            }

        newest : (c : Task B) → IsIn c (child ∷ []) → IsProper rules c
        newest c (inl e) = subst (IsProper rules) (sym e) proper
        newest c (inr j) = absurd j
  ask_steps strict p _ _ (sets i v s o) f w n r k =
      let h = not_last r in
      record {
        at_stage = record { fits = fits_done p.body w; all_places = omega arith; room = omega arith };
        children = k.0;
        made = k.1;
      }
  ask_steps strict p _ _ (gets spare i s) f w n r k =
      waits spare (reference p i).name p (w ∙ get_awaits B spare i, n, get_goes_on B spare i r, k)
  ask_steps strict p _ _ (joins spare i s o) f w n r k =
      waits spare (reference p i).name p (w ∙ join_awaits B spare i, n, join_goes_on B spare i r, k)
  ask_steps strict p _ _ (prints i) f w n r k =
      let h = not_last r in
      record {
        at_stage = record { fits = fits_done p.body w; all_places = omega arith; room = omega arith };
        children = k.0;
        made = k.1;
      }

  -- the answer of a cell is one that is awaited, whether a broken cell is answered or not
  fits_cell : (spare : Bool) (b : B) (a : Answer) → rules.awaits b ≡ cell_if spare → Fits cell (rules.places b) a
      → Fits cell_or (rules.places b) a → Fits (rules.awaits b) (rules.places b) a
  fits_cell true b a g f h = subst (λ w. Fits w (rules.places b) a) (sym g) h
  fits_cell false b a g f h = subst (λ w. Fits w (rules.places b) a) (sym g) f

  reads : (spare : Bool) (c : Name) (x : Entry) (p : Point B) → Asked (cell_if spare) p → Good (after_read spare c x p)
  reads true c entry.Broken p o =
      let e = o.1 in let r = o.2 in
      record {
        at_stage = record {
          fits = subst (λ w. Fits w (rules.places p.body) answer.Lost) (sym o.0) tt;
          all_places = omega arith;
          room = omega arith;
        };
        children = o.3.0;
        made = o.3.1;
      }
  reads false c entry.Broken p o = closes (close.Failed (cause.Broken c)) entry.Broken p o.3
  reads spare c (entry.Value (value.Num i)) p o =
      let e = o.1 in let r = o.2 in
      record {
        at_stage = record {
          fits = fits_cell spare p.body (answer.Num i) o.0 tt tt;
          all_places = omega arith;
          room = omega arith;
        };
        children = o.3.0;
        made = o.3.1;
      }
  reads spare c (entry.Value (value.Ref v)) p o =
      let e = o.1 in let r = o.2 in let m = o.3.1 in
      let n = one_more p.references v in
      record {
        at_stage = record {
          fits = fits_cell spare p.body (answer.RefAt (length p.references)) o.0 (sym e) (sym e);
          all_places = omega arith;
          room = omega arith;
        };
        children = o.3.0;
        made = omega arith;
      }

  module _ (obeys : AreLawful rules) where
    looks : (spare : Bool) (c : Name) (o : Option Entry) (p : Point B) → p.stage ≡ stage.Waits c spare → Good p
        → Good (after_look spare c o p)
    looks spare c None p e g = g
    looks spare c (Some x) p e g =
        let h : MayWait rules spare p =
        subst (λ z. IsGoodAt rules z p) e g.at_stage in
        reads spare c x p (h.awaits_cell, h.all_places, h.room, (g.children, g.made))

    -- a step keeps it
    pub goes : (V : Assignment) (st : PointStage) (p : Point B) → p.stage ≡ st → Good p
        → Good (after_stage rules V st p)
    goes V (stage.Answered a) p e g =
        let h : MayAnswer rules a p =
        subst (λ z. IsGoodAt rules z p) e g.at_stage in
        let o = obeys p.body a h.fits in
        let r = h.room in
        let ask = rules.asks p.body a in
        let next : Point B = record p { body = rules.then p.body a } in
        ask_steps rules.strict next ask _ (is_ask_step rules.strict next ask) o.placed o.awaits_answer
        (o.adds_places ∙ h.all_places) (⊎_elim (λ x. inl x) (λ l. inr (omega arith)) o.falls) (g.children, g.made)
    goes V (stage.Waits c spare) p e g = looks spare c (V c) p e g
    goes V (stage.Closed x) p e g = g

    -- every point of a proper task is good
    pub good : (V : Assignment) (t : Task B) → IsProper rules t → (k : ℕ)
        → Good (point_after rules V k t)
    good V t h zero =
        let n = h.fresh.has_places in let l = h.fresh.ends in let m = h.few in
        record {
          at_stage = record {
            fits = subst (λ w. Fits w (rules.places t.body) answer.Start) (sym h.fresh.begins) tt;
            all_places = omega arith;
            room = omega arith;
          };
          children = λ c i. absurd i;
          made = omega arith;
        }
    good V t h (suc k) = let p = point_after rules V k t in goes V p.stage p refl (good V t h k)

    -- every task of a family is proper
    pub family_proper : (V : Assignment) (d : ℕ) (t : Task B) → IsProper rules t → (c : Task B)
        → IsIn c (family rules V d t) → IsProper rules c
    family_proper V zero t h c (inl e) = subst (IsProper rules) (sym e) h
    family_proper V zero t h c (inr i) = absurd i
    family_proper V (suc d) t h c (inl e) = subst (IsProper rules) (sym e) h
    family_proper V (suc d) t h c (inr i) =
        let f = from_flat_map (family rules V d) c (history rules V t).children i in
        let g = good V t h (2 * suc (rules.left t.body)) in
        family_proper V d f.0 (g.children f.0 f.1) c f.2

-- every task of a round is proper
pub task_proper : {B : Type 0} (program : Program B) → AreLawful program.rules
    → IsProper program.rules (root_task program.root) → (n : ℕ) (c : Task B) → IsIn c (tasks program n)
    → IsProper program.rules c
task_proper program obeys h zero c i = absurd i
task_proper program obeys h (suc n) c i =
    family_proper program.rules obeys (given program n) (suc n) (root_task program.root) h c i
