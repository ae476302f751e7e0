-- What a task set, and what its variables held at first, at each point of its history.
use Rattle.tj_trace.proofs.LoggedRules.{rules}
use Rattle.tj_trace.proofs.Prelude.{Ask, Assignment, Bool, Entry, List, Logged, Name, None, Option, PlacedState}
use Rattle.tj_trace.proofs.Prelude.{Point, PointStage, Reference, Some, Task, Value, [], after_ask, after_look}
use Rattle.tj_trace.proofs.Prelude.{after_new, after_read, after_stage, after_write, ap, ask_as, logged, logged_then}
use Rattle.tj_trace.proofs.Prelude.{map, point_after, reference, refl, subst, suc, sym, true, false, with_wait, zero}
use Rattle.tj_trace.proofs.Prelude.{ℕ, length, ◌++◌, ◌∙◌, ◌∷◌, ◌≡◌}
use Rattle.std.proofs.Common.{append-nil, drop}
use Rattle.std.proofs.Math.Seq.{drop-length, drop-append_seam}
use Rattle.std.proofs.lemmas.List.{map-append}
use Rattle.tj_body.specs.History.{after_emit, after_failure, after_fork, after_end, next_name, to_promise, to_task}
use Rattle.tj_body.specs.History.{value_at}
use Rattle.tj_body.specs.Inner.AskSteps.{IsAskStep, fails, ends, makes, forks, sets, gets, joins, prints}
use Rattle.tj_body.specs.SeenAs.{point_as}
use Rattle.tj_body.proofs.Histories.AskSteps.{is_ask_step}
use Rattle.tj_eval.specs.Stands.{Stand, placed_asks}
use Rattle.tj_trace.specs.Logs.{set_by, set_here, sets_noted}
use Rattle.tj_trace.specs.MadeAt.{set_before, set_between}
use Rattle.tj_trace.specs.Traces.{set_of}
use Rattle.tj_trace.specs.declared.logged.PlaceSet.{PlaceSet}
use Rattle.tj_trace.proofs.PromisePlaces.{ArePromises, both_promises, same_sets, set_places, still_promises}
use Rattle.tj_base.specs.declared.cell.Sort.TheVariants as sort
use Rattle.tj_base.specs.declared.cause.Cause.TheVariants as cause
use Rattle.tj_body.specs.declared.ask.Answer.TheVariants as answer
use Rattle.tj_body.specs.declared.ask.Ask.TheVariants as ask
use Rattle.tj_body.specs.declared.point.Value.TheVariants as value
use Rattle.tj_body.specs.declared.point.Entry.TheVariants as entry
use Rattle.tj_body.specs.declared.point.PointStage.TheVariants as stage

-- a task without its notes
abbrev pub place : Logged → PlacedState
place x = x.placed

-- what the task has set once it has taken the answer that this stage holds
abbrev pub sets_at : PointStage → Logged → List PlaceSet
sets_at (stage.Answered a) x = sets_noted a x
sets_at (stage.Waits q spare) x = x.sets
sets_at (stage.Closed e) x = x.sets

-- the same at a point
abbrev pub sets_of_point : Point Logged → List PlaceSet
sets_of_point p = sets_at p.stage p.body

-- by the references of the point these are what was set at the other, and what was set between the points
pub record SetsOn (ns : List PlaceSet) (p q : Point Logged) : Type 0 where
  pub sets : map (set_of q.name q.references) (sets_of_point q)
      ≡ map (set_of p.name p.references) ns ++ set_between (point_as place p) (point_as place q)
  pub promises : ArePromises q.name q.references (set_places (sets_of_point q))

-- where nothing was written nothing was set
none_set : (z : PointStage) (s : Stand) (ws : List (Name × Entry)) → set_before z s (drop (length ws) ws) ≡ []
none_set z s ws = ap (set_before z s) (drop-length ws) ∙ nothing z where
  nothing : (z : PointStage) → set_before z s [] ≡ []
  nothing (stage.Answered a) = refl
  nothing (stage.Waits q spare) = refl
  nothing (stage.Closed e) = refl

-- a step that sets nothing
nothing_set : (ns : List PlaceSet) (p q : Point Logged) (more : List Reference)
    → ArePromises p.name p.references (set_places ns) → q.name ≡ p.name → q.references ≡ p.references ++ more
    → sets_of_point q ≡ ns → set_between (point_as place p) (point_as place q) ≡ [] → SetsOn ns p q
nothing_set ns p q more g en er es eb = record {
  sets = ap (λ x. map (set_of x q.references) (sets_of_point q)) en
      ∙ ap (λ rs. map (set_of p.name rs) (sets_of_point q)) er
      ∙ ap (map (set_of p.name (p.references ++ more))) es
      ∙ same_sets p.name p.references more ns g
      ∙ sym (append-nil (map (set_of p.name p.references) ns))
      ∙ ap (λ l. map (set_of p.name p.references) ns ++ l) (sym eb);
  promises = subst (λ l. ArePromises q.name q.references (set_places l)) (sym es)
      (subst (λ x. ArePromises x q.references (set_places ns)) (sym en)
      (subst (λ rs. ArePromises p.name rs (set_places ns)) (sym er)
      (still_promises p.name p.references more (set_places ns) g)));
}

-- the same where no reference came to it
same_set : (ns : List PlaceSet) (p q : Point Logged)
    → ArePromises p.name p.references (set_places ns) → q.name ≡ p.name → q.references ≡ p.references
    → sets_of_point q ≡ ns → set_between (point_as place p) (point_as place q) ≡ [] → SetsOn ns p q
same_set ns p q g en er es eb = nothing_set ns p q [] g en (er ∙ sym (append-nil p.references)) es eb

-- a step that sets the promise of this place
one_set : (p : Point Logged) (k : ℕ) (v : Value) → p.body.set_due ≡ Some k
    → (reference p k).sort ≡ sort.Promise → ArePromises p.name p.references (set_places p.body.sets)
    → SetsOn p.body.sets p (after_write (reference p k).name v p)
one_set p k v e s g =
    let here : PlaceSet = record { place = k; at = p.body.placed.stand.at } in record {
      sets = ap (λ o. map (set_of p.name p.references) (p.body.sets ++ set_here o p.body.placed.stand)) e
          ∙ map-append (set_of p.name p.references) p.body.sets (here ∷ [])
          ∙ ap (λ (l : List (Name × Entry)). map (set_of p.name p.references) p.body.sets
          ++ set_before (stage.Answered answer.Done) p.body.placed.stand l)
          (sym (drop-append_seam p.writes (((reference p k).name, entry.Value v) ∷ [])));
      promises = subst
          (λ o. ArePromises p.name p.references (set_places (p.body.sets ++ set_here o p.body.placed.stand))) (sym e)
          (subst (ArePromises p.name p.references)
          (sym (map-append (λ (n : PlaceSet). n.place) p.body.sets (here ∷ [])))
          (both_promises p.name p.references (set_places p.body.sets) (k ∷ []) g (s, tt)));
    }

-- what was asked is what is noted as set
ask_sets : (strict : Bool) (p : Point Logged) (a : Ask Logged) (q : Point Logged) → IsAskStep strict p a q
    → p.body.set_due ≡ set_by a → ArePromises p.name p.references (set_places p.body.sets)
    → SetsOn p.body.sets p q
ask_sets strict p _ _ (fails a c) e g = same_set p.body.sets p (after_failure c p) g refl refl refl refl
ask_sets strict p _ _ (ends v) e g =
    same_set p.body.sets p (after_end (value_at p.name p.references v) p) g refl refl refl refl
ask_sets strict p _ _ makes e g =
    nothing_set p.body.sets p (after_new p) (to_promise (next_name p) ∷ []) g refl refl refl
    (none_set (after_new p).stage p.body.placed.stand p.writes)
ask_sets strict p _ _ (forks b pass hand left o) e g =
    let q = after_fork b (map (reference p) pass) (map (λ k. (reference p k).name) hand) left p in
    nothing_set p.body.sets p q (to_task (next_name p) ∷ []) g refl refl refl
    (none_set q.stage p.body.placed.stand p.writes)
ask_sets strict p _ _ (sets k v s o) e g = one_set p k (value_at p.name p.references v) e s g
ask_sets strict p _ _ (gets spare k s) e g =
    same_set p.body.sets p (with_wait spare (reference p k).name p) g refl refl refl
    (none_set (stage.Waits (reference p k).name spare) p.body.placed.stand p.writes)
ask_sets strict p _ _ (joins spare k s o) e g =
    same_set p.body.sets p (with_wait spare (reference p k).name p) g refl refl refl
    (none_set (stage.Waits (reference p k).name spare) p.body.placed.stand p.writes)
ask_sets strict p _ _ (prints i) e g =
    same_set p.body.sets p (after_emit i p) g refl refl
    (ap (λ o. p.body.sets ++ set_here o p.body.placed.stand) e ∙ append-nil p.body.sets)
    (none_set (stage.Answered answer.Done) p.body.placed.stand p.writes)

-- a read sets nothing
read_sets : (spare : Bool) (x : Name) (y : Entry) (p : Point Logged)
    → ArePromises p.name p.references (set_places p.body.sets) → SetsOn p.body.sets p (after_read spare x y p)
read_sets true x entry.Broken p g =
    same_set p.body.sets p (after_read true x entry.Broken p) g refl refl refl
    (none_set (stage.Answered answer.Lost) p.body.placed.stand p.writes)
read_sets false x entry.Broken p g =
    same_set p.body.sets p (after_read false x entry.Broken p) g refl refl refl refl
read_sets spare x (entry.Value (value.Num i)) p g =
    same_set p.body.sets p (after_read spare x (entry.Value (value.Num i)) p) g refl refl refl
    (none_set (stage.Answered (answer.Num i)) p.body.placed.stand p.writes)
read_sets spare x (entry.Value (value.Ref r)) p g =
    nothing_set p.body.sets p (after_read spare x (entry.Value (value.Ref r)) p) (r ∷ []) g refl refl refl
    (none_set (stage.Answered (answer.RefAt (length p.references))) p.body.placed.stand p.writes)

look_sets : (spare : Bool) (x : Name) (o : Option Entry) (p : Point Logged) → sets_of_point p ≡ p.body.sets
    → ArePromises p.name p.references (set_places (sets_of_point p))
    → SetsOn (sets_of_point p) p (after_look spare x o p)
look_sets spare x None p e g =
    same_set (sets_of_point p) p p g refl refl refl (none_set p.stage p.body.placed.stand p.writes)
look_sets spare x (Some y) p e g = subst (λ ns. SetsOn ns p (after_read spare x y p)) (sym e)
    (read_sets spare x y p (subst (λ ns. ArePromises p.name p.references (set_places ns)) e g))

-- an ask of a task with its notes sets what the ask without them sets
set_alike : (a : Ask PlacedState) → set_by a ≡ set_by (ask_as logged a)
set_alike ask.New = refl
set_alike a = refl

module _ (strict : Bool) where
  -- each step
  pub step_sets : (V : Assignment) (s : PointStage) (p : Point Logged) → p.stage ≡ s
      → ArePromises p.name p.references (set_places (sets_of_point p))
      → SetsOn (sets_of_point p) p (after_stage (rules strict) V s p)
  step_sets V (stage.Answered a) p e g =
      let q = record p { body = logged_then p.body a } in
      let b = ask_as logged (placed_asks p.body.placed a) in
      let r = after_ask strict b q in
      subst (λ s. SetsOn (sets_at s p.body) p r) (sym e)
      (on (ask_sets strict q b r (is_ask_step strict q b) (set_alike (placed_asks p.body.placed a))
      (subst (λ s. ArePromises p.name p.references (set_places (sets_at s p.body))) e g))) where
        on : (let q = record p { body = logged_then p.body a } in
            let r = after_ask strict (ask_as logged (placed_asks p.body.placed a)) q in
            SetsOn (sets_noted a p.body) q r → SetsOn (sets_noted a p.body) p r)
        on h = record { sets = h.sets; promises = h.promises }
  step_sets V (stage.Waits x spare) p e g = look_sets spare x (V x) p (ap (λ s. sets_at s p.body) e) g
  step_sets V (stage.Closed c) p e g =
      same_set (sets_of_point p) p p g refl refl refl (none_set p.stage p.body.placed.stand p.writes)

-- what its variables held at first a task keeps
asked_began : (strict : Bool) (p : Point Logged) (a : Ask Logged) (q : Point Logged) → IsAskStep strict p a q
    → q.body.began ≡ p.body.began
asked_began strict p _ _ (fails a c) = refl
asked_began strict p _ _ (ends v) = refl
asked_began strict p _ _ makes = refl
asked_began strict p _ _ (forks b pass hand left o) = refl
asked_began strict p _ _ (sets k v s o) = refl
asked_began strict p _ _ (gets spare k s) = refl
asked_began strict p _ _ (joins spare k s o) = refl
asked_began strict p _ _ (prints i) = refl

read_began : (spare : Bool) (x : Name) (o : Option Entry) (p : Point Logged)
    → (after_look spare x o p).body.began ≡ p.body.began
read_began spare x None p = refl
read_began true x (Some entry.Broken) p = refl
read_began false x (Some entry.Broken) p = refl
read_began spare x (Some (entry.Value (value.Num i))) p = refl
read_began spare x (Some (entry.Value (value.Ref r))) p = refl

step_began : (strict : Bool) (V : Assignment) (s : PointStage) (p : Point Logged)
    → (after_stage (rules strict) V s p).body.began ≡ p.body.began
step_began strict V (stage.Answered a) p =
    let q = record p { body = logged_then p.body a } in
    let b = ask_as logged (placed_asks p.body.placed a) in
    asked_began strict q b (after_ask strict b q) (is_ask_step strict q b)
step_began strict V (stage.Waits x spare) p = read_began spare x (V x) p
step_began strict V (stage.Closed c) p = refl

pub began_there : (strict : Bool) (V : Assignment) (t : Task Logged) (k : ℕ)
    → (point_after (rules strict) V k t).body.began ≡ t.body.began
began_there strict V t zero = refl
began_there strict V t (suc k) =
    let p = point_after (rules strict) V k t in step_began strict V p.stage p ∙ began_there strict V t k
