-- What a task handed on is what its notes tell, at each point of its history.
use Rattle.tj_trace.proofs.LoggedRules.{rules}
use Rattle.tj_trace.proofs.Prelude.{Ask, Assignment, Bool, Ending, Entry, IsIn, List, Logged, Name, None, Option}
use Rattle.tj_trace.proofs.Prelude.{PlacedState, Point, PointStage, Reference, Some, Sort, Task, TraceLine, []}
use Rattle.tj_trace.proofs.Prelude.{after_ask, after_look, after_new, after_read, after_stage, ap, ask_as, child}
use Rattle.tj_trace.proofs.Prelude.{ending_of, given, hand_all, history, last_round, logged, logged_left}
use Rattle.tj_trace.proofs.Prelude.{logged_program, logged_then, made_by, maker_here, map, Ok, point_after, reference}
use Rattle.tj_trace.proofs.Prelude.{refl, root_task, subst, suc, sym, tasks, true, false, zero, ℕ, length}
use Rattle.tj_trace.proofs.Prelude.{length-append, arith, ◌*◌, ◌++◌, ◌+◌, ◌∙◌, ◌∷◌, ◌≡◌}
use Rattle.std.proofs.Common.{append-nil}
use Rattle.std.proofs.lemmas.List.{map-append}
use Rattle.std.proofs.lemmas.Grind.{flat_map-append}
use Rattle.std.specs.List.{flat_map}
use Rattle.tj_body.specs.History.{after_fork, next_child, reference_at, to_task, next_name}
use Rattle.tj_body.specs.Inner.AskSteps.{IsAskStep, fails, ends, makes, forks, sets, gets, joins, prints}
use Rattle.tj_body.proofs.Histories.AskSteps.{is_ask_step}
use Rattle.tj_body.proofs.Lists.{in_map}
use Rattle.tj_eval.specs.Stands.{placed_asks}
use Rattle.tj_trace.specs.HandLaws.{HandsAreWhole, handed_to, told_hands}
use Rattle.tj_trace.specs.Logs.{hand_here, handed_by, hands_noted}
use Rattle.tj_trace.specs.Traces.{hand_of}
use Rattle.tj_trace.specs.declared.line.HandNote.{HandNote}
use Rattle.tj_trace.specs.declared.logged.PlaceHand.{PlaceHand}
use Rattle.tj_trace.proofs.HasLines.{line_is}
use Rattle.tj_trace.proofs.Noted.{IsLogged, family_fresh, notes_at}
use Rattle.tj_trace.proofs.PromisePlaces.{ArePromises, both_promises, hand_places, handed_promises, same_hands}
use Rattle.tj_trace.proofs.PromisePlaces.{same_reference, still_promises}
use Rattle.tj_base.specs.declared.cell.Sort.TheVariants as sort
use Rattle.tj_body.specs.declared.ask.Ask.TheVariants as ask
use Rattle.tj_body.specs.declared.point.Value.TheVariants as value
use Rattle.tj_body.specs.declared.point.Entry.TheVariants as entry
use Rattle.tj_body.specs.declared.point.PointStage.TheVariants as stage

-- what the task has handed on once it has taken the answer that this stage holds
abbrev pub hands_at : PointStage → Logged → List PlaceHand
hands_at (stage.Answered a) x = hands_noted a x
hands_at (stage.Waits q spare) x = x.hands
hands_at (stage.Closed e) x = x.hands

-- the notes of a task with this name and these references tell this
abbrev Told : Name → List Reference → List PlaceHand → List (Name × Name)
Told x rs ns = told_hands x (map (hand_of x rs) ns)

-- of these notes, of which the makers are these, so much is so
pub record AreHanded (p : Point Logged) (n : ℕ) (ns : List PlaceHand) : Type 0 where
  count : n ≡ p.made
  promises : ArePromises p.name p.references (hand_places ns)
  hands : Told p.name p.references ns ≡ flat_map handed_to p.children

-- what a task handed on until it came to a point is what it notes
abbrev IsHanded : Point Logged → Type 0
IsHanded p = AreHanded p (length (notes_at p.stage p.body)) (hands_at p.stage p.body)

-- the same of a task that has taken its answer
abbrev IsTaken : Point Logged → Type 0
IsTaken p = AreHanded p (length p.body.makers) p.body.hands

-- with more references they tell the same
more_hands : (x : Name) (rs more : List Reference) (ns : List PlaceHand) → ArePromises x rs (hand_places ns)
    → Told x (rs ++ more) ns ≡ Told x rs ns
more_hands x rs more ns h = ap (told_hands x) (same_hands x rs more ns h)

-- what is handed to the thing with this number
handed_here : (x : Name) (rs more : List Reference) (n : ℕ) (ks : List ℕ) → ArePromises x rs ks
    → Told x (rs ++ more) (map (hand_here n) ks)
    ≡ map (λ q. (child x n, q)) (map (λ k. (reference_at x rs k).name) ks)
handed_here x rs more n [] h = refl
handed_here x rs more n (k ∷ ks) h =
    ap (λ (r : Reference). (child x n, r.name) ∷ Told x (rs ++ more) (map (hand_here n) ks))
    (same_reference x rs more k h.0)
    ∙ ap (λ l. (child x n, (reference_at x rs k).name) ∷ l) (handed_here x rs more n ks h.1)

-- the places of what is handed
places_here : (n : ℕ) (ks : List ℕ) → hand_places (map (hand_here n) ks) ≡ ks
places_here n [] = refl
places_here n (k ∷ ks) = ap (λ l. k ∷ l) (places_here n ks)

-- what these and those notes tell
told_both : (x : Name) (rs : List Reference) (ns ms : List PlaceHand)
    → Told x rs (ns ++ ms) ≡ Told x rs ns ++ Told x rs ms
told_both x rs ns ms = ap (told_hands x) (map-append (hand_of x rs) ns ms)
    ∙ map-append (λ (n : HandNote). (child x n.thing, n.promise)) (map (hand_of x rs) ns) (map (hand_of x rs) ms)

-- one note more
one_more : (ms : List _) (d : Sort) (p : Point Logged) → length ms ≡ p.made
    → length (ms ++ maker_here (Some d) p.body.placed.stand) ≡ suc p.made
one_more ms d p e =
    let l = length-append ms (maker_here (Some d) p.body.placed.stand) in off (length ms) p.made e l where
      off : (n k : ℕ) {j : ℕ} → n ≡ k → j ≡ n + 1 → j ≡ suc k
      off n k e l = omega (arith, e, l)

-- a promise is made
new_handed : (p : Point Logged) → p.body.due ≡ Some sort.Promise → p.body.hand_due ≡ [] → IsTaken p
    → IsHanded (after_new p)
new_handed p d e h = record {
  count = ap (λ o. length (p.body.makers ++ maker_here o p.body.placed.stand)) d
      ∙ one_more p.body.makers sort.Promise p h.count;
  promises = subst (λ l. ArePromises p.name (after_new p).references (hand_places l)) (sym none)
      (still_promises p.name p.references _ (hand_places p.body.hands) h.promises);
  hands = ap (Told p.name (after_new p).references) none
      ∙ more_hands p.name p.references _ p.body.hands h.promises ∙ h.hands;
} where
  none : p.body.hands ++ map (hand_here (suc (length p.body.makers))) p.body.hand_due ≡ p.body.hands
  none = ap (λ l. p.body.hands ++ map (hand_here (suc (length p.body.makers))) l) e ∙ append-nil p.body.hands

-- a task is forked
fork_handed : (p : Point Logged) (b : Logged) (pass hand : List ℕ) (left : List Name)
    → hand_all p.holds (map (reference p) hand) ≡ Ok left → p.body.due ≡ Some sort.Task → p.body.hand_due ≡ hand
    → IsTaken p
    → IsHanded (after_fork b (map (reference p) pass) (map (λ k. (reference p k).name) hand) left p)
fork_handed p b pass hand left o d e h =
    let q = after_fork b (map (reference p) pass) (map (λ k. (reference p k).name) hand) left p in
    let rs = q.references in record {
      count = ap (λ o. length (p.body.makers ++ maker_here o p.body.placed.stand)) d
          ∙ one_more p.body.makers sort.Task p h.count;
      promises = subst (λ l. ArePromises p.name rs (hand_places l)) (sym now)
          (subst (ArePromises p.name rs) (sym (map-append (λ (n : PlaceHand). n.place) p.body.hands
          (map (hand_here (suc p.made)) hand)))
          (both_promises p.name rs (hand_places p.body.hands) (hand_places (map (hand_here (suc p.made)) hand))
          (still_promises p.name p.references _ (hand_places p.body.hands) h.promises)
          (subst (ArePromises p.name rs) (sym (places_here (suc p.made) hand))
          (still_promises p.name p.references _ hand given))));
      hands = ap (Told p.name rs) now
          ∙ told_both p.name rs p.body.hands (map (hand_here (suc p.made)) hand)
          ∙ ap (λ l. l ++ Told p.name rs (map (hand_here (suc p.made)) hand))
          (more_hands p.name p.references _ p.body.hands h.promises ∙ h.hands)
          ∙ ap (λ l. flat_map handed_to p.children ++ l)
          (handed_here p.name p.references _ (suc p.made) hand given
          ∙ sym (append-nil (map (λ q. (next_name p, q)) (map (λ k. (reference p k).name) hand))))
          ∙ sym (flat_map-append handed_to p.children
          (next_child b (map (reference p) pass) (map (λ k. (reference p k).name) hand) p ∷ []));
    } where
      given : ArePromises p.name p.references hand
      given = handed_promises p.name p.references p.holds left hand o

      now : p.body.hands ++ map (hand_here (suc (length p.body.makers))) p.body.hand_due
          ≡ p.body.hands ++ map (hand_here (suc p.made)) hand
      now = ap (λ l. p.body.hands ++ map (hand_here (suc (length p.body.makers))) l) e
          ∙ ap (λ n. p.body.hands ++ map (hand_here (suc n)) hand) h.count

-- what was asked is what is noted as handed on
ask_handed : (strict : Bool) (p : Point Logged) (a : Ask Logged) (q : Point Logged) → IsAskStep strict p a q
    → p.body.due ≡ made_by a → p.body.hand_due ≡ handed_by a → IsTaken p → IsHanded q
ask_handed strict p _ _ (fails a c) d e h = record { count = h.count; promises = h.promises; hands = h.hands }
ask_handed strict p _ _ (ends v) d e h = record { count = h.count; promises = h.promises; hands = h.hands }
ask_handed strict p _ _ makes d e h = new_handed p d e h
ask_handed strict p _ _ (forks b pass hand left o) d e h = fork_handed p b pass hand left o d e h
ask_handed strict p _ _ (sets k v s o) d e h = record { count = h.count; promises = h.promises; hands = h.hands }
ask_handed strict p _ _ (gets spare k s) d e h = record { count = h.count; promises = h.promises; hands = h.hands }
ask_handed strict p _ _ (joins spare k s o) d e h = record { count = h.count; promises = h.promises; hands = h.hands }
ask_handed strict p _ _ (prints i) d e h = record { count = h.count; promises = h.promises; hands = h.hands }

-- what comes to a task by a wait, it didn't hand on
read_handed : (spare : Bool) (x : Name) (y : Entry) (p : Point Logged) → IsTaken p → IsHanded (after_read spare x y p)
read_handed true x entry.Broken p h = record { count = h.count; promises = h.promises; hands = h.hands }
read_handed false x entry.Broken p h = record { count = h.count; promises = h.promises; hands = h.hands }
read_handed spare x (entry.Value (value.Num i)) p h =
    record { count = h.count; promises = h.promises; hands = h.hands }
read_handed spare x (entry.Value (value.Ref r)) p h = record {
  count = h.count;
  promises = still_promises p.name p.references (r ∷ []) (hand_places p.body.hands) h.promises;
  hands = more_hands p.name p.references (r ∷ []) p.body.hands h.promises ∙ h.hands;
}

look_handed : (spare : Bool) (x : Name) (o : Option Entry) (p : Point Logged) → p.stage ≡ stage.Waits x spare
    → IsHanded p → IsHanded (after_look spare x o p)
look_handed spare x None p e h = h
look_handed spare x (Some y) p e h = read_handed spare x y p
    (subst (λ s. AreHanded p (length (notes_at s p.body)) (hands_at s p.body)) e h)

-- an ask of a task with its notes hands on what the ask without them hands on
made_alike : (a : Ask PlacedState) → made_by a ≡ made_by (ask_as logged a)
made_alike ask.New = refl
made_alike a = refl

handed_alike : (a : Ask PlacedState) → handed_by a ≡ handed_by (ask_as logged a)
handed_alike ask.New = refl
handed_alike a = refl

module _ (strict : Bool) where
  -- each step
  step_handed : (V : Assignment) (s : PointStage) (p : Point Logged) → p.stage ≡ s → IsHanded p
      → IsHanded (after_stage (rules strict) V s p)
  step_handed V (stage.Answered a) p e h =
      let q = record p { body = logged_then p.body a } in
      let b = ask_as logged (placed_asks p.body.placed a) in
      let k : AreHanded p (length (notes_at (stage.Answered a) p.body)) (hands_at (stage.Answered a) p.body) =
      subst (λ s. AreHanded p (length (notes_at s p.body)) (hands_at s p.body)) e h in
      ask_handed strict q b (after_ask strict b q) (is_ask_step strict q b) (made_alike (placed_asks p.body.placed a))
      (handed_alike (placed_asks p.body.placed a))
      (record { count = k.count; promises = k.promises; hands = k.hands })
  step_handed V (stage.Waits x spare) p e h = look_handed spare x (V x) p e h
  step_handed V (stage.Closed c) p e h = h

  point_handed : (V : Assignment) (t : Task Logged) → IsLogged t → (k : ℕ) → IsHanded (point_after (rules strict) V k t)
  point_handed V t e zero = record {
    count = ap (λ (x : Logged). length x.makers) e;
    promises = subst (λ (x : Logged). ArePromises t.name (to_task t.name ∷ t.passed) (hand_places x.hands)) (sym e) tt;
    hands = ap (λ (x : Logged). Told t.name (to_task t.name ∷ t.passed) x.hands) e;
  }
  point_handed V t e (suc k) =
      let p = point_after (rules strict) V k t in step_handed V p.stage p refl (point_handed V t e k)

-- the hands of a task that has stopped
hands_of_ended : (z : PointStage) (e : Ending) (x : Logged) → ending_of z ≡ Some e → hands_at z x ≡ x.hands
hands_of_ended (stage.Answered a) e x h = absurd (cc)
hands_of_ended z e x h = refl

-- the law
pub hands_are_whole : (strict : Bool) (root : PlacedState) → HandsAreWhole strict root
hands_are_whole strict root N p l i e =
    let program = logged_program strict root in
    let V = given program (last_round N) in
    let t = in_map (history (rules strict) V) p (tasks program (last_round N)) i in
    let h : IsHanded p = subst IsHanded (sym t.2) (point_handed strict V t.0 (fresh (last_round N) t.0 t.1)
    (2 * suc (logged_left t.0.body))) in
    let k = line_is p l e in
    subst (λ (z : TraceLine). told_hands z.line.name z.hands ≡ flat_map handed_to p.children) k.2
    (ap (Told p.name p.references) (sym (hands_of_ended p.stage k.0 p.body k.1)) ∙ h.hands) where
      fresh : (n : ℕ) (t : Task Logged) → IsIn t (tasks (logged_program strict root) n) → IsLogged t
      fresh zero t i = absurd i
      fresh (suc n) t i = family_fresh strict (given (logged_program strict root) n) (suc n)
          (root_task (logged root)) refl t i
