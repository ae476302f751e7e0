-- Where a promise went is told as the lines of the trace tell it, and so as the histories did it.
use Rattle.std.proofs.Common.{◌≡◌, ℕ, suc, Bool, true, false, cond, List, [], ◌∷◌, refl, ap, sym, ◌∙◌}
use Rattle.std.proofs.Common.{◌++◌, find, map, subst, inl, inr, ◌⊎◌}
use Rattle.std.specs.Prelude.{Option, Some, None, slice_get, option_map}
use Rattle.tj_base.specs.ForkOrder.{Name, child}
use Rattle.tj_base.specs.declared.cause.Cause.TheVariants as cause
use Rattle.tj_base.specs.declared.cell.Sort.TheVariants as sort
use Rattle.tj_body.specs.Asks.{IsFresh}
use Rattle.tj_body.specs.History.{Assignment, history}
use Rattle.tj_body.specs.Names.{has, same}
use Rattle.tj_body.specs.Points.{IsIn}
use Rattle.tj_body.specs.Rounds.{meaning}
use Rattle.tj_body.specs.SeenAs.{point_as, task_as}
use Rattle.tj_body.specs.declared.point.Point.{Point}
use Rattle.tj_body.specs.declared.point.Task.{Task}
use Rattle.tj_body.specs.Rounds.{IsFull, given, last_round, tasks}
use Rattle.tj_body.proofs.Counts.{has_of_times, same_is, same_self, times_of_in}
use Rattle.tj_body.proofs.Lists.{from_flat_map, in_map, to_map}
use Rattle.tj_body.proofs.Rounds.Families.{same_name}
use Rattle.tj_eval.specs.Bodies.{script_awaits, script_left, script_places}
use Rattle.tj_eval.specs.Stands.{PlacedState, StandsRight}
use Rattle.tj_eval.specs.Statements.{TaskState}
use Rattle.tj_lex.specs.declared.token.Token.{Token}
use Rattle.tj_mean.specs.Outcomes.{IsOutcome, ending_of}
use Rattle.tj_mean.specs.declared.outcome.Ending.{Ending}
use Rattle.tj_mean.specs.declared.outcome.Ending.TheVariants as ending
use Rattle.tj_mean.specs.declared.outcome.Outcome.{Outcome}
use Rattle.tj_mean.proofs.Lists.Elements.{get_in, in_get, in_of_has, some_is}
use Rattle.tj_syntax.specs.Grammar.{IsProgram}
use Rattle.tj_syntax.specs.Marks.{Noted}
use Rattle.tj_syntax.specs.PlacesOf.{PlacesOfTask, places_of}
use Rattle.tj_syntax.specs.Starts.{in_tasks}
use Rattle.std.specs.List.{flat_map}
use Rattle.tj_trace.specs.HandLaws.{handed_to}
use Rattle.tj_trace.specs.Logs.{Logged, erased, logged_program}
use Rattle.tj_trace.specs.MadeAt.{placed_program}
use Rattle.tj_trace.specs.Lookups.{kept_by, maker_at}
use Rattle.tj_trace.specs.SpotLaws.{HasPlace}
use Rattle.tj_trace.specs.TraceLaws.{script_program}
use Rattle.tj_trace.specs.Traces.{AreTraced}
use Rattle.tj_trace.specs.declared.line.HandNote.{HandNote}
use Rattle.tj_trace.specs.declared.line.Maker.{Maker}
use Rattle.tj_trace.specs.declared.line.SetNote.{SetNote}
use Rattle.tj_trace.specs.declared.line.TraceLine.{TraceLine}
use Rattle.tj_trace.proofs.HandsThere.{hands_are_whole}
use Rattle.tj_trace.proofs.HasLines.{line_name, of_line}
use Rattle.tj_trace.proofs.LinesPlaced.{lines_have_places}
use Rattle.tj_trace.proofs.LinesRight.{lines_are_right}
use Rattle.tj_trace.proofs.MadeThere.{lines_are_of_stands}
use Rattle.tj_trace.proofs.Noted.{notes_are_whole}
use Rattle.tj_forest.proofs.CellsTold.{of_failure}
use Rattle.tj_forest.proofs.HandedTwice.{twice_there}
use Rattle.tj_forest.proofs.LineNumbers.{found_there}
use Rattle.tj_forest.proofs.NotedThings.{same_number, thing_at}
use Rattle.tj_forest.proofs.OwnersKept.{keeps_line, line_keeps, without_notes}
use Rattle.tj_forest.proofs.Placed.{main_right, of_lines}
use Rattle.tj_forest.proofs.PlacedTasks.{of_placed, to_placed}
use Rattle.tj_forest.proofs.PromisesKept.{set_or_owned}
use Rattle.tj_forest.proofs.ToldOnce.{to_line, to_point}
use Rattle.tj_findings.specs.Findings.{told_task}
use Rattle.tj_findings.specs.Searches.{owner_of}
use Rattle.tj_findings.specs.Went.{by_setter, hand_in, handed, maker_place, or_else, set_by, set_in, setter_of, sets_by}
use Rattle.tj_findings.specs.Went.{went_at, went_elsewhere, went_from}
use Rattle.tj_forest.specs.WentLaws.{HadNoRight, HandedOn, IsToldWent, MadeAt, NeverHandedOn, NeverOwed, NeverSet}
use Rattle.tj_forest.specs.WentLaws.{NobodySet, OwnedAtEnd, PromisesWentThere, SetThere, WentThere}
use Rattle.tj_forest.specs.WentLaws.{set_note, sets_of}
use Rattle.tj_findings.specs.declared.finding.Went.{Went}
use Rattle.tj_findings.specs.declared.finding.Went.TheVariants as went

-- what is found is in the list, and passes the test
found : {A : Type 0} (p : A → Bool) (xs : List A) (x : A) → find p xs ≡ Some x → IsIn x xs × (p x ≡ true)
found p [] x e = absurd (cc)
found p (y ∷ ys) x e = by (p y) refl (found p ys x) e where
  by : (b : Bool) → p y ≡ b → (find p ys ≡ Some x → IsIn x ys × (p x ≡ true)) → cond b (Some y) (find p ys) ≡ Some x
      → ((x ≡ y) ⊎ IsIn x ys) × (p x ≡ true)
  by true is rest e = let one = some_is y x e in (inl (sym one), ap p (sym one) ∙ is)
  by false is rest e = let r = rest e in (inr r.0, r.1)

-- where nothing is found, nothing in the list passes the test
not_found : {A : Type 0} (p : A → Bool) (xs : List A) (x : A) → find p xs ≡ None → IsIn x xs → p x ≡ true → ⊥
not_found p [] x e i t = i
not_found p (y ∷ ys) x e i t = by (p y) refl e i (λ f j. not_found p ys x f j t) where
  by : (b : Bool) → p y ≡ b → cond b (Some y) (find p ys) ≡ None → (x ≡ y) ⊎ IsIn x ys
      → (find p ys ≡ None → IsIn x ys → ⊥) → ⊥
  by true is e i rest = cc
  by false is e (inl one) rest = let f : false ≡ true = sym is ∙ ap p (sym one) ∙ t in cc
  by false is e (inr j) rest = rest e j

-- what is in a list is found there by its name
has_in : (q : Name) (xs : List Name) → IsIn q xs → has q xs ≡ true
has_in q xs i = has_of_times q xs (times_of_in q xs i)

-- what a line tells as handed on, with the child
abbrev handed_note : TraceLine → HandNote → Name × Name
handed_note l n = (child l.line.name n.thing, n.promise)

-- without their notes children were handed what they were
hands_seen : (cs : List (Task Logged)) → flat_map handed_to (map (task_as erased) cs) ≡ flat_map handed_to cs
hands_seen [] = refl
hands_seen (c ∷ cs) = ap (λ z. handed_to c ++ z) (hands_seen cs)

module _ (strict : Bool) (root : PlacedState) (fresh : IsFresh script_places script_awaits script_left 1 root.task)
    (N : ℕ) (room : ¬ IsFull (script_program strict root) N) (lines : List TraceLine) (o : Outcome)
    (traced : AreTraced (logged_program strict root) N lines)
    (out : IsOutcome (meaning (script_program strict root) N) o) (right : StandsRight root) (tokens : List Token)
    (notes : List Noted) (derived : IsProgram notes root.task.script) where
  -- where the statements of the script stand
  abbrev places : List PlacesOfTask
  places = places_of tokens (in_tasks derived 0)

  -- the history of a task of the last round
  abbrev V : Assignment
  V = given (logged_program strict root) (last_round N)

  abbrev history_of : Task Logged → Point Logged
  history_of = history (logged_program strict root).rules V

  -- what a line tells of the end of the task with its name
  tells_of : (l : TraceLine) → IsIn l lines → (p : Point TaskState) → IsIn p (meaning (script_program strict root) N)
      → p.name ≡ l.line.name → (ending_of p.stage ≡ Some l.line.ending) × (p.owed ≡ l.line.owes)
  tells_of l there p i n =
      let k = to_line strict root N lines o traced out p i in
      let here = get_in lines l there in
      let other = get_in lines k.0 k.1 in
      let one : k.0 ≡ l = some_is k.0 l
      (sym (found_there l.line.name lines traced.in_name_order other.0 k.0 other.1 (sym k.2.name ∙ n))
      ∙ found_there l.line.name lines traced.in_name_order here.0 l here.1 refl) in
      subst (λ (z : TraceLine). (ending_of p.stage ≡ Some z.line.ending) × (p.owed ≡ z.line.owes)) one
      (k.2.stopped, k.2.owed)

  -- a line tells what was set
  set_there : (l : TraceLine) → IsIn l lines → (n : SetNote) (q : Name) → IsIn n l.sets → n.promise ≡ q
      → SetThere strict root N l.line.name l.decl n.at q
  set_there l i n q there is =
      let u = of_placed strict root N lines traced l i in
      let line = lines_are_of_stands strict root N lines traced l i u.0 u.1 u.2 in (
        u.0,
        (u.1, u.2),
        line.decl,
        subst (λ p. IsIn (set_note p n.at) (sets_of strict root N u.0)) is (subst (IsIn n) line.sets there),
      )

  set_found : (l : TraceLine) → IsIn l lines → (q : Name) (n : SetNote) → set_in l q ≡ Some n
      → SetThere strict root N l.line.name l.decl n.at q × HasPlace places l.decl n.at
  set_found l i q n e =
      let f = found (λ (m : SetNote). same m.promise q) l.sets n e in (
        set_there l i n q f.0 (same_is n.promise q f.1),
        (lines_have_places strict root N lines right traced tokens notes derived l i).2 n f.0,
      )

  -- what was handed on has a child to which it went, which a note tells as made
  hand_made : (l : TraceLine) → IsIn l lines → (n : HandNote) → IsIn n l.hands
      → (j : ℕ) × (m : Maker) × (n.thing ≡ suc j) × (slice_get l.makers j ≡ Some m)
  hand_made l i n here =
      let t = of_line strict root N lines traced l i in
      let p = history_of t.0 in
      let there = to_map history_of t.0 _ t.1.there in
      let pair : Name × Name = (child l.line.name n.thing, n.promise) in
      let told = subst (IsIn pair) (hands_are_whole strict root N p l there t.1.is)
      (to_map (handed_note l) n l.hands here) in
      let c = from_flat_map handed_to pair p.children told in
      let r = in_map (λ q. (c.0.name, q)) pair c.0.handed c.2 in
      let named : child l.line.name n.thing ≡ c.0.name = ap (λ (z : Name × Name). z.0) r.2 in
      let noted = notes_are_whole strict root N p l there t.1.is in
      let names = to_map (λ (z : Task Logged). z.name) c.0 p.children c.1 in
      let thing = thing_at sort.Task l.line.name l.makers c.0.name
      (subst (IsIn c.0.name) (sym noted.all_children) names) in (
        thing.0,
        thing.1,
        same_number l.line.name l.line.name n.thing (suc thing.0) (named ∙ thing.2),
        thing.3,
      )

  -- the statement that a line tells to have made the child
  abbrev hand_place : TraceLine → HandNote → ℕ
  hand_place l n = maker_place (maker_at l n.thing)

  -- a line tells where the child was made
  made_at : (l : TraceLine) → IsIn l lines → (n : HandNote) → IsIn n l.hands
      → MadeAt strict root N l.line.name l.decl n.thing (hand_place l n) × HasPlace places l.decl (hand_place l n)
  made_at l i n here =
      let u = of_placed strict root N lines traced l i in
      let line = lines_are_of_stands strict root N lines traced l i u.0 u.1 u.2 in
      let made = hand_made l i n here in
      let noted = in_get l.makers made.0 made.1 made.3 in
      let own = ((lines_are_right strict root N lines right traced l i).makers made.1 noted).own in
      let at : hand_place l n ≡ made.1.at =
      ap (λ k. maker_place (maker_at l k)) made.2 ∙ ap maker_place made.3 in
      let stands = (lines_have_places strict root N lines right traced tokens notes derived l i).1 made.1 noted in (
        (
          u.0,
          (u.1, u.2),
          made.0,
          made.1,
          made.2,
          ap (λ ms. slice_get ms made.0) (sym line.makers) ∙ made.3,
          sym own,
          at,
        ),
        subst (HasPlace places l.decl) (sym at) (subst (λ d. HasPlace places d made.1.at) own stands),
      )

  -- a line tells what was handed on
  hand_found : (l : TraceLine) → IsIn l lines → (q : Name) (n : HandNote) → hand_in l q ≡ Some n
      → HandedOn strict root N l.line.name (child l.line.name n.thing) q
      × (MadeAt strict root N l.line.name l.decl n.thing (hand_place l n) × HasPlace places l.decl (hand_place l n))
  hand_found l i q n e =
      let f = found (λ (m : HandNote). same m.promise q) l.hands n e in
      let t = of_line strict root N lines traced l i in
      let p = history_of t.0 in
      let there = to_map history_of t.0 _ t.1.there in
      let name = same_name (logged_program strict root).rules V t.0
      ∙ sym (line_name strict root N t.0 l t.1) in
      let told = to_map (λ (m : HandNote). (child l.line.name m.thing, m.promise)) n l.hands f.0 in
      let handed = subst (IsIn (child l.line.name n.thing, n.promise))
      (hands_are_whole strict root N p l there t.1.is ∙ sym (hands_seen p.children)) told in (
        (
          point_as erased p,
          without_notes strict root N lines traced p there,
          name,
          subst (λ r. IsIn {A = Name × Name} (child l.line.name n.thing, r)
              (flat_map handed_to (map (task_as erased) p.children)))
              (same_is n.promise q f.1) handed,
        ),
        made_at l i n f.0,
      )

  -- who owned the promise
  owner_found : (m : TraceLine) (q : Name) → owner_of lines q ≡ Some m → OwnedAtEnd strict root N m.line.name q
  owner_found m q e =
      let f = found (λ (l : TraceLine). has q (kept_by l)) lines m e in
      line_keeps strict root N lines traced m f.0 q (in_of_has q (kept_by m) f.1)

  -- a task whose line tells no set of the promise never set it
  never_set : (l : TraceLine) → IsIn l lines → (q : Name) → set_in l q ≡ None → NeverSet strict root N l.line.name q
  never_set l i q e =
      let t = of_placed strict root N lines traced l i in (
        (t.0, (t.1, t.2)),
        λ u j n there is.
            let line = lines_are_of_stands strict root N lines traced l i u j.0 j.1 in
            not_found (λ (m : SetNote). same m.promise q) l.sets n e (subst (IsIn n) (sym line.sets) there)
            (ap (λ x. same x q) is ∙ same_self q),
      )

  -- and one whose line tells that it was never handed on never handed it on
  never_handed : (l : TraceLine) → IsIn l lines → (q : Name) → hand_in l q ≡ None
      → NeverHandedOn strict root N l.line.name q
  never_handed l i q e =
      let t = of_line strict root N lines traced l i in
      let p = history_of t.0 in
      let there = to_map history_of t.0 _ t.1.there in
      let name = same_name (logged_program strict root).rules V t.0
      ∙ sym (line_name strict root N t.0 l t.1) in (
        point_as erased p,
        without_notes strict root N lines traced p there,
        name,
        λ y j.
            let whole = hands_are_whole strict root N p l there t.1.is ∙ sym (hands_seen p.children) in
            let m = in_map (handed_note l) (y, q) l.hands (subst (IsIn (y, q)) (sym whole) j) in
            not_found (λ (n : HandNote). same n.promise q) l.hands m.0 e m.1
            (ap (λ x. same x q) (ap (λ (z : Name × Name). z.1) (sym m.2)) ∙ same_self q),
      )

  -- no task that knows its stand set the promise
  abbrev Unset : Name → Type 0
  Unset q = (u : Task PlacedState) → IsIn u (tasks (placed_program strict root) (last_round N))
      → (n : SetNote) → IsIn n (sets_of strict root N u) → n.promise ≡ q → ⊥

  -- where the lines tell no setter, none did
  unset : (q : Name) → setter_of lines q ≡ None → Unset q
  unset q e u j n there is =
      let l = to_placed strict root N lines traced u j in
      let line = lines_are_of_stands strict root N lines traced l.0 l.1 u j l.2 in
      not_found (λ (m : TraceLine). has q (sets_by m)) lines l.0 e l.1
      (has_in q (sets_by l.0) (subst (λ x. IsIn x (sets_by l.0)) is
      (to_map (λ (m : SetNote). m.promise) n l.0.sets (subst (IsIn n) (sym line.sets) there))))

  -- so no task of the meaning did
  nobody_set : (q : Name) → setter_of lines q ≡ None → NobodySet strict root N q
  nobody_set q e p i =
      let l = to_line strict root N lines o traced out p i in
      let t = of_placed strict root N lines traced l.0 l.1 in
      ((t.0, (t.1, l.2.name ∙ t.2)), λ u j n there is. unset q e u j.0 n there is)

  -- where they tell neither a setter nor an owner, no task can have failed for the promise
  nobody : (l : TraceLine) → IsIn l lines → (q : Name) → l.line.ending ≡ ending.Failed (cause.Owner q)
      → setter_of lines q ≡ None → owner_of lines q ≡ None → ⊥
  nobody l i q ends none e =
      set_or_owned strict root fresh N room lines traced q
      (of_failure strict root fresh N room lines traced l i (cause.Owner q) ends) (unset q none)
      (λ y own. let m = keeps_line strict root N lines traced y q own in
      not_found (λ (m : TraceLine). has q (kept_by m)) lines m.0 e m.1 (has_in q (kept_by m.0) m.2))

  -- of the task with this line, which failed for the promise
  module _ (l : TraceLine) (there : IsIn l lines) (q : Name)
      (ends : l.line.ending ≡ ending.Failed (cause.Owner q)) where
    abbrev Right : Went → Type 0
    Right = WentThere strict root N places (told_task lines l) q

    -- a task whose line doesn't tell that it owed the promise didn't owe it
    never_owed : has q l.line.owes ≡ false → NeverOwed strict root N l.line.name q
    never_owed is (p, i, n, j) =
        let owed = has_in q l.line.owes (subst (IsIn q) (tells_of l there p i n).1 j) in
        let t : false ≡ true = sym is ∙ owed in cc

    -- the task itself neither owed the promise nor set it nor handed it on
    module _ (clear : NeverOwed strict root N l.line.name q) (never : NeverSet strict root N l.line.name q)
        (kept : NeverHandedOn strict root N l.line.name q) where
      -- who owned it
      by_owner : (m : Option TraceLine) → owner_of lines q ≡ m → setter_of lines q ≡ None
          → Right (or_else (option_map (λ (l : TraceLine). went.OwnedBy l.line.name) m) went.Nowhere)
      by_owner None is none = absurd (nobody l there q ends none is)
      by_owner (Some m) is none = (clear, (never, (kept, (nobody_set q none, owner_found m q is))))

      -- who set it
      by_other : (m : Option TraceLine) → setter_of lines q ≡ m → Right (or_else (by_setter m q)
          (or_else (option_map (λ (l : TraceLine). went.OwnedBy l.line.name) (owner_of lines q)) went.Nowhere))
      by_other None is = by_owner (owner_of lines q) refl is
      by_other (Some m) is = by (set_in m q) refl where
        setter : IsIn m lines × (has q (sets_by m) ≡ true)
        setter = found (λ (l : TraceLine). has q (sets_by l)) lines m is

        by : (n : Option SetNote) → set_in m q ≡ n → Right (or_else (set_by m n)
            (or_else (option_map (λ (l : TraceLine). went.OwnedBy l.line.name) (owner_of lines q)) went.Nowhere))
        by None e =
            let n = in_map (λ (n : SetNote). n.promise) q m.sets (in_of_has q (sets_by m) setter.1) in
            absurd (not_found (λ (n : SetNote). same n.promise q) m.sets n.0 e n.1
            (ap (λ x. same x q) (sym n.2) ∙ same_self q))
        by (Some n) e = (clear, (never, (kept, set_found m setter.0 q n e)))

    by_hand : NeverOwed strict root N l.line.name q → NeverSet strict root N l.line.name q
        → (n : Option HandNote) → hand_in l q ≡ n → Right (or_else (option_map (handed l) n) (went_elsewhere lines q))
    by_hand clear never None is = by_other clear never (never_handed l there q is) (setter_of lines q) refl
    by_hand clear never (Some n) is = let h = hand_found l there q n is in (clear, (refl, (never, (h.0, h.1))))

    by_set : NeverOwed strict root N l.line.name q → (n : Option SetNote) → set_in l q ≡ n
        → Right (or_else (option_map (λ (n : SetNote). went.SetHere n.at) n)
        (or_else (option_map (handed l) (hand_in l q)) (went_elsewhere lines q)))
    by_set clear None is = by_hand clear (never_set l there q is) (hand_in l q) refl
    by_set clear (Some n) is = (clear, set_found l there q n is)

    by_debt : (b : Bool) → has q l.line.owes ≡ b → Right (cond b went.TwiceHere
        (or_else (option_map (λ (n : SetNote). went.SetHere n.at) (set_in l q))
        (or_else (option_map (handed l) (hand_in l q)) (went_elsewhere lines q))))
    by_debt true is =
        let p = to_point strict root N lines o traced out l there in
        let owes = in_of_has q l.line.owes is in (
          (p.0, p.1, p.2.name, subst (IsIn q) (sym p.2.owed) owes),
          twice_there strict root N lines traced l there q ends owes,
        )
    by_debt false is = by_set (never_owed is) (set_in l q) refl

    -- where the promise went of which its failure tells
    of_line_went : Right (went_from lines l q)
    of_line_went = by_debt (has q l.line.owes) refl

  -- where a promise went is told of the task with a line if it failed for want of a right to it, and else of none
  of_line_told : (l : TraceLine) → IsIn l lines → IsToldWent strict root N places (told_task lines l)
  of_line_told l i = record { there = went_right; no_other = no_other } where
    went_right : (q : Name) → HadNoRight strict root N l.line.name q
        → WentThere strict root N places (told_task lines l) q (went_at lines l l.line.ending)
    went_right q (p, j, n, is) =
        let ends : l.line.ending ≡ ending.Failed (cause.Owner q) =
        some_is l.line.ending (ending.Failed (cause.Owner q)) (sym (tells_of l i p j n).0 ∙ is) in
        subst (λ x. WentThere strict root N places (told_task lines l) q (went_at lines l x)) (sym ends)
        (of_line_went l i q ends)

    no_other : ((q : Name) → HadNoRight strict root N l.line.name q → ⊥)
        → went_at lines l l.line.ending ≡ went.Nowhere
    no_other none = by l.line.ending refl where
      by : (e : Ending) → l.line.ending ≡ e → went_at lines l e ≡ went.Nowhere
      by (ending.Done v) is = refl
      by (ending.Waits q) is = refl
      by (ending.Failed cause.Arith) is = refl
      by (ending.Failed cause.Kind) is = refl
      by (ending.Failed cause.Steps) is = refl
      by (ending.Failed (cause.Broken q)) is = refl
      by (ending.Failed (cause.Order q)) is = refl
      by (ending.Failed (cause.Owner q)) is =
          let p = to_point strict root N lines o traced out l i in
          absurd (none q (p.0, p.1, p.2.name, p.2.stopped ∙ ap Some is))

-- the law
pub promises_went_there : PromisesWentThere
promises_went_there script steps root main fresh tokens notes derived strict N lines o room traced out t i =
    let facts = main_right script steps root main in
    let l = of_lines lines o.cycles t i in
    let told : (d : IsProgram notes root.task.script)
    → IsToldWent strict root N (places_of tokens (in_tasks d 0)) t =
    λ d. subst (IsToldWent strict root N (places_of tokens (in_tasks d 0))) (sym l.2)
    (of_line_told strict root fresh N room lines o traced out facts.0 tokens notes d l.0 l.1) in
    subst (λ s. (d : IsProgram notes s) → IsToldWent strict root N (places_of tokens (in_tasks d 0)) t)
    facts.1 told derived
