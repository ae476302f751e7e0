-- A running task forks a child, or fails since it may not hand what it hands.
use Rattle.tj_run.proofs.Prelude.{All, AreKept, Ask, Bool, CellId, Custody, Err, Goes, HasAlarmed, HasCell, HasName}
use Rattle.tj_run.proofs.Prelude.{Held, HeldSays, Holds, Hurt, IsAsked, IsCell, IsClosing, IsIn, IsMade, IsOfRounds}
use Rattle.tj_run.proofs.Prelude.{IsRunning, IsTailOf, KnowsMore, KnowsTask, Laid, List, MayGiveEach, MayMake}
use Rattle.tj_run.proofs.Prelude.{MayReleaseChild, Name, None, Ok, Point, PointsAsk, Program, Rec, Reference, Result}
use Rattle.tj_run.proofs.Prelude.{RunsTask, SeatMe, Some, Sort, Task, TasksStart, ThingsInRounds, Unhanded, View, []}
use Rattle.tj_run.proofs.Prelude.{about_table, ap, arith, cell, child_record, cond, false, gave_each, held_at, hold}
use Rattle.tj_run.proofs.Prelude.{in_either, in_left, in_right, inl, inr, inside, map, more_on, more_same, nat_eq}
use Rattle.tj_run.proofs.Prelude.{next_name, none_some, noted, numbered, numbers, one_some, pairs_map, record_cells}
use Rattle.tj_run.proofs.Prelude.{reference, refl, released_child, seen_word, subst, suc, sym, table_program, to_map}
use Rattle.tj_run.proofs.Prelude.{to_task, true, with_child, ℕ, ⊎_elim, ◌++◌, ◌+◌, ◌<◌, ◌∙◌, ◌∷◌, ◌≡◌, ◌≢◌, ◌⊎◌}
use Rattle.tj_body.specs.History.{after_ask, after_fork, after_try_fork, hand_all, next_child, start}
use Rattle.tj_body.specs.NameLaws.{NamesTellCells, no_promise, not_owned, hand_cells, named_kept}
use Rattle.tj_body.specs.Points.{IsSomeTask}
use Rattle.tj_body.proofs.Lists.{in_map}
use Rattle.tj_cells.specs.MadeCells.{makes_task, new_born}
use Rattle.tj_cells.proofs.TaskNotes.{let_go_first, let_go_other}
use Rattle.tj_run.proofs.Asks.AskedSteps.{asked_fails}
use Rattle.tj_run.proofs.Asks.FoundValues.{pairs_snoc}
use Rattle.tj_run.proofs.Children.GivenPromises.{AreGiven, IsGiving, each_among, each_apart, each_leaves, gained_is}
use Rattle.tj_run.proofs.Children.GivenPromises.{gave_is, handed_among, handed_given, held_first, lost_is}
use Rattle.tj_run.proofs.Children.GivenPromises.{may_give_each, held_second, unowned_handed, without_each}
use Rattle.tj_run.proofs.Children.HandedPlaces.{places_held, places_named, places_names, places_pairs}
use Rattle.tj_run.proofs.Cells.KnownCells.{AreKnown, cells_known, ending_known, held_known, known_more, owed_known}
use Rattle.tj_run.proofs.Cells.KnownCells.{owned_known, task_known}
use Rattle.tj_run.proofs.Cells.NamedLists.{are_told, behind, beside_first, hand_behind, name_in, name_is}
use Rattle.tj_run.proofs.Asks.NewThings.{held_then, may_make, name_then, new_is, new_more, new_task_other, new_worker}
use Rattle.tj_run.proofs.Asks.NewThings.{stands_then, tells_then}
use Rattle.tj_run.proofs.Seats.OneTask.{noted_one}
use Rattle.tj_run.proofs.Cells.OwnedCells.{holds_are, others as its_others, others_there, owned_is, promise_other}
use Rattle.tj_run.proofs.Asks.PointSteps.{after_rounds, before, pairs_length, stands_next}
use Rattle.tj_run.proofs.Seats.FreeSeats.{workers_same}
use Rattle.tj_base.specs.declared.cause.Cause.TheVariants as cause
use Rattle.tj_base.specs.declared.cell.Sort.TheVariants as sort
use Rattle.tj_body.specs.declared.ask.Answer.TheVariants as answer
use Rattle.tj_body.specs.declared.ask.Ask.TheVariants as ask
use Rattle.tj_body.specs.declared.point.PointStage.TheVariants as stage
use Rattle.tj_words.specs.declared.offsets.Once.TheVariants as once
use Rattle.tj_record.specs.declared.record.Finish.TheVariants as finish
use Rattle.tj_record.specs.declared.record.Hurt.TheVariants as hurt
use Rattle.tj_run.specs.declared.next.Next.TheVariants as next

module _ {B : Type 0} (program : Bool → B → Program B) (laid : Laid B) (r : Rec B) (b : B) (pass handed : List ℕ)
    (me : SeatMe B) (runs : RunsTask laid r me)
    (asked : IsAsked (table_program program laid) me.0 r (ask.Fork b pass handed))
    (law : PointsAsk (table_program program laid)) (tell : NamesTellCells) where
  abbrev P : Program B
  P = table_program program laid

  abbrev x : Ask B
  x = ask.Fork b pass handed

  abbrev p : Point B
  p = before P me.0 r x asked

  -- the held cells that are passed on and handed over
  abbrev given : List Held
  given = map (held_at r.held) handed

  abbrev passed : List Held
  passed = map (held_at r.held) pass

  -- the name of a cell
  abbrev nm : ℕ → Name
  nm = name_in me.0.born

  -- the promises that it owns, beside its result
  abbrev others : List ℕ
  others = its_others P laid.cells me.0 runs.worker.cells r x asked

  given_held : All (λ (d : Held). IsIn d r.held × ((y : Reference) × HeldSays me.0.born d y)) given
  given_held = places_held me.0.born r.held p.references p.name asked.tells.held handed asked.placed.handed

  passed_held : All (λ (d : Held). IsIn d r.held × ((y : Reference) × HeldSays me.0.born d y)) passed
  passed_held = places_held me.0.born r.held p.references p.name asked.tells.held pass asked.placed.passed

  -- a promise isn't the result of the task
  not_task : (d : Held) → IsIn d given → d.sort ≡ sort.Promise → d.cell.0 ≢ r.cell.0
  not_task d i = let w = given_held d i in
      promise_other P laid.cells me.0 runs.worker.cells r x asked d w.1.0 w.1.1

  -- what the handing leaves by name is what it leaves by number
  handed_is : hand_all p.holds (map (reference p) handed) ≡ named_kept nm (hand_cells others (map numbered given))
  handed_is = (λ i. hand_all (holds_are P laid.cells me.0 runs.worker.cells r x asked i)
      (places_named me.0.born r.held p.references p.name asked.tells.held handed asked.placed.handed i))
      ∙ (tell nm others).1 (map numbered given) (λ h i. are_told laid.cells me.0.born (h.1 ∷ others) runs.worker.cells
      (λ c j. ⊎_elim (λ e. there h i c e) (λ k. others_there P laid.cells me.0 runs.worker.cells r x asked c k) j))
    where
      there : (h : Sort × ℕ) → IsIn h (map numbered given) → (c : ℕ) → c ≡ h.1 → (y : Reference) × IsCell me.0.born c y
      there h i c e = let w = in_map numbered h given i in let z = given_held w.0 w.1 in
          (z.1.0, subst (λ n. IsCell me.0.born n z.1.0) (ap (λ (q : Sort × ℕ). q.1) (sym w.2) ∙ sym e) z.1.1.0)

  fork_is : after_ask P.rules.strict x p ≡ after_try_fork b (map (reference p) pass)
      (map (λ k. (reference p k).name) handed) (named_kept nm (hand_cells others (map numbered given))) p
  fork_is = ap (λ o. after_try_fork b (map (reference p) pass) (map (λ k. (reference p k).name) handed) o p) handed_is

  pub all_behind : hand_cells (numbers r.owned) (map numbered given)
      ≡ behind r.cell.0 (hand_cells others (map numbered given))
  all_behind = ap (λ l. hand_cells l (map numbered given)) (owned_is P laid.cells me.0 runs.worker.cells r x asked)
      ∙ hand_behind r.cell.0 others (map numbered given) (λ h i e. let w = in_map numbered h given i in
      subst (λ (q : Sort × ℕ). q.1 ≢ r.cell.0) (sym w.2)
      (not_task w.0 w.1 (sym (ap (λ (q : Sort × ℕ). q.0) w.2) ∙ e)))

  -- the seat knows the cells
  held_is_known : (d : Held) → IsIn d r.held → IsIn d.cell.0 me.0.known
  held_is_known d i = held_known me.0.known r runs.has.knows d.cell.0 (to_map (λ (h : Held). h.cell.0) d r.held i)

  unowned_held : (c : ℕ) → hand_cells others (map numbered given) ≡ Err (not_owned c)
      → IsIn c me.0.known × HasName me.0.born (cell c) (nm c)
  unowned_held c e = let i = unowned_handed others (map numbered given) c e in
      let w = in_map (λ (h : Sort × ℕ). h.1) c (map numbered given) i in
      let u = in_map numbered w.0 given w.1 in let g = given_held u.0 u.1 in
      let same : c ≡ u.0.cell.0 = w.2 ∙ ap (λ (q : Sort × ℕ). q.1) u.2 in
      let is : IsCell me.0.born c g.1.0 = subst (λ n. IsCell me.0.born n g.1.0) (sym same) g.1.1.0 in (
        subst (λ n. IsIn n me.0.known) (sym same) (held_is_known u.0 g.0),
        (g.1.0, is, sym (name_is me.0.born c g.1.0 is)),
      )

  -- the fork fails where the handing isn't allowed
  pub fork_fails : (h : Hurt) → AreKept (Err h) (hand_cells (numbers r.owned) (map numbered given))
      → IsClosing P me.0 r (finish.Failed h)
  fork_fails h left = by (hand_cells others (map numbered given)) refl
      (subst (AreKept (Err h)) all_behind left)
    where
      by : (o : Result (List ℕ) Unhanded) → hand_cells others (map numbered given) ≡ o
          → AreKept (Err h) (behind r.cell.0 o)
          → IsClosing P me.0 r (finish.Failed h)
      by (Ok l) e a = absurd a
      by (Err no_promise) e a = subst (λ z. IsClosing P me.0 r (finish.Failed z)) (sym a)
          (asked_fails P me.0 law r x asked hurt.Kind cause.Kind refl (λ c i. absurd i)
          (fork_is ∙ ap (λ o. after_try_fork b (map (reference p) pass) (map (λ k. (reference p k).name) handed)
          (named_kept nm o) p) e))
      by (Err (not_owned c)) e a = subst (λ z. IsClosing P me.0 r (finish.Failed z)) (sym a)
          (let u = unowned_held c e in
          asked_fails P me.0 law r x asked (hurt.Owner (cell c)) (cause.Owner (nm c)) (nm c, u.1, refl)
          (λ d i. ⊎_elim (λ q. subst (λ n. IsIn n me.0.known) (sym q) u.0) (λ n. absurd n) i)
          (fork_is ∙ ap (λ o. after_try_fork b (map (reference p) pass) (map (λ k. (reference p k).name) handed)
          (named_kept nm o) p) e))

  -- where it is allowed, the task keeps its result and the rest
  module _ (left : List CellId) (are_kept : AreKept (Ok left) (hand_cells (numbers r.owned) (map numbered given))) where
    rest_is : (rest : List ℕ) × (hand_cells others (map numbered given) ≡ Ok rest) × (numbers left ≡ r.cell.0 ∷ rest)
    rest_is = by (hand_cells others (map numbered given)) refl (subst (AreKept (Ok left)) all_behind are_kept)
      where
        by : (o : Result (List ℕ) Unhanded) → hand_cells others (map numbered given) ≡ o
            → AreKept (Ok left) (behind r.cell.0 o)
            → (rest : List ℕ) × (hand_cells others (map numbered given) ≡ Ok rest) × (numbers left ≡ r.cell.0 ∷ rest)
        by (Ok l) e a = (l, e, a)
        by (Err why) e a = absurd a

    abbrev rest : List ℕ
    rest = rest_is.0

    -- what the fork makes of the point
    abbrev forked : Point B
    forked = after_fork b (map (reference p) pass) (map (λ k. (reference p k).name) handed) (map nm rest) p

    -- the child
    abbrev kid : Task B
    kid = next_child b (map (reference p) pass) (map (λ k. (reference p k).name) handed) p

    forked_rounds : IsOfRounds P forked
    forked_rounds = subst (IsOfRounds P) (fork_is
        ∙ ap (λ o. after_try_fork b (map (reference p) pass) (map (λ k. (reference p k).name) handed)
        (named_kept nm o) p) rest_is.1) (after_rounds P me.0 r x asked law)

    module _ (things : ThingsInRounds P) (starts : TasksStart P) where
      kid_task : IsSomeTask P kid
      kid_task = (things forked forked_rounds).1 kid (in_right kid p.children (kid ∷ []) (inl refl))

      -- a cell may be drawn for it
      pub may_birth : MayMake program r.cell.0 (r.made + 1) me.0
      may_birth = may_make program laid r x me runs asked (starts.1 kid kid_task).0

      -- the seat knows the task
      pub knows_parent : KnowsTask r.cell.0 me.0
      knows_parent = (
        inr (task_known me.0.known r runs.has.knows),
        (to_task p.name, asked.tells.of, refl),
      )

      module _ (c : CellId) (w : View B) (m : IsMade sort.Task laid.cells r.cell.0 c.0 me.0 w) where
        -- the promises that are handed
        abbrev promises : List CellId
        promises = map (λ (h : Held). h.cell) given

        new : IsCell w.born c.0 (to_task (next_name p))
        new = new_is program laid r x me runs asked sort.Task c.0 w m

        other : r.cell.0 ≢ c.0
        other = new_task_other program laid r x me runs asked sort.Task c.0 w m

        tasks_then : w.tasks ≡ new_born c.0 ∷ makes_task runs.custody ∷ []
        tasks_then = m.tasks
            ∙ (ap (λ ks. hold (new_born c.0) (noted r.cell.0 makes_task ks)) runs.tasks
            ∙ (ap (λ ks. hold (new_born c.0) ks) (noted_one r.cell.0 runs.custody runs.task makes_task refl)
            ∙ ap (λ ks. new_born c.0 ∷ ks)
            (let_go_other c.0 (makes_task runs.custody) [] (λ e. other (sym runs.task ∙ e)))))

        giving : IsGiving r.cell.0 c.0 other (new_born c.0) (makes_task runs.custody) w
        giving = record {
          tasks = tasks_then;
          child = refl;
          maker = runs.task;
          unborn = refl;
          child_out = refl;
          child_result = inl refl;
          runs = tt;
          out = runs.out;
          result = runs.result;
          is_child = subst (IsIn (seen_word c.0 once.Parent (suc r.cell.0))) (sym m.seen)
              (in_left (seen_word c.0 once.Parent (suc r.cell.0)) m.more me.0.seen m.parent);
        }

        given_each : AreGiven r.cell.0 promises runs.custody.owned
            × (without_each promises runs.custody.owned ≡ r.cell.0 ∷ rest)
        given_each = handed_given r.cell.0 runs.custody.owned given (r.cell.0 ∷ rest) runs.owned_apart not_task
            (ap (λ l. hand_cells l (map numbered given)) (sym runs.has.owned)
            ∙ (all_behind ∙ ap (behind r.cell.0) rest_is.1))

        -- they may be handed
        pub may_hand_each : MayGiveEach r.cell.0 promises c.0 w
        may_hand_each = may_give_each r.cell.0 c.0 other promises (new_born c.0) (makes_task runs.custody) w giving
            given_each.0

        -- each is a cell of the table
        pub promise_cells : All (λ (d : CellId). d.0 < laid.cells) promises
        promise_cells d i = let u = in_map (λ (h : Held). h.cell) d given i in let g = given_held u.0 u.1 in
            let l = inside me.0.born u.0.cell.0 g.1.0 g.1.1.0 in let f = runs.worker.cells.few in
            let e : d.0 ≡ u.0.cell.0 = ap (λ (z : CellId). z.0) u.2 in omega arith

        -- what the seat has for the child then, and for the task
        abbrev first : Custody B
        first = record (new_born c.0) { owned = c.0 ∷ numbers promises }

        abbrev second : Custody B
        second = record (makes_task runs.custody) { owned = without_each promises runs.custody.owned }

        -- the seat then
        abbrev now : View B
        now = record w {
          steps = (gave_each r.cell.0 promises c.0 w).steps;
          tasks = first
              ∷ second ∷ [];
        }

        now_is : gave_each r.cell.0 promises c.0 w ≡ now
        now_is = gave_is r.cell.0 c.0 other promises (new_born c.0) (makes_task runs.custody) w giving given_each.0
            ∙ (λ i. record w {
              steps = (gave_each r.cell.0 promises c.0 w).steps;
              tasks = gained_is promises (new_born c.0) i ∷ lost_is promises (makes_task runs.custody) refl i ∷ [];
            })

        known_then : (y : ℕ) → IsIn y me.0.known → IsIn y w.known
        known_then y i = subst (IsIn y) (sym m.known) (inr i)

        new_known : IsIn c.0 w.known
        new_known = subst (IsIn c.0) (sym m.known) (inl refl)

        more : KnowsMore me.0 w
        more = new_more program laid r x me runs asked sort.Task c.0 w m

        about_then : w.about ≡ Some (about_table laid)
        about_then = more.about ∙ runs.worker.of_table

        -- the record of the child
        abbrev child : Rec B
        child = child_record c b passed promises

        child_known : AreKnown w.known (record_cells child)
        child_known = cells_known w.known child new_known
            (λ y i. ⊎_elim (λ e. subst (λ n. IsIn n w.known) (sym e) new_known)
            (λ j. let u = in_map (λ (h : Held). h.cell.0) y passed j in
            subst (λ n. IsIn n w.known) (sym u.2)
            (known_then u.0.cell.0 (held_is_known u.0 (passed_held u.0 u.1).0))) i)
            (λ y i. ⊎_elim (λ e. subst (λ n. IsIn n w.known) (sym e) new_known)
            (λ j. let u = in_map (λ (d : CellId). d.0) y promises j in
            let z = in_map (λ (h : Held). h.cell) u.0 given u.1 in
            subst (λ n. IsIn n w.known) (sym (u.2 ∙ ap (λ (d : CellId). d.0) z.2))
            (known_then z.0.cell.0 (held_is_known z.0 (given_held z.0 z.1).0))) i)
            (λ y i. absurd i) (λ y i. absurd i)

        not_alarmed : Holds HasAlarmed now → 0 < now.tokens
        not_alarmed a = by (nat_eq c.0 a.0) (nat_eq runs.custody.task a.0) a.2
          where
            by : (f g : Bool) → cond f (Some first) (cond g (Some second) None) ≡ Some a.1 → 0 < now.tokens
            by true g e = absurd (subst (λ (z : Custody B). HasAlarmed z.does) (sym (one_some first a.1 e)) a.3)
            by false true e = absurd (subst (λ (z : Custody B). HasAlarmed z.does) (sym (one_some second a.1 e)) a.3)
            by false false e = none_some None a.1 refl e

        may_release_now : MayReleaseChild program c.0 child now
        may_release_now = record {
          custody = first;
          held = held_first c.0 first
              second refl;
          unborn = refl;
          no_hand = λ h e. none_some w.hand h
              (new_worker program laid r x me runs asked sort.Task c.0 w m).nothing.hand e;
          leaves = record {
            has = record { cell = refl; owned = refl; made = refl; knows = child_known };
            told = (
              about_table laid,
              about_then,
              record {
                point = start kid;
                tells = record {
                  of = new;
                  body = refl;
                  held = (
                    (new, refl),
                    pairs_map (HeldSays me.0.born) (HeldSays w.born) (held_then P me.0 w more r x asked) passed
                        (map (reference p) pass)
                        (places_pairs me.0.born r.held p.references p.name asked.tells.held pass asked.placed.passed),
                  );
                  owned_cells = (
                    (to_task (next_name p), new, refl),
                    pairs_map (HasName me.0.born) (HasName w.born) (name_then P me.0 w more r x asked) promises
                        (map (λ k. (reference p k).name) handed)
                        (places_names me.0.born r.held p.references p.name asked.tells.held handed
                        asked.placed.handed),
                  );
                  made = refl;
                  prints = refl;
                  owed = ([], tt, refl);
                };
                tells_stage = refl;
                stands = record {
                  of_rounds = (starts.1 kid kid_task).1;
                  children = λ k i. absurd i;
                  promises = λ q i. absurd i;
                  writes = λ q e i. absurd i;
                };
              },
            );
            unfinished = refl;
          };
          starts = refl;
          backed = inr (
            r.cell.0,
            second,
            held_second r.cell.0
                first
                second
                (λ e. other (sym e)) runs.task,
            tt,
          );
          room = (let n = new_worker program laid r x me runs asked sort.Task c.0 w m in
              let l = n.lot in let z = n.tokens in omega arith);
          alarms = not_alarmed;
        }

        -- the child may be released
        pub may_release : MayReleaseChild program c.0 child (gave_each r.cell.0 promises c.0 w)
        may_release = subst (MayReleaseChild program c.0 child) (sym now_is) may_release_now

        -- the seat after it, by this record
        module _ (sent : Rec B) where
          abbrev after : View B
          after = released_child c.0 sent now

          abbrev q : Rec B
          q = with_child c left r

          tasks_after : after.tasks
              ≡ second ∷ []
          tasks_after =
              let_go_first c.0 first
              (second ∷ []) refl
              ∙ let_go_other c.0 second []
              (λ e. other (sym runs.task ∙ e))

          left_owned : numbers left ≡ without_each promises runs.custody.owned
          left_owned = rest_is.2 ∙ sym given_each.1

          runs_after : RunsTask laid q (after, me.1)
          runs_after = let n = new_worker program laid r x me runs asked sort.Task c.0 w m in let k = runs.has.knows in
              record {
                worker = workers_same laid w after n n.lot n.tokens;
                custody = second;
                tasks = tasks_after;
                slots = runs.slots;
                task = runs.task;
                runs = tt;
                out = runs.out;
                has = record {
                  cell = refl;
                  owned = left_owned;
                  made = (let a = runs.has.made in omega arith);
                  knows = cells_known w.known q (known_then r.cell.0 (task_known me.0.known r k))
                      (known_more w.known (λ (h : Held). h.cell.0) r.held (record { cell = c; sort = sort.Task })
                      (λ y i. known_then y (held_known me.0.known r k y i)) new_known)
                      (λ y i. known_then y (owned_known me.0.known r k y (subst (IsIn y) (sym runs.has.owned)
                      (each_among promises runs.custody.owned y runs.owned_apart (subst (IsIn y) left_owned i)))))
                      (λ y i. known_then y (owed_known me.0.known r k y i))
                      (λ y i. known_then y (ending_known me.0.known r k y i));
                };
                result = each_leaves r.cell.0 promises runs.custody.owned given_each.0 runs.result;
                owned_apart = each_apart promises runs.custody.owned runs.owned_apart;
              }

          kids_stand : (k : Task B) → IsIn k (p.children ++ kid ∷ [])
              → IsIn k p.children ⊎ HasCell w.born k.name (λ d y. y.sort ≡ sort.Task)
          kids_stand k i = ⊎_elim (λ j. inl j) (λ j. inr (⊎_elim
              (λ e. (c.0, to_task (next_name p), new, ap (λ (z : Task B). z.name) (sym e), refl)) (λ n. absurd n) j))
              (in_either k p.children (kid ∷ []) i)

          more_after : KnowsMore me.0 after
          more_after = more_on me.0 w after more (more_same w after ([], refl))

          running_after : IsRunning P after q
          running_after = let t = tells_then P me.0 w more r x asked in record {
            rooted = asked.rooted;
            point = forked;
            at_stage = ap (λ i. stage.Answered (answer.Local i))
                (sym (pairs_length (HeldSays w.born) r.held p.references t.held));
            unfinished = asked.unfinished;
            tells = record {
              of = t.of;
              body = t.body;
              held = pairs_snoc (HeldSays w.born) r.held p.references (record { cell = c; sort = sort.Task })
                  (to_task (next_name p)) t.held (new, refl);
              owned_cells = pairs_map (HasName me.0.born) (HasName w.born) (name_then P me.0 w more r x asked) left
                  (p.name ∷ map nm rest)
                  (beside_first laid.cells me.0.born runs.worker.cells r.cell.0 (to_task p.name) asked.tells.of left
                  rest rest_is.2
                  (λ d i. others_there P laid.cells me.0 runs.worker.cells r x asked d
                  (handed_among others (map numbered given) rest d rest_is.1 i)));
              made = (let a = t.made in omega arith);
              prints = t.prints;
              owed = t.owed;
            };
            stands = stands_next P after asked.point forked (stands_then P me.0 after more_after r x asked)
                forked_rounds kids_stand (λ y j. inl j)
                (λ y e j. inl j);
          }

          -- and so the task goes on
          pub fork_goes : (u : View B) → u ≡ released_child c.0 sent (gave_each r.cell.0 promises c.0 w)
              → Goes program laid next.Runs q me.0 (u, me.1)
          fork_goes u e = subst (λ (z : View B). Goes program laid next.Runs q me.0 (z, me.1))
              (sym (e ∙ ap (released_child c.0 sent) now_is))
              (record { knows = more_after; runs = runs_after; goes_on = running_after })

        -- the seat is of the same table all the while
        pub fork_about : (u : View B) → u ≡ gave_each r.cell.0 promises c.0 w → u.about ≡ me.0.about
        fork_about u e = ap (λ (z : View B). z.about) (e ∙ now_is) ∙ more.about

        -- and what it noted stands in front of its notes
        pub fork_notes : (u : View B) → u ≡ gave_each r.cell.0 promises c.0 w → IsTailOf me.0.notes u.notes
        fork_notes u e = subst (λ (z : View B). IsTailOf me.0.notes z.notes) (sym (e ∙ now_is)) more.notes
