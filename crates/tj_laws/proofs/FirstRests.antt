-- One step more: the record of a root that joins itself first comes home, which has alarmed, and LIVE is 0.
use Rattle.std.proofs.Common.{◌≡◌, ◌<◌, ◌∙◌, ◌+◌, ◌-◌, ◌%◌, ◌^◌, ◌&&◌, ℕ, Bool, false, List, [], ◌∷◌}
use Rattle.std.proofs.Common.{Some, None, cond, not, refl, sym, ap, subst, inl, inr, ⊎_elim, arith}
use mathlib.Core.Option.{none, some, some-injective}
use mathlib.Core.Option as maybe
use lib.ListN.{get_elem?}
use Rattle.atomic_table.specs.Table.{Act, Valid, carried_after, chain, gives, keeps, step, takes}
use Rattle.tj_base.specs.ForkOrder.{before}
use Rattle.tj_base.specs.declared.cell.Sort.TheVariants as sort
use Rattle.tj_body.specs.Asks.{Await}
use Rattle.tj_body.specs.History.{after_ask, after_failure, start, to_task, with_wait}
use Rattle.tj_body.specs.Laws.{HoldsOfPrograms}
use Rattle.tj_body.specs.Points.{IsIn}
use Rattle.tj_body.specs.Programs.{Program, program_of, root_task}
use Rattle.tj_body.specs.RoundPoints.{IsOfRounds, TasksStart}
use Rattle.tj_body.specs.declared.ask.Answer.{Answer}
use Rattle.tj_body.specs.declared.ask.Answer.TheVariants as answer
use Rattle.tj_body.specs.declared.ask.Ask.{Ask}
use Rattle.tj_body.specs.declared.ask.Ask.TheVariants as ask
use Rattle.tj_body.specs.declared.point.Point.{Point}
use Rattle.tj_body.specs.declared.point.Reference.{Reference}
use Rattle.tj_body.proofs.RoundPoints.{points_ask}
use Rattle.tj_base.specs.declared.cause.Cause.TheVariants as cause
use Rattle.tj_events.specs.Laws.{EventKeepsFacts, StartMeetsFacts}
use Rattle.tj_events.specs.WalkLaws.{OthersAreFew}
use Rattle.tj_events.specs.declared.walk.Way.TheVariants.{Other}
use Rattle.tj_log.specs.Runs.{IsPlain}
use Rattle.tj_record.specs.declared.record.Rec.{Rec}
use Rattle.tj_words.specs.declared.table.Key.{Key}
use Rattle.tj_words.specs.declared.view.Does.TheVariants as does
use Rattle.tj_words.specs.declared.view.View.{View}
use Rattle.tj_words.specs.Law.{Rule}
use Rattle.tj_words.specs.CallLaws.CallRuns.{AreAskedMoments}
use Rattle.tj_words.specs.CallLaws.RestedRuns.{Ruled, last_moment}
use Rattle.tj_words.specs.CallLaws.StepCalls as call
use Rattle.tj_words.specs.Calls.LiveViews.{MayLowerLive, live_lowered, live_sub}
use Rattle.tj_words.specs.Calls.PutRecords.{PutsHome}
use Rattle.tj_words.specs.LawParts.Contents.{WordsSay}
use Rattle.tj_words.specs.LawParts.FirstState.{first_slots, first_words, root_record}
use Rattle.tj_words.specs.LawParts.NamedCells.{record_cells}
use Rattle.tj_words.specs.LawParts.Telling.{Tells}
use Rattle.tj_words.specs.LawParts.TreeWords.{IsCell}
use Rattle.tj_words.specs.SeatViews.KnownEntries.{ToldBy}
use Rattle.tj_words.specs.SeatViews.SeatSteps.{SeatMe}
use Rattle.tj_words.specs.Words.Lists.{numbers}
use Rattle.tj_words.specs.Words.Offsets.{live_at, phase_at, word}
use Rattle.tj_words.specs.Words.Phases.{phase_in}
use Rattle.tj_words.proofs.Seating.FirstWords.{first_words_say}
use Rattle.tj_words.proofs.Seating.Opening.{opening_meets}
use Rattle.tj_words.proofs.Stores.SeatLists.{word_else, word_here}
use Rattle.tj_words.proofs.Waiters.LiveCalls.{down_allowed}
use Rattle.tj_runs.specs.Moments.{contents_at}
use Rattle.tj_laws.specs.NewTables.{JoinersRest}
use Rattle.tj_laws.specs.TableWaits.{HasAlarmed}
use Rattle.tj_laws.proofs.FirstAlarms.{GoesTo, e2, e3, e4, e5, e6, goes, k, kept6, m6, r, returned, root_alarms}
use Rattle.tj_laws.proofs.FirstAlarms.{root_does, took, u1, u2, u3, u4, u5}
use Rattle.tj_laws.proofs.FirstClaims.{allowed, claim, first}

-- a step that has one slot then, of none before, took it
took_slot : {S : Type 0} (homes : List (maybe.Option S)) (a : Act S) (j : ℕ) (y : S) → IsPlain a → Valid homes [] a
    → carried_after [] a ≡ (j, y) ∷ [] → get_elem? homes j ≡ some (some y)
took_slot homes keeps j y p v e = absurd (cc)
took_slot {S = S} homes (takes i z) j y p v e =
    subst (λ (w : ℕ × S). get_elem? homes w.0 ≡ some (some w.1)) (ap head e) v where
      head : List (ℕ × S) → ℕ × S
      head [] = (i, z)
      head (x ∷ xs) = x
took_slot homes gives j y p v e = absurd (cc)
took_slot homes (chain a b) j y p v e = absurd p

module _ {B : Type 0} (program : Bool → B → Program B) (key : Key B) (some_cells : 0 < key.cells)
    (keeps_facts : EventKeepsFacts) (few : OthersAreFew)
    (rule : Rule program key (first program key some_cells keeps_facts)) where
  abbrev P : Program B
  P = program key.strict key.root.value

  abbrev pub root : B
  root = key.root.value

  abbrev pub taken : Rec B
  taken = r program key some_cells keeps_facts few rule

  -- the record that the seat has taken is the root's at its start
  pub taken_is : root_record root ≡ taken
  taken_is =
      let a = allowed program key some_cells keeps_facts rule in
      let t = took program key some_cells keeps_facts few rule in
      let h = took_slot (first program key some_cells keeps_facts).homes a.1 0 (Some taken) a.5 a.2
      (ap (λ (m : SeatMe B). m.1) t.2) in
      let z : Some (root_record root) ≡ Some taken = some-injective (Some (root_record root)) (Some taken)
      (some-injective (some (Some (root_record root))) (some (Some taken)) h) in cc

  -- the record of a root that waits for its own result, by its first ask
  abbrev waiting : Rec B
  waiting = record (root_record root) { body = P.rules.then root answer.Start; answer = answer.RefAt 0; spare = false }

  -- the point that it tells
  abbrev asked : Point B
  asked = record (start (root_task root)) { body = P.rules.then root answer.Start }

  abbrev at_wait : Point B
  at_wait = with_wait false [] asked

  abbrev u6 : Ruled program key
  u6 = (e6 program key some_cells keeps_facts few rule).later

  abbrev view6 : View B
  view6 = (m6 program key some_cells keeps_facts few rule).0

  abbrev me6 : SeatMe B
  me6 = (view6, (0, Some waiting) ∷ [])

  -- the cell 0 is the root
  born : IsCell view6.born 0 (to_task [])
  born = ap (λ (l : List Reference). get_elem? l 0) (k program key some_cells keeps_facts few rule).begins.1

  known : IsIn 0 view6.known
  known = inl (sym (k program key some_cells keeps_facts few rule).of_task)

  all_known : (c : ℕ) → IsIn c (record_cells waiting) → IsIn c view6.known
  all_known c (inl e) = subst (λ z. IsIn z view6.known) (sym e) known
  all_known c (inr (inl e)) = subst (λ z. IsIn z view6.known) (sym e) known
  all_known c (inr (inr (inl e))) = subst (λ z. IsIn z view6.known) (sym e) known
  all_known c (inr (inr (inr n))) = absurd n

  -- LIVE is 1 still
  live6 : word u6.now.words live_at ≡ 1
  live6 =
      kept6 program key some_cells keeps_facts few rule live_at (λ e. omega arith) (λ e. omega arith)
      (λ e. omega arith) (λ e. omega arith) ∙ ap (λ (w : WordsSay). w.live) (first_words_say key.cells some_cells)

  module _ (starts : TasksStart P) (lenient : P.rules.strict ≡ false)
      (joins : P.rules.asks root answer.Start ≡ ask.Join 0) (is_root : P.root ≡ root) where
    of_rounds : IsOfRounds P at_wait
    of_rounds =
        let begun = subst (λ (b : B). IsOfRounds P (start (root_task b))) is_root
        (starts.1 (root_task P.root) starts.0).1 in
        subst (IsOfRounds P)
        (ap (λ x. after_ask P.rules.strict x asked) joins
        ∙ ap (λ b. cond (b && not (before [] [])) (after_failure (cause.Order []) asked) (with_wait false [] asked))
        lenient)
        (points_ask P (start (root_task root)) answer.Start begun refl)

    tells : Tells view6.born waiting at_wait
    tells = record {
      of = born;
      body = refl;
      held = ((born, refl), tt);
      owned_cells = ((to_task [], born, refl), tt);
      made = refl;
      prints = refl;
      owed = ([], tt, refl);
    }

    told : ToldBy P view6.born view6.filled waiting
    told = record {
      point = at_wait;
      tells = tells;
      tells_stage = (omega arith, refl);
      stands = record {
        of_rounds = of_rounds;
        children = λ c i. absurd i;
        promises = λ q i. absurd i;
        writes = λ q e i. absurd i;
      };
    }

    puts : PutsHome program 0 (root_does program key some_cells keeps_facts few rule (does.Alarmed 0 Other
        (returned program key some_cells keeps_facts few rule))) waiting me6
    puts = record {
      slot = refl;
      cell = refl;
      owned = ap (λ (z : Rec B). numbers z.owned) taken_is;
      made = ap (λ (z : Rec B). z.made) taken_is;
      knows = all_known;
      told = (record { root = root; cells = key.cells; strict = key.strict }, refl, told);
    }

    may : MayLowerLive program me6
    may = record {
      token = omega arith;
      shelves = record {
        custody = root_does program key some_cells keeps_facts few rule (does.Alarmed 0 Other
            (returned program key some_cells keeps_facts few rule));
        held = refl;
        cell = 0;
        way = Other;
        walker = returned program key some_cells keeps_facts few rule;
        alarmed = refl;
        no_hand = λ h e. let z : None ≡ Some h = e in absurd (cc);
        puts = puts;
        unfinished = refl;
        waits = (0, record { cell = record { 0 = 0 }; sort = sort.Task }, refl, refl, refl);
      };
      backing = record {
        wakes = λ w. absurd (⊎_elim (λ n. n refl) (λ q. ⊎_elim (λ n. n refl) (λ z. let e = z.1 in cc) q) w);
        tags = λ d. absurd d.1;
        alarms = λ h. let e = h.2 in absurd (cc);
      };
    }

    e7 : GoesTo program key u6 live_at ((word u6.now.words live_at + (2 ^ 64 - 1)) % 2 ^ 64) (live_lowered me6)
    e7 =
        let one = live6 in
        let wide = u6.rule.all_words in
        goes program key u6 me6 (live_lowered me6) (e6 program key some_cells keeps_facts few rule).at call.lowers_live
        (λ n. (n + (2 ^ 64 - 1)) % 2 ^ 64) (λ n. live_sub (step key.cells live_at 1 0 none) me6 n)
        (step key.cells live_at 1 0 none) (down_allowed program key key.cells 0 me6 may)
        (omega (arith, wide, some_cells)) (omega (arith, one)) may (λ x t. ((omega (arith, one), t), t))

    pub rest_moments : List (Ruled program key)
    rest_moments = u1 program key some_cells keeps_facts few rule ∷ u2 program key some_cells keeps_facts few rule
        ∷ u3 program key some_cells keeps_facts few rule ∷ u4 program key some_cells keeps_facts few rule
        ∷ u5 program key some_cells keeps_facts few rule ∷ u6 ∷ e7.later ∷ []

    pub rest_run : AreAskedMoments program key record { now = first program key some_cells keeps_facts; rule = rule }
        rest_moments
    unfolding rest_moments
    rest_run = (
      inl (claim program key some_cells keeps_facts rule),
      (
        (e2 program key some_cells keeps_facts few rule).asked,
        (
          (e3 program key some_cells keeps_facts few rule).asked,
          (
            (e4 program key some_cells keeps_facts few rule).asked,
            (
              (e5 program key some_cells keeps_facts few rule).asked,
              ((e6 program key some_cells keeps_facts few rule).asked, (e7.asked, tt)),
            ),
          ),
        ),
      ),
    )

    abbrev rested : Ruled program key
    rested = last_moment program key record { now = first program key some_cells keeps_facts; rule = rule } rest_moments

    -- LIVE is 0 then
    pub live_rests : (contents_at program key rested).words.live ≡ 0
    unfolding rest_moments
    live_rests =
        let wide = u6.rule.all_words in
        let one = live6 in
        ap (λ l. word l live_at) e7.words
        ∙ (word_here u6.now.words live_at ((word u6.now.words live_at + (2 ^ 64 - 1)) % 2 ^ 64)
        (omega (arith, wide, some_cells))
        ∙ (let z : (word u6.now.words live_at + (2 ^ 64 - 1)) % 2 ^ 64 ≡ 0 = omega (arith, one) in z))

    -- and the root has alarmed
    pub alarm_rests : HasAlarmed (contents_at program key rested) 0
    unfolding rest_moments
    alarm_rests =
        let a = root_alarms program key some_cells keeps_facts few rule in (
          a.0,
          a.1,
          ap phase_in (ap (λ l. word l (phase_at 0)) e7.words
              ∙ word_else u6.now.words live_at (phase_at 0) _ (λ e. omega arith)) ∙ a.2,
        )

module _ {B : Type 0} (places : B → ℕ) (awaits : B → Await) (left : B → ℕ) (asks : B → Answer → Ask B)
    (then : B → Answer → B) where
  pub joiners_rest : StartMeetsFacts → EventKeepsFacts → OthersAreFew
      → HoldsOfPrograms places awaits left asks then TasksStart → JoinersRest places awaits left asks then
  joiners_rest start_meets keeps_facts few starts key some_cells few_cells fresh lenient joins =
      let begun = starts key.strict key.root.value fresh in (
        record { now = first program key some_cells keeps_facts; rule = rule },
        rest_moments program key some_cells keeps_facts few rule begun lenient joins refl,
        refl,
        rest_run program key some_cells keeps_facts few rule begun lenient joins refl,
        live_rests program key some_cells keeps_facts few rule begun lenient joins refl,
        alarm_rests program key some_cells keeps_facts few rule begun lenient joins refl,
      )
    where
      program : Bool → B → Program B
      program = program_of places awaits left asks then

      rule : Rule program key (first program key some_cells keeps_facts)
      rule = opening_meets program key some_cells few_cells start_meets (starts key.strict key.root.value fresh) fresh
          refl (first_words key.cells) (first_slots key.cells key.root.value) refl refl
