-- The run of a table: each step that stands in a log is a step call, so its moments are those of the laws of calls, and
-- the entries of a log are steps of the run, in their order.
use Rattle.tj_words.proofs.Prelude.{Bool, IsIn, Key, List, Option, Program, Rec, Rule, Ruled, State, View, [], ap}
use Rattle.tj_words.proofs.Prelude.{dite, inl, inr, last_moment, length, place_of, refl, set, subst, sym}
use Rattle.tj_words.proofs.Prelude.{told_by, word, ℕ, ℕ_discrete, ⊎_elim, ◌++◌, ◌<◌, ◌∙◌, ◌∷◌, ◌≡◌, ◌⊎◌}
use Rattle.std.proofs.Common.{eq-eqb, eqb, map, ne_eqb, subst₂}
use Rattle.std.proofs.lemmas.Bool.{cond-false, cond-true}
use mathlib.Core.Option as home
use mathlib.Core.Option.{none}
use mathlib.Core.List.{map-append}
use Rattle.atomic_table.specs.Table.{Act, carried_after, opening, step, stepped}
use Rattle.tj_body.proofs.Lists.{in_either}
use Rattle.tj_log.specs.Logs.{own_state}
use Rattle.tj_log.specs.Runs as log
use Rattle.tj_log.specs.Runs.{Came, IsRun, IsStep, Kept, Past, begins, first_of, joins, left, log_of, slots_of, splits}
use Rattle.tj_log.specs.Runs.{before, befores_of, steps, took_befores_of, took_of}
use Rattle.tj_log.specs.Laws.{AreWith}
use Rattle.tj_log.proofs.OwnSteps.{with_both, with_chosen, with_more}
use lib.ListN.{get_elem?}
use Rattle.tj_log.specs.declared.entry.Entry.{Entry}
use Rattle.tj_log.specs.declared.entry.Logged.{Logged}
use Rattle.tj_words.specs.CallLaws.LoggedRuns.{AreStepsOf, AreStepsWith, HadView, HasRun, IsEntry}
use Rattle.tj_words.specs.CallLaws.LoggedRuns.{IsEntryOf, IsLogWith, in_order, states_of}
use Rattle.tj_words.specs.CallLaws.CallRuns.{AreAskedMoments, IsAskedCall, IsAskedStep, IsIdleMerge, acts_by}
use Rattle.tj_words.specs.CallLaws.RestedRuns.{IsSplit}
use Rattle.tj_words.specs.CallLaws.StepLogs.{table_terms}
use Rattle.tj_words.specs.LawParts.FirstState.{first_view}
use Rattle.tj_words.proofs.Stores.OneActs.{same_act}

module _ {B : Type 0} (program : Bool → B → Program B) (key : Key B) where
  abbrev St : Type 0
  St = State (Option (Rec B)) (View B)

  abbrev Pasts : Type 0
  Pasts = Past (Option (Rec B)) (View B)

  -- what a step leaves, with these slots at home
  abbrev left_with : ℕ → ℕ → ℕ → View B → St → List (home.Option (Option (Rec B))) → St
  left_with i n id w s homes = record { words = set s.words i n; homes = homes; views = set s.views id w }

  -- a logged step is a step call, with its entry
  called : (id : ℕ) (e : Entry) (had : List ℕ) (has : List (ℕ × Option (Rec B))) (act : Act (Option (Rec B))) (s t : St)
      → Rule program key s → (x : IsStep (table_terms program key) id e had has act s t)
      → (c : IsAskedCall program key s t) × IsEntryOf program key id e s t c × (c.made.seat.0 ≡ x.view)
  called id e had has act s t r x = let o = x.told in let n = left e.did e.first e.second (word s.words e.word) in
      let st = step (length s.homes) e.word e.first e.second none in
      let same = same_act s.homes has act o.act x.plain o.plain x.may o.slots in (
        record {
          made = record {
            call = o.call;
            act = o.act;
            id = id;
            number = n;
            seat = (x.view, has);
            seat_after = (x.view_after, carried_after has act);
            operands = st;
            makes = record {
              at = x.at;
              inside = subst (λ i. i < length s.words) o.at (subst (λ l. e.word < l) (sym r.all_words) o.inside);
              may = same.0;
              after = x.after ∙ (ap (λ i. stepped s i n id has x.view_after act) o.at
                  ∙ ap (left_with (place_of o.call) n id x.view_after s) same.1);
              slots = o.slots;
            };
            told = subst (λ i. told_by program key.cells o.call n st (x.view, has) (word s.words i)
                (x.view_after, carried_after has act)) o.at o.told;
          };
          asks = o.asks;
          acts = subst (λ i. acts_by program key o.call st (word s.words i) (x.view, has) o.act) o.at o.acts;
        },
        record {
          by = refl;
          is = λ i. record {
            did = o.does i;
            word = o.at i;
            first = e.first;
            second = e.second;
            found = e.found;
          };
          found = x.found;
        },
        refl,
      )

  split_is : (id : ℕ) (s t : St) → log.IsSplit (table_terms program key) id s t → IsSplit s t
  split_is id s t x = record { id = id; view = x.view; at = x.at; after = x.after }

  merge_is : (id other : ℕ) (had : List ℕ) (s t : St) → log.IsJoin (table_terms program key) id other had s t
      → IsIdleMerge s t
  merge_is id other had s t x = record {
    merge = record {
      id = id;
      other = other;
      view = x.view;
      taken = x.taken;
      at = x.at;
      apart = x.apart;
      other_at = x.other_at;
      after = x.after;
    };
    by_idle = x.may.0;
    idle = x.may.1;
  }

  -- one moment more
  abbrev moments_on : (u : Ruled program key) (ws : List (Ruled program key)) (w : Ruled program key)
      → AreAskedMoments program key u ws → IsAskedStep program key (last_moment program key u ws).now w.now
      → AreAskedMoments program key u (ws ++ w ∷ [])
  moments_on u [] w a m = (m, tt)
  moments_on u (x ∷ xs) w a m = (a.0, moments_on x xs w a.1 m)

  last_on : (u : Ruled program key) (ws : List (Ruled program key)) (w : Ruled program key)
      → (last_moment program key u (ws ++ w ∷ [])).now ≡ w.now
  last_on u [] w = refl
  last_on u (x ∷ xs) w = last_on x xs w

  -- what are steps of a seat are so with one moment more
  still : (j : ℕ) (es : List Entry) (u : Ruled program key) (ws : List (Ruled program key)) (w : Ruled program key)
      (a : AreAskedMoments program key u ws) (m : IsAskedStep program key (last_moment program key u ws).now w.now)
      → AreStepsOf program key j es u ws a
      → AreStepsOf program key j es u (ws ++ w ∷ []) (moments_on u ws w a m)
  still j [] u ws w a m h = tt
  still j (e ∷ es) u [] w a m h = absurd h
  still j (e ∷ es) u (x ∷ xs) w a m h = ⊎_elim
      (λ (t : IsEntry program key j e u.now x.now a.0 × AreStepsOf program key j es x xs a.1).
      inl (t.0, still j es x xs w a.1 m t.1))
      (λ (t : AreStepsOf program key j (e ∷ es) x xs a.1). inr (still j (e ∷ es) x xs w a.1 m t)) h

  -- and the last step may be one of them
  one_more : (j : ℕ) (es : List Entry) (e : Entry) (u : Ruled program key) (ws : List (Ruled program key))
      (w : Ruled program key) (a : AreAskedMoments program key u ws)
      (m : IsAskedStep program key (last_moment program key u ws).now w.now)
      → AreStepsOf program key j es u ws a
      → IsEntry program key j e (last_moment program key u ws).now w.now m
      → AreStepsOf program key j (es ++ e ∷ []) u (ws ++ w ∷ []) (moments_on u ws w a m)
  one_more j [] e u [] w a m h l = inl (l, tt)
  one_more j [] e u (x ∷ xs) w a m h l = inr (one_more j [] e x xs w a.1 m tt l)
  one_more j (d ∷ ds) e u [] w a m h l = absurd h
  one_more j (d ∷ ds) e u (x ∷ xs) w a m h l = ⊎_elim
      (λ (t : IsEntry program key j d u.now x.now a.0 × AreStepsOf program key j ds x xs a.1).
      inl (t.0, one_more j ds e x xs w a.1 m t.1 l))
      (λ (t : AreStepsOf program key j (d ∷ ds) x xs a.1). inr (one_more j (d ∷ ds) e x xs w a.1 m t l)) h

  -- so it is of entries with the views before them
  still_with : (j : ℕ) (es : List Entry) (vs : List (View B)) (u : Ruled program key) (ws : List (Ruled program key))
      (w : Ruled program key) (a : AreAskedMoments program key u ws)
      (m : IsAskedStep program key (last_moment program key u ws).now w.now)
      → AreStepsWith program key j es vs u ws a
      → AreStepsWith program key j es vs u (ws ++ w ∷ []) (moments_on u ws w a m)
  still_with j [] [] u ws w a m h = tt
  still_with j [] (v ∷ vs) u ws w a m h = absurd h
  still_with j (e ∷ es) [] u ws w a m h = absurd h
  still_with j (e ∷ es) (v ∷ vs) u [] w a m h = absurd h
  still_with j (e ∷ es) (v ∷ vs) u (x ∷ xs) w a m h = ⊎_elim
      (λ (t : IsEntry program key j e u.now x.now a.0 × HadView program key v u.now x.now a.0
      × AreStepsWith program key j es vs x xs a.1). inl (t.0, t.1, still_with j es vs x xs w a.1 m t.2))
      (λ (t : AreStepsWith program key j (e ∷ es) (v ∷ vs) x xs a.1).
      inr (still_with j (e ∷ es) (v ∷ vs) x xs w a.1 m t)) h

  one_more_with : (j : ℕ) (es : List Entry) (vs : List (View B)) (e : Entry) (v : View B) (u : Ruled program key)
      (ws : List (Ruled program key)) (w : Ruled program key) (a : AreAskedMoments program key u ws)
      (m : IsAskedStep program key (last_moment program key u ws).now w.now)
      → AreStepsWith program key j es vs u ws a
      → IsEntry program key j e (last_moment program key u ws).now w.now m
      → HadView program key v (last_moment program key u ws).now w.now m
      → AreStepsWith program key j (es ++ e ∷ []) (vs ++ v ∷ []) u (ws ++ w ∷ []) (moments_on u ws w a m)
  one_more_with j [] [] e v u [] w a m h l k = inl (l, k, tt)
  one_more_with j [] [] e v u (x ∷ xs) w a m h l k = inr (one_more_with j [] [] e v x xs w a.1 m tt l k)
  one_more_with j [] (y ∷ ys) e v u ws w a m h l k = absurd h
  one_more_with j (d ∷ ds) [] e v u ws w a m h l k = absurd h
  one_more_with j (d ∷ ds) (y ∷ ys) e v u [] w a m h l k = absurd h
  one_more_with j (d ∷ ds) (y ∷ ys) e v u (x ∷ xs) w a m h l k = ⊎_elim
      (λ (t : IsEntry program key j d u.now x.now a.0 × HadView program key y u.now x.now a.0
      × AreStepsWith program key j ds ys x xs a.1). inl (t.0, t.1, one_more_with j ds ys e v x xs w a.1 m t.2 l k))
      (λ (t : AreStepsWith program key j (d ∷ ds) (y ∷ ys) x xs a.1).
      inr (one_more_with j (d ∷ ds) (y ∷ ys) e v x xs w a.1 m t l k)) h

  -- what stood at these moments
  abbrev stood : Ruled program key → List (Ruled program key) → List St
  stood u ws = map (λ (z : Ruled program key). z.now) (u ∷ ws)

  -- these moments have the steps of each log of this past
  pub record HaveLogs (past : Pasts) (u : Ruled program key) (ws : List (Ruled program key))
      (a : AreAskedMoments program key u ws) : Type 0 where
    pub logs : (j : ℕ) → AreStepsOf program key j (in_order (log_of j past)) u ws a
    pub taken : (j : ℕ) (l : List Entry) → IsIn l (took_of j past)
        → (i : ℕ) × AreStepsOf program key i (in_order l) u ws a
    pub befores : (j : ℕ) → AreStepsWith program key j (in_order (log_of j past)) (in_order (befores_of j past)) u ws a
    pub took_befores : (j : ℕ) → AreWith (IsLogWith program key u ws a) (took_of j past) (took_befores_of j past)

  -- a run to this state from the one that stood at first
  pub record Runs (now : St) (past : Pasts) : Type 0 where
    pub first : Ruled program key
    pub later : List (Ruled program key)
    pub moments : AreAskedMoments program key first later
    pub start : first.now ≡ first_of now past
    pub end : (last_moment program key first later).now ≡ now
    pub same : stood first later ≡ states_of now past
    pub have : HaveLogs past first later moments

  goes_on : (s now : St) (past more : Pasts) (r : Rule program key now) (h : Runs s past)
      → first_of now more ≡ first_of s past → states_of now more ≡ states_of s past ++ now ∷ []
      → (m : IsAskedStep program key (last_moment program key h.first h.later).now now)
      → HaveLogs more h.first (h.later ++ record { now = now; rule = r } ∷ [])
      (moments_on h.first h.later (record { now = now; rule = r }) h.moments m)
      → Runs now more
  goes_on s now past more r h e d m l = let w : Ruled program key = record { now = now; rule = r } in record {
    first = h.first;
    later = h.later ++ w ∷ [];
    moments = moments_on h.first h.later w h.moments m;
    start = h.start ∙ sym e;
    end = last_on h.first h.later w;
    same = map-append (λ (z : Ruled program key). z.now) (h.first ∷ h.later) (w ∷ [])
        ∙ (ap (λ z. z ++ now ∷ []) h.same ∙ sym d);
    have = l;
  }

  module _ {past : Pasts} (u : Ruled program key) (ws : List (Ruled program key)) (w : Ruled program key)
      (a : AreAskedMoments program key u ws) (h : HaveLogs past u ws a)
      (m : IsAskedStep program key (last_moment program key u ws).now w.now) where
    -- what is with a log is so with one moment more
    abbrev later_with : (j : ℕ) → AreWith (IsLogWith program key u (ws ++ w ∷ []) (moments_on u ws w a m))
        (took_of j past) (took_befores_of j past)
    later_with j = with_more (IsLogWith program key u ws a) (IsLogWith program key u (ws ++ w ∷ [])
        (moments_on u ws w a m)) (λ log vs t. (t.0, still_with t.0 (in_order log) (in_order vs) u ws w a m t.1))
        (took_of j past) (took_befores_of j past) (h.took_befores j)

    abbrev had : (j : ℕ) → AreStepsWith program key j (in_order (log_of j past)) (in_order (befores_of j past)) u
        (ws ++ w ∷ []) (moments_on u ws w a m)
    had j = still_with j (in_order (log_of j past)) (in_order (befores_of j past)) u ws w a m (h.befores j)

    -- the logs go on by a step
    stepped_logs : (s : St) (id : ℕ) (e : Entry) (slots : List (ℕ × Option (Rec B))) (act : Act (Option (Rec B)))
        (v : View B) → get_elem? s.views id ≡ home.some v
        → IsEntry program key id e (last_moment program key u ws).now w.now m
        → HadView program key v (last_moment program key u ws).now w.now m
        → HaveLogs (steps past s id e slots act) u (ws ++ w ∷ []) (moments_on u ws w a m)
    stepped_logs s id e slots act v at l k = record {
      logs = λ j. dite (ℕ_discrete j id)
          (λ is. subst (λ z. AreStepsOf program key j (in_order z) u (ws ++ w ∷ []) (moments_on u ws w a m))
          (sym (cond-true (eqb j id) _ _ (eq-eqb j id is)))
          (one_more j (in_order (log_of j past)) e u ws w a m (h.logs j)
          (subst (λ i. IsEntry program key i e (last_moment program key u ws).now w.now m) (sym is) l)))
          (λ ne. subst (λ z. AreStepsOf program key j (in_order z) u (ws ++ w ∷ []) (moments_on u ws w a m))
          (sym (cond-false (eqb j id) _ _ (ne_eqb j id ne)))
          (still j (in_order (log_of j past)) u ws w a m (h.logs j)));
      taken = λ j x i. let t = h.taken j x i in (t.0, still t.0 (in_order x) u ws w a m t.1);
      befores = λ j. dite (ℕ_discrete j id)
          (λ is. subst₂ (λ x y. AreStepsWith program key j (in_order x) (in_order y) u (ws ++ w ∷ [])
          (moments_on u ws w a m)) (sym (cond-true (eqb j id) _ _ (eq-eqb j id is)))
          (sym (cond-true (eqb j id) _ _ (eq-eqb j id is) ∙ ap (λ z. before z (befores_of j past)) at))
          (one_more_with j (in_order (log_of j past)) (in_order (befores_of j past)) e v u ws w a m (h.befores j)
          (subst (λ i. IsEntry program key i e (last_moment program key u ws).now w.now m) (sym is) l) k))
          (λ ne. subst₂ (λ x y. AreStepsWith program key j (in_order x) (in_order y) u (ws ++ w ∷ [])
          (moments_on u ws w a m)) (sym (cond-false (eqb j id) _ _ (ne_eqb j id ne)))
          (sym (cond-false (eqb j id) _ _ (ne_eqb j id ne))) (had j));
      took_befores = later_with;
    }

    -- by a split
    split_logs : (s : St) (id : ℕ) → HaveLogs (splits past s id) u (ws ++ w ∷ []) (moments_on u ws w a m)
    split_logs s id = record {
      logs = λ j. still j (in_order (log_of j past)) u ws w a m (h.logs j);
      taken = λ j x i. let t = h.taken j x i in (t.0, still t.0 (in_order x) u ws w a m t.1);
      befores = had;
      took_befores = later_with;
    }

    -- and by a join
    join_logs : (s : St) (b d : ℕ) → HaveLogs (joins past s b d) u (ws ++ w ∷ []) (moments_on u ws w a m)
    join_logs s b d = record {
      logs = λ j. dite (ℕ_discrete j d)
          (λ is. subst (λ z. AreStepsOf program key j (in_order z) u (ws ++ w ∷ []) (moments_on u ws w a m))
          (sym (cond-true (eqb j d) _ _ (eq-eqb j d is))) tt)
          (λ ne. subst (λ z. AreStepsOf program key j (in_order z) u (ws ++ w ∷ []) (moments_on u ws w a m))
          (sym (cond-false (eqb j d) _ _ (ne_eqb j d ne)))
          (still j (in_order (log_of j past)) u ws w a m (h.logs j)));
      taken = λ j x i. dite (ℕ_discrete j d)
          (λ is. absurd (subst (λ z. IsIn x z) (cond-true (eqb j d) _ _ (eq-eqb j d is)) i))
          (λ ne. let other = subst (λ z. IsIn x z) (cond-false (eqb j d) _ _ (ne_eqb j d ne)) i in
          dite (ℕ_discrete j b)
          (λ is. joined x (subst (λ z. IsIn x z) (cond-true (eqb j b) _ _ (eq-eqb j b is)) other))
          (λ no. from j x (subst (λ z. IsIn x z) (cond-false (eqb j b) _ _ (ne_eqb j b no)) other)));
      befores = λ j. dite (ℕ_discrete j d)
          (λ is. subst₂ (λ x y. AreStepsWith program key j (in_order x) (in_order y) u (ws ++ w ∷ [])
          (moments_on u ws w a m)) (sym (cond-true (eqb j d) _ _ (eq-eqb j d is)))
          (sym (cond-true (eqb j d) _ _ (eq-eqb j d is))) tt)
          (λ ne. subst₂ (λ x y. AreStepsWith program key j (in_order x) (in_order y) u (ws ++ w ∷ [])
          (moments_on u ws w a m)) (sym (cond-false (eqb j d) _ _ (ne_eqb j d ne)))
          (sym (cond-false (eqb j d) _ _ (ne_eqb j d ne))) (had j));
      took_befores = λ j. let p = IsLogWith program key u (ws ++ w ∷ []) (moments_on u ws w a m) in
          with_chosen p (eqb j d) [] _ [] _ tt (with_chosen p (eqb j b) _ _ _ _
          (with_both p (took_of b past) (log_of d past ∷ took_of d past) (took_befores_of b past)
          (befores_of d past ∷ took_befores_of d past) (later_with b) ((d, had d), later_with d)) (later_with j));
    }
      where
        from : (j : ℕ) (x : List Entry) → IsIn x (took_of j past)
            → (i : ℕ) × AreStepsOf program key i (in_order x) u (ws ++ w ∷ []) (moments_on u ws w a m)
        from j x i = let t = h.taken j x i in (t.0, still t.0 (in_order x) u ws w a m t.1)

        joined : (x : List Entry) → IsIn x (took_of b past ++ log_of d past ∷ took_of d past)
            → (i : ℕ) × AreStepsOf program key i (in_order x) u (ws ++ w ∷ []) (moments_on u ws w a m)
        joined x i = ⊎_elim (λ (t : IsIn x (took_of b past)). from b x t)
            (λ (t : (x ≡ log_of d past) ⊎ IsIn x (took_of d past)). ⊎_elim
            (λ (q : x ≡ log_of d past). (
              d,
              subst (λ z. AreStepsOf program key d (in_order z) u (ws ++ w ∷ []) (moments_on u ws w a m)) (sym q)
                  (still d (in_order (log_of d past)) u ws w a m (h.logs d)),
            ))
            (λ (q : IsIn x (took_of d past)). from d x q) t)
            (in_either x (took_of b past) (log_of d past ∷ took_of d past) i)

  came : (now : St) (past : Pasts) → Rule program key now → Came (table_terms program key) now past → Runs now past
  came now begins r c = record {
    first = record { now = now; rule = r };
    later = [];
    moments = tt;
    start = refl;
    end = refl;
    same = refl;
    have = record { logs = λ j. tt; taken = λ j l i. absurd i; befores = λ j. tt; took_befores = λ j. tt };
  }
  came now (steps past s id e slots act) r c =
      let h = came s past c.0 c.2 in let x = called id e (slots_of id past) slots act s now c.0 c.1 in
      let q = subst (λ z. (m : IsAskedStep program key z now) × IsEntry program key id e z now m
      × HadView program key c.1.view z now m) (sym h.end) (inl x.0, x.1, x.2) in
      goes_on s now past (steps past s id e slots act) r h refl refl q.0
      (stepped_logs h.first h.later (record { now = now; rule = r }) h.moments h.have q.0 s id e slots act c.1.view
      c.1.at q.1 q.2)
  came now (splits past s id) r c = let h = came s past c.0 c.2 in
      let q = subst (λ z. IsAskedStep program key z now) (sym h.end) (inr (inl (split_is id s now c.1))) in
      goes_on s now past (splits past s id) r h refl refl q
      (split_logs h.first h.later (record { now = now; rule = r }) h.moments h.have q s id)
  came now (joins past s a b) r c = let h = came s past c.0 c.2 in
      let q = subst (λ z. IsAskedStep program key z now) (sym h.end)
      (inr (inr (merge_is a b (slots_of b past) s now c.1))) in
      goes_on s now past (joins past s a b) r h refl refl q
      (join_logs h.first h.later (record { now = now; rule = r }) h.moments h.have q s a b)

  pub ran : (now : St) (past : Pasts) → IsRun (table_terms program key) now past
      → (run : HasRun program key now) × (run.past ≡ past)
  ran now past r = let h = came now past r.holds r.came in (
    record {
      first = h.first;
      later = h.later;
      moments = h.moments;
      start = h.start ∙ (r.start
          ∙ (λ z. opening (r.opens.0 z) (r.opens.1 z) (first_view key.cells key.root.value key.strict)));
      end = h.end;
      past = past;
      logged = r;
      same = h.same;
      logs = h.have.logs;
      taken = h.have.taken;
      befores = h.have.befores;
      took_befores = h.have.took_befores;
    },
    refl,
  )

  pub has_run : (s : State (Option (Rec B)) (Logged (View B))) (k : Kept (table_terms program key) s)
      → (run : HasRun program key (own_state s)) × (run.past ≡ k.past)
  has_run s k = ran (own_state s) k.past k.run
