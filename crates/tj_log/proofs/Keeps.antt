-- Each step, each split and each join keeps the rule of a table with logs.
use Rattle.std.proofs.Common.{◌≡◌, ◌≢◌, ⊎_elim, ℕ, true≢false, length-set, zero, suc, List, [], ◌∷◌, ◌++◌, map}
use Rattle.std.proofs.Common.{get_or, set, sym, refl, ap, ◌∙◌, subst, arith}
use mathlib.Core.Option.{some, none}
use mathlib.Core.List.{map-append}
use lib.ListN.{get_elem?}
use lib.Seq.{map-set}
use Rattle.atomic_table.specs.Table.{State, Me, Step, Act, Valid, homes_after, carried_after, step, stepped, opening}
use Rattle.atomic_table.specs.Table.{Splits, Joins, Final, Seen}
use Rattle.atomic_table.specs.Seated.{TableId}
use Rattle.atomic_table.specs.Table as table
use Rattle.tj_log.specs.Asks.{Allows, AsksJoin, Ended}
use Rattle.tj_log.specs.Shown.{SeatShown, TableShown}
use Rattle.atomic_table.proofs.Lists.{at_map, at_set, at_snoc, set_else}
use Rattle.tj_log.specs.declared.entry.Did.{Did}
use Rattle.tj_log.specs.declared.entry.Entry.{Entry}
use Rattle.tj_log.specs.declared.entry.Logged.{Logged}
use Rattle.tj_log.specs.Logs.{numbers, own_view, own_state, own_me, gone, opened, cut, glued, earlier, logging}
use Rattle.tj_log.specs.Runs.{Terms, begins, steps, splits, joins, left, tell, log_of, took_of, Kept, log_at, took_at}
use Rattle.tj_log.specs.Runs.{before, befores_at, befores_of, entries_at, took_befores_at}
use Rattle.tj_log.specs.Runs.{took_befores_of}
use Rattle.tj_log.proofs.Entries.{at_bound, pick, there, here, else, same, snoc}

module _ {S V : Type 0} (terms : Terms S V) where
  -- a step
  pub steps_allowed : (did : Did) (a b slots id i : ℕ) (m : Me S (Logged V))
      (then : Step S → Me S V → ℕ → Me S V → Type 0)
      → Allows terms.holds slots id (own_me m) i (left did a b)
      (λ n. then (step slots i a b none) (own_me m) (tell did a n))
      → ((x : State S V) → terms.holds x → get_elem? x.views id ≡ some m.0.own → (w : Me S V)
      → then (step slots i a b none) (own_me m) (tell did a (get_or x.words i 0)) w
      → terms.tells did (step slots i a b none) (own_me m) (get_or x.words i 0) w)
      → numbers m.1 ≡ m.0.slots
      → table.Allows (Kept terms) slots id m i (left did a b)
      (λ n. logging did then (step slots i a b none) m (tell did a n))
  steps_allowed did a b slots id i m then may tells has s kept deep at small =
      let own = at_map own_view s.views id m.0 at in
      let r = may (own_state s) kept.run.holds deep own small in
      let n = get_or s.words i 0 in
      let e : Entry = record { did = did; word = i; first = a; second = b; found = tell did a n } in
      let after = numbers (carried_after m.1 r.1) in
      let w : Logged V =
      record {
        own = r.0;
        log = e ∷ m.0.log;
        took = m.0.took;
        lone = m.0.lone;
        slots = after;
        befores = earlier (m.0.own ∷ m.0.befores.views) m.0.befores.taken;
      } in
      let now : own_state (stepped s i (left did a b n) id m.1 w r.1)
      ≡ stepped (own_state s) i (left did a b n) id m.1 r.0 r.1
      = ap (λ (vs : List V). record {
        words = set s.words i (left did a b n);
        homes = homes_after s.homes m.1 r.1;
        views = vs;
      })
      (map-set own_view s.views id w) in (
        w,
        r.1,
        r.2,
        record {
          past = steps kept.past (own_state s) id e m.1 r.1;
          run = record {
            holds = subst terms.holds (sym now) r.3;
            came = (
              kept.run.holds,
              record {
                view = m.0.own;
                view_after = r.0;
                at = own;
                slots = has ∙ (sym (there (λ v. v.slots) s.views id m.0 at) ∙ kept.left_slots id);
                may = r.2;
                plain = r.5;
                found = refl;
                told = subst (λ (d : ℕ). terms.tells did (step d i a b none) (own_me m) n
                    (r.0, carried_after m.1 r.1)) (sym deep) (tells (own_state s) kept.run.holds own _ r.4);
                after = now;
              },
              kept.run.came,
            );
            words = kept.run.words;
            slots = kept.run.slots;
            opens = kept.run.opens;
            start = kept.run.start;
          };
          logs = λ j. pick j id _ _ _
              (λ is. ap (λ (k : ℕ). log_at (set s.views id w) k) is
              ∙ (here (λ v. v.log) s.views id m.0 w at
              ∙ ap (λ (l : List Entry). e ∷ l) (sym (there (λ v. v.log) s.views id m.0 at)
              ∙ (kept.logs id ∙ ap (λ (k : ℕ). log_of k kept.past) (sym is)))))
              (λ ne. else (λ v. v.log) s.views id j w ne ∙ kept.logs j);
          tooks = λ j. same (λ v. v.took) s.views id j m.0 w at refl ∙ kept.tooks j;
          left_slots = λ j. pick j id _ _ _
              (λ is. ap (λ (k : ℕ). entries_at (λ v. v.slots) (set s.views id w) k) is
              ∙ here (λ v. v.slots) s.views id m.0 w at)
              (λ ne. else (λ v. v.slots) s.views id j w ne ∙ kept.left_slots j);
          befores = λ j. pick j id _ _ _
              (λ is. ap (λ (k : ℕ). befores_at (set s.views id w) k) is
              ∙ (here (λ v. v.befores.views) s.views id m.0 w at
              ∙ (ap (λ (l : List V). m.0.own ∷ l) (sym (there (λ v. v.befores.views) s.views id m.0 at)
              ∙ (kept.befores id ∙ ap (λ (k : ℕ). befores_of k kept.past) (sym is)))
              ∙ ap (λ z. before z (befores_of j kept.past)) (sym own))))
              (λ ne. else (λ v. v.befores.views) s.views id j w ne ∙ kept.befores j);
          took_befores = λ j. same (λ v. v.befores.taken) s.views id j m.0 w at refl ∙ kept.took_befores j;
          lone = λ j v is lone. length-set s.views id w ∙ ⊎_elim
              (λ (t : (j ≡ id) × (w ≡ v)). kept.lone id m.0 at (ap (λ (x : Logged V). x.lone) t.1 ∙ lone))
              (λ (t : (j ≢ id) × (get_elem? s.views j ≡ some v)). kept.lone j v t.1 lone) (at_set s.views id j w v is);
        },
        (r.4, refl, refl, refl, refl, refl, refl),
      )

  -- a seat is split
  pub splits_allowed : (id : ℕ) (v : Logged V)
      → Splits terms.holds id v.own (terms.left_half v.own) (terms.right_half v.own)
      → Splits (Kept terms) id v (cut terms.left_half v) (gone (terms.right_half v.own))
  splits_allowed id v may s kept at =
      let own = at_map own_view s.views id v at in
      let l = cut terms.left_half v in
      let r = gone (terms.right_half v.own) in
      let now : own_state {S = S} record { words = s.words; homes = s.homes; views = set s.views id l ++ r ∷ [] }
      ≡ record { words = s.words; homes = s.homes; views = set (map own_view s.views) id l.own ++ r.own ∷ [] }
      = ap (λ (vs : List V). record { words = s.words; homes = s.homes; views = vs })
      (map-append own_view (set s.views id l) (r ∷ []) ∙ ap (λ (vs : List V). vs ++ r.own ∷ []) (map-set own_view
      s.views id l)) in record {
        past = splits kept.past (own_state s) id;
        run = record {
          holds = subst terms.holds (sym now) (may (own_state s) kept.run.holds own);
          came = (kept.run.holds, record { view = v.own; at = own; after = now }, kept.run.came);
          words = kept.run.words;
          slots = kept.run.slots;
          opens = kept.run.opens;
          start = kept.run.start;
        };
        logs = λ j. snoc (λ v. v.log) (set s.views id l) j r refl ∙ (same (λ v. v.log) s.views id j v l at refl ∙
            kept.logs j);
        tooks = λ j. snoc (λ v. v.took) (set s.views id l) j r refl ∙ (same (λ v. v.took) s.views id j v l at refl
            ∙ kept.tooks j);
        left_slots = λ j. snoc (λ v. v.slots) (set s.views id l) j r refl ∙ (same (λ v. v.slots) s.views id j v l at
            refl ∙ kept.left_slots j);
        befores = λ j. snoc (λ v. v.befores.views) (set s.views id l) j r refl
            ∙ (same (λ v. v.befores.views) s.views id j v l at refl ∙ kept.befores j);
        took_befores = λ j. snoc (λ v. v.befores.taken) (set s.views id l) j r refl
            ∙ (same (λ v. v.befores.taken) s.views id j v l at refl ∙ kept.took_befores j);
        lone = λ j u is lone. absurd (⊎_elim
            (λ (q : get_elem? (set s.views id l) j ≡ some u). ⊎_elim
            (λ (t : (j ≡ id) × (l ≡ u)). true≢false (sym lone ∙ ap (λ (x : Logged V). x.lone) (sym t.1)))
            (λ (t : (j ≢ id) × (get_elem? s.views j ≡ some u)).
            let one = kept.lone j u t.1 lone in let a = at_bound s.views j u t.1 in let b = at_bound s.views id v at in
            t.0 (omega arith)) (at_set s.views id j l u q))
            (λ (q : r ≡ u). true≢false (sym lone ∙ ap (λ (x : Logged V). x.lone) (sym q))) (at_snoc (set s.views id
            l) r u j is));
      }

  -- a seat takes another one in
  pub joins_allowed : (id other : ℕ) (v w : Logged V)
      → Joins terms.holds id v.own other w.own (terms.both v.own w.own) terms.spent → terms.may_join v.own w.own
      → w.slots ≡ [] → Joins (Kept terms) id v other w (glued terms.both v w) (gone terms.spent)
  joins_allowed id other v w may asked empty s kept at apart other_at =
      let own = at_map own_view s.views id v at in
      let b = glued terms.both v w in
      let g = gone terms.spent in
      let vs = set s.views id b in
      let was : get_elem? s.views other ≡ some w = sym (set_else s.views id other b apart) ∙ other_at in
      let one = map-set own_view s.views id b in
      let own_other = sym (ap (λ (us : List V). get_elem? us other) one) ∙ at_map own_view vs other w other_at in
      let now : own_state {S = S} record { words = s.words; homes = s.homes; views = set vs other g }
      ≡ record { words = s.words; homes = s.homes; views = set (set (map own_view s.views) id b.own) other g.own }
      = ap (λ (us : List V). record { words = s.words; homes = s.homes; views = us })
      (map-set own_view vs other g ∙ ap (λ (us : List V). set us other g.own) one) in record {
        past = joins kept.past (own_state s) id other;
        run = record {
          holds = subst terms.holds (sym now) (may (own_state s) kept.run.holds own apart own_other);
          came = (
            kept.run.holds,
            record {
              view = v.own;
              taken = w.own;
              at = own;
              apart = apart;
              other_at = at_map own_view s.views other
                  w was;
              none = sym (kept.left_slots other) ∙ (there (λ v. v.slots) s.views other w was ∙ empty);
              may = asked;
              after = now;
            },
            kept.run.came,
          );
          words = kept.run.words;
          slots = kept.run.slots;
          opens = kept.run.opens;
          start = kept.run.start;
        };
        logs = λ j. pick j other _ _ _
            (λ is. ap (λ (k : ℕ). log_at (set vs other g) k) is ∙ here (λ v. v.log) vs other w g other_at)
            (λ ne. else (λ v. v.log) vs other j g ne ∙ (same (λ v. v.log) s.views id j v b at refl ∙ kept.logs j));
        tooks = λ j. pick j other _ _ _
            (λ is. ap (λ (k : ℕ). took_at (set vs other g) k) is ∙ here (λ v. v.took) vs other w g other_at)
            (λ ne. else (λ v. v.took) vs other j g ne ∙ pick j id _ _ _
            (λ is. ap (λ (k : ℕ). took_at vs k) is ∙ (here (λ v. v.took) s.views id v b at
            ∙ (ap (λ (l : List (List Entry)). l ++ w.log ∷ w.took)
            (sym (there (λ v. v.took) s.views id v at) ∙ kept.tooks id)
            ∙ (ap (λ (l : List Entry). took_of id kept.past ++ l ∷ w.took) (sym (there (λ v. v.log) s.views other
            w was) ∙ kept.logs other)
            ∙ ap (λ (l : List (List Entry)). took_of id kept.past ++ log_of other kept.past ∷ l) (sym (there
            (λ v. v.took) s.views other w was) ∙ kept.tooks other)))))
            (λ no. else (λ v. v.took) s.views id j b no ∙ kept.tooks j));
        left_slots = λ j. pick j other _ _ _
            (λ is. ap (λ (k : ℕ). entries_at (λ v. v.slots) (set vs other g) k) is
            ∙ here (λ v. v.slots) vs other w g other_at)
            (λ ne. else (λ v. v.slots) vs other j g ne
            ∙ (same (λ v. v.slots) s.views id j v b at refl ∙ kept.left_slots j));
        befores = λ j. pick j other _ _ _
            (λ is. ap (λ (k : ℕ). befores_at (set vs other g) k) is ∙ here (λ v. v.befores.views) vs other w g other_at)
            (λ ne. else (λ v. v.befores.views) vs other j g ne
            ∙ (same (λ v. v.befores.views) s.views id j v b at refl ∙ kept.befores j));
        took_befores = λ j. pick j other _ _ _
            (λ is. ap (λ (k : ℕ). took_befores_at (set vs other g) k) is
            ∙ here (λ v. v.befores.taken) vs other w g other_at)
            (λ ne. else (λ v. v.befores.taken) vs other j g ne ∙ pick j id _ _ _
            (λ is. ap (λ (k : ℕ). took_befores_at vs k) is ∙ (here (λ v. v.befores.taken) s.views id v b at
            ∙ (ap (λ (l : List (List V)). l ++ w.befores.views ∷ w.befores.taken)
            (sym (there (λ v. v.befores.taken) s.views id v at) ∙ kept.took_befores id)
            ∙ (ap (λ (l : List V). took_befores_of id kept.past ++ l ∷ w.befores.taken)
            (sym (there (λ v. v.befores.views) s.views other w was) ∙ kept.befores other)
            ∙ ap (λ (l : List (List V)). took_befores_of id kept.past ++ befores_of other kept.past ∷ l)
            (sym (there (λ v. v.befores.taken) s.views other w was) ∙ kept.took_befores other)))))
            (λ no. else (λ v. v.befores.taken) s.views id j b no ∙ kept.took_befores j));
        lone = λ j u is lone. absurd (⊎_elim
            (λ (t : (j ≡ other) × (g ≡ u)). true≢false (sym lone ∙ ap (λ (x : Logged V). x.lone) (sym t.1)))
            (λ (t : (j ≢ other) × (get_elem? vs j ≡ some u)). ⊎_elim
            (λ (q : (j ≡ id) × (b ≡ u)). true≢false (sym lone ∙ ap (λ (x : Logged V). x.lone) (sym q.1)))
            (λ (q : (j ≢ id) × (get_elem? s.views j ≡ some u)).
            let one = kept.lone j u q.1 lone in let x = at_bound s.views other w was in let y = at_bound s.views id
            v at in
            apart (omega arith)) (at_set s.views id j b u t.1)) (at_set vs other j g u is));
      }

  none_at : {A : Type 0} (f : Logged V → List A) (v : Logged V) (j : ℕ) → f v ≡ [] → entries_at f (v ∷ []) j ≡ []
  none_at f v zero e = e
  none_at f v (suc j) e = refl

  -- a new table
  pub opening_kept : (ws : List ℕ) (xs : List S) → terms.holds (opening ws xs terms.first) → terms.opens ws xs
      → Kept terms (opening ws xs (opened terms.first))
  opening_kept ws xs holds opens = record {
    past = begins;
    run = record { holds = holds; came = tt; words = ws; slots = xs; opens = opens; start = refl };
    logs = λ j. none_at (λ v. v.log) (opened terms.first) j refl;
    tooks = λ j. none_at (λ v. v.took) (opened terms.first) j refl;
    left_slots = λ j. none_at (λ v. v.slots) (opened terms.first) j refl;
    befores = λ j. none_at (λ v. v.befores.views) (opened terms.first) j refl;
    took_befores = λ j. none_at (λ v. v.befores.taken) (opened terms.first) j refl;
    lone = λ j v is lone. refl;
  }

module _ {S V : Type 0} {terms : Terms S V} where
  -- the last state is under the caller's rule, and came by a run
  pub final_own : (id : ℕ) (v : Logged V) (ws : List ℕ) (xs : List S) → Final (Seen (Kept terms) id v) ws xs
      → Final (Seen terms.holds id v.own) ws xs
  final_own id v ws xs f = (own_state f.0, (f.1.0.run.holds, at_map own_view f.0.views id v f.1.1), f.2, f.3, f.4)

  pub final_run : (table : TableId) (id : ℕ) (m : Me S (Logged V)) (ws : List ℕ) (xs : List S)
      → Final (Seen (Kept terms) id m.0) ws xs
      → Ended terms (record {
        table_id = table;
        id = id;
        me = own_me m;
        log = m.0.log;
        took = m.0.took;
        lone = m.0.lone;
        befores = m.0.befores.views;
        took_befores = m.0.befores.taken;
      }) ws xs
  final_run table id m ws xs f = let k = f.1.0 in (
    own_state f.0,
    k.past,
    k.run,
    at_map own_view f.0.views id m.0 f.1.1,
    sym (there (λ v. v.log) f.0.views id m.0 f.1.1) ∙ k.logs id,
    sym (there (λ v. v.took) f.0.views id m.0 f.1.1) ∙ k.tooks id,
    f.2,
    f.3,
    f.4,
    sym (there (λ v. v.befores.views) f.0.views id m.0 f.1.1) ∙ k.befores id,
    sym (there (λ v. v.befores.taken) f.0.views id m.0 f.1.1) ∙ k.took_befores id,
  )

-- a seat that has no slot was left with none
pub none_left : {S : Type 0} (slots : List (ℕ × S)) (left_slots : List ℕ) → numbers slots ≡ left_slots → slots ≡ []
    → left_slots ≡ []
none_left {S = S} slots left_slots e n = sym e ∙ ap (λ (xs : List (ℕ × S)). numbers xs) n

-- what is asked of what callers see is so of what is within
pub join_asked : {S V K : Type 0} (holds : K → State S V → Type 0) (both : V → V → V) (spent : V)
    (may_join : V → V → Type 0) {t t' : TableShown K} {s s' o o' : SeatShown S V} → t' ≡ t → s' ≡ s → o' ≡ o
    → AsksJoin holds both spent may_join t s o → AsksJoin holds both spent may_join t' s' o'
join_asked holds both spent may_join {t} {t'} {s} {s'} {o} {o'} p q r a =
    subst (λ z. AsksJoin holds both spent may_join t' s' z) (sym r)
    (subst (λ z. AsksJoin holds both spent may_join t' z o) (sym q)
    (subst (λ z. AsksJoin holds both spent may_join z s o) (sym p) a))
