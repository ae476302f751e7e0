-- The ask Spawn is linked: it is a fork that passes all promises of the passed channels and hands the unset ones of the
-- given.
use Rattle.std.proofs.Common.{◌≡◌, ℕ, suc, ◌+◌, Bool, true, false, cond, ◌&&◌, inl, inr, ⊎_elim, List, []}
use Rattle.std.proofs.Common.{◌∷◌, ◌++◌, map, length, Option, Some, None, Ok, refl, sym, ap, ◌∙◌, subst, arith}
use Rattle.std.proofs.Common.{length-append}
use Rattle.std.proofs.lemmas.List.{map-append, length-map}
use Rattle.std.specs.Prelude.{slice_get}
use Rattle.std.specs.List.{flat_map, list_all}
use Rattle.tj_base.specs.ForkOrder.{Name, child}
use Rattle.tj_base.specs.declared.cause.Cause.TheVariants as cause
use Rattle.tj_body.specs.Programs.{Program}
use Rattle.tj_body.specs.History.{Assignment, to_task, to_promise, reference, hand_all, next_child, next_name}
use Rattle.tj_body.specs.History.{after_fork}
use Rattle.tj_body.specs.History.{after_try_fork, after_ask}
use Rattle.tj_body.specs.Points.{IsIn, IsPointOf}
use Rattle.tj_body.specs.declared.ask.Answer.TheVariants as told
use Rattle.tj_body.specs.declared.ask.Ask.TheVariants as body
use Rattle.tj_body.specs.declared.point.Entry.{Entry}
use Rattle.tj_body.specs.declared.point.Reference.{Reference}
use Rattle.tj_body.specs.declared.point.Point.{Point}
use Rattle.tj_body.proofs.Lists.{in_left, in_right, in_either, in_map, to_map}
use Rattle.tj_chan.specs.Channels.{ChatRules, Channel, SendingEnd, ChannelState, ChatTask, ChatPoint, Parting}
use Rattle.tj_chan.specs.Channels.{channels_at}
use Rattle.tj_chan.specs.Channels.{found_both, are_among, part_with, parting_of, all_unsent, next_chat, after_spawn}
use Rattle.tj_chan.specs.Channels.{after_fault}
use Rattle.tj_chan.specs.ChannelRounds.{left_of}
use Rattle.tj_chan.specs.ChanBodies.{Turn, turn, fault, counted, is_there, can_give, child_body, row_at}
use Rattle.tj_chan.specs.ChanBodies.{all_places, unset_places, without_ends}
use Rattle.tj_chan.specs.declared.body.ChanBody.{ChanBody}
use Rattle.tj_chan.specs.declared.body.Due.TheVariants as due
use Rattle.tj_chan.specs.declared.chat.ChatAsk.TheVariants as ask
use Rattle.tj_chan.specs.declared.rows.PromiseRow.{PromiseRow}
use Rattle.tj_chan.proofs.Lists.Runs.{IsTidy}
use Rattle.tj_chan.proofs.Linked.Links.{references_of, body_of, task_of, AreRowsOf, IsReadyFor, AreWritesFor, IsWritten}
use Rattle.tj_chan.proofs.Linked.Steps.{program, IsLinked, AskIsLinked}
use Rattle.tj_chan.proofs.Lists.Apart.{IsParting, parting_is}
use Rattle.tj_chan.proofs.Lists.Kept.{among_there}
use Rattle.tj_chan.proofs.Linked.Begins.{get_front}
use Rattle.tj_chan.proofs.Linked.Rows.{is_some, all_there}
use Rattle.tj_chan.proofs.Asks.SpawnRows.{IsGiving, giving, all_passed, unset_given, child_rows}
use Rattle.tj_chan.proofs.Asks.SpawnHands.{hand_parting}
use Rattle.tj_chan.proofs.Asks.Faults.{fault_linked, left_open}

-- a place that isn't there, where not all channels are found
none_at : (cs : List Channel) (ks : List ℕ) → channels_at cs ks ≡ None → (k : ℕ) × IsIn k ks × (slice_get cs k ≡ None)
none_at cs [] h = cc
none_at cs (k ∷ ks) h = by (slice_get cs k) refl (channels_at cs ks) refl (λ g. none_at cs ks g) h where
  by : (x : Option Channel) → slice_get cs k ≡ x → (y : Option (List Channel)) → channels_at cs ks ≡ y
      → (channels_at cs ks ≡ None → (j : ℕ) × IsIn j ks × (slice_get cs j ≡ None)) → found_both x y ≡ None
      → (j : ℕ) × IsIn j (k ∷ ks) × (slice_get cs j ≡ None)
  by None e y f rec g = (k, inl refl, e)
  by (Some c) e None f rec g = let r = rec f in (r.0, inr r.1, r.2)
  by (Some c) e (Some l) f rec g = cc

-- where they are found, each place is there
some_at : (cs : List Channel) (ks : List ℕ) (l : List Channel) → channels_at cs ks ≡ Some l → (k : ℕ) → IsIn k ks
    → ¬ (slice_get cs k ≡ None)
some_at cs [] l h k i g = i
some_at cs (j ∷ js) l h k i g =
    by (slice_get cs j) refl (channels_at cs js) refl (λ m n q. some_at cs js m n k q g) h i where
      by : (x : Option Channel) → slice_get cs j ≡ x → (y : Option (List Channel)) → channels_at cs js ≡ y
          → ((m : List Channel) → channels_at cs js ≡ Some m → IsIn k js → ⊥) → found_both x y ≡ Some l
          → IsIn k (j ∷ js) → ⊥
      by None e y f rec u v = let z : None ≡ Some l = u in cc
      by (Some c) e None f rec u v = let z : None ≡ Some l = u in cc
      by (Some c) e (Some m) f rec u (inl q) =
          let z : None ≡ Some c = sym g ∙ (ap (slice_get cs) q ∙ e) in cc
      by (Some c) e (Some m) f rec u (inr q) = rec m f q

-- rows stay those of their channels where there are more references
more_references : (channels : List Channel) (ends : List SendingEnd) (received : List Channel)
    (references more : List Reference) (rows : List PromiseRow) → AreRowsOf channels ends received references rows
    → AreRowsOf channels ends received (references ++ more) rows
more_references channels ends received references more rows a = record {
  count = a.count;
  each = λ k c h. let r = a.each k c h in (
    r.0,
    r.1,
    record {
      first = r.2.first;
      items = r.2.items;
      base = λ i l. get_front references more (r.0.base + i) _ (r.2.base i l);
      held = r.2.held;
      sent = r.2.sent;
      asked = r.2.asked;
    },
  );
  known = a.known;
}

-- names of promises
names_back : (l : List Name) → map (λ (r : Reference). r.name) (map to_promise l) ≡ l
names_back [] = refl
names_back (x ∷ xs) = ap (λ z. x ∷ z) (names_back xs)

map_map : {A B D : Type 0} (f : B → D) (g : A → B) (l : List A) → map f (map g l) ≡ map (λ x. f (g x)) l
map_map f g [] = refl
map_map f g (x ∷ xs) = ap (λ z. f (g x) ∷ z) (map_map f g xs)

-- a test of three parts
first_fails : (a b c : Bool) → a ≡ false → (a && b && c) ≡ false
first_fails a b c e = ap (λ z. z && b && c) e

second_fails : (a b c : Bool) → b ≡ false → (a && b && c) ≡ false
second_fails true b c e = ap (λ z. z && c) e
second_fails false b c e = refl

third_fails : (a b c : Bool) → c ≡ false → (a && b && c) ≡ false
third_fails true true c e = e
third_fails true false c e = refl
third_fails false b c e = refl

-- What is left by a task that gives some of its ends.
module _ (given : List SendingEnd) (name : Name) (handed ends : List SendingEnd) (writes : List (Name × Entry))
    (gs : List Channel) (pt : Parting) (part : IsParting gs ends pt) where
  abbrev before : List (Channel × ChannelState)
  before = map (left_of false) handed ++ map (left_of false) ends

  abbrev after : List (Channel × ChannelState)
  after = map (left_of false) (handed ++ pt.given) ++ map (left_of false) pt.kept

  to_after : (v : Channel × ChannelState) → IsIn v before → IsIn v after
  to_after v i = ⊎_elim
      (λ a. let m = in_map (left_of false) v handed a in
      first m.0 m.2 (in_left m.0 handed pt.given m.1))
      (λ a. let m = in_map (left_of false) v ends a in
      ⊎_elim (λ b. first m.0 m.2 (in_right m.0 handed pt.given b)) (λ b. second m.0 m.2 b) (part.stays m.0 m.1))
      (in_either v (map (left_of false) handed) (map (left_of false) ends) i) where
        first : (e : SendingEnd) → v ≡ left_of false e → IsIn e (handed ++ pt.given) → IsIn v after
        first e h j = subst (λ x. IsIn x after) (sym h)
            (in_left (left_of false e) (map (left_of false) (handed ++ pt.given)) (map (left_of false) pt.kept)
            (to_map (left_of false) e (handed ++ pt.given) j))

        second : (e : SendingEnd) → v ≡ left_of false e → IsIn e pt.kept → IsIn v after
        second e h j = subst (λ x. IsIn x after) (sym h)
            (in_right (left_of false e) (map (left_of false) (handed ++ pt.given)) (map (left_of false) pt.kept)
            (to_map (left_of false) e pt.kept j))

  to_before : (v : Channel × ChannelState) → IsIn v after → IsIn v before
  to_before v i = ⊎_elim
      (λ a. let m = in_map (left_of false) v (handed ++ pt.given) a in
      ⊎_elim (λ b. first m.0 m.2 b) (λ b. second m.0 m.2 (part.given m.0 b)) (in_either m.0 handed pt.given m.1))
      (λ a. let m = in_map (left_of false) v pt.kept a in second m.0 m.2 (part.kept m.0 m.1))
      (in_either v (map (left_of false) (handed ++ pt.given)) (map (left_of false) pt.kept) i) where
        first : (e : SendingEnd) → v ≡ left_of false e → IsIn e handed → IsIn v before
        first e h j = subst (λ x. IsIn x before) (sym h)
            (in_left (left_of false e) (map (left_of false) handed) (map (left_of false) ends)
            (to_map (left_of false) e handed j))

        second : (e : SendingEnd) → v ≡ left_of false e → IsIn e ends → IsIn v before
        second e h j = subst (λ x. IsIn x before) (sym h)
            (in_right (left_of false e) (map (left_of false) handed) (map (left_of false) ends)
            (to_map (left_of false) e ends j))

  parted_writes : AreWritesFor given name before writes → AreWritesFor given name after writes
  parted_writes w = record {
    told = λ q e i. ⊎_elim (λ a. inl a) (λ v. inr (v.0, v.1, to_after v.0 v.2, v.3, v.4, v.5)) (w.told q e i);
    written = λ v i e j l f. w.written v i e (to_before v j) l f;
    plain = w.plain;
  }

module _ {C : Type 0} (rules : ChatRules C) (root : C) (strict : Bool) where
  abbrev P : Program (ChanBody C)
  P = program rules root strict

  module _ (c : C) (pass give : List ℕ) (U : Assignment) (t : ChatTask C) (p : ChatPoint C) (b : Point (ChanBody C))
      (s : ChanBody C) (tidy : IsTidy p) (ready : IsReadyFor p b s) (w : IsWritten t p b) where
    -- the body that forks
    abbrev parent : ChanBody C
    parent = record s { rows = without_ends s.rows give; due = due.Child }

    abbrev forking : Point (ChanBody C)
    forking = record b { body = parent }

    abbrev passed_places : List ℕ
    passed_places = flat_map (λ k. all_places (row_at s.rows k)) pass

    abbrev handed_places : List ℕ
    handed_places = flat_map (λ k. unset_places (row_at s.rows k)) give

    abbrev IsAt : Point (ChanBody C) → Type 0
    IsAt x = IsPointOf P.rules U (task_of t) x

    abbrev turn_by : Bool → Turn C
    turn_by z = cond z
        (turn (body.Fork (child_body c pass give s) passed_places handed_places) due.Child
        (record s { rows = without_ends s.rows give }))
        (fault s)

    abbrev IsTurnAt : Bool → Type 0
    IsTurnAt z = IsAt (after_ask strict (turn_by z).ask (record b { body = (turn_by z).body }))

    -- the spawn that is made
    spawned : (ps gs : List Channel) (pt : Parting) → channels_at p.channels pass ≡ Some ps
        → channels_at p.channels give ≡ Some gs → part_with gs p.ends ≡ Some pt → IsTurnAt true
        → IsLinked rules root strict U t (after_spawn c (Some ps) (Some pt) p)
    spawned ps gs pt h g o at = (
      final,
      subst IsAt (λ i. after_try_fork (forked i) (passed i) (names i) (left i) forking) at,
      record {
        of_task = (
          ready.of_task.0,
          ap suc ready.of_task.1,
          ready.of_task.2,
          (λ i. ready.of_task.3 i ++ kid i ∷ [])
              ∙ sym (map-append task_of p.children (next_chat c ps pt.given p ∷ [])),
          ready.of_task.4,
        );
        at_stage = (
          told.Local (length b.references),
          counted (told.Local (length b.references)) parent,
          refl,
          refl,
          record {
            chatter = ready.body.chatter;
            places = let m = ready.body.places in
                let n = length-append b.references (to_task (next_name forking) ∷ []) in omega arith;
            rows = more_references p.channels pt.kept p.received b.references (to_task (next_name forking) ∷ [])
                (without_ends s.rows give) (gave.kept pt o);
          },
        );
        holds = refl;
        owed = ready.owed;
      },
      parted_writes t.given p.name p.handed_on p.ends b.writes gs pt part
          (left_open rules root strict t p b ready.is_open w),
    ) where
      are : AreRowsOf p.channels p.ends p.received b.references s.rows
      are = ready.body.rows

      gave : IsGiving p.channels p.received b.references tidy.apart give gs p.ends s.rows
      gave = giving p.channels p.received b.references tidy.apart give gs p.ends s.rows are tidy.once g

      part : IsParting gs p.ends pt
      part = parting_is gs p.ends pt tidy.once o

      passed : map (reference forking) passed_places ≡ flat_map references_of ps
      passed = all_passed p.channels p.received b.references tidy.apart b.name p.ends s.rows are tidy.once tidy.holds
          pass ps h

      handed : map (reference forking) handed_places ≡ map to_promise (all_unsent pt.given)
      handed = unset_given p.channels p.received b.references tidy.apart b.name p.ends s.rows are tidy.once tidy.holds
          give gs p.ends (λ e i. i) g pt o

      names : map (λ k. (reference forking k).name) handed_places ≡ all_unsent pt.given
      names = sym (map_map (λ (r : Reference). r.name) (reference forking) handed_places)
          ∙ (ap (map (λ (r : Reference). r.name)) handed ∙ names_back (all_unsent pt.given))

      left : hand_all b.holds (map (reference forking) handed_places) ≡ Ok (all_unsent pt.kept)
      left = (λ i. hand_all (ready.holds i) (handed i))
          ∙ hand_parting gs p.ends tidy.once
          (λ d f i j. tidy.apart d.channel f.channel (tidy.holds d i) (tidy.holds f j)) pt o

      kid_task : ChatTask C
      kid_task = next_chat c ps pt.given p

      count : length passed_places ≡ length (flat_map references_of ps)
      count = sym (length-map passed_places (reference forking)) ∙ ap length passed

      forked : child_body c pass give s ≡ body_of kid_task
      forked =
          let r = child_rows p.channels p.received b.references tidy.apart b.name p.ends s.rows are tidy.once tidy.holds
          give gs g pt o part.given [] [] refl (λ d i. absurd i) 1 pass ps h in
          λ i. record { chatter = c; rows = r i; places = suc (count i); due = due.Start }

      final : Point (ChanBody C)
      final =
          after_fork (body_of kid_task) (flat_map references_of ps) (all_unsent pt.given) (all_unsent pt.kept) forking

      kid : next_child (body_of kid_task) (flat_map references_of ps) (all_unsent pt.given) forking ≡ task_of kid_task
      kid = λ i. record {
        name = child (ready.of_task.0 i) (suc (ready.of_task.1 i));
        body = body_of kid_task;
        passed = flat_map references_of ps;
        handed = all_unsent pt.given;
      }

    fails : (z : Bool) → z ≡ false → IsTurnAt z → IsLinked rules root strict U t (after_fault cause.Kind p)
    fails z e at = fault_linked rules root strict U t p b s (record s { due = due.Nothing }) ready w cause.Kind
        (subst IsTurnAt e at)

    abbrev there : Bool
    there = list_all (is_there s.rows) pass

    abbrev can : Bool
    can = can_give s.rows give

    there_is : there ≡ is_some (channels_at p.channels pass)
    there_is = all_there p.channels p.received b.references tidy.apart p.ends s.rows ready.body.rows pass

    parts : (ps gs : List Channel) → are_among pass give ≡ true → channels_at p.channels pass ≡ Some ps
        → channels_at p.channels give ≡ Some gs → IsTurnAt (there && are_among pass give && can)
        → (o : Option Parting) → part_with gs p.ends ≡ o
        → IsLinked rules root strict U t (after_spawn c (Some ps) o p)
    parts ps gs a h g at o e = by o e (gave.can ∙ ap is_some e) where
      gave : IsGiving p.channels p.received b.references tidy.apart give gs p.ends s.rows
      gave = giving p.channels p.received b.references tidy.apart give gs p.ends s.rows ready.body.rows tidy.once g

      by : (o : Option Parting) → part_with gs p.ends ≡ o → can ≡ is_some o
          → IsLinked rules root strict U t (after_spawn c (Some ps) o p)
      by None e f = fails (there && are_among pass give && can) (third_fails there (are_among pass give) can f) at
      by (Some pt) e f =
          let m = there_is ∙ ap is_some h in
          spawned ps gs pt h g e (subst IsTurnAt (λ i. m i && a i && f i) at)

    gives : (ps : List Channel) → are_among pass give ≡ true → channels_at p.channels pass ≡ Some ps
        → IsTurnAt (there && are_among pass give && can) → (o : Option (List Channel)) → channels_at p.channels give ≡ o
        → IsLinked rules root strict U t (after_spawn c (Some ps) (parting_of o p) p)
    gives ps a h at None g =
        let r = none_at p.channels give g in
        absurd (some_at p.channels pass ps h r.0 (among_there pass give a r.0 r.1) r.2)
    gives ps a h at (Some gs) g = parts ps gs a h g at (part_with gs p.ends) refl

    passes : are_among pass give ≡ true → IsTurnAt (there && are_among pass give && can) → (o : Option (List Channel))
        → channels_at p.channels pass ≡ o
        → IsLinked rules root strict U t (after_spawn c o (parting_of (channels_at p.channels give) p) p)
    passes a at None h = fails (there && are_among pass give && can)
        (first_fails there (are_among pass give) can (there_is ∙ ap is_some h)) at
    passes a at (Some ps) h = gives ps a h at (channels_at p.channels give) refl

    tries : IsTurnAt (there && are_among pass give && can) → (z : Bool) → are_among pass give ≡ z
        → IsLinked rules root strict U t (cond z
        (after_spawn c (channels_at p.channels pass) (parting_of (channels_at p.channels give) p) p)
        (after_fault cause.Kind p))
    tries at true a = passes a at (channels_at p.channels pass) refl
    tries at false a = fails (there && are_among pass give && can)
        (second_fails there (are_among pass give) can a) at

  pub spawns_linked : (c : C) (pass give : List ℕ) → AskIsLinked rules root strict (ask.Spawn c pass give)
  spawns_linked c pass give U t p b s tidy a ready w at =
      tries c pass give U t p b s tidy ready w at (are_among pass give) refl
