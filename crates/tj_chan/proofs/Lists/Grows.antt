-- Runs under more finds go on from those under fewer, and a run depends on what is found of its task's channels alone.
use Rattle.std.proofs.Common.{◌≡◌, ℕ, zero, suc, ◌+◌, ◌-◌, ◌*◌, ◌<◌, ◌≤◌, Bool, true, false, cond, nat_lt, ◌⊎◌, inl}
use Rattle.std.proofs.Common.{inr, ⊎_elim, List, [], ◌∷◌, ◌++◌, length, Option, Some, None, refl, sym, ap, ◌∙◌, subst}
use Rattle.std.proofs.Common.{arith}
use Rattle.std.specs.Prelude.{slice_get}
use Rattle.tj_base.specs.declared.cause.Cause.TheVariants as cause
use Rattle.tj_body.specs.Points.{IsIn, Begins}
use Rattle.tj_body.proofs.Lists.{begins_self, begins_more, begins_trans, in_begins, in_flat_map, from_flat_map}
use Rattle.tj_chan.specs.Chats.{ChatEnds}
use Rattle.tj_chan.specs.Channels.{ChatRules, Channel, SendingEnd, times, end_of, with_sent}
use Rattle.tj_chan.specs.Channels.{ChatStage, answered, receives, ended, failed, ChatTask, ChatPoint, Parting}
use Rattle.tj_chan.specs.Channels.{channels_at, are_among, after_send, after_send_by, after_receive, after_spawn}
use Rattle.tj_chan.specs.Channels.{after_chat_ask, after_fault, parting_of}
use Rattle.tj_chan.specs.ChannelLaws.{AreLawfulChats}
use Rattle.tj_chan.specs.declared.chat.ChatAnswer.TheVariants as answer
use Rattle.tj_chan.specs.declared.chat.ChatAsk.{ChatAsk}
use Rattle.tj_chan.specs.declared.chat.ChatAsk.TheVariants as ask
use Rattle.tj_chan.proofs.Lists.Runs.{Finds, Found, to_come, cut_off, value_of, after_found, run_stage, run_after}
use Rattle.tj_chan.proofs.Lists.Runs.{run_of, run_family, IsFoundIn, AreOneOn, IsFit}
use Rattle.tj_chan.proofs.Lists.Kept.{IsAliveAt, run_sound}

-- what q has opened, spawned and has as channels begins with what p has
abbrev pub GrowsTo : {C : Type 0} → ChatPoint C → ChatPoint C → Type 0
GrowsTo p q = Begins p.opened q.opened × Begins p.children q.children × Begins p.channels q.channels

not_ended : {A : Type 0} → ⊥ ⊎ A → A
not_ended h = ⊎_elim (λ x. absurd x) (λ x. x) h

-- the task has ended, or waits for an item that is to come
abbrev pub HasHalted : Finds → ChatStage → Type 0
HasHalted F (answered a) = ⊥
HasHalted F (receives c i) = F c i ≡ to_come
HasHalted F (ended v) = Unit {0}
HasHalted F (failed f) = Unit {0}

module _ {C : Type 0} where
  grows_self : (p : ChatPoint C) → GrowsTo p p
  grows_self p = (begins_self p.opened, begins_self p.children, begins_self p.channels)

  grows_trans : (p q r : ChatPoint C) → GrowsTo p q → GrowsTo q r → GrowsTo p r
  grows_trans p q r a b = (
    begins_trans p.opened q.opened r.opened a.0 b.0,
    begins_trans p.children q.children r.children a.1 b.1,
    begins_trans p.channels q.channels r.channels a.2 b.2,
  )

  -- an ask only adds
  ask_grows : (x : ChatAsk C) (p : ChatPoint C) → GrowsTo p (after_chat_ask x p)
  ask_grows (ask.Open k) p = (begins_more p.opened _, begins_self p.children, begins_more p.channels _)
  ask_grows (ask.Send c v) p = by (slice_get p.channels c) where
    by_end : (o : Option SendingEnd) → GrowsTo p (after_send_by v o p)
    by_end None = grows_self p
    by_end (Some e) = room (nat_lt (length e.sent) e.channel.items) where
      room : (b : Bool) → GrowsTo p (cond b
          (record p { stage = answered answer.Done; ends = with_sent e.channel v p.ends }) (after_fault cause.Kind p))
      room true = grows_self p
      room false = grows_self p

    by : (o : Option Channel) → GrowsTo p (after_send o v p)
    by None = grows_self p
    by (Some ch) = by_end (end_of ch p.ends)
  ask_grows (ask.Recv c) p = by (slice_get p.channels c) where
    by : (o : Option Channel) → GrowsTo p (after_receive o p)
    by None = grows_self p
    by (Some ch) = room (nat_lt (times ch p.received) ch.items) where
      room : (b : Bool) → GrowsTo p (cond b
          (record p { stage = receives ch (times ch p.received); received = p.received ++ ch ∷ [] })
          (after_fault cause.Kind p))
      room true = grows_self p
      room false = grows_self p
  ask_grows (ask.Spawn b pass give) p = by (are_among pass give) where
    made : (o : Option (List Channel)) (m : Option Parting) → GrowsTo p (after_spawn b o m p)
    made None m = grows_self p
    made (Some ps) None = grows_self p
    made (Some ps) (Some pt) = (begins_self p.opened, begins_more p.children _, begins_self p.channels)

    by : (z : Bool) → GrowsTo p (cond z
        (after_spawn b (channels_at p.channels pass) (parting_of (channels_at p.channels give) p) p)
        (after_fault cause.Kind p))
    by true = made (channels_at p.channels pass) (parting_of (channels_at p.channels give) p)
    by false = grows_self p
  ask_grows (ask.Emit i) p = grows_self p
  ask_grows x p = grows_self p

  -- how many steps a task with such a chatter makes at most from this stage
  abbrev pub chat_weight_at : (C → ℕ) → C → ChatStage → ℕ
  chat_weight_at left c (answered a) = 2 * left c + 2
  chat_weight_at left c (receives d i) = 2 * left c + 3
  chat_weight_at left c (ended v) = 0
  chat_weight_at left c (failed f) = 0

  -- and from this point
  abbrev pub chat_weight : (C → ℕ) → ChatPoint C → ℕ
  chat_weight left p = chat_weight_at left p.chatter p.stage

  ask_falls : (left : C → ℕ) (x : ChatAsk C) (p : ChatPoint C) (n : ℕ) → 0 < n
      → ChatEnds x ⊎ (2 * left p.chatter + 3 < n) → chat_weight left (after_chat_ask x p) < n
  ask_falls left (ask.Open k) p n z h = let l = not_ended h in omega arith
  ask_falls left (ask.Send c v) p n z h = by (slice_get p.channels c) where
    l : 2 * left p.chatter + 3 < n
    l = not_ended h

    by_end : (o : Option SendingEnd) → chat_weight left (after_send_by v o p) < n
    by_end None = z
    by_end (Some e) = room (nat_lt (length e.sent) e.channel.items) where
      room : (b : Bool) → chat_weight left (cond b
          (record p { stage = answered answer.Done; ends = with_sent e.channel v p.ends })
          (after_fault cause.Kind p)) < n
      room true = let m = l in omega arith
      room false = z

    by : (o : Option Channel) → chat_weight left (after_send o v p) < n
    by None = z
    by (Some ch) = by_end (end_of ch p.ends)
  ask_falls left (ask.Recv c) p n z h = by (slice_get p.channels c) where
    by : (o : Option Channel) → chat_weight left (after_receive o p) < n
    by None = z
    by (Some ch) = room (nat_lt (times ch p.received) ch.items) where
      room : (b : Bool) → chat_weight left (cond b
          (record p { stage = receives ch (times ch p.received); received = p.received ++ ch ∷ [] })
          (after_fault cause.Kind p)) < n
      room true = not_ended h
      room false = z
  ask_falls left (ask.Spawn b pass give) p n z h = by (are_among pass give) where
    l : 2 * left p.chatter + 3 < n
    l = not_ended h

    made : (o : Option (List Channel)) (m : Option Parting) → chat_weight left (after_spawn b o m p) < n
    made None m = z
    made (Some ps) None = z
    made (Some ps) (Some pt) = let m = l in omega arith

    by : (y : Bool) → chat_weight left (cond y
        (after_spawn b (channels_at p.channels pass) (parting_of (channels_at p.channels give) p) p)
        (after_fault cause.Kind p)) < n
    by true = made (channels_at p.channels pass) (parting_of (channels_at p.channels give) p)
    by false = z
  ask_falls left (ask.Emit i) p n z h = let l = not_ended h in omega arith
  ask_falls left x p n z h = z

module _ {C : Type 0} (rules : ChatRules C) where
  step_grows : (F : Finds) (st : ChatStage) (p : ChatPoint C) → GrowsTo p (run_stage rules F st p)
  step_grows F (answered a) p = ask_grows (rules.asks p.chatter a) (record p { chatter = rules.then p.chatter a })
  step_grows F (receives c i) p = by (F c i) where
    by : (f : Found) → GrowsTo p (after_found c i f p)
    by to_come = grows_self p
    by cut_off = grows_self p
    by (value_of v) = grows_self p
  step_grows F (ended v) p = grows_self p
  step_grows F (failed f) p = grows_self p

  module _ (F : Finds) (t : ChatTask C) where
    abbrev at : ℕ → ChatPoint C
    at k = run_after rules F k t

    later : (k j : ℕ) → GrowsTo (at k) (at (j + k))
    later k zero = subst (λ m. GrowsTo (at k) (at m)) (let z : k ≡ 0 + k = omega arith in z) (grows_self (at k))
    later k (suc j) = subst (λ m. GrowsTo (at k) (at m)) (let z : suc (j + k) ≡ suc j + k = omega arith in z)
        (grows_trans (at k) (at (j + k)) (at (suc (j + k))) (later k j) (step_grows F (at (j + k)).stage (at (j + k))))

    -- a later point goes on from an earlier one
    pub later_grows : (k m : ℕ) → k ≤ m → GrowsTo (at k) (at m)
    later_grows k m l =
        subst (λ z. GrowsTo (at k) (at z)) (let z : (m - k) + k ≡ m = omega arith in z) (later k (m - k))

  -- where more is found, each point of a run is one, no later, of the new run
  still_run : (F G : Finds) → IsFoundIn F G → (t : ChatTask C) (k : ℕ)
      → (j : ℕ) × (j ≤ k) × (run_after rules F k t ≡ run_after rules G j t)
  still_run F G h t zero = (0, omega arith, refl)
  still_run F G h t (suc k) = let r = still_run F G h t k in by r.0 r.1 r.2 (run_after rules F k t).stage refl where
    p : ChatPoint C
    p = run_after rules F k t

    by : (j : ℕ) → j ≤ k → run_after rules F k t ≡ run_after rules G j t → (st : ChatStage) → p.stage ≡ st
        → (m : ℕ) × (m ≤ suc k) × (run_stage rules F p.stage p ≡ run_after rules G m t)
    by j l e st s = at st s where
      stays : run_stage rules F p.stage p ≡ p
          → (m : ℕ) × (m ≤ suc k) × (run_stage rules F p.stage p ≡ run_after rules G m t)
      stays g = (j, omega arith, g ∙ e)

      goes : run_stage rules F p.stage p ≡ run_stage rules G p.stage p
          → (m : ℕ) × (m ≤ suc k) × (run_stage rules F p.stage p ≡ run_after rules G m t)
      goes g = (suc j, omega arith, g ∙ ap (λ (r : ChatPoint C). run_stage rules G r.stage r) e)

      at : (st : ChatStage) → p.stage ≡ st
          → (m : ℕ) × (m ≤ suc k) × (run_stage rules F p.stage p ≡ run_after rules G m t)
      at (receives c i) s = ⊎_elim
          (λ f. stays (ap (λ z. run_stage rules F z p) s ∙ ap (λ z. after_found c i z p) f))
          (λ f. goes (ap (λ z. run_stage rules F z p) s ∙ (ap (λ z. after_found c i z p) (sym f)
          ∙ ap (λ z. run_stage rules G z p) (sym s))))
          (h c i)
      at st s = goes (ap (λ z. run_stage rules F z p) s ∙ ap (λ z. run_stage rules G z p) (sym s))

  -- so a run goes on where more is found
  pub run_grows : (F G : Finds) → IsFoundIn F G → (t : ChatTask C) → GrowsTo (run_of rules F t) (run_of rules G t)
  run_grows F G h t =
      let r = still_run F G h t (2 * suc (rules.left t.chatter)) in
      subst (λ z. GrowsTo z (run_of rules G t)) (sym r.2) (later_grows G t r.0 (2 * suc (rules.left t.chatter)) r.1)

  -- and families have more tasks
  pub family_grows : (F G : Finds) → IsFoundIn F G → (d e : ℕ) → d ≤ e → (t u : ChatTask C)
      → IsIn u (run_family rules F d t) → IsIn u (run_family rules G e t)
  family_grows F G h zero zero l t u i = i
  family_grows F G h zero (suc e) l t u (inl i) = inl i
  family_grows F G h zero (suc e) l t u (inr i) = absurd i
  family_grows F G h (suc d) zero l t u i = absurd (omega arith)
  family_grows F G h (suc d) (suc e) l t u (inl i) = inl i
  family_grows F G h (suc d) (suc e) l t u (inr i) =
      let r = from_flat_map (run_family rules F d) u (run_of rules F t).children i in
      inr (in_flat_map (run_family rules G e) r.0 u (run_of rules G t).children
      (in_begins r.0 (run_of rules F t).children (run_of rules G t).children (run_grows F G h t).1 r.1)
      (family_grows F G h d e (omega arith) r.0 u r.2))

  module _ (lawful : AreLawfulChats rules) where
    -- Runs are determined by what is found of the channels of their end.
    module _ (F G : Finds) (t : ChatTask C) (fit : IsFit rules t) where
      pub determined : ((c : Channel) → IsIn c (run_of rules F t).channels → AreOneOn F G c) → (k : ℕ)
          → k ≤ 2 * suc (rules.left t.chatter) → run_after rules F k t ≡ run_after rules G k t
      determined h zero l = refl
      determined h (suc k) l = at (determined h k (omega arith)) p.stage refl where
        p : ChatPoint C
        p = run_after rules F k t

        grown : GrowsTo p (run_of rules F t)
        grown = later_grows F t k (2 * suc (rules.left t.chatter)) (omega arith)

        at : p ≡ run_after rules G k t → (st : ChatStage) → p.stage ≡ st
            → run_stage rules F p.stage p ≡ run_after rules G (suc k) t
        at e st s = same st s ∙ ap (λ (r : ChatPoint C). run_stage rules G r.stage r) e where
          same : (st : ChatStage) → p.stage ≡ st → run_stage rules F p.stage p ≡ run_stage rules G p.stage p
          same (receives c i) s =
              let a : IsAliveAt rules (receives c i) p =
              subst (λ z. IsAliveAt rules z p) s (run_sound rules lawful F k t fit).1 in
              let f = h c (in_begins c p.channels (run_of rules F t).channels grown.2 a.2) i a.3 in
              ap (λ z. run_stage rules F z p) s ∙ (ap (λ z. after_found c i z p) f
              ∙ ap (λ z. run_stage rules G z p) (sym s))
          same st s = ap (λ z. run_stage rules F z p) s ∙ ap (λ z. run_stage rules G z p) (sym s)

      pub run_determined : ((c : Channel) → IsIn c (run_of rules F t).channels → AreOneOn F G c)
          → run_of rules F t ≡ run_of rules G t
      run_determined h = determined h (2 * suc (rules.left t.chatter)) (omega arith)

    -- A run comes to its stop.
    module _ (F : Finds) (t : ChatTask C) (fit : IsFit rules t) where
      halts_or_falls : (st : ChatStage) (p : ChatPoint C) → p.stage ≡ st → IsAliveAt rules st p
          → HasHalted F st ⊎ (chat_weight rules.left (run_stage rules F st p) < chat_weight_at rules.left p.chatter st)
      halts_or_falls (answered a) p e h =
          let n = lawful p.chatter a h.0 in
          inr (ask_falls rules.left (rules.asks p.chatter a) (record p { chatter = rules.then p.chatter a })
          (2 * rules.left p.chatter + 2) (omega arith) (⊎_elim (λ x. inl x) (λ l. inr (omega arith)) n.falls))
      halts_or_falls (receives c i) p e h = by (F c i) refl where
        by : (f : Found) → F c i ≡ f → (F c i ≡ to_come)
            ⊎ (chat_weight rules.left (after_found c i (F c i) p) < 2 * rules.left p.chatter + 3)
        by to_come g = inl g
        by cut_off g = inr (subst (λ z. chat_weight rules.left (after_found c i z p) < 2 * rules.left p.chatter + 3)
            (sym g) (omega arith))
        by (value_of v) g = inr (subst
            (λ z. chat_weight rules.left (after_found c i z p) < 2 * rules.left p.chatter + 3) (sym g) (omega arith))
      halts_or_falls (ended v) p e h = inl tt
      halts_or_falls (failed f) p e h = inl tt

      pub still_halted : (st : ChatStage) (p : ChatPoint C) → p.stage ≡ st → HasHalted F st → run_stage rules F st p ≡ p
      still_halted (answered a) p e h = absurd h
      still_halted (receives c i) p e h = ap (λ z. after_found c i z p) h
      still_halted st p e h = refl

      runs_down : (k : ℕ) → HasHalted F (run_after rules F k t).stage
          ⊎ (chat_weight rules.left (run_after rules F k t) + k ≤ 2 * suc (rules.left t.chatter))
      runs_down zero = inr (omega arith)
      runs_down (suc k) =
          let p = run_after rules F k t in
          let stay : HasHalted F p.stage → HasHalted F (run_stage rules F p.stage p).stage =
          λ h. subst (λ (z : ChatPoint C). HasHalted F z.stage) (sym (still_halted p.stage p refl h)) h in
          ⊎_elim (λ h. inl (stay h))
          (λ l. ⊎_elim (λ h. inl (stay h)) (λ w. inr (omega arith))
          (halts_or_falls p.stage p refl (run_sound rules lawful F k t fit).1))
          (runs_down k)

      light : (p : ChatPoint C) (st : ChatStage) → chat_weight_at rules.left p.chatter st ≤ 0 → HasHalted F st
      light p (ended v) h = tt
      light p (failed f) h = tt
      light p st h = absurd (omega arith)

      pub run_halts : HasHalted F (run_of rules F t).stage
      run_halts =
          let p = run_of rules F t in
          ⊎_elim (λ h. h) (λ l. light p p.stage (omega arith)) (runs_down (2 * suc (rules.left t.chatter)))
