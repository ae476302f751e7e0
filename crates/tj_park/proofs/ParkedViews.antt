-- A task is parked, and then left in a chain, or taken back.
use Rattle.tj_park.proofs.Prelude.{AreCells, Backing, Bool, HasAlarmed, HasNoRecord, Head, Holds, IsAdded, IsIn}
use Rattle.tj_park.proofs.Prelude.{KnowsMore, LooksOn, None, Option, Program, Rec, SeatMe, Some, TakesBack, View, Way}
use Rattle.tj_park.proofs.Prelude.{[], ap, arith, backing_idle, cond, custody_of, eq-eqb, false, held_in, hold, inl}
use Rattle.tj_park.proofs.Prelude.{join_steps, map, more_on, more_same, none_some, push_behind, raised_by_way, refl, rest}
use Rattle.tj_park.proofs.Prelude.{subst, suc, sym, true, without_push, ℕ, ◌*◌, ◌++◌, ◌+◌, ◌-◌, ◌<◌, ◌∙◌, ◌∷◌, ◌≡◌, ◌≤◌}
use Rattle.tj_words.specs.declared.view.Push.{Push}
use Rattle.tj_words.specs.Calls.ExchangeViews.{MayGoBack}
use Rattle.tj_words.specs.Calls.LiveViews.{IfRecord, MayLowerLive, SlotsOf, homed, live_lowered, lowered_with}
use Rattle.tj_words.specs.Calls.ParkSteps.{new_push, with_tokens}
use Rattle.tj_words.specs.Calls.WaitViews.{MayPark, parked}
use Rattle.tj_park.specs.Inner.JoinViews.{FindsShutOnce}
use Rattle.tj_park.specs.ParkViews.{HasFoundChains, MayParkTask, LeftTask, GaveBack}
use Rattle.tj_park.proofs.LeftTasks.{holds_before, puts_home}

-- the sums of steps
left_steps : (s v c : ℕ) → s ≤ suc v + (2 * c + 3) → suc s ≤ v + (2 * c + 6)
left_steps s v c h = omega arith

back_steps : (u s v c : ℕ) → s ≤ suc v + (2 * c + 3) → u ≤ s + 2 → u ≤ v + (2 * c + 6)
back_steps u s v c h l = omega arith

module _ {B : Type 0} where
  -- where no record lies in the slot that was taken last, none is to be spoken of
  pub no_record : (F : ℕ → Rec B → Type 0) (slots : SlotsOf B) → HasNoRecord slots → IfRecord F slots
  no_record F [] n = tt
  no_record F ((t, None) ∷ slots) n = tt
  no_record F ((t, Some r) ∷ slots) n = absurd n

  -- and LIVE down is a token less alone
  pub lowered_alone : (v : View B) (slots : SlotsOf B) → HasNoRecord slots
      → lowered_with v slots ≡ (with_tokens (v.tokens - 1) v, slots)
  lowered_alone v [] n = refl
  lowered_alone v ((t, None) ∷ slots) n = refl
  lowered_alone v ((t, Some r) ∷ slots) n = absurd n

  module _ {program : Bool → B → Program B} (cells : ℕ) {t q : ℕ} {way : Way} {r : Rec B} {v : View B}
      (may : MayParkTask program t q way r v) where
    -- Parked may be stored
    pub may_park : (l : SlotsOf B) → MayPark program t q way (v, (t, Some r) ∷ l)
    may_park l = record {
      walks = may.walks;
      settles = may.settles;
      no_hand = λ h e. none_some v.hand h may.idle.hand e;
      record_of = r;
      puts = puts_home program t may.walks.custody r v l may.leaves;
      unfinished = may.leaves.unfinished;
      waits = may.waits;
    }

    -- the task is parked, and the record is home
    abbrev pub gone : View B
    gone = record (parked t q way v) { put_home = r ∷ v.put_home }

    -- its push is the one that is to come then
    pub one_push : gone.pushes ≡ new_push t q way ∷ []
    one_push = ap (λ l. new_push t q way ∷ l) may.idle.pushes

    knows_parked : KnowsMore v gone
    knows_parked = more_same v gone ([], refl)

    -- w is the view after the task was added to the chain, or the head found shut
    module _ (w : View B) (looks : LooksOn cells gone w)
        (few : w.steps ≤ suc v.steps + join_steps cells) (news : HasFoundChains cells v w) where
      knows : KnowsMore v w
      knows = more_on v gone w knows_parked looks.knows

      alarms_before : Holds HasAlarmed w → Holds HasAlarmed v
      alarms_before h =
          holds_before HasAlarmed t v (h.0, h.1, ap (λ l. held_in l h.0) (sym looks.tasks) ∙ h.2, h.3)

      tokens : w.tokens ≡ suc v.tokens
      tokens = looks.counts.tokens

      module _ (added : w.pushes ≡ []) where
        abbrev left : View B
        left = with_tokens (w.tokens - 1) w

        backing : Backing left
        backing = backing_idle left added (looks.shuts ∙ may.idle.shuts) (looks.rest ∙ may.idle.rest)
            (λ d. subst (IsIn d.0) (looks.hand.dues ∙ may.idle.dues) d.1)
            (λ h. let some : 0 < v.tokens = may.alarms (alarms_before h) in
            let e : w.tokens ≡ suc v.tokens = tokens in omega arith)

        -- LIVE may be lowered
        pub lower_left : (l : SlotsOf B) → HasNoRecord l → MayLowerLive program (w, l)
        lower_left l n = record {
          token = let e : w.tokens ≡ suc v.tokens = tokens in omega arith;
          shelves = no_record _ l n;
          backing = subst (λ (z : SeatMe B). Backing z.0) (sym (lowered_alone w l n)) backing;
        }

        -- the task is left
        pub left_task : w.closed ≡ v.closed → (m : SeatMe B) (l : SlotsOf B) → HasNoRecord l → m ≡ live_lowered (w, l)
            → LeftTask cells t v m.0 × (m.1 ≡ l)
        left_task closed m l n e = subst (λ (z : SeatMe B). LeftTask cells t v z.0 × (z.1 ≡ l))
            (sym (e ∙ lowered_alone w l n)) (
              record {
                parked = record {
                  knows = more_on v w left knows (more_same w left ([], refl));
                  all = λ a e c. looks.all;
                  hand = record { hand = looks.hand.hand; dues = looks.hand.dues };
                  wakes = record { pushes = added ∙ sym may.idle.pushes; shuts = looks.shuts; rest = looks.rest };
                  counts = record {
                    tokens = let a : w.tokens ≡ suc v.tokens = tokens in omega arith;
                    cleared = looks.counts.cleared;
                    refused = looks.counts.refused;
                  };
                  plain_loads = looks.plain_loads;
                  once_loads = looks.once_loads;
                  steps = left_steps w.steps v.steps cells few;
                  pushes = record { chains = news.chains; found = news.found; few = news.few };
                };
                tasks = looks.tasks;
                closed = closed;
                records = looks.records;
              },
              refl,
            )

      module _ (shut : IsAdded q false gone w) where
        -- the push that is still to come
        one_left : w.pushes ≡ push_behind t q way shut.0.0 ∷ []
        one_left = shut.0.1 ∙ ap (map (λ (p : Push). record p { next = shut.0.0 })) one_push

        -- the wait may be cleared
        pub may_go_back : MayGoBack t q way w
        may_go_back = record {
          push = push_behind t q way shut.0.0;
          has = subst (IsIn (push_behind t q way shut.0.0)) (sym one_left) (inl refl);
          task = refl;
          cell = refl;
          its_way = refl;
          shut = shut.1;
          table = (may.leaves.told.0, knows.about ∙ may.leaves.told.1);
          clears = record {
            token = let e : w.tokens ≡ suc v.tokens = tokens in omega arith;
            room = subst (λ n. n + raised_by_way way ≤ w.lot) (sym looks.counts.cleared)
                (subst (λ n. v.cleared + raised_by_way way ≤ n) (sym knows.lot) may.room);
          };
          alarms = λ h. let some : 0 < v.tokens = may.alarms (alarms_before h) in
              let e : w.tokens ≡ suc v.tokens = tokens in omega arith;
        }

        without_one : (next : Option Head) → without_push t (push_behind t q way next ∷ []) ≡ []
        without_one next = ap (λ (b : Bool). cond b [] (push_behind t q way next ∷ [])) (eq-eqb t t refl)

        -- the task is given back
        pub gave_back : w.closed ≡ q ∷ v.closed → (x : Rec B) (u : View B) → TakesBack program t q x w u
            → GaveBack program cells t q x v u
        gave_back closed x u b = record {
          parked = record {
            knows = more_on v w u knows b.knows;
            all = λ a e c _. subst (λ n. AreCells n u.born) c (b.taken.all a (b.knows.about ∙ (knows.about ∙ e)));
            hand = record { hand = b.hand.hand ∙ looks.hand.hand; dues = b.hand.dues ∙ looks.hand.dues };
            wakes = record {
              pushes = b.pushes ∙ (ap (without_push t) one_left ∙ (without_one shut.0.0 ∙ sym may.idle.pushes));
              shuts = b.shuts ∙ looks.shuts;
              rest = b.rest ∙ looks.rest;
            };
            counts = record {
              tokens = let a : w.tokens ≡ suc v.tokens = tokens in
                  let c : u.tokens ≡ w.tokens - 1 = b.tokens in omega arith;
              cleared = b.cleared ∙ looks.counts.cleared;
              refused = b.refused ∙ looks.counts.refused;
            };
            plain_loads = b.plain_loads ∙ looks.plain_loads;
            once_loads = b.once_loads ∙ looks.once_loads;
            steps = back_steps u.steps w.steps v.steps cells few b.steps;
            pushes = record {
              chains = news.chains;
              found = b.found ∙ news.found;
              few = news.few;
            };
          };
          tasks = b.tasks ∙ ap (hold (custody_of x)) looks.tasks;
          taken = b.taken;
          waited = b.waited;
          shut = b.knows.closed q shut.1;
          closed = b.closed ∙ closed;
          entry = (shut.2.0, b.knows.filled shut.2.0 shut.2.1, shut.2.2);
          records = b.records ∙ ap (λ l. x ∷ l) looks.records;
        }

    -- the record was put into its slot, so Parked may be stored
    pub parked_may : {l : SlotsOf B} {m1 : SeatMe B} → m1 ≡ (v, (t, Some r) ∷ l) → MayPark program t q way m1
    parked_may {l} laid = subst (MayPark program t q way) (sym laid) (may_park l)

    -- the seats as the call goes on: with the record in its slot, with Parked stored, and after the way to the chain
    module _ {l : SlotsOf B} {m1 m2 : SeatMe B} (m3 : SeatMe B) (laid : m1 ≡ (v, (t, Some r) ∷ l))
        (stored : m2 ≡ (homed m1.1 (parked t q way m1.0), rest m1.1)) where
      is_parked : m2 ≡ (gone, l)
      is_parked = stored ∙ ap (λ (z : SeatMe B). (homed z.1 (parked t q way z.0), rest z.1)) laid

      pub parked_push : m2.0.pushes ≡ new_push t q way ∷ []
      parked_push = ap (λ (z : SeatMe B). z.0.pushes) is_parked ∙ one_push

      module _ (same : m3.1 ≡ m2.1) (looks : LooksOn cells m2.0 m3.0) (few : m3.0.steps ≤ m2.0.steps + join_steps cells)
          (chains : HasFoundChains cells m2.0 m3.0) (b : Bool) (added : IsAdded q b m2.0 m3.0)
          (closes : FindsShutOnce q b m2.0 m3.0) where
        pub parked_slots : m3.1 ≡ l
        parked_slots = same ∙ ap (λ (z : SeatMe B). z.1) is_parked

        joined : m3 ≡ (m3.0, l)
        joined = ap (λ s. (m3.0, s)) parked_slots

        looked : LooksOn cells gone m3.0
        looked = subst (λ (z : SeatMe B). LooksOn cells z.0 m3.0) is_parked looks

        in_few : m3.0.steps ≤ suc v.steps + join_steps cells
        in_few = subst (λ (z : SeatMe B). m3.0.steps ≤ z.0.steps + join_steps cells) is_parked few

        news : HasFoundChains cells v m3.0
        news = record {
          chains = chains.chains;
          found = chains.found ∙ ap (λ (z : SeatMe B). chains.chains ++ z.0.found) is_parked;
          few = chains.few;
        }

        module _ (was_added : b ≡ true) (none : HasNoRecord l) where
          pushed : m3.0.pushes ≡ []
          pushed = subst (λ z. IsAdded q z m2.0 m3.0) was_added added

          pub parked_lower : MayLowerLive program m3
          parked_lower = subst (MayLowerLive program) (sym joined) (lower_left m3.0 looked in_few news pushed l none)

          pub parked_left : {m4 : SeatMe B} → m4 ≡ live_lowered m3 → LeftTask cells t v m4.0 × (m4.1 ≡ l)
          parked_left {m4} e = left_task m3.0 looked in_few news pushed
              (subst (λ z. FindsShutOnce q z m2.0 m3.0) was_added closes
              ∙ ap (λ (z : SeatMe B). z.0.closed) is_parked) m4 l none (e ∙ ap live_lowered joined)

          -- the record that was put into the slot is home
          pub left_home : {m4 : SeatMe B} → m4 ≡ live_lowered m3 → m4.0.put_home ≡ r ∷ v.put_home
          left_home {m4} e = ap (λ (z : SeatMe B). z.0.put_home)
              (e ∙ (ap live_lowered joined ∙ lowered_alone m3.0 l none)) ∙ looked.put_home

        module _ (was_shut : b ≡ false) where
          stays : IsAdded q false gone m3.0
          stays = subst (λ (z : SeatMe B). IsAdded q false z.0 m3.0) is_parked
              (subst (λ z. IsAdded q z m2.0 m3.0) was_shut added)

          pub parked_back_may : MayGoBack t q way m3.0
          parked_back_may = may_go_back m3.0 looked in_few news stays

          pub parked_back : {x : Rec B} {u : View B} → TakesBack program t q x m3.0 u
              → GaveBack program cells t q x v u
          parked_back {x} {u} back = gave_back m3.0 looked in_few news stays
              (subst (λ z. FindsShutOnce q z m2.0 m3.0) was_shut closes
              ∙ ap (λ (z : SeatMe B). q ∷ z.0.closed) is_parked) x u back

          -- the record that was put into the slot went home before
          pub back_home : {x : Rec B} {u : View B} → TakesBack program t q x m3.0 u → u.put_home ≡ r ∷ v.put_home
          back_home back = back.put_home ∙ looked.put_home
