-- A task is added to a chain: how the loads of the head and the pushes that fail go on.
use Rattle.tj_park.proofs.Prelude.{AreCells, Bool, HasFoundChains, Head, IsAdded, IsIn, KnowsMore, List, LooksOn}
use Rattle.tj_park.proofs.Prelude.{None, Option, Program, Reference, Some, View, Way, [], ap, arith, cond, eq-eqb}
use Rattle.tj_park.proofs.Prelude.{false, head_of, head_word, inl, join_steps, length, map, more_in_front, more_on}
use Rattle.tj_park.proofs.Prelude.{more_same, push_behind, refl, subst, suc, sym, without_push, ℕ, ◌*◌, ◌++◌, ◌+◌}
use Rattle.tj_park.proofs.Prelude.{◌-◌, ◌<◌, ◌∙◌, ◌∷◌, ◌≡◌, ◌≢◌, ◌≤◌}
use Rattle.tj_words.specs.declared.view.Filled.{Filled}
use Rattle.tj_words.specs.declared.view.Found.{Found}
use Rattle.tj_words.specs.declared.view.Push.{Push}
use Rattle.tj_words.specs.Calls.ChainSteps.{HasPush, HasPushBehind, KnowsEntry, pushed, stored_next, with_next}
use Rattle.tj_words.specs.SeatViews.SeenWords.{FindsChain, FindsShut}
use Rattle.tj_words.proofs.SeatLoads.KnowsMoreOn.{hand_on, counts_on}
use Rattle.tj_park.specs.Inner.JoinViews.{last_found, pushes_left}
use Rattle.tj_words.specs.declared.head.Head.TheVariants as head
use Rattle.tj_words.specs.SeatViews.Views.{found_shut}

-- the sums of steps and of pushes
shut_cost : (s v c : ℕ) → s ≡ suc v → s + 2 * 0 ≤ v + (2 * c + 3)
shut_cost s v c e = omega arith

first_cost : (s v c x : ℕ) → s ≡ suc v → s + 2 * suc (c - x) ≤ v + (2 * c + 3)
first_cost s v c x e = omega arith

next_cost : (s u w v a b j : ℕ) → s ≡ suc u → u ≡ suc w → a < b → w + 2 * b ≤ v + j → s + 2 * a ≤ v + j
next_cost s u w v a b j e f l h = omega arith

joined_cost : (s u w v c b j : ℕ) → s ≡ suc u → u ≡ suc w → b ≡ suc c → w + 2 * b ≤ v + j → s ≤ v + j
joined_cost s u w v c b j e f l h = omega arith

fewer_left : (c x y a b : ℕ) → x < y → y ≤ c → a ≡ suc (c - y) → b ≡ suc (c - x) → a < b
fewer_left c x y a b l h e f = omega arith

few : (s a m : ℕ) → s + 2 * a ≤ m → s ≤ m
few s a m h = omega arith

none_left : (a b c : ℕ) → a ≡ 0 → b ≡ suc c → a < b
none_left a b c e f = omega arith

as_long : (xs more : List ℕ) → length xs ≤ length (more ++ xs)
as_long xs [] = omega arith
as_long xs (y ∷ more) = let b = as_long xs more in omega arith

-- one chain more was found, which is longer than the last one before
more_found : (n last old new now : ℕ) → n ≤ suc last → last ≡ old → old < new → now ≡ new → suc n ≤ suc now
more_found n last old new now a b c d = omega arith

-- and it lacks one task of the table
fewer_found : (n last old new cells : ℕ) → n ≤ suc last → last ≡ old → old < new → suc new ≤ cells → suc n ≤ cells
fewer_found n last old new cells a e l q = omega arith

-- how many pushes are left after the last chain that was found
left_open : (cells : ℕ) (behind : Head) (fs : List Found) → behind ≢ head.Shut
    → pushes_left cells behind fs ≡ suc (cells - length (last_found fs))
left_open cells head.Shut fs n = absurd (n refl)
left_open cells behind fs n = refl

-- the cells that are closed, where the head of q was found like this
abbrev pub closed_with : ℕ → Head → List ℕ → List ℕ
closed_with q head.Empty closed = closed
closed_with q (head.Task t) closed = closed
closed_with q head.Shut closed = q ∷ closed

closed_open : (q : ℕ) (h : Head) (closed : List ℕ) → h ≢ head.Shut → closed_with q h closed ≡ closed
closed_open q head.Shut closed n = absurd (n refl)
closed_open q h closed n = refl

-- a chain that has another head is longer
longer : (h h' : Head) (xs ys more : List ℕ) → h ≡ head_of xs → h' ≡ head_of ys → ys ≡ more ++ xs → h' ≢ h
    → length xs < length ys
longer h h' xs ys [] e e' g n = absurd (n (e' ∙ (ap head_of g ∙ sym e)))
longer h h' xs ys (z ∷ more) e e' g n =
    let s : length ys ≡ suc (length (more ++ xs)) = ap (λ l. length l) g in
    let b = as_long xs more in omega arith

with_one : (t q : ℕ) (way : Way) (h : Head) (next : Option Head)
    → with_next t h (push_behind t q way next ∷ []) ≡ push_behind t q way (Some h) ∷ []
with_one t q way h next = ap (λ (b : Bool). cond b (push_behind t q way (Some h)) (push_behind t q way next) ∷ [])
    (eq-eqb t t refl)

without_one : (t q : ℕ) (way : Way) (next : Option Head) → without_push t (push_behind t q way next ∷ []) ≡ []
without_one t q way next = ap (λ (b : Bool). cond b [] (push_behind t q way next ∷ [])) (eq-eqb t t refl)

module _ {B : Type 0} where
  pub looks_on : {cells : ℕ} (u v w : View B) → LooksOn cells u v → LooksOn cells v w → LooksOn cells u w
  looks_on u v w p q = record {
    knows = more_on u v w p.knows q.knows;
    all = λ a. q.all (p.all a);
    hand = hand_on u v w p.hand q.hand;
    counts = counts_on u v w p.counts q.counts;
    tasks = q.tasks ∙ p.tasks;
    shuts = q.shuts ∙ p.shuts;
    rest = q.rest ∙ p.rest;
    plain_loads = q.plain_loads ∙ p.plain_loads;
    once_loads = q.once_loads ∙ p.once_loads;
    records = q.records ∙ p.records;
    put_home = q.put_home ∙ p.put_home;
  }

  -- the seat has found this chain of q last, whose head this is
  pub record IsOpenAt (cells q : ℕ) (behind : Head) (v : View B) : Type 0 where
    pub chain : List ℕ
    pub is : behind ≡ head_of chain
    pub short : length chain ≤ cells
    pub small : head_word behind ≤ cells
    pub before : List Found
    pub found : v.found ≡ record { cell = q; chain = chain } ∷ before

  -- the seat knows that the head of q is shut, and what has become of q
  abbrev pub IsShutAt : ℕ → View B → Type 0
  IsShutAt q v = IsIn q v.closed × KnowsEntry q v

  -- the way to the chain of q, after some pushes that failed; v is the view at first, and w that now
  pub record Joining (cells t q : ℕ) (behind : Head) (v w : View B) : Type 0 where
    pub looks : LooksOn cells v w
    pub way : Way
    pub first : v.pushes ≡ push_behind t q way None ∷ []
    pub next : Option Head
    pub pushes : w.pushes ≡ push_behind t q way next ∷ []
    pub open_at : behind ≢ head.Shut → IsOpenAt cells q behind w
    pub shut_at : behind ≡ head.Shut → IsShutAt q w
    pub cost : w.steps + 2 * pushes_left cells behind w.found ≤ v.steps + join_steps cells
    pub chains : List Found
    pub found : w.found ≡ chains ++ v.found
    pub few : length chains ≤ suc (length (last_found w.found))
    pub most : length chains ≤ cells
    pub closed : w.closed ≡ closed_with q behind v.closed

  -- a view in which only steps, pushes and found chains differ, and what is known of the table has grown
  grown_looks : {cells : ℕ} (v : View B) (n : ℕ) (ps : List Push) (fs : List Found) (born : List Reference)
      (closed : List ℕ) (filled : List Filled) → (
      let w = record v { steps = n; pushes = ps; found = fs; born = born; closed = closed; filled = filled } in
      KnowsMore v w → (AreCells cells v.born → AreCells cells born) → LooksOn cells v w
      )
  grown_looks v n ps fs born closed filled knows all = record {
    knows = knows;
    all = all;
    hand = record { hand = refl; dues = refl };
    counts = record { tokens = refl; cleared = refl; refused = refl };
    tasks = refl;
    shuts = refl;
    rest = refl;
    plain_loads = refl;
    once_loads = refl;
    records = refl;
    put_home = refl;
  }

  shut_looks : {program : Bool → B → Program B} (cells q : ℕ) (v w : View B) → FindsShut program cells q v w
      → LooksOn cells v w × IsShutAt q w × (w.pushes ≡ v.pushes) × (w.steps ≡ suc v.steps) × (w.found ≡ v.found)
      × (w.closed ≡ q ∷ v.closed)
  shut_looks cells q v w f = subst
      (λ (z : View B). LooksOn cells v z × IsShutAt q z × (z.pushes ≡ v.pushes) × (z.steps ≡ suc v.steps)
      × (z.found ≡ v.found) × (z.closed ≡ q ∷ v.closed))
      (sym f.view) (
        grown_looks v (suc v.steps) v.pushes v.found f.born (q ∷ v.closed) (_ ∷ v.filled)
            (more_in_front v (found_shut q f.born f.entry v) [] [] (_ ∷ []) [] (q ∷ []) f.begins ([], refl))
            (λ _. f.all),
        (inl refl, (record { cell = q; entry = f.entry }, inl refl, refl)),
        refl,
        refl,
        refl,
        refl,
      )

  -- a view in which only steps, pushes and found chains differ
  same_looks : {cells : ℕ} (v : View B) (n : ℕ) (ps : List Push) (fs : List Found)
      → LooksOn cells v (record v { steps = n; pushes = ps; found = fs })
  same_looks v n ps fs = grown_looks v n ps fs v.born v.closed v.filled
      (more_same v (record v { steps = n; pushes = ps; found = fs }) ([], refl)) (λ a. a)

  chain_looks : (cells q : ℕ) (h : Head) (v w : View B) → (f : FindsChain cells q h v w)
      → LooksOn cells v w × (w.found ≡ record { cell = q; chain = f.chain } ∷ v.found) × (w.pushes ≡ v.pushes)
      × (w.steps ≡ suc v.steps) × (w.closed ≡ v.closed)
  chain_looks cells q h v w f = subst
      (λ (z : View B). LooksOn cells v z × (z.found ≡ record { cell = q; chain = f.chain } ∷ v.found)
      × (z.pushes ≡ v.pushes) × (z.steps ≡ suc v.steps) × (z.closed ≡ v.closed)) (sym f.view)
      (same_looks v (suc v.steps) v.pushes (record { cell = q; chain = f.chain } ∷ v.found), refl, refl, refl, refl)

  open_is : (cells q : ℕ) (h : Head) (v w : View B) → FindsChain cells q h v w → IsOpenAt cells q h w
  open_is cells q h v w f = record {
    chain = f.chain;
    is = f.is;
    short = f.short;
    small = f.small;
    before = v.found;
    found = (chain_looks cells q h v w f).1;
  }

  module _ {cells t q : ℕ} where
    -- the first load of the head
    pub joining_first : {program : Bool → B → Program B} {way : Way} → 0 < cells → (h : Head) (v w : View B)
        → v.pushes ≡ push_behind t q way None ∷ []
        → (h ≡ head.Shut → FindsShut program cells q v w) → (h ≢ head.Shut → FindsChain cells q h v w)
        → Joining cells t q h v w
    joining_first {way = way} filled head.Shut v w e s o = let f = shut_looks cells q v w (s refl) in record {
      looks = f.0;
      way = way;
      first = e;
      next = None;
      pushes = f.2 ∙ e;
      open_at = λ n. absurd (n refl);
      shut_at = λ _. f.1;
      cost = shut_cost w.steps v.steps cells f.3;
      chains = [];
      found = f.4;
      few = omega arith;
      most = omega arith;
      closed = f.5;
    }
    joining_first {way = way} filled h v w e s o = let f = o (λ z. cc) in
        let l = chain_looks cells q h v w f in record {
          looks = l.0;
          way = way;
          first = e;
          next = None;
          pushes = l.2 ∙ e;
          open_at = λ _. open_is cells q h v w f;
          shut_at = λ z. absurd (cc);
          cost = first_cost w.steps v.steps cells (length (last_found w.found)) l.3;
          chains = record { cell = q; chain = f.chain } ∷ [];
          found = l.1;
          few = omega arith;
          most = filled;
          closed = l.4;
        }

    -- NEXT of t may be stored
    pub has_push : {behind : Head} {v w : View B} → Joining cells t q behind v w → HasPush t w
    has_push j =
        (push_behind t q j.way j.next, subst (IsIn (push_behind t q j.way j.next)) (sym j.pushes) (inl refl), refl)

    module _ {behind : Head} {v w u : View B} (j : Joining cells t q behind v w)
        (store : u ≡ stored_next t behind w) where
      stored_pushes : u.pushes ≡ push_behind t q j.way (Some behind) ∷ []
      stored_pushes = ap (λ (z : View B). z.pushes) store
          ∙ (ap (λ l. with_next t behind l) j.pushes ∙ with_one t q j.way behind j.next)

      -- and the push is to come then
      pub has_push_behind : HasPushBehind t q behind u
      has_push_behind = (
        push_behind t q j.way (Some behind),
        subst (IsIn (push_behind t q j.way (Some behind))) (sym stored_pushes) (inl refl),
        (refl, refl, refl),
      )

      stored_looks : LooksOn cells v u
      stored_looks = looks_on v w u j.looks (subst (λ (z : View B). LooksOn cells w z) (sym store)
          (same_looks w (suc w.steps) (with_next t behind w.pushes) w.found))

      stored_steps : u.steps ≡ suc w.steps
      stored_steps = ap (λ (z : View B). z.steps) store

      stored_found : u.found ≡ w.found
      stored_found = ap (λ (z : View B). z.found) store

      stored_closed : u.closed ≡ closed_with q behind v.closed
      stored_closed = ap (λ (z : View B). z.closed) store ∙ j.closed

      module _ (opened : behind ≢ head.Shut) where
        at : IsOpenAt cells q behind w
        at = j.open_at opened

        left_now : pushes_left cells behind w.found ≡ suc (cells - length at.chain)
        left_now = left_open cells behind w.found opened
            ∙ ap (λ l. suc (cells - length (last_found l))) at.found

        -- the push succeeds
        pub joined : {x : View B} → x ≡ pushed t u
            → LooksOn cells v x × (x.pushes ≡ []) × (x.steps ≤ v.steps + join_steps cells)
            × HasFoundChains cells v x × (x.closed ≡ v.closed)
        joined {x} e = (
          looks_on v u x stored_looks (subst (λ (z : View B). LooksOn cells u z) (sym e)
              (same_looks u (suc u.steps) (without_push t u.pushes) u.found)),
          ap (λ (z : View B). z.pushes) e ∙ (ap (without_push t) stored_pushes ∙ without_one t q j.way (Some behind)),
          joined_cost x.steps u.steps w.steps v.steps (cells - length at.chain) (pushes_left cells behind w.found)
              (join_steps cells) (ap (λ (z : View B). z.steps) e) stored_steps left_now j.cost,
          record {
            chains = j.chains;
            found = ap (λ (z : View B). z.found) e ∙ (stored_found ∙ j.found);
            few = j.most;
          },
          ap (λ (z : View B). z.closed) e ∙ (stored_closed ∙ closed_open q behind v.closed opened),
        )

        found_before : IsIn (record { cell = q; chain = at.chain }) u.found
        found_before = subst (IsIn (record { cell = q; chain = at.chain })) (sym (stored_found ∙ at.found)) (inl refl)

        grown : (h : Head) (x : View B) (f : FindsChain cells q h u x) → h ≢ behind
            → length at.chain < length f.chain
        grown h x f n =
            let g = f.grown (record { cell = q; chain = at.chain }) found_before refl in
            longer behind h at.chain f.chain g.0 at.is f.is g.1 n

        still_open : u.closed ≡ v.closed
        still_open = stored_closed ∙ closed_open q behind v.closed opened

        -- the push finds the head shut, or a longer chain
        module _ {program : Bool → B → Program B} (h : Head) (x : View B) (fails : h ≢ behind)
            (shut : h ≡ head.Shut → FindsShut program cells q u x)
            (other : h ≢ behind → h ≢ head.Shut → FindsChain cells q h u x) where
          pub fewer : pushes_left cells h x.found < pushes_left cells behind w.found
          fewer = by h refl
            where
              more : h ≢ head.Shut → pushes_left cells h x.found < pushes_left cells behind w.found
              more n = let f = other fails n in let l = chain_looks cells q h u x f in
                  fewer_left cells (length at.chain) (length f.chain) (pushes_left cells h x.found)
                  (pushes_left cells behind w.found) (grown h x f fails) f.short
                  (left_open cells h x.found n ∙ ap (λ fs. suc (cells - length (last_found fs))) l.1) left_now

              by : (z : Head) → h ≡ z → pushes_left cells h x.found < pushes_left cells behind w.found
              by head.Shut e = none_left (pushes_left cells h x.found) (pushes_left cells behind w.found)
                  (cells - length at.chain) (ap (λ y. pushes_left cells y x.found) e) left_now
              by head.Empty e = more (λ y. let d : head.Empty ≡ head.Shut = sym e ∙ y in cc)
              by (head.Task z) e = more (λ y. let d : head.Task z ≡ head.Shut = sym e ∙ y in cc)

          pub joining_next : Joining cells t q h v x
          joining_next = by h refl
            where
              went : x.steps ≡ suc u.steps → x.steps + 2 * pushes_left cells h x.found ≤ v.steps + join_steps cells
              went s = next_cost x.steps u.steps w.steps v.steps (pushes_left cells h x.found)
                  (pushes_left cells behind w.found) (join_steps cells) s stored_steps fewer j.cost

              lacks : (f : FindsChain cells q h u x) → suc (length j.chains) ≤ cells
              lacks f = fewer_found (length j.chains) (length (last_found w.found)) (length at.chain) (length f.chain)
                  cells j.few (ap (λ fs. length (last_found fs)) at.found) (grown h x f fails)
                  (f.room has_push_behind.0 has_push_behind.1)

              more : h ≢ head.Shut → Joining cells t q h v x
              more n = let f = other fails n in let l = chain_looks cells q h u x f in record {
                looks = looks_on v u x stored_looks l.0;
                way = j.way;
                first = j.first;
                next = Some behind;
                pushes = l.2 ∙ stored_pushes;
                open_at = λ _. open_is cells q h u x f;
                shut_at = λ e. absurd (n e);
                cost = went l.3;
                chains = record { cell = q; chain = f.chain } ∷ j.chains;
                found = l.1 ∙ ap (λ fs. record { cell = q; chain = f.chain } ∷ fs) (stored_found ∙ j.found);
                few = more_found (length j.chains) (length (last_found w.found)) (length at.chain) (length f.chain)
                    (length (last_found x.found)) j.few (ap (λ fs. length (last_found fs)) at.found) (grown h x f fails)
                    (ap (λ fs. length (last_found fs)) l.1);
                most = lacks f;
                closed = l.4 ∙ (still_open ∙ sym (closed_open q h v.closed n));
              }

              by : (z : Head) → h ≡ z → Joining cells t q h v x
              by head.Shut e = let f = shut_looks cells q u x (shut e) in record {
                looks = looks_on v u x stored_looks f.0;
                way = j.way;
                first = j.first;
                next = Some behind;
                pushes = f.2 ∙ stored_pushes;
                open_at = λ n. absurd (n e);
                shut_at = λ _. f.1;
                cost = went f.3;
                chains = j.chains;
                found = f.4 ∙ (stored_found ∙ j.found);
                few = subst (λ fs. length j.chains ≤ suc (length (last_found fs))) (sym (f.4 ∙ stored_found)) j.few;
                most = j.most;
                closed = f.5 ∙ (ap (λ (l : List ℕ). q ∷ l) still_open
                    ∙ sym (ap (λ (y : Head). closed_with q y v.closed) e));
              }
              by head.Empty e = more (λ y. let d : head.Empty ≡ head.Shut = sym e ∙ y in cc)
              by (head.Task z) e = more (λ y. let d : head.Task z ≡ head.Shut = sym e ∙ y in cc)

    -- where the head is shut, the task isn't added
    pub not_added : (v w : View B) → Joining cells t q head.Shut v w → IsAdded q false v w
    not_added v w j = (
      (j.next, j.pushes ∙ sym (ap (map (λ (p : Push). record p { next = j.next })) j.first)),
      (j.shut_at refl).0,
      (j.shut_at refl).1,
    )

    -- and then it was found so once
    pub found_shut_once : {behind : Head} {v w : View B} → Joining cells t q behind v w → behind ≡ head.Shut
        → w.closed ≡ q ∷ v.closed
    found_shut_once {v = v} j e = j.closed ∙ ap (λ h. closed_with q h v.closed) e

    -- so many chains were found
    pub found_chains : {behind : Head} {v w : View B} → Joining cells t q behind v w
        → HasFoundChains cells v w
    found_chains j = record { chains = j.chains; found = j.found; few = j.most }

    -- the steps are as few as they are to be
    pub few_steps : (behind : Head) (v w : View B) → Joining cells t q behind v w
        → w.steps ≤ v.steps + join_steps cells
    few_steps behind v w j = few w.steps (pushes_left cells behind w.found) (v.steps + join_steps cells) j.cost
