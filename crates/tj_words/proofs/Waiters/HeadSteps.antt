-- The steps on HEAD and NEXT keep the rule.
use Rattle.tj_words.proofs.Prelude.{Allows, Bool, Chains, Head, IsBacked, IsIn, IsSeat, IsSeatOf, Key, List, None}
use Rattle.tj_words.proofs.Prelude.{Option, Program, Push, Rec, Rest, Rule, SeatMe, SeatsHave, Shut, State, Task, View}
use Rattle.tj_words.proofs.Prelude.{WordsSay, ap, arith, at_map, cell, contents_of, dite, drawn_in, either, eqb}
use Rattle.tj_words.proofs.Prelude.{exchanged, get_elem?, head_at, head_in, head_word, inl, inr, keeps, length, next_at}
use Rattle.tj_words.proofs.Prelude.{none, push_exchange, put, refl, rest_of, seat_part, seats_have, set, shut_swap}
use Rattle.tj_words.proofs.Prelude.{shut_word, some, step, subst, suc, sym, tag_in, with_next, without, without_push}
use Rattle.tj_words.proofs.Prelude.{word, words_say, ℕ, ℕ_discrete, ⊎_elim, ◌-◌, ◌<◌, ◌∙◌, ◌∷◌, ◌≡◌, ◌≢◌, ◌≤◌}
use Rattle.tj_words.proofs.Lemmas.{Acts, Stores, TableWord, back, index, knows_so, law_kept, put_else, put_here}
use Rattle.tj_words.proofs.Lemmas.{rule_stores, said, seats_same, set_seats, step_allowed, store_word}
use Rattle.tj_words.specs.Calls.ChainSteps.{stored_next, pushed, took_chain, found_taken, HasPush, HasPushBehind}
use Rattle.tj_words.specs.Calls.ChainSteps.{KnowsEntry, next_store}
use Rattle.tj_words.proofs.Stores.StoreSteps.{MayHold}
use Rattle.tj_words.proofs.SeatLoads.KnowLoads.{task_in, shut_is, tag_some}
use Rattle.tj_words.proofs.SeatLoads.HeadLoads.{head_allowed}
use Rattle.tj_words.proofs.Prelude.{Some, home_in}
use Rattle.tj_words.specs.LawParts.PushedRecords.{LieAsPut, put_last}
use Rattle.tj_words.proofs.Waiters.ChainHeads.{in_with_next, nexts, pushes, shuts, shuts_again}
use Rattle.tj_words.proofs.Waiters.ChainLists.{in_without_push}
use Rattle.tj_words.proofs.Waiters.ChainFacts.{line_small, head_small}
use Rattle.tj_words.proofs.Waiters.Backings.{wakes_seat}
use Rattle.tj_words.proofs.Stores.TableWords as table_word

-- a head whose word is small isn't shut
pub is_open : (h : Head) (n : ℕ) → n < shut_word → head_word h ≤ n → h ≢ Shut
is_open h n l k e = grind arith

module _ {B : Type 0} (program : Bool → B → Program B) (key : Key B) where
  -- a seat that has a push to come is backed
  push_backed : (v : View B) (e : Push) → IsSeat key v → IsIn e v.pushes → IsBacked v
  push_backed v e q i = q.backing.wakes (inl (λ z. subst (IsIn e) z i))

  module _ (s : State (Option (Rec B)) (View B)) (r : Rule program key s) (id : ℕ) (v : View B)
      (at : get_elem? s.views id ≡ some v) where
    abbrev words : WordsSay
    words = words_say s.words

    abbrev seats : SeatsHave B
    seats = seats_have s.views

    head_inside : (p : ℕ) → p < key.cells → head_at p < length s.words
    head_inside p l = let e = r.all_words in omega arith

    next_inside : (t : ℕ) → t < key.cells → next_at t < length s.words
    next_inside t l = let e = r.all_words in omega arith

    -- a step on HEAD or NEXT by a backed seat, whose view changes in what it has of the chains
    chain_stores : (w : View B)
        → seat_part w ≡ record (seat_part v) { pushes = w.pushes; shuts = w.shuts; rest = w.rest } → IsBacked v
        → LieAsPut s.homes w.pushes w.put_home
        → (x : TableWord) (n : ℕ) → index x < length s.words → MayHold key.cells x n
        → {head next : ℕ → Head} {pl : List (List Push)} {sl : List (List ℕ)} {rl : List (Option Rest)}
        {cl : List (List ℕ)} → said words x n ≡ record words { head = head; next = next }
        → set_seats seats id w ≡ record seats { pushes = pl; shuts = sl; rests = rl; closed = cl }
        → Chains (tag_in (contents_of s)) head next words.phase pl sl rl cl seats.found
        → Stores program key s id (index x) n w
    chain_stores w same backed mine x n inside may {head} {next} {pl} {sl} {rl} {cl} say path chains =
        store_word program key s id x n w inside may (subst (IsSeatOf key) (sym same)
        (wakes_seat key v (r.seats id v at) w.pushes w.shuts w.rest (λ _. backed))) mine _
        (λ j. record { words = say j; slots = s.homes; seats = path j })
        (let l = r.law in law_kept l (record words { head = head; next = next })
        (record seats { pushes = pl; shuts = sl; rests = rl; closed = cl }) l.lots l.names l.tree_words l.once_words
        chains l.live_count l.stops l.records_fit l.meaning l.facts)

    -- a store of NEXT leaves the tasks to push
    next_as_put : (t : ℕ) (h : Head) → LieAsPut s.homes (with_next t h v.pushes) v.put_home
    next_as_put t h e i = let w = in_with_next t h v.pushes e i in
        subst (λ u. home_in s.homes u ≡ put_last v.put_home u) (⊎_elim
        (λ (q : (w.0.task ≡ t) × (e ≡ record w.0 { next = Some h })). ap (λ (z : Push). z.task) (sym q.1))
        (λ (q : (w.0.task ≢ t) × (e ≡ w.0)). ap (λ (z : Push). z.task) (sym q.1)) w.2) (r.pushed id v at w.0 w.1)

    -- a store of NEXT
    next_stores : (t n : ℕ) → t < key.cells → n ≤ key.cells → HasPush t v
        → Stores program key s id (next_at t) n (stored_next t (head_in n) v)
    next_stores t n l small has = chain_stores (stored_next t (head_in n) v) refl
        (push_backed v has.0 (r.seats id v at) has.1) (next_as_put t (head_in n)) (table_word.Next t) n
        (next_inside t l) small refl
        (ap (λ (z : SeatsHave B). record z { pushes = set seats.pushes id (with_next t (head_in n) v.pushes) })
        (seats_same s.views id v at))
        (nexts r.law.chains t id (head_in n) v.pushes
        (at_map (λ (u : View B). u.pushes) s.views id v at) has)

    -- a push that succeeds
    push_stores : (t p : ℕ) → t < key.cells → p < key.cells
        → HasPushBehind t p (head_in (word s.words (head_at p))) v → head_in (word s.words (head_at p)) ≢ Shut
        → Stores program key s id (head_at p) (suc t) (pushed t v)
    push_stores t p lt lp has unshut = chain_stores (pushed t v) refl
        (push_backed v has.0 (r.seats id v at) has.1)
        (λ e i. r.pushed id v at e (in_without_push t v.pushes e i).0) (table_word.Head p) (suc t) (head_inside p lp)
        (inr (omega arith)) (ap (λ h. record words { head = put words.head p h }) (sym is_task))
        (ap (λ (z : SeatsHave B). record z { pushes = set seats.pushes id (without_push t v.pushes) })
        (seats_same s.views id v at))
        (pushes r.law.chains t p id v.pushes has.0
        (at_map (λ (u : View B). u.pushes) s.views id v at) has.1 has.2.0 has.2.1 has.2.2 unshut)
      where
        is_task : Task (cell t) ≡ head_in (suc t)
        is_task = let f = r.few_cells in let less : t ≡ suc t - 1 = omega arith in
            ap (λ n. Task (cell n)) less ∙ sym (task_in (suc t) (λ z. omega arith) (λ z. omega arith))

    -- a shut
    shut_stores : (p : ℕ) → p < key.cells → KnowsEntry p v → v.rest ≡ None → IsBacked v
        → head_in (word s.words (head_at p)) ≢ Shut
        → Stores program key s id (head_at p) shut_word (took_chain p (r.law.chains.line p) v)
    shut_stores p lp knows free back unshut = chain_stores (took_chain p chain v) refl back (r.pushed id v at)
        (table_word.Head p)
        shut_word (head_inside p lp) (inl refl) refl
        (ap (λ (z : SeatsHave B). record z {
          shuts = set seats.shuts id (without p v.shuts);
          rests = set seats.rests id (rest_of p chain);
          closed = set seats.closed id (p ∷ v.closed);
        }) (seats_same s.views id v at))
        (shuts r.law.chains p id v.shuts v.closed (at_map (λ (u : View B). u.shuts) s.views id v at)
        (at_map (λ (u : View B). u.rest) s.views id v at ∙ ap some free)
        (at_map (λ (u : View B). u.closed) s.views id v at) unshut has_tag)
      where
        chain : List ℕ
        chain = r.law.chains.line p

        has_tag : tag_in (contents_of s) p ≢ 0
        has_tag z = let f = (knows_so program key s r id v at).filled knows.0 knows.1 in tag_some knows.0.entry
            (sym f.tag_is ∙ subst (λ c. tag_in (contents_of s) c ≡ 0) (sym knows.2) z)

    -- a shut of a head that was shut
    shut_again : (p : ℕ) → p < key.cells → IsBacked v → head_in (word s.words (head_at p)) ≡ Shut
        → Stores program key s id (head_at p) shut_word (found_taken p v)
    shut_again p lp back is_shut = chain_stores (found_taken p v) refl back (r.pushed id v at) (table_word.Head p)
        shut_word
        (head_inside p lp) (inl refl) (λ j. record words { head = λ c. same c j })
        (ap (λ (z : SeatsHave B). record z {
          shuts = set seats.shuts id (without p v.shuts);
          closed = set seats.closed id (p ∷ v.closed);
        }) (seats_same s.views id v at))
        (shuts_again r.law.chains p id v.shuts v.closed
        (at_map (λ (u : View B). u.shuts) s.views id v at) (at_map (λ (u : View B). u.closed) s.views id v at) is_shut)
      where
        same : (c : ℕ) → put words.head p Shut c ≡ words.head c
        same c = dite (ℕ_discrete c p)
            (λ z. put_here words.head p c Shut z ∙ (sym is_shut ∙ ap words.head (sym z)))
            (λ n. put_else words.head p c Shut n)

    -- the word of a head is no more than that of one that is shut
    head_word_small : (p : ℕ) → p < key.cells → word s.words (head_at p) ≤ shut_word
    head_word_small p lp = let f = r.few_cells in
        ⊎_elim (λ q. (omega arith)) (λ q. (omega arith)) (r.codes.each p lp).head

    -- a swap that shuts a head, or finds it shut
    shut_swaps : (slots p new : ℕ) (mine : List (ℕ × Option (Rec B))) → p < key.cells → KnowsEntry p v → v.rest ≡ None
        → IsBacked v → (w : View B) × Stores program key s id (head_at p) shut_word w
        × shut_swap key.cells p (step slots (head_at p) new 0 none) (v, mine) (word s.words (head_at p)) (w, mine)
    shut_swaps slots p new mine lp knows free back = let small = head_word_small p lp in
        dite (ℕ_discrete (word s.words (head_at p)) shut_word)
        (λ q. let y : head_in (word s.words (head_at p)) ≡ Shut = ap head_in q in (
          found_taken p v,
          shut_again p lp back y,
          (refl, small, (λ z. refl), (λ n. absurd (n y))),
        ))
        (λ q. let n : head_in (word s.words (head_at p)) ≢ Shut = λ z. q (shut_is _ small z) in (
          took_chain p (r.law.chains.line p) v,
          shut_stores p lp knows free back n,
          (
            refl,
            small,
            (λ z. absurd (n z)),
            (λ z. record {
              chain = r.law.chains.line p;
              is = r.law.chains.heads p n;
              short = line_small r.law.chains key.cells drawn (omega arith) r.law.undrawn p;
              small = head_small r.law.chains key.cells drawn (omega arith) r.law.undrawn p n;
              view = refl;
            }),
          ),
        ))
      where
        drawn : ℕ
        drawn = drawn_in key.cells (contents_of s)

  pub next_allowed : (slots id : ℕ) (m : SeatMe B) (t i new cell : ℕ) → t < key.cells → i ≡ next_at t → cell ≡ t
      → new ≤ key.cells → HasPush t m.0
      → Allows (Rule program key) slots id m i (λ n. new) (λ n. next_store cell (step slots i new 0 none) m new)
  next_allowed slots id m t i new cell l at e small has = step_allowed program key slots id m i (λ n. new)
      (λ n. next_store cell (step slots i new 0 none) m new) (λ s r k. (
        stored_next t (head_in new) m.0,
        subst (λ j. Stores program key s id j new (stored_next t (head_in new) m.0)) (sym at)
            (next_stores s r id m.0 k t new l small has),
        (refl, ap (λ c. stored_next c (head_in new) m.0) (sym e)),
      ))

  pub push_allowed : (slots id : ℕ) (m : SeatMe B) (p t i old new cells cell : ℕ) (behind : Head) → p < key.cells
      → t < key.cells → i ≡ head_at p → cells ≡ key.cells → cell ≡ p → head_in old ≡ behind → new ≡ suc t
      → HasPushBehind t p behind m.0 → behind ≢ Shut
      → Allows (Rule program key) slots id m i (λ n. either (eqb n old) new n)
      (push_exchange program cells cell (step slots i old new none) m)
  push_allowed slots id m p t i old new cells cell behind lp lt at f e is_old is_new has unshut s r homes k small =
      exchanged (word s.words i) old new (λ n. Acts program key s id m i n Then) hit miss
    where
      Then : SeatMe B → Type 0
      Then = push_exchange program cells cell (step slots i old new none) m (word s.words i)

      hit : word s.words i ≡ old → Acts program key s id m i new Then
      hit z = (
        pushed t m.0,
        keeps,
        tt,
        rule_stores program key s r id i new (pushed t m.0) stores,
        (
          refl,
          subst (λ j. word s.words j ≤ shut_word) (sym at) (head_word_small s r id m.0 k p lp),
          (λ q. let less : t ≡ new - 1 = omega (arith, is_new) in ap (λ x. pushed x m.0) less),
          (λ n q. absurd (n z)),
          (λ n q. absurd (n z)),
        ),
        tt,
      )
        where
          now : head_in (word s.words (head_at p)) ≡ behind
          now = ap (λ j. head_in (word s.words j)) (sym at) ∙ (ap head_in z ∙ is_old)

          stores : Stores program key s id i new (pushed t m.0)
          stores = subst (λ j. Stores program key s id j new (pushed t m.0)) (sym at)
              (subst (λ n. Stores program key s id (head_at p) n (pushed t m.0)) (sym is_new)
              (push_stores s r id m.0 k t p lt lp (subst (λ h. HasPushBehind t p h m.0) (sym now) has)
              (λ q. unshut (sym now ∙ q))))

      miss : word s.words i ≢ old → Acts program key s id m i (word s.words i) Then
      miss n = let h = head_allowed program key slots id m p i cells cell lp at f e s r homes k small in
          (h.0, h.1, h.2, h.3, (h.4.0, h.4.1, (λ q. absurd (n q)), (λ z q. h.4.2 q), (λ z q. h.4.3 q)), h.5)

  pub shut_allowed : (slots id : ℕ) (m : SeatMe B) (p i new cells c : ℕ) → p < key.cells → i ≡ head_at p
      → cells ≡ key.cells → c ≡ p → new ≡ shut_word → KnowsEntry p m.0 → m.0.rest ≡ None → IsBacked m.0
      → Allows (Rule program key) slots id m i (λ n. new) (shut_swap cells c (step slots i new 0 none) m)
  shut_allowed slots id m p i new cells c lp at f e is knows free backed =
      step_allowed program key slots id m i (λ n. new) (shut_swap cells c (step slots i new 0 none) m)
      (λ s r k. back (λ j. Goes s (at j) (is j) (f j) (e j))
      (shut_swaps s r id m.0 k slots p new m.1 lp knows free backed))
    where
      Goes : State (Option (Rec B)) (View B) → ℕ → ℕ → ℕ → ℕ → Type 0
      Goes s j x n d = (w : View B) × Stores program key s id j x w
          × shut_swap n d (step slots i new 0 none) m (word s.words j) (w, m.1)
