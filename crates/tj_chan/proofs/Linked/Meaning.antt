-- The lists of each round tell of each item what the assignment of that round tells: rounds over lists are rounds over
-- promises, and so is what is told of them.
use Rattle.std.proofs.Common.{◌≡◌, ◌↔◌, ℕ, zero, suc, ◌<◌, Bool, inl, inr, List, [], ◌∷◌, ◌++◌, map, length, Option}
use Rattle.std.proofs.Common.{refl, sym, ap, ◌∙◌, subst, arith, ◌+◌, ◌*◌, true, false}
use Rattle.std.proofs.Common.{⊎_elim, Some, None}
use Rattle.std.specs.List.{flat_map}
use Rattle.std.specs.Option.{option_map}
use Rattle.tj_base.specs.ForkOrder.{Name}
use Rattle.tj_body.specs.Programs.{Program, AreLawful}
use Rattle.tj_body.specs.History.{Assignment, history}
use Rattle.tj_body.specs.Rounds.{cells_by, given, tasks, cells, last_round, meaning, IsFull, writes_by}
use Rattle.tj_body.specs.Points.{IsIn}
use Rattle.tj_body.specs.declared.point.Point.{Point}
use Rattle.tj_body.proofs.Rounds.Rises.{within, in_entries, of_entries}
use Rattle.tj_mean.specs.Outcomes.{ending_of, stopped_of, IsOutcome}
use Rattle.tj_mean.specs.declared.outcome.Ending.{Ending}
use Rattle.tj_mean.specs.declared.outcome.Outcome.{Outcome}
use Rattle.tj_mean.specs.declared.stopped.Stopped.{Stopped}
use Rattle.tj_chan.specs.Channels.{ChatRules, Lists, ChatStage, answered, receives, ChatTask, ChatPoint}
use Rattle.tj_chan.specs.Channels.{items_of, chat_history, Channel, SendingEnd, ChannelState, item, is_same}
use Rattle.tj_chan.specs.ChannelRounds.{root_chat, lists_at, chat_tasks, chat_cells, chat_cells_by, chat_meaning}
use Rattle.tj_chan.specs.ChannelRounds.{IsChatFull, state_in, leaves, left_of, has_ended}
use Rattle.tj_chan.specs.ChannelRounds.{chat_family, left_by}
use Rattle.tj_chan.specs.ChannelOutcomes.{chat_told, chat_ending, owed_in, held_in, IsChatOutcome}
use Rattle.tj_chan.specs.ChannelLaws.{AreLawfulChats, IsRootChat, chats_of}
use Rattle.tj_chan.specs.declared.body.ChanBody.{ChanBody}
use Rattle.tj_chan.proofs.Lists.Runs.{Finds, finds_in, run_of, Found, to_come, cut_off, value_of, found_by, found_in}
use Rattle.tj_chan.proofs.Lists.Runs.{finds_of, found_entry, run_family, AreOneOn, IsFit}
use Rattle.tj_chan.proofs.Linked.Links.{task_of, IsStageOf, IsPointFor, IsEntryFor, IsToldBy, IsWritten}
use Rattle.tj_chan.proofs.Linked.Steps.{program, HistoriesAreLinked, IsOpenedIn}
use Rattle.tj_chan.proofs.Lists.Grows.{HasHalted, run_halts, family_grows, run_determined}
use Rattle.tj_chan.proofs.Linked.Families.{run_tasks, run_task_fit, run_linked, tasks_linked, more_found}
use Rattle.tj_chan.proofs.Linked.Families.{channels_family, root_fit, channels_apart, item_no_task}
use Rattle.std.specs.Prelude.{slice_get}
use Rattle.tj_body.specs.declared.point.Entry.{Entry}
use Rattle.tj_body.specs.declared.point.Entry.TheVariants as entry
use Rattle.tj_body.specs.declared.point.Value.TheVariants as value
use Rattle.tj_body.specs.declared.point.Task.{Task}
use Rattle.tj_body.proofs.Lists.{in_left, in_either, in_map, to_map, in_flat_map, from_flat_map}
use Rattle.tj_chan.proofs.Lists.Histories.{histories_are_runs}
use Rattle.tj_chan.proofs.Lists.Apart.{is_same_self, same_parts}
use Rattle.tj_chan.proofs.Lists.Kept.{IsSound, run_sound}
use Rattle.tj_chan.proofs.Linked.Entries.{no_value, no_cut, untouched_found, IsFoundAmong, state_found, same_lists}

-- a map over a map, element by element
maps_same : {A B D : Type 0} (f : B → D) (g : A → B) (h : A → D) (l : List A) → ((x : A) → IsIn x l → f (g x) ≡ h x)
    → map f (map g l) ≡ map h l
maps_same f g h [] e = refl
maps_same f g h (x ∷ xs) e =
    let a = e x (inl refl) in let b = maps_same f g h xs (λ y j. e y (inr j)) in λ i. a i ∷ b i

lists_same : {A B D : Type 0} (f : B → List D) (g : A → B) (h : A → List D) (l : List A)
    → ((x : A) → IsIn x l → f (g x) ≡ h x) → flat_map f (map g l) ≡ flat_map h l
lists_same f g h [] e = refl
lists_same f g h (x ∷ xs) e =
    let a = e x (inl refl) in let b = lists_same f g h xs (λ y j. e y (inr j)) in λ i. a i ++ b i

module _ {C : Type 0} (rules : ChatRules C) where
  -- what is told of a task by a point that stands for its own
  told_same : (p : ChatPoint C) (b : Point (ChanBody C)) → IsPointFor rules p b → (F : Finds) → HasHalted F p.stage
      → stopped_of b ≡ chat_told p
  told_same p b l F h = by p.stage h l.at_stage l.holds l.owed where
    told : Option Ending → List Name → List Name → Option Stopped
    told o owes holds =
        option_map
        (λ e. record { line = record { name = p.name; prints = p.prints; ending = e; owes = owes }; holds = holds }) o

    to : (o : Option Ending) (owes holds : List Name) → ending_of b.stage ≡ o → b.holds ≡ holds → b.owed ≡ owes
        → stopped_of b ≡ told o owes holds
    to o owes holds e f g = λ i. option_map
        (λ x. record {
          line = record { name = l.of_task.0 i; prints = l.of_task.4 i; ending = x; owes = g i };
          holds = f i;
        })
        (e i)

    by : (st : ChatStage) → HasHalted F st → IsStageOf rules p st b → b.holds ≡ held_in st p.ends
        → b.owed ≡ owed_in st p.ends → stopped_of b ≡ told (chat_ending st) (owed_in st p.ends) (held_in st p.ends)
    by (answered a) h s f g = absurd h
    by (receives c i) h s f g = to _ _ _ (ap ending_of s.0) f g
    by st h s f g = to _ _ _ (ap ending_of s) f g

  module _ (lawful : AreLawfulChats rules) (root : C) (strict : Bool) (fresh : IsRootChat rules root)
      (obeys : AreLawful (program rules root strict).rules) (linked : HistoriesAreLinked rules root strict) where
    abbrev P : Program (ChanBody C)
    P = program rules root strict

    abbrev W : ℕ → Assignment
    W n = given P n

    abbrev F : ℕ → Finds
    F n = finds_in (W n)

    abbrev L : ℕ → Lists
    L n = lists_at (chats_of rules root) n

    abbrev Tasks : ℕ → List (ChatTask C)
    Tasks n = run_tasks rules lawful root strict fresh obeys linked n

    abbrev IsOpened : ℕ → Channel → Type 0
    IsOpened n c = IsOpenedIn rules root strict n c

    task_fit : (n : ℕ) (t : ChatTask C) → IsIn t (Tasks n) → IsFit rules t
    task_fit n t j = run_task_fit rules lawful root strict fresh obeys linked n t j

    link_of : (n : ℕ) (t : ChatTask C) → IsIn t (Tasks n)
        → IsPointFor rules (run_of rules (F n) t) (history P.rules (W n) (task_of t))
        × IsWritten t (run_of rules (F n) t) (history P.rules (W n) (task_of t))
    link_of n t j = run_linked rules lawful root strict fresh obeys linked n t j

    -- each channel of a task of a round is opened in the round
    pub channel_opened : (n : ℕ) (t : ChatTask C) → IsIn t (Tasks n) → (c : Channel)
        → IsIn c (run_of rules (F n) t).channels → IsOpened n c
    channel_opened n t j c i = channels_family rules lawful (F n) (IsOpened n) (suc n) (root_chat root)
        (root_fit rules lawful root strict fresh obeys linked) (λ d k. absurd k) (λ u k d m. (u, k, m)) t j c i

    -- and so is that of what is left
    left_opened : (n : ℕ) (t : ChatTask C) → IsIn t (Tasks n) → (w : Channel × ChannelState)
        → IsIn w (leaves (run_of rules (F n) t)) → IsOpened n w.0
    left_opened n t j w i = ⊎_elim (λ a. handed a) (λ a. held a)
        (in_either w (map (left_of false) p.handed_on) (map (left_of (has_ended p.stage)) p.ends) i) where
          p : ChatPoint C
          p = run_of rules (F n) t

          s : IsSound rules t p
          s = run_sound rules lawful (F n) (2 * suc (rules.left t.chatter)) t (task_fit n t j)

          handed : IsIn w (map (left_of false) p.handed_on) → IsOpened n w.0
          handed a = let m = in_map (left_of false) w p.handed_on a in
              subst (λ (x : Channel × ChannelState). IsOpened n x.0) (sym m.2)
              (channel_opened n t j m.0.channel (s.0.handed_are m.0 m.1))

          held : IsIn w (map (left_of (has_ended p.stage)) p.ends) → IsOpened n w.0
          held a = let m = in_map (left_of (has_ended p.stage)) w p.ends a in
              subst (λ (x : Channel × ChannelState). IsOpened n x.0) (sym m.2)
              (channel_opened n t j m.0.channel (s.0.tidy.holds m.0 m.1))

    -- what was sent by the ends that the task was given has entries in the next round
    abbrev Had : ℕ → ChatTask C → Type 0
    Had n t = (g : SendingEnd) → IsIn g t.given → (i : ℕ) → i < g.channel.items → (e : Entry)
        → IsEntryFor (found_by false (slice_get g.sent i)) e → W (suc n) (item g.channel i) ≡ Some e

    -- then so has what it leaves
    left_written : (n : ℕ) (t : ChatTask C) → IsIn t (Tasks n) → Had n t → (w : Channel × ChannelState)
        → IsIn w (leaves (run_of rules (F n) t)) → (i : ℕ) → i < w.0.items → (e : Entry)
        → IsEntryFor (found_in w.1 i) e → W (suc n) (item w.0 i) ≡ Some e
    left_written n t j h w k i l e f = ⊎_elim (λ a. wrote a) (λ a. had a) ((link_of n t j).1.written w i e k l f) where
      wrote : IsIn (item w.0 i, e) (history P.rules (W n) (task_of t)).writes → W (suc n) (item w.0 i) ≡ Some e
      wrote a = of_entries P (suc n) (item w.0 i) e
          (in_flat_map (writes_by P.rules (W n)) (task_of t) (item w.0 i, e) (tasks P (suc n))
          (subst (IsIn (task_of t)) (sym (tasks_linked rules lawful root strict fresh obeys linked n))
          (to_map task_of t (Tasks n) j)) a)

      had : ((g : SendingEnd) × IsIn g t.given × (g.channel ≡ w.0) × IsEntryFor (found_by false (slice_get g.sent i)) e)
          → W (suc n) (item w.0 i) ≡ Some e
      had a = subst (λ c. W (suc n) (item c i) ≡ Some e) a.2
          (h a.0 a.1 i (subst (λ (c : Channel). i < c.items) (sym a.2) l) e a.3)

    -- so it is in the whole family
    had_family : (n : ℕ) (d : ℕ) (t : ChatTask C)
        → ((u : ChatTask C) → IsIn u (run_family rules (F n) d t) → IsIn u (Tasks n)) → Had n t → (u : ChatTask C)
        → IsIn u (run_family rules (F n) d t) → Had n u
    had_family n zero t a h u (inl e) = subst (Had n) (sym e) h
    had_family n zero t a h u (inr i) = absurd i
    had_family n (suc d) t a h u (inl e) = subst (Had n) (sym e) h
    had_family n (suc d) t a h u (inr i) =
        let p = run_of rules (F n) t in
        let r = from_flat_map (run_family rules (F n) d) u p.children i in
        let j = a t (inl refl) in
        let s = run_sound rules lawful (F n) (2 * suc (rules.left t.chatter)) t (task_fit n t j) in
        had_family n d r.0
        (λ v k. a v (inr (in_flat_map (run_family rules (F n) d) r.0 v p.children r.1 k)))
        (λ g m x l e f. left_written n t j h (left_of false g)
        (in_left (left_of false g) (map (left_of false) p.handed_on) (map (left_of (has_ended p.stage)) p.ends)
        (to_map (left_of false) g p.handed_on ((s.0.children_are r.0 r.1).given g m))) x l e f)
        u r.2

    had : (n : ℕ) (t : ChatTask C) → IsIn t (Tasks n) → Had n t
    had n t j = had_family n (suc n) (root_chat root) (λ u i. i) (λ g i. absurd i) t j

    -- all that is left in a round
    abbrev all_left : ℕ → List (Channel × ChannelState)
    all_left n = flat_map (λ t. leaves (run_of rules (F n) t)) (Tasks n)

    -- an item with an entry was left by a task
    written_left : (n m : ℕ) (c : Channel) (i : ℕ) (e : Entry) → IsOpened m c → i < c.items
        → W (suc n) (item c i) ≡ Some e
        → (w : Channel × ChannelState) × IsIn w (all_left n) × (w.0 ≡ c) × IsEntryFor (found_in w.1 i) e
    written_left n m c i e o l h = at (t_told) where
      f : (x : Task (ChanBody C)) × IsIn x (tasks P (suc n)) × IsIn (item c i, e) (writes_by P.rules (W n) x)
      f = from_flat_map (writes_by P.rules (W n)) (item c i, e) (tasks P (suc n)) (in_entries P (suc n) (item c i) e h)

      g : (t : ChatTask C) × IsIn t (Tasks n) × (f.0 ≡ task_of t)
      g = in_map task_of f.0 (Tasks n)
          (subst (IsIn f.0) (tasks_linked rules lawful root strict fresh obeys linked n) f.1)

      t : ChatTask C
      t = g.0

      j : IsIn t (Tasks n)
      j = g.1

      t_told : IsToldBy (run_of rules (F n) t).name (leaves (run_of rules (F n) t)) (item c i) e
      t_told = (link_of n t j).1.told (item c i) e
          (subst (λ z. IsIn (item c i, e) (writes_by P.rules (W n) z)) g.2 f.2)

      at : IsToldBy (run_of rules (F n) t).name (leaves (run_of rules (F n) t)) (item c i) e
          → (w : Channel × ChannelState) × IsIn w (all_left n) × (w.0 ≡ c) × IsEntryFor (found_in w.1 i) e
      at (inl q) =
          let s = run_sound rules lawful (F n) (2 * suc (rules.left t.chatter)) t (task_fit n t j) in
          absurd (item_no_task rules lawful root strict fresh obeys linked m n c i o l t j (q ∙ s.0.named))
      at (inr q) =
          let r = channels_apart rules lawful root strict fresh obeys linked m n c q.0.0 i q.1 o
          (left_opened n t j q.0 q.2) l q.3 q.4 in (
            q.0,
            in_flat_map (λ t. leaves (run_of rules (F n) t)) t q.0 (Tasks n) j q.2,
            sym r.0,
            subst (λ k. IsEntryFor (found_in q.0.1 k) e) (sym r.1) q.5,
          )

    -- what is left has its entry
    left_entry : (n : ℕ) (w : Channel × ChannelState) → IsIn w (all_left n) → (i : ℕ) → i < w.0.items → (e : Entry)
        → IsEntryFor (found_in w.1 i) e → W (suc n) (item w.0 i) ≡ Some e
    left_entry n w k i l e f =
        let r = from_flat_map (λ t. leaves (run_of rules (F n) t)) w (Tasks n) k in
        left_written n r.0 r.1 (had n r.0 r.1) w r.2 i l e f

    all_opened : (n : ℕ) (w : Channel × ChannelState) → IsIn w (all_left n) → IsOpened n w.0
    all_opened n w k =
        let r = from_flat_map (λ t. leaves (run_of rules (F n) t)) w (Tasks n) k in left_opened n r.0 r.1 w r.2

    -- an opened channel has items
    has_items : (n : ℕ) (c : Channel) → IsOpened n c → 0 < c.items
    has_items n c o =
        let s = run_sound rules lawful (F n) (2 * suc (rules.left o.0.chatter)) o.0 (task_fit n o.0 o.1) in
        s.0.tidy.some c (s.0.tidy.opened_by c o.2).0

    -- channels of rounds that are the same are one
    one_channel : (m n : ℕ) (c d : Channel) → IsOpened m c → IsOpened n d → is_same c d ≡ true → c ≡ d
    one_channel m n c d o p s =
        let r = same_parts c d s in
        let e : item c 0 ≡ item d 0 = (λ i. r.0 i ++ (r.1 i + 1) ∷ []) in
        (channels_apart rules lawful root strict fresh obeys linked m n c d 0 0 o p (has_items m c o) (has_items n d p)
        e).0

    -- what is left of all tells what the next assignment tells
    left_is_entry : (n m : ℕ) (c : Channel) → IsOpened m c → (i : ℕ) → i < c.items
        → found_in (state_in (all_left n) c) i ≡ found_entry (W (suc n) (item c i))
    left_is_entry n m c o i l = at (state_found (all_left n) c i) where
      nothing : IsFoundAmong (all_left n) c i → found_in (state_in (all_left n) c) i ≡ to_come
          → found_in (state_in (all_left n) c) i ≡ found_entry (W (suc n) (item c i))
      nothing r e = by (W (suc n) (item c i)) refl where
        by : (x : Option Entry) → W (suc n) (item c i) ≡ x
            → found_in (state_in (all_left n) c) i ≡ found_entry (W (suc n) (item c i))
        by None z = e ∙ ap found_entry (sym z)
        by (Some x) z =
            let w = written_left n m c i x o l z in
            let f = r.none e w.0 w.1 (subst (λ d. is_same c d ≡ true) (sym w.2) (is_same_self c)) in
            absurd (subst (λ g. IsEntryFor g x) f w.3)

      found : (w : Channel × ChannelState) → IsIn w (all_left n) → is_same c w.0 ≡ true
          → (f : Found) → found_in w.1 i ≡ f → ¬ (f ≡ to_come) → f ≡ found_entry (W (suc n) (item c i))
      found w j s f e h = by f e h where
        x : c ≡ w.0
        x = one_channel m n c w.0 o (all_opened n w j) s

        entered : (y : Entry) → IsEntryFor (found_in w.1 i) y → W (suc n) (item c i) ≡ Some y
        entered y k = subst (λ d. W (suc n) (item d i) ≡ Some y) (sym x)
            (left_entry n w j i (subst (λ (d : Channel). i < d.items) x l) y k)

        by : (f : Found) → found_in w.1 i ≡ f → ¬ (f ≡ to_come) → f ≡ found_entry (W (suc n) (item c i))
        by to_come e h = absurd (h refl)
        by cut_off e h =
            sym (ap found_entry (entered entry.Broken (subst (λ g. IsEntryFor g entry.Broken) (sym e) refl)))
        by (value_of v) e h = sym (ap found_entry (entered (entry.Value (value.Num v))
            (subst (λ g. IsEntryFor g (entry.Value (value.Num v))) (sym e) refl)))

      at : IsFoundAmong (all_left n) c i → found_in (state_in (all_left n) c) i ≡ found_entry (W (suc n) (item c i))
      at r = ⊎_elim (λ e. nothing r e) (λ w. some w (found_in w.0.1 i) refl) r.one where
        some : (w : (w : Channel × ChannelState) × IsIn w (all_left n)
            × (is_same c w.0 ≡ true) × (found_in (state_in (all_left n) c) i ≡ found_in w.1 i))
            → (f : Found) → found_in w.0.1 i ≡ f
            → found_in (state_in (all_left n) c) i ≡ found_entry (W (suc n) (item c i))
        some w to_come e = nothing r (w.3 ∙ e)
        some w cut_off e = w.3 ∙ (e ∙ found w.0 w.1 w.2 cut_off e no_cut)
        some w (value_of v) e = w.3 ∙ (e ∙ found w.0 w.1 w.2 (value_of v) e (no_value v))

    -- the lists of round n tell what its assignment tells
    abbrev AreEntries : ℕ → Type 0
    AreEntries n = (m : ℕ) (c : Channel) → IsOpened m c → AreOneOn (finds_of (L n)) (F n) c

    -- then the histories over lists are the runs over the assignment
    same_run : (n : ℕ) → AreEntries n → (t : ChatTask C) → IsIn t (Tasks n)
        → chat_history rules (L n) t ≡ run_of rules (F n) t
    same_run n h t j = histories_are_runs rules (L n) t
        ∙ sym (run_determined rules lawful (F n) (finds_of (L n)) t (task_fit n t j)
        (λ c i k l. sym (h n c (channel_opened n t j c i) k l)))

    same_families : (n : ℕ) → AreEntries n → (d : ℕ) (t : ChatTask C)
        → ((u : ChatTask C) → IsIn u (run_family rules (F n) d t) → IsIn u (Tasks n))
        → chat_family rules (L n) d t ≡ run_family rules (F n) d t
    same_families n h zero t a = refl
    same_families n h (suc d) t a =
        let p = run_of rules (F n) t in
        ap (λ (q : ChatPoint C). t ∷ flat_map (chat_family rules (L n) d) q.children) (same_run n h t (a t (inl refl)))
        ∙ ap (λ z. t ∷ z) (same_lists (chat_family rules (L n) d) (run_family rules (F n) d) p.children
        (λ c i. same_families n h d c (λ u k. a u (inr (in_flat_map (run_family rules (F n) d) c u p.children i k)))))

    same_tasks : (n : ℕ) → AreEntries n → chat_family rules (L n) (suc n) (root_chat root) ≡ Tasks n
    same_tasks n h = same_families n h (suc n) (root_chat root) (λ u i. i)

    pub lists_are_entries : (n : ℕ) → AreEntries n
    lists_are_entries zero m c o i l = untouched_found i
    lists_are_entries (suc n) m c o i l =
        let h = lists_are_entries n in
        let s : flat_map (left_by rules (L n)) (chat_family rules (L n) (suc n) (root_chat root)) ≡ all_left n =
        ap (flat_map (left_by rules (L n))) (same_tasks n h)
        ∙ same_lists (left_by rules (L n)) (λ t. leaves (run_of rules (F n) t)) (Tasks n)
        (λ t j. ap leaves (same_run n h t j)) in
        ap (λ ws. found_in (state_in ws c) i) s ∙ left_is_entry n m c o i l

    pub run_same : (n : ℕ) (t : ChatTask C) → IsIn t (Tasks n) → chat_history rules (L n) t ≡ run_of rules (F n) t
    run_same n t j = same_run n (lists_are_entries n) t j

    pub tasks_same : (n : ℕ) → chat_tasks (chats_of rules root) (suc n) ≡ Tasks n
    tasks_same n = same_tasks n (lists_are_entries n)

    -- the cells of a round
    cells_same : (n : ℕ) → cells P n ≡ chat_cells (chats_of rules root) n
    cells_same zero = refl
    cells_same (suc n) =
        ap (flat_map (cells_by P.rules (W n))) (tasks_linked rules lawful root strict fresh obeys linked n)
        ∙ (lists_same (cells_by P.rules (W n)) task_of (chat_cells_by rules (L n)) (Tasks n)
        (λ t j. ap (λ z. t.name ∷ z) ((link_of n t j).0.of_task.2
        ∙ ap (λ (p : ChatPoint C). flat_map items_of p.opened) (sym (run_same n t j))))
        ∙ ap (flat_map (chat_cells_by rules (L n))) (sym (tasks_same n)))

    -- and what is told of it
    told_of_round : (n : ℕ) → map stopped_of (map (history P.rules (W n)) (tasks P n))
        ≡ map chat_told (map (chat_history rules (L n)) (chat_tasks (chats_of rules root) n))
    told_of_round zero = refl
    told_of_round (suc n) =
        ap (λ l. map stopped_of (map (history P.rules (W (suc n))) l))
        (tasks_linked rules lawful root strict fresh obeys linked n)
        ∙ (ap (map stopped_of) (maps_same (history P.rules (W (suc n))) task_of
        (λ t. history P.rules (W (suc n)) (task_of t)) (Tasks n) (λ t j. refl))
        ∙ (maps_same stopped_of (λ t. history P.rules (W (suc n)) (task_of t))
        (λ t. chat_told (chat_history rules (L (suc n)) t)) (Tasks n) (λ t j. one t j)
        ∙ (sym (maps_same chat_told (chat_history rules (L (suc n)))
        (λ t. chat_told (chat_history rules (L (suc n)) t)) (Tasks n) (λ t j. refl))
        ∙ ap (λ l. map chat_told (map (chat_history rules (L (suc n))) l)) (sym (tasks_same n))))) where
          one : (t : ChatTask C) → IsIn t (Tasks n)
              → stopped_of (history P.rules (W (suc n)) (task_of t)) ≡ chat_told (chat_history rules (L (suc n)) t)
          one t j =
              let k : IsIn t (Tasks (suc n)) = family_grows rules (F n) (F (suc n))
              (more_found (W n) (W (suc n)) (within P n (suc n) (omega arith))) (suc n) (suc (suc n)) (omega arith)
              (root_chat root) t j in
              told_same (run_of rules (F (suc n)) t) (history P.rules (W (suc n)) (task_of t)) (link_of (suc n) t k).0
              (F (suc n)) (run_halts rules lawful (F (suc n)) t
              (task_fit (suc n) t k))
              ∙ ap chat_told (sym (run_same (suc n) t k))

    -- so the meaning is that of channels as lists
    pub is_meant : (N : ℕ) → (IsFull P N ↔ IsChatFull (chats_of rules root) N)
        × ((o : Outcome) → IsOutcome (meaning P N) o ↔ IsChatOutcome (chat_meaning (chats_of rules root) N) o)
    is_meant N =
        let n = last_round N in
        let e = cells_same n in
        let t = told_of_round n in (
          (subst (λ l. N < length l) e, subst (λ l. N < length l) (sym e)),
          λ o. ((λ h. (h.0, sym t ∙ h.1, h.2)), (λ h. (h.0, t ∙ h.1, h.2))),
        )
