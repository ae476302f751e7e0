-- What holds at each point of a run of a fit task: it is tidy, its children are fit, and its chatter is to be given an
-- answer that it awaits.
use Rattle.std.proofs.Common.{◌≡◌, ℕ, zero, suc, ◌+◌, ◌<◌, ◌≤◌, Bool, true, false, cond, nat_eq, nat_lt, ◌||◌, ◌⊎◌}
use Rattle.std.proofs.Common.{inl, inr, ⊎_elim, List, [], ◌∷◌, ◌++◌, length, Option, Some, None, refl, sym, ap, ◌∙◌}
use Rattle.std.proofs.Common.{subst, arith, length-append, ltb-true, eqb-true}
use Rattle.std.specs.Prelude.{ℤ, slice_get}
use Rattle.std.specs.List.{list_any}
use Rattle.std.specs.Cmp.{first_so, second_so}
use Rattle.tj_base.specs.ForkOrder.{Name, child}
use Rattle.tj_body.specs.Points.{IsIn}
use Rattle.tj_body.proofs.Lists.{in_left, in_right, in_either}
use Rattle.tj_chan.specs.Chats.{cell, FitsChat, channels_added, chat_awaited}
use Rattle.tj_base.specs.declared.cause.Cause.TheVariants as cause
use Rattle.tj_chan.specs.Chats.{most_channels, IsFreshChat, IsChatAsk}
use Rattle.tj_chan.specs.Channels.{ChatRules, Channel, SendingEnd, is_same, times, end_of, with_sent, part_with}
use Rattle.tj_chan.specs.Channels.{ChatStage, answered, receives, ended, failed, ChatTask, ChatPoint, Parting}
use Rattle.tj_chan.specs.Channels.{new_end, channels_at, found_both, are_among, next_channel, next_chat}
use Rattle.tj_chan.specs.Channels.{after_send, after_send_by, after_receive, after_spawn, after_chat_ask}
use Rattle.tj_chan.specs.Channels.{after_fault, parting_of}
use Rattle.tj_chan.specs.ChannelLaws.{AreLawfulChats}
use Rattle.tj_chan.specs.declared.chat.ChatAnswer.TheVariants as answer
use Rattle.tj_chan.specs.declared.chat.ChatAsk.{ChatAsk}
use Rattle.tj_chan.specs.declared.chat.ChatAsk.TheVariants as ask
use Rattle.tj_chan.proofs.Lists.Runs.{Finds, Found, to_come, cut_off, value_of, after_found, run_stage, run_after}
use Rattle.tj_chan.proofs.Lists.Runs.{AreApart, AreOneOrApart, AreTidy, IsFit}
use Rattle.tj_chan.proofs.Lists.Apart.{one_item, not_same, same_turned, apart_turned, one_of_same}
use Rattle.tj_chan.proofs.Lists.Apart.{sent_there, once_sent, once_more, IsParting, parting_is}

-- an element at a place is there
pub got_there : {A : Type 0} (l : List A) (k : ℕ) (x : A) → slice_get l k ≡ Some x → IsIn x l
got_there [] k x h = cc
got_there (y ∷ ys) zero x h = let e : y ≡ x = cc in inl (sym e)
got_there (y ∷ ys) (suc k) x h = inr (got_there ys k x h)

-- an element of a list with one more at the end
pub in_last : {A : Type 0} (x n : A) (l : List A) → IsIn x (l ++ n ∷ []) → IsIn x l ⊎ (x ≡ n)
in_last {A = A} x n l i = ⊎_elim (λ a. inl a) (λ b. inr (only x b)) (in_either x l (n ∷ []) i) where
  only : (y : A) → IsIn y (n ∷ []) → y ≡ n
  only y (inl e) = e
  only y (inr z) = absurd z

-- that one is there
pub at_last : {A : Type 0} (n : A) (l : List A) → IsIn n (l ++ n ∷ [])
at_last n l = in_right n l (n ∷ []) (inl refl)

-- channels that are found at places are there, each at one of the places
pub found_at : (cs : List Channel) (ks : List ℕ) (ds : List Channel) → channels_at cs ks ≡ Some ds → (d : Channel)
    → IsIn d ds → (k : ℕ) × IsIn k ks × (slice_get cs k ≡ Some d)
found_at cs [] ds h d i = let e : [] ≡ ds = cc in absurd (subst (IsIn d) (sym e) i)
found_at cs (k ∷ ks) ds h d i =
    by (slice_get cs k) refl (channels_at cs ks) refl (λ es f j. found_at cs ks es f d j) h where
      by : (x : Option Channel) → slice_get cs k ≡ x → (y : Option (List Channel)) → channels_at cs ks ≡ y
          → ((es : List Channel) → channels_at cs ks ≡ Some es → IsIn d es
          → (j : ℕ) × IsIn j ks × (slice_get cs j ≡ Some d))
          → found_both x y ≡ Some ds → (j : ℕ) × IsIn j (k ∷ ks) × (slice_get cs j ≡ Some d)
      by None g y f rec m = cc
      by (Some c) g None f rec m = cc
      by (Some c) g (Some es) f rec m = at (subst (IsIn d) (sym e) i) where
        e : c ∷ es ≡ ds
        e = cc

        at : IsIn d (c ∷ es) → (j : ℕ) × IsIn j (k ∷ ks) × (slice_get cs j ≡ Some d)
        at (inl j) = (k, inl refl, g ∙ ap (λ (z : Channel). Some z) (sym j))
        at (inr j) = let r = rec es f j in (r.0, inr r.1, r.2)

pub found_there : (cs : List Channel) (ks : List ℕ) (ds : List Channel) → channels_at cs ks ≡ Some ds → (d : Channel)
    → IsIn d ds → IsIn d cs
found_there cs ks ds h d i = let r = found_at cs ks ds h d i in got_there cs r.0 d r.2

-- what is at one of the places is found
pub at_found : (cs : List Channel) (ks : List ℕ) (ds : List Channel) → channels_at cs ks ≡ Some ds → (d : Channel)
    (k : ℕ) → IsIn k ks → slice_get cs k ≡ Some d → IsIn d ds
at_found cs [] ds h d k i g = absurd i
at_found cs (j ∷ ks) ds h d k i g =
    by (slice_get cs j) refl (channels_at cs ks) refl (λ es f m. at_found cs ks es f d k m g) h i where
      by : (x : Option Channel) → slice_get cs j ≡ x → (y : Option (List Channel)) → channels_at cs ks ≡ y
          → ((es : List Channel) → channels_at cs ks ≡ Some es → IsIn k ks → IsIn d es)
          → found_both x y ≡ Some ds → IsIn k (j ∷ ks) → IsIn d ds
      by None f y e rec m n = cc
      by (Some c) f None e rec m n = cc
      by (Some c) f (Some es) e rec m n = subst (IsIn d) z (at n) where
        z : c ∷ es ≡ ds
        z = cc

        at : IsIn k (j ∷ ks) → IsIn d (c ∷ es)
        at (inl q) = let o : slice_get cs k ≡ Some c = ap (slice_get cs) q ∙ f in let p : d ≡ c = cc in inl p
        at (inr q) = inr (rec es e q)

-- as many as places
pub found_count : (cs : List Channel) (ks : List ℕ) (ds : List Channel) → channels_at cs ks ≡ Some ds
    → length ds ≡ length ks
found_count cs [] ds h = let e : [] ≡ ds = cc in ap length (sym e)
found_count cs (k ∷ ks) ds h =
    by (slice_get cs k) (channels_at cs ks) refl (λ es f. found_count cs ks es f) h where
      by : (x : Option Channel) (y : Option (List Channel)) → channels_at cs ks ≡ y
          → ((es : List Channel) → channels_at cs ks ≡ Some es → length es ≡ length ks)
          → found_both x y ≡ Some ds → length ds ≡ suc (length ks)
      by None y f rec m = cc
      by (Some c) None f rec m = cc
      by (Some c) (Some es) f rec m =
          let e : c ∷ es ≡ ds = cc in ap length (sym e) ∙ ap suc (rec es f)

-- a number that is found is one of the numbers
pub any_there : (k : ℕ) (ks : List ℕ) → list_any (nat_eq k) ks ≡ true → IsIn k ks
any_there k [] h = cc
any_there k (j ∷ js) h = by (nat_eq k j) refl (λ g. any_there k js g) h where
  by : (b : Bool) → nat_eq k j ≡ b → (list_any (nat_eq k) js ≡ true → IsIn k js)
      → (b || list_any (nat_eq k) js) ≡ true → IsIn k (j ∷ js)
  by true e rec g = inl (eqb-true k j e)
  by false e rec g = inr (rec g)

-- each place of the second list is one of the first
pub among_there : (pass give : List ℕ) → are_among pass give ≡ true → (k : ℕ) → IsIn k give → IsIn k pass
among_there pass [] h k i = absurd i
among_there pass (j ∷ js) h k i = at (λ g z. among_there pass js g k z) i where
  a : list_any (nat_eq j) pass ≡ true
  a = first_so (list_any (nat_eq j) pass) (are_among pass js) h

  b : are_among pass js ≡ true
  b = second_so (list_any (nat_eq j) pass) (are_among pass js) h

  at : (are_among pass js ≡ true → IsIn k js → IsIn k pass) → IsIn k (j ∷ js) → IsIn k pass
  at rec (inl e) = subst (λ z. IsIn z pass) (sym e) (any_there j pass a)
  at rec (inr z) = rec b z

-- channels that are given are passed
pub given_passed : (cs : List Channel) (pass give : List ℕ) (ps gs : List Channel) → are_among pass give ≡ true
    → channels_at cs pass ≡ Some ps → channels_at cs give ≡ Some gs → (c : Channel) → IsIn c gs → IsIn c ps
given_passed cs pass give ps gs h p g c i =
    let r = found_at cs give gs g c i in at_found cs pass ps p c r.0 (among_there pass give h r.0 r.1) r.2

-- Tidiness. It stays where a channel is opened.
module _ (name : Name) (cs : List Channel) (es : List SendingEnd) (made : ℕ) (op : List Channel) where
  -- the channel that is opened
  abbrev pub opened_next : ℕ → Channel
  opened_next k = record { opener = name; made_before = made; items = k }

  -- it is apart from those before
  pub new_apart : AreTidy name cs es made op → (k : ℕ) (c : Channel) → IsIn c cs
      → (is_same c (opened_next k) ≡ false) × AreApart c (opened_next k)
  new_apart y k c i = by (y.scoped c i) where
    by : (length c.opener < length name) ⊎ ((c.opener ≡ name) × (c.made_before + c.items ≤ made))
        → (is_same c (opened_next k) ≡ false) × AreApart c (opened_next k)
    by (inl l) = (
      not_same c (opened_next k) (λ e. let z : length c.opener ≡ length name = ap length e.0 in absurd (omega arith)),
      λ a b m n e. let z : length c.opener ≡ length name = ap length (one_item c (opened_next k) a b e).0 in
          absurd (omega arith),
    )
    by (inr o) = let s = y.some c i in let l = o.1 in (
      not_same c (opened_next k) (λ e. let z : c.made_before ≡ made = e.1 in absurd (omega arith)),
      λ a b m n e. let z = (one_item c (opened_next k) a b e).1 in absurd (omega arith),
    )

  pub tidy_open : AreTidy name cs es made op → (k : ℕ) → 0 < k
      → AreTidy name (cs ++ opened_next k ∷ []) (es ++ new_end (opened_next k) ∷ []) (made + k)
      (op ++ opened_next k ∷ [])
  tidy_open y k l = record {
    scoped = λ c i. scope c (in_last c n cs i);
    some = λ c i. ⊎_elim (λ a. y.some c a) (λ e. subst (λ (x : Channel). 0 < x.items) (sym e) l) (in_last c n cs i);
    apart = λ c d i j. two c d (in_last c n cs i) (in_last d n cs j);
    holds = λ e i. ⊎_elim (λ a. in_left e.channel cs (n ∷ []) (y.holds e a))
        (λ z. subst (λ (x : SendingEnd). IsIn x.channel (cs ++ n ∷ [])) (sym z) (at_last n cs))
        (in_last e (new_end n) es i);
    once = once_more es (new_end n) y.once (λ e i. (new_apart y k e.channel (y.holds e i)).0);
    opened_by = λ c i. ⊎_elim (λ a. let r = y.opened_by c a in (in_left c cs (n ∷ []) r.0, r.1))
        (λ z. subst (λ (x : Channel). IsIn x (cs ++ n ∷ []) × (x.opener ≡ name)) (sym z) (at_last n cs, refl))
        (in_last c n op i);
  } where
    n : Channel
    n = opened_next k

    scope : (c : Channel) → IsIn c cs ⊎ (c ≡ n)
        → (length c.opener < length name) ⊎ ((c.opener ≡ name) × (c.made_before + c.items ≤ made + k))
    scope c (inl a) = ⊎_elim (λ m. inl m) (λ o. let z = o.1 in inr (o.0, omega arith)) (y.scoped c a)
    scope c (inr e) = subst
        (λ (x : Channel). (length x.opener < length name) ⊎ ((x.opener ≡ name) × (x.made_before + x.items ≤ made + k)))
        (sym e) (inr (refl, omega arith))

    two : (c d : Channel) → IsIn c cs ⊎ (c ≡ n) → IsIn d cs ⊎ (d ≡ n) → AreOneOrApart c d
    two c d (inl a) (inl b) = y.apart c d a b
    two c d (inl a) (inr b) = subst (AreOneOrApart c) (sym b) (inr (new_apart y k c a))
    two c d (inr a) (inl b) = subst (λ x. AreOneOrApart x d) (sym a)
        (inr (same_turned d n (new_apart y k d b).0, apart_turned d n (new_apart y k d b).1))
    two c d (inr a) (inr b) = inl (a ∙ sym b)

  -- where a value is sent
  pub tidy_sent : AreTidy name cs es made op → (c : Channel) (v : ℤ) → AreTidy name cs (with_sent c v es) made op
  tidy_sent y c v = record {
    scoped = y.scoped;
    some = y.some;
    apart = y.apart;
    holds = λ f i. let r = sent_there c v es f i in subst (λ d. IsIn d cs) r.2 (y.holds r.0 r.1);
    once = once_sent c v es y.once;
    opened_by = y.opened_by;
  }

  -- where a child is spawned
  pub tidy_parted : AreTidy name cs es made op → (gs : List Channel) (p : Parting) → IsParting gs es p
      → AreTidy name cs p.kept (suc made) op
  tidy_parted y gs p r = record {
    scoped = λ c i. ⊎_elim (λ m. inl m) (λ o. let z = o.1 in inr (o.0, omega arith)) (y.scoped c i);
    some = y.some;
    apart = y.apart;
    holds = λ f i. y.holds f (r.kept f i);
    once = r.kept_once;
    opened_by = y.opened_by;
  }

  -- and the child's start
  pub tidy_child : AreTidy name cs es made op → (gs ps : List Channel) (p : Parting) → IsParting gs es p
      → ((c : Channel) → IsIn c ps → IsIn c cs) → ((c : Channel) → IsIn c gs → IsIn c ps)
      → AreTidy (child name (suc made)) ps p.given 0 []
  tidy_child y gs ps p r there passed = record {
    scoped = λ c i. inl (deeper c (y.scoped c (there c i)));
    some = λ c i. y.some c (there c i);
    apart = λ c d i j. y.apart c d (there c i) (there d j);
    holds = λ f i. let w = r.wanted f i in
        let c = w.0 in
        let at = passed c w.1 in
        let e = one_of_same c f.channel (y.apart c f.channel (there c at) (y.holds f (r.given f i))) w.2 in
        subst (λ d. IsIn d ps) e at;
    once = r.given_once;
    opened_by = λ c i. absurd i;
  } where
    deeper : (c : Channel) → (length c.opener < length name) ⊎ ((c.opener ≡ name) × (c.made_before + c.items ≤ made))
        → length c.opener < length (child name (suc made))
    deeper c (inl l) = let m = length-append name (suc made ∷ []) in omega arith
    deeper c (inr o) =
        let m = length-append name (suc made ∷ []) in
        let z : length c.opener ≡ length name = ap length o.0 in omega arith

module _ {C : Type 0} (rules : ChatRules C) where
  -- what holds of a child of a task with these channels, which has handed on these ends
  pub record IsChild (channels : List Channel) (handed : List SendingEnd) (c : ChatTask C) : Type 0 where
    pub fit : IsFit rules c
    pub passed : (d : Channel) → IsIn d c.passed → IsIn d channels
    pub given : (g : SendingEnd) → IsIn g c.given → IsIn g handed

  -- what holds at a point of the task, whatever its stage
  pub record AreKept (t : ChatTask C) (name : Name) (channels : List Channel) (ends : List SendingEnd) (made : ℕ)
      (opened : List Channel) (children : List (ChatTask C)) (handed : List SendingEnd) : Type 0 where
    pub named : name ≡ t.name
    pub tidy : AreTidy name channels ends made opened
    pub split : (c : Channel) → IsIn c channels → IsIn c t.passed ⊎ IsIn c opened
    pub children_are : (c : ChatTask C) → IsIn c children → IsChild channels handed c
    pub handed_are : (g : SendingEnd) → IsIn g handed → IsIn g.channel channels

  abbrev pub IsKept : ChatTask C → ChatPoint C → Type 0
  IsKept t p = AreKept t p.name p.channels p.ends p.made p.opened p.children p.handed_on

  -- the chatter may be given its answer; one that is waited for is an item of a channel of the task
  abbrev pub IsAliveAt : ChatStage → ChatPoint C → Type 0
  IsAliveAt (answered a) p = FitsChat (rules.awaits p.chatter) (rules.channels p.chatter) a
      × (rules.channels p.chatter + channels_added a ≡ length p.channels)
  IsAliveAt (receives c i) p = (rules.awaits p.chatter ≡ cell) × (rules.channels p.chatter ≡ length p.channels)
      × IsIn c p.channels × (i < c.items)
  IsAliveAt (ended v) p = Unit {0}
  IsAliveAt (failed f) p = Unit {0}

  abbrev pub IsSound : ChatTask C → ChatPoint C → Type 0
  IsSound t p = IsKept t p × IsAliveAt p.stage p

  -- an ask keeps it
  ask_keeps : (t : ChatTask C) (q : ChatPoint C) (x : ChatAsk C) → IsKept t q → rules.awaits q.chatter ≡ chat_awaited x
      → rules.channels q.chatter ≡ length q.channels → IsChatAsk rules.channels rules.awaits rules.left x
      → IsSound t (after_chat_ask x q)
  ask_keeps t q (ask.Open k) y w n a =
      let m = length-append q.channels (next_channel k q ∷ []) in (
        record {
          named = y.named;
          tidy = tidy_open q.name q.channels q.ends q.made q.opened y.tidy k a.0;
          split = λ c i. ⊎_elim
              (λ j. ⊎_elim (λ z. inl z) (λ z. inr (in_left c q.opened (next_channel k q ∷ []) z)) (y.split c j))
              (λ e. inr (subst (λ z. IsIn z (q.opened ++ next_channel k q ∷ [])) (sym e)
              (at_last (next_channel k q) q.opened)))
              (in_last c (next_channel k q) q.channels i);
          children_are = λ c i. let r = y.children_are c i in record {
            fit = r.fit;
            passed = λ d j. in_left d q.channels (next_channel k q ∷ []) (r.passed d j);
            given = r.given;
          };
          handed_are = λ g i. in_left g.channel q.channels (next_channel k q ∷ []) (y.handed_are g i);
        },
        (
          subst (λ z. FitsChat z (rules.channels q.chatter) (answer.Chan (length q.channels))) (sym w) (sym n),
          omega arith,
        ),
      )
  ask_keeps t q (ask.Send c v) y w n a = by (slice_get q.channels c) where
    by_end : (ch : Channel) (o : Option SendingEnd) → IsSound t (after_send_by v o q)
    by_end ch None = (y, tt)
    by_end ch (Some e) = room (nat_lt (length e.sent) e.channel.items) where
      room : (b : Bool) → IsSound t (cond b
          (record q { stage = answered answer.Done; ends = with_sent e.channel v q.ends }) (after_fault cause.Kind q))
      room true = (
        record {
          named = y.named;
          tidy = tidy_sent q.name q.channels q.ends q.made q.opened y.tidy e.channel v;
          split = y.split;
          children_are = y.children_are;
          handed_are = y.handed_are;
        },
        (subst (λ z. FitsChat z (rules.channels q.chatter) answer.Done) (sym w) tt, omega arith),
      )
      room false = (y, tt)

    by : (o : Option Channel) → IsSound t (after_send o v q)
    by None = (y, tt)
    by (Some ch) = by_end ch (end_of ch q.ends)
  ask_keeps t q (ask.Recv c) y w n a = by (slice_get q.channels c) refl where
    by : (o : Option Channel) → slice_get q.channels c ≡ o → IsSound t (after_receive o q)
    by None e = (y, tt)
    by (Some ch) e = room (nat_lt (times ch q.received) ch.items) refl where
      room : (b : Bool) → nat_lt (times ch q.received) ch.items ≡ b → IsSound t (cond b
          (record q { stage = receives ch (times ch q.received); received = q.received ++ ch ∷ [] })
          (after_fault cause.Kind q))
      room true l = (y, (w, n, got_there q.channels c ch e, ltb-true (times ch q.received) ch.items l))
      room false l = (y, tt)
  ask_keeps t q (ask.Spawn b pass give) y w n a = by (are_among pass give) refl where
    spawned : (ps gs : List Channel) (pt : Parting) → are_among pass give ≡ true → channels_at q.channels pass ≡ Some ps
        → channels_at q.channels give ≡ Some gs → part_with gs q.ends ≡ Some pt
        → IsSound t (after_spawn b (Some ps) (Some pt) q)
    spawned ps gs pt h p g o = (
      record {
        named = y.named;
        tidy = tidy_parted q.name q.channels q.ends q.made q.opened y.tidy gs pt r;
        split = y.split;
        children_are = λ c i. ⊎_elim (λ j. old c j)
            (λ e. subst (IsChild q.channels (q.handed_on ++ pt.given)) (sym e) new)
            (in_last c (next_chat b ps pt.given q) q.children i);
        handed_are = λ g i. ⊎_elim (λ a. y.handed_are g a) (λ a. y.tidy.holds g (r.given g a))
            (in_either g q.handed_on pt.given i);
      },
      (subst (λ z. FitsChat z (rules.channels q.chatter) answer.Done) (sym w) tt, omega arith),
    ) where
      r : IsParting gs q.ends pt
      r = parting_is gs q.ends pt y.tidy.once o

      count : length ps ≡ length pass
      count = found_count q.channels pass ps p

      old : (c : ChatTask C) → IsIn c q.children → IsChild q.channels (q.handed_on ++ pt.given) c
      old c j = let z = y.children_are c j in record {
        fit = z.fit;
        passed = z.passed;
        given = λ g k. in_left g q.handed_on pt.given (z.given g k);
      }

      new : IsChild q.channels (q.handed_on ++ pt.given) (next_chat b ps pt.given q)
      new = record {
        fit = record {
          fresh = subst (λ z. IsFreshChat rules.channels rules.awaits rules.left z b) (sym count) a.fresh;
          few = subst (λ z. z ≤ most_channels) (sym count) a.few;
          tidy = tidy_child q.name q.channels q.ends q.made q.opened y.tidy gs ps pt r
              (found_there q.channels pass ps p) (given_passed q.channels pass give ps gs h p g);
        };
        passed = found_there q.channels pass ps p;
        given = λ g i. in_right g q.handed_on pt.given i;
      }

    parting : (ps : List Channel) → are_among pass give ≡ true → channels_at q.channels pass ≡ Some ps
        → (o : Option (List Channel)) → channels_at q.channels give ≡ o
        → IsSound t (after_spawn b (Some ps) (parting_of o q) q)
    parting ps h p None g = (y, tt)
    parting ps h p (Some gs) g = held (part_with gs q.ends) refl where
      held : (m : Option Parting) → part_with gs q.ends ≡ m → IsSound t (after_spawn b (Some ps) m q)
      held None o = (y, tt)
      held (Some pt) o = spawned ps gs pt h p g o

    passed : are_among pass give ≡ true → (o : Option (List Channel)) → channels_at q.channels pass ≡ o
        → IsSound t (after_spawn b o (parting_of (channels_at q.channels give) q) q)
    passed h None p = (y, tt)
    passed h (Some ps) p = parting ps h p (channels_at q.channels give) refl

    by : (z : Bool) → are_among pass give ≡ z → IsSound t (cond z
        (after_spawn b (channels_at q.channels pass) (parting_of (channels_at q.channels give) q) q)
        (after_fault cause.Kind q))
    by true h = passed h (channels_at q.channels pass) refl
    by false h = (y, tt)
  ask_keeps t q (ask.Emit i) y w n a =
      (y, (subst (λ z. FitsChat z (rules.channels q.chatter) answer.Done) (sym w) tt, omega arith))
  ask_keeps t q (ask.End v) y w n a = (y, tt)
  ask_keeps t q (ask.Fail f) y w n a = (y, tt)

  module _ (lawful : AreLawfulChats rules) (F : Finds) where
    -- and so does each step
    step_keeps : (t : ChatTask C) (st : ChatStage) (p : ChatPoint C) → p.stage ≡ st → IsKept t p → IsAliveAt st p
        → IsSound t (run_stage rules F st p)
    step_keeps t (answered a) p e y h =
        let n = lawful p.chatter a h.0 in
        let q : ChatPoint C = record p { chatter = rules.then p.chatter a } in
        ask_keeps t q (rules.asks p.chatter a) y n.awaits_answer (n.adds_places ∙ h.1) n.placed
    step_keeps t (receives c i) p e y h = by (F c i) where
      by : (f : Found) → IsSound t (after_found c i f p)
      by to_come = (y, subst (λ s. IsAliveAt s p) (sym e) h)
      by cut_off = (y, tt)
      by (value_of v) = let n = h.1 in
          (y, (subst (λ z. FitsChat z (rules.channels p.chatter) (answer.Num v)) (sym h.0) tt, omega arith))
    step_keeps t (ended v) p e y h = (y, subst (λ s. IsAliveAt s p) (sym e) h)
    step_keeps t (failed f) p e y h = (y, subst (λ s. IsAliveAt s p) (sym e) h)

    -- so each point is sound
    pub run_sound : (k : ℕ) (t : ChatTask C) → IsFit rules t → IsSound t (run_after rules F k t)
    run_sound zero t f = let n = f.fresh.has_places in (
      record {
        named = refl;
        tidy = f.tidy;
        split = λ c i. inl i;
        children_are = λ c i. absurd i;
        handed_are = λ g i. absurd i;
      },
      (subst (λ z. FitsChat z (rules.channels t.chatter) answer.Start) (sym f.fresh.begins) tt, omega arith),
    )
    run_sound (suc k) t f =
        let s = run_sound k t f in let p = run_after rules F k t in step_keeps t p.stage p refl s.0 s.1
