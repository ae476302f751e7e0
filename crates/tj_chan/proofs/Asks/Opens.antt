-- A channel that is opened: its promises are made one after the other, and then its row stands behind the others.
use Rattle.std.proofs.Common.{◌≡◌, ℕ, zero, suc, ◌+◌, ◌-◌, Bool, true, false, cond, ◌⊎◌, inl, inr, ⊎_elim}
use Rattle.std.proofs.Common.{List, [], ◌∷◌, ◌++◌, map, length, Some, None, refl, sym, ap, ◌∙◌, subst, arith}
use Rattle.std.proofs.Common.{append_assoc, append-nil, length-append}
use Rattle.std.proofs.lemmas.List.{length-map, map-append}
use Rattle.std.specs.Prelude.{slice_get}
use Rattle.std.specs.List.{flat_map}
use Rattle.tj_base.specs.ForkOrder.{Name, child}
use Rattle.tj_body.specs.Programs.{Program}
use Rattle.tj_body.specs.History.{Assignment, to_promise, after_new}
use Rattle.tj_body.specs.Points.{IsIn, IsPointOf}
use Rattle.tj_body.specs.declared.ask.Answer.TheVariants as told
use Rattle.tj_body.specs.declared.point.Entry.{Entry}
use Rattle.tj_body.specs.declared.point.Entry.TheVariants as entry
use Rattle.tj_body.specs.declared.point.Value.TheVariants as value
use Rattle.tj_body.specs.declared.point.PointStage.TheVariants as stage
use Rattle.tj_body.specs.declared.point.Reference.{Reference}
use Rattle.tj_body.specs.declared.point.Point.{Point}
use Rattle.tj_body.proofs.Lists.{in_left}
use Rattle.tj_body.proofs.Histories.Points.{asks_on}
use Rattle.tj_chan.specs.Channels.{ChatRules, Channel, SendingEnd, ChannelState, is_same, item, items_of, things_after}
use Rattle.tj_chan.specs.Channels.{unsent, all_unsent, new_end, end_of, times, ChatTask, ChatPoint, next_channel}
use Rattle.tj_chan.specs.Channels.{after_open}
use Rattle.tj_chan.specs.ChannelRounds.{left_of, leaves, has_ended}
use Rattle.tj_chan.specs.ChanBodies.{new_row, with_channel, chat_turn}
use Rattle.tj_chan.specs.Inner.RowLaws.{get_last}
use Rattle.tj_chan.specs.declared.chat.ChatAnswer.TheVariants as chan
use Rattle.tj_chan.specs.declared.chat.ChatAsk.TheVariants as ask
use Rattle.tj_chan.specs.declared.rows.PromiseRow.{PromiseRow}
use Rattle.tj_chan.specs.declared.body.Due.TheVariants as due
use Rattle.tj_chan.specs.declared.body.ChanBody.{ChanBody}
use Rattle.tj_chan.proofs.Lists.Runs.{AreTidy, found_in}
use Rattle.tj_chan.proofs.Linked.Items.{length-things}
use Rattle.tj_chan.proofs.Linked.Links.{references_of, channel_place, sent_by, is_held, IsRowOf, AreRowsOf}
use Rattle.tj_chan.proofs.Linked.Links.{task_of, IsEntryFor, IsWritten, AreWritesFor}
use Rattle.tj_chan.proofs.Linked.Steps.{program, AskIsLinked}
use Rattle.tj_chan.proofs.Lists.Apart.{is_same_self, not_same}
use Rattle.tj_chan.proofs.Lists.Kept.{got_there, in_last}
use Rattle.tj_chan.proofs.Linked.Begins.{place_seen, get_behind, get_front, reference_at_item}

-- one thing more, at the end
pub things_last : (x : Name) (m n : ℕ)
    → things_after x m (suc n) ≡ things_after x m n ++ child x (suc (m + n)) ∷ []
things_last x m zero = ap (λ j. child x (suc j) ∷ []) (let z : m ≡ m + 0 = omega arith in z)
things_last x m (suc n) = ap (λ l. child x (suc m) ∷ l) (things_last x (suc m) n
    ∙ ap (λ j. things_after x (suc m) n ++ child x (suc j) ∷ []) (let z : suc m + n ≡ m + suc n = omega arith in z))

-- a list of lists with one more at the end
pub flat_last : {A B : Type 0} (f : A → List B) (l : List A) (x : A) → flat_map f (l ++ x ∷ []) ≡ flat_map f l ++ f x
flat_last f [] x = append-nil (f x)
flat_last f (y ∷ ys) x = ap (λ z. f y ++ z) (flat_last f ys x) ∙ sym (append_assoc (f y) (flat_map f ys) (f x))

-- what stands at a place of a list with one more at the end
pub last_cases : {A : Type 0} (l : List A) (x : A) (n : ℕ) (z : A) → slice_get (l ++ x ∷ []) n ≡ Some z
    → (slice_get l n ≡ Some z) ⊎ ((n ≡ length l) × (z ≡ x))
last_cases [] x zero z h = let e : x ≡ z = cc in inr (refl, sym e)
last_cases [] x (suc n) z h = cc
last_cases (y ∷ ys) x zero z h = inl h
last_cases (y ∷ ys) x (suc n) z h = ⊎_elim (λ a. inl a) (λ e. inr (ap suc e.0, e.1)) (last_cases ys x n z h)

-- what is unsent with one end more
pub unsent_last : (es : List SendingEnd) (e : SendingEnd) → all_unsent (es ++ e ∷ []) ≡ all_unsent es ++ unsent e
unsent_last [] e = append-nil (unsent e)
unsent_last (f ∷ fs) e = ap (λ z. unsent f ++ z) (unsent_last fs e)
    ∙ sym (append_assoc (unsent f) (all_unsent fs) (unsent e))

module _ {C : Type 0} (b : Point (ChanBody C)) (s : ChanBody C) (k : ℕ) where
  -- the names of the promises that are made
  abbrev names : ℕ → List Name
  names d = things_after b.name b.made (suc d)

  -- the point where one promise and d more are made, and so many are still to be asked for
  abbrev opening : (d more : ℕ) → Point (ChanBody C)
  opening d more = record b {
    body = record s { places = s.places + d; due = due.Promise more k };
    stage = stage.Answered (told.Local (length b.references + d));
    references = b.references ++ map to_promise (names d);
    holds = b.holds ++ names d;
    made = b.made + suc d;
    promises = b.promises ++ names d;
  }

  -- so many places are there then
  many : (d : ℕ) → length (b.references ++ map to_promise (names d)) ≡ length b.references + suc d
  many d = length-append b.references (map to_promise (names d))
      ∙ ap (λ n. length b.references + n) (length-map (names d) to_promise ∙ length-things b.name b.made (suc d))

  -- one promise more is made
  one_new : (d more : ℕ)
      → after_new
      (record (opening d (suc more)) { body = record s { places = s.places + d + 1; due = due.Promise more k } })
      ≡ opening (suc d) more
  one_new d more = λ i. record b {
    body = record s { places = further s.places d i; due = due.Promise more k };
    stage = stage.Answered (told.Local (many d i));
    references = pointed i;
    holds = named b.holds i;
    made = made_too b.made d i;
    promises = named b.promises i;
  } where
    further : (m n : ℕ) → m + n + 1 ≡ m + suc n
    further m n = omega arith

    made_too : (m n : ℕ) → suc (m + suc n) ≡ m + suc (suc n)
    made_too m n = omega arith

    next : Name
    next = child b.name (suc (b.made + suc d))

    named : (front : List Name) → front ++ names d ++ next ∷ [] ≡ front ++ names (suc d)
    named front = append_assoc front (names d) (next ∷ [])
        ∙ ap (λ l. front ++ l) (sym (things_last b.name b.made (suc d)))

    pointed : b.references ++ map to_promise (names d) ++ to_promise next ∷ []
        ≡ b.references ++ map to_promise (names (suc d))
    pointed = append_assoc b.references (map to_promise (names d)) (to_promise next ∷ [])
        ∙ ap (λ l. b.references ++ l) (sym (map-append to_promise (names d) (next ∷ []))
        ∙ ap (map to_promise) (sym (things_last b.name b.made (suc d))))

  module _ (rules : ChatRules C) (root : C) (strict : Bool) (U : Assignment) (t : ChatTask C) where
    abbrev P : Program (ChanBody C)
    P = program rules root strict

    -- all promises are made
    all_news : (more d n : ℕ) → d + more ≡ n → IsPointOf P.rules U (task_of t) (opening d more)
        → IsPointOf P.rules U (task_of t) (opening n 0)
    all_news zero d n e h = subst (λ m. IsPointOf P.rules U (task_of t) (opening m 0))
        (let z : d ≡ n = omega arith in z) h
    all_news (suc more) d n e h = all_news more (suc d) n (omega arith)
        (subst (IsPointOf P.rules U (task_of t)) (one_new d more)
        (asks_on P.rules U (task_of t) (opening d (suc more)) (told.Local (length b.references + d)) h refl))

-- The row of a channel that is opened.
module _ {name : Name} {cs : List Channel} {es : List SendingEnd} {made : ℕ} {op : List Channel}
    (y : AreTidy name cs es made op) (k : ℕ) where
  -- the channel
  abbrev fresh : Channel
  fresh = record { opener = name; made_before = made; items = k }

  -- it is none of those that are there
  is_fresh : (c : Channel) → IsIn c cs → (is_same c fresh ≡ false) × (is_same fresh c ≡ false)
  is_fresh c i = ⊎_elim
      (λ l. let n : ¬ (c.opener ≡ name) = λ e.
      let z : length c.opener ≡ length name = ap length e in absurd (omega arith) in
      (not_same c fresh (λ e. n e.0), not_same fresh c (λ e. n (sym e.0))))
      (λ o. let l = o.1 in let g = y.some c i in
      let n : ¬ (c.made_before ≡ made) = λ e. absurd (omega arith) in
      (not_same c fresh (λ e. n e.1), not_same fresh c (λ e. n (sym e.1))))
      (y.scoped c i)

  -- it stands behind them
  stands_last : (ds : List Channel) → ((c : Channel) → IsIn c ds → IsIn c cs) → channel_place fresh ds ≡ length ds
  stands_last [] h = refl
  stands_last (d ∷ ds) h = ap (λ x. cond x 0 (suc (channel_place fresh ds))) (is_fresh d (h d (inl refl))).1
      ∙ ap suc (stands_last ds (λ c i. h c (inr i)))

  -- those that are there stand where they stood
  stands : (c : Channel) (ds : List Channel) → IsIn c ds → channel_place c (ds ++ fresh ∷ []) ≡ channel_place c ds
  stands c [] i = absurd i
  stands c (d ∷ ds) i = ⊎_elim
      (λ e. ap (λ x. cond x 0 (suc (channel_place c (ds ++ fresh ∷ [])))) (it e)
      ∙ sym (ap (λ x. cond x 0 (suc (channel_place c ds))) (it e)))
      (λ j. ap (λ n. cond (is_same c d) 0 (suc n)) (stands c ds j)) i where
        it : c ≡ d → is_same c d ≡ true
        it e = subst (λ x. is_same c x ≡ true) e (is_same_self c)

  -- the others' ends are found as before
  other_end : (c : Channel) (fs : List SendingEnd) → IsIn c cs → end_of c (fs ++ new_end fresh ∷ []) ≡ end_of c fs
  other_end c [] i = ap (λ x. cond x (Some (new_end fresh)) None) (is_fresh c i).0
  other_end c (f ∷ fs) i = ap (λ o. cond (is_same c f.channel) (Some f) o) (other_end c fs i)

  -- its end is the new one
  its_end : (fs : List SendingEnd) → ((e : SendingEnd) → IsIn e fs → IsIn e es)
      → end_of fresh (fs ++ new_end fresh ∷ []) ≡ Some (new_end fresh)
  its_end [] h = ap (λ x. cond x (Some (new_end fresh)) None) (is_same_self fresh)
  its_end (f ∷ fs) h =
      ap (λ x. cond x (Some f) (end_of fresh (fs ++ new_end fresh ∷ [])))
      (is_fresh f.channel (y.holds f (h f (inl refl)))).1 ∙ its_end fs (λ e i. h e (inr i))

  -- it hasn't been asked for
  never_asked : (ds : List Channel) → ((c : Channel) → IsIn c ds → IsIn c cs) → times fresh ds ≡ 0
  never_asked [] h = refl
  never_asked (d ∷ ds) h = ap (λ x. cond x (suc (times fresh ds)) (times fresh ds)) (is_fresh d (h d (inl refl))).1
      ∙ never_asked ds (λ c i. h c (inr i))

  module _ (received : List Channel) (references : List Reference) (rows : List PromiseRow) (places : ℕ)
      (are : AreRowsOf cs es received references rows) (count : places ≡ length references + k) where
    abbrev more_channels : List Channel
    more_channels = cs ++ fresh ∷ []

    abbrev more_ends : List SendingEnd
    more_ends = es ++ new_end fresh ∷ []

    abbrev more_references : List Reference
    more_references = references ++ references_of fresh

    abbrev opened_row : PromiseRow
    opened_row = new_row (length rows) places k

    -- a row that was there
    still_row : (n : ℕ) (c : Channel) (r : PromiseRow) → IsIn c cs → IsRowOf cs es received references n c r
        → IsRowOf more_channels more_ends received more_references n c r
    still_row n c r i x = record {
      first = x.first ∙ sym (stands c cs i);
      items = x.items;
      base = λ j l. get_front references (references_of fresh) (r.base + j) (to_promise (item c j)) (x.base j l);
      held = λ e. x.held e ∙ ap is_held (sym (other_end c es i));
      sent = λ e h. x.sent e h ∙ ap sent_by (sym (other_end c es i));
      asked = x.asked;
    }

    -- the new one
    its_row : (n : ℕ) → IsRowOf more_channels more_ends received more_references n fresh opened_row
    its_row n = record {
      first = are.count ∙ sym (place_seen fresh cs [] ∙ stands_last cs (λ c i. i));
      items = refl;
      base = λ j l. ap (λ m. slice_get more_references (m + j))
          (let z : places - k ≡ length references = omega arith in z)
          ∙ get_behind references (references_of fresh) j ∙ reference_at_item fresh j l;
      held = λ e. ap is_held (sym (its_end es (λ f i. i)));
      sent = λ e h. ap sent_by (sym (its_end es (λ f i. i)));
      asked = λ e. sym (never_asked received are.known);
    }

    -- rows for all
    rows_more : AreRowsOf more_channels more_ends received more_references (rows ++ opened_row ∷ [])
    rows_more = record {
      count = length-append rows (opened_row ∷ []) ∙ ap (λ n. n + 1) are.count ∙ sym (length-append cs (fresh ∷ []));
      known = λ c i. in_left c cs (fresh ∷ []) (are.known c i);
      each = λ n c h. ⊎_elim
          (λ g. let x = are.each n c g in
          (x.0, get_front rows (opened_row ∷ []) n x.0 x.1, still_row n c x.0 (got_there cs n c g) x.2))
          (λ e. (
            opened_row,
            ap (slice_get (rows ++ opened_row ∷ [])) (e.0 ∙ sym are.count) ∙ get_last rows opened_row,
            subst (λ d. IsRowOf more_channels more_ends received more_references n d opened_row) (sym e.1) (its_row n),
          ))
          (last_cases cs fresh n c h);
    }

module _ {C : Type 0} (rules : ChatRules C) (root : C) (strict : Bool) where
  -- what is left of channels is what was, and a channel into which nothing has been sent
  written_open : (t : ChatTask C) (p : ChatPoint C) (b : Point (ChanBody C)) (k : ℕ) → has_ended p.stage ≡ false
      → IsWritten t p b → (writes : List (Name × Entry)) → b.writes ≡ writes
      → AreWritesFor t.given p.name (leaves (after_open k p)) writes
  written_open t p b k o w writes same = record {
    told = λ q e i. ⊎_elim (λ n. inl n) (λ x. inr (x.0, x.1, grown x.0 x.2, x.3, x.4, x.5))
        (w.told q e (subst (IsIn (q, e)) (sym same) i));
    written = λ x i e h l f. ⊎_elim
        (λ g. ⊎_elim (λ m. inl (subst (IsIn (item x.0 i, e)) same m)) (λ m. inr m) (w.written x i e g l f))
        (λ g. absurd (subst (λ (z : Channel × ChannelState). IsEntryFor (found_in z.1 i) e) g f))
        (shrunk x h);
    plain = λ q r i. w.plain q r (subst (IsIn (q, entry.Value (value.Ref r))) (sym same) i);
  } where
    front : List (Channel × ChannelState)
    front = map (left_of false) p.handed_on

    kept : map (left_of false) (p.ends ++ new_end (next_channel k p) ∷ [])
        ≡ map (left_of (has_ended p.stage)) p.ends ++ left_of false (new_end (next_channel k p)) ∷ []
    kept = map-append (left_of false) p.ends (new_end (next_channel k p) ∷ [])
        ∙ ap (λ z. map (left_of z) p.ends ++ left_of false (new_end (next_channel k p)) ∷ []) (sym o)

    whole : leaves (after_open k p) ≡ leaves p ++ left_of false (new_end (next_channel k p)) ∷ []
    whole = ap (λ z. front ++ z) kept
        ∙ sym (append_assoc front (map (left_of (has_ended p.stage)) p.ends)
        (left_of false (new_end (next_channel k p)) ∷ []))

    grown : (x : Channel × ChannelState) → IsIn x (leaves p) → IsIn x (leaves (after_open k p))
    grown x i = subst (IsIn x) (sym whole) (in_left x (leaves p) (left_of false (new_end (next_channel k p)) ∷ []) i)

    shrunk : (x : Channel × ChannelState) → IsIn x (leaves (after_open k p))
        → IsIn x (leaves p) ⊎ (x ≡ left_of false (new_end (next_channel k p)))
    shrunk x i = in_last x (left_of false (new_end (next_channel k p))) (leaves p) (subst (IsIn x) whole i)

  -- a channel that is opened
  pub opens_linked : (k : ℕ) → AskIsLinked rules root strict (ask.Open k)
  opens_linked zero U t p b s y allowed ready w at = let l = allowed.0 in absurd (omega arith)
  opens_linked (suc d) U t p b s y allowed ready w at = (
    after,
    all_news b s (suc d) rules root strict U t d 0 d (omega arith) (subst (IsPointOf P.rules U (task_of t)) first at),
    record {
      of_task = (
        ready.of_task.0,
        ap (λ n. n + suc d) ready.of_task.1,
        ap (λ z. z ++ names b s (suc d) d) ready.of_task.2 ∙ ap (λ z. flat_map items_of p.opened ++ z) named
            ∙ sym (flat_last items_of p.opened c),
        ready.of_task.3,
        ready.of_task.4,
      );
      at_stage = (
        told.Local (length b.references + d),
        settled,
        refl,
        ap (λ n. chat_turn rules (chan.Chan n) settled) ready.body.rows.count,
        record { chatter = ready.body.chatter; places = places ∙ sym (many b s (suc d) d); rows = rows },
      );
      holds = ap (λ z. z ++ names b s (suc d) d) ready.holds ∙ ap (λ z. all_unsent p.ends ++ z) named
          ∙ sym (unsent_last p.ends (new_end c));
      owed = ready.owed;
    },
    written_open t p b (suc d) ready.is_open w b.writes refl,
  ) where
    P : Program (ChanBody C)
    P = program rules root strict

    c : Channel
    c = next_channel (suc d) p

    after : Point (ChanBody C)
    after = opening b s (suc d) d 0

    settled : ChanBody C
    settled = with_channel (suc d) (record s { places = s.places + d + 1; due = due.Promise 0 (suc d) })

    named : names b s (suc d) d ≡ items_of c
    named i = things_after (ready.of_task.0 i) (ready.of_task.1 i) (suc d)

    places : s.places + d + 1 ≡ length b.references + suc d
    places = let e = ready.body.places in omega arith

    rows : AreRowsOf (p.channels ++ c ∷ []) (p.ends ++ new_end c ∷ []) p.received after.references settled.rows
    rows = subst (λ z. AreRowsOf (p.channels ++ c ∷ []) (p.ends ++ new_end c ∷ []) p.received
        (b.references ++ map to_promise z) settled.rows) (sym named)
        (rows_more y (suc d) p.received b.references s.rows (s.places + d + 1) ready.body.rows places)

    left : suc d - 1 ≡ d
    left = omega arith

    none : (n : ℕ) → n ≡ n + 0
    none n = omega arith

    first : after_new (record b { body = record s { due = due.Promise (suc d - 1) (suc d) } }) ≡ opening b s (suc d) 0 d
    first i = record b {
      body = record s { places = none s.places i; due = due.Promise (left i) (suc d) };
      stage = stage.Answered (told.Local (none (length b.references) i));
      references = b.references ++ to_promise (child b.name (suc b.made)) ∷ [];
      holds = b.holds ++ child b.name (suc b.made) ∷ [];
      made = (let z : suc b.made ≡ b.made + 1 = omega arith in z) i;
      promises = b.promises ++ child b.name (suc b.made) ∷ [];
    }
