-- What the last loads in a log of a run found of a cell is what its words say where the run ends: a value is set for
-- good, and once LIVE was loaded as 0 no value comes.
use Rattle.std.proofs.Common.{◌≡◌, ◌≢◌, ◌≤◌, ℕ, Bool, true, List, [], ◌∷◌, ◌++◌, Some, refl, sym, ap, ◌∙◌, subst, inl}
use Rattle.std.proofs.Common.{append_assoc, arith, inr}
use Rattle.atomic_table.specs.Table.{State}
use Rattle.std.specs.Prelude.{Option}
use Rattle.tj_body.specs.Programs.{Program}
use Rattle.tj_cells.specs.CallLogs.{Seat}
use Rattle.tj_cells.specs.SeenValues.{seen_in}
use Rattle.tj_cells.specs.ValueLogs.{LoadsEntry}
use Rattle.tj_cells.specs.declared.seen.Seen.{Seen}
use Rattle.tj_cells.specs.declared.seen.Seen.TheVariants as seen
use Rattle.tj_log.specs.declared.entry.Did.{Did}
use Rattle.tj_log.specs.declared.entry.Did.TheVariants.{Load, Add, Store, Sub, Swap, Exchange}
use Rattle.tj_log.specs.declared.entry.Entry.{Entry}
use Rattle.tj_words.proofs.Prelude.{dite, ℕ_discrete}
use Rattle.tj_words.specs.CallLaws.CallRuns.{AreAskedMoments, IsAskedStep}
use Rattle.tj_words.specs.CallLaws.LoggedRuns.{AreStepsOf, IsEntry, in_order}
use Rattle.tj_words.specs.CallLaws.RestedRuns.{HasRested, Ruled, last_moment, tag_at}
use Rattle.tj_words.specs.CallLaws.StepCalls.{StepCall, place_of, told_by}
use Rattle.tj_words.specs.CallLaws.StepCalls as call
use Rattle.tj_words.specs.CallLaws.StepLogs.{did_of, entry_of}
use Rattle.tj_words.specs.LawParts.Contents.{bits_in, contents_of, tag_in}
use Rattle.tj_words.specs.SeatViews.SeatSteps.{SeatMe}
use Rattle.tj_words.specs.Words.Offsets.{live_at, once_at, word}
use Rattle.tj_words.specs.Words.Values.{fill_in}
use Rattle.tj_words.specs.declared.offsets.Once.{Once}
use Rattle.tj_words.specs.declared.offsets.Once.TheVariants as once
use Rattle.tj_record.specs.declared.record.Rec.{Rec}
use Rattle.tj_words.specs.declared.table.Key.{Key}
use Rattle.tj_words.specs.declared.view.View.{View}
use Rattle.tj_words.proofs.Lemmas.{of_seat_here}
use Rattle.tj_runs.proofs.AlikeSeats.{plain_moments}
use Rattle.tj_runs.proofs.LastingWords.{values_for_good}
use Rattle.tj_runs.proofs.RestedRuns.{rest_stays}
use Rattle.tj_future.specs.LookLogs.{MakesLook, MakesLooks, at_once, again, live_load, loads_to, stop_load, tag_load}
use Rattle.tj_future.specs.declared.watched.Watched.{Watched}
use Rattle.tj_future.specs.declared.watched.Watched.TheVariants as watched

-- the loads of TAG and BITS
abbrev load_of : ℕ → Once → ℕ → Entry
load_of p f n = entry_of (call.sees_once p f) 0 0 n

-- the last loads of a log, by what a look was answered: TAG and BITS, or LIVE and TAG as 0
pub record EndsWithEntry (p : ℕ) (s : Seen) (log : List Entry) : Type 0 where
  pub tag : ℕ
  pub bits : ℕ
  pub before : List Entry
  pub some : tag ≢ 0
  pub small : tag ≤ 4
  pub says : s ≡ seen_in (fill_in tag bits)
  pub log_is : log ≡ load_of p once.Bits bits ∷ load_of p once.Tag tag ∷ before

abbrev pub EndsWithLook : ℕ → Watched → List Entry → Type 0
EndsWithLook p (watched.Value f) log = EndsWithEntry p (seen_in (Some f)) log
EndsWithLook p watched.Broken log = EndsWithEntry p seen.Broken log
EndsWithLook p watched.Rested log = (before : List Entry) × (log ≡ tag_load p ∷ live_load 0 ∷ before)
EndsWithLook p (watched.Stopped why) log = Unit {0}

module _ {B : Type 0} (p : ℕ) where
  entry_ends : (s : Seen) (old new : Seat B) → LoadsEntry p s old new → EndsWithEntry p s new.log
  entry_ends s old new h = record {
    tag = h.tag;
    bits = h.bits;
    before = old.log;
    some = h.some;
    small = h.small;
    says = h.says;
    log_is = h.log;
  }

  look_ends : (answer : Watched) (old new : Seat B) → MakesLook p (Some answer) old new
      → EndsWithLook p answer new.log
  look_ends (watched.Value f) old new (inl h) = entry_ends (seen_in (Some f)) old new h
  look_ends (watched.Value f) old new (inr h) = entry_ends (seen_in (Some f)) h.0 new h.2
  look_ends watched.Broken old new (inl h) = entry_ends seen.Broken old new h
  look_ends watched.Broken old new (inr h) = entry_ends seen.Broken h.0 new h.2
  look_ends watched.Rested old new h = (stop_load 0 ∷ tag_load p ∷ old.log, h.0)
  look_ends (watched.Stopped why) old new h = tt

  -- the log of a watch ends so
  pub looks_end : (answer : Watched) (old new : Seat B) → MakesLooks p answer old new → EndsWithLook p answer new.log
  looks_end answer old new (at_once _ _ h) = look_ends answer old new h
  looks_end answer old new (again _ between _ h more) = looks_end answer between new more

-- a load of LIVE is no other call
once_later : (c : ℕ) (f : Once) → live_at ≢ once_at c f
once_later c once.Tag e = omega arith
once_later c once.Bits e = omega arith
once_later c once.Parent e = omega arith
once_later c once.Kid e = omega arith
once_later c once.Depth e = omega arith
once_later c once.Jump e = omega arith

loads_live : (a : StepCall) → Load ≡ did_of a → live_at ≡ place_of a → a ≡ call.sees_live
loads_live call.sees_live d e = refl
loads_live (call.sees_once c f) d e = absurd (once_later c f e)
loads_live (call.draws t o) d e = absurd (omega arith)
loads_live call.counts d e = absurd (omega arith)
loads_live (call.counts_by t) d e = absurd (omega arith)
loads_live (call.puts_once c f) d e = absurd (once_later c f e)
loads_live (call.puts_owner c) d e = absurd (omega arith)
loads_live (call.sees_owner c) d e = absurd (omega arith)
loads_live (call.sees_owner_by t c) d e = absurd (omega arith)
loads_live (call.puts_phase t) d e = absurd (omega arith)
loads_live (call.sees_phase t) d e = absurd (omega arith)
loads_live (call.sees_phase_by t u) d e = absurd (omega arith)
loads_live (call.swaps_phase t) d e = absurd (omega arith)
loads_live (call.raises_others t) d e = absurd (omega arith)
loads_live call.lowers_others d e = absurd (omega arith)
loads_live (call.sees_others_by t) d e = absurd (omega arith)
loads_live call.raises_live d e = absurd (cc)
loads_live call.lowers_live d e = absurd (cc)
loads_live call.stops d e = absurd (omega arith)
loads_live call.sees_stop d e = absurd (omega arith)
loads_live (call.sees_head p) d e = absurd (omega arith)
loads_live (call.pushes p) d e = absurd (omega arith)
loads_live (call.shuts p) d e = absurd (omega arith)
loads_live (call.puts_next t) d e = absurd (omega arith)
loads_live (call.sees_next t) d e = absurd (omega arith)

module _ {B : Type 0} (program : Bool → B → Program B) (key : Key B) (j : ℕ) where
  abbrev Table : Type 0
  Table = State (Option (Rec B)) (View B)

  -- what a load of a word that is written once found
  loaded : (p : ℕ) (f : Once) (n : ℕ) (s t : Table) (i : IsAskedStep program key s t)
      → IsEntry program key j (load_of p f n) s t i → n ≡ word s.words (once_at p f)
  loaded p f n s t (inl c) h = h.found
  loaded p f n s t (inr b) h = absurd h

  -- a load of LIVE as 0 leaves a seat that has loaded it so
  rested : (s t : Table) (i : IsAskedStep program key s t) → IsEntry program key j (live_load 0) s t i → HasRested t
  rested s t (inr b) h = absurd h
  rested s t (inl c) h =
      let m = c.made in
      let is = loads_live m.call (ap (λ (e : Entry). e.did) h.is) (ap (λ (e : Entry). e.word) h.is) in
      let told = subst (λ a. told_by program key.cells a m.number m.operands m.seat (word s.words (place_of a))
      m.seat_after) is m.told in
      let now = told.1.1 (sym h.found) in
      let r = of_seat_here (λ (v : View B). v.rested ≡ true) s.views m.id m.seat.0 m.seat_after.0 m.makes.at
      (ap (λ (v : View B). v.rested) now) in
      subst (λ (z : Table). HasRested z) (sym m.makes.after) (m.id, r.0, r.1, r.2)

  -- steps behind others are steps of some of the later moments
  behind : (Q : Ruled program key → Type 0) (fs : List Entry)
      → ((u : Ruled program key) (later : List (Ruled program key)) (a : AreAskedMoments program key u later)
      → AreStepsOf program key j fs u later a → Q (last_moment program key u later))
      → (es : List Entry) (u : Ruled program key) (later : List (Ruled program key))
      (a : AreAskedMoments program key u later) → AreStepsOf program key j (es ++ fs) u later a
      → Q (last_moment program key u later)
  behind Q fs f [] u later a h = f u later a h
  behind Q fs f (e ∷ es) u [] a h = absurd h
  behind Q fs f (e ∷ es) u (w ∷ ws) a (inl h) = behind Q fs f es w ws a.1 h.1
  behind Q fs f (e ∷ es) u (w ∷ ws) a (inr h) = behind Q fs f (e ∷ es) w ws a.1 h

  module _ (p : ℕ) where
    abbrev tag : Ruled program key → ℕ
    tag u = tag_in (contents_of u.now) p

    abbrev bits : Ruled program key → ℕ
    bits u = bits_in (contents_of u.now) p

    stays : (u : Ruled program key) (later : List (Ruled program key)) → AreAskedMoments program key u later
        → tag u ≢ 0
        → (tag (last_moment program key u later) ≡ tag u) × (bits (last_moment program key u later) ≡ bits u)
    stays u later a some = values_for_good B program key u later (plain_moments program key u later a) p some

    -- after one step a value still stands
    still : (u w : Ruled program key) → IsAskedStep program key u.now w.now → tag u ≢ 0 → tag w ≢ 0
    still u w i some z = some (sym (stays u (w ∷ []) (i, tt) some).0 ∙ z)

    bits_end : (b : ℕ) (u : Ruled program key) (later : List (Ruled program key))
        (a : AreAskedMoments program key u later) → tag u ≢ 0
        → AreStepsOf program key j (load_of p once.Bits b ∷ []) u later a → bits (last_moment program key u later) ≡ b
    bits_end b u [] a some h = absurd h
    bits_end b u (w ∷ ws) a some (inl h) =
        (stays u (w ∷ ws) a some).1 ∙ sym (loaded p once.Bits b u.now w.now a.0 h.0)
    bits_end b u (w ∷ ws) a some (inr h) = bits_end b w ws a.1 (still u w a.0 some) h

    -- TAG other than 0, and BITS after it, are those that stand last
    entry_end : (t b : ℕ) → t ≢ 0 → (u : Ruled program key) (later : List (Ruled program key))
        (a : AreAskedMoments program key u later)
        → AreStepsOf program key j (load_of p once.Tag t ∷ load_of p once.Bits b ∷ []) u later a
        → (tag (last_moment program key u later) ≡ t) × (bits (last_moment program key u later) ≡ b)
    entry_end t b some u [] a h = absurd h
    entry_end t b some u (w ∷ ws) a (inl h) =
        let here = loaded p once.Tag t u.now w.now a.0 h.0 in
        let there : tag u ≢ 0 = λ z. some (here ∙ z) in
        ((stays u (w ∷ ws) a there).0 ∙ sym here, bits_end b w ws a.1 (still u w a.0 there) h.1)
    entry_end t b some u (w ∷ ws) a (inr h) = entry_end t b some w ws a.1 h

    never_zero : (u : Ruled program key) (later : List (Ruled program key)) (a : AreAskedMoments program key u later)
        → tag u ≢ 0 → AreStepsOf program key j (load_of p once.Tag 0 ∷ []) u later a → ⊥
    never_zero u [] a some h = h
    never_zero u (w ∷ ws) a some (inl h) = some (sym (loaded p once.Tag 0 u.now w.now a.0 h.0))
    never_zero u (w ∷ ws) a some (inr h) = never_zero w ws a.1 (still u w a.0 some) h

    -- where LIVE was loaded as 0, and then TAG as 0, TAG is 0 last
    rest_end : (u : Ruled program key) (later : List (Ruled program key)) (a : AreAskedMoments program key u later)
        → AreStepsOf program key j (live_load 0 ∷ load_of p once.Tag 0 ∷ []) u later a
        → tag (last_moment program key u later) ≡ 0
    rest_end u [] a h = absurd h
    rest_end u (w ∷ ws) a (inl h) = dite (ℕ_discrete (tag w) 0)
        (λ z. (rest_stays B program key w ws (plain_moments program key w ws a.1)
        (rested u.now w.now a.0 h.0)).1 p ∙ z)
        (λ n. absurd (never_zero w ws a.1 n h.1))
    rest_end u (w ∷ ws) a (inr h) = rest_end w ws a.1 h

    module _ (u : Ruled program key) (later : List (Ruled program key)) (a : AreAskedMoments program key u later)
        (log : List Entry) (steps : AreStepsOf program key j (in_order log) u later a) where
      abbrev end : Ruled program key
      end = last_moment program key u later

      -- the words of the cell at the end, by the last loads of a log
      pub entry_stands : (s : Seen) (h : EndsWithEntry p s log)
          → (tag end ≡ h.tag) × (bits end ≡ h.bits)
      entry_stands s h =
          let t = load_of p once.Tag h.tag in let b = load_of p once.Bits h.bits in
          let is : in_order log ≡ in_order h.before ++ (t ∷ b ∷ [])
          = ap in_order h.log_is ∙ append_assoc (in_order h.before) (t ∷ []) (b ∷ []) in
          behind (λ w. (tag w ≡ h.tag) × (bits w ≡ h.bits)) (t ∷ b ∷ []) (entry_end h.tag h.bits h.some)
          (in_order h.before) u later a (subst (λ l. AreStepsOf program key j l u later a) is steps)

      pub rest_stands : (h : EndsWithLook p watched.Rested log) → tag end ≡ 0
      rest_stands h =
          let t = load_of p once.Tag 0 in let l = live_load 0 in
          let is : in_order log ≡ in_order h.0 ++ (l ∷ t ∷ [])
          = ap in_order h.1 ∙ append_assoc (in_order h.0) (l ∷ []) (t ∷ []) in
          behind (λ w. tag w ≡ 0) (l ∷ t ∷ []) rest_end
          (in_order h.0) u later a (subst (λ z. AreStepsOf program key j z u later a) is steps)
