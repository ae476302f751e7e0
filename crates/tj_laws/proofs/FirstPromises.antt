-- Eight steps from the claim of a root on that first asks for a promise and sets it to 0: the promise is drawn, its
-- words are written, the root owns it, and it is closed, up to its TAG.
use Rattle.std.proofs.Common.{◌≡◌, ◌<◌, ◌∙◌, ◌+◌, ◌%◌, ◌^◌, ◌++◌, ℕ, Bool, true, List, [], ◌∷◌, Option, ◌&&◌}
use Rattle.std.proofs.Common.{None, false, refl, sym, ap, subst, inl, inr, length, replicate}
use Rattle.std.proofs.Common.{suc, zero, pos, arith}
use mathlib.Core.Option.{none, some}
use lib.ListN.{get_elem?}
use Rattle.atomic_table.specs.Table.{step}
use Rattle.tj_base.specs.declared.cell.Sort.TheVariants as sort
use Rattle.tj_base.specs.declared.value.Pay.TheVariants as pay
use Rattle.tj_body.specs.History.{after_ask, after_new, after_write, start, to_promise, to_task, with_wait}
use Rattle.tj_body.specs.Laws.{IsFullWhere}
use Rattle.tj_body.specs.Programs.{Program, root_task}
use Rattle.tj_body.specs.RoundPoints.{Becomes, InRounds, IsOfRounds, TasksStart, ThingsInRounds, WritesBecome}
use Rattle.tj_body.specs.declared.ask.Answer.TheVariants as answer
use Rattle.tj_body.specs.declared.ask.Ask.TheVariants as ask
use Rattle.tj_body.specs.declared.point.Entry.{Entry}
use Rattle.tj_body.specs.declared.point.Entry.TheVariants as entry
use Rattle.tj_body.specs.declared.point.Point.{Point}
use Rattle.tj_body.specs.declared.point.Reference.{Reference}
use Rattle.tj_body.specs.declared.point.Value.TheVariants as value
use Rattle.tj_body.proofs.RoundPoints.{points_ask}
use Rattle.tj_events.specs.Laws.{EventKeepsFacts}
use Rattle.tj_events.specs.WalkLaws.{OthersAreFew}
use Rattle.tj_words.specs.declared.offsets.Once.TheVariants as once
use Rattle.tj_record.specs.declared.record.Rec.{Rec}
use Rattle.tj_words.specs.declared.table.Key.{Key}
use Rattle.tj_words.specs.declared.view.Does.TheVariants as does
use Rattle.tj_words.specs.declared.view.Due.{Due}
use Rattle.tj_words.specs.declared.view.View.{View}
use Rattle.tj_words.specs.Law.{IsRooted, Rule}
use Rattle.tj_words.specs.CallLaws.RestedRuns.{Ruled}
use Rattle.tj_words.specs.CallLaws.StepCalls as call
use Rattle.tj_words.specs.Calls.DrawViews.{FindsCell, MayDraw, MayGive, MayMark, MayWrite, draw_step, drew}
use Rattle.tj_words.specs.Calls.DrawViews.{gave_owner, mark_store, marked_promise, word_store, wrote_word}
use Rattle.tj_words.specs.Calls.EntryViews.{MayPutBits, MayPutTag, bits_store, tag_store, wrote_bits, wrote_tag}
use Rattle.tj_words.specs.Calls.OwnerViews.{MayClose, closed_cell, owner_put}
use Rattle.tj_words.specs.Calls.TakenRecords.{took_record}
use Rattle.tj_words.specs.LawParts.Contents.{WordsSay}
use Rattle.tj_words.specs.LawParts.FirstState.{first_words, root_record}
use Rattle.tj_words.specs.LawParts.TreeWords.{IsDue}
use Rattle.tj_words.specs.SeatViews.SeatSteps.{SeatMe}
use Rattle.tj_words.specs.Steps.QuietSteps.{does_first}
use Rattle.tj_words.specs.Words.Lists.{numbers}
use Rattle.tj_words.specs.Words.Offsets.{head_at, live_at, once_at, own_at, phase_at, word, words_for}
use Rattle.tj_words.specs.Words.Phases.{phase_in}
use Rattle.tj_words.proofs.Cells.DrawSteps.{draw_allowed}
use Rattle.tj_words.proofs.Cells.OwnerStores.{owner_allowed}
use Rattle.tj_words.proofs.Phases.MarkedPromises.{mark_allowed}
use Rattle.tj_words.proofs.Seating.FirstWords.{first_words_say}
use Rattle.tj_words.proofs.Stores.EntryStores.{bits_allowed, tag_allowed}
use Rattle.tj_words.proofs.Stores.SeatLists.{word_else, word_here}
use Rattle.tj_words.proofs.Stores.WordStores.{word_allowed}
use Rattle.tj_words.specs.CallLaws.CallRuns.{AreAskedMoments}
use Rattle.tj_laws.specs.Holders.{claims, is_ready, is_running, one_if, phase_then}
use Rattle.tj_laws.proofs.FirstAlarms.{GoesTo, Reaches, at1, goes, k, kept, reaches, u1, ws}
use Rattle.tj_laws.proofs.FirstClaims.{first, left_is, seat}
use Rattle.tj_laws.proofs.FirstRests.{taken_is}

-- a list that begins like this and has one element is this
alone : {A : Type 0} (x : A) (l xs : List A) → l ≡ x ∷ xs → length l ≡ 1 → l ≡ x ∷ []
alone x l [] e one = e
alone x l (y ∷ ys) e one =
    let z : length l ≡ suc (suc (length ys)) = ap length e in absurd (omega (arith, z, one))

-- BITS isn't due any more where TAG alone is
bits_written : ¬ IsDue 1 once.Bits (record { cell = 1; word = once.Tag } ∷ [])
bits_written (inl e) = let z : once.Bits ≡ once.Tag = ap (λ (d : Due). d.word) e in absurd (cc)
bits_written (inr n) = n

zeros : (n i : ℕ) → word (replicate n 0) i ≡ 0
zeros zero i = refl
zeros (suc n) zero = refl
zeros (suc n) (suc i) = zeros n i

-- a word of a new table behind those of the root's cell is 0
far_word : (cells j : ℕ) → 11 < j → word (first_words cells) j ≡ 0
far_word cells j l = word_else _ 11 j 1 (λ e. omega arith) ∙ (word_else _ 5 j 1 (λ e. omega arith)
    ∙ (word_else _ 4 j 1 (λ e. omega arith) ∙ (word_else _ 1 j 1 (λ e. omega arith)
    ∙ (word_else _ 0 j 1 (λ e. omega arith) ∙ zeros (words_for cells) j))))

-- whether a word of PHASE says Ready
abbrev pub says_ready : ℕ → Bool
says_ready n = is_ready (phase_in n)

module _ {B : Type 0} (program : Bool → B → Program B) (key : Key B) where
  -- the step from a moment at which the task isn't ready is no claim
  pub quiet : (u w : Ruled program key) (later : List (Ruled program key))
      → says_ready (word u.now.words (phase_at 0)) ≡ false
      → claims program key 0 u (w ∷ later) ≡ claims program key 0 w later
  quiet u w later e =
      ap (λ b. one_if (b && is_running (phase_then program key 0 w)) + claims program key 0 w later) e
      ∙ (let z : 0 + claims program key 0 w later ≡ claims program key 0 w later = omega arith in z)

module _ {B : Type 0} (program : Bool → B → Program B) (key : Key B) (some_cells : 0 < key.cells)
    (keeps_facts : EventKeepsFacts) (few : OthersAreFew)
    (rule : Rule program key (first program key some_cells keeps_facts)) (two : 1 < key.cells)
    (full : (strict : Bool) (root : B) → IsRooted (program strict root) → IsFullWhere (program strict root)) where
  abbrev P : Program B
  P = program key.strict key.root.value

  abbrev root : B
  root = key.root.value

  -- the root's body after its first ask, its second and its third
  abbrev pub body1 : B
  body1 = P.rules.then root answer.Start

  abbrev pub body2 : B
  body2 = P.rules.then body1 (answer.Local 1)

  abbrev pub body3 : B
  body3 = P.rules.then body2 answer.Done

  -- what becomes of the promise
  abbrev pub result : Entry
  result = entry.Value (value.Num (pos 0))

  -- the points of the root
  abbrev pub point1 : Point B
  point1 = after_new (record (start (root_task root)) { body = body1 })

  abbrev pub point2 : Point B
  point2 = after_write (1 ∷ []) (value.Num (pos 0)) (record point1 { body = body2 })

  abbrev pub point3 : Point B
  point3 = with_wait false (1 ∷ []) (record point2 { body = body3 })

  module _ (starts : TasksStart P) (things : ThingsInRounds P) (written : WritesBecome P) (is_root : P.root ≡ root)
      (makes : P.rules.asks root answer.Start ≡ ask.New)
      (sets : P.rules.asks body1 (answer.Local 1) ≡ ask.Set 1 (pay.Num (pos 0)))
      (gets : P.rules.asks body2 answer.Done ≡ ask.Get 1) where
    in_rounds1 : IsOfRounds P point1
    in_rounds1 =
        let begun = subst (λ (b : B). IsOfRounds P (start (root_task b))) is_root
        (starts.1 (root_task P.root) starts.0).1 in
        subst (IsOfRounds P)
        (ap (λ x. after_ask P.rules.strict x (record (start (root_task root)) { body = body1 })) makes)
        (points_ask P (start (root_task root)) answer.Start begun refl)

    in_rounds2 : IsOfRounds P point2
    in_rounds2 = subst (IsOfRounds P)
        (ap (λ x. after_ask P.rules.strict x (record point1 { body = body2 })) sets)
        (points_ask P point1 (answer.Local 1) in_rounds1 refl)

    pub in_rounds3 : IsOfRounds P point3
    in_rounds3 = subst (IsOfRounds P)
        (ap (λ x. after_ask P.rules.strict x (record point2 { body = body3 })) gets)
        (points_ask P point2 answer.Done in_rounds2 refl)

    named : InRounds P (1 ∷ [])
    named = (things point1 in_rounds1).0 (1 ∷ []) (inl refl)

    becomes : Becomes P (1 ∷ []) result
    becomes = written point2 (1 ∷ []) result in_rounds2 (inl refl)

    -- the moment after the claim, and its words
    abbrev pub one : Ruled program key
    one = u1 program key some_cells keeps_facts few rule

    abbrev old : List ℕ
    old = ws program key some_cells keeps_facts few rule

    -- what the cells are, as the seat knows that has taken the root's record
    abbrev rest : List Reference
    rest = (k program key some_cells keeps_facts few rule).begins.0

    abbrev slots : List (ℕ × Option (Rec B))
    slots = (0, None) ∷ []

    abbrev view_of : Rec B → List Reference → View B
    view_of r born = record (took_record r born (k program key some_cells keeps_facts few rule).more
        (seat program key some_cells keeps_facts)) {
          steps = 1;
          tokens = 0;
          tasks = record { task = 0; does = does_first r.answer; owned = numbers r.owned; made = r.made; home = None }
              ∷ [];
        }

    abbrev m1 : SeatMe B
    m1 = (view_of (root_record root) (to_task [] ∷ rest), slots)

    here : get_elem? one.now.views 0 ≡ some m1.0
    here = at1 program key some_cells keeps_facts few rule
        ∙ (ap (λ r. some (view_of r (k program key some_cells keeps_facts few rule).born))
        (sym (taken_is program key some_cells keeps_facts few rule))
        ∙ ap (λ b. some (view_of (root_record root) b)) (k program key some_cells keeps_facts few rule).begins.1)

    -- of the words of the second cell none is written yet
    blank : (j : ℕ) → 11 < j → word one.now.words j ≡ 0
    blank j l = word_else old (phase_at 0) j _ (λ e. omega arith) ∙ far_word key.cells j l

    counted : word one.now.words 0 ≡ 1
    counted = word_else old (phase_at 0) 0 _ (λ e. omega arith)
        ∙ ap (λ (w : WordsSay). w.count) (first_words_say key.cells some_cells)

    may_draw : MayDraw program 0 m1.0
    may_draw = record {
      about = record { root = root; cells = key.cells; strict = key.strict };
      is_about = refl;
      has = record { task = 0; does = does.Fresh; owned = 0 ∷ []; made = 0; home = None };
      held = refl;
      may = tt;
      result = inl refl;
      out = refl;
      no_hand = refl;
      room = omega arith;
      task = to_task [];
      is_task = refl;
      named = named;
    }

    -- the promise is drawn
    drawn : Reaches program key one 0 ((word one.now.words 0 + 1) % 2 ^ 64)
        (draw_step program key.cells 0 sort.Promise (step key.cells 0 1 0 none) m1 (word one.now.words 0))
    drawn =
        let is = counted in
        let wide = one.rule.all_words in
        reaches program key one m1 here (call.draws 0 sort.Promise) (λ n. (n + 1) % 2 ^ 64)
        (draw_step program key.cells 0 sort.Promise (step key.cells 0 1 0 none) m1) (step key.cells 0 1 0 none)
        (draw_allowed program key keeps_facts full key.cells 0 0 key.cells 0 sort.Promise sort.Promise m1 refl refl refl
        may_draw) (omega (arith, wide, some_cells)) (omega (arith, is)) may_draw (λ x t. (omega (arith, is), t))

    found : FindsCell key.cells 0 sort.Promise 1 m1.0 drawn.seat.0
    found =
        let is = counted in
        subst (λ n. FindsCell key.cells 0 sort.Promise n m1.0 drawn.seat.0) is
        (drawn.told.0 (omega (arith, is, two))).0

    abbrev m2 : SeatMe B
    m2 = (drew 1 0 sort.Promise (to_task [] ∷ []) m1.0, slots)

    pub e2 : GoesTo program key one 0 ((word one.now.words 0 + 1) % 2 ^ 64) m2
    e2 = record {
      later = drawn.later;
      asked = drawn.asked;
      at = drawn.at ∙ (ap (λ (v : View B). some v) found.view
          ∙ ap (λ b. some (drew 1 0 sort.Promise b m1.0)) (alone (to_task []) found.born (rest ++ found.begins.0)
          found.begins.1 found.next));
      words = drawn.words;
    }

    abbrev pub u2 : Ruled program key
    u2 = e2.later

    abbrev pub m3 : SeatMe B
    m3 = (wrote_word 1 once.Parent 1 m2.0, slots)

    -- PARENT of the promise is written
    pub e3 : GoesTo program key u2 (once_at 1 once.Parent) 1 m3
    e3 =
        let wide = u2.rule.all_words in
        let bound = u2.rule.few_cells in
        let small = (u2.rule.codes.each 1 two).parent in
        goes program key u2 m2 m3 e2.at (call.puts_once 1 once.Parent) (λ n. 1)
        (λ n. word_store 1 once.Parent (step key.cells (once_at 1 once.Parent) 1 0 none) m2 1)
        (step key.cells (once_at 1 once.Parent) 1 0 none)
        (word_allowed program key key.cells 0 m2 1 (once_at 1 once.Parent) 1 1 once.Parent once.Parent two refl refl
        refl may)
        (omega (arith, wide, two)) (omega (arith, bound, small)) tt
        (λ x t. ((refl, (may, t.0, t.1)), λ i. (t.1 i, t.0 i)))
      where
        may : MayWrite 1 once.Parent 1 m2.0
        may = record {
          hand = record { cell = 1; maker = 0; sort = sort.Promise; marked = false };
          has = refl;
          its_cell = refl;
          due = inl refl;
          right = refl;
        }

    abbrev pub u3 : Ruled program key
    u3 = e3.later

    abbrev pub m4 : SeatMe B
    m4 = (wrote_word 1 once.Kid 1 m3.0, slots)

    -- and KID
    pub e4 : GoesTo program key u3 (once_at 1 once.Kid) 1 m4
    e4 =
        let wide = u3.rule.all_words in
        let bound = u3.rule.few_cells in
        let small = (u3.rule.codes.each 1 two).kid in
        goes program key u3 m3 m4 e3.at (call.puts_once 1 once.Kid) (λ n. 1)
        (λ n. word_store 1 once.Kid (step key.cells (once_at 1 once.Kid) 1 0 none) m3 1)
        (step key.cells (once_at 1 once.Kid) 1 0 none)
        (word_allowed program key key.cells 0 m3 1 (once_at 1 once.Kid) 1 1 once.Kid once.Kid two refl refl refl may)
        (omega (arith, wide, two)) (omega (arith, bound, small)) tt
        (λ x t. ((refl, (may, t.0, t.1)), λ i. (t.1 i, t.0 i)))
      where
        may : MayWrite 1 once.Kid 1 m3.0
        may = record {
          hand = record { cell = 1; maker = 0; sort = sort.Promise; marked = false };
          has = refl;
          its_cell = refl;
          due = inl refl;
          right = (
            record { task = 0; does = does.Running; owned = 0 ∷ []; made = 0; home = None },
            refl,
            refl,
          );
        }

    abbrev pub u4 : Ruled program key
    u4 = e4.later

    abbrev pub m5 : SeatMe B
    m5 = (marked_promise m4.0, slots)

    -- PHASE says that it is a promise
    pub e5 : GoesTo program key u4 (phase_at 1) 4 m5
    e5 =
        let wide = u4.rule.all_words in
        let bound = u4.rule.few_cells in
        let small = unmarked in
        goes program key u4 m4 m5 e4.at (call.puts_phase 1) (λ n. 4)
        (λ n. mark_store (step key.cells (phase_at 1) 4 0 none) m4 4)
        (step key.cells (phase_at 1) 4 0 none)
        (mark_allowed program key key.cells 0 m4 1 (phase_at 1) 4 two refl refl may)
        (omega (arith, wide, two)) (omega (arith, bound, small)) (two, may)
        (λ x t. ((refl, λ i. (t.1 i, t.0 i)), λ i. (t.1 i, t.0 i)))
      where
        unmarked : word u4.now.words (phase_at 1) ≡ 0
        unmarked =
            kept program key u3 _ _ m4 e4 (phase_at 1) (λ e. omega arith)
            ∙ (kept program key u2 _ _ m3 e3 (phase_at 1) (λ e. omega arith)
            ∙ (kept program key one _ _ m2 e2 (phase_at 1) (λ e. omega arith) ∙ blank (phase_at 1) (omega arith)))

        may : MayMark 1 m4.0
        may = record {
          hand = record { cell = 1; maker = 0; sort = sort.Promise; marked = false };
          has = refl;
          its_cell = refl;
          promise = refl;
        }

    abbrev pub u5 : Ruled program key
    u5 = e5.later

    abbrev pub m6 : SeatMe B
    m6 = (gave_owner 1 0 m5.0, slots)

    -- the root owns it
    pub e6 : GoesTo program key u5 (own_at 1) 1 m6
    e6 =
        let wide = u5.rule.all_words in
        let bound = u5.rule.few_cells in
        let small = (u5.rule.codes.each 1 two).own in
        goes program key u5 m5 m6 e5.at (call.puts_owner 1) (λ n. 1)
        (λ n. owner_put 1 (step key.cells (own_at 1) 1 0 none) m5 1)
        (step key.cells (own_at 1) 1 0 none)
        (owner_allowed program key keeps_facts key.cells 0 m5 1 (own_at 1) 1 1 two refl refl (inl may))
        (omega (arith, wide, two)) (omega (arith, bound, small)) tt
        (λ x t. ((refl, (inl may, t)), λ i. (t.1.0 may i, t.0 i)))
      where
        may : MayGive 1 0 m5.0
        may = record {
          hand = record { cell = 1; maker = 0; sort = sort.Promise; marked = true };
          has = refl;
          its_cell = refl;
          owner = refl;
          marked = λ e. refl;
          holds = λ e. let z : sort.Promise ≡ sort.Task = e in absurd (cc);
          written = λ d i. absurd i;
          reference = to_promise (1 ∷ []);
          is_reference = refl;
        }

    abbrev pub u6 : Ruled program key
    u6 = e6.later

    abbrev pub m7 : SeatMe B
    m7 = (closed_cell 0 1 m6.0, slots)

    -- and closes it
    pub e7 : GoesTo program key u6 (own_at 1) 0 m7
    e7 =
        let wide = u6.rule.all_words in
        let bound = u6.rule.few_cells in
        let small = (u6.rule.codes.each 1 two).own in
        goes program key u6 m6 m7 e6.at (call.puts_owner 1) (λ n. 0)
        (λ n. owner_put 1 (step key.cells (own_at 1) 0 0 none) m6 0)
        (step key.cells (own_at 1) 0 0 none)
        (owner_allowed program key keeps_facts key.cells 0 m6 1 (own_at 1) 0 1 two refl refl may)
        (omega (arith, wide, two)) (omega (arith, bound, small)) tt
        (λ x t. ((refl, (may, t)), λ i. (t.1 may i, t.0 i)))
      where
        may : MayClose 1 m6.0
        may = record {
          task = 0;
          owner = record {
            custody = record { task = 0; does = does.Running; owned = 0 ∷ 1 ∷ []; made = 1; home = None };
            held = refl;
            may = tt;
            out = refl;
            result = inl refl;
            owns = inr (inl refl);
          };
          last = λ e. absurd (omega arith);
        }

    abbrev pub u7 : Ruled program key
    u7 = e7.later

    abbrev pub m8 : SeatMe B
    m8 = (wrote_bits 1 result m7.0, slots)

    -- BITS of the promise is written
    pub e8 : GoesTo program key u7 (once_at 1 once.Bits) 0 m8
    e8 =
        let wide = u7.rule.all_words in
        let bound = u7.rule.few_cells in
        let small = unwritten in
        goes program key u7 m7 m8 e7.at (call.puts_once 1 once.Bits) (λ n. 0)
        (λ n. bits_store program 1 (step key.cells (once_at 1 once.Bits) 0 0 none) m7 0)
        (step key.cells (once_at 1 once.Bits) 0 0 none)
        (bits_allowed program key key.cells 0 m7 1 (once_at 1 once.Bits) 0 1 two refl refl may)
        (omega (arith, wide, two)) (omega (arith, bound, small)) tt
        (λ x t. ((refl, (may, t.0, t.1)), λ i. (t.1 may i, t.0 i)))
      where
        unwritten : word u7.now.words (once_at 1 once.Bits) ≡ 0
        unwritten =
            kept program key u6 _ _ m7 e7 (once_at 1 once.Bits) (λ e. omega arith)
            ∙ (kept program key u5 _ _ m6 e6 (once_at 1 once.Bits) (λ e. omega arith)
            ∙ (kept program key u4 _ _ m5 e5 (once_at 1 once.Bits) (λ e. omega arith)
            ∙ (kept program key u3 _ _ m4 e4 (once_at 1 once.Bits) (λ e. omega arith)
            ∙ (kept program key u2 _ _ m3 e3 (once_at 1 once.Bits) (λ e. omega arith)
            ∙ (kept program key one _ _ m2 e2 (once_at 1 once.Bits) (λ e. omega arith)
            ∙ blank (once_at 1 once.Bits) (omega arith))))))

        may : MayPutBits program 1 0 m7.0
        may = record {
          due = inl refl;
          about = record { root = root; cells = key.cells; strict = key.strict };
          is_about = refl;
          entry = result;
          may = record { to_become = (to_promise (1 ∷ []), refl, becomes); bits_say = refl; knows = tt };
        }

    abbrev pub u8 : Ruled program key
    u8 = e8.later

    abbrev pub m9 : SeatMe B
    m9 = (wrote_tag 1 result m8.0, slots)

    -- and TAG
    pub e9 : GoesTo program key u8 (once_at 1 once.Tag) 1 m9
    e9 =
        let wide = u8.rule.all_words in
        let bound = u8.rule.few_cells in
        let small = (u8.rule.codes.each 1 two).tag in
        goes program key u8 m8 m9 e8.at (call.puts_once 1 once.Tag) (λ n. 1)
        (λ n. tag_store 1 (step key.cells (once_at 1 once.Tag) 1 0 none) m8 1)
        (step key.cells (once_at 1 once.Tag) 1 0 none)
        (tag_allowed program key key.cells 0 m8 1 (once_at 1 once.Tag) 1 1 two refl refl may)
        (omega (arith, wide, two)) (omega (arith, bound, small)) tt
        (λ x t. ((refl, (may, t.0, t.1)), λ i. (t.1 may i, t.0 i)))
      where
        may : MayPutTag 1 1 m8.0
        may = record {
          due = inl refl;
          bits_first = bits_written;
          entry = result;
          wrote = inl refl;
          tag = refl;
          backed = inr (0, record { task = 0; does = does.Running; owned = 0 ∷ []; made = 1; home = None }, refl, tt);
        }

    abbrev pub u9 : Ruled program key
    u9 = e9.later

    -- PHASE of the root is Running all the while
    pub runs1 : word one.now.words (phase_at 0) ≡ 2
    runs1 =
        let wide = rule.all_words in
        word_here old (phase_at 0) _ (omega (arith, wide, some_cells))
        ∙ left_is program key some_cells keeps_facts rule

    pub runs2 : word u2.now.words (phase_at 0) ≡ 2
    runs2 = kept program key one _ _ m2 e2 (phase_at 0) (λ e. omega arith) ∙ runs1

    pub runs3 : word u3.now.words (phase_at 0) ≡ 2
    runs3 = kept program key u2 _ _ m3 e3 (phase_at 0) (λ e. omega arith) ∙ runs2

    pub runs4 : word u4.now.words (phase_at 0) ≡ 2
    runs4 = kept program key u3 _ _ m4 e4 (phase_at 0) (λ e. omega arith) ∙ runs3

    pub runs5 : word u5.now.words (phase_at 0) ≡ 2
    runs5 = kept program key u4 _ _ m5 e5 (phase_at 0) (λ e. omega arith) ∙ runs4

    pub runs6 : word u6.now.words (phase_at 0) ≡ 2
    runs6 = kept program key u5 _ _ m6 e6 (phase_at 0) (λ e. omega arith) ∙ runs5

    pub runs7 : word u7.now.words (phase_at 0) ≡ 2
    runs7 = kept program key u6 _ _ m7 e7 (phase_at 0) (λ e. omega arith) ∙ runs6

    pub runs8 : word u8.now.words (phase_at 0) ≡ 2
    runs8 = kept program key u7 _ _ m8 e8 (phase_at 0) (λ e. omega arith) ∙ runs7

    pub runs9 : word u9.now.words (phase_at 0) ≡ 2
    runs9 = kept program key u8 _ _ m9 e9 (phase_at 0) (λ e. omega arith) ∙ runs8

    -- what stands in some other words then
    pub live9 : word u9.now.words live_at ≡ 1
    live9 = kept program key u8 _ _ m9 e9 (live_at) (λ e. omega arith)
        ∙ (kept program key u7 _ _ m8 e8 (live_at) (λ e. omega arith)
        ∙ (kept program key u6 _ _ m7 e7 (live_at) (λ e. omega arith)
        ∙ (kept program key u5 _ _ m6 e6 (live_at) (λ e. omega arith)
        ∙ (kept program key u4 _ _ m5 e5 (live_at) (λ e. omega arith)
        ∙ (kept program key u3 _ _ m4 e4 (live_at) (λ e. omega arith)
        ∙ (kept program key u2 _ _ m3 e3 (live_at) (λ e. omega arith)
        ∙ (kept program key one _ _ m2 e2 (live_at) (λ e. omega arith)
        ∙ (live1))))))))
      where
        live1 : word one.now.words live_at ≡ 1
        live1 = word_else old (phase_at 0) live_at _ (λ e. omega arith)
            ∙ ap (λ (w : WordsSay). w.live) (first_words_say key.cells some_cells)

    pub count9 : word u9.now.words 0 ≡ 2
    count9 = kept program key u8 _ _ m9 e9 (0) (λ e. omega arith)
        ∙ (kept program key u7 _ _ m8 e8 (0) (λ e. omega arith)
        ∙ (kept program key u6 _ _ m7 e7 (0) (λ e. omega arith)
        ∙ (kept program key u5 _ _ m6 e6 (0) (λ e. omega arith)
        ∙ (kept program key u4 _ _ m5 e5 (0) (λ e. omega arith)
        ∙ (kept program key u3 _ _ m4 e4 (0) (λ e. omega arith)
        ∙ (kept program key u2 _ _ m3 e3 (0) (λ e. omega arith)
        ∙ (count2)))))))
      where
        count2 : word u2.now.words 0 ≡ 2
        count2 =
            let wide = one.rule.all_words in
            let is = counted in
            ap (λ l. word l 0) e2.words ∙ (word_here one.now.words 0 _ (omega (arith, wide))
            ∙ (let z : (word one.now.words 0 + 1) % 2 ^ 64 ≡ 2 = omega (arith, is) in z))

    pub own9 : word u9.now.words (own_at 1) ≡ 0
    own9 = kept program key u8 _ _ m9 e9 (own_at 1) (λ e. omega arith)
        ∙ (kept program key u7 _ _ m8 e8 (own_at 1) (λ e. omega arith)
        ∙ (own7))
      where
        own7 : word u7.now.words (own_at 1) ≡ 0
        own7 =
            let wide = u6.rule.all_words in
            ap (λ l. word l (own_at 1)) e7.words ∙ word_here u6.now.words (own_at 1) 0 (omega (arith, wide, two))

    pub head9 : word u9.now.words (head_at 1) ≡ 0
    head9 = kept program key u8 _ _ m9 e9 (head_at 1) (λ e. omega arith)
        ∙ (kept program key u7 _ _ m8 e8 (head_at 1) (λ e. omega arith)
        ∙ (kept program key u6 _ _ m7 e7 (head_at 1) (λ e. omega arith)
        ∙ (kept program key u5 _ _ m6 e6 (head_at 1) (λ e. omega arith)
        ∙ (kept program key u4 _ _ m5 e5 (head_at 1) (λ e. omega arith)
        ∙ (kept program key u3 _ _ m4 e4 (head_at 1) (λ e. omega arith)
        ∙ (kept program key u2 _ _ m3 e3 (head_at 1) (λ e. omega arith)
        ∙ (kept program key one _ _ m2 e2 (head_at 1) (λ e. omega arith)
        ∙ (blank (head_at 1) (omega arith)))))))))

    -- the run up to here, before a later one, with no claim
    pub run9 : (later : List (Ruled program key)) → AreAskedMoments program key u9 later
        → AreAskedMoments program key one (u2 ∷ u3 ∷ u4 ∷ u5 ∷ u6 ∷ u7 ∷ u8 ∷ u9 ∷ later)
    run9 later a = (
      e2.asked,
      (e3.asked, (e4.asked, (e5.asked, (e6.asked, (e7.asked, (e8.asked, (e9.asked, a))))))),
    )

    pub unclaimed9 : (later : List (Ruled program key))
        → claims program key 0 one (u2 ∷ u3 ∷ u4 ∷ u5 ∷ u6 ∷ u7 ∷ u8 ∷ u9 ∷ later) ≡ claims program key 0 u9 later
    unclaimed9 later =
        quiet program key one u2 (u3 ∷ u4 ∷ u5 ∷ u6 ∷ u7 ∷ u8 ∷ u9 ∷ later) (ap says_ready runs1)
        ∙ (quiet program key u2 u3 (u4 ∷ u5 ∷ u6 ∷ u7 ∷ u8 ∷ u9 ∷ later) (ap says_ready runs2)
        ∙ (quiet program key u3 u4 (u5 ∷ u6 ∷ u7 ∷ u8 ∷ u9 ∷ later) (ap says_ready runs3)
        ∙ (quiet program key u4 u5 (u6 ∷ u7 ∷ u8 ∷ u9 ∷ later) (ap says_ready runs4)
        ∙ (quiet program key u5 u6 (u7 ∷ u8 ∷ u9 ∷ later) (ap says_ready runs5)
        ∙ (quiet program key u6 u7 (u8 ∷ u9 ∷ later) (ap says_ready runs6)
        ∙ (quiet program key u7 u8 (u9 ∷ later) (ap says_ready runs7)
        ∙ quiet program key u8 u9 later (ap says_ready runs8)))))))
