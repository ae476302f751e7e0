-- Four steps from a new table on: the root is claimed, which ends with 0 at once, and its result is closed, up to its
-- TAG.
use Rattle.std.proofs.Common.{◌≡◌, ◌<◌, ◌∙◌, ℕ, Bool, List, [], ◌∷◌, refl, sym, ap, subst, inl, inr, pos, arith, ◌+◌}
use Rattle.std.proofs.Common.{◌*◌, ◌++◌, suc, length}
use mathlib.Core.Option.{none}
use lib.ListN.{get_elem?}
use Rattle.atomic_table.specs.Table.{step}
use Rattle.tj_base.specs.declared.value.Pay.TheVariants as pay
use Rattle.tj_body.specs.Asks.{Await}
use Rattle.tj_body.specs.History.{Assignment, after_ask, after_end, after_step, history, point_after, start, to_task}
use Rattle.tj_body.specs.Laws.{HoldsOfPrograms}
use Rattle.tj_body.specs.Points.{IsIn}
use Rattle.tj_body.specs.Programs.{Program, program_of, root_task}
use Rattle.tj_body.specs.RoundPoints.{Becomes, IsOfRounds, TasksStart, WritesBecome}
use Rattle.tj_body.specs.declared.ask.Answer.{Answer}
use Rattle.tj_body.specs.declared.ask.Answer.TheVariants as answer
use Rattle.tj_body.specs.declared.ask.Ask.{Ask}
use Rattle.tj_body.specs.declared.ask.Ask.TheVariants as ask
use Rattle.tj_body.specs.declared.point.Entry.{Entry}
use Rattle.tj_body.specs.declared.point.Entry.TheVariants as entry
use Rattle.tj_body.specs.declared.point.Point.{Point}
use Rattle.tj_body.specs.declared.point.Reference.{Reference}
use Rattle.tj_body.specs.declared.point.Value.TheVariants as value
use Rattle.tj_body.specs.Rounds.{IsFull, cells, cells_by, family, given}
use Rattle.tj_body.proofs.Histories.Points.{stays}
use Rattle.tj_body.proofs.RoundPoints.{points_ask}
use Rattle.std.specs.List.{flat_map}
use Rattle.tj_events.specs.Laws.{EventKeepsFacts, StartMeetsFacts}
use Rattle.tj_events.specs.WalkLaws.{OthersAreFew}
use Rattle.tj_words.specs.declared.offsets.Once.TheVariants as once
use Rattle.tj_record.specs.declared.record.Rec.{Rec}
use Rattle.tj_words.specs.declared.table.Key.{Key}
use Rattle.tj_words.specs.declared.view.Due.{Due}
use Rattle.tj_words.specs.Law.{Rule}
use Rattle.tj_words.specs.CallLaws.CallRuns.{AreAskedMoments}
use Rattle.tj_words.specs.CallLaws.RestedRuns.{Ruled, last_moment}
use Rattle.tj_words.specs.CallLaws.StepCalls as call
use Rattle.tj_words.specs.Calls.EntryViews.{MayPutBits, MayPutTag, bits_store, tag_store, wrote_bits, wrote_tag}
use Rattle.tj_words.specs.Calls.OwnerViews.{MayClose, closed_cell, owner_put}
use Rattle.tj_words.specs.LawParts.Contents.{WordsSay}
use Rattle.tj_words.specs.LawParts.FirstState.{first_slots, first_words}
use Rattle.tj_words.specs.LawParts.TreeWords.{IsCell, IsDue}
use Rattle.tj_words.specs.SeatViews.SeatSteps.{SeatMe}
use Rattle.tj_words.specs.Steps.QuietSteps.{does_first}
use Rattle.tj_words.specs.Words.Lists.{numbers}
use Rattle.tj_words.specs.Words.Offsets.{once_at, own_at, phase_at, word}
use Rattle.tj_words.proofs.Cells.OwnerStores.{owner_allowed}
use Rattle.tj_words.proofs.Seating.FirstWords.{first_words_say}
use Rattle.tj_words.proofs.Seating.Opening.{opening_meets}
use Rattle.tj_words.proofs.Stores.EntryStores.{bits_allowed, tag_allowed}
use Rattle.tj_words.proofs.Stores.SeatLists.{word_else, word_here}
use Rattle.tj_runs.specs.Moments.{contents_at}
use Rattle.tj_laws.specs.NewTables.{EndersAreTagged}
use Rattle.tj_laws.proofs.FirstAlarms.{GoesTo, at1, first_acts, goes, k, m1, r, root_does, u1, ws}
use Rattle.tj_laws.proofs.FirstClaims.{claim, first}
use Rattle.tj_laws.proofs.FirstRests.{taken_is}

-- BITS isn't due any more where TAG alone is
pub bits_written : ¬ IsDue 0 once.Bits (record { cell = 0; word = once.Tag } ∷ [])
bits_written (inl e) = let z : once.Bits ≡ once.Tag = ap (λ (d : Due). d.word) e in absurd (cc)
bits_written (inr n) = n

module _ {B : Type 0} (program : Bool → B → Program B) (key : Key B) (some_cells : 0 < key.cells)
    (keeps_facts : EventKeepsFacts) (few : OthersAreFew)
    (rule : Rule program key (first program key some_cells keeps_facts)) where
  abbrev P : Program B
  P = program key.strict key.root.value

  abbrev root : B
  root = key.root.value

  abbrev one : Ruled program key
  one = u1 program key some_cells keeps_facts few rule

  abbrev had : SeatMe B
  had = m1 program key some_cells keeps_facts few rule

  -- what becomes of the root
  abbrev result : Entry
  result = entry.Value (value.Num (pos 0))

  abbrev closed : SeatMe B
  closed = (closed_cell 0 0 had.0, had.1)

  abbrev filled : SeatMe B
  filled = (wrote_bits 0 result closed.0, had.1)

  abbrev tagged : SeatMe B
  tagged = (wrote_tag 0 result filled.0, had.1)

  -- nobody owns its result any more
  f2 : GoesTo program key one (own_at 0) 0 closed
  f2 =
      let small = (one.rule.codes.each 0 some_cells).own in
      let bound = one.rule.few_cells in
      let wide = one.rule.all_words in
      goes program key one had closed (at1 program key some_cells keeps_facts few rule) (call.puts_owner 0) (λ n. 0)
      (λ n. owner_put 0 (step key.cells (own_at 0) 0 0 none) had 0) (step key.cells (own_at 0) 0 0 none)
      (owner_allowed program key keeps_facts key.cells 0 had 0 (own_at 0) 0 0 some_cells refl refl may)
      (omega (arith, wide, some_cells)) (omega (arith, small, bound)) tt
      (λ x t. ((refl, (may, t)), λ i. (t.1 may i, t.0 i)))
    where
      its : IsIn 0 (numbers (r program key some_cells keeps_facts few rule).owned)
      its = (k program key some_cells keeps_facts few rule).owns_result

      may : MayClose 0 had.0
      may = record {
        task = 0;
        owner = record {
          custody = root_does program key some_cells keeps_facts few rule
              (does_first (r program key some_cells keeps_facts few rule).answer);
          held = refl;
          may = first_acts (r program key some_cells keeps_facts few rule).answer;
          out = refl;
          result = its;
          owns = its;
        };
        last = λ e. (
          sym (ap (λ (z : Rec B). numbers z.owned) (taken_is program key some_cells keeps_facts few rule)),
          refl,
        );
      }

  abbrev two : Ruled program key
  two = f2.later

  born : IsCell closed.0.born 0 (to_task [])
  born = ap (λ (l : List Reference). get_elem? l 0) (k program key some_cells keeps_facts few rule).begins.1

  module _ (starts : TasksStart P) (written : WritesBecome P)
      (ends : P.rules.asks root answer.Start ≡ ask.End (pay.Num (pos 0))) (is_root : P.root ≡ root) where
    abbrev asked : Point B
    asked = record (start (root_task root)) { body = P.rules.then root answer.Start }

    -- by its meaning the root's result is 0
    becomes : Becomes P [] result
    becomes =
        let begun = subst (λ (b : B). IsOfRounds P (start (root_task b))) is_root
        (starts.1 (root_task P.root) starts.0).1 in
        written (after_end (value.Num (pos 0)) asked) [] result
        (subst (IsOfRounds P) (ap (λ x. after_ask P.rules.strict x asked) ends)
        (points_ask P (start (root_task root)) answer.Start begun refl)) (inl refl)

    -- BITS is written
    f3 : GoesTo program key two (once_at 0 once.Bits) 0 filled
    f3 =
        let small = bits2 in
        let wide = two.rule.all_words in
        goes program key two closed filled f2.at (call.puts_once 0 once.Bits) (λ n. 0)
        (λ n. bits_store program 0 (step key.cells (once_at 0 once.Bits) 0 0 none) closed 0)
        (step key.cells (once_at 0 once.Bits) 0 0 none)
        (bits_allowed program key key.cells 0 closed 0 (once_at 0 once.Bits) 0 0 some_cells refl refl may)
        (omega (arith, wide, some_cells)) (omega (arith, small)) tt
        (λ x t. ((refl, (may, t.0, t.1)), λ i. (t.1 may i, t.0 i)))
      where
        bits2 : word two.now.words (once_at 0 once.Bits) ≡ 0
        bits2 = ap (λ l. word l (once_at 0 once.Bits)) f2.words
            ∙ (word_else one.now.words (own_at 0) (once_at 0 once.Bits) _ (λ e. omega arith)
            ∙ (word_else (ws program key some_cells keeps_facts few rule) (phase_at 0) (once_at 0 once.Bits) _
            (λ e. omega arith)
            ∙ ap (λ (w : WordsSay). w.once 0 once.Bits) (first_words_say key.cells some_cells)))

        may : MayPutBits program 0 0 closed.0
        may = record {
          due = inl refl;
          about = record { root = root; cells = key.cells; strict = key.strict };
          is_about = refl;
          entry = result;
          may = record { to_become = (to_task [], born, becomes); bits_say = refl; knows = tt };
        }

    abbrev three : Ruled program key
    three = f3.later

    -- and TAG
    f4 : GoesTo program key three (once_at 0 once.Tag) 1 tagged
    f4 =
        let small = (three.rule.codes.each 0 some_cells).tag in
        let wide = three.rule.all_words in
        goes program key three filled tagged f3.at (call.puts_once 0 once.Tag) (λ n. 1)
        (λ n. tag_store 0 (step key.cells (once_at 0 once.Tag) 1 0 none) filled 1)
        (step key.cells (once_at 0 once.Tag) 1 0 none)
        (tag_allowed program key key.cells 0 filled 0 (once_at 0 once.Tag) 1 0 some_cells refl refl may)
        (omega (arith, wide, some_cells)) (omega (arith, small)) tt
        (λ x t. ((refl, (may, t.0, t.1)), λ i. (t.1 may i, t.0 i)))
      where
        may : MayPutTag 0 1 filled.0
        may = record {
          due = inl refl;
          bits_first = bits_written;
          entry = result;
          wrote = inl refl;
          tag = refl;
          backed = inr (0, _, refl, tt);
        }

    -- its meaning has one cell: the root's history ends at once, with no child and no promise
    ended : (V : Assignment) → history P.rules V (root_task root) ≡ after_end (value.Num (pos 0)) asked
    ended V =
        ap (λ n. point_after P.rules V n (root_task root))
        (let e : 2 * suc (P.rules.left root) ≡ (2 * P.rules.left root + 1) + 1 = omega arith in e)
        ∙ (stays P.rules V (root_task root) 1 (subst (λ p. after_step P.rules V p ≡ p) (sym once_asked) refl)
        (2 * P.rules.left root + 1) ∙ once_asked)
      where
        once_asked : point_after P.rules V 1 (root_task root) ≡ after_end (value.Num (pos 0)) asked
        once_asked = ap (λ x. after_ask P.rules.strict x asked) ends

    one_cell : (n : ℕ) → length (cells P (suc n)) ≡ 1
    one_cell n =
        let V = given P n in
        subst (λ (b : B). length (flat_map (cells_by P.rules V) (family P.rules V (suc n) (root_task b))) ≡ 1)
        (sym is_root)
        (ap (λ (p : Point B). length (flat_map (cells_by P.rules V)
        (root_task root ∷ flat_map (family P.rules V n) p.children))) (ended V)
        ∙ ap (λ (p : Point B). length (([] ∷ p.promises) ++ [])) (ended V))

    pub not_full : ¬ IsFull P key.cells
    not_full h =
        let l = subst (λ n. key.cells < length (cells P n))
        (let e : 2 * key.cells + 1 ≡ suc (2 * key.cells) = omega arith in e) h in
        let e = one_cell (2 * key.cells) in
        omega (arith, l, e, some_cells)

    pub tag_moments : List (Ruled program key)
    tag_moments = one ∷ two ∷ three ∷ f4.later ∷ []

    pub tag_run : AreAskedMoments program key record { now = first program key some_cells keeps_facts; rule = rule }
        tag_moments
    unfolding tag_moments
    tag_run = (inl (claim program key some_cells keeps_facts rule), (f2.asked, (f3.asked, (f4.asked, tt))))

    -- TAG of the root says that its result is a number
    pub tag_set : (contents_at program key (last_moment program key
        record { now = first program key some_cells keeps_facts; rule = rule } tag_moments)).words.once 0 once.Tag ≡ 1
    unfolding tag_moments
    tag_set =
        let wide = three.rule.all_words in
        ap (λ l. word l (once_at 0 once.Tag)) f4.words
        ∙ word_here three.now.words (once_at 0 once.Tag) 1 (omega (arith, wide, some_cells))

module _ {B : Type 0} (places : B → ℕ) (awaits : B → Await) (left : B → ℕ) (asks : B → Answer → Ask B)
    (then : B → Answer → B) where
  pub enders_tagged : StartMeetsFacts → EventKeepsFacts → OthersAreFew
      → HoldsOfPrograms places awaits left asks then TasksStart
      → HoldsOfPrograms places awaits left asks then WritesBecome → EndersAreTagged places awaits left asks then
  enders_tagged start_meets keeps_facts few starts writes key some_cells few_cells fresh ends =
      let begun = starts key.strict key.root.value fresh in
      let written = writes key.strict key.root.value fresh in (
        record { now = first program key some_cells keeps_facts; rule = rule },
        tag_moments program key some_cells keeps_facts few rule begun written ends refl,
        refl,
        tag_run program key some_cells keeps_facts few rule begun written ends refl,
        tag_set program key some_cells keeps_facts few rule begun written ends refl,
        not_full program key some_cells keeps_facts few rule begun written ends refl,
      )
    where
      program : Bool → B → Program B
      program = program_of places awaits left asks then

      rule : Rule program key (first program key some_cells keeps_facts)
      rule = opening_meets program key some_cells few_cells start_meets (starts key.strict key.root.value fresh) fresh
          refl (first_words key.cells) (first_slots key.cells key.root.value) refl refl
