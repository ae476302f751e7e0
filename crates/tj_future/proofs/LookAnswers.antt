-- What a look at a task's result was answered is what the task's record says at rest: the words of the result say both.
use Rattle.std.proofs.Common.{◌≡◌, ◌≢◌, ℕ, Bool, true, List, Option, Some, None, refl, sym, ap, ◌∙◌, subst, inl, inr}
use Rattle.std.proofs.Common.{arith}
use mathlib.Core.Option.{some}
use lib.ListN.{get_elem?}
use Rattle.tj_body.specs.Points.{IsIn}
use Rattle.tj_body.specs.Programs.{Program}
use Rattle.tj_body.specs.History.{to_promise, to_task}
use Rattle.tj_body.specs.declared.point.Entry.{Entry}
use Rattle.tj_body.specs.declared.point.Reference.{Reference}
use Rattle.tj_cells.specs.declared.seen.Seen.{Seen}
use Rattle.tj_cells.specs.declared.seen.Seen.TheVariants as seen
use Rattle.tj_cells.specs.SeenValues.{SeenSays, SeesValue, seen_in}
use Rattle.tj_record.specs.declared.record.Fill.{Fill}
use Rattle.tj_record.specs.declared.record.Fill.TheVariants as fill
use Rattle.tj_record.specs.declared.record.Finish.{Finish}
use Rattle.tj_record.specs.declared.record.Finish.TheVariants as finish
use Rattle.tj_record.specs.declared.record.Rec.{Rec}
use Rattle.tj_words.specs.declared.table.Key.{Key}
use Rattle.tj_words.specs.declared.view.View.{View}
use Rattle.tj_words.specs.AtRest.RestingSeats.{MayRest}
use Rattle.tj_runs.specs.AlikeSeats.{IsTheTables, ResultSays}
use Rattle.tj_words.specs.CallLaws.CallRuns.{AreAskedMoments}
use Rattle.tj_words.specs.CallLaws.RestedRuns.{Ruled, last_moment, tag_at}
use Rattle.tj_words.specs.LawParts.Contents.{Contents, bits_in, contents_of, home_of, tag_in}
use Rattle.tj_words.specs.LawParts.Telling.{BitsSay, tag_of}
use Rattle.tj_words.specs.LawParts.TreeWords.{IsCell}
use Rattle.tj_words.specs.Words.Values.{fill_in, tag_word}
use Rattle.tj_runs.proofs.AlikeSeats.{plain_moments, seats_know_for_good}
use Rattle.tj_runs.proofs.RestedRuns.{no_value_comes}
use Rattle.tj_words.proofs.Cells.CellNames.{AreApartByName, born_apart}
use Rattle.tj_runs.proofs.EndedRecords.{records_say_results}
use Rattle.tj_run.specs.declared.why.Why.{Why}
use Rattle.tj_future.specs.declared.watched.Watched.{Watched}
use Rattle.tj_future.specs.declared.watched.Watched.TheVariants as watched
use Rattle.tj_future.specs.Looks.{Answers, RestsWithout}
use Rattle.tj_future.specs.LooksStand.{LooksStand}
use Rattle.tj_future.specs.RootWatches.{watched_of}

some_value : {A : Type 0} (x y : A) → Some x ≡ Some y → x ≡ y
some_value x y e = cc

some_none : {A : Type 0} (x : A) → Some x ≡ None → ⊥
some_none x e = cc

-- TAG of a value, and of what is broken
tag_low : (f : Fill) → tag_word (Some f) ≢ 4
tag_low (fill.Num i) e = omega arith
tag_low f e = omega arith

tag_some : (o : Option Fill) → tag_word o ≢ 0
tag_some None e = omega arith
tag_some (Some (fill.Num i)) e = omega arith
tag_some (Some (fill.Promise c)) e = omega arith
tag_some (Some (fill.Task c)) e = omega arith

-- what words say that a value was seen in is what the record says
pub value_told : (tag bits : ℕ) (f : Fill) (o : Option Finish) → tag ≡ tag_word (Some f) → fill_in tag bits ≡ Some f
    → ResultSays tag bits o → watched.Value f ≡ watched_of o
value_told tag bits f None t b s = absurd (tag_some (Some f) (sym t ∙ s))
value_told tag bits f (Some (finish.Done d)) t b s = ap watched.Value (some_value f d (sym b ∙ s.1))
value_told tag bits f (Some (finish.Failed h)) t b s = absurd (some_none f (sym b ∙ s.1))

pub broken_told : (tag bits : ℕ) (o : Option Finish) → tag ≡ 4 → ResultSays tag bits o → watched.Broken ≡ watched_of o
broken_told tag bits None t s = absurd (omega arith)
broken_told tag bits (Some (finish.Done d)) t s = absurd (tag_low d (sym s.0 ∙ t))
broken_told tag bits (Some (finish.Failed h)) t s = refl

pub rest_told : (tag bits : ℕ) (o : Option Finish) → tag ≡ 0 → ResultSays tag bits o → watched.Rested ≡ watched_of o
rest_told tag bits None t s = refl
rest_told tag bits (Some f) t s = absurd (tag_some _ (sym s.0 ∙ t))

module _ (born then : List Reference) (apart : AreApartByName then)
    (names : (c : ℕ) (r : Reference) → IsCell born c r → (s : Reference) × IsCell then c s × (s.name ≡ r.name)) where
  -- one number for one name
  one_number : (c n : ℕ) (r : Reference) → IsCell born c r → IsCell then n r → n ≡ c
  one_number c n r e f = let w = names c r e in apart n c r w.0 f w.1 (sym w.2)

  -- the words of which an entry is so say what was seen
  fill_seen : (f : Fill) (e : Entry) (tag bits : ℕ) → SeenSays born (seen_in (Some f)) e → tag ≡ tag_of e
      → BitsSay then e bits → (tag ≡ tag_word (Some f)) × (fill_in tag bits ≡ Some f)
  fill_seen (fill.Num i) e tag bits h t b =
      let one : tag ≡ 1 = t ∙ ap tag_of h in
      let say = subst (λ z. BitsSay then z bits) h b in
      (one, ap (λ n. fill_in n bits) one ∙ ap (λ n. Some (fill.Num n)) say)
  fill_seen (fill.Promise c) e tag bits h t b =
      let two : tag ≡ 2 = t ∙ ap tag_of h.2 in
      let say = subst (λ z. BitsSay then z bits) h.2 b in
      let same : bits ≡ c.0 = one_number c.0 bits (to_promise h.0) h.1 say in
      (two, ap (λ n. fill_in n bits) two ∙ ap (λ n. Some (fill.Promise (record { 0 = n }))) same)
  fill_seen (fill.Task c) e tag bits h t b =
      let three : tag ≡ 3 = t ∙ ap tag_of h.2 in
      let say = subst (λ z. BitsSay then z bits) h.2 b in
      let same : bits ≡ c.0 = one_number c.0 bits (to_task h.0) h.1 say in
      (three, ap (λ n. fill_in n bits) three ∙ ap (λ n. Some (fill.Task (record { 0 = n }))) same)

module _ {B : Type 0} (program : Bool → B → Program B) (key : Key B) (u : Ruled program key)
    (later : List (Ruled program key)) (a : AreAskedMoments program key u later) (id p : ℕ) (w : View B)
    (at : get_elem? u.now.views id ≡ some w) (other : ℕ) (last : View B)
    (there : get_elem? (last_moment program key u later).now.views other ≡ some last) (may : MayRest last) (r : Rec B)
    (home : home_of (contents_of (last_moment program key u later).now) p ≡ Some r) where
  abbrev end : Ruled program key
  end = last_moment program key u later

  abbrev x : Contents B
  x = contents_of end.now

  known : IsTheTables end.rule.law w
  known = seats_know_for_good B program key u later a id w at

  says : ResultSays (tag_in x p) (bits_in x p) r.finish
  says = records_say_results B program key end other last there may p r home

  module _ (s : Seen) (v : View B) (h : SeesValue program key.cells p s v w) where
    knows : IsIn (record { cell = p; entry = h.entry }) w.filled
    knows = subst (IsIn (record { cell = p; entry = h.entry }))
        (sym (ap (λ (z : View B). z.filled) h.view)) (inl refl)

    words : (tag_in x p ≡ tag_of h.entry) × BitsSay end.rule.law.born h.entry (bits_in x p)
    words = known.values (record { cell = p; entry = h.entry }) knows

    says_seen : SeenSays w.born s h.entry
    says_seen = subst (λ (l : List Reference). SeenSays l s h.entry) (sym (ap (λ (z : View B). z.born) h.view)) h.says

  value_is : (f : Fill) (v : View B) → SeesValue program key.cells p (seen_in (Some f)) v w
      → watched.Value f ≡ watched_of r.finish
  value_is f v h =
      let s = seen_in (Some f) in
      let q = fill_seen w.born end.rule.law.born (born_apart end.rule.law) known.names f h.entry (tag_in x p)
      (bits_in x p) (says_seen s v h) (words s v h).0 (words s v h).1 in
      value_told (tag_in x p) (bits_in x p) f r.finish q.0 q.1 says

  broken_is : (v : View B) → SeesValue program key.cells p seen.Broken v w → watched.Broken ≡ watched_of r.finish
  broken_is v h = broken_told (tag_in x p) (bits_in x p) r.finish
      ((words seen.Broken v h).0 ∙ ap tag_of h.says) says

  rested_is : (v : View B) → RestsWithout program p v w → tag_at u.now p ≡ 0 → watched.Rested ≡ watched_of r.finish
  rested_is v h zero =
      let rested : w.rested ≡ true = ap (λ (z : View B). z.rested) h.nothing.view
      ∙ ap (λ (z : View B). z.rested) h.comes.view in
      rest_told (tag_in x p) (bits_in x p) r.finish
      (no_value_comes B program key u later (plain_moments program key u later a) id p w at rested zero) says

  answer_is : (answer : Watched) (v : View B) → Answers program key.cells p answer v w
      → (answer ≡ watched.Rested → tag_at u.now p ≡ 0) → ((why : Why) → answer ≢ watched.Stopped why)
      → answer ≡ watched_of r.finish
  answer_is (watched.Value f) v (inl h) zero runs = value_is f v h
  answer_is (watched.Value f) v (inr h) zero runs = value_is f h.0 h.2
  answer_is watched.Broken v (inl h) zero runs = broken_is v h
  answer_is watched.Broken v (inr h) zero runs = broken_is h.0 h.2
  answer_is watched.Rested v h zero runs = rested_is v h (zero refl)
  answer_is (watched.Stopped why) v h zero runs = absurd (runs why refl)

pub looks_stand : (B : Type 0) → LooksStand B
looks_stand B program key u later a id p v w answer at h zero runs other last there may r home =
    answer_is program key u later a id p w at other last there may r home answer h.0 h.2 zero runs
