-- A root that ends at its first ask: how it closes by its meaning, what becomes of its result, and with which finish
-- its record says so.
use Rattle.std.proofs.Common.{◌≡◌, ◌∙◌, ℕ, zero, suc, Bool, true, false, List, [], ◌∷◌, Some}
use Rattle.std.proofs.Common.{refl, sym, ap, subst, ⊎_elim, map}
use Rattle.tj_base.specs.declared.cause.Cause.{Cause}
use Rattle.tj_base.specs.declared.cause.Cause.TheVariants as cause
use Rattle.tj_base.specs.declared.cause.Trouble.TheVariants as trouble
use Rattle.tj_base.specs.declared.cell.Sort.TheVariants as sort
use Rattle.tj_base.specs.declared.value.Pay.{Pay}
use Rattle.tj_base.specs.declared.value.Pay.TheVariants as pay
use Rattle.tj_body.specs.History.{after_ask, after_close, after_end, after_get, after_join, after_set, after_try_fork}
use Rattle.tj_body.specs.History.{hand_all, hand_one, reference, start, to_task, value_at}
use Rattle.tj_body.specs.Names.{has, without}
use Rattle.tj_body.specs.Points.{IsIn}
use Rattle.tj_body.specs.Programs.{Program, root_task}
use Rattle.tj_body.specs.declared.ask.Answer.TheVariants as answer
use Rattle.tj_body.specs.declared.ask.Ask.{Ask}
use Rattle.tj_body.specs.declared.ask.Ask.TheVariants as ask
use Rattle.tj_body.specs.declared.point.Close.{Close}
use Rattle.tj_body.specs.declared.point.Close.TheVariants as close
use Rattle.tj_body.specs.declared.point.Entry.{Entry}
use Rattle.tj_body.specs.declared.point.Point.{Point}
use Rattle.tj_body.specs.declared.point.PointStage.{PointStage}
use Rattle.tj_body.specs.declared.point.PointStage.TheVariants as stage
use Rattle.tj_body.specs.declared.point.Reference.{Reference}
use Rattle.tj_body.specs.declared.point.Value.TheVariants as value
use Rattle.tj_body.proofs.Histories.EndedPoints.{result_of}
use Rattle.tj_record.specs.declared.record.Fill.TheVariants as fill
use Rattle.tj_record.specs.declared.record.Finish.{Finish}
use Rattle.tj_record.specs.declared.record.Finish.TheVariants as finish
use Rattle.tj_record.specs.declared.record.Hurt.{Hurt}
use Rattle.tj_record.specs.declared.record.Hurt.TheVariants as hurt
use Rattle.tj_words.specs.LawParts.NamedCells.{finish_cells, hurt_cells}
use Rattle.tj_words.specs.LawParts.Telling.{BitsSay, FinishSays, HurtSays}
use Rattle.tj_words.specs.LawParts.TreeWords.{IsCell}
use Rattle.tj_words.specs.SeatViews.KnownEntries.{NamesOneOf}
use Rattle.tj_words.specs.Words.Lists.{cell}
use Rattle.tj_laws.specs.EndedRoots.{HasBits}

module _ {B : Type 0} (P : Program B) (root : B) where
  -- the root's point once it has asked first
  abbrev pub asked : Point B
  asked = record (start (root_task root)) { body = P.rules.then root answer.Start }

  -- what becomes of the root that ends like this: by the meaning it ends so, and no other cell is named
  pub record IsEnding (how : Finish) (result : Entry) (closes : Close) (bits : ℕ) : Type 0 where
    pub after : after_ask P.rules.strict (P.rules.asks root answer.Start) asked ≡ after_close closes result asked
    pub bits_say : (born : List Reference) → IsCell born 0 (to_task []) → BitsSay born result bits
    pub finish_says : (born : List Reference) → IsCell born 0 (to_task []) → FinishSays born how closes
    pub names : (known : List ℕ) → IsIn 0 known → NamesOneOf known result bits
    pub cells : (c : ℕ) → IsIn c (finish_cells (Some how)) → c ≡ 0

  -- how the root ends that closes like this
  abbrev pub Ending : Close → Type 0
  Ending e = (how : Finish) × FinishSays (to_task [] ∷ []) how e × (bits : ℕ) × IsEnding how (result_of e) e bits

  -- the point after the first ask, where it closes like this
  abbrev Goes : Close → Type 0
  Goes e = after_ask P.rules.strict (P.rules.asks root answer.Start) asked ≡ after_close e (result_of e) asked

  -- where it fails
  failed : (why : Cause) (h : Hurt)
      → ((born : List Reference) → IsCell born 0 (to_task []) → HurtSays born h why)
      → ((c : ℕ) → IsIn c (hurt_cells h) → c ≡ 0) → Goes (close.Failed why) → Ending (close.Failed why)
  failed why h says own goes = (
    finish.Failed h,
    (why, says (to_task [] ∷ []) refl, refl),
    0,
    record {
      after = goes;
      bits_say = λ born at. refl;
      finish_says = λ born at. (why, says born at, refl);
      names = λ known at. tt;
      cells = own;
    },
  )

  -- for a wrong kind
  kinds : Goes (close.Failed cause.Kind) → Ending (close.Failed cause.Kind)
  kinds goes = failed cause.Kind hurt.Kind (λ born at. refl) (λ c i. absurd i) goes

  -- each place of the root is the root itself
  root_at : (k : ℕ) → reference asked k ≡ to_task []
  root_at zero = refl
  root_at (suc k) = refl

  module _ (e : Close) (sayable : HasBits e) (a : Ask B) (is : P.rules.asks root answer.Start ≡ a)
      (closes : (after_ask P.rules.strict a asked).stage ≡ stage.Closed e) where
    -- a point of which this is so, and that closes like that
    close_is : (c : Close) → after_ask P.rules.strict a asked ≡ after_close c (result_of c) asked → c ≡ e
    close_is c goes = ap close_in (sym (ap (λ (p : Point B). p.stage) goes) ∙ closes) where
      close_in : PointStage → Close
      close_in (stage.Closed x) = x
      close_in (stage.Answered x) = c
      close_in (stage.Waits q spare) = c

    -- so it ends like this
    so : (c : Close) → after_ask P.rules.strict a asked ≡ after_close c (result_of c) asked
        → (Goes c → Ending c) → Ending e
    so c goes ends =
        subst Ending (close_is c goes) (ends (ap (λ x. after_ask P.rules.strict x asked) is ∙ goes))

    -- a join of the root by itself fails under the strict rule, and waits else
    joins : (strict spare : Bool)
        → after_ask P.rules.strict a asked ≡ after_join strict spare sort.Task [] asked → Ending e
    joins true spare goes = so (close.Failed (cause.Order [])) goes (failed (cause.Order []) (hurt.Order (cell 0))
        (λ born at. ([], (to_task [], at, refl), refl)) (λ c i. ⊎_elim (λ z. z) (λ x. absurd x) i))
    joins false spare goes =
        let z : stage.Waits [] spare ≡ stage.Closed e = sym (ap (λ (p : Point B). p.stage) goes) ∙ closes in
        absurd (cc)

    -- a fork by which the root would hand itself fails
    hands : (b : B) (pass : List ℕ) (k : ℕ) (ks : List ℕ) → a ≡ ask.Fork b pass (k ∷ ks) → Ending e
    hands b pass k ks fork = so (close.Failed cause.Kind)
        (ap (λ x. after_ask P.rules.strict x asked) fork
        ∙ ap (λ (r : Reference). after_try_fork b (map (reference asked) pass)
        (map (λ i. (reference asked i).name) (k ∷ ks))
        (hand_one r.sort (has r.name []) r.name (hand_all (without r.name []) (map (reference asked) ks))) asked)
        (root_at k)) kinds

    -- what the root ends with
    values : (v : Pay) → a ≡ ask.End v → Ending e
    values (pay.Num i) end = so (close.Done (value.Num i)) goes (λ g. (
      finish.Done (fill.Num i),
      (value.Num i, refl, refl),
      wide.0,
      record {
        after = g;
        bits_say = λ born at. wide.2;
        finish_says = λ born at. (value.Num i, refl, refl);
        names = λ known at. tt;
        cells = λ c at. absurd at;
      },
    ))
      where
        goes : after_ask P.rules.strict a asked ≡ after_end (value.Num i) asked
        goes = ap (λ x. after_ask P.rules.strict x asked) end

        wide : HasBits (close.Done (value.Num i))
        wide = subst HasBits (sym (close_is (close.Done (value.Num i)) goes)) sayable
    values (pay.Ref k) end = so (close.Done (value.Ref (to_task [])))
        (ap (λ x. after_ask P.rules.strict x asked) end ∙ ap (λ r. after_end (value.Ref r) asked) (root_at k))
        (λ g. (
          finish.Done (fill.Task (cell 0)),
          (value.Ref (to_task []), ([], refl, refl), refl),
          0,
          record {
            after = g;
            bits_say = λ born at. at;
            finish_says = λ born at. (value.Ref (to_task []), ([], at, refl), refl);
            names = λ known at. at;
            cells = λ c at. ⊎_elim (λ z. z) (λ x. absurd x) at;
          },
        ))

  -- by its first ask
  pub ending : (e : Close) → HasBits e → (a : Ask B) (is : P.rules.asks root answer.Start ≡ a)
      → (after_ask P.rules.strict a asked).stage ≡ stage.Closed e → Ending e
  ending e n ask.New is s = absurd (cc)
  ending e n (ask.Fork b pass []) is s = absurd (cc)
  ending e n (ask.Fork b pass (k ∷ ks)) is s = hands e n (ask.Fork b pass (k ∷ ks)) is s b pass k ks refl
  ending e n (ask.Set k v) is s = so e n (ask.Set k v) is s (close.Failed cause.Kind)
      (ap (λ (r : Reference). after_set r.sort r.name (value_at [] (to_task [] ∷ []) v) asked) (root_at k)) kinds
  ending e n (ask.Get k) is s = so e n (ask.Get k) is s (close.Failed cause.Kind)
      (ap (λ (r : Reference). after_get false r.sort r.name asked) (root_at k)) kinds
  ending e n (ask.Join k) is s = joins e n (ask.Join k) is s P.rules.strict false
      (ap (λ (r : Reference). after_join P.rules.strict false r.sort r.name asked) (root_at k))
  ending e n (ask.GetOr k) is s = so e n (ask.GetOr k) is s (close.Failed cause.Kind)
      (ap (λ (r : Reference). after_get true r.sort r.name asked) (root_at k)) kinds
  ending e n (ask.JoinOr k) is s = joins e n (ask.JoinOr k) is s P.rules.strict true
      (ap (λ (r : Reference). after_join P.rules.strict true r.sort r.name asked) (root_at k))
  ending e n (ask.Emit i) is s = absurd (cc)
  ending e n (ask.End v) is s = values e n (ask.End v) is s v refl
  ending e n (ask.Fail trouble.Arith) is s = so e n (ask.Fail trouble.Arith) is s (close.Failed cause.Arith) refl
      (failed cause.Arith hurt.Arith (λ born at. refl) (λ c i. absurd i))
  ending e n (ask.Fail trouble.Kind) is s =
      so e n (ask.Fail trouble.Kind) is s (close.Failed cause.Kind) refl kinds
  ending e n (ask.Fail trouble.Steps) is s = so e n (ask.Fail trouble.Steps) is s (close.Failed cause.Steps) refl
      (failed cause.Steps hurt.Steps (λ born at. refl) (λ c i. absurd i))
