-- Where the meaning fits the limit, what the law of a table has of some round is the meaning's.
use Rattle.std.proofs.Common.{◌≡◌, ◌≢◌, ℕ, zero, suc, Option, Some, None, refl, sym, ap, ◌∙◌, subst, arith}
use native.Mathlib.Decide.{dec_le}
use mathlib.Core.Logic.{dite}
use Rattle.tj_base.specs.ForkOrder.{Name, child}
use Rattle.tj_body.specs.Asks.{Await}
use Rattle.tj_body.specs.History.{Assignment}
use Rattle.tj_body.specs.Laws.{Grows, Has, HoldsOfPrograms, HoldsOfTasks, IsAllGood, IsLast, Stops}
use Rattle.tj_body.specs.Points.{IsPointOf, IsSomePoint, IsSomeTask, IsWithin}
use Rattle.tj_body.specs.Programs.{Program}
use Rattle.tj_body.specs.RoundPoints.{PointsStay}
use Rattle.tj_body.specs.Rounds.{given, last_round}
use Rattle.tj_body.specs.declared.ask.Answer.{Answer}
use Rattle.tj_body.specs.declared.ask.Ask.{Ask}
use Rattle.tj_body.specs.declared.point.Entry.{Entry}
use Rattle.tj_body.specs.declared.point.Point.{Point}
use Rattle.tj_body.specs.declared.point.Task.{Task}
use Rattle.tj_words.specs.declared.offsets.Once.TheVariants as once
use Rattle.tj_words.specs.declared.view.Hand.{Hand}
use Rattle.tj_words.specs.Law.{Law}
use Rattle.tj_words.specs.LawParts.Contents.{Contents}
use Rattle.tj_words.specs.LawParts.ShownState.{sort_shown}
use Rattle.tj_words.specs.LawParts.TreeWords.{parent_word}
use Rattle.tj_laws.specs.WithinMeaning.{AreNamedByWords, IsPointOfMeaning, IsWithinMeaning}
use Rattle.tj_laws.specs.WithinMeaning.{StandsWithinMeaning}

parent_is : (c m : ℕ) → c ≢ 0 → parent_word c m ≡ suc m
parent_is zero m n = absurd (n refl)
parent_is (suc c) m n = refl

-- an assignment that has no more and no less than another is that one
same_given : (V W : Assignment) → IsWithin V W → IsWithin W V → V ≡ W
same_given V W f g = λ j q. one q j where
  by : (q : Name) (v w : Option Entry) → V q ≡ v → W q ≡ w → v ≡ w
  by q (Some e) w a b = sym (f q e a) ∙ b
  by q None None a b = refl
  by q None (Some e) a b = sym a ∙ g q e b

  one : (q : Name) → V q ≡ W q
  one q = by q (V q) (W q) refl refl

module _ {B : Type 0} {P : Program B} {limit : ℕ} {x : Contents B} (r : Law P limit x) where
  -- names by the words
  named_by_words : AreNamedByWords limit x r.born
  named_by_words = record {
    all = r.births.all;
    root = r.births.root;
    sorts = λ c z there is. r.births.sorts c z is
        ∙ ap (λ (o : Option Hand). sort_shown o (x.words.phase c)) there.1;
    named = λ c z n there is.
        let m = r.births.named c z is n in (
          r.maker c,
          m.0,
          r.tree_words.written c z once.Parent there is tt ∙ parent_is c (r.maker c) n,
          r.births.makers_there c there.0,
          m.1,
          m.2 ∙ ap (child m.0.name) (sym (r.tree_words.written c z once.Kid there is tt)),
        );
  }

  module _ (last : (n : ℕ) → Has P (last_round limit) n) (grows : Grows P) (stay : PointsStay P)
      (begins : (t : Task B) → IsSomeTask P t → Stops P.rules t) where
    abbrev end : ℕ
    end = last_round limit

    -- a point under some round is one under the last
    point_last : (t : Task B) (p : Point B) → IsSomePoint P t p → IsPointOf P.rules (given P end) t p
    point_last t p (m, is) = dite (dec_le m end)
        (λ l. stay m end t p l is)
        (λ l. subst (λ V. IsPointOf P.rules V t p)
        (same_given (given P m) (given P end) (last m).1 (grows end m (omega arith)).1) is)

    point_meant : (t : Task B) (p : Point B) → IsSomeTask P t → IsSomePoint P t p → IsPointOfMeaning P limit p
    point_meant t p some is = let here = point_last t p is in record {
      task = t;
      meant = (last some.0).0 t some.1;
      is_point = here;
      prints = ((begins t some (given P end)).1 p here).3;
    }

    pub within : IsWithinMeaning P limit x
    within = record {
      born = r.born;
      named = named_by_words;
      names = λ c z there is. let q = r.meaning.names c z is in (last q.0).2 z.name q.1;
      entries = λ c set. let f = r.meaning.entries c set in let w = f.1.written in (
        w.reference,
        f.0,
        (r.once_words.valued c once.Tag (λ h. h) set).0,
        w.is,
        (last w.becomes.0).1 w.reference.name f.0 w.becomes.1,
        f.1.tag_is,
        w.bits_say,
      );
      records = λ t z home. let k = r.meaning.records t z home in let p = k.stands.of_rounds in (
        k.point,
        point_meant p.0 k.point p.1 p.2,
        r.custody.own_slots t z home,
        k.tells,
        k.tells_stage,
      );
    }

module _ {B : Type 0} (places : B → ℕ) (awaits : B → Await) (left : B → ℕ) (asks : B → Answer → Ask B)
    (then : B → Answer → B) where
  pub stands_within : HoldsOfPrograms places awaits left asks then IsLast
      → HoldsOfPrograms places awaits left asks then Grows
      → HoldsOfPrograms places awaits left asks then PointsStay
      → HoldsOfPrograms places awaits left asks then IsAllGood
      → HoldsOfTasks places awaits left asks then Stops
      → StandsWithinMeaning places awaits left asks then
  stands_within last grows stay good stops key u fits =
      let s = key.strict in let b = key.root.value in let fresh = u.rule.rooted in
      within u.rule.law (last s b fresh key.cells fits).0 (grows s b fresh) (stay s b fresh)
      (λ t some. stops s t (good s b fresh t some).0)
