-- What is told of the tasks of closed records, slot by slot: it is told of the meaning's histories, in some order.
use Rattle.tj_report.proofs.Prelude.{AreDistinct, AreRecordsOf, AreTold, AreToldInSomeOrder, AreWordsOf, IsCell, IsIn}
use Rattle.tj_report.proofs.Prelude.{IsRecordBelow, List, None, Option, Point, PointStage, Program, Rec, Reference}
use Rattle.tj_report.proofs.Prelude.{RestCell, Some, Stopped, TellsHistory, [], ap, arith, ending_of, get_or, in_either}
use Rattle.tj_report.proofs.Prelude.{in_left, in_map, in_right, inl, inr, length, map, meaning, meaning_distinct, names}
use Rattle.tj_report.proofs.Prelude.{refl, some-injective, some_is, stopped_of, subst, suc, sym, tasks, to_task}
use Rattle.tj_report.proofs.Prelude.{told_by, zero, ℕ, ◌++◌, ◌+◌, ◌<◌, ◌∙◌, ◌∷◌, ◌≡◌, ◌≤◌, ◌⊎◌}
use Rattle.tj_words.specs.AtRest.RestMeaning.{IsPhaseAt}
use Rattle.tj_words.specs.declared.phase.Phase.{Phase}
use Rattle.tj_report.proofs.CellIndexes.{name_of, within, cells_apart, elem_of_get, get_of_elem}
use Rattle.tj_report.proofs.EndedHolds.{meant_holds}
use Rattle.tj_mean.proofs.Lists.KeyedLists.{one_of_key, same_permuted, distinct_more}
use Rattle.tj_report.proofs.ToldRecords.{record_told}
use Rattle.tj_body.specs.declared.point.PointStage.TheVariants as stage
use Rattle.tj_body.specs.declared.point.Close.TheVariants as close

pub map_append : {A C : Type 0} (f : A → C) (xs ys : List A) → map f (xs ++ ys) ≡ map f xs ++ map f ys
map_append f [] ys = refl
map_append f (x ∷ xs) ys = ap (λ l. f x ∷ l) (map_append f xs ys)

pub told_more : {B : Type 0} (ps : List (Point B)) (ss : List Stopped) (p : Point B) (s : Stopped) → AreTold ps ss
    → stopped_of p ≡ Some s → AreTold (ps ++ p ∷ []) (ss ++ s ∷ [])
told_more ps ss p s t e =
    map_append stopped_of ps (p ∷ []) ∙ ap (λ l. l ++ stopped_of p ∷ []) t
    ∙ ap (λ o. map (λ (z : Stopped). Some z) ss ++ o ∷ []) e ∙ sym (map_append (λ (z : Stopped). Some z) ss (s ∷ []))

-- a number below the next one is below this one, or is it
split : (d c : ℕ) → d < c + 1 → (d < c) ⊎ (d ≡ c)
split zero zero l = inr refl
split zero (suc c) l = inl (omega arith)
split (suc d) zero l = absurd (omega arith)
split (suc d) (suc c) l = by (split d c (omega arith)) where
  by : (d < c) ⊎ (d ≡ c) → (suc d < suc c) ⊎ (suc d ≡ suc c)
  by (inl h) = inl (omega arith)
  by (inr e) = inr (ap suc e)

stops : (born : List Reference) (st : PointStage) (ph : Phase) → IsPhaseAt born st ph → ending_of st ≡ None → ⊥
stops born (stage.Answered a) ph h e = h
stops born (stage.Closed (close.Done v)) ph h e = absurd (cc)
stops born st ph h e = absurd (cc)

module _ {B : Type 0} (program : Program B) (N : ℕ) where
  module _ (records : List (Option (Rec B))) (born : List Reference) where
    abbrev IsOf : ℕ → Point B → Type 0
    IsOf c p = TellsHistory born records c p

    -- the record in a slot, with the history that it tells
    pub record Told (c : ℕ) (r : Rec B) : Type 0 where
      pub p : Point B
      pub meant : IsIn p (meaning program N)
      pub is_of : IsOf c p
      pub below : IsRecordBelow (length (names born)) r
      pub tells : told_by (names born) r ≡ stopped_of p

    -- this is told of the histories that the first c slots tell
    pub record ToldBelow (c : ℕ) (ss : List Stopped) : Type 0 where
      pub ps : List (Point B)
      pub told : AreTold ps ss
      pub distinct : AreDistinct (map (λ (p : Point B). p.name) ps)
      pub only : (p : Point B) → IsIn p ps → IsIn p (meaning program N) × ((d : ℕ) × (d < c) × IsOf d p)
      pub all : (p : Point B) (d : ℕ) → IsIn p (meaning program N) → d < c → IsOf d p → IsIn p ps

    pub told_none : ToldBelow 0 []
    told_none = record {
      ps = [];
      told = refl;
      distinct = tt;
      only = λ p i. absurd i;
      all = λ p d i l h. absurd (omega arith);
    }

  module _ (shown : List RestCell) (records : List (Option (Rec B))) (born : List Reference)
      (w : AreWordsOf program N born shown) (rs : AreRecordsOf program N born records) where
    abbrev Of : ℕ → Point B → Type 0
    Of c p = IsOf records born c p

    pub told_at : (c : ℕ) (r : Rec B) → get_or records c None ≡ Some r → Told records born c r
    told_at c r e =
        let lies = elem_of_get records c r e in
        let x = rs.tasks c r lies in
        let shows = w.histories x.0 x.1 in
        let same : x.2.r ≡ r = some_is x.2.r r (some-injective (Some x.2.r) (Some r) (sym x.2.lies ∙ lies)) in
        let told = record_told born x.0 (stops born x.0.stage shows.1.x.phase shows.1.phase_is) x.2.r x.2.tells
        x.2.tells_stage (meant_holds program N x.0 x.1) in
        record {
          p = x.0;
          meant = x.1;
          is_of = x.2;
          below = subst (IsRecordBelow (length (names born))) same told.0;
          tells = subst (λ z. told_by (names born) z ≡ stopped_of x.0) same told.1;
        }

    same_cell : (c d : ℕ) (p q : Point B) → Of c p → Of d q → p.name ≡ q.name → c ≡ d
    same_cell c d p q h k e =
        cells_apart born w.once c d (to_task p.name) (to_task q.name)
        (subst (λ n. IsCell born n (to_task p.name)) h.own h.tells.of)
        (subst (λ n. IsCell born n (to_task q.name)) k.own k.tells.of) e

    pub same_point : (c : ℕ) (p q : Point B) → IsIn p (meaning program N) → IsIn q (meaning program N) → Of c p
        → Of c q → p ≡ q
    same_point c p q i j h k =
        one_of_key (λ (x : Point B). x.name) (meaning program N) (meaning_distinct program N) p q i j
        (ap name_of (some-injective (to_task p.name) (to_task q.name)
        (sym (subst (λ n. IsCell born n (to_task p.name)) h.own h.tells.of)
        ∙ subst (λ n. IsCell born n (to_task q.name)) k.own k.tells.of)))

    -- a slot without a record tells nothing more
    pub told_on : (c : ℕ) (ss : List Stopped) → get_or records c None ≡ None → ToldBelow records born c ss
        → ToldBelow records born (c + 1) ss
    told_on c ss e t = record {
      ps = t.ps;
      told = t.told;
      distinct = t.distinct;
      only = λ p i. let h = t.only p i in (h.0, (h.1.0, let l = h.1.1 in omega arith, h.1.2));
      all = λ p d i l h. by p d i h (split d c l);
    }
      where
        by : (p : Point B) (d : ℕ) → IsIn p (meaning program N) → Of d p → (d < c) ⊎ (d ≡ c) → IsIn p t.ps
        by p d i h (inl l) = t.all p d i l h
        by p d i h (inr q) =
            let there = get_of_elem records d h.r h.lies in
            let z : None ≡ Some h.r = sym e ∙ ap (λ n. get_or records n None) (sym q) ∙ there in absurd (cc)

    -- a record tells one history more
    pub told_next : (c : ℕ) (ss us : List Stopped) (r : Rec B) (s : Stopped) → get_or records c None ≡ Some r
        → told_by (names born) r ≡ Some s → us ≡ ss ++ s ∷ [] → ToldBelow records born c ss
        → ToldBelow records born (c + 1) us
    told_next c ss us r s e k more t = let x = told_at c r e in record {
      ps = t.ps ++ x.p ∷ [];
      told = subst (AreTold (t.ps ++ x.p ∷ [])) (sym more) (told_more t.ps ss x.p s t.told (sym x.tells ∙ k));
      distinct = distinct_more (λ (p : Point B). p.name) t.ps x.p t.distinct (λ i.
          let y = in_map (λ (p : Point B). p.name) x.p.name t.ps i in
          let h = t.only y.0 y.1 in
          let same = same_cell c h.1.0 x.p y.0 x.is_of h.1.2 y.2 in
          let l = h.1.1 in omega arith);
      only = λ p i. only x.p x.meant x.is_of p (in_either p t.ps (x.p ∷ []) i);
      all = λ p d i l h. all x.p x.meant x.is_of p d i h (split d c l);
    }
      where
        only : (q : Point B) → IsIn q (meaning program N) → Of c q → (p : Point B) → IsIn p t.ps ⊎ IsIn p (q ∷ [])
            → IsIn p (meaning program N) × ((d : ℕ) × (d < c + 1) × Of d p)
        only q m o p (inl i) = let h = t.only p i in (h.0, (h.1.0, let l = h.1.1 in omega arith, h.1.2))
        only q m o p (inr (inl i)) =
            (subst (λ z. IsIn z (meaning program N)) (sym i) m, (c, omega arith, subst (Of c) (sym i) o))
        only q m o p (inr (inr i)) = absurd i

        all : (q : Point B) → IsIn q (meaning program N) → Of c q → (p : Point B) (d : ℕ)
            → IsIn p (meaning program N) → Of d p → (d < c) ⊎ (d ≡ c) → IsIn p (t.ps ++ q ∷ [])
        all q m o p d i h (inl l) = in_left p t.ps (q ∷ []) (t.all p d i l h)
        all q m o p d i h (inr n) = in_right p t.ps (q ∷ [])
            (inl (same_point c p q i m (subst (λ z. Of z p) n h) o))

    -- all slots tell all histories
    pub told_all : (c : ℕ) (ss : List Stopped) → length shown ≤ c → ToldBelow records born c ss
        → AreToldInSomeOrder (meaning program N) ss
    told_all c ss whole t = (
      t.ps,
      same_permuted (λ (p : Point B). p.name) (meaning program N) t.ps (meaning_distinct program N) t.distinct
          (λ p i. let h = rs.histories p i in
          let l = within born h.0 (to_task p.name) (subst (λ n. IsCell born n (to_task p.name)) h.1.own h.1.tells.of) in
          let n = w.named.all in
          t.all p h.0 i (omega arith) h.1)
          (λ p i. (t.only p i).0),
      t.told,
    )
