-- The owner of the cell for which a task waits is the task to which it leads, and each has its index.
use Rattle.tj_report.proofs.Prelude.{AreRecordsOf, AreTold, AreWordsOf, IsCell, IsIn, IsShown, Link, List, Name, Point}
use Rattle.tj_report.proofs.Prelude.{Program, Rec, Reference, RestCell, Stopped, TellsHistory, [], ap, get_or, inl, inr}
use Rattle.tj_report.proofs.Prelude.{length, map, meaning, name_by, name_in, names, owned, refl, some_is, stopped_of, ◌++◌}
use Rattle.tj_report.proofs.Prelude.{subst, suc, sym, to_task, told_by, true, zero, ℕ, ◌<◌, ◌∙◌, ◌∷◌, ◌≡◌}
use Rattle.std.proofs.Common.{Bool, false, drop, Option, Some, None, arith}
use Rattle.std.specs.List.{All}
use Rattle.std.specs.Prelude.{◌↔◌, slice_get, IfSome, IsNone, unwrap_or}
use Rattle.tj_base.specs.declared.cell.CellId.{CellId}
use Rattle.tj_body.specs.Names.{has}
use Rattle.tj_body.proofs.Counts.{has_of_times, times_of_in}
use Rattle.tj_mean.specs.Outcomes.{AreApart, Ascend, owned_by}
use Rattle.tj_mean.specs.WaitIndexes.{AreNext, LeadsOn, LeadsTo, Next, link_at, waited}
use Rattle.tj_mean.specs.declared.outcome.Ending.TheVariants as ending
use Rattle.tj_mean.specs.declared.outcome.TaskLine.{TaskLine}
use Rattle.tj_mean.proofs.Lists.Elements.{get_less, in_of_has}
use Rattle.tj_mean.proofs.Outcomes.Indexes.{led, link_is, next_leads}
use Rattle.tj_mean.proofs.Outcomes.LeastCycles.{index_less}
use Rattle.tj_mean.proofs.Outcomes.ToldOutcomes.{told_owned}
use Rattle.tj_words.specs.AtRest.ClosedCells.{Owns}
use Rattle.tj_words.specs.LawParts.Telling.{ArePairs}
use Rattle.tj_words.specs.Words.Lists.{cell}
use Rattle.tj_report.specs.Inner.AwaitedCells.{AreNextBy, AreRanks, IsNextAt, IsOwnOf, awaited_by, awaited_in, rank_by}
use Rattle.tj_report.specs.Inner.RestAlarms.{link_in}
use Rattle.tj_report.proofs.AwaitedCells.{awaited_below, told_line, told_waits_for, told_waits_not}
use Rattle.tj_report.proofs.CellNames.{length_names}
use Rattle.tj_report.proofs.CellIndexes.{cells_apart, get_of_elem, name_there, there}
use Rattle.tj_report.proofs.NamesBy.{names_are}
use Rattle.tj_report.proofs.ToldTasks.{same_point, told_at}

-- what stands at an index of a list
get_at : (order : List ℕ) (p c : ℕ) → slice_get order p ≡ Some c → get_or order p 0 ≡ c
get_at [] p c e = absurd (cc)
get_at (x ∷ xs) zero c e = some_is x c e
get_at (x ∷ xs) (suc p) c e = get_at xs p c e

-- a task with this name has it in the list
has_in : (q : Name) (l : List Name) → IsIn q l → has q l ≡ true
has_in q l i = has_of_times q l (times_of_in q l i)

-- lists that agree with one element more
pub pairs_more : {A C : Type 0} (F : A → C → Type 0) (xs : List A) (ys : List C) (x : A) (y : C) → ArePairs F xs ys
    → F x y
    → ArePairs F (xs ++ x ∷ []) (ys ++ y ∷ [])
pairs_more F [] [] x y h k = (k, tt)
pairs_more F [] (z ∷ ys) x y h k = absurd h
pairs_more F (z ∷ xs) [] x y h k = absurd h
pairs_more F (a ∷ xs) (c ∷ ys) x y h k = (h.0, pairs_more F xs ys x y h.1 k)

-- lists that agree are as long as each other
pub pairs_length : {A C : Type 0} (F : A → C → Type 0) (xs : List A) (ys : List C) → ArePairs F xs ys
    → length ys ≡ length xs
pairs_length F [] [] h = refl
pairs_length F [] (y ∷ ys) h = absurd h
pairs_length F (x ∷ xs) [] h = absurd h
pairs_length F (x ∷ xs) (y ∷ ys) h = ap suc (pairs_length F xs ys h.1)

module _ {B : Type 0} (shown : List RestCell) (records : List (Option (Rec B))) (order : List ℕ)
    (ranks : List (Option ℕ)) (ranked : AreRanks order ranks) where
  ranked_below : (o : Option CellId) (j : ℕ) → rank_by ranks o ≡ Some j → j < length order
  ranked_below None j e = absurd (cc)
  ranked_below (Some c) j e = get_less order j c.0 (ranked.sound c.0 j e)

  below_by : (cs : List ℕ) (ns : List (Option ℕ)) → ArePairs (IsNextAt shown records ranks) cs ns → (i j : ℕ)
      → get_or ns i None ≡ Some j → j < length order
  below_by [] [] h i j e = absurd (cc)
  below_by [] (n ∷ ns) h i j e = absurd h
  below_by (c ∷ cs) [] h i j e = absurd h
  below_by (c ∷ cs) (n ∷ ns) h zero j e = ranked_below h.0.0 j (sym h.0.2 ∙ e)
  below_by (c ∷ cs) (n ∷ ns) h (suc i) j e = below_by cs ns h.1 i j e

  -- each index to which one leads is in the list
  pub next_below : (next : List (Option ℕ)) → AreNextBy shown records ranks order next → (i j : ℕ)
      → Next next i j → j < length next
  next_below next h i j e =
      let long = pairs_length (IsNextAt shown records ranks) order next h in
      let l = below_by order next h i j e in omega arith

  -- and so is each that leads on
  pub on_below : (next : List (Option ℕ)) → AreNextBy shown records ranks order next → (cs : List (List ℕ))
      → All (λ c. All (LeadsOn next) c) cs → All (λ c. All (λ p. p < length order) c) cs
  on_below next h cs a k d l m e q =
      let long = pairs_length (IsNextAt shown records ranks) order next h in
      let j = a k d l m e q in
      let inside = index_less next next (get_or (get_or cs k d) m e) j.0 j.1 in omega arith

module _ {B : Type 0} (program : Program B) (N : ℕ) (shown : List RestCell) (records : List (Option (Rec B)))
    (born : List Reference) (w : AreWordsOf program N born shown) (rs : AreRecordsOf program N born records) where
  abbrev Of : ℕ → Point B → Type 0
  Of c p = TellsHistory born records c p

  -- the task with this cell, the history that its record tells and what is told of it
  abbrev Stands : ℕ → Point B → Stopped → Type 0
  Stands c p s = IsIn p (meaning program N) × Of c p × (stopped_of p ≡ Some s)

  -- what is told of the task of the cell that stands at an index, and back
  at_cell : (cs : List ℕ) (qs : List (Point B)) (us : List Stopped) → ArePairs Of cs qs → AreTold qs us
      → ((p : Point B) → IsIn p qs → IsIn p (meaning program N)) → (i c : ℕ) → slice_get cs i ≡ Some c
      → (p : Point B) × (s : Stopped) × (slice_get us i ≡ Some s) × Stands c p s
  at_cell [] qs us h t o i c e = absurd (cc)
  at_cell (x ∷ cs) [] us h t o i c e = absurd h
  at_cell (x ∷ cs) (q ∷ qs) [] h t o i c e = absurd (cc)
  at_cell (x ∷ cs) (q ∷ qs) (u ∷ us) h t o zero c e = (
    q,
    u,
    refl,
    (o q (inl refl), subst (λ n. Of n q) (some_is x c e) h.0, ap (λ l. get_or l 0 None) t),
  )
  at_cell (x ∷ cs) (q ∷ qs) (u ∷ us) h t o (suc i) c e =
      at_cell cs qs us h.1 (ap (drop 1) t) (λ p k. o p (inr k)) i c e

  at_task : (cs : List ℕ) (qs : List (Point B)) (us : List Stopped) → ArePairs Of cs qs → AreTold qs us
      → ((p : Point B) → IsIn p qs → IsIn p (meaning program N)) → (i : ℕ) (s : Stopped) → slice_get us i ≡ Some s
      → (c : ℕ) × (p : Point B) × (slice_get cs i ≡ Some c) × Stands c p s
  at_task [] [] [] h t o i s e = absurd (cc)
  at_task [] [] (u ∷ us) h t o i s e = absurd (cc)
  at_task [] (q ∷ qs) us h t o i s e = absurd h
  at_task (x ∷ cs) [] us h t o i s e = absurd h
  at_task (x ∷ cs) (q ∷ qs) [] h t o i s e = absurd (cc)
  at_task (x ∷ cs) (q ∷ qs) (u ∷ us) h t o zero s e =
      (x, q, refl, (o q (inl refl), h.0, ap (λ l. get_or l 0 None) t ∙ e))
  at_task (x ∷ cs) (q ∷ qs) (u ∷ us) h t o (suc i) s e =
      at_task cs qs us h.1 (ap (drop 1) t) (λ p k. o p (inr k)) i s e

  -- the words show what the task of a cell owns
  own_of : (v : ℕ) (p : Point B) → IsIn p (meaning program N) → Of v p → (d : CellId) (x : Reference)
      → IsCell born d.0 x → Owns shown v d ↔ IsIn x.name (owned p)
  own_of v p m h d x e =
      let s = w.histories p m in
      let same : s.0 ≡ v = cells_apart born w.once s.0 v (to_task p.name) (to_task p.name) s.1.is
      (subst (λ n. IsCell born n (to_task p.name)) h.own h.tells.of) refl in
      subst (λ n. Owns shown n d ↔ IsIn x.name (owned p)) same (s.1.owns d x e)

  -- what a record tells is what is told of the history
  record_tells : (c : ℕ) (p : Point B) (s : Stopped) → Stands c p s
      → (r : Rec B) × (get_or records c None ≡ Some r) × (told_by (names born) r ≡ Some s) × (r.cell.0 ≡ c)
      × ((d : CellId) → awaited_by r ≡ Some d → d.0 < length (names born))
  record_tells c p s (m, h, e) =
      let lies = get_of_elem records c h.r h.lies in
      let x = told_at program N shown records born w rs c h.r lies in
      let same = same_point program N shown records born w rs c x.p p x.meant m x.is_of h in (
        h.r,
        lies,
        x.tells ∙ ap stopped_of same ∙ e,
        h.own,
        λ d a. awaited_below (length (names born)) h.r.finish h.r.answer h.r.held d x.below.stops a,
      )

  module _ (order : List ℕ) (ps : List (Point B)) (ss : List Stopped) (cells : ArePairs Of order ps)
      (told : AreTold ps ss) (only : (p : Point B) → IsIn p ps → IsIn p (meaning program N)) (apart : AreApart ss)
      (ascend : Ascend (map (λ (s : Stopped). s.line.name) ss)) where
    module _ (ranks : List (Option ℕ)) (ranked : AreRanks order ranks) where
      -- who owns a cell, by the words
      owner_of : (d : CellId) (y : Reference) → IsCell born d.0 y → (x : RestCell) → IsShown shown d.0 x
          → (o : Option CellId) → x.own ≡ o
          → IfSome (rank_by ranks o) (λ p. (u : Stopped) × (slice_get ss p ≡ Some u) × (has y.name (owned_by u) ≡ true))
      owner_of d y k x shows None e = tt
      owner_of d y k x shows (Some v) e = by (get_or ranks v.0 None) refl where
        by : (o : Option ℕ) → get_or ranks v.0 None ≡ o
            → IfSome o (λ p. (u : Stopped) × (slice_get ss p ≡ Some u) × (has y.name (owned_by u) ≡ true))
        by None r = tt
        by (Some p) r =
            let z = at_cell order ps ss cells told only p v.0 (ranked.sound v.0 p r) in
            let own = (own_of v.0 z.0 z.3.0 z.3.1 d y k).0 (x, shows, e) in (
              z.1,
              z.2,
              has_in y.name (owned_by z.1)
                  (subst (IsIn y.name) (sym (told_owned z.0 z.1 z.3.2)) own),
            )

      -- and no one else does
      owned_not : (d : CellId) (y : Reference) → IsCell born d.0 y → (n : Option ℕ) (o : Option CellId)
          → ((x : RestCell) → IsShown shown d.0 x → o ≡ x.own) → n ≡ rank_by ranks o → IsNone n
          → (p : ℕ) (u : Stopped) → slice_get ss p ≡ Some u → has y.name (owned_by u) ≡ false
      owned_not d y k n o own is none p u g = by (has y.name (owned_by u)) refl where
        by : (b : Bool) → has y.name (owned_by u) ≡ b → b ≡ false
        by false h = refl
        by true h =
            let z = at_task order ps ss cells told only p u g in
            let i = subst (IsIn y.name) (told_owned z.1 u z.3.2) (in_of_has y.name (owned_by u) h) in
            let has_own = (own_of z.0 z.1 z.3.0 z.3.1 d y k).1 i in
            let r = ranked.all z.0 p z.2 in
            let some : n ≡ Some r.0 =
            is ∙ ap (rank_by ranks) (own has_own.0 has_own.1 ∙ has_own.2) ∙ r.1 in
            let z = subst IsNone some none in absurd (cc)

      -- a task leads to the owner of the cell for which it waits
      leads_at : (c : ℕ) (p : Point B) (s : Stopped) (n : Option ℕ) → Stands c p s
          → IsNextAt shown records ranks c n → (j : ℕ) → (n ≡ Some j) ↔ LeadsTo ss s j
      leads_at c p s n h (o, own, is) =
          let r = record_tells c p s h in by r.0 r.2 r.4 (awaited_by r.0) refl (own r.0 r.1)
        where
          by : (r : Rec B) → told_by (names born) r ≡ Some s
              → ((d : CellId) → awaited_by r ≡ Some d → d.0 < length (names born)) → (a : Option CellId)
              → awaited_by r ≡ a → IsOwnOf shown records a o → (j : ℕ) → (n ≡ Some j) ↔ LeadsTo ss s j
          by r t below None e own j = (
            λ f. let z : None ≡ Some j = sym (is ∙ ap (rank_by ranks) own) ∙ f in absurd (cc),
            λ l. absurd (told_waits_not (names born) r s l.0 t e l.2),
          )
          by r t below (Some d) e own j =
              let inside = below d e in
              let many = length_names born in
              let all = w.named.all in
              let y = there born d.0 (omega arith) in
              let x = there shown d.0 (omega arith) in
              let name : name_in (names born) d ≡ y.0.name = (name_there born d.0 y.0 y.1).1 in
              led ss apart ascend s y.0.name n (told_waits_for (names born) r s d t e ∙ ap (λ q. ending.Waits q) name)
              (subst (λ m. IfSome m (λ p. (u : Stopped) × (slice_get ss p ≡ Some u)
              × (has y.0.name (owned_by u) ≡ true))) (sym (is ∙ ap (rank_by ranks) (own x.0 x.1)))
              (owner_of d y.0 y.1 x.0 x.1 x.0.own refl))
              (owned_not d y.0 y.1 n o own is) j

      each_leads : (cs : List ℕ) (qs : List (Point B)) (us : List Stopped) (ns : List (Option ℕ)) → ArePairs Of cs qs
          → AreTold qs us → ((p : Point B) → IsIn p qs → IsIn p (meaning program N))
          → ArePairs (IsNextAt shown records ranks) cs ns → AreNext ss us ns
      each_leads [] [] [] [] h t o n = tt
      each_leads [] [] [] (m ∷ ns) h t o n = absurd n
      each_leads [] [] (u ∷ us) ns h t o n = absurd (cc)
      each_leads [] (q ∷ qs) us ns h t o n = absurd h
      each_leads (c ∷ cs) [] us ns h t o n = absurd h
      each_leads (c ∷ cs) (q ∷ qs) [] ns h t o n = absurd (cc)
      each_leads (c ∷ cs) (q ∷ qs) (u ∷ us) [] h t o n = absurd n
      each_leads (c ∷ cs) (q ∷ qs) (u ∷ us) (m ∷ ns) h t o n = (
        leads_at c q u m (o q (inl refl), h.0, ap (λ l. get_or l 0 None) t) n.0,
        each_leads cs qs us ns h.1 (ap (drop 1) t) (λ p k. o p (inr k)) n.1,
      )

      -- so the list has for each the index of the task to which it leads
      pub next_are : (next : List (Option ℕ)) → AreNextBy shown records ranks order next → AreNext ss ss next
      next_are next n = each_leads order ps ss next cells told only n

    -- the link of a task that leads on, by its record
    pub link_told : (next : List (Option ℕ)) → AreNext ss ss next → (p : ℕ) → LeadsOn next p
        → link_in shown records order p ≡ link_at ss p
    link_told next are p (j, l) =
        let s = next_leads ss apart ascend next are p j l in
        let z = at_task order ps ss cells told only p s.0 s.1 in
        let r = record_tells z.0 z.1 s.0 z.3 in
        let c : get_or order p 0 ≡ z.0 = get_at order p z.0 z.2 in
        let x = told_line (names born) r.0 s.0 r.2 in
        let name : name_by shown (get_or order p 0) ≡ s.0.line.name =
        ap (name_by shown) (c ∙ sym r.3) ∙ ap (λ l. get_or l r.0.cell.0 []) (names_are shown born w.named)
        ∙ ap (λ (l : TaskLine). l.name) (sym x.2) in
        let awaits : awaited_in (get_or records (get_or order p 0) None) ≡ unwrap_or (awaited_by r.0) (cell 0) =
        ap (λ n. awaited_in (get_or records n None)) c ∙ ap awaited_in r.1 in
        let cell_is : name_by shown (awaited_in (get_or records (get_or order p 0) None)).0 ≡ waited s.0.line.ending =
        ap (λ (d : CellId). name_by shown d.0) awaits ∙ by r.0 s.0 s.2.0 r.2 s.2.2 (awaited_by r.0) refl in
        (λ i. record { task = name i; cell = cell_is i }) ∙ sym (link_is ss p s.0 s.1)
      where
        by : (r : Rec B) (s : Stopped) (q : Name) → told_by (names born) r ≡ Some s → s.line.ending ≡ ending.Waits q
            → (a : Option CellId) → awaited_by r ≡ a
            → name_by shown (unwrap_or a (cell 0)).0 ≡ waited s.line.ending
        by r s q t e None a = absurd (told_waits_not (names born) r s q t a e)
        by r s q t e (Some d) a =
            ap (λ l. get_or l d.0 []) (names_are shown born w.named)
            ∙ ap waited (sym (told_waits_for (names born) r s d t a))
