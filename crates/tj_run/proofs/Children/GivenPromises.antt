-- Promises go from a task to its child, one after the other: each may be handed, and what the seat has then.
use Rattle.tj_run.proofs.Prelude.{AreApart, Bool, CellId, Custody, Err, Held, IsIn, List, MayAct, MayGiveEach, None, Ok}
use Rattle.tj_run.proofs.Prelude.{Result, Some, Sort, Unhanded, View, [], ap, cell, cond, drop, eq-eqb, false}
use Rattle.tj_run.proofs.Prelude.{gave_each, get_or, hand_cell, hand_cells, has_cell, held_in, inl, inr, let_go_other}
use Rattle.tj_run.proofs.Prelude.{map, nat_eq, no_promise, not_owned, note, noted, numbered, numbers, refl, seen_word}
use Rattle.tj_run.proofs.Prelude.{subst, suc, sym, true, without, without_cell, ℕ, ◌++◌, ◌+◌, ◌<◌, ◌∙◌, ◌∷◌, ◌≡◌, ◌≢◌}
use Rattle.std.proofs.Common.{length, append_assoc, append-nil, ne_eqb}
use Rattle.std.proofs.lemmas.List.{drop_more}
use Rattle.tj_words.specs.Calls.DrawViews.{owns_also}
use Rattle.tj_words.specs.Calls.OwnerViews.{gave_up, handed_promise}
use Rattle.tj_cells.specs.MadeCells.{MayGiveAway}
use Rattle.tj_run.proofs.Cells.NamedLists.{apart_without, has_in, in_without_cell, without_one}
use Rattle.tj_run.proofs.Seats.OneTask.{held_one, let_go_one}
use Rattle.tj_base.specs.declared.cell.Sort.TheVariants as sort
use Rattle.tj_words.specs.declared.offsets.Once.TheVariants as once
use Rattle.tj_words.specs.declared.view.Does.TheVariants as does

-- another one is left
pub still_all : (p x : ℕ) (l : List ℕ) → x ≢ p → IsIn x l → IsIn x (without p l)
still_all p x [] n i = i
still_all p x (y ∷ l) n (inl e) = subst (λ b. IsIn x (cond b (without p l) (y ∷ without p l)))
    (sym (ne_eqb y p (λ q. n (e ∙ q)))) (inl e)
still_all p x (y ∷ l) n (inr i) = by (nat_eq y p) (still_all p x l n i) where
  by : (b : Bool) → IsIn x (without p l) → IsIn x (cond b (without p l) (y ∷ without p l))
  by true rec = rec
  by false rec = inr rec

-- what is left without each of these cells
abbrev pub without_each : List CellId → List ℕ → List ℕ
without_each [] l = l
without_each (p ∷ ps) l = without_each ps (without p.0 l)

-- it was there
pub each_among : (ps : List CellId) (l : List ℕ) (x : ℕ) → AreApart l → IsIn x (without_each ps l) → IsIn x l
each_among [] l x a i = i
each_among (p ∷ ps) l x a i = let e = without_one p.0 l a in
    in_without_cell p.0 x l (subst (IsIn x) e (each_among ps (without p.0 l) x
    (subst AreApart (sym e) (apart_without p.0 l a)) i))

pub each_apart : (ps : List CellId) (l : List ℕ) → AreApart l → AreApart (without_each ps l)
each_apart [] l a = a
each_apart (p ∷ ps) l a = each_apart ps (without p.0 l)
    (subst AreApart (sym (without_one p.0 l a)) (apart_without p.0 l a))

-- the cells are others than t, and each is one of those that are left when it is handed
abbrev pub AreGiven : ℕ → List CellId → List ℕ → Type 0
AreGiven t [] l = Unit {0}
AreGiven t (p ∷ ps) l = (IsIn p.0 l × (p.0 ≢ t)) × AreGiven t ps (without p.0 l)

-- t itself is left
pub each_leaves : (t : ℕ) (ps : List CellId) (l : List ℕ) → AreGiven t ps l → IsIn t l → IsIn t (without_each ps l)
each_leaves t [] l g i = i
each_leaves t (p ∷ ps) l g i = each_leaves t ps (without p.0 l) g.1 (still_all p.0 t l (λ e. g.0.1 (sym e)) i)

-- lists that are left are the same
ok_is : (l cells : List ℕ) → ◌≡◌ {A = Result (List ℕ) Unhanded} (Ok l) (Ok cells) → l ≡ cells
ok_is l cells e = cc

-- an error isn't a list
err_ok : {Z : Type 0} (why : Unhanded) (cells : List ℕ) → Err why ≡ Ok cells → Z
err_ok why cells e = absurd (cc)

-- where the handing is allowed these are given, and they leave what it leaves
pub handed_given : (t : ℕ) (l : List ℕ) (hs : List Held) (cells : List ℕ) → AreApart l
    → ((h : Held) → IsIn h hs → h.sort ≡ sort.Promise → h.cell.0 ≢ t)
    → hand_cells l (map numbered hs) ≡ Ok cells
    → AreGiven t (map (λ (h : Held). h.cell) hs) l × (without_each (map (λ (h : Held). h.cell) hs) l ≡ cells)
handed_given t l [] cells a n e = (tt, ok_is l cells e)
handed_given t l (h ∷ hs) cells a n e = by h.sort (has_cell h.cell.0 l) refl refl
    (handed_given t (without_cell h.cell.0 l) hs cells (apart_without h.cell.0 l a) (λ g i. n g (inr i))) e
  where
    rest : List ℕ
    rest = without_cell h.cell.0 l

    same : without h.cell.0 l ≡ rest
    same = without_one h.cell.0 l a

    by : (s : Sort) (b : Bool) → h.sort ≡ s → has_cell h.cell.0 l ≡ b
        → (hand_cells (without_cell h.cell.0 l) (map numbered hs) ≡ Ok cells → AreGiven t
        (map (λ (g : Held). g.cell) hs)
        (without_cell h.cell.0 l)
        × (without_each (map (λ (g : Held). g.cell) hs) (without_cell h.cell.0 l) ≡ cells))
        → hand_cell s b h.cell.0 (hand_cells (without_cell h.cell.0 l) (map numbered hs)) ≡ Ok cells
        → AreGiven t (map (λ (g : Held). g.cell) (h ∷ hs)) l
        × (without_each (map (λ (g : Held). g.cell) (h ∷ hs)) l ≡ cells)
    by sort.Task b is has rec q = err_ok _ cells q
    by sort.Promise false is has rec q = err_ok _ cells q
    by sort.Promise true is has rec q =
        let r = rec q in (
          (
            (has_in h.cell.0 l has, n h (inl refl) is),
            subst (λ z. AreGiven t (map (λ (g : Held). g.cell) hs) z) (sym same) r.0,
          ),
          ap (λ z. without_each (map (λ (g : Held). g.cell) hs) z) same ∙ r.1,
        )

-- what the handing leaves was there
pub handed_among : (l : List ℕ) (hs : List (Sort × ℕ)) (cells : List ℕ) (x : ℕ) → hand_cells l hs ≡ Ok cells
    → IsIn x cells → IsIn x l
handed_among l [] cells x e i = subst (IsIn x) (sym (ok_is l cells e)) i
handed_among l (h ∷ hs) cells x e i = by h.0 (has_cell h.1 l)
    (λ q. handed_among (without_cell h.1 l) hs cells x q i) e
  where
    by : (s : Sort) (b : Bool) → (hand_cells (without_cell h.1 l) hs ≡ Ok cells → IsIn x (without_cell h.1 l))
        → hand_cell s b h.1 (hand_cells (without_cell h.1 l) hs) ≡ Ok cells
        → IsIn x l
    by sort.Task b rec q = err_ok _ cells q
    by sort.Promise false rec q = err_ok _ cells q
    by sort.Promise true rec q = in_without_cell h.1 x l (rec q)

ok_err : (l : List ℕ) (why : Unhanded) → ◌≡◌ {A = Result (List ℕ) Unhanded} (Ok l) (Err why) → ⊥
ok_err l why e = cc

-- an error is of one kind, and of one cell
none_owned : (c : ℕ) → ◌≡◌ {A = Result (List ℕ) Unhanded} (Err no_promise) (Err (not_owned c)) → ⊥
none_owned c e = cc

one_unowned : (c d : ℕ) → ◌≡◌ {A = Result (List ℕ) Unhanded} (Err (not_owned d)) (Err (not_owned c)) → c ≡ d
one_unowned c d e = cc

-- a cell that isn't owned is one of those handed
pub unowned_handed : (l : List ℕ) (hs : List (Sort × ℕ)) (c : ℕ) → hand_cells l hs ≡ Err (not_owned c)
    → IsIn c (map (λ (h : Sort × ℕ). h.1) hs)
unowned_handed l [] c e = absurd (ok_err l (not_owned c) e)
unowned_handed l (h ∷ hs) c e = by h.0 (has_cell h.1 l) (unowned_handed (without_cell h.1 l) hs c) e
  where
    by : (s : Sort) (b : Bool)
        → (hand_cells (without_cell h.1 l) hs ≡ Err (not_owned c) → IsIn c (map (λ (g : Sort × ℕ). g.1) hs))
        → hand_cell s b h.1 (hand_cells (without_cell h.1 l) hs) ≡ Err (not_owned c)
        → IsIn c (map (λ (g : Sort × ℕ). g.1) (h ∷ hs))
    by sort.Task b rec q = absurd (none_owned c q)
    by sort.Promise false rec q = inl (one_unowned c h.1 q)
    by sort.Promise true rec q = inr (rec q)

module _ {B : Type 0} where
  -- each of two tasks is found
  pub held_second : (t : ℕ) (j k : Custody B) → j.task ≢ t → k.task ≡ t → held_in (j ∷ k ∷ []) t ≡ Some k
  held_second t j k n is =
      ap (λ b. cond b (Some j) (held_in (k ∷ []) t)) (ne_eqb j.task t n) ∙ held_one t k is

  pub held_first : (c : ℕ) (j k : Custody B) → j.task ≡ c → held_in (j ∷ k ∷ []) c ≡ Some j
  held_first c j k is = ap (λ b. cond b (Some j) (held_in (k ∷ []) c)) (eq-eqb j.task c is)

  -- of two tasks the second is noted anew
  pub noted_second : (t : ℕ) (j k : Custody B) (f : Custody B → Custody B) → j.task ≢ t → k.task ≡ t
      → (f k).task ≡ k.task
      → noted t f (j ∷ k ∷ []) ≡ f k ∷ j ∷ []
  noted_second t j k f n is same = ap (λ o. note o f (j ∷ k ∷ [])) (held_second t j k n is)
      ∙ (ap (λ l. f k ∷ l) (let_go_other (f k).task j (k ∷ []) (λ e. n (e ∙ (same ∙ is))))
      ∙ ap (λ l. f k ∷ j ∷ l) (let_go_one (f k).task k (sym same)))

  -- what the child has when it was handed these, and what the maker has
  abbrev pub gained : List CellId → Custody B → Custody B
  gained [] j = j
  gained (p ∷ ps) j = gained ps (owns_also p.0 j)

  abbrev pub lost : List CellId → Custody B → Custody B
  lost [] k = k
  lost (p ∷ ps) k = lost ps (gave_up p.0 k)

  pub gained_is : (ps : List CellId) (j : Custody B) → gained ps j ≡ record j { owned = j.owned ++ numbers ps }
  gained_is [] j = λ i. record j { owned = sym (append-nil j.owned) i }
  gained_is (p ∷ ps) j = gained_is ps (owns_also p.0 j)
      ∙ (λ i. record j { owned = append_assoc j.owned (p.0 ∷ []) (numbers ps) i })

  pub lost_is : (ps : List CellId) (k : Custody B) → k.does ≡ does.Running
      → lost ps k ≡ record k { does = does.Running; owned = without_each ps k.owned }
  lost_is [] k e = λ i. record k { does = e i }
  lost_is (p ∷ ps) k e = lost_is ps (gave_up p.0 k) refl

  module _ (t c : ℕ) (other : t ≢ c) where
    -- the seat has the child, which isn't born yet and owns its result, and its maker, which runs
    pub record IsGiving (j k : Custody B) (v : View B) : Type 0 where
      pub tasks : v.tasks ≡ j ∷ k ∷ []
      pub child : j.task ≡ c
      pub maker : k.task ≡ t
      pub unborn : j.does ≡ does.Unborn
      pub child_out : j.home ≡ None
      pub child_result : IsIn c j.owned
      pub runs : MayAct k.does
      pub out : k.home ≡ None
      pub result : IsIn t k.owned
      pub is_child : IsIn (seen_word c once.Parent (suc t)) v.seen

    module _ (p : ℕ) (j k : Custody B) (v : View B) (g : IsGiving j k v) (owns : IsIn p k.owned) (n : p ≢ t) where
      may_give : MayGiveAway t p c v
      may_give = (
        record {
          task = t;
          owner = record {
            custody = k;
            held = ap (λ l. held_in l t) g.tasks ∙ held_second t j k (λ e. other (sym e ∙ g.child)) g.maker;
            may = g.runs;
            out = g.out;
            result = g.result;
            owns = owns;
          };
          promise = n;
          child = j;
          child_held = ap (λ l. held_in l c) g.tasks ∙ held_first c j k g.child;
          unborn = g.unborn;
          child_out = g.child_out;
          child_result = g.child_result;
          is_child = g.is_child;
        },
        refl,
      )

      tasks_given : (handed_promise t p c v).tasks ≡ owns_also p j ∷ gave_up p k ∷ []
      tasks_given = ap (λ l. noted c (owns_also p) (noted t (gave_up p) l)) g.tasks
          ∙ (ap (λ l. noted c (owns_also p) l)
          (noted_second t j k (gave_up p) (λ e. other (sym e ∙ g.child)) g.maker refl)
          ∙ noted_second c (gave_up p k) j (owns_also p) (λ e. other (sym g.maker ∙ e)) g.child refl)

      still_giving : IsGiving (owns_also p j) (gave_up p k) (handed_promise t p c v)
      still_giving = record {
        tasks = tasks_given;
        child = g.child;
        maker = g.maker;
        unborn = g.unborn;
        child_out = g.child_out;
        child_result = first c j.owned g.child_result;
        runs = tt;
        out = g.out;
        result = still_all p t k.owned (λ e. n (sym e)) g.result;
        is_child = g.is_child;
      }
        where
          first : (x : ℕ) (l : List ℕ) → IsIn x l → IsIn x (l ++ p ∷ [])
          first x [] i = absurd i
          first x (y ∷ l) (inl e) = inl e
          first x (y ∷ l) (inr i) = inr (first x l i)

    -- each of the promises may be handed
    pub may_give_each : (ps : List CellId) (j k : Custody B) (v : View B) → IsGiving j k v → AreGiven t ps k.owned
        → MayGiveEach t ps c v
    may_give_each [] j k v g a = tt
    may_give_each (p ∷ ps) j k v g a = (
      may_give p.0 j k v g a.0.0 a.0.1,
      may_give_each ps (owns_also p.0 j) (gave_up p.0 k) (handed_promise t p.0 c v)
          (still_giving p.0 j k v g a.0.0 a.0.1) a.1,
    )

    -- and the view is this then
    pub gave_is : (ps : List CellId) (j k : Custody B) (v : View B) → IsGiving j k v → AreGiven t ps k.owned
        → gave_each t ps c v
        ≡ record v { steps = (gave_each t ps c v).steps; tasks = gained ps j ∷ lost ps k ∷ [] }
    gave_is [] j k v g a = λ i. record v { tasks = g.tasks i }
    gave_is (p ∷ ps) j k v g a = gave_is ps (owns_also p.0 j) (gave_up p.0 k) (handed_promise t p.0 c v)
        (still_giving p.0 j k v g a.0.0 a.0.1) a.1

  -- the promises from the i-th on are left, and that one is handed
  module _ (t c : ℕ) (ps : List CellId) (i : ℕ) (v : View B) (few : i < length ps) where
    pub next_given : MayGiveEach t (drop i ps) c v
        → MayGiveAway t (get_or ps i (cell 0)).0 c v
        × MayGiveEach t (drop (i + 1) ps) c (handed_promise t (get_or ps i (cell 0)).0 c v)
    next_given may = subst (λ l. MayGiveEach t l c v) (drop_more ps i (cell 0) few) may

    pub gave_on : (w : View B) → w ≡ handed_promise t (get_or ps i (cell 0)).0 c v
        → gave_each t (drop i ps) c v ≡ gave_each t (drop (i + 1) ps) c w
    gave_on w e = ap (λ l. gave_each t l c v) (drop_more ps i (cell 0) few)
        ∙ ap (λ (z : View B). gave_each t (drop (i + 1) ps) c z) (sym e)
