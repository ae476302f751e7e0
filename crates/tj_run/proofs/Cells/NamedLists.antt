-- Lists of owned cells by number and by name: whether a cell is one of them, what is left without it, and what is left
-- when promises are handed.
use Rattle.tj_run.proofs.Prelude.{All, AreApart, AreCells, ArePairs, Bool, CellId, Err, HasName, IsCell, IsIn, List}
use Rattle.tj_run.proofs.Prelude.{Name, Ok, Reference, Sort, [], ap, cond, inl, inr, map, numbers, reference_of, refl}
use Rattle.tj_run.proofs.Prelude.{some-injective, some-ne-none, suc, sym, true, without, zero, ℕ, ◌∙◌, ◌∷◌, ◌≡◌, ◌≢◌}
use Rattle.std.proofs.Common.{false, nat_eq, ◌||◌, drop, Result, subst, eq-eqb, ne_eqb, eqb-true}
use mathlib.Core.Logic.{dite}
use native.Mathlib.Decide.{ℕ_discrete}
use Rattle.tj_body.specs.NameLaws.{AreTold, Unhanded, hand_cell, hand_cells, has_cell, without_cell}
use Rattle.tj_base.specs.declared.cell.Sort.TheVariants as sort

-- the name of a cell
abbrev pub name_in : List Reference → ℕ → Name
name_in born c = (reference_of born c).name

-- each number is that of a cell
abbrev pub HaveCells : List Reference → List ℕ → Type 0
HaveCells born = All (λ c. (x : Reference) × IsCell born c x)

-- what the list of all cells has at an index
pub cell_reference : (born : List Reference) (c : ℕ) (x : Reference) → IsCell born c x → reference_of born c ≡ x
cell_reference [] zero x h = absurd (some-ne-none x (sym h))
cell_reference [] (suc c) x h = absurd (some-ne-none x (sym h))
cell_reference (y ∷ born) zero x h = some-injective y x h
cell_reference (y ∷ born) (suc c) x h = cell_reference born c x h

pub name_is : (born : List Reference) (c : ℕ) (x : Reference) → IsCell born c x → name_in born c ≡ x.name
name_is born c x h = ap (λ (r : Reference). r.name) (cell_reference born c x h)

-- names that stand beside cells are theirs
pub names_are : (born : List Reference) (cs : List CellId) (qs : List Name) → ArePairs (HasName born) cs qs
    → qs ≡ map (name_in born) (numbers cs)
names_are born [] [] h = refl
names_are born [] (q ∷ qs) h = absurd h
names_are born (c ∷ cs) [] h = absurd h
names_are born (c ∷ cs) (q ∷ qs) h =
    let a : q ≡ name_in born c.0 = sym h.0.2 ∙ sym (name_is born c.0 h.0.0 h.0.1) in
    let b = names_are born cs qs h.1 in
    λ i. a i ∷ b i

-- and cells stand beside their names
pub names_beside : (born : List Reference) (cs : List CellId) → HaveCells born (numbers cs)
    → ArePairs (HasName born) cs (map (name_in born) (numbers cs))
names_beside born [] h = tt
names_beside born (c ∷ cs) h = let w = h c.0 (inl refl) in
    ((w.0, w.1, sym (name_is born c.0 w.0 w.1)), names_beside born cs (λ d i. h d (inr i)))

-- what stands beside a name is a cell
pub pairs_there : (born : List Reference) (cs : List CellId) (qs : List Name) → ArePairs (HasName born) cs qs
    → HaveCells born (numbers cs)
pairs_there born [] qs h d i = absurd i
pairs_there born (c ∷ cs) [] h d i = absurd h
pairs_there born (c ∷ cs) (q ∷ qs) h d (inl e) = (h.0.0, subst (λ z. IsCell born z h.0.0) (sym e) h.0.1)
pairs_there born (c ∷ cs) (q ∷ qs) h d (inr i) = pairs_there born cs qs h.1 d i

-- cells are told apart by their names
pub are_told : (cells : ℕ) (born : List Reference) (l : List ℕ) → AreCells cells born → HaveCells born l
    → AreTold (name_in born) l
are_told cells born l all h c d i j e = let x = h c i in let y = h d j in
    all.apart c d x.0 y.0 x.1 y.1 (sym (name_is born c x.0 x.1) ∙ (e ∙ name_is born d y.0 y.1))

-- what is left was there
pub in_without_cell : (p x : ℕ) (l : List ℕ) → IsIn x (without_cell p l) → IsIn x l
in_without_cell p x [] i = i
in_without_cell p x (y ∷ l) i = by (nat_eq p y) (in_without_cell p x l) i where
  by : (b : Bool) → (IsIn x (without_cell p l) → IsIn x l) → IsIn x (cond b l (y ∷ without_cell p l))
      → IsIn x (y ∷ l)
  by true rec j = inr j
  by false rec (inl e) = inl e
  by false rec (inr j) = inr (rec j)

-- another one is left
pub still_in : (p x : ℕ) (l : List ℕ) → x ≢ p → IsIn x l → IsIn x (without_cell p l)
still_in p x [] n i = i
still_in p x (y ∷ l) n (inl e) = subst (λ b. IsIn x (cond b l (y ∷ without_cell p l)))
    (sym (ne_eqb p y (λ q. n (e ∙ sym q)))) (inl e)
still_in p x (y ∷ l) n (inr i) = by (nat_eq p y) (still_in p x l n i) where
  by : (b : Bool) → IsIn x (without_cell p l) → IsIn x (cond b l (y ∷ without_cell p l))
  by true rec = i
  by false rec = inr rec

-- no number stands twice in what is left
pub apart_without : (p : ℕ) (l : List ℕ) → AreApart l → AreApart (without_cell p l)
apart_without p [] a = tt
apart_without p (y ∷ l) a = by (nat_eq p y) (apart_without p l a.1) where
  by : (b : Bool) → AreApart (without_cell p l) → AreApart (cond b l (y ∷ without_cell p l))
  by true rec = a.1
  by false rec = ((λ i. a.0 (in_without_cell p y l i)), rec)

-- what isn't there is left out of nothing
without_none : (p : ℕ) (l : List ℕ) → ¬ IsIn p l → without p l ≡ l
without_none p [] n = refl
without_none p (x ∷ l) n =
    ap (λ b. cond b (without p l) (x ∷ without p l)) (ne_eqb x p (λ e. n (inl (sym e))))
    ∙ ap (λ z. x ∷ z) (without_none p l (λ i. n (inr i)))

-- where no number stands twice, to leave out the first is to leave out all
pub without_one : (p : ℕ) (l : List ℕ) → AreApart l → without p l ≡ without_cell p l
without_one p [] a = refl
without_one p (x ∷ l) a = dite (ℕ_discrete x p)
    (λ e. ap (λ b. cond b (without p l) (x ∷ without p l)) (eq-eqb x p e)
    ∙ (without_none p l (λ i. a.0 (subst (λ z. IsIn z l) (sym e) i))
    ∙ sym (ap (λ b. cond b l (x ∷ without_cell p l)) (eq-eqb p x (sym e)))))
    (λ n. ap (λ b. cond b (without p l) (x ∷ without p l)) (ne_eqb x p n)
    ∙ (ap (λ z. x ∷ z) (without_one p l a.1)
    ∙ sym (ap (λ b. cond b l (x ∷ without_cell p l)) (ne_eqb p x (λ e. n (sym e))))))

-- a list that has a number has it
pub has_in : (p : ℕ) (l : List ℕ) → has_cell p l ≡ true → IsIn p l
has_in p [] e = absurd (apart e)
  where
    apart : false ≡ true → ⊥
    apart = λ z. cc
has_in p (x ∷ l) e = by (nat_eq p x) refl (has_in p l) e
  where
    by : (b : Bool) → nat_eq p x ≡ b → (has_cell p l ≡ true → IsIn p l) → (b || has_cell p l) ≡ true → IsIn p (x ∷ l)
    by true q rec f = inl (eqb-true p x q)
    by false q rec f = inr (rec f)

-- a number in front that is another one
pub has_behind : (p t : ℕ) (l : List ℕ) → p ≢ t → has_cell p (t ∷ l) ≡ has_cell p l
has_behind p t l n = ap (λ b. b || has_cell p l) (ne_eqb p t n)

pub without_behind : (p t : ℕ) (l : List ℕ) → p ≢ t → without_cell p (t ∷ l) ≡ t ∷ without_cell p l
without_behind p t l n = ap (λ b. cond b l (t ∷ without_cell p l)) (ne_eqb p t n)

-- what is left, with a number in front
abbrev pub behind : ℕ → Result (List ℕ) Unhanded → Result (List ℕ) Unhanded
behind t (Ok l) = Ok (t ∷ l)
behind t (Err why) = Err why

-- promises that are others than t are handed from behind it
pub hand_behind : (t : ℕ) (l : List ℕ) (hs : List (Sort × ℕ))
    → ((h : Sort × ℕ) → IsIn h hs → h.0 ≡ sort.Promise → h.1 ≢ t)
    → hand_cells (t ∷ l) hs ≡ behind t (hand_cells l hs)
hand_behind t l [] n = refl
hand_behind t l (h ∷ hs) n = by h.0 refl (hand_behind t (without_cell h.1 l) hs (λ g i. n g (inr i)))
  where
    rest : (h.0 ≡ sort.Promise) → hand_cells (t ∷ without_cell h.1 l) hs ≡ behind t (hand_cells (without_cell h.1 l) hs)
        → hand_cells (without_cell h.1 (t ∷ l)) hs ≡ behind t (hand_cells (without_cell h.1 l) hs)
    rest e rec = ap (λ z. hand_cells z hs) (without_behind h.1 t l (n h (inl refl) e)) ∙ rec

    owned : (b : Bool) → hand_cell sort.Promise b h.1 (behind t (hand_cells (without_cell h.1 l) hs))
        ≡ behind t (hand_cell sort.Promise b h.1 (hand_cells (without_cell h.1 l) hs))
    owned true = refl
    owned false = refl

    by : (s : Sort) → h.0 ≡ s
        → hand_cells (t ∷ without_cell h.1 l) hs ≡ behind t (hand_cells (without_cell h.1 l) hs)
        → hand_cell s (has_cell h.1 (t ∷ l)) h.1 (hand_cells (without_cell h.1 (t ∷ l)) hs)
        ≡ behind t (hand_cell s (has_cell h.1 l) h.1 (hand_cells (without_cell h.1 l) hs))
    by sort.Task e rec = refl
    by sort.Promise e rec =
        ap (λ b. hand_cell sort.Promise b h.1 (hand_cells (without_cell h.1 (t ∷ l)) hs))
        (has_behind h.1 t l (n h (inl refl) e))
        ∙ (ap (λ z. hand_cell sort.Promise (has_cell h.1 l) h.1 z) (rest e rec) ∙ owned (has_cell h.1 l))

-- the result stands first among the cells that a task owns, and the others stand beside what it holds
module _ (cells : ℕ) (born : List Reference) (all : AreCells cells born) (t : ℕ) (x : Reference) (is : IsCell born t x)
  where
    first_is : (cs : List CellId) (holds : List Name) → ArePairs (HasName born) cs (x.name ∷ holds)
        → (numbers cs ≡ t ∷ numbers (drop 1 cs)) × ArePairs (HasName born) (drop 1 cs) holds
    first_is [] holds h = absurd h
    first_is (c ∷ cs) holds h = (
      ap (λ n. n ∷ numbers cs) (all.apart c.0 t h.0.0 x h.0.1 is h.0.2),
      h.1,
    )

    pub first_owned : (cs : List CellId) (holds : List Name) → ArePairs (HasName born) cs (x.name ∷ holds)
        → numbers cs ≡ t ∷ numbers (drop 1 cs)
    first_owned cs holds h = (first_is cs holds h).0

    pub others_owned : (cs : List CellId) (holds : List Name) → ArePairs (HasName born) cs (x.name ∷ holds)
        → ArePairs (HasName born) (drop 1 cs) holds
    others_owned cs holds h = (first_is cs holds h).1

    -- cells that are t and these stand beside its name and theirs
    pub beside_first : (cs : List CellId) (ns : List ℕ) → numbers cs ≡ t ∷ ns → HaveCells born ns
        → ArePairs (HasName born) cs (x.name ∷ map (name_in born) ns)
    beside_first cs ns e h = subst (ArePairs (HasName born) cs)
        (ap (λ l. map (name_in born) l) e ∙ ap (λ q. q ∷ map (name_in born) ns) (name_is born t x is))
        (names_beside born cs (λ c i. there c (subst (IsIn c) e i)))
      where
        there : (c : ℕ) → IsIn c (t ∷ ns) → (y : Reference) × IsCell born c y
        there c (inl q) = (x, subst (λ z. IsCell born z x) (sym q) is)
        there c (inr i) = h c i
