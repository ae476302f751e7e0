-- Numbers of statements, read by a table of sizes.
use Rattle.std.proofs.Common.{◌≡◌, ℕ, zero, suc, ◌+◌, ◌<◌, ◌≤◌, ◌-◌, List, [], ◌∷◌, ◌++◌, length, map, refl, ap, sym, ◌∙◌, arith}
use Rattle.std.proofs.Common.{append_assoc, get_or, subst}
use Rattle.std.proofs.lemmas.List.{length-append, length-map, append-nil}
use Rattle.std.specs.Prelude.{Some, None, slice_get, slice_set}
use Rattle.tj_syntax.specs.Trees as tree
use Rattle.tj_syntax.specs.Trees.{Expression, Statement, Statements, Otherwise}
use Rattle.tj_eval.specs.Statements.{listed}
use Rattle.tj_eval.specs.Sizes.{size_of, within_first}
use Rattle.tj_eval.specs.Stands.{IsAt, AreNamed, inside, within, within_other, numbers, stand_on}
use Rattle.tj_eval.specs.Bodies.{rest_of}
use Rattle.tj_eval.specs.Inner.Standing.{whole_of, whole_at, run_numbers, first_numbers, block_numbers, around_numbers}
use Rattle.tj_eval.specs.Inner.Standing.{ahead_of, stands, HasNext, IsBlockAt, IsNumbered}
use Rattle.tj_eval.specs.declared.numbers.Numbers.{Numbers}
use Rattle.tj_eval.specs.declared.numbers.Run.{Run}
use Rattle.tj_eval.proofs.Blocks.{rest_of-push}
use Rattle.tj_eval.specs.declared.sizes.Size.{Size}

-- a statement is the first of those inside it
pub inside_more : (s : Statement) → (more : List Statement) × (inside s ≡ s ∷ more)
inside_more (tree.choose e body other) = (_, refl)
inside_more (tree.repeat e body) = (_, refl)
inside_more s = ([], refl)

behind_front : {A B : Type 0} (f : A → B) (front : List A) (x : A) (rest : List A)
    → slice_get (map f (front ++ x ∷ rest)) (length front) ≡ Some (f x)
behind_front f [] x rest = refl
behind_front f (y ∷ front) x rest = behind_front f front x rest

-- A statement has this number.
module _ (all : List Statement) (n : ℕ) (s : Statement) (at : IsAt all n s) where
  -- its size stands in the table
  pub size_there : slice_get (map size_of all) n ≡ Some (size_of s)
  size_there = let i = inside_more s in
      ap (λ k. slice_get (map size_of all) k) (sym at.count)
      ∙ ap (λ z. slice_get (map size_of z) (length at.front)) (at.split
      ∙ ap (λ z. at.front ++ (z ++ at.behind)) i.1)
      ∙ behind_front size_of at.front s (i.0 ++ at.behind)

  -- it and those within it stand there
  pub all_there : n + length (inside s) ≤ length all
  all_there = let e = ap length at.split in let f = length-append at.front (inside s ++ at.behind) in
      let g = length-append (inside s) at.behind in let c = at.count in omega (arith, e, f, g, c)

  pub it_is_there : n < length all
  it_is_there = let i = inside_more s in let k = ap length i.1 in let a = all_there in omega (arith, k, a)

-- a run by its first number
run_first : (own : List Size) (n k : ℕ) → run_numbers own n k ≡ n ∷ first_numbers own (n + whole_at own n) k
run_first own n zero = refl
run_first own n (suc k) = refl

-- a block at this number has the numbers that the table gives
pub block_read : (all front behind : List Statement) (b : Statements) (n : ℕ) → all ≡ front ++ (within b ++ behind)
    → length front ≡ n → first_numbers (map size_of all) n (length (listed b)) ≡ numbers n b
block_read all front behind tree.no_more n e l = refl
block_read all front behind (tree.then_do s more) n e l =
    let split = e ∙ ap (λ z. front ++ z) (append_assoc (inside s) (within more) behind) in
    let at : IsAt all n s = record { front = front; behind = within more ++ behind; split = split; count = l } in
    let whole = ap whole_of (size_there all n s at) in
    let m = length-append front (inside s) in
    run_first (map size_of all) n (length (listed more))
    ∙ ap (λ k. n ∷ first_numbers (map size_of all) (n + k) (length (listed more))) whole
    ∙ ap (λ z. n ∷ z) (block_read all (front ++ inside s) behind more (n + length (inside s))
    (split ∙ sym (append_assoc front (inside s) (within more ++ behind))) (omega (arith, l, m)))

-- all statements of a declaration from the first on
pub body_read : (b : Statements) → first_numbers (map size_of (within b)) 0 (length (listed b)) ≡ numbers 0 b
body_read b = block_read (within b) [] [] b 0 (sym (append-nil (within b))) refl

-- a block that is there is read by the table
pub read_there : (own : List Size) (n : ℕ) (b : Statements) → IsBlockAt own n b
    → first_numbers own n (length (listed b)) ≡ numbers n b
read_there own n b h = ap (λ z. first_numbers z n (length (listed b))) h.3
    ∙ block_read h.0 h.1 h.2 b n h.4 h.5

-- The blocks of a statement are there.
module _ (own : List Size) (n : ℕ) (s : Statement) (is : IsNumbered own n s) (b : Statements) where
  pub first_there : (more : List Statement) → inside s ≡ s ∷ (within b ++ more) → IsBlockAt own (n + 1) b
  first_there more e = let at = is.2 in (
    is.0,
    at.front ++ s ∷ [],
    more ++ at.behind,
    is.1,
    at.split ∙ ap (λ w. at.front ++ (w ++ at.behind)) e
        ∙ ap (λ w. at.front ++ (s ∷ w)) (append_assoc (within b) more at.behind)
        ∙ sym (append_assoc at.front (s ∷ []) (within b ++ (more ++ at.behind))),
    (let l = at.count in let m = length-append at.front (s ∷ []) in omega (arith, l, m)),
  )

  pub other_there : (c : Statements) (k : ℕ) → k ≡ length (within b) → inside s ≡ s ∷ (within b ++ within c)
      → IsBlockAt own (n + 1 + k) c
  other_there c k g e = let at = is.2 in (
    is.0,
    (at.front ++ s ∷ []) ++ within b,
    at.behind,
    is.1,
    at.split ∙ ap (λ w. at.front ++ (w ++ at.behind)) e
        ∙ ap (λ w. at.front ++ (s ∷ w)) (append_assoc (within b) (within c) at.behind)
        ∙ sym (append_assoc at.front (s ∷ []) (within b ++ (within c ++ at.behind)))
        ∙ sym (append_assoc (at.front ++ s ∷ []) (within b) (within c ++ at.behind)),
    (let l = at.count in let m = length-append at.front (s ∷ []) in
        let j = length-append (at.front ++ s ∷ []) (within b) in omega (arith, l, m, j, g)),
  )

module _ (all : List Statement) where
  -- where a statement remains, its number comes next
  pub has_next : (ahead : List ℕ) (s : Statement) (rest : List Statement) → AreNamed all ahead (s ∷ rest)
      → HasNext (map size_of all) ahead
  has_next [] s rest h = absurd h
  has_next (n ∷ more) s rest h = let whole = ap whole_of (size_there all n s h.0) in
      let m = length-map all size_of in let a = all_there all n s h.0 in let b = it_is_there all n s h.0 in (
        n,
        more,
        refl,
        omega (arith, b, m),
        omega (arith, a, m, whole),
      )

-- an element by its index
at_index : {A : Type 0} (xs : List A) (n : ℕ) (d : A) → n < length xs → slice_get xs n ≡ Some (get_or xs n d)
at_index [] n d l = absurd (omega arith)
at_index (y ∷ xs) zero d l = refl
at_index (y ∷ xs) (suc n) d l = at_index xs n d (omega arith)

some_is : {A : Type 0} (x y : A) → Some x ≡ Some y → x ≡ y
some_is x y e = ap (λ o. elim o [ Some z ↦ z | None ↦ x ]) e

-- the first block is less than the statement
pub first_less : (s : Statement) → length (within_first s) < length (inside s)
first_less (tree.choose e b other) = let l = length-append (within b) (within_other other) in omega (arith, l)
first_less s = omega arith

-- A statement is numbered by a table.
module _ (own : List Size) (n : ℕ) (s : Statement) (is : IsNumbered own n s) where
  pub numbered_there : n < length own
  numbered_there = let a = it_is_there is.0 n s is.2 in let m = length-map is.0 size_of in let e = ap length is.1 in
      omega (arith, a, m, e)

  pub numbered_size : slice_get own n ≡ Some (size_of s)
  numbered_size = ap (λ z. slice_get z n) is.1 ∙ size_there is.0 n s is.2

  -- the size that is read there
  pub read_is : (x : Size) → slice_get own n ≡ Some x → x ≡ size_of s
  read_is x e = some_is x (size_of s) (sym e ∙ numbered_size)

  module _ (d : Size) where
    pub read_size : slice_get own n ≡ Some (get_or own n d)
    read_size = at_index own n d numbered_there

    pub read_first : (get_or own n d).first < (get_or own n d).whole
    read_first = let l = first_less s in let i = read_is (get_or own n d) read_size in
        let w = ap (λ z. z.whole) i in let f = ap (λ z. z.first) i in omega (arith, l, w, f)

    pub read_room : n + (get_or own n d).whole ≤ length own
    read_room = let a = all_there is.0 n s is.2 in let m = length-map is.0 size_of in let l = ap length is.1 in
        let w = ap (λ z. z.whole) (read_is (get_or own n d) read_size) in omega (arith, a, m, l, w)

-- The run that comes first is of the block that is open, or of the one around it.
module _ (own : List Size) (w : Numbers) (e : w.block ≡ None) where
  pub first_none : w.around.items ≡ [] → ahead_of own w ≡ length own ∷ []
  first_none f = ap (λ b. block_numbers own b ++ around_numbers own w.around.items) e ∙ ap (around_numbers own) f

  pub first_around : (new : List Run) (run : Run) → w.around.items ≡ new ++ run ∷ []
      → ahead_of own w ≡ run_numbers own run.next run.more ++ around_numbers own new
  first_around new run f = let now = λ (r : Run). run_numbers own r.next r.more in
      ap (λ b. block_numbers own b ++ around_numbers own w.around.items) e ∙ ap (around_numbers own) f
      ∙ ap (λ z. z ++ length own ∷ []) (rest_of-push now new run)
      ∙ append_assoc (now run) (rest_of (map now new)) (length own ∷ [])

-- The next statement is stood at.
module _ (own : List Size) (w : Numbers) (h : HasNext own (ahead_of own w)) where
  pub is_not_over : ahead_of own w ≡ length own ∷ [] → ⊥
  is_not_over e = let n = ap (λ l. get_or l 0 0) (sym h.2 ∙ e) in let l = h.3 in absurd (omega (arith, n, l))

  module _ (run : Run) (rest : List ℕ) (e : ahead_of own w ≡ run_numbers own run.next run.more ++ rest) where
    pub step_fits : run.next + whole_at own run.next ≤ length own
    step_fits = let n = ap (λ l. get_or l 0 0) (sym h.2 ∙ e ∙ ap (λ z. z ++ rest) (run_first own run.next run.more)) in
        subst (λ k. k + whole_at own k ≤ length own) n h.4

    pub stepped : (new : Numbers) → run_numbers own run.next run.more ≡ run.next ∷ block_numbers own new.block
        → rest ≡ around_numbers own new.around.items → new.at ≡ run.next → new.called ≡ 0
        → (decl : ℕ) → stands own decl new ≡ stand_on (ahead_of own w) (stands own decl w)
    stepped new f g a c decl = ap (λ k. record (stands own decl new) { at = k }) a
        ∙ ap (λ k. record (stands own decl new) { at = run.next; called = k }) c
        ∙ sym (ap (λ z. stand_on z (stands own decl w)) (e ∙ ap (λ z. z ++ rest) f
        ∙ ap (λ z. run.next ∷ (block_numbers own new.block ++ z)) g))

-- So many statements come first.
module _ (own : List Size) (n count : ℕ) (l : 0 < count) (w new : Numbers) (run : Run) (a : run.next ≡ n)
    (b : run.more ≡ count - 1) (block : new.block ≡ Some run) where
  opened_by : around_numbers own new.around.items ≡ ahead_of own w
      → ahead_of own new ≡ first_numbers own n count ++ ahead_of own w
  opened_by e = let k : suc (count - 1) ≡ count = omega arith in
      ap (λ z. block_numbers own z ++ around_numbers own new.around.items) block
      ∙ ap (λ z. run_numbers own z run.more ++ around_numbers own new.around.items) a
      ∙ ap (λ z. run_numbers own n z ++ around_numbers own new.around.items) b
      ∙ ap (λ z. run_numbers own n (count - 1) ++ z) e
      ∙ ap (λ z. first_numbers own n z ++ ahead_of own w) k

  pub opened_alone : w.block ≡ None → new.around.items ≡ w.around.items
      → ahead_of own new ≡ first_numbers own n count ++ ahead_of own w
  opened_alone e f = opened_by (ap (around_numbers own) f
      ∙ sym (ap (λ z. block_numbers own z ++ around_numbers own w.around.items) e))

  pub opened_around : (outer : Run) → w.block ≡ Some outer → new.around.items ≡ w.around.items ++ outer ∷ []
      → ahead_of own new ≡ first_numbers own n count ++ ahead_of own w
  opened_around outer e f = let now = λ (r : Run). run_numbers own r.next r.more in
      opened_by (ap (around_numbers own) f
      ∙ ap (λ z. z ++ length own ∷ []) (rest_of-push now w.around.items outer)
      ∙ append_assoc (now outer) (rest_of (map now w.around.items)) (length own ∷ [])
      ∙ sym (ap (λ z. block_numbers own z ++ around_numbers own w.around.items) e))

-- Sizes that are counted: a statement was put first, then those of its blocks.
abbrev sized : ℕ → ℕ → Size
sized w f = record { whole = w; first = f }

set_there : (old : List Size) (p size : Size) (parts : List Size)
    → slice_set (old ++ p ∷ parts) (length old) size ≡ old ++ size ∷ parts
set_there [] p size parts = refl
set_there (x ∷ old) p size parts = ap (λ z. x ∷ z) (set_there old p size parts)

map_both : (a b : List Statement) → map size_of (a ++ b) ≡ map size_of a ++ map size_of b
map_both [] b = refl
map_both (x ∷ a) b = ap (λ z. size_of x ∷ z) (map_both a b)

module _ (old pushed one two new : List Size) (n end : ℕ) (s : Statement) (a b : List Statement)
    (count : n ≡ length old) (push : pushed ≡ old ++ sized 1 0 ∷ []) (first : one ≡ pushed ++ map size_of a)
    (ends : end ≡ length one) (last : two ≡ one ++ map size_of b) (e : inside s ≡ s ∷ (a ++ b)) (f : within_first s ≡ a)
    (set : new ≡ slice_set two n (sized (length two - n) (end - (n + 1)))) where
  abbrev parts : List Size
  parts = map size_of (a ++ b)

  is : two ≡ old ++ sized 1 0 ∷ parts
  is = last ∙ ap (λ z. z ++ map size_of b) (first ∙ ap (λ z. z ++ map size_of a) push)
      ∙ append_assoc (old ++ sized 1 0 ∷ []) (map size_of a) (map size_of b)
      ∙ append_assoc old (sized 1 0 ∷ []) (map size_of a ++ map size_of b)
      ∙ ap (λ z. old ++ sized 1 0 ∷ z) (sym (map_both a b))

  -- the statement has its size, and those within it have theirs
  pub closed : new ≡ old ++ map size_of (inside s)
  closed = let k = ap length is in let l = length-append old (sized 1 0 ∷ map size_of (a ++ b)) in
      let m = length-map (a ++ b) size_of in let i = ap length e in let j = ap length f in
      let g = ap length first in let h = length-append pushed (map size_of a) in let o = length-map a size_of in
      let q = ap length push in let r = length-append old (sized 1 0 ∷ []) in
      let whole : length two - n ≡ length (inside s) = omega (arith, k, l, m, i, count) in
      let part : end - (n + 1) ≡ length (within_first s) = omega (arith, j, ends, g, h, o, q, r, count) in
      set ∙ ap (λ z. slice_set two n (sized z (end - (n + 1)))) whole
      ∙ ap (λ z. slice_set two n (sized (length (inside s)) z)) part
      ∙ ap (λ z. slice_set z n (size_of s)) is
      ∙ ap (λ z. slice_set (old ++ sized 1 0 ∷ parts) z (size_of s)) count
      ∙ set_there old (sized 1 0) (size_of s) parts ∙ ap (λ z. old ++ map size_of z) (sym e)

-- What stands inside statements with blocks.
pub inside_if : (x : Expression) (b c : Statements) (s : Statement) → s ≡ tree.choose x b (tree.block c)
    → (inside s ≡ s ∷ (within b ++ within c)) × (within_first s ≡ within b)
inside_if x b c s e = (subst (λ z. inside z ≡ z ∷ (within b ++ within c)) (sym e) refl, ap within_first e)

pub inside_choose : (x : Expression) (b : Statements) (o : Otherwise) (s : Statement) → s ≡ tree.choose x b o
    → inside s ≡ s ∷ (within b ++ within_other o)
inside_choose x b o s e = subst (λ z. inside z ≡ z ∷ (within b ++ within_other o)) (sym e) refl

pub inside_if_alone : (x : Expression) (b : Statements) (s : Statement) → s ≡ tree.choose x b tree.nothing
    → (inside s ≡ s ∷ (within b ++ [])) × (within_first s ≡ within b)
inside_if_alone x b s e = (subst (λ z. inside z ≡ z ∷ (within b ++ [])) (sym e) refl, ap within_first e)

pub inside_while : (x : Expression) (b : Statements) (s : Statement) → s ≡ tree.repeat x b
    → (inside s ≡ s ∷ (within b ++ [])) × (within_first s ≡ within b)
inside_while x b s e = (
  subst (λ z. inside z ≡ z ∷ (within b ++ [])) (sym e)
      (ap (λ z. tree.repeat x b ∷ z) (sym (append-nil (within b)))),
  ap within_first e,
)
