-- The seats of one end, one for each deque.
use Rattle.std.proofs.Common.{ℕ, zero, suc, ◌≡◌, ◌<◌, ◌+◌, ◌∙◌, List, All, [], ◌∷◌, ◌++◌, length, set, get_or, map, take, ap, sym, subst, arith}
use Rattle.std.proofs.lemmas.List.{get_or-map, map-append, length-map, take_more}
use Rattle.std.proofs.lemmas.List.Elements.{All-append, All-cons, All-nil}
use Rattle.std.specs.declared.alloc.Global.{Global}
use Rattle.atomic_blocks.specs.Lent.{RowsId}
use Rattle.crossbeam_deque.specs.Handles.{Pass, IsPassOf}
use Rattle.tj_base.specs.declared.cell.CellId.{CellId}
use Rattle.tj_ready.specs.Seats.{AreSeats}

module _ {X : Type 0} where
  -- what holds of each element, by its number, still does after a change of one of which it holds
  each_set : (P : ℕ → X → Type 0) (xs : List X) (i : ℕ) (y : X) → i < length xs → P i y
      → ((j : ℕ) (e : X) → j < length xs → P j (get_or xs j e)) → (j : ℕ) (e : X) → j < length (set xs i y)
      → P j (get_or (set xs i y) j e)
  each_set P [] i y in' new all j e less = absurd (omega arith)
  each_set P (x ∷ xs) zero y in' new all zero e less = new
  each_set P (x ∷ xs) zero y in' new all (suc j) e less = all (suc j) e less
  each_set P (x ∷ xs) (suc i) y in' new all zero e less = all 0 e (omega arith)
  each_set P (x ∷ xs) (suc i) y in' new all (suc j) e less =
      each_set (λ k. P (suc k)) xs i y (omega arith) new (λ k d l. all (suc k) d (omega arith)) j e (omega arith)

  -- it holds with one element more at the end
  each_more : (P : ℕ → X → Type 0) (xs : List X) (x : X) → P (length xs) x
      → ((j : ℕ) (e : X) → j < length xs → P j (get_or xs j e)) → (j : ℕ) (e : X) → j < length (xs ++ x ∷ [])
      → P j (get_or (xs ++ x ∷ []) j e)
  each_more P [] x new all zero e less = new
  each_more P [] x new all (suc j) e less = absurd (omega arith)
  each_more P (y ∷ ys) x new all zero e less = all 0 e (omega arith)
  each_more P (y ∷ ys) x new all (suc j) e less =
      each_more (λ k. P (suc k)) ys x new (λ k d l. all (suc k) d (omega arith)) j e (omega arith)

module _ {V : Type 0} (deques : List (RowsId × Global)) (seats : List (Pass CellId V Global)) where
  -- a seat of the same deque takes the place of one
  pub seat_set : (i : ℕ) (seat : Pass CellId V Global) → i < length seats
      → ((deque : RowsId × Global) → IsPassOf (get_or deques i deque) seat) → AreSeats deques seats
      → AreSeats deques (set seats i seat)
  seat_set i seat in' new all j deque other less =
      each_set (λ k s. IsPassOf (get_or deques k deque) s) seats i seat in' (new deque)
      (λ k s l. all k deque s l) j other less

  -- one seat more, of the next deque
  pub seat_more : (seat : Pass CellId V Global)
      → ((deque : RowsId × Global) → IsPassOf (get_or deques (length seats) deque) seat) → AreSeats deques seats
      → AreSeats deques (seats ++ seat ∷ [])
  seat_more seat new all j deque other less =
      each_more (λ k s. IsPassOf (get_or deques k deque) s) seats seat (new deque) (λ k s l. all k deque s l)
      j other less

-- what is known of an element of a list, by its number
pub known_at : {X Y : Type 0} (f : X → Y) (xs : List X) (i : ℕ) (x : X) (e : Y) → i < length xs → x ≡ get_or xs i x
    → get_or (map f xs) i e ≡ f x
known_at f xs i x e in' is = get_or-map f xs i x e in' ∙ ap f (sym is)

-- one element more of a list of which the same is known as of another one
pub known_next : {X Y Z : Type 0} (f : X → Z) (h : Y → Z) (xs : List X) (ys : List Y) (i : ℕ) (x : X) (y : Y)
    → i < length ys → y ≡ get_or ys i y → f x ≡ h y → map f xs ≡ take i (map h ys)
    → map f (xs ++ x ∷ []) ≡ take (i + 1) (map h ys)
known_next f h xs ys i x y in' is same so =
    let size = length-map ys h in
    map-append f xs (x ∷ []) ∙ ap (λ zs. zs ++ f x ∷ []) so
    ∙ ap (λ z. take i (map h ys) ++ z ∷ []) (same ∙ sym (known_at h ys i y (h y) in' is))
    ∙ sym (take_more (map h ys) i (h y) (omega arith))

-- what holds of all holds with one more
pub more_all : {X : Type 0} (P : X → Type 0) (xs ys : List X) (x : X) → ys ≡ xs ++ x ∷ [] → P x → All P xs → All P ys
more_all P xs ys x is new all =
    subst (All P) (sym is) (All-append P xs (x ∷ []) all (All-cons P x [] new (All-nil P)))
