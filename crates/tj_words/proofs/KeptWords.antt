-- The words that stand in the program, as one list.
use Rattle.tj_words.proofs.Prelude.{List, [], ap, arith, first_words, replicate, suc, sym, zero, ℕ, ◌++◌, ◌-◌}
use Rattle.tj_words.proofs.Prelude.{◌∙◌, ◌∷◌, ◌≡◌, ◌≤◌}
use Rattle.std.proofs.Common.{set, take, ◌+◌, ◌*◌}
use Rattle.std.specs.List.{flat_map}
use Rattle.std.proofs.lemmas.List.{replicate-append-replicate, take-replicate}
use Rattle.tj_words.specs.declared.first_rows.TheConstants.{KEPT, KEPT_CELLS, ROOT_ROW, ROW}
use Rattle.tj_words.specs.Words.Offsets.{words_for}

-- the words of the table, and those of the root up to its jump
abbrev front : List ℕ
front = 1 ∷ 1 ∷ 0 ∷ 0 ∷ 1 ∷ 1 ∷ 0 ∷ 0 ∷ 0 ∷ 0 ∷ 0 ∷ 1 ∷ []

-- equal rows of one value are that value alone
flat_replicate : (n m x : ℕ) → flat_map (λ row. row) (replicate n (replicate m x)) ≡ replicate (n * m) x
flat_replicate zero m x = ap (λ k. replicate k x) (let e : 0 ≡ zero * m = omega arith in e)
flat_replicate (suc n) m x = ap (λ l. replicate m x ++ l) (flat_replicate n m x)
    ∙ (replicate-append-replicate m (n * m) x ∙ ap (λ k. replicate k x)
    (let e : m + n * m ≡ suc n * m = omega arith in e))

-- the rows, one behind the other
pub flat : flat_map (λ row. row) KEPT ≡ front ++ replicate 40952 0
flat = ap (λ l. ROOT_ROW ++ l) (flat_replicate 195 209 0)
    ∙ ap (λ l. front ++ l) (replicate-append-replicate 197 40755 0)

module _ (cells : ℕ) (some : 1 ≤ cells) (few : cells ≤ KEPT_CELLS) where
  abbrev behind : ℕ
  behind = words_for cells - 12

  as_many : words_for cells ≡ suc (suc (suc (suc (suc (suc (suc (suc (suc (suc (suc (suc behind)))))))))))
  as_many = omega arith

  -- those in front are the words of a new table
  pub in_front : take (words_for cells) (front ++ replicate 40952 0) ≡ first_words cells
  in_front = ap (λ n. take n (front ++ replicate 40952 0)) as_many
      ∙ (ap (λ l. front ++ l) (take-replicate behind 40952 0 (let b : behind ≤ 40952 = omega arith in b))
      ∙ ap (λ n. set (set (set (set (set (replicate n 0) 0 1) 1 1) 4 1) 5 1) 11 1) (sym as_many))
