-- Heads are read from one token to the next.
use Rattle.std.proofs.Common.{◌≡◌, ℕ, zero, suc, ◌+◌, ◌<◌, ◌≤◌, List, [], ◌∷◌, length, map, drop, refl, ap, ◌∙◌, arith}
use Rattle.tj_lex.specs.declared.token.Tok.{Tok}
use Rattle.tj_syntax.specs.Inner.Input.{Head, heads_from, with_front}

pub heads_step : {A : Type 0} (see : A → Tok) (found : List Head) (ts : List A) (at : ℕ) → at < length ts
    → heads_from found (map see (drop at ts)) ≡ heads_from (with_front found (map see (drop at
    ts))) (map see (drop (at + 1) ts))
unfolding heads_from
heads_step see found [] at h = absurd (omega arith)
heads_step see found (t ∷ ts) zero h = refl
heads_step see found (t ∷ ts) (suc n) h =
    let e : suc (n + 1) ≡ suc n + 1 = omega arith in
    heads_step see found ts n (omega arith)
    ∙ ap (λ m. heads_from (with_front found (map see (drop n ts))) (map see (drop m (t ∷ ts)))) e

pub heads_end : {A : Type 0} (see : A → Tok) (found : List Head) (ts : List A) (at : ℕ) → length ts ≤ at
    → heads_from found (map see (drop at ts)) ≡ found
unfolding heads_from
heads_end see found [] zero h = refl
heads_end see found [] (suc at) h = refl
heads_end see found (t ∷ ts) zero h = absurd (omega arith)
heads_end see found (t ∷ ts) (suc at) h = heads_end see found ts at (omega arith)
