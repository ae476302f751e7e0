-- The names of heads, and where they are found.
use Rattle.std.proofs.Common.{◌≡◌, ℕ, ◌<◌, List, [], ◌∷◌, length, map, Option, Some, None, IfSome, refl, ap, sym, ◌∙◌}
use Rattle.std.proofs.Common.{arith, ◌++◌, suc, Bool, true, false, cond, is_some}
use Rattle.std.proofs.lemmas.List.{map-append, length-map}
use Rattle.tj_lex.specs.declared.token.Tok.{Tok}
use Rattle.tj_syntax.specs.declared.heads.Head.{Head}
use Rattle.tj_syntax.specs.Inner.Heads.{head_of}
use Rattle.tj_syntax.specs.Inner.Input as spec
use Rattle.tj_syntax.specs.Inner.Input.{names_of, breach_of, count_params, with_head}
use Rattle.tj_syntax.specs.Marks.{Name, index_of, most_tasks}
use Rattle.tj_syntax.proofs.Naming.Indexes.{index_of-below}

pub names_of-heads : (list : List Head) → names_of (map head_of list) ≡ map (λ (h : Head). h.name.now) list
names_of-heads [] = refl
names_of-heads (h ∷ list) = ap (λ ns. h.name.now ∷ ns) (names_of-heads list)

-- a head that is found is there
pub found_below : (list : List Head) (names : List Name) (x : Name) (o : Option ℕ) → names ≡ map (λ (h : Head).
    h.name.now) list → o ≡ index_of names x
    → IfSome o (λ n. n < length (map head_of list))
found_below list names x None e is = tt
found_below list names x (Some n) e is =
    let below = index_of-below names x n (sym is) in
    let count : length names ≡ length list = ap length e ∙ length-map list (λ (h : Head). h.name.now) in
    let same : length (map head_of list) ≡ length list = length-map list head_of in
    omega arith

-- a name that breaks a rule adds no head
pub with_head-same : (list : List Head) (names : List Name) (x : Name) (rest : List Tok) → names ≡ map (λ (h : Head).
    h.name.now) list
    → is_some (breach_of most_tasks names x) ≡ true → with_head (map head_of list) x rest ≡ map head_of list
with_head-same list names x rest e broken =
    let same : names_of (map head_of list) ≡ names = names_of-heads list ∙ sym e in
    let longer = map head_of list ++ record { name = x; params = count_params rest; left = suc (length rest) } ∷ [] in
    ap (λ (b : Bool). cond b (map head_of list) longer) (ap (λ ns. is_some (breach_of most_tasks ns x)) same ∙ broken)

-- any other name adds its head
pub with_head-more : (list : List Head) (names : List Name) (x : Name) (rest : List Tok) (h : Head) → names ≡ map (λ
    (h : Head). h.name.now) list
    → is_some (breach_of most_tasks names x) ≡ false → head_of h ≡ record {
      name = x;
      params = count_params rest;
      left
          = suc (length rest);
    }
    → map head_of (list ++ h ∷ []) ≡ with_head (map head_of list) x rest
with_head-more list names x rest h e right is =
    let same : names_of (map head_of list) ≡ names = names_of-heads list ∙ sym e in
    let longer = map head_of list ++ record { name = x; params = count_params rest; left = suc (length rest) } ∷ [] in
    map-append head_of list (h ∷ []) ∙ ap (λ (g : spec.Head). map head_of list ++ g ∷ []) is
    ∙ sym (ap (λ (b : Bool). cond b (map head_of list) longer) (ap (λ ns. is_some (breach_of most_tasks ns x)) same ∙
    right))
