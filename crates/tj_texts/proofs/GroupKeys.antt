-- Findings are told on one line where their keys are the same, and a map from keys has the numbers of their groups.
use Rattle.std.proofs.Common.{◌≡◌, ◌<◌, ◌≤◌, ◌+◌, ◌∙◌, ℕ, suc, Bool, true, false, not, cond, List, [], ◌∷◌, ◌++◌, ◌&&◌}
use Rattle.std.proofs.Common.{Option, Some, None, Vec, arith, ap, get_or, length, map, refl, slice_set, subst, sym}
use Rattle.std.proofs.Common.{nat_eq, unwrap_or}
use Rattle.std.proofs.lemmas.List.{length-append, length-set}
use Rattle.std.specs.BTreeMap.{BTreeMap}
use Rattle.std.specs.Cmp.Lexicographic.{slice_cmp, texts_ties}
use Rattle.std.specs.Ordering.{is_eq, nat_cmp}
use Rattle.std.specs.declared.alloc.Global.{Global}
use Rattle.tj_body.specs.Names.{same}
use Rattle.tj_body.proofs.Counts.{same_is}
use Rattle.tj_trace.specs.declared.line.Maker.{Maker}
use Rattle.tj_findings.specs.Forests.{Tree}
use Rattle.tj_findings.specs.Groups.{alike, alone, belongs, same_maker, same_stands, with_tree, word_number}
use Rattle.tj_texts.specs.Inner.GroupKeys.{AreNumbered, IsFirst, before, found, key, made_at, stands}
use Rattle.tj_texts.specs.Inner.GroupViews.{view}
use Rattle.tj_findings.specs.declared.finding.Finding.{Finding}
use Rattle.tj_findings.specs.declared.finding.Finding.TheVariants as finding
use Rattle.tj_findings.specs.declared.finding.Wait.{Wait}
use Rattle.tj_texts.specs.declared.groups.Group as code

-- two tests and more, one by one
both : (a b c : Bool) → (a && b) && c ≡ a && (b && c)
both true b c = refl
both false b c = refl

last_true : (a : Bool) → a ≡ a && true
last_true true = refl
last_true false = refl

-- waits stand at the same statements where these are the same numbers
stands_same : (ws vs : List Wait) → same_stands ws vs ≡ same (stands ws) (stands vs)
stands_same [] [] = refl
stands_same [] (v ∷ vs) = refl
stands_same (w ∷ ws) [] = refl
stands_same (w ∷ ws) (v ∷ vs) =
    let d = nat_eq w.task.decl v.task.decl in
    let a = nat_eq w.task.at v.task.at in
    both d a (same_stands ws vs) ∙ ap (λ b. d && (a && b)) (stands_same ws vs)

-- the same statement made both
made_same : (m n : Option Maker) → same_maker m n ≡ same (made_at m) (made_at n)
made_same None None = refl
made_same None (Some n) = refl
made_same (Some m) None = refl
made_same (Some m) (Some n) = ap (λ b. nat_eq m.decl n.decl && b) (last_true (nat_eq m.at n.at))

-- findings are alike where their keys are the same
pub alike_is : (f g : Finding) → alike f g ≡ same (key f) (key g)
alike_is (finding.Cycle ws) (finding.Cycle vs) = stands_same ws vs
alike_is (finding.Cycle ws) (finding.Behind v) = refl
alike_is (finding.Cycle ws) (finding.Failed u d n) = refl
alike_is (finding.Cycle ws) (finding.Owed p u) = refl
alike_is (finding.Cycle ws) (finding.Echo u p r) = refl
alike_is (finding.Behind w) (finding.Cycle vs) = refl
alike_is (finding.Behind w) (finding.Behind v) =
    ap (λ b. nat_eq w.task.decl v.task.decl && b) (last_true (nat_eq w.task.at v.task.at))
alike_is (finding.Behind w) (finding.Failed u d n) = refl
alike_is (finding.Behind w) (finding.Owed p u) = refl
alike_is (finding.Behind w) (finding.Echo u p r) = refl
alike_is (finding.Failed t c m) (finding.Cycle vs) = refl
alike_is (finding.Failed t c m) (finding.Behind v) = refl
alike_is (finding.Failed t c m) (finding.Failed u d n) =
    let decls = nat_eq t.decl u.decl in
    let places = nat_eq t.at u.at in
    let words = nat_eq (word_number c) (word_number d) in
    both decls places words ∙ ap (λ b. decls && (places && b)) (last_true words)
alike_is (finding.Failed t c m) (finding.Owed p u) = refl
alike_is (finding.Failed t c m) (finding.Echo u p r) = refl
alike_is (finding.Owed q t) (finding.Cycle vs) = refl
alike_is (finding.Owed q t) (finding.Behind v) = refl
alike_is (finding.Owed q t) (finding.Failed u d n) = refl
alike_is (finding.Owed q t) (finding.Owed p u) = made_same q.maker p.maker
alike_is (finding.Owed q t) (finding.Echo u p r) = refl
alike_is (finding.Echo t q o) (finding.Cycle vs) = refl
alike_is (finding.Echo t q o) (finding.Behind v) = refl
alike_is (finding.Echo t q o) (finding.Failed u d n) = refl
alike_is (finding.Echo t q o) (finding.Owed p u) = refl
alike_is (finding.Echo t q o) (finding.Echo u p r) =
    ap (λ b. nat_eq t.decl u.decl && b) (last_true (nat_eq t.at u.at))

-- a finding belongs to the groups of those that have its key
belongs_alike : (f g : Finding) (ms : List Finding) → key f ≡ key g → belongs f ms ≡ belongs g ms
belongs_alike f g [] e = refl
belongs_alike f g (m ∷ ms) e = alike_is m f ∙ ap (same (key m)) e ∙ sym (alike_is m g)

before_alike : (f g : Finding) (gs : List code.Group) → key f ≡ key g → before f gs ≡ before g gs
before_alike f g [] e = refl
before_alike f g (x ∷ gs) e =
    ap (λ b. cond (not b) (1 + before f gs) 0) (belongs_alike f g (view x).members e)
    ∙ ap (λ n. cond (not (belongs g (view x).members)) (1 + n) 0) (before_alike f g gs e)

-- to a group with one cause more belongs what belonged to it, where the cause belonged to it
belongs_more : (f g : Finding) (ms : List Finding) → belongs g ms ≡ true → belongs f (ms ++ g ∷ []) ≡ belongs f ms
belongs_more f g [] there = absurd (cc)
belongs_more f g (m ∷ ms) there = refl

-- where a cause is put into a group of its own the groups stay those to which a finding belongs
before_stays : (f : Finding) (t : Tree) (gs : List code.Group) (old new : code.Group) → before t.root gs < length gs
    → old ≡ get_or gs (before t.root gs) old → view new ≡ with_tree t (view old)
    → before f (slice_set gs (before t.root gs) new) ≡ before f gs
before_stays f t [] old new less is put = absurd (omega (arith, less))
before_stays f t (x ∷ gs) old new less is put =
    by (belongs t.root (view x).members) refl (λ l i. before_stays f t gs old new l i put) less is where
      place : Bool → ℕ
      place b = cond (not b) (1 + before t.root gs) 0

      by : (b : Bool) → belongs t.root (view x).members ≡ b
          → (before t.root gs < length gs → old ≡ get_or gs (before t.root gs) old
          → before f (slice_set gs (before t.root gs) new) ≡ before f gs)
          → place b < length (x ∷ gs) → old ≡ get_or (x ∷ gs) (place b) old
          → before f (slice_set (x ∷ gs) (place b) new) ≡ before f (x ∷ gs)
      by true there h l i =
          ap (λ b. cond (not b) (1 + before f gs) 0)
          (ap (λ g. belongs f g.members) (put ∙ ap (λ (g : code.Group). with_tree t (view g)) i)
          ∙ belongs_more f t.root (view x).members there)
      by false not_there h l i =
          let next : suc (before t.root gs) ≡ 1 + before t.root gs = omega arith in
          ap (λ m. before f (slice_set (x ∷ gs) m new)) (sym next)
          ∙ ap (λ n. cond (not (belongs f (view x).members)) (1 + n) 0)
          (h (omega (arith, l)) (i ∙ ap (λ m. get_or (x ∷ gs) m old) (sym next)))

-- one, but where the test is so
abbrev one_if_not : Bool → ℕ
one_if_not b = cond b 0 1

-- the groups to which a finding belongs, with one group more behind them
before_behind : (f : Finding) (gs : List code.Group) (new : code.Group)
    → (before f gs < length gs → before f (gs ++ new ∷ []) ≡ before f gs)
    × (length gs ≤ before f gs → before f (gs ++ new ∷ []) ≡ length gs + one_if_not (belongs f (view new).members))
before_behind f [] new = ((λ less. absurd (omega arith)), (λ past. one (belongs f (view new).members))) where
  one : (b : Bool) → cond (not b) (1 + 0) 0 ≡ 0 + one_if_not b
  one true = refl
  one false = refl
before_behind f (x ∷ gs) new = by (belongs f (view x).members) (before_behind f gs new) where
  place : Bool → ℕ → ℕ
  place b n = cond (not b) (1 + n) 0

  last : ℕ
  last = one_if_not (belongs f (view new).members)

  by : (b : Bool)
      → (before f gs < length gs → before f (gs ++ new ∷ []) ≡ before f gs)
      × (length gs ≤ before f gs → before f (gs ++ new ∷ []) ≡ length gs + last)
      → (place b (before f gs) < length (x ∷ gs) → place b (before f (gs ++ new ∷ [])) ≡ place b (before f gs))
      × (length (x ∷ gs) ≤ place b (before f gs)
      → place b (before f (gs ++ new ∷ [])) ≡ length (x ∷ gs) + last)
  by true h = ((λ less. refl), (λ past. absurd (omega arith)))
  by false h = (
    (λ less. ap (λ n. 1 + n) (h.0 (omega arith))),
    (λ past. let rest = h.1 (omega arith) in omega arith),
  )

-- no group yet
pub none_numbered : (m : BTreeMap (Vec ℕ Global) ℕ) (gs : List code.Group) → gs ≡ []
    → ((k : Vec ℕ Global) → found m k ≡ None) → AreNumbered gs m
none_numbered m gs is none f k e =
    subst (IsFirst f gs) (sym (none k)) (subst (λ l. length l ≤ before f l) (sym is) (omega arith))

-- the number of the group of a finding, and else the number behind all groups
pub number_is : (f : Finding) (gs : List code.Group) (r : Option ℕ) (n count : ℕ) → IsFirst f gs r
    → n ≡ unwrap_or r count → count ≡ length gs → (n < length gs → n ≡ before f gs)
    × (length gs ≤ n → (n ≡ length gs) × (length gs ≤ before f gs))
number_is f gs None n count first is all = ((λ less. absurd (omega arith)), (λ past. (omega arith, first)))
number_is f gs (Some k) n count first is all =
    let less = first.1 in ((λ l. is ∙ first.0), (λ past. absurd (omega arith)))

-- one cause more in a group
pub numbered_at : (t : Tree) (gs : List code.Group) (n : ℕ) (old new : code.Group) (m : BTreeMap (Vec ℕ Global) ℕ)
    → n ≡ before t.root gs → n < length gs → old ≡ get_or gs n old → view new ≡ with_tree t (view old)
    → AreNumbered gs m → AreNumbered (slice_set gs n new) m
numbered_at t gs n old new m same_place less is put numbered f k e = first (found m k) (numbered f k e)
  where
    stays : before f (slice_set gs n new) ≡ before f gs
    stays =
        ap (λ i. before f (slice_set gs i new)) same_place
        ∙ before_stays f t gs old new (subst (λ i. i < length gs) same_place less)
        (is ∙ ap (λ i. get_or gs i old) same_place) put

    long : length (slice_set gs n new) ≡ length gs
    long = length-set gs n new

    first : (r : Option ℕ) → IsFirst f gs r → IsFirst f (slice_set gs n new) r
    first None h = let a = stays in let b = long in omega arith
    first (Some j) h = let b = long in let l = h.1 in (h.0 ∙ sym stays, omega arith)

-- one group more, with its key
pub numbered_behind : (t : Tree) (gs more : List code.Group) (n : ℕ) (new : code.Group)
    (m o : BTreeMap (Vec ℕ Global) ℕ) (own : Vec ℕ Global) → own.items ≡ key t.root → n ≡ length gs
    → length gs ≤ before t.root gs → view new ≡ alone t → more ≡ gs ++ new ∷ []
    → ((k : Vec ℕ Global)
    → found o k ≡ cond (is_eq (slice_cmp nat_cmp own.items k.items)) (Some n) (found m k))
    → AreNumbered gs m → AreNumbered more o
numbered_behind t gs more n new m o own own_is end past put grown updated numbered f k e =
    subst (λ l. IsFirst f l (found o k)) (sym grown)
    (subst (IsFirst f (gs ++ new ∷ [])) (sym (updated k ∙ ap (λ b. cond b (Some n) (found m k)) tested))
    (by (same (key t.root) (key f)) refl))
  where
    tested : is_eq (slice_cmp nat_cmp own.items k.items) ≡ same (key t.root) (key f)
    tested = sym (texts_ties own.items k.items) ∙ ap (λ z. same z k.items) own_is ∙ ap (same (key t.root)) e

    long : length (gs ++ new ∷ []) ≡ length gs + 1
    long = length-append gs (new ∷ [])

    last_is : belongs f (view new).members ≡ same (key t.root) (key f)
    last_is = ap (λ g. belongs f g.members) put ∙ alike_is t.root f

    by : (b : Bool) → same (key t.root) (key f) ≡ b → IsFirst f (gs ++ new ∷ []) (cond b (Some n) (found m k))
    by true is =
        let far = before_alike f t.root gs (sym (same_is (key t.root) (key f) is)) in
        let there = (before_behind f gs new).1 (omega arith) in
        let zero_more : one_if_not (belongs f (view new).members) ≡ 0 = ap one_if_not (last_is ∙ is) in
        let l = long in (omega arith, omega arith)
    by false is = other (found m k) (numbered f k e) where
      one_more : one_if_not (belongs f (view new).members) ≡ 1
      one_more = ap one_if_not (last_is ∙ is)

      other : (r : Option ℕ) → IsFirst f gs r → IsFirst f (gs ++ new ∷ []) r
      other None h = let there = (before_behind f gs new).1 h in let o = one_more in let l = long in omega arith
      other (Some j) h =
          let less = h.1 in
          let place = h.0 in
          let stays = (before_behind f gs new).0 (omega arith) in
          let l = long in (place ∙ sym stays, omega arith)
