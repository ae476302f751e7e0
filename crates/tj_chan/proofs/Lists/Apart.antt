-- When two channels are one, and ends of channels with some of them sent into, looked for, and parted with.
use Rattle.std.proofs.Common.{◌≡◌, ℕ, suc, ◌+◌, ◌<◌, Bool, true, false, cond, nat_eq, ◌&&◌, ◌⊎◌, inl, inr}
use Rattle.std.proofs.Common.{⊎_elim, List, [], ◌∷◌, ◌++◌, length, drop, get_or, Option, Some, None, refl, sym, ap}
use Rattle.std.proofs.Common.{◌∙◌, subst, arith, length-append, eqb-true, eq-eqb}
use Rattle.std.specs.Prelude.{ℤ}
use Rattle.std.specs.Cmp.{first_so, second_so}
use Rattle.tj_base.specs.ForkOrder.{Name, child}
use Rattle.tj_body.specs.Names.{same}
use Rattle.tj_body.specs.Points.{IsIn}
use Rattle.tj_body.proofs.Counts.{same_self, same_is}
use Rattle.tj_chan.specs.Channels.{Channel, SendingEnd, item, is_same, end_of, without_end, with_sent, one_more}
use Rattle.tj_chan.specs.Channels.{Parting, parted, given_both, part_with}
use Rattle.tj_chan.proofs.Lists.Runs.{AreApart, AreOneOrApart, AreEndsOnce}

-- things with one name have one maker and one number
pub one_thing : (x y : Name) (j k : ℕ) → child x j ≡ child y k → (x ≡ y) × (j ≡ k)
one_thing [] [] j k h = (refl, ap (λ (l : List ℕ). get_or l 0 0) h)
one_thing [] (b ∷ y) j k h =
    let e : [] ≡ y ++ k ∷ [] = ap (λ (l : List ℕ). drop 1 l) h in
    let l : 0 ≡ length (y ++ k ∷ []) = ap length e in
    let m = length-append y (k ∷ []) in absurd (omega arith)
one_thing (a ∷ x) [] j k h =
    let e : x ++ j ∷ [] ≡ [] = ap (λ (l : List ℕ). drop 1 l) h in
    let l : length (x ++ j ∷ []) ≡ 0 = ap length e in
    let m = length-append x (j ∷ []) in absurd (omega arith)
one_thing (a ∷ x) (b ∷ y) j k h =
    let e : a ≡ b = ap (λ (l : List ℕ). get_or l 0 0) h in
    let r = one_thing x y j k (ap (λ (l : List ℕ). drop 1 l) h) in ((λ i. e i ∷ r.0 i), r.1)

-- a channel is the same as itself
pub is_same_self : (c : Channel) → is_same c c ≡ true
is_same_self c = λ i. same_self c.opener i && eq-eqb c.made_before c.made_before refl i

-- what is the same has one opener, which had made as much
pub same_parts : (c d : Channel) → is_same c d ≡ true → (c.opener ≡ d.opener) × (c.made_before ≡ d.made_before)
same_parts c d h = (
  same_is c.opener d.opener (first_so (same c.opener d.opener) (nat_eq c.made_before d.made_before) h),
  eqb-true c.made_before d.made_before (second_so (same c.opener d.opener) (nat_eq c.made_before d.made_before) h),
)

-- a truth value that can't be true
pub not_true : (b : Bool) → ¬ (b ≡ true) → b ≡ false
not_true true h = absurd (h refl)
not_true false h = refl

-- nor can this be both
pub true_false : (b : Bool) → b ≡ true → b ≡ false → ⊥
true_false b h g = let e : true ≡ false = sym h ∙ g in absurd (cc)

-- channels that differ in one of the two aren't the same
pub not_same : (c d : Channel) → ¬ ((c.opener ≡ d.opener) × (c.made_before ≡ d.made_before)) → is_same c d ≡ false
not_same c d h = not_true (is_same c d) (λ e. h (same_parts c d e))

-- the order doesn't matter
pub same_turned : (c d : Channel) → is_same c d ≡ false → is_same d c ≡ false
same_turned c d h = not_true (is_same d c) (λ e. let r = same_parts d c e in
    let o = sym r.0 in let m = sym r.1 in
    true_false (is_same c d) ((λ i. same (o i) d.opener && nat_eq (m i) d.made_before) ∙ is_same_self d) h)

-- items with one name
pub one_item : (c d : Channel) (i j : ℕ) → item c i ≡ item d j
    → (c.opener ≡ d.opener) × (c.made_before + suc i ≡ d.made_before + suc j)
one_item c d i j h = one_thing c.opener d.opener (c.made_before + suc i) (d.made_before + suc j) h

-- apart is apart the other way round
pub apart_turned : (c d : Channel) → AreApart c d → AreApart d c
apart_turned c d h i j l m e = h j i m l (sym e)

-- channels that are the same are one
pub one_of_same : (c d : Channel) → AreOneOrApart c d → is_same c d ≡ true → c ≡ d
one_of_same c d (inl e) h = e
one_of_same c d (inr a) h = absurd (true_false (is_same c d) h a.0)

-- channels with an item in common are one, and it is the same item
pub one_of_items : (c d : Channel) (i j : ℕ) → AreOneOrApart c d → i < c.items → j < d.items → item c i ≡ item d j
    → (c ≡ d) × (i ≡ j)
one_of_items c d i j (inl e) l m h =
    let r = (one_item c d i j h).1 in let s : c.made_before ≡ d.made_before = ap (λ (x : Channel). x.made_before) e in
    (e, omega arith)
one_of_items c d i j (inr a) l m h = absurd (a.1 i j l m h)

-- ends that are told apart have no item in common
pub apart_of_other : (c d : Channel) → AreOneOrApart c d → is_same c d ≡ false → AreApart c d
apart_of_other c d (inl e) h = absurd (true_false (is_same c d) (subst (λ x. is_same c x ≡ true) e (is_same_self c)) h)
apart_of_other c d (inr a) h = a.1

-- Ends. One that is found is there.
pub end_there : (c : Channel) (es : List SendingEnd) (e : SendingEnd) → end_of c es ≡ Some e
    → IsIn e es × (is_same c e.channel ≡ true)
end_there c [] e h = cc
end_there c (f ∷ fs) e h = by (end_there c fs e) (is_same c f.channel) refl h where
  by : (end_of c fs ≡ Some e → IsIn e fs × (is_same c e.channel ≡ true)) → (b : Bool) → is_same c f.channel ≡ b
      → cond b (Some f) (end_of c fs) ≡ Some e → IsIn e (f ∷ fs) × (is_same c e.channel ≡ true)
  by rec true s g =
      let x : f ≡ e = cc in (inl (sym x), subst (λ (z : SendingEnd). is_same c z.channel ≡ true) x s)
  by rec false s g = let r = rec g in (inr r.0, r.1)

-- what is left without one was there
pub left_there : (c : Channel) (es : List SendingEnd) (f : SendingEnd) → IsIn f (without_end c es) → IsIn f es
left_there c [] f h = h
left_there c (e ∷ es) f h = by (left_there c es f) (is_same c e.channel) h where
  by : (IsIn f (without_end c es) → IsIn f es) → (b : Bool) → IsIn f (cond b es (e ∷ without_end c es))
      → IsIn f (e ∷ es)
  by rec true g = inr g
  by rec false (inl x) = inl x
  by rec false (inr x) = inr (rec x)

-- no end twice, without one
pub once_left : (c : Channel) (es : List SendingEnd) → AreEndsOnce es → AreEndsOnce (without_end c es)
once_left c [] h = h
once_left c (e ∷ es) h = by (once_left c es h.1) (is_same c e.channel) where
  by : AreEndsOnce (without_end c es) → (b : Bool) → AreEndsOnce (cond b es (e ∷ without_end c es))
  by rec true = h.1
  by rec false = ((λ f i. h.0 f (left_there c es f i)), rec)

-- the one that is found isn't that of a channel of the others
pub found_other : (c : Channel) (es : List SendingEnd) (e : SendingEnd) → AreEndsOnce es → end_of c es ≡ Some e
    → (f : SendingEnd) → IsIn f (without_end c es) → is_same e.channel f.channel ≡ false
found_other c [] e h g f i = cc
found_other c (x ∷ xs) e h g f i =
    by (λ k j. found_other c xs e h.1 k f j) (is_same c x.channel) refl g i where
      by : (end_of c xs ≡ Some e → IsIn f (without_end c xs) → is_same e.channel f.channel ≡ false)
          → (b : Bool) → is_same c x.channel ≡ b → cond b (Some x) (end_of c xs) ≡ Some e
          → IsIn f (cond b xs (x ∷ without_end c xs)) → is_same e.channel f.channel ≡ false
      by rec true s k j =
          let z : x ≡ e = cc in subst (λ (y : SendingEnd). is_same y.channel f.channel ≡ false) z (h.0 f j)
      by rec false s k (inl j) =
          subst (λ (y : SendingEnd). is_same e.channel y.channel ≡ false) (sym j)
          (same_turned x.channel e.channel (h.0 e (end_there c xs e k).0))
      by rec false s k (inr j) = rec k j

-- with a value sent, the ends are those of the same channels
pub sent_there : (c : Channel) (v : ℤ) (es : List SendingEnd) (f : SendingEnd) → IsIn f (with_sent c v es)
    → (e : SendingEnd) × IsIn e es × (e.channel ≡ f.channel)
sent_there c v [] f h = absurd h
sent_there c v (e ∷ es) f h = by (sent_there c v es f) (is_same c e.channel) h where
  by : (IsIn f (with_sent c v es) → (e : SendingEnd) × IsIn e es × (e.channel ≡ f.channel))
      → (b : Bool) → IsIn f (cond b (one_more v e ∷ es) (e ∷ with_sent c v es))
      → (g : SendingEnd) × IsIn g (e ∷ es) × (g.channel ≡ f.channel)
  by rec true (inl x) = (e, inl refl, ap (λ (y : SendingEnd). y.channel) (sym x))
  by rec true (inr x) = (f, inr x, refl)
  by rec false (inl x) = (f, inl x, refl)
  by rec false (inr x) = let r = rec x in (r.0, inr r.1, r.2)

-- and none twice
pub once_sent : (c : Channel) (v : ℤ) (es : List SendingEnd) → AreEndsOnce es → AreEndsOnce (with_sent c v es)
once_sent c v [] h = h
once_sent c v (e ∷ es) h = by (once_sent c v es h.1) (is_same c e.channel) where
  by : AreEndsOnce (with_sent c v es) → (b : Bool) → AreEndsOnce (cond b (one_more v e ∷ es) (e ∷ with_sent c v es))
  by rec true = h
  by rec false = (
    (λ f i. let r = sent_there c v es f i in
        subst (λ d. is_same e.channel d ≡ false) r.2 (h.0 r.0 r.1)),
    rec,
  )

-- one end more at the end, of another channel
pub once_more : (es : List SendingEnd) (n : SendingEnd) → AreEndsOnce es
    → ((e : SendingEnd) → IsIn e es → is_same e.channel n.channel ≡ false) → AreEndsOnce (es ++ n ∷ [])
once_more [] n h g = ((λ f i. absurd i), tt)
once_more (e ∷ es) n h g = (new, once_more es n h.1 (λ f i. g f (inr i))) where
  at : (xs : List SendingEnd) → ((f : SendingEnd) → IsIn f xs → is_same e.channel f.channel ≡ false)
      → (f : SendingEnd) → IsIn f (xs ++ n ∷ []) → is_same e.channel f.channel ≡ false
  at [] k f (inl x) = subst (λ (y : SendingEnd). is_same e.channel y.channel ≡ false) (sym x) (g e (inl refl))
  at [] k f (inr x) = absurd x
  at (y ∷ ys) k f (inl x) = k f (inl x)
  at (y ∷ ys) k f (inr x) = at ys (λ z j. k z (inr j)) f x

  new : (f : SendingEnd) → IsIn f (es ++ n ∷ []) → is_same e.channel f.channel ≡ false
  new = at es h.0

-- What ends are parted with: those given and those kept were held, none is there twice, and each that is given is that
-- of one of the channels.
pub record IsParting (cs : List Channel) (es : List SendingEnd) (p : Parting) : Type 0 where
  pub kept : (f : SendingEnd) → IsIn f p.kept → IsIn f es
  pub given : (f : SendingEnd) → IsIn f p.given → IsIn f es
  pub kept_once : AreEndsOnce p.kept
  pub given_once : AreEndsOnce p.given
  pub wanted : (f : SendingEnd) → IsIn f p.given → (c : Channel) × IsIn c cs × (is_same c f.channel ≡ true)
  pub stays : (f : SendingEnd) → IsIn f es → IsIn f p.given ⊎ IsIn f p.kept

-- the one that is found, or it is left
pub found_or_left : (c : Channel) (es : List SendingEnd) (e : SendingEnd) → end_of c es ≡ Some e
    → (f : SendingEnd) → IsIn f es → (f ≡ e) ⊎ IsIn f (without_end c es)
found_or_left c [] e g f i = absurd i
found_or_left c (x ∷ xs) e g f i = by (λ k. found_or_left c xs e k f) (is_same c x.channel) g i where
  by : (end_of c xs ≡ Some e → IsIn f xs → (f ≡ e) ⊎ IsIn f (without_end c xs))
      → (b : Bool) → cond b (Some x) (end_of c xs) ≡ Some e → IsIn f (x ∷ xs)
      → (f ≡ e) ⊎ IsIn f (cond b xs (x ∷ without_end c xs))
  by rec true k (inl j) = let z : x ≡ e = cc in inl (j ∙ z)
  by rec true k (inr j) = inr j
  by rec false k (inl j) = inr (inl j)
  by rec false k (inr j) = ⊎_elim (λ a. inl a) (λ b. inr (inr b)) (rec k j)

pub parting_is : (cs : List Channel) (es : List SendingEnd) (p : Parting) → AreEndsOnce es → part_with cs es ≡ Some p
    → IsParting cs es p
parting_is [] es p o h = subst (IsParting [] es) e (record {
  kept = λ f i. i;
  given = λ f i. absurd i;
  kept_once = o;
  given_once = tt;
  wanted = λ f i. absurd i;
  stays = λ f i. inr i;
}) where
  e : parted [] es ≡ p
  e = cc
parting_is (c ∷ cs) es p o h = by (end_of c es) refl (part_with cs (without_end c es)) refl
    (λ q k. parting_is cs (without_end c es) q (once_left c es o) k) h where
      by : (x : Option SendingEnd) → end_of c es ≡ x → (y : Option Parting) → part_with cs (without_end c es) ≡ y
          → ((q : Parting) → part_with cs (without_end c es) ≡ Some q → IsParting cs (without_end c es) q)
          → given_both x y ≡ Some p → IsParting (c ∷ cs) es p
      by None g y k rec m = cc
      by (Some e) g None k rec m = cc
      by (Some e) g (Some q) k rec m = subst (IsParting (c ∷ cs) es) z (record {
        kept = λ f i. left_there c es f (r.kept f i);
        given = λ f i. given_in f i;
        kept_once = r.kept_once;
        given_once = ((λ f i. found_other c es e o g f (r.given f i)), r.given_once);
        wanted = λ f i. want f i;
        stays = λ f i. ⊎_elim (λ a. inl (inl a)) (λ b. ⊎_elim (λ a. inl (inr a)) (λ a. inr a) (r.stays f b))
            (found_or_left c es e g f i);
      }) where
        r : IsParting cs (without_end c es) q
        r = rec q k

        z : parted (e ∷ q.given) q.kept ≡ p
        z = cc

        given_in : (f : SendingEnd) → IsIn f (e ∷ q.given) → IsIn f es
        given_in f (inl i) = subst (λ x. IsIn x es) (sym i) (end_there c es e g).0
        given_in f (inr i) = left_there c es f (r.given f i)

        want : (f : SendingEnd) → IsIn f (e ∷ q.given) → (d : Channel) × IsIn d (c ∷ cs) × (is_same d f.channel ≡ true)
        want f (inl i) =
            (c, inl refl, subst (λ (x : SendingEnd). is_same c x.channel ≡ true) (sym i) (end_there c es e g).1)
        want f (inr i) = let w = r.wanted f i in (w.0, inr w.1, w.2)
