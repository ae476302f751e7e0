-- The unsent items of the ends that are given can be handed, and those of the ends that are kept are left.
use Rattle.std.proofs.Common.{◌≡◌, ℕ, ◌<◌, Bool, true, false, cond, ◌||◌, inl, inr, ⊎_elim, List, [], ◌∷◌, ◌++◌, map}
use Rattle.std.proofs.Common.{Option, Some, None, Ok, refl, sym, ap, ◌∙◌, subst, append_assoc}
use Rattle.tj_base.specs.ForkOrder.{Name}
use Rattle.tj_base.specs.declared.cell.Sort.TheVariants as sort
use Rattle.tj_body.specs.Names.{same, has, without}
use Rattle.tj_body.specs.History.{to_promise, hand_all, hand_one}
use Rattle.tj_body.specs.Points.{IsIn}
use Rattle.tj_body.proofs.Counts.{same_self, same_is}
use Rattle.tj_body.proofs.Lists.{in_left, in_either}
use Rattle.tj_chan.specs.Channels.{Channel, SendingEnd, Parting, parted, item, is_same, end_of, without_end, part_with}
use Rattle.tj_chan.specs.Channels.{given_both, unsent, all_unsent}
use Rattle.tj_chan.proofs.Lists.Runs.{AreOneOrApart, AreEndsOnce}
use Rattle.tj_chan.proofs.Lists.Apart.{not_true, apart_of_other, end_there, left_there, once_left}
use Rattle.tj_chan.proofs.Asks.Faults.{of_unsent}

-- a name is taken out behind others
without_behind : (q : Name) (a x : List Name) → ¬ IsIn q a → without q (a ++ q ∷ x) ≡ a ++ x
without_behind q [] x h = ap (λ b. cond b x (q ∷ without q x)) (same_self q)
without_behind q (y ∷ ys) x h =
    ap (λ b. cond b (ys ++ q ∷ x) (y ∷ without q (ys ++ q ∷ x))) (not_true (same q y) (λ e. h (inl (same_is q y e))))
    ∙ ap (λ z. y ∷ z) (without_behind q ys x (λ i. h (inr i)))

has_behind : (q : Name) (a x : List Name) → has q (a ++ q ∷ x) ≡ true
has_behind q [] x = ap (λ b. b || has q x) (same_self q)
has_behind q (y ∷ ys) x = ap (λ b. same q y || b) (has_behind q ys x) ∙ by (same q y) where
  by : (b : Bool) → (b || true) ≡ true
  by true = refl
  by false = refl

-- names that stand together are handed together
hand_names : (a x b l : List Name) → ((q : Name) → IsIn q x → ¬ IsIn q a)
    → hand_all (a ++ (x ++ b)) (map to_promise (x ++ l)) ≡ hand_all (a ++ b) (map to_promise l)
hand_names a [] b l h = refl
hand_names a (q ∷ x) b l h =
    let e = has_behind q a (x ++ b) in
    let f = without_behind q a (x ++ b) (h q (inl refl)) in
    (λ i. hand_one sort.Promise (e i) q (hand_all (f i) (map to_promise (x ++ l))))
    ∙ hand_names a x b l (λ r j. h r (inr j))

-- a name still to be sent is that of an item
unsent_item : (e : SendingEnd) (q : Name) → IsIn q (unsent e) → (i : ℕ) × (i < e.channel.items) × (q ≡ item e.channel i)
unsent_item e q h =
    let r = of_unsent (e ∷ []) q (in_left q (unsent e) [] h) in
    let z = only r.0 r.2 in (
      r.1,
      subst (λ (f : SendingEnd). r.1 < f.channel.items) z r.4,
      r.5 ∙ ap (λ (f : SendingEnd). item f.channel r.1) z,
    ) where
      only : (f : SendingEnd) → IsIn f (e ∷ []) → f ≡ e
      only f (inl z) = z
      only f (inr z) = absurd z

-- The items of an end among those of others.
record IsAmong (c : Channel) (es : List SendingEnd) (e : SendingEnd) : Type 0 where
  front : List Name
  behind : List Name
  with_it : all_unsent es ≡ front ++ (unsent e ++ behind)
  without_it : all_unsent (without_end c es) ≡ front ++ behind
  apart : (q : Name) → IsIn q (unsent e) → ¬ IsIn q front

among : (c : Channel) (es : List SendingEnd) (e : SendingEnd) → AreEndsOnce es
    → ((d f : SendingEnd) → IsIn d es → IsIn f es → AreOneOrApart d.channel f.channel) → end_of c es ≡ Some e
    → IsAmong c es e
among c [] e o a h = cc
among c (x ∷ xs) e o a h =
    by (λ g. among c xs e o.1 (λ d f i j. a d f (inr i) (inr j)) g) (is_same c x.channel) refl h where
      by : (end_of c xs ≡ Some e → IsAmong c xs e) → (b : Bool) → is_same c x.channel ≡ b
          → cond b (Some x) (end_of c xs) ≡ Some e → IsAmong c (x ∷ xs) e
      by rec true s g =
          let z : x ≡ e = cc in record {
            front = [];
            behind = all_unsent xs;
            with_it = ap (λ (y : SendingEnd). unsent y ++ all_unsent xs) z;
            without_it = ap (λ b. all_unsent (cond b xs (x ∷ without_end c xs))) s;
            apart = λ q i j. j;
          }
      by rec false s g =
          let r = rec g in record {
            front = unsent x ++ r.front;
            behind = r.behind;
            with_it = ap (λ l. unsent x ++ l) r.with_it ∙ sym (append_assoc (unsent x) r.front (unsent e ++ r.behind));
            without_it = ap (λ b. all_unsent (cond b xs (x ∷ without_end c xs))) s
                ∙ (ap (λ l. unsent x ++ l) r.without_it ∙ sym (append_assoc (unsent x) r.front r.behind));
            apart = λ q i j. ⊎_elim (λ k.
                let m = unsent_item x q k in
                let n = unsent_item e q i in
                let t = (end_there c xs e g).0 in
                apart_of_other x.channel e.channel (a x e (inl refl) (inr t)) (o.0 e t) m.0 n.0 m.1 n.1 (sym m.2 ∙ n.2))
                (λ k. r.apart q i k) (in_either q (unsent x) r.front j);
          }

-- what is given is handed, and what is kept is left
pub hand_parting : (gs : List Channel) (es : List SendingEnd) → AreEndsOnce es
    → ((d f : SendingEnd) → IsIn d es → IsIn f es → AreOneOrApart d.channel f.channel) → (p : Parting)
    → part_with gs es ≡ Some p
    → hand_all (all_unsent es) (map to_promise (all_unsent p.given)) ≡ Ok (all_unsent p.kept)
hand_parting [] es o a p h =
    let z : parted [] es ≡ p = cc in
    subst (λ (y : Parting). hand_all (all_unsent es) (map to_promise (all_unsent y.given)) ≡ Ok (all_unsent y.kept))
    z refl
hand_parting (c ∷ gs) es o a p h =
    by (λ q k. hand_parting gs (without_end c es) (once_left c es o)
    (λ d f i j. a d f (left_there c es d i) (left_there c es f j)) q k)
    (end_of c es) refl (part_with gs (without_end c es)) refl h where
      by : ((q : Parting) → part_with gs (without_end c es) ≡ Some q
          → hand_all (all_unsent (without_end c es)) (map to_promise (all_unsent q.given)) ≡ Ok (all_unsent q.kept))
          → (x : Option SendingEnd) → end_of c es ≡ x → (y : Option Parting) → part_with gs (without_end c es) ≡ y
          → given_both x y ≡ Some p
          → hand_all (all_unsent es) (map to_promise (all_unsent p.given)) ≡ Ok (all_unsent p.kept)
      by rec None e y f g = cc
      by rec (Some x) e None f g = cc
      by rec (Some x) e (Some q) f g =
          let z : parted (x ∷ q.given) q.kept ≡ p = cc in
          let m = among c es x o a e in
          subst
          (λ (y : Parting). hand_all (all_unsent es) (map to_promise (all_unsent y.given)) ≡ Ok (all_unsent y.kept))
          z (ap (λ l. hand_all l (map to_promise (unsent x ++ all_unsent q.given))) m.with_it
          ∙ (hand_names m.front (unsent x) m.behind (all_unsent q.given) m.apart
          ∙ (ap (λ l. hand_all l (map to_promise (all_unsent q.given))) (sym m.without_it) ∙ rec q f)))
