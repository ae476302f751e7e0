-- Loads after loads of words of the tree.
use Rattle.tj_words.proofs.Prelude.{HasReadTree, IsLater, Option, Rec, SeatShown, View, [], ap, append_assoc, arith}
use Rattle.tj_words.proofs.Prelude.{begins_self, begins_trans, refl, sym, ℕ, ◌++◌, ◌∙◌}

module _ {B : Type 0} {cells : ℕ} where
  pub read_itself : (v : View B) → HasReadTree cells v v
  read_itself v = record {
    begins = begins_self v.born;
    all = λ a. a;
    more = [];
    seen = refl;
    loads = refl;
    rest = refl;
  }

  pub read_on : (u v w : View B) → HasReadTree cells u v → HasReadTree cells v w → HasReadTree cells u w
  read_on u v w p q = record {
    begins = begins_trans u.born v.born w.born p.begins q.begins;
    all = λ a. q.all (p.all a);
    more = q.more ++ p.more;
    seen = q.seen ∙ (ap (λ l. q.more ++ l) p.seen ∙ sym (append_assoc q.more p.more u.seen));
    loads = let a = p.loads in let b = q.loads in omega arith;
    rest = q.rest ∙ ap (λ (x : View B). record x {
      born = w.born;
      seen = w.seen;
      once_loads = w.once_loads;
      steps = w.steps;
    }) p.rest;
  }

  pub later_itself : (s : SeatShown (Option (Rec B)) (View B)) → IsLater cells s s
  later_itself s = ((refl, refl, refl), read_itself s.me.0)

  pub later_on : (s t u : SeatShown (Option (Rec B)) (View B)) → IsLater cells s t → IsLater cells t u
      → IsLater cells s u
  later_on s t u p q = (
    (q.0.0 ∙ p.0.0, q.0.1 ∙ p.0.1, q.0.2 ∙ p.0.2),
    read_on s.me.0 t.me.0 u.me.0 p.1 q.1,
  )
