-- A task that a test runs makes a promise, or forks a child to which it passes one cell: it runs on.
use Rattle.tj_run.proofs.Prelude.{Bool, CellId, Held, Laid, List, Program, Rec, SeatMe, View, [], arith, get_or}
use Rattle.tj_run.proofs.Prelude.{held_at, length, map, refl, released_child, rest, subst, sym, ℕ, ◌++◌, ◌+◌, ◌∷◌, ◌≡◌}
use Rattle.std.proofs.Common.{None}
use Rattle.tj_words.specs.Calls.LiveViews.{SlotsOf}
use Rattle.tj_run.proofs.Children.ForkCalls.{HasGiven, forks_go}
use Rattle.tj_table_tests.specs.ByHand.{IsRun}
use Rattle.tj_base.specs.declared.cell.Sort.TheVariants as sort
use Rattle.tj_body.specs.declared.ask.Answer.TheVariants as answer

-- the one cell that is passed
pub one_passed : (held : List Held) (pass : List ℕ) → length pass ≡ 1
    → map (held_at held) pass ≡ held_at held (get_or pass 0 0) ∷ []
one_passed held [] e = absurd (omega arith)
one_passed held (k ∷ []) e = refl
one_passed held (k ∷ (l ∷ ks)) e = absurd (omega arith)

module _ {B : Type 0} {program : Bool → B → Program B} {laid : Laid B} {r : Rec B} {b : B} {pass : List ℕ}
    {me : SeatMe B} {c : CellId} {u : View B} (h : HasGiven program laid r b pass [] me c r.owned u)
    {x : Rec B} (s : SeatMe B) (slots : SlotsOf B) (released : s ≡ (released_child c.0 x u, rest slots))
    (its_slot : slots ≡ (c.0, None) ∷ me.1) where
  -- the record holds the child, and the task runs on
  pub child_made : (held : List Held) → held ≡ r.held ++ record { cell = c; sort = sort.Task } ∷ []
      → (place : ℕ) → place ≡ length r.held
      → IsRun program laid (record r { held = held; made = r.made + 1; answer = answer.Local place }) s
  child_made held now_held place now_place = subst (λ (z : Rec B). IsRun program laid z s)
      (λ i. record r {
        held = sym now_held i;
        made = r.made + 1;
        answer = answer.Local (sym now_place i);
      })
      (let g = forks_go h s slots released its_slot in record { runs = g.runs; running = g.goes_on })
