-- What the steps on HEAD and NEXT make of the view of their seat.
use Rattle.std.specs.Prelude.{◌≡◌, ◌≢◌, ℕ, suc, ◌-◌, ◌≤◌, cond, nat_eq, List, [], ◌∷◌, length, Bool, Option}
use Rattle.std.specs.Prelude.{Some, None}
use Rattle.tj_body.specs.Programs.{Program}
use Rattle.tj_words.specs.declared.head.Head.{Head}
use Rattle.tj_words.specs.declared.head.Head.TheVariants.{Shut}
use Rattle.tj_words.specs.declared.view.Filled.{Filled}
use Rattle.tj_words.specs.declared.view.Push.{Push}
use Rattle.tj_words.specs.declared.view.Rest.{Rest}
use Rattle.tj_words.specs.declared.view.View.{View}
use Rattle.tj_words.specs.Words.Lists.{Any, without}
use Rattle.tj_words.specs.Words.Heads.{head_word, head_in, shut_word}
use Rattle.tj_words.specs.LawParts.Chains.{head_of}
use Rattle.tj_words.specs.SeatViews.SeatSteps.{Tells}
use Rattle.tj_words.specs.SeatViews.SeenWords.{FindsShut, FindsChain}

-- the pushes, where NEXT of t was stored
abbrev pub with_next : ℕ → Head → List Push → List Push
with_next t h [] = []
with_next t h (e ∷ es) = cond (nat_eq e.task t) (record e { next = Some h }) e ∷ with_next t h es

-- the pushes but that of t
abbrev pub without_push : ℕ → List Push → List Push
without_push t [] = []
without_push t (e ∷ es) = cond (nat_eq e.task t) (without_push t es) (e ∷ without_push t es)

-- what is left of a chain that was taken: nothing of an empty one
abbrev pub rest_of : ℕ → List ℕ → Option Rest
rest_of p [] = None
rest_of p (t ∷ ts) = Some (record { cell = p; tasks = t ∷ ts; way = None })

module _ {B : Type 0} where
  -- NEXT of t was stored
  abbrev pub stored_next : ℕ → Head → View B → View B
  stored_next t h v = record v { steps = suc v.steps; pushes = with_next t h v.pushes }

  -- t was added to a chain
  abbrev pub pushed : ℕ → View B → View B
  pushed t v = record v { steps = suc v.steps; pushes = without_push t v.pushes }

  -- the head of p was shut, and its chain taken
  abbrev pub took_chain : ℕ → List ℕ → View B → View B
  took_chain p chain v = record v {
    steps = suc v.steps;
    shuts = without p v.shuts;
    rest = rest_of p chain;
    closed = p ∷ v.closed;
  }

  -- the head of p was shut already
  abbrev pub found_taken : ℕ → View B → View B
  found_taken p v = record v { steps = suc v.steps; shuts = without p v.shuts; closed = p ∷ v.closed }

  -- the seat has the push of t to the chain of p to come
  abbrev pub HasPush : ℕ → View B → Type 0
  HasPush t v = Any (λ (e : Push). e.task ≡ t) v.pushes

  -- and has stored this into NEXT of t last
  abbrev pub HasPushBehind : ℕ → ℕ → Head → View B → Type 0
  HasPushBehind t p h v = Any (λ (e : Push). (e.task ≡ t) × (e.cell ≡ p) × (e.next ≡ Some h)) v.pushes

  -- the seat knows what has become of p
  abbrev pub KnowsEntry : ℕ → View B → Type 0
  KnowsEntry p v = Any (λ (f : Filled). f.cell ≡ p) v.filled

  -- a store of NEXT of t
  abbrev pub next_store : ℕ → Tells B
  next_store t st m n m' = (m'.1 ≡ m.1) × (m'.0 ≡ stored_next t (head_in st.first) m.0)

  -- the chain that a shut took: it has at most as many tasks as there are cells, and its head names one of these
  pub record TakesChain (cells p : ℕ) (h : Head) (v w : View B) : Type 0 where
    pub chain : List ℕ
    pub is : h ≡ head_of chain
    pub short : length chain ≤ cells
    pub small : head_word h ≤ cells
    pub view : w ≡ took_chain p chain v

  -- a swap that shuts the head of p
  abbrev pub shut_swap : ℕ → ℕ → Tells B
  shut_swap cells p st m n m' = (m'.1 ≡ m.1) × (n ≤ shut_word)
      × (head_in n ≡ Shut → m'.0 ≡ found_taken p m.0)
      × (head_in n ≢ Shut → TakesChain cells p (head_in n) m.0 m'.0)

  -- an exchange of HEAD of p, by the word of a task
  abbrev pub push_exchange : (Bool → B → Program B) → ℕ → ℕ → Tells B
  push_exchange program cells p st m n m' = (m'.1 ≡ m.1) × (n ≤ shut_word)
      × (n ≡ st.first → m'.0 ≡ pushed (st.second - 1) m.0)
      × (n ≢ st.first → head_in n ≡ Shut → FindsShut program cells p m.0 m'.0)
      × (n ≢ st.first → head_in n ≢ Shut → FindsChain cells p (head_in n) m.0 m'.0)
