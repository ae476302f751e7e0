-- What the tasks of a relay ask, ask by ask.
use Rattle.std.proofs.Common.{◌≡◌, ◌≤◌, ◌<◌, ℕ, zero, suc, ◌+◌, ◌-◌, ◌/◌, List, [], ◌∷◌, ◌++◌, length, ℤ, pos, ◌+ℤ◌}
use Rattle.std.proofs.Common.{true, cond, nat_lt, ap, ◌∙◌, arith, lt-ltb, le-ltb}
use Rattle.std.specs.List.{flat_map}
use Rattle.tj_chan.specs.Relays.{relay_asks, relay_then, root_relay, first_child, second_child}
use Rattle.tj_chan.specs.Relays.{RelayTurn, turn_of, relay_turn, more_turn, sum_turn, hand_on}
use Rattle.tj_chan.specs.Relays.{total, SumsFit, sends_from, GivesRelay, the_channel}
use Rattle.tj_body.specs.RowLists.{asks_given}
use Rattle.tj_chan.specs.declared.chat.ChatAnswer.{ChatAnswer}
use Rattle.tj_chan.specs.declared.chat.ChatAnswer.TheVariants as answer
use Rattle.tj_chan.specs.declared.chat.ChatAsk.{ChatAsk}
use Rattle.tj_chan.specs.declared.chat.ChatAsk.TheVariants as ask
use Rattle.tj_chan.specs.declared.relay.Part.{Part}
use Rattle.tj_chan.specs.declared.relay.Part.TheVariants as part
use Rattle.tj_chan.specs.declared.relay.Relay.{Relay}

-- the relay in this part
abbrev at : Part → (size : ℕ) → (count : ℕ) → ℤ → Relay
at p size count s = record { part = p; size = size; count = count; sum = s }

-- what a relay asks, given these answers
abbrev asked : Relay → List ChatAnswer → List (ChatAsk Relay)
asked = asks_given relay_asks relay_then

-- an ask of a relay whose turn is known, and what it asks after it
asked_by : (r : Relay) (a : ChatAnswer) (rest : List ChatAnswer) (t : RelayTurn) → turn_of r.part a r ≡ t
    → asked r (a ∷ rest) ≡ t.ask ∷ asked t.relay rest
asked_by r a rest t e = ap (λ (z : RelayTurn). z.ask ∷ asked z.relay rest) e

-- a turn that hangs on a test
turn_if : (m n : ℕ) (s t : RelayTurn) → m < n → cond (nat_lt m n) s t ≡ s
turn_if m n s t l = ap (λ b. cond b s t) (lt-ltb m n l)

turn_else : (m n : ℕ) (s t : RelayTurn) → n ≤ m → cond (nat_lt m n) s t ≡ t
turn_else m n s t l = ap (λ b. cond b s t) (le-ltb m n l)

-- from the first receive on
receives : (size count : ℕ) (s : ℤ) (vs : List ℤ) → count + length vs ≡ size → SumsFit s vs
    → asked (at part.Receives size count s) (answer.Done ∷ flat_map (λ v. answer.Num v ∷ answer.Done ∷ []) vs)
    ≡ flat_map (λ v. ask.Recv 0 ∷ ask.Emit v ∷ []) vs ++ ask.End (total s vs) ∷ []
receives size count s [] e h = let r = at part.Receives size count s in
    asked_by r answer.Done [] (relay_turn (ask.End s) part.Over r) (turn_else count size _ _ (omega arith))
receives size count s (v ∷ vs) e h = let r = at part.Receives size count s in
    let q = at part.Prints size count s in
    let l : count + 1 + length vs ≡ size = omega arith in
    let more = answer.Done ∷ flat_map (λ v. answer.Num v ∷ answer.Done ∷ []) vs in
    asked_by r answer.Done (answer.Num v ∷ more) (relay_turn (ask.Recv 0) part.Prints r)
    (turn_if count size _ _ (omega arith))
    ∙ ap (λ l. ask.Recv 0 ∷ l) (asked_by q (answer.Num v) more (sum_turn true v q) (ap (λ b. sum_turn b v q) h.0)
    ∙ ap (λ l. ask.Emit v ∷ l) (receives size (count + 1) (s +ℤ v) vs l h.1))

-- what is left of the first half, and then the spawn
sends : (size n count : ℕ) (answers : List ChatAnswer) → count + n ≡ size / 2 → length answers ≡ n + 2
    → asked (at part.Sends size count (pos 0)) answers
    ≡ sends_from (count + 1) n ++ ask.Spawn (second_child size) the_channel the_channel ∷ ask.End (pos 0) ∷ []
sends size n count [] e l = absurd (none n l) where
  none : (n : ℕ) → 0 ≡ n + 2 → ⊥
  none n h = omega arith
sends size zero count (a ∷ []) e l = absurd (none l) where
  none : 1 ≡ 0 + 2 → ⊥
  none h = omega arith
sends size zero count (a ∷ b ∷ []) e l = let r = at part.Sends size count (pos 0) in
    let is : count ≡ size / 2 = omega arith in
    asked_by r a (b ∷ []) (relay_turn (hand_on part.SendsRest r) part.Ends r)
    (turn_else count (size / 2) _ _ (omega arith))
    ∙ ap (λ (k : ℕ). ask.Spawn (at part.SendsRest size k (pos 0)) the_channel the_channel ∷ ask.End (pos 0) ∷ []) is
sends size zero count (a ∷ b ∷ c ∷ rest) e l = absurd (none (length rest) l) where
  none : (n : ℕ) → suc (suc (suc n)) ≡ 0 + 2 → ⊥
  none n h = omega arith
sends size (suc n) count (a ∷ rest) e l = let r = at part.Sends size count (pos 0) in
    asked_by r a rest (more_turn r) (turn_if count (size / 2) _ _ (omega arith))
    ∙ ap (λ l. ask.Send 0 (pos (count + 1)) ∷ l) (sends size n (count + 1) rest (omega arith) (omega arith))

-- what is left of the second half, and then the end
sends_rest : (size n count : ℕ) (answers : List ChatAnswer) → count + n ≡ size → length answers ≡ n + 1
    → asked (at part.SendsRest size count (pos 0)) answers ≡ sends_from (count + 1) n ++ ask.End (pos 0) ∷ []
sends_rest size n count [] e l = absurd (none n l) where
  none : (n : ℕ) → 0 ≡ n + 1 → ⊥
  none n h = omega arith
sends_rest size zero count (a ∷ []) e l = let r = at part.SendsRest size count (pos 0) in
    asked_by r a [] (relay_turn (ask.End (pos 0)) part.Over r) (turn_else count size _ _ (omega arith))
sends_rest size zero count (a ∷ b ∷ rest) e l = absurd (none (length rest) l) where
  none : (n : ℕ) → suc (suc n) ≡ 0 + 1 → ⊥
  none n h = omega arith
sends_rest size (suc n) count (a ∷ rest) e l = let r = at part.SendsRest size count (pos 0) in
    asked_by r a rest (more_turn r) (turn_if count size _ _ (omega arith))
    ∙ ap (λ l. ask.Send 0 (pos (count + 1)) ∷ l) (sends_rest size n (count + 1) rest (omega arith) (omega arith))

-- the half is at most the whole
half : (k : ℕ) → k / 2 + (k - k / 2) ≡ k
half k = omega arith

-- the tasks of a relay ask what is said
pub gives_relay : (k : ℕ) → GivesRelay k (root_relay k)
gives_relay k = record {
  root = λ vs l h. ap (λ l. ask.Open k ∷ ask.Spawn (first_child k) the_channel the_channel ∷ l)
      (receives k 0 (pos 0) vs (omega arith) h);
  first = λ answers l. sends k (k / 2) 0 answers (omega arith) l;
  second = λ answers l. sends_rest k (k - k / 2) (k / 2) answers (half k) l;
}
