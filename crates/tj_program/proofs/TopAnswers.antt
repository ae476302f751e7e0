-- What the top call answers to words is answered to the same words by another name.
use Rattle.tj_program.proofs.Prelude.{Global, List, Option, RestCell, Status, subst, ℕ, ◌≡◌}
use Rattle.std.specs.Prelude.{String}
use Rattle.tj_program.specs.TopAnswers.{IsTopAnswer}

-- the answer to words is one to whatever list is the same
pub to_same_words : {words other : List (String Global)} {left left_after : Option (List ℕ)} {reads reads_after : ℕ}
    {IsUnread NeverFails NeverFailsAfter : Type 0} {held held_after : Option (List ℕ)} {puts puts_after : ℕ}
    {HasRoom : ℕ → Type 0} {IsUnwritten : Type 0} {status : Status} {closed : Option (List RestCell)}
    → words ≡ other
    → IsTopAnswer words left left_after reads reads_after IsUnread NeverFails NeverFailsAfter held held_after puts
    puts_after HasRoom IsUnwritten status closed
    → IsTopAnswer other left left_after reads reads_after IsUnread NeverFails NeverFailsAfter held held_after puts
    puts_after HasRoom IsUnwritten status closed
to_same_words {left = left} {left_after = left_after} {reads = reads} {reads_after = reads_after}
    {IsUnread = IsUnread} {NeverFails = NeverFails} {NeverFailsAfter = NeverFailsAfter} {held = held}
    {held_after = held_after} {puts = puts} {puts_after = puts_after} {HasRoom = HasRoom}
    {IsUnwritten = IsUnwritten} {status = status} {closed = closed} same answer =
    subst (λ ws. IsTopAnswer ws left left_after reads reads_after IsUnread NeverFails NeverFailsAfter held held_after
    puts puts_after HasRoom IsUnwritten status closed) same answer
