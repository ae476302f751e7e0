-- What the top call answers to words is answered to the same words by another name.
use Rattle.std.proofs.Common.{List, Option, String, subst, ℕ, ◌≡◌}
use Rattle.std.specs.declared.alloc.Global.{Global}
use Rattle.tj_command.specs.declared.status.Status.{Status}
use Rattle.tj_explain.specs.WhyAnswers.{IsWhyAnswer}

-- the answer to words is one to whatever list is the same
pub to_same_words : {words other : List (String Global)} {left left_after : Option (List ℕ)} {reads reads_after : ℕ}
    {IsUnread NeverFails NeverFailsAfter : Type 0} {held held_after : Option (List ℕ)} {puts puts_after : ℕ}
    {HasRoom : ℕ → Type 0} {IsUnwritten : Type 0} {status : Status} → words ≡ other
    → IsWhyAnswer words left left_after reads reads_after IsUnread NeverFails NeverFailsAfter held held_after puts
    puts_after HasRoom IsUnwritten status
    → IsWhyAnswer other left left_after reads reads_after IsUnread NeverFails NeverFailsAfter held held_after puts
    puts_after HasRoom IsUnwritten status
to_same_words {left = left} {left_after = left_after} {reads = reads} {reads_after = reads_after}
    {IsUnread = IsUnread} {NeverFails = NeverFails} {NeverFailsAfter = NeverFailsAfter} {held = held}
    {held_after = held_after} {puts = puts} {puts_after = puts_after} {HasRoom = HasRoom}
    {IsUnwritten = IsUnwritten} {status = status} same answer =
    subst (λ ws. IsWhyAnswer ws left left_after reads reads_after IsUnread NeverFails NeverFailsAfter held held_after
    puts puts_after HasRoom IsUnwritten status) same answer
