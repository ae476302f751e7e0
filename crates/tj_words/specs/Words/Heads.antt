-- The word of a head, and the head of a word.
use Rattle.std.specs.Prelude.{ℕ, suc, ◌-◌, ◌<◌, ◌^◌, cond, nat_eq}
use Rattle.tj_words.specs.declared.head.Head.{Head}
use Rattle.tj_words.specs.declared.head.Head.TheVariants.{Empty, Task, Shut}

-- the word of a head that is shut
abbrev pub shut_word : ℕ
shut_word = 2 ^ 32

-- the word of a head
abbrev pub head_word : Head → ℕ
head_word Empty = 0
head_word (Task task) = suc task.0
head_word Shut = shut_word

-- its word stands for no other head
abbrev pub HasWord : Head → Type 0
HasWord Empty = Unit {0}
HasWord (Task task) = suc task.0 < shut_word
HasWord Shut = Unit {0}

-- the head of a word
abbrev pub head_in : ℕ → Head
head_in word =
    cond (nat_eq word 0) Empty
    (cond (nat_eq word shut_word) Shut
    (Task (record { 0 = word - 1 })))
