-- The line of an alarm, task by task.
use Rattle.std.proofs.Common.{◌≡◌, ℕ, ◌+◌, ◌<◌, List, [], ◌∷◌, ◌++◌, length, take, get_or, map, codes, decimal, sym, ap, ◌∙◌, arith, append_assoc}
use Rattle.std.specs.List.{flat_map}
use Rattle.std.proofs.lemmas.Grind.{flat_map-append}
use Rattle.std.proofs.lemmas.List.{map-append, take_more, take_all, append-nil}
use Rattle.tj_base.specs.declared.cell.CellId.{CellId}
use Rattle.tj_events.specs.CoreState.{Cells}
use Rattle.tj_core.specs.Journals.Judging.{wait_text, alarm_line}

-- what stands in front of the waits of the others
abbrev pub alarm_head : Cells → ℕ → ℕ → List ℕ
alarm_head cells t loads =
    codes "task " ++ decimal t ++ codes " alarmed after " ++ decimal loads ++ codes " loads: " ++ wait_text cells t

abbrev pub numbers : List CellId → List ℕ
numbers tasks = map (λ c. c.0) tasks

-- the waits of these tasks, each behind a comma
abbrev pub other_waits : Cells → List ℕ → List ℕ
other_waits cells ts = flat_map (λ u. codes ", " ++ wait_text cells u) ts

-- the wait of one task more
pub waits_more : (cells : Cells) (head line new : List ℕ) (others : List CellId) (i : ℕ) (d : CellId)
    → i < length others
    → line ≡ head ++ other_waits cells (numbers (take i others))
    → new ≡ (line ++ codes ", ") ++ wait_text cells (get_or others i d).0
    → new ≡ head ++ other_waits cells (numbers (take (i + 1) others))
waits_more cells head line new others i d inside so_far e =
    let o = get_or others i d in
    let before = other_waits cells (numbers (take i others)) in
    let one : List ℕ = codes ", " ++ wait_text cells o.0 in
    let f : take (i + 1) others ≡ take i others ++ o ∷ [] = take_more others i d inside in
    let g : numbers (take (i + 1) others) ≡ numbers (take i others) ++ o.0 ∷ [] = ap numbers f ∙ map-append
    (λ (c : CellId). c.0) (take i others) (o ∷ []) in
    let h : other_waits cells (numbers (take (i + 1) others)) ≡ before ++ one =
    ap (other_waits cells) g ∙ flat_map-append (λ u. codes ", " ++ wait_text cells u) (numbers (take i others))
    (o.0 ∷ [])
    ∙ ap (λ (x : List ℕ). before ++ x) (append-nil one) in
    e ∙ append_assoc line (codes ", ") (wait_text cells o.0) ∙ ap (λ (x : List ℕ). x ++ one) so_far
    ∙ append_assoc head before one ∙ ap (λ (x : List ℕ). head ++ x) (sym h)

-- the line where all have been said
pub alarm_whole : (cells : Cells) (t loads : ℕ) (line new : List ℕ) (others : List CellId) (i : ℕ)
    → line ≡ alarm_head cells t loads ++ other_waits cells (numbers (take i others)) → i ≡ length others
    → new ≡ line ++ codes "\n" → new ≡ alarm_line cells t loads (numbers others)
alarm_whole cells t loads line new others i so_far all e =
    e ∙ ap (λ (x : List ℕ). x ++ codes "\n")
    (so_far ∙ ap (λ (xs : List CellId). alarm_head cells t loads ++ other_waits cells (numbers xs))
    (take_all i others (omega arith)))

-- the line in front of the waits of the others, piece by piece
pub head_said : (cells : Cells) (t loads : ℕ) (others : List CellId) (l1 l2 l3 l4 l5 l6 : List ℕ)
    → l1 ≡ codes "task " → l2 ≡ l1 ++ decimal t → l3 ≡ l2 ++ codes " alarmed after " → l4 ≡ l3 ++ decimal loads
    → l5 ≡ l4 ++ codes " loads: " → l6 ≡ l5 ++ wait_text cells t
    → l6 ≡ alarm_head cells t loads ++ other_waits cells (numbers (take 0 others))
head_said cells t loads others l1 l2 l3 l4 l5 l6 e1 e2 e3 e4 e5 e6 =
    e6 ∙ ap (λ (x : List ℕ). x ++ wait_text cells t) (e5 ∙ ap (λ (x : List ℕ). x ++ codes " loads: ")
    (e4 ∙ ap (λ (x : List ℕ). x ++ decimal loads) (e3 ∙ ap (λ (x : List ℕ). x ++ codes " alarmed after ")
    (e2 ∙ ap (λ (x : List ℕ). x ++ decimal t) e1))))
    ∙ sym (append-nil (alarm_head cells t loads))
