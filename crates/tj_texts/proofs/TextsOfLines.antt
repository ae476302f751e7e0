-- The text of a forest tells findings that are told together one after the other, and has so many lines for them.
use Rattle.std.proofs.Common.{◌≡◌, ◌<◌, ◌≤◌, ◌+◌, ◌-◌, ◌⊎◌, inl, inr, ℕ, zero, suc, Bool, true, false, ◌||◌, nat_eq}
use Rattle.std.proofs.Common.{nat_le}
use Rattle.std.proofs.Common.{cond, List, [], ◌∷◌, ◌++◌, length, map, take, drop, Option, Some, None}
use Rattle.std.proofs.Common.{refl, sym, ap, subst, ◌∙◌, arith, append_assoc, append-nil}
use Rattle.std.specs.Prelude.{codes, decimal, option_to_list, slice_get}
use Rattle.std.proofs.lemmas.List.{take_all}
use Rattle.std.proofs.Common.{length-drop}
use Rattle.std.proofs.lemmas.Bool.Decides.{nat_tests}
use Rattle.tj_lex.specs.declared.place.Place.{Place}
use Rattle.tj_mean.specs.ReportTexts.{line_feed}
use Rattle.tj_faults.specs.Carets.{below, caret_in, line_in}
use Rattle.tj_findings.specs.Groups.{waits_at}
use Rattle.tj_findings.specs.LinesTold.{AreLines, HasPlainNames, IsPlain}
use Rattle.tj_findings.specs.Scenes.{Told, told_spot}
use Rattle.tj_findings.specs.declared.finding.Finding.{Finding}
use Rattle.tj_findings.specs.declared.finding.Finding.TheVariants as finding
use Rattle.tj_findings.specs.declared.finding.ToldTask.{ToldTask}
use Rattle.tj_findings.specs.declared.finding.Wait.{Wait}
use Rattle.tj_findings.proofs.PlainTexts.{lines_both, lines_past, one_line, plain_before, plain_both, plain_byte}
use Rattle.tj_findings.proofs.PlainTexts.{plain_decimal}
use Rattle.tj_texts.specs.LineLaws.{HasPlainLines, HaveLines, end_lines, lines_at, member_lines, source_lines}
use Rattle.tj_texts.specs.WhyTexts as why
use Rattle.tj_texts.specs.WhyTexts.{end_members, most_members}
use Rattle.tj_texts.proofs.PlainTexts.{echo_line, failed_line, owed_line, plain_tasks, plain_times, wait_line}

-- a member of a list, and the rest from it on
pub at_place : {A : Type 0} (xs : List A) (n : ℕ) → n < length xs
    → (x : A) × (slice_get xs n ≡ Some x) × (drop n xs ≡ x ∷ drop (suc n) xs)
at_place [] n less = absurd (omega (arith, less))
at_place (x ∷ xs) zero less = (x, refl, refl)
at_place (x ∷ xs) (suc n) less = at_place xs n (omega (arith, less))

-- spaces below a line
plain_below : (x : List ℕ) → IsPlain (map below x)
plain_below [] = refl
plain_below (b ∷ x) = by (nat_eq b 9) (plain_below x) where
  by : (t : Bool) → IsPlain (map below x) → IsPlain (cond t 9 32 ∷ map below x)
  by true p = plain_byte 9 (map below x) (λ e. omega (arith, e)) p
  by false p = plain_byte 32 (map below x) (λ e. omega (arith, e)) p

-- no line more, or some
abbrev MoreLines : ℕ → List ℕ → Type 0
MoreLines n text = ((text ≡ []) × (n ≡ 0)) ⊎ AreLines n text

-- lines, and perhaps more
more : (m n : ℕ) (x y : List ℕ) → AreLines m x → MoreLines n y → AreLines (m + n) (x ++ y)
more m n x y k (inl none) =
    let none_more : x ++ [] ≡ x ++ y = ap (λ z. x ++ z) (sym none.0) in
    let same : m ≡ m + n = omega (arith, none.1) in
    subst (λ z. AreLines (m + n) z) (sym (append-nil x) ∙ none_more) (subst (λ z. AreLines z x) same k)
more m n x y k (inr l) = lines_both m n x y k l

module _ (s : Told) (lines : HasPlainLines s) where
  -- a source line and a caret
  at_position : (p : Option Place) → MoreLines (lines_at p) (caret_in s.lines p)
  at_position None = inl (refl, refl)
  at_position (Some p) =
      let own = line_in s.lines p.line in
      inr (lines_past 1 1 (own ++ codes "\n") (map below (take (p.column - 1) own)) (codes "^\n")
      (one_line own (lines p.line)) (plain_below (take (p.column - 1) own)) (one_line (codes "^") refl))

  -- the source line of a task
  source : (t : ToldTask) → MoreLines (source_lines s t) (why.source_line s t)
  source t = by s.short where
    by : (b : Bool) → MoreLines (cond b 0 (lines_at (told_spot (slice_get s.places t.decl) t.at)))
        (cond b [] (caret_in s.lines (told_spot (slice_get s.places t.decl) t.at)))
    by true = inl (refl, refl)
    by false = at_position (told_spot (slice_get s.places t.decl) t.at)

module _ (s : Told) (plain : HasPlainNames s) (lines : HasPlainLines s) (fs : List Finding) (ws : List Wait) where
  -- the waits of the members with this number, of which the first is known
  waits : (n : ℕ) (w : Wait) → slice_get ws n ≡ Some w
      → waits_at n (finding.Cycle ws ∷ fs) ≡ w ∷ waits_at n fs
  waits n w is = ap (λ o. option_to_list o ++ waits_at n fs) is

  -- the text of the members with this number, and of so many from it on
  abbrev one_at : ℕ → List ℕ
  one_at n = why.member s (finding.Cycle ws ∷ fs) n

  abbrev from_at : ℕ → ℕ → List ℕ
  from_at n k = why.members_from s (finding.Cycle ws ∷ fs) n k

  -- the lines of a member
  abbrev own_lines : Wait → ℕ
  own_lines w = 1 + source_lines s w.task

  -- the members with this number
  member : (n : ℕ) (w : Wait) → slice_get ws n ≡ Some w
      → AreLines (1 + source_lines s w.task) (why.member s (finding.Cycle ws ∷ fs) n)
  member n w is =
      let them = w ∷ waits_at n fs in
      subst (λ z. AreLines (1 + source_lines s w.task) (why.member_lines s z)) (sym (waits n w is))
      (more 1 (source_lines s w.task) (codes "  " ++ why.wait_text s w them) (why.source_line s w.task)
      (plain_before 1 (codes "  ") (why.wait_text s w them) refl (wait_line s plain w them)) (source s lines w.task))

  -- a member behind lines, and others behind it
  one_more : (k n m : ℕ) (x : List ℕ) (w : Wait) → slice_get ws n ≡ Some w → drop n ws ≡ w ∷ drop (n + 1) ws
      → AreLines m x
      → (AreLines (m + own_lines w) (x ++ one_at n)
      → AreLines (m + own_lines w + member_lines s (take k (drop (n + 1) ws))) (x ++ one_at n ++ from_at (n + 1) k))
      → AreLines (m + member_lines s (take (suc k) (drop n ws))) (x ++ (one_at n ++ from_at (n + 1) k))
  one_more k n m x w is from l rest =
      let behind : ℕ = member_lines s (take k (drop (n + 1) ws)) in
      let text = x ++ (one_at n ++ from_at (n + 1) k) in
      let sums : m + own_lines w + behind ≡ m + (own_lines w + behind) = omega arith in
      subst (λ z. AreLines (m + member_lines s (take (suc k) z)) text) (sym from)
      (subst (λ z. AreLines z text) sums
      (subst (λ z. AreLines (m + own_lines w + behind) z) (append_assoc x (one_at n) (from_at (n + 1) k))
      (rest (lines_both m (own_lines w) x (one_at n) l (member n w is)))))

  -- so many members behind lines
  members : (k n m : ℕ) (x : List ℕ) → n + k ≤ length ws → AreLines m x
      → AreLines (m + member_lines s (take k (drop n ws))) (x ++ from_at n k)
  members zero n m x within l =
      let same : m ≡ m + 0 = omega arith in
      subst (λ z. AreLines (m + 0) z) (sym (append-nil x)) (subst (λ z. AreLines z x) same l)
  members (suc k) n m x within l =
      let here = at_place ws n (omega (arith, within)) in
      let next : suc n ≡ n + 1 = omega arith in
      one_more k n m x here.0 here.1 (here.2 ∙ ap (λ i. here.0 ∷ drop i ws) next) l
      (members k (n + 1) (m + own_lines here.0) (x ++ one_at n) (omega (arith, within)))

  -- the line that counts cycles
  counted : AreLines 1 (codes "deadlock: " ++ why.times (length (finding.Cycle ws ∷ fs)) ++ why.tasks_text (length ws)
      ++ why.each_other (length ws))
  counted =
      let times = why.times (length (finding.Cycle ws ∷ fs)) in
      plain_before 1 (codes "deadlock: " ++ times ++ why.tasks_text (length ws)) (why.each_other (length ws))
      (plain_both (codes "deadlock: " ++ times) (why.tasks_text (length ws))
      (plain_both (codes "deadlock: ") times refl (plain_times (length (finding.Cycle ws ∷ fs))))
      (plain_tasks (length ws))) (by (nat_eq (length ws) 1)) where
        by : (b : Bool) → AreLines 1 (cond b (codes " waits for itself\n") (codes " wait for each other\n"))
        by true = one_line (codes " waits for itself") refl
        by false = one_line (codes " wait for each other") refl

  -- a line for members that are left out
  left_line : (n : ℕ) → AreLines 1 (why.left_out n)
  left_line n =
      plain_before 1 (codes "  .. " ++ decimal n) (codes " more ..\n")
      (plain_both (codes "  .. ") (decimal n) refl (plain_decimal n)) (one_line (codes " more ..") refl)

  module _ (head : List ℕ) (l : AreLines 1 head) where
    -- all members behind the line that counts cycles
    each : AreLines (1 + member_lines s ws) (head ++ why.members_from s (finding.Cycle ws ∷ fs) 0 (length ws))
    each =
        let whole : length ws ≤ length ws = omega arith in
        subst (λ z. AreLines (1 + member_lines s z)
        (head ++ why.members_from s (finding.Cycle ws ∷ fs) 0 (length ws))) (take_all (length ws) ws whole)
        (members (length ws) 0 1 head (omega arith) l)

    -- the members at the two ends
    ends : most_members < length ws → AreLines (1 + end_lines s ws)
        (head ++ why.ends s (finding.Cycle ws ∷ fs) (length ws))
    ends long =
        let own = finding.Cycle ws ∷ fs in
        let from = length ws - end_members in
        let first = why.members_from s own 0 end_members in
        let left = why.left_out (length ws - most_members) in
        let last = why.members_from s own from end_members in
        let begun : ℕ = 1 + member_lines s (take end_members ws) in
        let so_far = lines_both begun 1 (head ++ first) left (members end_members 0 1 head (omega (arith, long)) l)
        (left_line (length ws - most_members)) in
        let all = members end_members from (begun + 1) (head ++ first ++ left) (omega (arith, long)) so_far in
        let rest : take end_members (drop from ws) ≡ drop from ws
        = take_all end_members (drop from ws) (omega (arith, long, length-drop from ws)) in
        let text : head ++ first ++ left ++ last ≡ head ++ (first ++ left ++ last)
        = ap (λ z. z ++ last) (append_assoc head first left) ∙ append_assoc head (first ++ left) last in
        let sums : begun + 1 + member_lines s (drop from ws) ≡ 1 + end_lines s ws = omega arith in
        subst (λ z. AreLines (1 + end_lines s ws) z) text
        (subst (λ z. AreLines z (head ++ first ++ left ++ last)) sums
        (subst (λ z. AreLines (begun + 1 + member_lines s z) (head ++ first ++ left ++ last)) rest all))

    -- the members that are told
    told : (a t : Bool) → nat_le (length ws) most_members ≡ t
        → AreLines (1 + cond (a || t) (member_lines s ws) (end_lines s ws)) (head ++ cond (a || t)
        (why.members_from s (finding.Cycle ws ∷ fs) 0 (length ws)) (why.ends s (finding.Cycle ws ∷ fs) (length ws)))
    told true t e = each
    told false true e = each
    told false false e = let long : most_members < length ws = grind (arith, nat_tests, e) in ends long

module _ (s : Told) (plain : HasPlainNames s) (lines : HasPlainLines s) where
  -- the lines of findings that are alike
  pub have_lines : HaveLines s
  have_lines all (finding.Cycle ws) gs =
      told s plain lines gs ws (codes "deadlock: " ++ why.times (length (finding.Cycle ws ∷ gs))
      ++ why.tasks_text (length ws) ++ why.each_other (length ws)) (counted s plain lines gs ws) all
      (nat_le (length ws) most_members) refl
  have_lines all (finding.Behind w) gs =
      let them = w ∷ waits_at 0 gs in
      plain_before 1 (codes "behind a deadlock: ") (why.wait_text s w them) refl (wait_line s plain w them)
  have_lines all (finding.Failed t c m) gs =
      let fs = finding.Failed t c m ∷ gs in
      more 1 (source_lines s t)
      (why.failed_text s t fs ++ why.why_failed s t c fs ++ why.about_text s t m fs ++ line_feed)
      (why.source_line s t) (failed_line s plain t c m fs) (source s lines t)
  have_lines all (finding.Owed q t) gs = owed_line s plain q t (finding.Owed q t ∷ gs)
  have_lines all (finding.Echo t q o) gs = echo_line s plain t q o (finding.Echo t q o ∷ gs)
