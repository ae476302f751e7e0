-- The law of texts: findings that are told together have lines of their own, in the forest's order.
use Rattle.std.specs.Prelude.{◌≡◌, ℕ, zero, suc, ◌+◌, ◌-◌, Bool, true, ◌||◌, nat_eq, nat_le, cond, List, [], ◌∷◌}
use Rattle.std.specs.Prelude.{◌++◌, codes, decimal, drop, length, map, slice_get, take, unwrap_or, Option, Some, None}
use Rattle.std.specs.List.{flat_map, range_with_len}
use Rattle.std.specs.Option.{option_map}
use Rattle.tj_base.specs.ForkOrder.{Name}
use Rattle.tj_base.specs.Texts.{name_text}
use Rattle.tj_body.specs.Points.{IsIn}
use Rattle.tj_lex.specs.declared.place.Place.{Place}
use Rattle.tj_faults.specs.Carets.{line_in}
use Rattle.tj_findings.specs.Forests.{Forest}
use Rattle.tj_findings.specs.Groups.{Group, groups, leaf_groups}
use Rattle.tj_findings.specs.LinesTold.{AreLines, HasPlainNames, IsPlain, StandInOrder, with_levels}
use Rattle.tj_findings.specs.Scenes.{Told, stop_text, told_spot}
use Rattle.tj_findings.specs.declared.finding.Finding.{Finding}
use Rattle.tj_findings.specs.declared.finding.Finding.TheVariants as finding
use Rattle.tj_findings.specs.declared.finding.ToldTask.{ToldTask}
use Rattle.tj_findings.specs.declared.finding.Wait.{Wait}
use Rattle.tj_texts.specs.GroupLaws.{AllSaySame}
use Rattle.tj_texts.specs.WhyTexts.{forest_text, members_text}

-- the findings of a group with their level, and behind them those of the groups of what follows from them
abbrev pub group_with_levels : Bool → Group → List (ℕ × List Finding)
group_with_levels all g = (0, g.members) ∷ map (λ h. (1, h.members)) (leaf_groups all g.below)

-- the findings of a forest that are told together, with their levels, in the order in which they are told
abbrev pub told_together : Bool → Forest → List (ℕ × List Finding)
told_together all f = flat_map (group_with_levels all) (groups all f.trees) ++ map (λ g. (0, g ∷ [])) f.strays

-- a finding by itself, with its level
abbrev pub by_itself : ℕ × Finding → ℕ × List Finding
by_itself g = (g.0, g.1 ∷ [])

-- what stands in front of the first line of what has this level
abbrev pub indent : ℕ → List ℕ
indent zero = []
indent (suc n) = codes "  "

-- what is told of findings that are told together
abbrev pub together_text : Told → Bool → ℕ × List Finding → List ℕ
together_text s all g = indent g.0 ++ members_text s all g.1

-- the text of a forest tells its findings, those that are told together at once, one after the other
abbrev pub TellEach : Told → Type 0
TellEach s = (all : Bool) (f : Forest) → forest_text s all f ≡ flat_map (together_text s all) (told_together all f)

-- where all is told, each finding is told by itself
abbrev pub AllTellEach : Type 0
AllTellEach = (f : Forest) → told_together true f ≡ map by_itself (with_levels f)

-- there are findings among those that are told together
abbrev pub NoneTellNothing : Type 0
NoneTellNothing = (all : Bool) (f : Forest) (g : ℕ × List Finding) → IsIn g (told_together all f) → g.1 ≡ [] → ⊥

-- a source line and a caret, where there is a position
abbrev pub lines_at : Option Place → ℕ
lines_at None = 0
lines_at (Some p) = 2

-- how many lines tell the source line where a task stopped, if such lines are told
abbrev pub source_lines : Told → ToldTask → ℕ
source_lines s t = cond s.short 0 (lines_at (told_spot (slice_get s.places t.decl) t.at))

-- how many lines tell members of a cycle: one each, and their source lines
abbrev pub member_lines : Told → List Wait → ℕ
member_lines s [] = 0
member_lines s (w ∷ ws) = 1 + source_lines s w.task + member_lines s ws

-- the same of the members at the two ends of a long cycle, and a line between them
abbrev pub end_lines : Told → List Wait → ℕ
end_lines s ws = member_lines s (take 10 ws) + 1 + member_lines s (drop (length ws - 10) ws)

-- how many lines tell findings that are alike, of which this is the first: one, below that of a failure the source
-- line, and below that of a cycle its members, of a long one those at its two ends
abbrev pub lines_of : Told → Bool → Finding → ℕ
lines_of s all (finding.Cycle ws) =
    1 + cond (all || nat_le (length ws) 20) (member_lines s ws) (end_lines s ws)
lines_of s all (finding.Behind w) = 1
lines_of s all (finding.Failed t c m) = 1 + source_lines s t
lines_of s all (finding.Owed q t) = 1
lines_of s all (finding.Echo t q o) = 1

-- no source line has a line feed
abbrev pub HasPlainLines : Told → Type 0
HasPlainLines s = (n : ℕ) → IsPlain (line_in s.lines n)

-- findings that are told together have so many lines
abbrev pub HaveLines : Told → Type 0
HaveLines s = (all : Bool) (g : Finding) (gs : List Finding)
    → AreLines (lines_of s all g) (members_text s all (g ∷ gs))

-- the name by which a line tells a finding that is no cycle: that of its task, or of the promise that was owed
abbrev pub finding_name : Finding → Name
finding_name (finding.Cycle ws) = []
finding_name (finding.Behind w) = w.task.name
finding_name (finding.Failed t c m) = t.name
finding_name (finding.Owed q t) = q.name
finding_name (finding.Echo t q o) = t.name

-- the name of a cycle's member with this number
abbrev pub member_name : ℕ → Finding → Name
member_name n (finding.Cycle ws) = unwrap_or (option_map (λ w. w.task.name) (slice_get ws n)) []
member_name n (finding.Behind w) = []
member_name n (finding.Failed t c m) = []
member_name n (finding.Owed q t) = []
member_name n (finding.Echo t q o) = []

-- the numbers of the members that are told of a cycle of so many: where not all are, of more than 20 the first ten and
-- the last ten
abbrev pub told_numbers : Bool → ℕ → List ℕ
told_numbers all n =
    cond (all || nat_le n 20) (range_with_len 0 n) (range_with_len 0 10 ++ range_with_len (n - 10) 10)

-- the part of a line that has several names: both of two, and else the first two and how many more there are
abbrev pub names_part : List Name → List ℕ
names_part [] = []
names_part (x ∷ []) = name_text x
names_part (x ∷ y ∷ []) = name_text x ++ codes " and " ++ name_text y
names_part (x ∷ y ∷ z ∷ more) =
    name_text x ++ codes ", " ++ name_text y ++ codes " and " ++ decimal (suc (length more)) ++ codes " more"

-- several names as a line has them, and the blank behind them
abbrev pub spaced_names : List Name → List ℕ
spaced_names xs = names_part xs ++ codes " "

-- the first line of cycles: how many there are, if there are several, and of how many tasks each is
abbrev pub cycles_head : ℕ → ℕ → List ℕ
cycles_head k n = codes "deadlock: " ++ cond (nat_eq k 1) [] (decimal k ++ codes " times ")
    ++ cond (nat_eq n 1) (codes "1 task waits for itself\n") (decimal n ++ codes " tasks wait for each other\n")

-- the words in front of a promise that was owed, if there are no others behind it, and else in front of several
abbrev pub owed_words : List Finding → List ℕ
owed_words [] = codes "owed: the promise "
owed_words (g ∷ gs) = codes "owed: the promises "

-- how the lines begin of findings that say the same: with words for their kind, and the names by which they are told;
-- of cycles, with how many there are
abbrev pub head_told : Finding → List Finding → List ℕ
head_told (finding.Cycle ws) gs = cycles_head (suc (length gs)) (length ws)
head_told (finding.Behind w) gs = codes "behind a deadlock: " ++ spaced_names (w.task.name ∷ map finding_name gs)
head_told (finding.Failed t c m) gs = codes "failed: " ++ spaced_names (t.name ∷ map finding_name gs)
head_told (finding.Owed q t) gs = owed_words gs ++ spaced_names (q.name ∷ map finding_name gs)
head_told (finding.Echo t q o) gs = codes "failed: " ++ spaced_names (t.name ∷ map finding_name gs)

-- that tasks stopped where this one did, and the words behind it
abbrev pub stop_part : Told → ToldTask → List ℕ → List ℕ
stop_part s t words = codes " at " ++ stop_text s t ++ words

-- the same of the task of a wait
abbrev pub wait_part : Told → Option Wait → List ℕ
wait_part s None = []
wait_part s (Some w) = stop_part s w.task (codes " for ")

-- what stands behind that: where the tasks stopped, but of promises that were owed; of cycles, for each number that is
-- told, the names of their members with this number, and where these wait
abbrev pub parts_told : Told → Bool → Finding → List Finding → List (List ℕ)
parts_told s all (finding.Cycle ws) gs = flat_map (λ n. (codes "  "
    ++ spaced_names (map (member_name n) (finding.Cycle ws ∷ gs))) ∷ wait_part s (slice_get ws n) ∷ [])
    (told_numbers all (length ws))
parts_told s all (finding.Behind w) gs = stop_part s w.task (codes " for ") ∷ []
parts_told s all (finding.Failed t c m) gs = stop_part s t (codes ": ") ∷ []
parts_told s all (finding.Owed q t) gs = []
parts_told s all (finding.Echo t q o) gs = stop_part s t (codes ": ") ∷ []

-- the text begins so, and behind that these parts stand in it, in this order
abbrev pub BeginsSo : List ℕ → List (List ℕ) → List ℕ → Type 0
BeginsSo head parts text = (rest : List ℕ) × (text ≡ head ++ rest) × StandInOrder parts rest

-- what is told of findings that say the same, as those of a group do, has a word for their kind, their names and their
-- count
abbrev pub HaveNames : Told → Type 0
HaveNames s = (all : Bool) (g : Finding) (gs : List Finding) → AllSaySame (g ∷ gs)
    → BeginsSo (head_told g gs) (parts_told s all g gs) (members_text s all (g ∷ gs))

-- a text tells the findings of a forest, those that are told together by lines of their own
abbrev pub TextsTellEach : Type 0
TextsTellEach =
    ((s : Told) → TellEach s × (HasPlainNames s → HasPlainLines s → HaveLines s) × HaveNames s)
    × AllTellEach × NoneTellNothing
