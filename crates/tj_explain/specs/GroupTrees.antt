-- The law of what stands below a group: a group is of causes in their order, and below it stands what follows from them.
use Rattle.std.specs.Prelude.{◌≡◌, Bool, List, map, take}
use Rattle.std.specs.List.{flat_map, items_where_true}
use Rattle.std.specs.List.Sorted.{IsPermutation}
use Rattle.tj_body.specs.Points.{IsIn}
use Rattle.tj_findings.specs.Forests.{Tree, bare}
use Rattle.tj_findings.specs.Groups.{Group, groups, leaf_groups}
use Rattle.tj_findings.specs.declared.finding.Finding.{Finding}

-- these causes together, and what follows from the first, from the second, and so on
abbrev pub group_of : List Tree → Group
group_of ts = record { members = map (λ t. t.root) ts; below = flat_map (λ t. t.below) ts }

-- the first are some of the second, in their order
abbrev pub AreSomeOf : List Tree → List Tree → Type 0
AreSomeOf us ts = (marks : List Bool) × (us ≡ items_where_true marks ts)

-- the trees are parted: each stands in one part, as often as it is there, and those of a part stand in their order, as
-- the first ones of the parts do; each group is of a part, with what follows from the causes of this part alone
abbrev pub GroupsAreOfTrees : Type 0
GroupsAreOfTrees = (all : Bool) (ts : List Tree) → (parts : List (List Tree))
    × (groups all ts ≡ map group_of parts)
    × IsPermutation ts (flat_map (λ us. us) parts)
    × ((us : List Tree) → IsIn us parts → AreSomeOf us ts)
    × AreSomeOf (flat_map (λ us. take 1 us) parts) ts

-- what follows from causes is put into groups as causes are, each finding as a tree by itself
abbrev pub LeavesAreGrouped : Type 0
LeavesAreGrouped = (all : Bool) (fs : List Finding) → leaf_groups all fs ≡ groups all (map bare fs)
