use Rattle.std.proofs.Common.{◌≡◌, ◌++◌, ◌∷◌, [], map, take}
use Rattle.tj_texts.proofs.groups.Group.put.Given as goal

-- the cause is a member, and what follows so far stands behind what followed
abbrev pub invariant-loop-finding : goal.invariant-loop-finding
invariant-loop-finding l = record {
  members : map (λ f. f.now) l.self.members.items ≡ map (λ f. f.now) l.fn.self.members.items ++ l.root ∷ [];
  below : map (λ f. f.now) l.self.below.items
      ≡ map (λ f. f.now) l.fn.self.below.items ++ take l.finding-index l.below;
}
