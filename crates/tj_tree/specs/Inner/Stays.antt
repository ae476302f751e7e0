-- What stays as it was over two steps stays so over both, which a reader owes.
use Rattle.std.proofs.Common.{◌≡◌, ◌∙◌}

-- what is the same as what was the same is the same
pub same_on : {A : Type 0} {first second third : A} → second ≡ first → third ≡ second → third ≡ first
same_on p q = q ∙ p
