use Rattle.std.proofs.Common.{◌≡◌, ◌++◌, drop}
use Rattle.tj_syntax.specs.Listing.{text_of, more_params}
use Rattle.tj_syntax.proofs.listing.list_more_params.Given as goal

-- the text so far and that of the parameters to come are the whole list's
abbrev pub invariant-loop-x : goal.invariant-loop-x
invariant-loop-x l =
    l.text.items ++ text_of (more_params (drop l.x-index l.params)) ≡ l.fn.text.items ++ text_of (more_params l.params)
