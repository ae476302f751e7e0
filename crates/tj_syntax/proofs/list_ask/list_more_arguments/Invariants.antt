use Rattle.std.proofs.Common.{◌≡◌, ◌++◌, map, drop}
use Rattle.tj_syntax.specs.Listing.{text_of, more_arguments}
use Rattle.tj_syntax.specs.View as view
use Rattle.tj_syntax.proofs.list_ask.list_more_arguments.Given as goal

-- the text so far and that of the arguments to come are the whole list's
abbrev pub invariant-loop-x : goal.invariant-loop-x
invariant-loop-x l =
    l.text.items ++ text_of (more_arguments l.vars (map view.argument (drop l.x-index l.args)))
    ≡ l.fn.text.items ++ text_of (more_arguments l.vars (map view.argument l.args))
