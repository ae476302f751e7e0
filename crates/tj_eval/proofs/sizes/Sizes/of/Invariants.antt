use Rattle.std.proofs.Common.{◌≡◌, ◌++◌, map, drop}
use Rattle.tj_syntax.specs.View as view
use Rattle.tj_eval.specs.Sizes.{sizes_of}
use Rattle.tj_eval.proofs.sizes.Sizes.of.Given as goal

-- what was counted and what is left are the script's
abbrev pub invariant-loop-decl : goal.invariant-loop-decl
invariant-loop-decl l =
    map (λ d. d.items) l.decls.items ++ sizes_of (map view.task (drop l.decl-index l.script.tasks.items))
    ≡ sizes_of (view.script l.script)
