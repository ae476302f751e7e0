-- What is told of a run that needs more cells than the limit: a line that says so, and below it the statement that made
-- most of the first cells of the first round that has more.
use Rattle.std.specs.Prelude.{ℕ, List, ◌+◌, ◌++◌, codes, decimal}
use Rattle.tj_command.specs.Texts.{full_line}
use Rattle.tj_faults.specs.Objects.{begin, quoted}
use Rattle.tj_trace.specs.declared.most.Most.{Most}
use Rattle.tj_findings.specs.Scenes.{Told, spot_text}

-- how many of the first cells, one more than the limit, the statement made, and where it stands
abbrev pub most_text : Told → ℕ → Most → List ℕ
most_text s cells most = codes "  " ++ decimal most.count ++ codes " of the first " ++ decimal (cells + 1)
    ++ codes " made at " ++ spot_text s most.maker.decl most.maker.at ++ codes "\n"

-- both lines
abbrev pub full_text : Told → ℕ → Most → List ℕ
full_text s cells most = full_line cells ++ most_text s cells most

-- the same as an object
abbrev pub full_json : Told → ℕ → Most → List ℕ
full_json s cells most = begin (codes "full") ++ codes ",\"cells\":" ++ decimal cells ++ codes ",\"most\":"
    ++ decimal most.count ++ codes ",\"at\":" ++ quoted (spot_text s most.maker.decl most.maker.at) ++ codes "}\n"
