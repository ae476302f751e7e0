-- Lines and columns count from 1, and a column counts bytes. A line feed ends a line.
use Rattle.std.specs.Prelude.{ℕ, ◌==◌, ◌+◌, List, count_by}
use Rattle.std.specs.List.{suffix_len}
use Rattle.tj_lex.specs.declared.place.Place.{Place}
use Rattle.tj_lex.specs.Bytes.{line_feed, stays_on_line}

-- the position just after these bytes: behind their line feeds, and the bytes of the last line
abbrev pub position_after : List ℕ → Place
position_after before = record {
  line = count_by (λ b. b == line_feed) before + 1;
  column = suffix_len stays_on_line before + 1;
}
