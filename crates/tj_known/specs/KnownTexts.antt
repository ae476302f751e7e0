-- The text of what is told of joins: a line for each, and a line of counts.
use Rattle.std.specs.Prelude.{ℕ, Bool, true, false, List, ◌∷◌, [], ◌++◌, codes, length}
use Rattle.std.specs.List.{count_by, flat_map}
use Rattle.tj_base.specs.Texts.{name_text, counted}
use Rattle.tj_known.specs.declared.known.How.{How}
use Rattle.tj_known.specs.declared.known.How.TheVariants as how
use Rattle.tj_known.specs.declared.known.KnownLine.{KnownLine}

-- a line feed
abbrev pub line_feed : List ℕ
line_feed = 10 ∷ []

-- how a join stands, in a word
abbrev pub how_text : How → List ℕ
how_text how.Known = codes "known"
how_text how.Along = codes "along"
how_text how.Against = codes "against"

-- the line of a join
abbrev pub line_text : KnownLine → List ℕ
line_text k = name_text k.by ++ codes " joins " ++ name_text k.of ++ codes " " ++ how_text k.how ++ line_feed

-- the join is known
abbrev pub is_known : How → Bool
is_known how.Known = true
is_known how.Along = false
is_known how.Against = false

-- the join is along the fork order, and not known
abbrev pub is_along : How → Bool
is_along how.Known = false
is_along how.Along = true
is_along how.Against = false

-- the join is neither
abbrev pub is_against : How → Bool
is_against how.Known = false
is_against how.Along = false
is_against how.Against = true

-- how many joins pass a test
abbrev pub count_with : (How → Bool) → List KnownLine → ℕ
count_with test ks = count_by (λ (k : KnownLine). test k.how) ks

-- the line of counts
abbrev pub count_line : List KnownLine → List ℕ
count_line ks =
    counted (codes "joins ") (length ks)
    ++ counted (codes " known ") (count_with is_known ks)
    ++ counted (codes " along ") (count_with is_along ks)
    ++ counted (codes " against ") (count_with is_against ks)
    ++ line_feed

-- the whole text
abbrev pub known_text : List KnownLine → List ℕ
known_text ks = flat_map line_text ks ++ count_line ks
