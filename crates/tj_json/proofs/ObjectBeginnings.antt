-- The object of a finding begins with its kind and its level.
use Rattle.std.proofs.Common.{◌≡◌, ℕ, List, ◌∷◌, ◌++◌, sym, ap, ◌∙◌, append_assoc}
use Rattle.std.specs.Prelude.{codes}
use Rattle.tj_findings.specs.Scenes.{Told}
use Rattle.tj_findings.specs.declared.finding.Finding.TheVariants as finding
use Rattle.tj_json.specs.LineLaws.{BeginRight}
use Rattle.tj_json.specs.JsonTexts as json

-- a comma behind a text, and more behind it
to_comma : (x rest : List ℕ) → x ++ (44 ∷ rest) ≡ x ++ codes "," ++ rest
to_comma x rest = sym (append_assoc x (codes ",") rest)

-- the same of three texts, of which the first begins with a comma
comma_first : (x a b c : List ℕ) → x ++ (44 ∷ a) ++ b ++ c ≡ x ++ codes "," ++ (a ++ b ++ c)
comma_first x a b c =
    ap (λ z. z ++ c) (append_assoc x (44 ∷ a) b) ∙ append_assoc x (44 ∷ a ++ b) c ∙ to_comma x (a ++ b ++ c)

module _ (s : Told) where
  -- the object of a finding
  pub begin_right : BeginRight s
  begin_right n (finding.Cycle ws) =
      let start = json.begin_at n (codes "deadlock") in
      let waits = json.waits_json s ws in
      record {
        rest = codes "\"waits\":[" ++ waits ++ codes "]}\n";
        is = comma_first start (codes "\"waits\":[") waits (codes "]}\n");
      }
  begin_right n (finding.Behind w) =
      let start = json.begin_at n (codes "behind") in
      let wait = json.wait_json s w in
      record {
        rest = codes "\"wait\":" ++ wait ++ codes "}\n";
        is = comma_first start (codes "\"wait\":") wait (codes "}\n");
      }
  begin_right n (finding.Failed t c m) =
      let task = codes "\"task\":" ++ json.task_json s t in
      let rest = task ++ codes ",\"cause\":" ++ json.cause_json s t c m ++ codes "}\n" in
      record { rest = rest; is = to_comma (json.begin_at n (codes "failed")) rest }
  begin_right n (finding.Owed q t) =
      let cell = codes "\"cell\":" ++ json.cell_json s q.name q.maker in
      let rest = cell ++ codes ",\"task\":" ++ json.task_json s t ++ codes "}\n" in
      record { rest = rest; is = to_comma (json.begin_at n (codes "owed")) rest }
  begin_right n (finding.Echo t q o) =
      let task = codes "\"task\":" ++ json.task_json s t in
      let rest = task ++ codes ",\"cell\":" ++ json.began_json s q o ++ codes "}\n" in
      record { rest = rest; is = to_comma (json.begin_at n (codes "echo")) rest }
