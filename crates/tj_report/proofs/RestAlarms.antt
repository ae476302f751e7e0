-- The lines of cycles of indexes are those of the cycles of their tasks.
use Rattle.tj_report.proofs.Prelude.{Link, List, [], ap, append_assoc, codes, link_text, map, refl, suc, sym, ℕ, ◌++◌, ◌<◌}
use Rattle.tj_report.proofs.Prelude.{◌∙◌, ◌∷◌, ◌≡◌, IsIn, inl, inr, arith, line_feed}
use Rattle.std.specs.List.{All, flat_map, join_by}
use Rattle.tj_mean.proofs.Lists.Elements.{in_of_all}
use Rattle.tj_report.specs.Inner.RestAlarms.{alarm_by}
use Rattle.tj_mean.specs.ReportTexts.{alarm_line}

parts_by : (f : ℕ → Link) (c : List ℕ) → flat_map (λ p. codes ", " ++ link_text (f p)) c
    ≡ flat_map (λ l. codes ", " ++ link_text l) (map f c)
parts_by f [] = refl
parts_by f (p ∷ ps) = ap (λ l. (codes ", " ++ link_text (f p)) ++ l) (parts_by f ps)

joined_by : (f : ℕ → Link) (c : List ℕ) → join_by (λ p. link_text (f p)) (codes ", ") c
    ≡ join_by link_text (codes ", ") (map f c)
joined_by f [] = refl
joined_by f (p ∷ ps) = ap (λ l. link_text (f p) ++ l) (parts_by f ps)

same_links : (f g : ℕ → Link) (c : List ℕ) → ((p : ℕ) → IsIn p c → f p ≡ g p) → map f c ≡ map g c
same_links f g [] h = refl
same_links f g (p ∷ ps) h =
    let first = h p (inl refl) in let rest = same_links f g ps (λ q i. h q (inr i)) in λ i. first i ∷ rest i

-- the lines of cycles, over what the links of their indexes are
pub alarms_by : (P : ℕ → Type 0) (f g : ℕ → Link) → ((p : ℕ) → P p → f p ≡ g p) → (cs : List (List ℕ))
    → All (λ c. All P c) cs → flat_map (alarm_by f) cs ≡ flat_map alarm_line (map (map g) cs)
alarms_by P f g h [] a = refl
alarms_by P f g h (c ∷ cs) a =
    let here = in_of_all (λ d. All P d) (c ∷ cs) a c (inl refl) in
    let first : alarm_by f c ≡ alarm_line (map g c) =
    ap (λ l. codes "alarm " ++ l ++ line_feed) (joined_by f c)
    ∙ ap alarm_line (same_links f g c (λ p i. h p (in_of_all P c here p i))) in
    let rest = alarms_by P f g h cs (λ k d l. a (suc k) d (omega arith)) in
    λ i. first i ++ rest i
