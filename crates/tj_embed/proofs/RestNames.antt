-- What a table at rest says by the names of what it was made for, it says by its own.
use Rattle.std.proofs.Common.{ℕ, Bool, subst, sym}
use Rattle.tj_body.specs.Programs.{Program}
use Rattle.tj_run.specs.Runs.{RestsAt}
use Rattle.tj_words.specs.AtRest.RestMeaning.{HaveMeaning}
use Rattle.tj_words.specs.AtRest.RestShown.{RestShown}
use Rattle.tj_words.specs.AtRest.RestValues.{AreValuesOfMeaning}

module _ {B : Type 0} (program : Bool → B → Program B) (root : B) (limit : ℕ) (strict : Bool) (r : RestShown B)
    (h : RestsAt program root limit strict r) where
  -- what is said of a program and a limit is said of those that the table names
  pub renamed : (P : Program B → ℕ → Type 0) → P (program strict root) limit → P (program r.strict r.root) r.limit
  renamed P x = subst (λ z. P (program z r.root) r.limit) (sym h.names_strict)
      (subst (λ z. P (program strict z) r.limit) (sym h.names_root)
      (subst (λ z. P (program strict root) z) (sym h.names_limit) x))

  pub meaning_named : HaveMeaning (program r.strict r.root) r.limit r.cells r.records
  meaning_named = renamed (λ p n. HaveMeaning p n r.cells r.records) h.meaning

  pub values_named : AreValuesOfMeaning (program r.strict r.root) r.limit r.cells r.words
  values_named = renamed (λ p n. AreValuesOfMeaning p n r.cells r.words) h.values
