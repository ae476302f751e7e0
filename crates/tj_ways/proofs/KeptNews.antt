-- What a listener has kept after calls of which each that was answered On added what it told.
use Rattle.std.proofs.Common.{◌≡◌, ◌++◌, ◌∷◌, [], List, Option, None, Some, IfSome, Result, Ok, Err, IfErr, IfOk, sym, ap, ◌∙◌, subst, append_assoc}
use Rattle.std.proofs.lemmas.List.{append-nil}
use Rattle.tj_mean.specs.declared.outcome.Outcome.{Outcome}
use Rattle.tj_told.specs.Hearing.{HasHeard, Hears, IsHeardUntil}
use Rattle.tj_told.specs.ToldNews.{AreAnswers, AreApart, AreTold}
use Rattle.tj_told.specs.declared.fault.ToldFault.{ToldFault}
use Rattle.tj_told.specs.declared.fault.ToldFault.TheVariants as fault
use Rattle.tj_told.specs.declared.listener.Goes.{Goes}
use Rattle.tj_told.specs.declared.listener.Goes.TheVariants as goes
use Rattle.tj_told.specs.declared.news.News.{News}
use Rattle.tj_ways.specs.declared.kept.Kept.{Kept}

module _ (tells : Kept → News → Goes → Kept → Type 0)
    (adds : (s : Kept) (n : News) (t : Kept) → tells s n goes.On t → t.news ≡ s.news ++ n ∷ []) where
  -- what the calls told, behind that from before
  kept_after : (ns : List News) (s t : Kept) → HasHeard tells ns s t → t.news ≡ s.news ++ ns
  kept_after [] s t e = ap (λ (z : Kept). z.news) (sym e) ∙ sym (append-nil s.news)
  kept_after (n ∷ ns) s t h =
      kept_after ns h.0 t h.2 ∙ (ap (λ z. z ++ ns) (adds s n h.0 h.1) ∙ append_assoc s.news (n ∷ []) ns)

  -- so one that had nothing has the outcome's
  pub kept_all : (s t : Kept) (r : Result Outcome ToldFault) (o : Outcome) → s.news ≡ [] → r ≡ Ok o
      → IfOk r (λ (z : Outcome). (ns : List News) × Hears tells ns s t × AreTold ns z
      × AreAnswers None None ns)
      → AreTold t.news o × AreApart t.news
  kept_all s t r o none is h =
      let k : IfOk {E = ToldFault} (Ok o) (λ (z : Outcome). (ns : List News) × Hears tells ns s t
      × AreTold ns z × AreAnswers None None ns) = subst (λ (z : Result Outcome ToldFault). IfOk z
      (λ (z : Outcome). (ns : List News) × Hears tells ns s t × AreTold ns z × AreAnswers None None ns)) is h in
      subst (λ z. AreTold z o × AreApart z)
      (sym (kept_after k.0 s t k.1.calls ∙ ap (λ z. z ++ k.0) none)) (k.2, k.1.apart)

  -- and where the run ends with Full, what is given of one like it has what was told
  pub kept_full : {A : Type 0} (P : ToldFault → List News → Type 0) (s t : Kept) (r : Result A ToldFault) (f : ToldFault)
      (o : Option Kept) → s.news ≡ [] → r ≡ Err f → IfSome o (λ k. (f ≡ fault.Full) × (k ≡ t))
      → IfErr r (λ e. (ns : List News) × IsHeardUntil tells e ns s t × P e ns)
      → IfSome o (λ k. P fault.Full k.news × AreApart k.news)
  kept_full P s t r f None none is same h = tt
  kept_full P s t r f (Some k) none is same h =
      let Q : ToldFault → Type 0 = λ e. (ns : List News) × IsHeardUntil tells e ns s t × P e ns in
      let m : Q fault.Full = subst Q same.0 (subst (λ z. IfErr z Q) is h) in
      subst (λ (z : Kept). P fault.Full z.news × AreApart z.news) (sym same.1)
      (subst (λ z. P fault.Full z × AreApart z) (sym (kept_after m.0 s t m.1.calls ∙ ap (λ z. z ++ m.0) none)) (m.2, m.1.apart))
