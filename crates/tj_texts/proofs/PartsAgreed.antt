-- What a line says of findings that are alike is so of each of them: where a part is told, a test has found it so of all.
use Rattle.std.proofs.Common.{◌≡◌, ◌⊎◌, ℕ, Bool, true, false, true≢false, cond, List, [], ◌∷◌, ◌++◌, Option, Some}
use Rattle.std.proofs.Common.{None, refl, sym, ap, ◌∙◌, inl, inr, ◌&&◌, nat_eq, eqb-true}
use Rattle.std.specs.Prelude.{codes, slice_get}
use Rattle.std.specs.List.{list_all}
use Rattle.std.specs.Option.{option_map}
use Rattle.tj_base.specs.ForkOrder.{Name}
use Rattle.tj_base.specs.Texts.{name_text}
use Rattle.tj_body.specs.Names.{same}
use Rattle.tj_body.specs.Points.{IsIn}
use Rattle.tj_body.proofs.Counts.{same_is}
use Rattle.tj_mean.specs.ReportTexts.{cause_text}
use Rattle.tj_trace.specs.declared.line.Maker.{Maker}
use Rattle.tj_findings.specs.Groups.{cell_named, cell_told, maker_told, origin_told, same_maker, same_name}
use Rattle.tj_findings.specs.Groups.{same_stand}
use Rattle.tj_findings.specs.LetNames.{let_text, named_in}
use Rattle.tj_findings.specs.PartTexts.{cause_word, made_text, owner_text, where_agreed}
use Rattle.tj_findings.specs.ReasonTexts.{reason_text}
use Rattle.tj_findings.specs.Scenes.{Told, spot_text, statement_at}
use Rattle.tj_findings.specs.Went.{same_went}
use Rattle.tj_findings.specs.declared.finding.ToldTask.{ToldTask}
use Rattle.tj_findings.specs.declared.finding.Wait.{Wait}
use Rattle.tj_findings.specs.declared.finding.Went.{Went}
use Rattle.tj_findings.specs.declared.finding.Went.TheVariants as went
use Rattle.tj_texts.specs.AgreedParts.{CausesAgree, ForksAgree, HasCell, IsAgreed, MakersAgree, OriginsAgree, PartsAgree}
use Rattle.tj_texts.specs.AgreedParts.{HasOwners, OwnersAgree, ReasonsAgree, WaitsAgree, WentsAgree, cell_of}
use Rattle.tj_texts.specs.AgreedParts.{owned_each, owned_them}
use Rattle.tj_texts.specs.WentTexts.{alike_went, each_text, went_text}
use Rattle.tj_texts.specs.WhyTexts.{each_went, fork_text, origin_text}
use Rattle.tj_texts.proofs.GroupsSame.{of_both, same_pair, stand_alike}

module _ {A : Type 0} where
  -- each passes a test that all pass
  all_pass : (p : A → Bool) (xs : List A) → list_all p xs ≡ true → (x : A) → IsIn x xs → p x ≡ true
  all_pass p [] e x i = absurd i
  all_pass p (y ∷ ys) e x (inl is) = ap p is ∙ (of_both (p y) (list_all p ys) e).0
  all_pass p (y ∷ ys) e x (inr i) = all_pass p ys (of_both (p y) (list_all p ys) e).1 x i

  -- what is told where all pass a test
  agreed : (p : A → Bool) (told : A → List ℕ) (xs : List A) (text : List ℕ) → ((x : A) → p x ≡ true → told x ≡ text)
      → IsAgreed told xs text (where_agreed (list_all p xs) text)
  agreed p told xs text so = by (list_all p xs) refl where
    by : (b : Bool) → list_all p xs ≡ b → IsAgreed told xs text (where_agreed b text)
    by true is = inr (refl, λ x i. so x (all_pass p xs is x i))
    by false is = inl refl

  -- a cell that is told where all have it
  with_cell : (p : A → Bool) (cell : A → Option Name) (xs : List A) (q : Option Name) (text bare : List ℕ)
      → ((x : A) → p x ≡ true → cell x ≡ q) → HasCell cell xs q text bare (cond (list_all p xs) text bare)
  with_cell p cell xs q text bare so = by (list_all p xs) refl where
    by : (b : Bool) → list_all p xs ≡ b → HasCell cell xs q text bare (cond b text bare)
    by true is = inr (refl, λ x i. so x (all_pass p xs is x i))
    by false is = inl refl

-- names that are the same, if there are any
names_same : (x y : Option Name) → same_name x y ≡ true → y ≡ x
names_same None None e = refl
names_same None (Some y) e = absurd (true≢false (sym e))
names_same (Some x) None e = absurd (true≢false (sym e))
names_same (Some x) (Some y) e = ap Some (sym (same_is x y e))

module _ (s : Told) where
  -- what is told of the statement with this number of this declaration as that which made a promise
  made_in : ℕ → ℕ → List ℕ
  made_in d n = codes " (" ++ let_text (named_in (slice_get s.script d) (statement_at s d n)) ++ codes "made at "
      ++ spot_text s d n ++ codes ")"

  -- the same statement is told in the same way
  made_same : (m n : Option Maker) → same_maker m n ≡ true → made_text s n ≡ made_text s m
  unfolding made_in
  made_same None None e = refl
  made_same None (Some n) e = absurd (true≢false (sym e))
  made_same (Some m) None e = absurd (true≢false (sym e))
  made_same (Some m) (Some n) e =
      let is = same_pair m.decl n.decl m.at n.at e in
      ap (λ d. made_in d n.at) (sym is.0) ∙ ap (made_in m.decl) (sym is.1)

  -- so is a fork
  fork_same : (m n : Option Maker) → same_maker m n ≡ true → fork_text s n ≡ fork_text s m
  fork_same None None e = refl
  fork_same None (Some n) e = absurd (true≢false (sym e))
  fork_same (Some m) None e = absurd (true≢false (sym e))
  fork_same (Some m) (Some n) e =
      let is = same_pair m.decl n.decl m.at n.at e in
      ap (λ d. codes " (forked at " ++ spot_text s d n.at ++ codes ")") (sym is.0)
      ∙ ap (λ k. codes " (forked at " ++ spot_text s m.decl k ++ codes ")") (sym is.1)

  -- promises that went the same way
  went_same : (d : ℕ) (v w : Went) → same_went v w ≡ true → went_text s d w ≡ went_text s d v
  went_same d went.Nowhere went.Nowhere e = refl
  went_same d went.Nowhere (went.SetHere m) e = absurd (true≢false (sym e))
  went_same d went.Nowhere (went.HandedHere y j m) e = absurd (true≢false (sym e))
  went_same d went.Nowhere went.TwiceHere e = absurd (true≢false (sym e))
  went_same d went.Nowhere (went.SetBy y g m) e = absurd (true≢false (sym e))
  went_same d went.Nowhere (went.OwnedBy y) e = absurd (true≢false (sym e))
  went_same d (went.SetHere n) went.Nowhere e = absurd (true≢false (sym e))
  went_same d (went.SetHere n) (went.SetHere m) e = ap (λ k. went_text s d (went.SetHere k)) (sym (eqb-true n m e))
  went_same d (went.SetHere n) (went.HandedHere y j m) e = absurd (true≢false (sym e))
  went_same d (went.SetHere n) went.TwiceHere e = absurd (true≢false (sym e))
  went_same d (went.SetHere n) (went.SetBy y g m) e = absurd (true≢false (sym e))
  went_same d (went.SetHere n) (went.OwnedBy y) e = absurd (true≢false (sym e))
  went_same d (went.HandedHere x k n) went.Nowhere e = absurd (true≢false (sym e))
  went_same d (went.HandedHere x k n) (went.SetHere m) e = absurd (true≢false (sym e))
  went_same d (went.HandedHere x k n) (went.HandedHere y j m) e =
      let first = of_both (same x y && nat_eq k j) (nat_eq n m) e in
      let both = of_both (same x y) (nat_eq k j) first.0 in
      ap (λ z. went_text s d (went.HandedHere z j m)) (sym (same_is x y both.0))
      ∙ ap (λ i. went_text s d (went.HandedHere x i m)) (sym (eqb-true k j both.1))
      ∙ ap (λ i. went_text s d (went.HandedHere x k i)) (sym (eqb-true n m first.1))
  went_same d (went.HandedHere x k n) went.TwiceHere e = absurd (true≢false (sym e))
  went_same d (went.HandedHere x k n) (went.SetBy y g m) e = absurd (true≢false (sym e))
  went_same d (went.HandedHere x k n) (went.OwnedBy y) e = absurd (true≢false (sym e))
  went_same d went.TwiceHere went.Nowhere e = absurd (true≢false (sym e))
  went_same d went.TwiceHere (went.SetHere m) e = absurd (true≢false (sym e))
  went_same d went.TwiceHere (went.HandedHere y j m) e = absurd (true≢false (sym e))
  went_same d went.TwiceHere went.TwiceHere e = refl
  went_same d went.TwiceHere (went.SetBy y g m) e = absurd (true≢false (sym e))
  went_same d went.TwiceHere (went.OwnedBy y) e = absurd (true≢false (sym e))
  went_same d (went.SetBy x f n) went.Nowhere e = absurd (true≢false (sym e))
  went_same d (went.SetBy x f n) (went.SetHere m) e = absurd (true≢false (sym e))
  went_same d (went.SetBy x f n) (went.HandedHere y j m) e = absurd (true≢false (sym e))
  went_same d (went.SetBy x f n) went.TwiceHere e = absurd (true≢false (sym e))
  went_same d (went.SetBy x f n) (went.SetBy y g m) e =
      let first = of_both (same x y && nat_eq f g) (nat_eq n m) e in
      let both = of_both (same x y) (nat_eq f g) first.0 in
      ap (λ z. went_text s d (went.SetBy z g m)) (sym (same_is x y both.0))
      ∙ ap (λ i. went_text s d (went.SetBy x i m)) (sym (eqb-true f g both.1))
      ∙ ap (λ i. went_text s d (went.SetBy x f i)) (sym (eqb-true n m first.1))
  went_same d (went.SetBy x f n) (went.OwnedBy y) e = absurd (true≢false (sym e))
  went_same d (went.OwnedBy x) went.Nowhere e = absurd (true≢false (sym e))
  went_same d (went.OwnedBy x) (went.SetHere m) e = absurd (true≢false (sym e))
  went_same d (went.OwnedBy x) (went.HandedHere y j m) e = absurd (true≢false (sym e))
  went_same d (went.OwnedBy x) went.TwiceHere e = absurd (true≢false (sym e))
  went_same d (went.OwnedBy x) (went.SetBy y g m) e = absurd (true≢false (sym e))
  went_same d (went.OwnedBy x) (went.OwnedBy y) e = ap (λ z. went_text s d (went.OwnedBy z)) (sym (same_is x y e))

  -- promises that went alike
  each_same : (d : ℕ) (v w : Went) → alike_went v w ≡ true → each_text s d w ≡ each_text s d v
  each_same d went.Nowhere went.Nowhere e = absurd (true≢false (sym e))
  each_same d went.Nowhere (went.SetHere m) e = absurd (true≢false (sym e))
  each_same d went.Nowhere (went.HandedHere y j m) e = absurd (true≢false (sym e))
  each_same d went.Nowhere went.TwiceHere e = absurd (true≢false (sym e))
  each_same d went.Nowhere (went.SetBy y g m) e = absurd (true≢false (sym e))
  each_same d went.Nowhere (went.OwnedBy y) e = absurd (true≢false (sym e))
  each_same d (went.SetHere n) went.Nowhere e = absurd (true≢false (sym e))
  each_same d (went.SetHere n) (went.SetHere m) e = absurd (true≢false (sym e))
  each_same d (went.SetHere n) (went.HandedHere y j m) e = absurd (true≢false (sym e))
  each_same d (went.SetHere n) went.TwiceHere e = absurd (true≢false (sym e))
  each_same d (went.SetHere n) (went.SetBy y g m) e = absurd (true≢false (sym e))
  each_same d (went.SetHere n) (went.OwnedBy y) e = absurd (true≢false (sym e))
  each_same d (went.HandedHere x k n) went.Nowhere e = absurd (true≢false (sym e))
  each_same d (went.HandedHere x k n) (went.SetHere m) e = absurd (true≢false (sym e))
  each_same d (went.HandedHere x k n) (went.HandedHere y j m) e =
      ap (λ i. codes ", each handed on at " ++ spot_text s d i) (sym (eqb-true n m e))
  each_same d (went.HandedHere x k n) went.TwiceHere e = absurd (true≢false (sym e))
  each_same d (went.HandedHere x k n) (went.SetBy y g m) e = absurd (true≢false (sym e))
  each_same d (went.HandedHere x k n) (went.OwnedBy y) e = absurd (true≢false (sym e))
  each_same d went.TwiceHere went.Nowhere e = absurd (true≢false (sym e))
  each_same d went.TwiceHere (went.SetHere m) e = absurd (true≢false (sym e))
  each_same d went.TwiceHere (went.HandedHere y j m) e = absurd (true≢false (sym e))
  each_same d went.TwiceHere went.TwiceHere e = absurd (true≢false (sym e))
  each_same d went.TwiceHere (went.SetBy y g m) e = absurd (true≢false (sym e))
  each_same d went.TwiceHere (went.OwnedBy y) e = absurd (true≢false (sym e))
  each_same d (went.SetBy x f n) went.Nowhere e = absurd (true≢false (sym e))
  each_same d (went.SetBy x f n) (went.SetHere m) e = absurd (true≢false (sym e))
  each_same d (went.SetBy x f n) (went.HandedHere y j m) e = absurd (true≢false (sym e))
  each_same d (went.SetBy x f n) went.TwiceHere e = absurd (true≢false (sym e))
  each_same d (went.SetBy x f n) (went.SetBy y g m) e =
      let is = same_pair f g n m e in
      ap (λ i. codes ", each set by another at " ++ spot_text s i m) (sym is.0)
      ∙ ap (λ i. codes ", each set by another at " ++ spot_text s f i) (sym is.1)
  each_same d (went.SetBy x f n) (went.OwnedBy y) e = absurd (true≢false (sym e))
  each_same d (went.OwnedBy x) went.Nowhere e = absurd (true≢false (sym e))
  each_same d (went.OwnedBy x) (went.SetHere m) e = absurd (true≢false (sym e))
  each_same d (went.OwnedBy x) (went.HandedHere y j m) e = absurd (true≢false (sym e))
  each_same d (went.OwnedBy x) went.TwiceHere e = absurd (true≢false (sym e))
  each_same d (went.OwnedBy x) (went.SetBy y g m) e = absurd (true≢false (sym e))
  each_same d (went.OwnedBy x) (went.OwnedBy y) e = refl

  forks_agree : ForksAgree s
  forks_agree t ts = (
    where_agreed (list_all (λ u. same_maker t.fork u.fork) ts) (fork_text s t.fork),
    refl,
    agreed (λ (u : ToldTask). same_maker t.fork u.fork) (λ u. fork_text s u.fork) ts (fork_text s t.fork)
        (λ u e. fork_same t.fork u.fork e),
  )

  waits_agree : WaitsAgree s
  waits_agree w ws = (
    (
      cond (list_all (λ v. same w.cell.name v.cell.name) ws) (codes "the promise " ++ name_text w.cell.name)
          (codes "promises"),
      where_agreed (list_all (λ v. same_maker w.cell.maker v.cell.maker) ws) (made_text s w.cell.maker),
      where_agreed (list_all (λ v. same_name w.owner v.owner) ws) (owner_text w.owner),
      refl,
      with_cell (λ (v : Wait). same w.cell.name v.cell.name) cell_of ws (cell_of w)
          (codes "the promise " ++ name_text w.cell.name) (codes "promises")
          (λ v e. ap (λ x. Some x) (sym (same_is w.cell.name v.cell.name e))),
      agreed (λ (v : Wait). same_maker w.cell.maker v.cell.maker) (λ v. made_text s v.cell.maker) ws
          (made_text s w.cell.maker) (λ v e. made_same w.cell.maker v.cell.maker e),
      agreed (λ (v : Wait). same_name w.owner v.owner) (λ v. owner_text v.owner) ws (owner_text w.owner)
          (λ v e. ap owner_text (names_same w.owner v.owner e)),
    ),
    with_cell (λ (v : Wait). same w.cell.name v.cell.name) cell_of ws (cell_of w)
        (codes "the task " ++ name_text w.cell.name) (codes "tasks")
        (λ v e. ap (λ x. Some x) (sym (same_is w.cell.name v.cell.name e))),
  )

  causes_agree : CausesAgree s
  causes_agree c fs =
      with_cell (λ g. same_name (cell_named c) (cell_told g)) cell_told fs (cell_named c) (cause_text c) (cause_word c)
      (λ g e. names_same (cell_named c) (cell_told g) e)

  makers_agree : MakersAgree s
  makers_agree m fs =
      agreed (λ g. same_maker m (maker_told g)) (λ g. made_text s (maker_told g)) fs (made_text s m)
      (λ g e. made_same m (maker_told g) e)

  reasons_agree : ReasonsAgree s
  reasons_agree t c ts =
      agreed (λ u. same (reason_text s t c) (reason_text s u c)) (λ u. reason_text s u c) ts (reason_text s t c)
      (λ u e. sym (same_is (reason_text s t c) (reason_text s u c) e))

  wents_agree : WentsAgree s
  wents_agree t ts = by (list_all (λ u. same_went t.went u.went) ts) refl where
    told : List ℕ
    told = went_text s t.decl t.went

    by : (b : Bool) → list_all (λ (u : ToldTask). same_went t.went u.went) ts ≡ b
        → IsAgreed (λ u. went_text s t.decl u.went) ts told (cond b told (each_went s t ts))
        ⊎ IsAgreed (λ u. each_text s t.decl u.went) ts (each_text s t.decl t.went) (cond b told (each_went s t ts))
    by true is =
        inl (inr (refl, λ u i. went_same t.decl t.went u.went (all_pass (λ u. same_went t.went u.went) ts is u i)))
    by false is =
        inr (agreed (λ u. alike_went t.went u.went) (λ u. each_text s t.decl u.went) ts (each_text s t.decl t.went)
        (λ u e. each_same t.decl t.went u.went e))

  origins_agree : OriginsAgree s
  origins_agree o fs =
      with_cell (λ g. same_name (option_map (λ t. t.name) o) (origin_told g)) origin_told fs
      (option_map (λ t. t.name) o) (origin_text s o) []
      (λ g e. names_same (option_map (λ t. t.name) o) (origin_told g) e)

  owners_agree : OwnersAgree s
  owners_agree t ts = by (list_all (λ u. same t.name u.name) ts) (list_all (same_stand t) ts) refl refl where
    told : Bool → Bool → List ℕ
    told a b = cond a (owned_them s t) (where_agreed b (owned_each s t))

    by : (a b : Bool) → list_all (λ (u : ToldTask). same t.name u.name) ts ≡ a → list_all (same_stand t) ts ≡ b
        → HasOwners s t ts (told a b)
    by true b named stood =
        inr (inl (refl, λ u i. sym (same_is t.name u.name (all_pass (λ u. same t.name u.name) ts named u i))))
    by false true named stood = inr (inr (refl, λ u i. stand_alike t u (all_pass (same_stand t) ts stood u i)))
    by false false named stood = inl refl

  -- the law
  pub parts_agree : PartsAgree s
  parts_agree = (
    forks_agree,
    waits_agree,
    causes_agree,
    makers_agree,
    reasons_agree,
    wents_agree,
    origins_agree,
    owners_agree,
  )
