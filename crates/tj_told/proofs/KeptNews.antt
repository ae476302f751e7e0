-- What an observer's seat has seen of all that was told, after further steps.
use Rattle.std.proofs.Common.{◌≡◌, ◌⊎◌, ◌++◌, ℕ, Bool, true, false, List, [], ◌∷◌, Option, Some, get_or}
use Rattle.std.proofs.Common.{refl, sym, ap, ◌∙◌, subst, inl, inr}
use Rattle.std.proofs.Math.Option.{some-injective}
use Rattle.tj_base.specs.ForkOrder.{Name}
use Rattle.tj_base.specs.declared.value.Shown.{Shown}
use Rattle.tj_body.proofs.Lists.{in_right}
use Rattle.tj_body.specs.Points.{IsIn}
use Rattle.tj_body.specs.declared.point.Entry.TheVariants as entry
use Rattle.tj_body.specs.declared.point.Reference.{Reference}
use Rattle.tj_log.specs.Shown.{SeatShown}
use Rattle.tj_mean.specs.declared.outcome.Link.{Link}
use Rattle.tj_words.specs.SeatViews.KnowsMore.{KnowsMore}
use Rattle.tj_words.specs.SeatViews.SeatSteps.{SeatMe}
use Rattle.tj_words.specs.SeatViews.Views.{both}
use Rattle.tj_record.specs.declared.record.Rec.{Rec}
use Rattle.tj_words.specs.declared.view.View.{View}
use Rattle.tj_told.specs.Observers.{KnowsName, LooksOn}
use Rattle.tj_told.specs.SeenNews.{AreSeen, AreSeenBy, HasSeenBroken, HasSeenValue, HasStopped, IsBrokenNow, IsSeenAs}
use Rattle.tj_told.specs.ToldLinks.{IsSeenRound, SeesName}
use Rattle.tj_told.specs.ToldLoads.{StopsLast}
use Rattle.tj_told.specs.declared.news.News.{News}
use Rattle.tj_told.specs.declared.news.News.TheVariants as news
use Rattle.tj_told.proofs.Climbing.{cell_on, name_where}
use Rattle.tj_told.proofs.Hearings.{not_cycle, not_value, same_told, value_not_broken}
use Rattle.tj_told.proofs.LoggedRounds.{seen_later}

-- news of a broken cell is of that cell alone
abbrev name_in : News → Name → Name
name_in (news.Cycle c) q = q
name_in (news.Broken p) q = p
name_in (news.Value p v) q = p

same_name : (p q : Name) → news.Broken p ≡ news.Broken q → p ≡ q
same_name p q e = ap (λ n. name_in n p) e

-- news of a value is of that cell and of that value alone
same_watched : (p q : Name) (u v : Shown) → news.Value p u ≡ news.Value q v → p ≡ q
same_watched p q u v e = ap (λ n. name_in n p) e

abbrev value_in : News → Shown → Shown
value_in (news.Cycle c) v = v
value_in (news.Broken p) v = v
value_in (news.Value p u) v = u

same_value : (p q : Name) (u v : Shown) → news.Value p u ≡ news.Value q v → u ≡ v
same_value p q u v e = ap (λ n. value_in n u) e

-- a seat of a table of these bodies
abbrev pub SeatOf : Type 0 → Type 0
SeatOf B = SeatShown (Option (Rec B)) (View B)

module _ {B : Type 0} where
  broken_on : (c : ℕ) (q : Name) (v w : View B) → KnowsMore v w → HasSeenBroken c q v → HasSeenBroken c q w
  broken_on c q v w k h = record {
    loaded = k.filled (record { cell = c; entry = entry.Broken }) h.loaded;
    known = (h.known.0, cell_on v.born w.born c h.known.0 k.born h.known.1, h.known.2);
    named = name_where v.seen w.seen k.seen c q h.named;
  }

  -- a value that was loaded is so later
  pub value_on : (c : ℕ) (v : Shown) (a b : View B) → KnowsMore a b → IsSeenAs c v a → IsSeenAs c v b
  value_on c v a b k h = record {
    value = h.value;
    loaded = k.filled (record { cell = c; entry = entry.Value h.value }) h.loaded;
    shown = h.shown;
  }

  -- with its name
  pub value_named_on : (c : ℕ) (q : Name) (v : Shown) (a b : View B) → KnowsMore a b → HasSeenValue c q v a
      → HasSeenValue c q v b
  value_named_on c q v a b k h = record {
    seen = value_on c v a b k h.seen;
    named = name_where a.seen b.seen k.seen c q h.named;
  }

  -- nothing was told yet
  pub none_seen : {w : Option Name} (a : SeatOf B) (met : List Bool) (told : List News) → told ≡ []
      → AreSeen w a met told
  none_seen {w} a met told none = subst (AreSeen w a met) (sym none)
      (record { cycles = λ c i. absurd i; broken = λ q i. absurd i; values = λ q v i. absurd i })

  -- what was seen is seen later
  pub seen_on : {w : Option Name} (a b : SeatOf B) (met : List Bool) (told : List News) → LooksOn a b
      → AreSeen w a met told → AreSeen w b met told
  seen_on a b met told l h = record {
    cycles = λ c i. seen_later a.log b.log a.me.0.seen b.me.0.seen l.log l.more.seen c (h.cycles c i);
    broken = λ q i. let k = h.broken q i in (k.0, k.1, broken_on k.0 q a.me.0 b.me.0 l.more k.2);
    values = λ q v i. let k = h.values q v i in
        (k.0, (k.1.0, value_named_on k.1.0 q v a.me.0 b.me.0 l.more k.1.1));
  }

  module _ {w : Option Name} (a : SeatOf B) (met : List Bool) (told : List News) (h : AreSeen w a met told) where
    -- more cells were met
    pub met_on : (more : List Bool) → ((c : ℕ) → get_or met c false ≡ true → get_or more c false ≡ true)
        → (now : List News) → now ≡ told → AreSeen w a more now
    met_on more kept now same = subst (AreSeen w a more) (sym same) (record {
      cycles = h.cycles;
      broken = λ q i. let k = h.broken q i in (k.0, kept k.0 k.1, k.2);
      values = h.values;
    })

    module _ (now : List News) (more : List Bool) (same : more ≡ met) where
      -- a cycle was told, of which the log has the round
      pub with_cycle : (link : List Link) → ((d : News) → IsIn d now → (d ≡ news.Cycle link) ⊎ IsIn d told)
          → IsSeenRound a.log a.me.0.seen link → AreSeen w a more now
      with_cycle link only r = subst (λ z. AreSeen w a z now) (sym same) (record {
        cycles = λ c i. cycle c (only (news.Cycle c) i);
        broken = λ q i. name q (only (news.Broken q) i);
        values = λ q v i. value q v (only (news.Value q v) i);
      })
        where
          value : (q : Name) (v : Shown) → (news.Value q v ≡ news.Cycle link) ⊎ IsIn (news.Value q v) told
              → (w ≡ Some q) × ((c : ℕ) × HasSeenValue c q v a.me.0)
          value q v (inl e) = absurd (not_value q v link e)
          value q v (inr i) = h.values q v i

          cycle : (c : List Link) → (news.Cycle c ≡ news.Cycle link) ⊎ IsIn (news.Cycle c) told
              → IsSeenRound a.log a.me.0.seen c
          cycle c (inl e) = subst (IsSeenRound a.log a.me.0.seen) (sym (same_told c link e)) r
          cycle c (inr i) = h.cycles c i

          name : (q : Name) → (news.Broken q ≡ news.Cycle link) ⊎ IsIn (news.Broken q) told
              → (c : ℕ) × (get_or met c false ≡ true) × HasSeenBroken c q a.me.0
          name q (inl e) = absurd (not_cycle q link e)
          name q (inr i) = h.broken q i

      -- a cell was told to be broken, which was loaded as that and is met
      pub with_broken : (c : ℕ) (q : Name) → ((d : News) → IsIn d now → (d ≡ news.Broken q) ⊎ IsIn d told)
          → get_or met c false ≡ true → HasSeenBroken c q a.me.0 → AreSeen w a more now
      with_broken c q only met_now b = subst (λ z. AreSeen w a z now) (sym same) (record {
        cycles = λ d i. cycle d (only (news.Cycle d) i);
        broken = λ p i. name p (only (news.Broken p) i);
        values = λ p v i. value p v (only (news.Value p v) i);
      })
        where
          value : (p : Name) (v : Shown) → (news.Value p v ≡ news.Broken q) ⊎ IsIn (news.Value p v) told
              → (w ≡ Some p) × ((d : ℕ) × HasSeenValue d p v a.me.0)
          value p v (inl e) = absurd (value_not_broken p q v e)
          value p v (inr i) = h.values p v i

          cycle : (d : List Link) → (news.Cycle d ≡ news.Broken q) ⊎ IsIn (news.Cycle d) told
              → IsSeenRound a.log a.me.0.seen d
          cycle d (inl e) = absurd (not_cycle q d (sym e))
          cycle d (inr i) = h.cycles d i

          name : (p : Name) → (news.Broken p ≡ news.Broken q) ⊎ IsIn (news.Broken p) told
              → (d : ℕ) × (get_or met d false ≡ true) × HasSeenBroken d p a.me.0
          name p (inl e) = (c, met_now, subst (λ z. HasSeenBroken c z a.me.0) (sym (same_name p q e)) b)
          name p (inr i) = h.broken p i

      -- the value of the wanted cell was told, which was loaded
      pub with_value : (c : ℕ) (q : Name) (v : Shown)
          → ((d : News) → IsIn d now → (d ≡ news.Value q v) ⊎ IsIn d told) → w ≡ Some q → HasSeenValue c q v a.me.0
          → AreSeen w a more now
      with_value c q v only is b = subst (λ z. AreSeen w a z now) (sym same) (record {
        cycles = λ d i. cycle d (only (news.Cycle d) i);
        broken = λ p i. name p (only (news.Broken p) i);
        values = λ p u i. value p u (only (news.Value p u) i);
      })
        where
          cycle : (d : List Link) → (news.Cycle d ≡ news.Value q v) ⊎ IsIn (news.Cycle d) told
              → IsSeenRound a.log a.me.0.seen d
          cycle d (inl e) = absurd (not_value q v d (sym e))
          cycle d (inr i) = h.cycles d i

          name : (p : Name) → (news.Broken p ≡ news.Value q v) ⊎ IsIn (news.Broken p) told
              → (d : ℕ) × (get_or met d false ≡ true) × HasSeenBroken d p a.me.0
          name p (inl e) = absurd (value_not_broken q p v (sym e))
          name p (inr i) = h.broken p i

          value : (p : Name) (u : Shown) → (news.Value p u ≡ news.Value q v) ⊎ IsIn (news.Value p u) told
              → (w ≡ Some p) × ((d : ℕ) × HasSeenValue d p u a.me.0)
          value p u (inl e) = (
            is ∙ ap (λ z. Some z) (sym (same_watched p q u v e)),
            (
              c,
              subst (λ z. HasSeenValue c z u a.me.0) (sym (same_watched p q u v e))
                  (subst (λ z. HasSeenValue c q z a.me.0) (sym (same_value p q u v e)) b),
            ),
          )
          value p u (inr i) = h.values p u i

  -- the cell that is broken now has the name by which it is known later
  pub broken_named : (cells c : ℕ) (q : Name) (a b : SeatOf B) → LooksOn a b → IsBrokenNow cells c a.me.0
      → KnowsName c q b.me.0 → KnowsName c q a.me.0
  broken_named cells c q a b l n k = let x = n.known.1 in (
    x.0,
    x.1,
    ap (λ (r : Reference). r.name)
        (some-injective x.0 k.0 (sym (cell_on a.me.0.born b.me.0.born c x.0 l.more.born x.1) ∙ k.1)) ∙ k.2,
  )

  -- and wasn't told yet, where it wasn't met
  pub unmet_new : {w : Option Name} (cells c : ℕ) (q : Name) (a b : SeatOf B) (met : List Bool)
      (told : List News) → LooksOn a b
      → IsBrokenNow cells c a.me.0 → get_or met c false ≡ false → KnowsName c q b.me.0
      → AreSeen w a met told → ¬ IsIn (news.Broken q) told
  unmet_new cells c q a b met told l n unmet k h i = let s = h.broken q i in let x = broken_named cells c q a b l n k in
      let y = s.2.known in
      let same : c ≡ s.0 = n.all.apart c s.0 x.0 y.0 x.1 y.1 (x.2 ∙ sym y.2) in
      let z : true ≡ false = sym s.1 ∙ (ap (λ d. get_or met d false) (sym same) ∙ unmet) in absurd (cc)

  -- what is told of it is seen, by its name
  pub seen_broken : (cells c : ℕ) (q : Name) (a b : SeatOf B) → LooksOn a b → IsBrokenNow cells c a.me.0
      → KnowsName c q b.me.0 → SeesName b.me.0.seen c q → HasSeenBroken c q b.me.0
  seen_broken cells c q a b l n k s = record {
    loaded = l.more.filled (record { cell = c; entry = entry.Broken }) n.loaded;
    known = k;
    named = s;
  }

  -- so it is none of what was told, after further cells were met too
  pub news_unmet : {w : Option Name} (cells c : ℕ) (q : Name) (a b : SeatOf B) (met : List Bool)
      (told now : List News) → now ≡ told → LooksOn a b → IsBrokenNow cells c a.me.0 → get_or met c false ≡ false
      → KnowsName c q b.me.0
      → AreSeen w a met told → ¬ IsIn (news.Broken q) now
  news_unmet cells c q a b met told now same l n unmet k h i =
      unmet_new cells c q a b met told l n unmet k h (subst (IsIn (news.Broken q)) same i)

  -- a value that was loaded is so for the seat that takes in the one that loaded it
  value_taken : (c : ℕ) (q : Name) (v : Shown) (worked watched now : View B) → now ≡ both worked watched
      → HasSeenValue c q v watched → HasSeenValue c q v now
  value_taken c q v worked watched now is h = subst (HasSeenValue c q v) (sym is) (record {
    seen = record {
      value = h.seen.value;
      loaded = in_right _ worked.filled watched.filled h.seen.loaded;
      shown = h.seen.shown;
    };
    named = name_where watched.seen (worked.seen ++ watched.seen) (λ x j. in_right x worked.seen watched.seen j) c q
        h.named;
  })

  -- what an observer has seen is seen by its own seat
  pub seen_own : {w : Option Name} (watched : SeatOf B) (met : List Bool) (told : List News)
      → AreSeen w watched met told → AreSeenBy w watched told
  seen_own watched met told h = record {
    cycles = λ c i. (watched.log, inl refl, h.cycles c i);
    broken = λ q i. let s = h.broken q i in (s.0, s.2.loaded, s.2.named);
    values = h.values;
  }

  -- so is its store of STOP that of its own seat, and of the seat that takes it in
  pub stopped_own : (watched : SeatOf B) → StopsLast watched.log → HasStopped watched
  stopped_own watched s = (watched.log, inl refl, s)

  pub stopped_taken : (worked watched now : SeatOf B) → now.took ≡ worked.took ++ watched.log ∷ watched.took
      → StopsLast watched.log → HasStopped now
  stopped_taken worked watched now took s = (
    watched.log,
    inr (subst (IsIn watched.log) (sym took) (in_right watched.log worked.took (watched.log ∷ watched.took)
        (inl refl))),
    s,
  )

  -- what an observer has seen is seen by the seat that takes it in
  pub seen_taken : {w : Option Name} (worked watched now : SeatOf B) (met : List Bool) (told : List News)
      → now.took ≡ worked.took ++ watched.log ∷ watched.took → now.me ≡ (both worked.me.0 watched.me.0, [])
      → AreSeen w watched met told → AreSeenBy w now told
  seen_taken worked watched now met told took me h = record {
    cycles = λ c i. (
      watched.log,
      inr (subst (IsIn watched.log) (sym took) (in_right watched.log worked.took (watched.log ∷ watched.took)
          (inl refl))),
      subst (λ (m : SeatMe B). IsSeenRound watched.log m.0.seen c) (sym me)
          (seen_later watched.log watched.log watched.me.0.seen (worked.me.0.seen ++ watched.me.0.seen) ([], refl)
          (λ x j. in_right x worked.me.0.seen watched.me.0.seen j) c (h.cycles c i)),
    );
    broken = λ q i. let s = h.broken q i in (
      s.0,
      subst (λ (m : SeatMe B). IsIn (record { cell = s.0; entry = entry.Broken }) m.0.filled) (sym me)
          (in_right _ worked.me.0.filled watched.me.0.filled s.2.loaded),
      name_where watched.me.0.seen now.me.0.seen (λ x j. subst (λ (m : SeatMe B). IsIn x m.0.seen) (sym me)
          (in_right x worked.me.0.seen watched.me.0.seen j)) s.0 q s.2.named,
    );
    values = λ q v i. let k = h.values q v i in
        (k.0, (k.1.0, value_taken k.1.0 q v worked.me.0 watched.me.0 now.me.0 (ap (λ (m : SeatMe B). m.0) me) k.1.1));
  }
