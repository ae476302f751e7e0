-- A round that was seen is one of the outcome's cycles.
use Rattle.std.proofs.Common.{◌≡◌, ◌-◌, ◌<◌, ◌⊎◌, ℕ, Bool}
use Rattle.std.proofs.Common.{List, [], ◌∷◌, Option, None, Some, refl, sym, ap, ◌∙◌}
use Rattle.std.proofs.Common.{subst, arith, length, min, reverse}
use Rattle.std.proofs.Math.Option.{some-injective}
use Rattle.std.proofs.lemmas.List.{reverse-append}
use lib.ListN.{get_elem?}
use Rattle.atomic_table.specs.Table.{State}
use Rattle.tj_base.specs.ForkOrder.{Name, child}
use Rattle.tj_body.specs.History.{to_task}
use Rattle.tj_body.specs.Points.{IsIn}
use Rattle.tj_body.specs.Programs.{Program}
use Rattle.tj_body.specs.Laws.{IsLast}
use Rattle.tj_body.specs.RoundPoints.{Becomes}
use Rattle.tj_body.specs.Rounds.{given, last_round, meaning}
use Rattle.tj_body.proofs.Lists.{to_map}
use Rattle.tj_body.proofs.RoundPoints.{entries_are_one}
use Rattle.tj_body.specs.declared.point.Entry as point_entry
use Rattle.tj_body.specs.declared.point.Entry.TheVariants as entry
use Rattle.tj_body.specs.declared.point.Reference.{Reference}
use Rattle.tj_log.specs.Shown.{SeatShown}
use Rattle.tj_log.specs.declared.entry.Entry.{Entry}
use Rattle.tj_base.specs.declared.value.Shown.{Shown}
use Rattle.tj_mean.specs.Outcomes.{IsOutcome}
use Rattle.tj_report.specs.NamedValues.{IsOfName, became_of}
use Rattle.tj_report.specs.declared.named_values.Became.{Became}
use Rattle.tj_report.specs.declared.named_values.Became.TheVariants as became
use Rattle.tj_mean.specs.declared.outcome.Link.{Link}
use Rattle.tj_mean.specs.declared.outcome.Outcome.{Outcome}
use Rattle.tj_words.specs.AtRest.ClosedCells as closed
use Rattle.tj_words.specs.AtRest.EndedRuns.{EndsRun}
use Rattle.tj_words.specs.AtRest.RestMeaning.{AreWordsOf, names as closed_names, tag_for}
use Rattle.tj_run.specs.Runs.{RestsAt}
use Rattle.tj_words.specs.AtRest.RestShown.{RestShown}
use Rattle.tj_words.specs.AtRest.ShownCells.{cell_of, maker_in}
use Rattle.tj_words.specs.CallLaws.RestedRuns.{Ruled, last_moment}
use Rattle.tj_words.specs.Law.{Law}
use Rattle.tj_words.specs.LawParts.Contents.{contents_of, drawn_in}
use Rattle.tj_words.specs.LawParts.TreeWords.{IsCell}
use Rattle.tj_words.specs.SeatViews.KnownEntries.{HasSeen}
use Rattle.tj_words.specs.LawParts.Telling.{tag_of}
use Rattle.tj_words.specs.SeatViews.SeenWords.{seen_word}
use Rattle.tj_words.specs.Words.Offsets.{once_at, word}
use Rattle.tj_words.specs.declared.closed.RestCell.{RestCell}
use Rattle.tj_words.specs.declared.offsets.Once.{Once}
use Rattle.tj_words.specs.declared.offsets.Once.TheVariants as once
use Rattle.tj_record.specs.declared.record.Rec.{Rec}
use Rattle.tj_words.specs.declared.view.SeenWord.{SeenWord}
use Rattle.tj_words.specs.declared.view.View.{View}
use Rattle.tj_words.proofs.Lemmas.{at_index}
use Rattle.tj_words.proofs.SeatLoads.KnowLoads.{tag_some}
use Rattle.tj_words.proofs.Stores.SeatLists.{in_of_index, inside}
use Rattle.tj_words.proofs.Prelude.{at_map}
use Rattle.tj_words.proofs.Meaning.MeantCycles.{one_meant, same_names}
use Rattle.tj_laws.specs.TableWaits.{EveryMoment}
use Rattle.tj_told.proofs.BrokenCells.{broken_tag, broken_told}
use Rattle.tj_told.proofs.Hearings.{told_of, value_early}
use Rattle.tj_told.specs.EndedNews.{IsOfOutcome}
use Rattle.tj_told.specs.SeenNews.{AreSeenBy, HasLogOf, HasSeenValue}
use Rattle.tj_told.specs.ToldNews.{AreAnswers, IsBrokenIn, IsCycleOf}
use Rattle.tj_told.specs.declared.news.News.{News}
use Rattle.tj_told.proofs.ClosedRounds.{round_meant, turns_closed}
use Rattle.tj_told.proofs.EndedRounds.{becomes, maker_number, turns}
use Rattle.tj_told.proofs.ToldRounds.{cycle_told}
use Rattle.tj_told.specs.ToldLoads.{Turn}
use Rattle.tj_told.specs.ToldLinks.{AreLinksOf, ClimbsTo, IsNamed, IsSeenRound, SeesName}

-- TAG is 4 where the entry is that of a broken cell
broken_for : (o : Option point_entry.Entry) → 4 ≡ tag_for o → o ≡ Some entry.Broken
broken_for None h = let z : 4 ≡ 0 = h in absurd (cc)
broken_for (Some e) h = ap (λ z. Some z) (broken_tag e h)

-- an entry that has a TAG is there, and is the one that its cell ever has
meant_entry : {B : Type 0} (program : Program B) (n : ℕ) (q : Name) (e : point_entry.Entry)
    (o : Option point_entry.Entry) → given program n q ≡ o → tag_of e ≡ tag_for o → Becomes program q e
    → given program n q ≡ Some e
meant_entry program n q e None is t b = absurd (tag_some e t)
meant_entry program n q e (Some d) is t b = is ∙ ap (λ z. Some z) (entries_are_one program q d e (n, is) b).0

-- the name that an option has
abbrev name_in : Option Name → Name → Name
name_in (Some q) p = q
name_in None p = p

-- what the meaning has for a name is one
pub one_answer : {B : Type 0} (program : Program B) (n : ℕ) (q : Name) (o : Option Became) (b : Became)
    → IsOfName program n q o → IsOfName program n q (Some b) → o ≡ Some b
one_answer program n q None b h k = absurd (h k.0)
one_answer program n q (Some a) b h k = ap (λ z. Some z) (h.1 ∙ sym k.1)

-- each value that was told is the answer, where it is of the outcome
pub answered : {B : Type 0} (program : Bool → B → Program B) (limit : ℕ) (strict : Bool) (root : B) (name : Name)
    (answer : Option Became) (o : Outcome) (told : List News) → IsOfName (program strict root) limit name answer
    → IsOfOutcome program limit strict root (Some name) o told → AreAnswers (Some name) answer told
answered program limit strict root name answer o told a h q v i = let k = h.values q v i in (
  k.0,
  one_answer (program strict root) limit q answer (became.Value v)
      (subst (λ z. IsOfName (program strict root) limit z answer) (ap (λ n. name_in n name) k.0) a) k.1,
)

-- what became of a cell by the names of the table is so by the root, the limit and the rule that were given
pub became_named : {B : Type 0} (program : Bool → B → Program B) (root : B) (limit : ℕ) (strict : Bool)
    (r : RestShown B)
    (q : Name) (o : Option Became) → RestsAt program root limit strict r
    → IsOfName (program r.strict r.root) r.limit q o → IsOfName (program strict root) limit q o
became_named program root limit strict r q o h is =
    subst (λ z. IsOfName (program strict z) limit q o) h.names_root
    (subst (λ z. IsOfName (program strict r.root) z q o) h.names_limit
    (subst (λ z. IsOfName (program z r.root) r.limit q o) h.names_strict is))

module _ (words : List ℕ) (drawn : ℕ) (shown : List RestCell) (born : List Reference)
    (named : closed.AreNamed shown born)
    (each : (c : ℕ) → c < drawn → closed.IsShown shown c (cell_of words c))
    (there : (c : ℕ) → c < drawn → c < length born) (seen : List SeenWord)
    (stands : (c : ℕ) (f : Once) (n : ℕ) → IsIn (seen_word c f n) seen → (c < drawn) × (word words (once_at c f) ≡ n))
  where
    -- what was seen tells the name
    climbed_name : (ks : List ℕ) (c : ℕ) → ClimbsTo seen c ks 0 → IsNamed born c (reverse ks)
    climbed_name [] c h = (to_task [], subst (λ z. IsCell born z (to_task [])) (sym h) named.root, refl)
    climbed_name (k ∷ ks) c h =
        let p = h.1.0 in
        let parent = stands c once.Parent p h.1.1 in
        let kid = stands c once.Kid k h.1.2 in
        let r = at_index born c (to_task []) (there c parent.0) in
        let by = named.named c (cell_of words c) _ h.0 (each c parent.0) r in
        let maker = climbed_name ks (p - 1) h.1.3 in
        let at : (cell_of words c).parent.0 ≡ p - 1 = ap (λ m. (maker_in m).0) parent.1 ∙ maker_number p in
        let same : by.1.0 ≡ maker.0 =
        some-injective by.1.0 maker.0 (sym by.1.1 ∙ (ap (get_elem? born) at ∙ maker.1)) in (
          _,
          r,
          by.1.2
              ∙ (ap (λ (m : Reference). child m.name (cell_of words c).kid) same
              ∙ (ap (λ q. child q (cell_of words c).kid) maker.2
              ∙ (ap (λ m. child (reverse ks) m) kid.1
              ∙ sym (reverse-append (k ∷ []) ks)))),
        )

    links_named : (xs : List Turn) (ls : List Link) → AreLinksOf (SeesName seen) xs ls → AreLinksOf (IsNamed born) xs ls
    links_named [] [] h = tt
    links_named [] (l ∷ ls) h = absurd h
    links_named (x ∷ xs) [] h = absurd h
    links_named (x ∷ xs) (l ∷ ls) h = (
      subst (IsNamed born x.task) (sym h.0.2) (climbed_name h.0.0 x.task h.0.1),
      subst (IsNamed born x.cell.0) (sym h.1.2) (climbed_name h.1.0 x.cell.0 h.1.1),
      links_named xs ls h.2,
    )

module _ {B : Type 0} (every : EveryMoment B) (program : Bool → B → Program B) (limit : ℕ) (strict : Bool) (root : B)
    (seat : SeatShown (Option (Rec B)) (View B)) (cells : List RestCell) (records : List (Option (Rec B)))
    (e : EndsRun program limit strict root seat cells records) (born : List Reference)
    (words : AreWordsOf (program strict root) limit born cells) where
  abbrev end : Ruled program e.key
  end = last_moment program e.key e.run.first e.run.later

  law : Law (program e.key.strict e.key.root.value) e.key.cells (contents_of e.last)
  law = subst (λ (z : State (Option (Rec B)) (View B)).
      Law (program e.key.strict e.key.root.value) e.key.cells (contents_of z)) e.run.end end.rule.law

  abbrev drawn : ℕ
  drawn = drawn_in e.key.cells (contents_of e.last)

  all : length cells ≡ drawn
  all = e.shown.all ∙ sym (ap (min (contents_of e.last).words.count) e.key_cells)

  each : (c : ℕ) → c < drawn → closed.IsShown cells c (cell_of e.last.words c)
  each c l = e.shown.each c (subst (λ n. c < n) (sym all) l)

  there : (c : ℕ) → c < drawn → c < length born
  there c l = subst (λ n. c < n) (sym (words.named.all ∙ all)) l

  stands : (c : ℕ) (f : Once) (n : ℕ) → IsIn (seen_word c f n) seat.me.0.seen
      → (c < drawn) × (word e.last.words (once_at c f) ≡ n)
  stands c f n i =
      let s = law.once_words.stands seat.id seat.me.0.seen
      (at_map (λ (z : View B). z.seen) e.last.views seat.id seat.me.0 e.seat_is) (seen_word c f n) i in
      (s.drawn_cell, s.value)

  -- so what was told early is one of the outcome's cycles
  pub seen_told : (o : Outcome) → IsOutcome (meaning (program strict root) limit) o → (log : List Entry)
      → HasLogOf seat log → (c : List Link) → IsSeenRound log seat.me.0.seen c → IsIn c o.cycles
  seen_told o is log i c r =
      let turns = turns program limit strict root seat cells records e every log i r.task r.turns r.round in
      let closed = turns_closed e.last e.key.cells law cells each r.turns turns in
      let links = links_named e.last.words drawn cells born words.named each there seat.me.0.seen stands r.turns r.links
      r.named in
      let m = round_meant
      (program strict root) limit cells born words r.task r.turns r.links r.round.back closed links in
      cycle_told (meaning (program strict root) limit) (one_meant (program strict root) limit cells born words)
      (same_names (program strict root) limit cells born words) o is r.links c m.0 m.1 r.least

  -- and a cell that was loaded as broken is so by the outcome
  pub broken_seen : IsLast (program strict root) → (o : Outcome) → IsOutcome (meaning (program strict root) limit) o
      → (c : ℕ) → HasSeen seat.me.0.filled c entry.Broken → (q : Name) → SeesName seat.me.0.seen c q → IsBrokenIn o q
  broken_seen is_last o is c i q n =
      let f = law.meaning.filled_stands seat.id seat.me.0.filled
      (at_map (λ (z : View B). z.filled) e.last.views seat.id seat.me.0 e.seat_is)
      (record { cell = c; entry = entry.Broken }) i in
      let d : c < drawn = let a = inside law.born c f.written.reference f.written.is in
      let b = law.births.all in omega arith in
      let x = climbed_name e.last.words drawn cells born words.named each there seat.me.0.seen stands n.0 c n.1 in
      let name = x.2 ∙ sym n.2 in
      let given_so = words.entries c (cell_of e.last.words c) x.0 (each c d) x.1 in
      broken_told (program strict root) limit is_last words.fits o is q
      (subst (λ z. given (program strict root) (last_round limit) z ≡ Some entry.Broken) name
      (broken_for (given (program strict root) (last_round limit) x.0.name) (sym f.tag_is ∙ given_so)))

  -- and a value that was loaded is what the meaning has for the cell of that name
  pub value_seen : (c : ℕ) (q : Name) (v : Shown) → HasSeenValue c q v seat.me.0
      → IsOfName (program strict root) limit q (Some (became.Value v))
  value_seen c q v h =
      let p = program strict root in let x = entry.Value h.seen.value in let ks = h.named.0 in
      let f = law.meaning.filled_stands seat.id seat.me.0.filled
      (at_map (λ (z : View B). z.filled) e.last.views seat.id seat.me.0 e.seat_is)
      (record { cell = c; entry = x }) h.seen.loaded in
      let w = f.written in
      let d : c < drawn = let a = inside law.born c w.reference w.is in
      let b = law.births.all in omega arith in
      let y = climbed_name e.last.words drawn cells born words.named each there seat.me.0.seen stands ks c h.named.1 in
      let name = y.2 ∙ sym h.named.2 in
      let tag = words.entries c (cell_of e.last.words c) y.0 (each c d) y.1 in
      let became_so = becomes program limit strict root seat cells records e c q x h.seen.loaded h.named in
      let is = meant_entry p (last_round limit) q x (given p (last_round limit) q) refl
      (sym f.tag_is ∙ (tag ∙ ap (λ z. tag_for (given p (last_round limit) z)) name)) became_so in (
        (words.all q).0 (subst (λ n. IsIn n (closed_names born)) name
            (to_map (λ (r : Reference). r.name) y.0 born (in_of_index born c y.0 y.1))),
        ap (λ z. became.Value z) (sym h.seen.shown) ∙ ap became_of (sym is),
      )

  -- what was told before a run ended at rest is of its outcome, of which only cycles were told after that
  pub of_outcome : (wanted : Option Name) → IsLast (program strict root) → (o : Outcome)
      → IsOutcome (meaning (program strict root) limit) o → (early told : List News) → AreSeenBy wanted seat early
      → ((d : News) → IsIn d told → IsIn d early ⊎ IsCycleOf o.cycles d)
      → IsOfOutcome program limit strict root wanted o told
  of_outcome wanted is_last o is early told s only = record {
    is = is;
    fits = words.fits;
    agree = told_of early told o (λ c i. let l = s.cycles c i in seen_told o is l.0 l.1 c l.2)
        (λ q i. let l = s.broken q i in broken_seen is_last o is l.0 l.1 q l.2) only;
    values = λ q v i. let l = s.values q v (value_early early told o.cycles only q v i) in
        (l.0, value_seen l.1.0 q v l.1.1);
  }
