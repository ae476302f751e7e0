-- What a seat has loaded of a cycle, or of a broken cell, stands by the closed cells at the end of its run.
use Rattle.std.proofs.Common.{◌≡◌, ◌-◌, ◌<◌, ◌⊎◌, ⊎_elim, ℕ, zero, suc, Bool, List, [], ◌∷◌, Option, refl, sym, ap}
use Rattle.std.proofs.Common.{◌∙◌, subst, arith, length, min, reverse, inl, inr, Result, Err, IfErr}
use Rattle.std.proofs.Math.Option.{some-injective}
use Rattle.std.proofs.lemmas.List.{reverse-append}
use lib.ListN.{get_elem?}
use Rattle.atomic_table.specs.Table.{State}
use Rattle.tj_base.specs.ForkOrder.{Name, child}
use Rattle.tj_body.specs.History.{to_task}
use Rattle.tj_body.specs.Points.{IsIn}
use Rattle.tj_body.specs.Programs.{Program}
use Rattle.tj_body.specs.RoundPoints.{Becomes}
use Rattle.tj_body.specs.declared.point.Entry.{Entry}
use Rattle.tj_body.specs.declared.point.Entry.TheVariants as entry
use Rattle.tj_body.specs.declared.point.Reference.{Reference}
use Rattle.tj_log.specs.Shown.{SeatShown}
use Rattle.tj_log.specs.declared.entry.Entry as logged
use Rattle.tj_mean.specs.declared.outcome.Link.{Link}
use Rattle.tj_laws.specs.TableWaits.{EveryMoment}
use Rattle.tj_words.specs.AtRest.ClosedCells as closed
use Rattle.tj_words.specs.AtRest.EndedRuns.{EndsRun}
use Rattle.tj_words.specs.AtRest.ShownCells.{cell_of, maker_in}
use Rattle.tj_words.specs.CallLaws.RestedRuns.{Ruled, last_moment}
use Rattle.tj_words.specs.Law.{Law}
use Rattle.tj_words.specs.LawParts.Contents.{contents_of, drawn_in}
use Rattle.tj_words.specs.SeatViews.KnownEntries.{HasSeen}
use Rattle.tj_words.specs.LawParts.TreeWords.{IsCell}
use Rattle.tj_words.specs.SeatViews.SeenWords.{SeesNames, seen_word}
use Rattle.tj_words.specs.Words.Offsets.{once_at, word}
use Rattle.tj_words.specs.declared.closed.RestCell.{RestCell}
use Rattle.tj_words.specs.declared.offsets.Once.{Once}
use Rattle.tj_words.specs.declared.offsets.Once.TheVariants as once
use Rattle.tj_record.specs.declared.record.Rec.{Rec}
use Rattle.tj_words.specs.declared.view.SeenWord.{SeenWord}
use Rattle.tj_words.specs.declared.view.View.{View}
use Rattle.tj_words.proofs.Prelude.{at_map}
use Rattle.tj_words.proofs.SeatLoads.KnowLoads.{sees_names}
use Rattle.tj_words.proofs.Stores.SeatLists.{inside}
use Rattle.tj_told.proofs.ClosedRounds.{turns_closed}
use Rattle.tj_told.proofs.Loaded.{TurnsStand, own_stands, round_stands}
use Rattle.tj_told.specs.EndedNews.{ClimbsIn, IsNamedIn, IsStandingBroken}
use Rattle.tj_told.specs.EndedNews.{IsEarly, IsStandingRound, StoodAtEnd}
use Rattle.tj_told.specs.declared.fault.ToldFault.{ToldFault}
use Rattle.tj_told.specs.declared.fault.ToldFault.TheVariants as fault
use Rattle.tj_told.proofs.RunFaults.{of_err}
use Rattle.tj_told.specs.SeenNews.{AreSeenBy, HasLogOf, HasStopped}
use Rattle.tj_told.specs.declared.news.News.{News}
use Rattle.tj_told.specs.ToldLoads.{HasRound, Turn}
use Rattle.tj_told.specs.ToldLinks.{AreLinksOf, ClimbsTo, IsSeenRound, SeesName}

-- the maker that a word PARENT names
pub maker_number : (p : ℕ) → (maker_in p).0 ≡ p - 1
maker_number zero = refl
maker_number (suc p) = omega arith

-- by what a seat has seen of the tree, a cell has the name that was seen
name_by_tree : (seen : List SeenWord) (born : List Reference) → SeesNames seen born → (ks : List ℕ) (c : ℕ)
    (x : Reference) → ClimbsTo seen c ks 0 → IsCell born c x → x.name ≡ reverse ks
name_by_tree seen born n [] c x h is = ap (λ (r : Reference). r.name)
    (some-injective x (to_task []) (sym is ∙ (ap (get_elem? born) h ∙ n.root)))
name_by_tree seen born n (k ∷ ks) c x h is =
    let m = n.named c h.1.0 k x h.0 h.1.1 h.1.2 is in
    m.2 ∙ (ap (λ q. child q k) (name_by_tree seen born n ks (h.1.0 - 1) m.0 h.1.3 m.1)
    ∙ sym (reverse-append (k ∷ []) ks))

-- links that are named in one way are so in another
links_as : {F G : ℕ → Name → Type 0} → ((c : ℕ) (q : Name) → F c q → G c q) → (xs : List Turn) (ls : List Link)
    → AreLinksOf F xs ls → AreLinksOf G xs ls
links_as f [] [] h = tt
links_as f [] (l ∷ ls) h = absurd h
links_as f (x ∷ xs) [] h = absurd h
links_as f (x ∷ xs) (l ∷ ls) h = (f x.task l.task h.0, f x.cell.0 l.cell h.1, links_as f xs ls h.2)

module _ {B : Type 0} (program : Bool → B → Program B) (limit : ℕ) (strict : Bool) (root : B)
    (seat : SeatShown (Option (Rec B)) (View B)) (cells : List RestCell) (records : List (Option (Rec B)))
    (e : EndsRun program limit strict root seat cells records) where
  abbrev end : Ruled program e.key
  end = last_moment program e.key e.run.first e.run.later

  law : Law (program e.key.strict e.key.root.value) e.key.cells (contents_of e.last)
  law = subst (λ (z : State (Option (Rec B)) (View B)).
      Law (program e.key.strict e.key.root.value) e.key.cells (contents_of z)) e.run.end end.rule.law

  abbrev drawn : ℕ
  drawn = drawn_in e.key.cells (contents_of e.last)

  all : length cells ≡ drawn
  all = e.shown.all ∙ sym (ap (min (contents_of e.last).words.count) e.key_cells)

  each : (c : ℕ) → c < drawn → closed.IsShown cells c (cell_of e.last.words c)
  each c l = e.shown.each c (subst (λ n. c < n) (sym all) l)

  stands : (c : ℕ) (f : Once) (n : ℕ) → IsIn (seen_word c f n) seat.me.0.seen
      → (c < drawn) × (word e.last.words (once_at c f) ≡ n)
  stands c f n i =
      let s = law.once_words.stands seat.id seat.me.0.seen
      (at_map (λ (z : View B). z.seen) e.last.views seat.id seat.me.0 e.seat_is) (seen_word c f n) i in
      (s.drawn_cell, s.value)

  climbs : (ks : List ℕ) (c : ℕ) → ClimbsTo seat.me.0.seen c ks 0 → ClimbsIn cells c ks
  climbs [] c h = h
  climbs (k ∷ ks) c h =
      let p = h.1.0 in let parent = stands c once.Parent p h.1.1 in let kid = stands c once.Kid k h.1.2 in
      let at : (cell_of e.last.words c).parent.0 ≡ p - 1 = ap (λ m. (maker_in m).0) parent.1 ∙ maker_number p in (
        h.0,
        (
          cell_of e.last.words c,
          each c parent.0,
          kid.1,
          subst (λ z. ClimbsIn cells z ks) (sym at) (climbs ks (p - 1) h.1.3),
        ),
      )

  named : (c : ℕ) (q : Name) → SeesName seat.me.0.seen c q → IsNamedIn cells c q
  named c q n = (n.0, climbs n.0 c n.1, n.2)

  -- a round that one of the seat's logs has stands at the end
  pub turns : EveryMoment B → (log : List logged.Entry) → HasLogOf seat log → (t : ℕ) (xs : List Turn)
      → HasRound t xs log → TurnsStand (contents_of e.last) xs
  turns every log own t xs r = ⊎_elim
      (λ (is : log ≡ seat.log). own_stands every program e.key e.last e.run seat.id t xs
      (subst (HasRound t xs) (is ∙ e.log) r))
      (λ (i : IsIn log seat.took). round_stands every program e.key e.last e.run seat.id log
      (subst (IsIn log) e.took i) t xs r) own

  pub cycle_stands : EveryMoment B → (log : List logged.Entry) → HasLogOf seat log → (c : List Link)
      → IsSeenRound log seat.me.0.seen c → IsStandingRound cells c
  cycle_stands every log own c r = record {
    task = r.task;
    turns = r.turns;
    back = r.round.back;
    stand = turns_closed e.last e.key.cells law cells each r.turns (turns every log own r.task r.turns r.round);
    links = r.links;
    named = links_as named r.turns r.links r.named;
    least = r.least;
  }

  pub broken_stands : (c : ℕ) (q : Name) → HasSeen seat.me.0.filled c entry.Broken → SeesName seat.me.0.seen c q
      → IsStandingBroken cells q
  broken_stands c q i n =
      let f = law.meaning.filled_stands seat.id seat.me.0.filled
      (at_map (λ (z : View B). z.filled) e.last.views seat.id seat.me.0 e.seat_is)
      (record { cell = c; entry = entry.Broken }) i in
      let d : c < drawn = let a = inside law.born c f.written.reference f.written.is in
      let b = law.births.all in omega arith in
      (c, cell_of e.last.words c, each c d, f.tag_is, named c q n)

  -- what the seat has seen of the tree tells names
  tree : SeesNames seat.me.0.seen law.born
  tree = sees_names (program e.key.strict e.key.root.value) e.key.cells (contents_of e.last) law seat.me.0.seen
      (law.once_words.stands seat.id seat.me.0.seen
      (at_map (λ (z : View B). z.seen) e.last.views seat.id seat.me.0 e.seat_is))

  -- a cell that the seat has loaded as this has become so in some round
  pub becomes : (c : ℕ) (q : Name) (x : Entry) → HasSeen seat.me.0.filled c x → SeesName seat.me.0.seen c q
      → Becomes (program strict root) q x
  becomes c q x i n =
      let w = (law.meaning.filled_stands seat.id seat.me.0.filled
      (at_map (λ (z : View B). z.filled) e.last.views seat.id seat.me.0 e.seat_is)
      (record { cell = c; entry = x }) i).written in
      let one = name_by_tree seat.me.0.seen law.born tree n.0 c w.reference n.1 w.is ∙ sym n.2 in
      subst (λ s. Becomes (program s root) q x) e.key_strict
      (subst (λ r. Becomes (program e.key.strict r) q x) e.key_root
      (subst (λ z. Becomes (program e.key.strict e.key.root.value) z x) one w.becomes))

-- what was told, and was seen by a seat of the run, stood at its end
pub stood : {B : Type 0} → EveryMoment B → (program : Bool → B → Program B) (limit : ℕ) (strict : Bool) (root : B)
    (wanted : Option Name) (seat : SeatShown (Option (Rec B)) (View B)) (cells : List RestCell)
    (records : List (Option (Rec B))) → EndsRun program limit strict root seat cells records → (told : List News)
    → AreSeenBy wanted seat told → (why : ToldFault) → (why ≡ fault.Stopped → HasStopped seat)
    → StoodAtEnd program limit strict root wanted why told
stood every program limit strict root wanted seat cells records e told seen why stopped = record {
  seat = seat;
  cells = cells;
  records = records;
  ends = e;
  stopped = stopped;
  cycles = λ c i. let l = seen.cycles c i in
      cycle_stands program limit strict root seat cells records e every l.0 l.1 c l.2;
  broken = λ q i. let l = seen.broken q i in (
    broken_stands program limit strict root seat cells records e l.0 q l.1 l.2,
    becomes program limit strict root seat cells records e l.0 q entry.Broken l.1 l.2,
  );
  values = λ q v i. let l = seen.values q v i in let k = l.1.1 in (
    l.0,
    (
      k.seen.value,
      k.seen.shown,
      becomes program limit strict root seat cells records e l.1.0 q
          (entry.Value k.seen.value) k.seen.loaded k.named,
    ),
  );
}

-- what a run that has no outcome gives of what was told
pub early_by : {B A : Type 0} → EveryMoment B → (program : Bool → B → Program B) (limit : ℕ) (strict : Bool) (root : B)
    (wanted : Option Name) (r : Result A ToldFault) (f : ToldFault) → r ≡ Err f → (told : List News)
    → IfErr r (λ why. (told ≡ []) ⊎ ((seat : SeatShown (Option (Rec B)) (View B)) × (cells : List RestCell)
    × (records : List (Option (Rec B))) × EndsRun program limit strict root seat cells records
    × AreSeenBy wanted seat told × (why ≡ fault.Stopped → HasStopped seat)))
    → IsEarly program limit strict root wanted f told
early_by every program limit strict root wanted r f is told h = ⊎_elim (λ e. inl e)
    (λ s. inr (inl (stood every program limit strict root wanted s.0 s.1 s.2 s.3 told s.4 f s.5)))
    (of_err _ r f is h)

-- where the run was at rest and memory was lacking then, nobody had stopped it
pub stood_at_rest : {B : Type 0} → EveryMoment B → (program : Bool → B → Program B) (limit : ℕ) (strict : Bool)
    (root : B) (wanted : Option Name) (seat : SeatShown (Option (Rec B)) (View B)) (cells : List RestCell)
    (records : List (Option (Rec B))) → EndsRun program limit strict root seat cells records → (told : List News)
    → AreSeenBy wanted seat told → StoodAtEnd program limit strict root wanted fault.Oom told
stood_at_rest every program limit strict root wanted seat cells records e told seen =
    stood every program limit strict root wanted seat cells records e told seen fault.Oom (λ is. absurd (cc))
