-- What the log of an observer has of a round, turn by turn.
use Rattle.std.proofs.Common.{◌≡◌, ◌≢◌, ℕ, List, [], ◌∷◌, ◌++◌, ◌⊎◌, Option}
use Rattle.std.proofs.Common.{Some, refl, sym, ap}
use Rattle.std.proofs.Common.{◌∙◌, subst, inl, inr, append_assoc}
use Rattle.tj_base.specs.ForkOrder.{Name}
use Rattle.tj_base.specs.declared.cell.CellId.{CellId}
use Rattle.tj_body.specs.Points.{IsIn}
use Rattle.tj_events.specs.declared.walk.Way.{Way}
use Rattle.tj_log.specs.declared.entry.Entry.{Entry}
use Rattle.tj_mean.specs.declared.outcome.Link.{Link}
use Rattle.tj_words.specs.CallLaws.LoggedRuns.{in_order}
use Rattle.tj_words.specs.CallLaws.StepCalls as call
use Rattle.tj_words.specs.CallLaws.StepLogs.{entry_of}
use Rattle.tj_words.specs.Words.Owners.{owner_number, owner_word}
use Rattle.tj_words.specs.Words.Phases.{phase_word}
use Rattle.tj_words.specs.declared.phase.Phase.{Phase}
use Rattle.tj_words.specs.declared.phase.Phase.TheVariants as phase
use Rattle.tj_words.specs.declared.phase.Walk.{Walk}
use Rattle.tj_words.specs.declared.phase.Walk.TheVariants as walk
use Rattle.tj_words.specs.declared.view.SeenWord.{SeenWord}
use Rattle.tj_told.specs.ToldLoads.{ArePartOf, ComesBack, GrowsTo, HasSeenAlarm, IsWayOn, Turn, loads_of}
use Rattle.tj_told.specs.ToldLoads.{owner_load, phase_load}
use Rattle.tj_told.specs.ToldLinks.{AreLinksOf, FindsTurn, IsFromLeast, IsSeenRound, SeesName}
use Rattle.tj_told.proofs.Climbing.{name_where}

-- a part of a list is one of each longer list
part_longer : {A : Type 0} (xs ys : List A) (z : A) → ArePartOf xs ys → ArePartOf xs (ys ++ z ∷ [])
part_longer [] ys z h = tt
part_longer (x ∷ xs) [] z h = absurd h
part_longer (x ∷ xs) (y ∷ ys) z (inl h) = inl (h.0, part_longer xs ys z h.1)
part_longer (x ∷ xs) (y ∷ ys) z (inr h) = inr (part_longer (x ∷ xs) ys z h)

-- both with one element more
part_with : {A : Type 0} (xs ys : List A) (z : A) → ArePartOf xs ys → ArePartOf (xs ++ z ∷ []) (ys ++ z ∷ [])
part_with [] [] z h = inl (refl, tt)
part_with [] (y ∷ ys) z h = inr (part_with [] ys z tt)
part_with (x ∷ xs) [] z h = absurd h
part_with (x ∷ xs) (y ∷ ys) z (inl h) = inl (h.0, part_with xs ys z h.1)
part_with (x ∷ xs) (y ∷ ys) z (inr h) = inr (part_with (x ∷ xs) ys z h)

-- what a log has it has later
pub part_later : (es old more : List Entry) → ArePartOf es (in_order old) → ArePartOf es (in_order (more ++ old))
part_later es old [] h = h
part_later es old (m ∷ ms) h = part_longer es (in_order (ms ++ old)) m (part_later es old ms h)

pub part_grown : (es old new : List Entry) → GrowsTo old new → ArePartOf es (in_order old) → ArePartOf es (in_order new)
part_grown es old new g h = subst (λ l. ArePartOf es (in_order l)) (sym g.1) (part_later es old g.0 h)

-- a step more that is wanted
part_next : (es old new : List Entry) (e : Entry) → new ≡ e ∷ old → ArePartOf es (in_order old)
    → ArePartOf (es ++ e ∷ []) (in_order new)
part_next es old new e q h = subst (λ l. ArePartOf (es ++ e ∷ []) (in_order l)) (sym q) (part_with es
    (in_order old) e h)

nothing_first : (old : List Entry) → ArePartOf {A = Entry} [] (in_order old)
nothing_first old = tt

-- the alarm of a task was loaded
pub alarm_seen : (t : ℕ) (p : Phase) (c : CellId) (way : Way) (a b : List Entry)
    → p ≡ phase.Waiting c way walk.Alarmed → b ≡ entry_of (call.sees_phase t) 0 0 (phase_word p) ∷ a
    → HasSeenAlarm t b
alarm_seen t p c way a b is q = (
  c,
  way,
  part_next [] a b (phase_load t (phase.Waiting c way walk.Alarmed)) (subst (λ z. b ≡ phase_load t z ∷ a) is q)
      (nothing_first a),
)

-- PHASE and OWN were loaded, and then names
pub turn_found : (t : ℕ) (p : Phase) (c : CellId) (way : Way) (k : Walk) (o : Option CellId) (u : CellId) (link : Link)
    (a b d e : List Entry) (seen : List SeenWord) → p ≡ phase.Waiting c way k
    → b ≡ entry_of (call.sees_phase t) 0 0 (phase_word p) ∷ a → o ≡ Some u
    → d ≡ entry_of (call.sees_owner c.0) 0 0 (owner_word (owner_number o)) ∷ b → GrowsTo d e
    → SeesName seen t link.task → SeesName seen c.0 link.cell → FindsTurn t link u.0 a e seen
turn_found t p c way k o u link a b d e seen is first owned second g task cell = record {
  turn = record { task = t; cell = c; way = way; walk = k; owner = u.0 };
  task = refl;
  owner = refl;
  loads = λ es h.
      let one = phase_load t (phase.Waiting c way k) in
      let two = owner_load c.0 u.0 in
      let x = part_next es a b one (subst (λ z. b ≡ phase_load t z ∷ a) is first) h in
      let y = part_next (es ++ one ∷ []) b d two
      (subst (λ z. d ≡ entry_of (call.sees_owner c.0) 0 0 (owner_word (owner_number z)) ∷ b) owned second) x in
      subst (λ l. ArePartOf l (in_order e)) (append_assoc es (one ∷ []) (two ∷ []))
      (part_grown ((es ++ one ∷ []) ++ two ∷ []) d e g y);
  task_named = task;
  cell_named = cell;
}

loads_both : (xs : List Turn) (y : Turn) → loads_of (xs ++ y ∷ []) ≡ loads_of xs ++ loads_of (y ∷ [])
loads_both [] y = refl
loads_both (x ∷ xs) y = ap (λ l. phase_load x.task
    (phase.Waiting x.cell x.way x.walk) ∷ owner_load x.cell.0 x.owner ∷ l)
    (loads_both xs y)

way_next : (first t : ℕ) (xs : List Turn) (at : ℕ) (x : Turn) → IsWayOn first t xs at → x.task ≡ at → x.owner ≢ first
    → IsWayOn first t (xs ++ x ∷ []) x.owner
way_next first t [] at x h e n = (e ∙ sym h, n, refl)
way_next first t (y ∷ ys) at x h e n = (h.0, h.1, way_next first y.owner ys at x h.2 e n)

way_back : (first t : ℕ) (xs : List Turn) (at : ℕ) (x : Turn) → IsWayOn first t xs at → x.task ≡ at → x.owner ≡ first
    → ComesBack first t (xs ++ x ∷ [])
way_back first t [] at x h e n = (e ∙ sym h, n)
way_back first t (y ∷ []) at x h e n = (h.0, h.1, (e ∙ sym h.2, n))
way_back first t (y ∷ z ∷ zs) at x h e n = (h.0, h.1, way_back first y.owner (z ∷ zs) at x h.2 e n)

links_next : (Named : ℕ → Name → Type 0) (xs : List Turn) (ls : List Link) (x : Turn) (l : Link)
    → AreLinksOf Named xs ls → Named x.task l.task → Named x.cell.0 l.cell
    → AreLinksOf Named (xs ++ x ∷ []) (ls ++ l ∷ [])
links_next Named [] [] x l h t c = (t, c, tt)
links_next Named [] (k ∷ ks) x l h t c = absurd h
links_next Named (y ∷ ys) [] x l h t c = absurd h
links_next Named (y ∷ ys) (k ∷ ks) x l h t c = (h.0, h.1, links_next Named ys ks x l h.2 t c)

links_where : (seen more : List SeenWord) → ((w : SeenWord) → IsIn w seen → IsIn w more) → (xs : List Turn)
    (ls : List Link) → AreLinksOf (SeesName seen) xs ls → AreLinksOf (SeesName more) xs ls
links_where seen more f [] [] h = tt
links_where seen more f [] (k ∷ ks) h = absurd h
links_where seen more f (y ∷ ys) [] h = absurd h
links_where seen more f (y ∷ ys) (k ∷ ks) h = (
  name_where seen more f y.task k.task h.0,
  name_where seen more f y.cell.0 k.cell h.1,
  links_where seen more f ys ks h.2,
)

-- the turns so far lead from the task that has alarmed to this one, and these are their links
pub record IsOnRound (t at : ℕ) (links : List Link) (log : List Entry) (seen : List SeenWord) : Type 0 where
  pub cell : CellId
  pub way : Way
  pub turns : List Turn
  pub loads : ArePartOf (phase_load t (phase.Waiting cell way walk.Alarmed) ∷ loads_of turns) (in_order log)
  pub on : IsWayOn t t turns at
  pub named : AreLinksOf (SeesName seen) turns links

pub round_starts : (t : ℕ) (log : List Entry) (seen : List SeenWord) → HasSeenAlarm t log → IsOnRound t t [] log seen
round_starts t log seen h =
    record { cell = h.0; way = h.1; turns = []; loads = h.2; on = refl; named = tt }

module _ (t at u : ℕ) (links more : List Link) (link : Link) (log new : List Entry) (seen wide : List SeenWord)
    (i : IsOnRound t at links log seen) (f : FindsTurn at link u log new wide)
    (w : (x : SeenWord) → IsIn x seen → IsIn x wide) (pushed : more ≡ links ++ link ∷ []) where
  loads_on : ArePartOf (phase_load t (phase.Waiting i.cell i.way walk.Alarmed) ∷ loads_of (i.turns ++ f.turn ∷ []))
      (in_order new)
  loads_on = subst (λ l. ArePartOf (phase_load t (phase.Waiting i.cell i.way walk.Alarmed) ∷ l) (in_order new))
      (sym (loads_both i.turns f.turn))
      (f.loads (phase_load t (phase.Waiting i.cell i.way walk.Alarmed) ∷ loads_of i.turns) i.loads)

  named_on : AreLinksOf (SeesName wide) (i.turns ++ f.turn ∷ []) more
  named_on = subst (AreLinksOf (SeesName wide) (i.turns ++ f.turn ∷ [])) (sym pushed)
      (links_next (SeesName wide) i.turns links f.turn link (links_where seen wide w i.turns links i.named)
      f.task_named f.cell_named)

  pub round_on : u ≢ t → IsOnRound t u more new wide
  round_on n = record {
    cell = i.cell;
    way = i.way;
    turns = i.turns ++ f.turn ∷ [];
    loads = loads_on;
    on = subst (IsWayOn t t (i.turns ++ f.turn ∷ [])) f.owner
        (way_next t t i.turns at f.turn i.on f.task (λ e. n (sym f.owner ∙ e)));
    named = named_on;
  }

  pub round_seen : u ≡ t → (turned : List Link) → IsFromLeast more turned → IsSeenRound new wide turned
  round_seen e turned least = record {
    task = t;
    turns = i.turns ++ f.turn ∷ [];
    round = record {
      cell = i.cell;
      way = i.way;
      loads = loads_on;
      back = way_back t t i.turns at f.turn i.on f.task (f.owner ∙ e);
    };
    links = more;
    named = named_on;
    least = least;
  }

-- what was seen is seen later
pub seen_later : (a b : List Entry) (seen wide : List SeenWord) → GrowsTo a b
    → ((x : SeenWord) → IsIn x seen → IsIn x wide) → (c : List Link) → IsSeenRound a seen c → IsSeenRound b wide c
seen_later a b seen wide g w c r = record {
  task = r.task;
  turns = r.turns;
  round = record {
    cell = r.round.cell;
    way = r.round.way;
    loads = part_grown (phase_load r.task
        (phase.Waiting r.round.cell r.round.way walk.Alarmed) ∷ loads_of r.turns) a b g
        r.round.loads;
    back = r.round.back;
  };
  links = r.links;
  named = links_where seen wide w r.turns r.links r.named;
  least = r.least;
}
