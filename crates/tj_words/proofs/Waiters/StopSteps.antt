-- The law under a store of STOP, and under a draw that finds no cell left.
use Rattle.tj_words.proofs.Prelude.{Births, Contents, CoreFacts, Custodies, Hands, IsForkTree, IsFull, Law, List, Lots}
use Rattle.tj_words.proofs.Prelude.{Meaning, NamesCells, OnceWords, OwnedLists, Program, Stops, TreeWords, arith}
use Rattle.tj_words.proofs.Prelude.{bits_in, drawn_in, hand_of, held_of, home_of, made_of, min, owned_of, state_shown}
use Rattle.tj_words.proofs.Prelude.{subst, suc, sym, tag_in, total, ℕ, ◌<◌, ◌≡◌, ◌≤◌}
use Rattle.tj_words.proofs.Meaning.MeaningSteps.{stop_meant, refused_meant}
use Rattle.tj_words.proofs.Meaning.LawMeant.{ground_of, known_of, law_meant}
use Rattle.tj_words.proofs.Stores.LawChanges.{law_kept}

module _ {B : Type 0} (program : Program B) (N : ℕ) (x : Contents B) (r : Law program N x) where
  -- the store of STOP
  pub law_stops : (stop : ℕ) (stored : List (List ℕ)) → Stops stop stored x.seats.told
      → (stop ≡ 1 → N < x.words.count)
      → Law program N (record x {
        words = record x.words { stop = stop };
        seats = record x.seats { stored = stored };
      })
  law_stops stop stored stops above = law_kept r (record x.words { stop = stop }) (record x.seats { stored = stored })
      r.lots r.names r.tree_words r.once_words r.chains r.live_count stops r.records_fit
      (stop_meant program N {g = ground_of N r.born x} {home = home_of x} {k = known_of x} (law_meant program N x r)
      stop above)
      r.facts

  -- a draw that finds no cell left, where the meaning needs more cells
  pub law_refuses : (lots refused : List ℕ) → N ≤ x.words.count → IsFull program N
      → Lots N (suc x.words.count) lots refused
      → Law program N (record x {
        words = record x.words { count = suc x.words.count };
        seats = record x.seats { lots = lots; refused = refused };
      })
  law_refuses lots refused none_left full counted = record {
    born = r.born;
    maker = r.maker;
    number = r.number;
    forks = r.forks;
    lots = counted;
    hands = subst (λ n. Hands n x.words.phase x.seats.hands x.seats.tasks) same r.hands;
    names = subst (λ n. NamesCells n (hand_of x) x.words.own x.words.phase (home_of x) x.seats.tasks x.seats.known)
        same r.names;
    births = subst (λ n. Births n r.born r.maker r.number (made_of x) (hand_of x) x.words.phase) same r.births;
    tree = subst (λ n. IsForkTree n r.born r.maker r.number r.forks (hand_of x)) same r.tree;
    tree_words =
        subst (λ n. TreeWords n r.born r.maker r.number r.forks (hand_of x) x.words.once x.seats.dues) same
        r.tree_words;
    custody = subst (λ n. Custodies N n (hand_of x) x.words.phase x.slots x.seats.tasks) same r.custody;
    owned = subst (λ n. OwnedLists n (hand_of x) x.words.own (owned_of x)) same r.owned;
    once_words = subst
        (λ n. OnceWords n (hand_of x) x.seats.hands x.words.own x.words.once x.seats.seen x.seats.dues) same
        r.once_words;
    chains = r.chains;
    live_count = r.live_count;
    stops = r.stops;
    waiters_own = r.waiters_own;
    records_fit = r.records_fit;
    meaning = subst (λ n. Meaning program N (suc x.words.count) x.words.stop n (hand_of x) r.born (tag_in x) (bits_in x)
        (home_of x) x.seats.born_seen x.seats.wrote x.seats.filled) same
        (refused_meant program N {g = ground_of N r.born x} {home = home_of x} {k = known_of x}
        (law_meant program N x r) full);
    undrawn = λ c l. r.undrawn c (subst (λ n. n ≤ c) (sym same) l);
    facts = subst (λ n. CoreFacts (state_shown n r.born r.maker (made_of x) (hand_of x) x.words.own x.words.phase
        (held_of x) (home_of x) x.words.others (total x.seats.cleared))) same r.facts;
  }
    where
      same : drawn_in N x ≡ min (suc x.words.count) N
      same = omega arith
