-- The facts on makers and owners over an event.
use Rattle.std.proofs.Common.{◌≡◌, ◌≢◌, ◌⊎◌, ℕ, ◌<◌, ◌≤◌, true, false, Some, None, Option, refl, sym, ap, ◌∙◌, subst}
use Rattle.std.proofs.Common.{inl, inr, ⊎_elim, suc, lt_of_lt_of_le, ◌++◌, [], ◌∷◌, append_assoc, arith}
use native.Mathlib.Decide.{ℕ_discrete, dec_le}
use mathlib.Core.Logic.{dite}
use Rattle.tj_base.specs.ForkOrder.{Name, child, IsAncestor}
use Rattle.tj_events.specs.CoreState.{promise, Cells, CoreState, owner, name, maker, stage, is_task, IsTask, Lives}
use Rattle.tj_events.specs.Facts.{IsNamed, IsThing, MakersFact, OwnersFact}
use Rattle.tj_events.proofs.OneCell.Frames.{Frame}
use Rattle.tj_base.proofs.ChildNames.{child_some, child_same}

-- u is the maker of p or a descendant of it
abbrev pub IsFromMaker : Cells → ℕ → ℕ → Type 0
IsFromMaker cells p u = (u ≡ maker cells p) ⊎ IsAncestor (name cells (maker cells p)) (name cells u)

-- what a new cell c owes: its maker is a task of a smaller number, after which it is named, and its name is new and
-- that of a later thing than all that its maker made before
pub record IsMadeBefore (cells : Cells) (c : ℕ) : Type 0 where
  pub earlier : maker cells c < c
  pub task : IsTask cells (maker cells c)
  pub named : IsNamed cells c
  pub new_name : (d : ℕ) → d < c → name cells d ≢ name cells c
  pub latest : (d j k : ℕ) → d < c → maker cells d ≡ maker cells c → IsThing cells d j → IsThing cells c k → j < k

-- a cell's maker is there
pub maker_there : (n : ℕ) (cells : Cells) → MakersFact n cells → (c : ℕ) → c < n → maker cells c < n
maker_there n cells x c there = dite (ℕ_discrete c 0)
    (λ q. subst (λ j. maker cells j < n) (sym q) (subst (λ j. j < n) (sym x.root_maker) x.root_there))
    (λ q. let below = x.makers_before c there q in omega arith)

-- a thing is one of those that its maker made
pub thing_made : (n : ℕ) (cells : Cells) → MakersFact n cells → (d j : ℕ) → d < n → IsThing cells d j
    → j ≤ (cells (maker cells d)).made
thing_made n cells x d j there e = dite (ℕ_discrete d 0)
    (λ q. absurd (child_some (name cells (maker cells d)) j (sym e ∙ (ap (name cells) q ∙ x.root_name))))
    (λ q.
    let k = x.makers_name d there q in
    let same = (child_same (name cells (maker cells d)) (name cells (maker cells d)) j k.number
    (sym e ∙ k.name_is)).1 in
    let made = k.made in omega arith)

-- no cell has the name of the next thing that t makes
pub next_name_new : (n : ℕ) (cells : Cells) → MakersFact n cells → (t d : ℕ) → t < n → d < n
    → name cells d ≢ child (name cells t) (suc (cells t).made)
next_name_new n cells x t d t_there there e = dite (ℕ_discrete d 0)
    (λ q. child_some (name cells t) (suc (cells t).made)
    (sym e ∙ (ap (name cells) q ∙ x.root_name)))
    (λ q.
    let k = x.makers_name d there q in
    let same = child_same (name cells (maker cells d)) (name cells t) k.number (suc (cells t).made)
    (sym k.name_is ∙ e) in
    let m : maker cells d ≡ t = x.names_apart (maker cells d) t (maker_there n cells x d there) t_there same.0 in
    let made : k.number ≤ (cells t).made = subst (λ j. k.number ≤ (cells j).made) m k.made in
    let number = same.1 in omega arith)

-- a promise isn't the root
pub promise_not_root : (n : ℕ) (cells : Cells) → MakersFact n cells → (p : ℕ) → stage cells p ≡ promise → p ≢ 0
promise_not_root n cells x p e d =
    let q : true ≡ false = sym x.root_task ∙ (ap (λ (j : ℕ). is_task (stage cells j)) (sym d) ∙ ap is_task e) in
    absurd (cc)

-- it depends on the maker and the two names alone
pub from_maker_alike : (f g : Cells) (p u : ℕ)
    → maker g p ≡ maker f p
    → name g (maker g p) ≡ name f (maker f p)
    → name g u ≡ name f u
    → IsFromMaker f p u
    → IsFromMaker g p u
from_maker_alike f g p u m a b h = ⊎_elim
    (λ (e : u ≡ maker f p). inl (e ∙ sym m))
    (λ (e : IsAncestor (name f (maker f p)) (name f u)). inr (record {
      number = e.number;
      rest = e.rest;
      goes_on = b ∙ (e.goes_on ∙ ap (λ (q : Name). q ++ e.number ∷ e.rest) (sym a));
    }))
    h

-- a child of a task that is the maker or a descendant of it is a descendant of the maker
pub from_maker_child : (cells : Cells) (p t c k : ℕ)
    → name cells c ≡ child (name cells t) k
    → IsFromMaker cells p t
    → IsFromMaker cells p c
from_maker_child cells p t c k e h = inr (⊎_elim
    (λ (m : t ≡ maker cells p). record {
      number = k;
      rest = [];
      goes_on = e ∙ ap (λ (j : ℕ). child (name cells j) k) m;
    })
    (λ (a : IsAncestor (name cells (maker cells p)) (name cells t)). record {
      number = a.number;
      rest = child a.rest k;
      goes_on = e ∙ (ap (λ (q : Name). child q k) a.goes_on
          ∙ append_assoc (name cells (maker cells p)) (a.number ∷ a.rest) (k ∷ []));
    })
    h)

module _ (s s' : CoreState) (f : Frame s s') where
  -- a cell that was there was the same thing of its maker
  pub thing_before : MakersFact s.count s.cells → (c j : ℕ) → c < s.count → IsThing s'.cells c j → IsThing s.cells c j
  thing_before x c j l e = sym (f.names c l) ∙ (e ∙ ap (λ (q : Name). child q j)
      (ap (name s'.cells) (f.makers c l) ∙ f.names (maker s.cells c) (maker_there s.count s.cells x c l)))

  -- the makers stay, and each new cell's maker is one
  pub makers_stay :
      MakersFact s.count s.cells
      → ((c : ℕ) → s.count ≤ c → c < s'.count → IsMadeBefore s'.cells c)
      → MakersFact s'.count s'.cells
  makers_stay x new = record {
    root_there = lt_of_lt_of_le x.root_there f.grows;
    root_task = f.tasks 0 x.root_task;
    root_maker = f.makers 0 x.root_there ∙ x.root_maker;
    root_name = f.names 0 x.root_there ∙ x.root_name;
    makers_before = λ c l d. dite (dec_le s.count c)
        (λ h. (new c h l).earlier)
        (λ h. let b : c < s.count = omega arith in
        subst (λ j. j < c) (sym (f.makers c b)) (x.makers_before c b d));
    makers_task = λ c l d. dite (dec_le s.count c)
        (λ h. (new c h l).task)
        (λ h. let b : c < s.count = omega arith in
        subst (IsTask s'.cells) (sym (f.makers c b)) (f.tasks (maker s.cells c) (x.makers_task c b d)));
    makers_name = λ c l d. dite (dec_le s.count c)
        (λ h. (new c h l).named)
        (λ h. let b : c < s.count = omega arith in
        let below = x.makers_before c b d in
        let k = x.makers_name c b d in
        let e : name s'.cells (maker s'.cells c) ≡ name s.cells (maker s.cells c) =
        ap (name s'.cells) (f.makers c b) ∙ f.names (maker s.cells c) (omega arith) in
        let its_maker : maker s'.cells c ≡ maker s.cells c = f.makers c b in
        let more = f.makes (maker s.cells c) (omega arith) in
        let made = k.made in
        record {
          number = k.number;
          some = k.some;
          made = subst (λ j. k.number ≤ (s'.cells j).made) (sym its_maker) (omega arith);
          name_is = f.names c b ∙ (k.name_is ∙ ap (λ (q : Name). child q k.number) (sym e));
        });
    names_apart = λ c d lc ld e. dite (ℕ_discrete c d) (λ q. q) (λ n. dite (dec_le c d)
        (λ h. absurd (apart c d (omega arith) ld e))
        (λ h. absurd (apart d c (omega arith) lc (sym e))));
    numbers_grow = λ c d j k below l same a b. dite (dec_le s.count d)
        (λ h. (new d h l).latest c j k below same a b)
        (λ h. let ld : d < s.count = omega arith in let lc : c < s.count = omega arith in
        x.numbers_grow c d j k below ld (sym (f.makers c lc) ∙ (same ∙ f.makers d ld))
        (thing_before x c j lc a) (thing_before x d k ld b));
  }
    where
      apart : (c d : ℕ) → c < d → d < s'.count → name s'.cells c ≡ name s'.cells d → ⊥
      apart c d below l e = dite (dec_le s.count d)
          (λ h. (new d h l).new_name c below e)
          (λ h. let b : d < s.count = omega arith in
          let a : c < s.count = omega arith in
          let q = x.names_apart c d a b (sym (f.names c a) ∙ (e ∙ f.names d b)) in omega arith)

  -- that the owner of a promise is its maker or a descendant of it stays so
  pub from_maker_stays : (p u : ℕ)
      → MakersFact s.count s.cells → p < s.count → u < s.count → stage s.cells p ≡ promise
      → IsFromMaker s.cells p u → IsFromMaker s'.cells p u
  from_maker_stays p u x l k e =
      let below = x.makers_before p l (promise_not_root s.count s.cells x p e) in
      let same : maker s'.cells p ≡ maker s.cells p = f.makers p l in
      from_maker_alike s.cells s'.cells p u same
      (ap (name s'.cells) same ∙ f.names (maker s.cells p) (omega arith)) (f.names u k)

none_of : (o : Option ℕ) → ((u : ℕ) → o ≡ Some u → ⊥) → o ≡ None
none_of None h = refl
none_of (Some u) h = absurd (h u refl)

-- nobody owns the result of a task that has ended, since its owner would be that task
pub owners_fact : (cells : Cells)
    → ((c u : ℕ) → owner cells c ≡ Some u → Lives (stage cells u))
    → ((c u : ℕ) → IsTask cells c → owner cells c ≡ Some u → u ≡ c)
    → ((t : ℕ) → Lives (stage cells t) → owner cells t ≡ Some t)
    → ((p u : ℕ) → stage cells p ≡ promise → owner cells p ≡ Some u → IsFromMaker cells p u)
    → OwnersFact cells
owners_fact cells live own results from = record {
  owners_live = live;
  results_own = own;
  live_results = results;
  ended_results = λ t e. none_of (owner cells t) (λ u o.
      let q : u ≡ t = own t u (ap is_task e) o in
      subst Lives (ap (stage cells) q ∙ e) (live t u o));
  promises = from;
}
