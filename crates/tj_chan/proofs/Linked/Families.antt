-- The tasks of a round over promises are those of the runs over its assignment, and channels that are opened in rounds
-- are one or apart.
use Rattle.std.proofs.Common.{◌≡◌, ℕ, zero, suc, ◌+◌, ◌*◌, ◌<◌, ◌≤◌, Bool, true, ◌⊎◌, inl, inr, ⊎_elim}
use Rattle.std.proofs.Common.{cond, nat_eq, ◌&&◌, le-leb}
use Rattle.std.proofs.Common.{List, [], ◌∷◌, ◌++◌, map, Option, Some, None, refl, sym, ap, ◌∙◌, subst, arith}
use Rattle.std.proofs.lemmas.List.{map-append}
use Rattle.std.specs.List.{flat_map}
use Rattle.tj_base.specs.ForkOrder.{Name, child}
use Rattle.tj_body.specs.Asks as asks
use Rattle.tj_body.specs.Programs.{Program, AreLawful}
use Rattle.tj_body.specs.History.{Assignment, history}
use Rattle.tj_body.specs.Rounds.{family, cells_by, writes_by, given, tasks}
use Rattle.tj_body.specs.Points.{IsIn, IsWithin, IsProper}
use Rattle.tj_body.specs.declared.point.Entry.{Entry}
use Rattle.tj_body.specs.declared.point.Entry.TheVariants as entry
use Rattle.tj_body.specs.declared.point.Value.TheVariants as value
use Rattle.tj_body.proofs.Histories.Good.{good, task_proper}
use Rattle.tj_body.proofs.Lists.{in_map, to_map, in_begins, in_flat_map, from_flat_map}
use Rattle.tj_body.proofs.Counts.{is, times, total, total_flat_map, total_in, total_one, is_one, times_of_in}
use Rattle.tj_body.proofs.Rounds.Rises.{once_name, in_entries, within}
use Rattle.tj_chan.specs.Channels.{ChatRules, Channel, ChatTask, item, items_of, things_after}
use Rattle.tj_chan.specs.ChannelRounds.{root_chat}
use Rattle.tj_chan.specs.ChannelLaws.{AreLawfulChats, IsRootChat}
use Rattle.tj_chan.specs.declared.body.ChanBody.{ChanBody}
use Rattle.tj_chan.proofs.Lists.Runs.{Finds, finds_in, found_entry, to_come, run_of, run_family, IsFoundIn, IsFit}
use Rattle.tj_chan.specs.ChanBodies.{is_under_way, is_due, most_rows, root_body}
use Rattle.tj_chan.specs.declared.body.Due.TheVariants as due
use Rattle.tj_chan.proofs.Linked.Links.{task_of, IsPointFor, IsWritten}
use Rattle.tj_chan.proofs.Linked.Steps.{program, HasNoReferences, HistoriesAreLinked, IsOpenedIn}
use Rattle.tj_chan.proofs.Lists.Apart.{one_of_items}
use Rattle.tj_chan.proofs.Lists.Kept.{run_sound}
use Rattle.tj_chan.proofs.Lists.Grows.{run_grows, family_grows}

-- the item is one of the names of a channel's items
pub thing_there : (x : Name) (m n i : ℕ) → i < n → IsIn (child x (m + suc i)) (things_after x m n)
thing_there x m zero i l = absurd (omega arith)
thing_there x m (suc n) zero l = inl (ap (child x) (let z : m + 1 ≡ suc m = omega arith in z))
thing_there x m (suc n) (suc i) l = inr (subst (λ k. IsIn (child x k) (things_after x (suc m) n))
    (let z : suc m + suc i ≡ m + suc (suc i) = omega arith in z) (thing_there x (suc m) n i (omega arith)))

pub item_there : (c : Channel) (i : ℕ) → i < c.items → IsIn (item c i) (items_of c)
item_there c i l = thing_there c.opener c.made_before c.items i l

-- a sum over the list of what f makes of each
pub total_map : {A B : Type 0} (g : B → ℕ) (f : A → B) (l : List A) → total g (map f l) ≡ total (λ x. g (f x)) l
total_map g f [] = refl
total_map g f (x ∷ xs) = ap (λ z. g (f x) + z) (total_map g f xs)

-- a larger assignment tells more
pub more_found : (U W : Assignment) → IsWithin U W → IsFoundIn (finds_in U) (finds_in W)
more_found U W h c i = by (U (item c i)) refl where
  by : (o : Option Entry) → U (item c i) ≡ o
      → (found_entry (U (item c i)) ≡ to_come) ⊎ (found_entry (W (item c i)) ≡ found_entry (U (item c i)))
  by None e = inl (ap found_entry e)
  by (Some x) e = inr (ap found_entry (h (item c i) x e ∙ sym e))

module _ {C : Type 0} (rules : ChatRules C) (lawful : AreLawfulChats rules) where
  -- each task of a family is fit
  pub fit_family : (G : Finds) (d : ℕ) (t : ChatTask C) → IsFit rules t → (u : ChatTask C)
      → IsIn u (run_family rules G d t) → IsFit rules u
  fit_family G zero t f u (inl e) = subst (IsFit rules) (sym e) f
  fit_family G zero t f u (inr i) = absurd i
  fit_family G (suc d) t f u (inl e) = subst (IsFit rules) (sym e) f
  fit_family G (suc d) t f u (inr i) =
      let r = from_flat_map (run_family rules G d) u (run_of rules G t).children i in
      let s = run_sound rules lawful G (2 * suc (rules.left t.chatter)) t f in
      fit_family G d r.0 (s.0.children_are r.0 r.1).fit u r.2

  -- what holds of what a task is passed and of what it opens holds of all its channels
  of_channels : (G : Finds) (Q : Channel → Type 0) (t : ChatTask C) → IsFit rules t
      → ((c : Channel) → IsIn c t.passed → Q c) → ((c : Channel) → IsIn c (run_of rules G t).opened → Q c)
      → (c : Channel) → IsIn c (run_of rules G t).channels → Q c
  of_channels G Q t f h o c j =
      let s = run_sound rules lawful G (2 * suc (rules.left t.chatter)) t f in
      ⊎_elim (λ a. h c a) (λ a. o c a) (s.0.split c j)

  -- what holds of the passed channels of a family's first task and of all that it opens holds of all its channels
  pub channels_family : (G : Finds) (Q : Channel → Type 0) (d : ℕ) (t : ChatTask C) → IsFit rules t
      → ((c : Channel) → IsIn c t.passed → Q c)
      → ((u : ChatTask C) → IsIn u (run_family rules G d t) → (c : Channel) → IsIn c (run_of rules G u).opened → Q c)
      → (u : ChatTask C) → IsIn u (run_family rules G d t) → (c : Channel) → IsIn c (run_of rules G u).channels → Q c
  channels_family G Q zero t f h o u (inl e) c j =
      of_channels G Q t f h (o t (inl refl)) c (subst (λ (z : ChatTask C). IsIn c (run_of rules G z).channels) e j)
  channels_family G Q zero t f h o u (inr i) c j = absurd i
  channels_family G Q (suc d) t f h o u (inl e) c j =
      of_channels G Q t f h (o t (inl refl)) c (subst (λ (z : ChatTask C). IsIn c (run_of rules G z).channels) e j)
  channels_family G Q (suc d) t f h o u (inr i) c j =
      let r = from_flat_map (run_family rules G d) u (run_of rules G t).children i in
      let s = run_sound rules lawful G (2 * suc (rules.left t.chatter)) t f in
      let k = s.0.children_are r.0 r.1 in
      channels_family G Q d r.0 k.fit (λ b m. of_channels G Q t f h (o t (inl refl)) b (k.passed b m))
      (λ v m. o v (inr (in_flat_map (run_family rules G d) r.0 v (run_of rules G t).children r.1 m))) u r.2 c j

  module _ (root : C) (strict : Bool) (fresh : IsRootChat rules root)
      (obeys : AreLawful (program rules root strict).rules) (linked : HistoriesAreLinked rules root strict) where
    abbrev P : Program (ChanBody C)
    P = program rules root strict

    abbrev W : ℕ → Assignment
    W n = given P n

    abbrev F : ℕ → Finds
    F n = finds_in (W n)

    -- the tasks of the runs over the assignment of round n
    abbrev pub run_tasks : ℕ → List (ChatTask C)
    run_tasks n = run_family rules (F n) (suc n) (root_chat root)

    abbrev NoReferences : Assignment → Type 0
    NoReferences U = HasNoReferences rules root strict U

    pub root_fit : IsFit rules (root_chat root)
    root_fit = record {
      fresh = fresh;
      few = omega arith;
      tidy = record {
        scoped = λ c i. absurd i;
        some = λ c i. absurd i;
        apart = λ c d i j. absurd i;
        holds = λ e i. absurd i;
        once = tt;
        opened_by = λ c i. absurd i;
      };
    }

    pub run_task_fit : (n : ℕ) (u : ChatTask C) → IsIn u (run_tasks n) → IsFit rules u
    run_task_fit n u i = fit_family (F n) (suc n) (root_chat root) root_fit u i

    -- the root's body is under way
    root_under_way : is_under_way rules (root_body root) ≡ true
    root_under_way =
        let m = fresh.ends in
        let l = le-leb (0 + 0 + rules.left root) most_rows (omega arith) in
        λ i. is_due 1 due.Start (fresh.begins i) && nat_eq (fresh.has_places i) 0 && true && true && l i

    root_is_proper : IsProper P.rules (task_of (root_chat root))
    root_is_proper = record {
      fresh = record {
        has_places = refl;
        begins = ap (λ z. cond z asks.begin asks.nothing) root_under_way;
        ends = let m = fresh.ends in omega arith;
      };
      few = omega arith;
    }

    -- the families are linked
    families_linked : (U : Assignment) → NoReferences U → (d : ℕ) (t : ChatTask C) → IsFit rules t
        → IsProper P.rules (task_of t)
        → family P.rules U d (task_of t) ≡ map task_of (run_family rules (finds_in U) d t)
    families_linked U h zero t f pr = refl
    families_linked U h (suc d) t f pr =
        let l = (linked U t h f pr).0.of_task.3 in
        let g = good P.rules obeys U (task_of t) pr (2 * suc (P.rules.left (task_of t).body)) in
        let s = run_sound rules lawful (finds_in U) (2 * suc (rules.left t.chatter)) t f in
        ap (λ z. task_of t ∷ flat_map (family P.rules U d) z) l
        ∙ ap (λ z. task_of t ∷ z) (each (λ c k m. families_linked U h d c k m) (run_of rules (finds_in U) t).children
        (λ c i. (
          (s.0.children_are c i).fit,
          g.children (task_of c)
              (subst (IsIn (task_of c)) (sym l) (to_map task_of c (run_of rules (finds_in U) t).children i)),
        ))) where
          each : ((c : ChatTask C) → IsFit rules c → IsProper P.rules (task_of c)
              → family P.rules U d (task_of c) ≡ map task_of (run_family rules (finds_in U) d c))
              → (cs : List (ChatTask C))
              → ((c : ChatTask C) → IsIn c cs → IsFit rules c × IsProper P.rules (task_of c))
              → flat_map (family P.rules U d) (map task_of cs)
              ≡ map task_of (flat_map (run_family rules (finds_in U) d) cs)
          each rec [] g = refl
          each rec (c ∷ cs) g =
              let m = g c (inl refl) in
              let a = rec c m.0 m.1 in
              let b = each rec cs (λ e i. g e (inr i)) in
              (λ i. a i ++ b i)
              ∙ sym (map-append task_of (run_family rules (finds_in U) d c)
              (flat_map (run_family rules (finds_in U) d) cs))

    tasks_from : (n : ℕ) → NoReferences (W n) → tasks P (suc n) ≡ map task_of (run_tasks n)
    tasks_from n h = families_linked (W n) h (suc n) (root_chat root) root_fit root_is_proper

    proper_from : (n : ℕ) → NoReferences (W n) → (t : ChatTask C) → IsIn t (run_tasks n) → IsProper P.rules (task_of t)
    proper_from n h t j = task_proper P obeys root_is_proper (suc n) (task_of t)
        (subst (IsIn (task_of t)) (sym (tasks_from n h)) (to_map task_of t (run_tasks n) j))

    -- no cell of a round has a reference as its value
    pub no_references : (n : ℕ) → NoReferences (W n)
    no_references zero q r e = cc
    no_references (suc n) q r e =
        let h = no_references n in
        let i = in_entries P (suc n) q (entry.Value (value.Ref r)) e in
        let f = from_flat_map (writes_by P.rules (W n)) (q, entry.Value (value.Ref r)) (tasks P (suc n)) i in
        let m = in_map task_of f.0 (run_tasks n) (subst (IsIn f.0) (tasks_from n h) f.1) in
        (linked (W n) m.0 h (run_task_fit n m.0 m.1) (proper_from n h m.0 m.1)).1.plain q r
        (subst (λ z. IsIn (q, entry.Value (value.Ref r)) (writes_by P.rules (W n) z)) m.2 f.2)

    pub tasks_linked : (n : ℕ) → tasks P (suc n) ≡ map task_of (run_tasks n)
    tasks_linked n = tasks_from n (no_references n)

    -- the history of each task of a round is linked
    pub run_linked : (n : ℕ) (t : ChatTask C) → IsIn t (run_tasks n)
        → IsPointFor rules (run_of rules (F n) t) (history P.rules (W n) (task_of t))
        × IsWritten t (run_of rules (F n) t) (history P.rules (W n) (task_of t))
    run_linked n t j = let h = no_references n in linked (W n) t h (run_task_fit n t j) (proper_from n h t j)

    -- how often q is a cell of the task
    abbrev cell_times : ℕ → Name → ChatTask C → ℕ
    cell_times n q t = times q (cells_by P.rules (W n) (task_of t))

    cell_once : (n : ℕ) (q : Name) → total (cell_times n q) (run_tasks n) ≤ 1
    cell_once n q =
        let a = once_name P (suc n) q in
        let b = total_flat_map (is q) (cells_by P.rules (W n)) (tasks P (suc n)) in
        let c : total (λ x. times q (cells_by P.rules (W n) x)) (tasks P (suc n))
        ≡ total (λ x. times q (cells_by P.rules (W n) x)) (map task_of (run_tasks n)) =
        ap (total (λ x. times q (cells_by P.rules (W n) x))) (tasks_linked n) in
        let d = total_map (λ x. times q (cells_by P.rules (W n) x)) task_of (run_tasks n) in
        omega arith

    -- the items of what a task opens are promises of its history
    item_times : (n : ℕ) (t : ChatTask C) → IsIn t (run_tasks n) → (c : Channel)
        → IsIn c (run_of rules (F n) t).opened → (i : ℕ) → i < c.items
        → 1 ≤ times (item c i) (history P.rules (W n) (task_of t)).promises
    item_times n t j c o i l =
        let h = (run_linked n t j).0.of_task.2 in
        times_of_in (item c i) (history P.rules (W n) (task_of t)).promises
        (subst (IsIn (item c i)) (sym h)
        (in_flat_map items_of c (item c i) (run_of rules (F n) t).opened o (item_there c i l)))

    -- what is opened in a round is opened in each later one
    pub opened_later : (n m : ℕ) → n ≤ m → (c : Channel) → IsOpenedIn rules root strict n c
        → IsOpenedIn rules root strict m c
    opened_later n m l c o =
        let g = more_found (W n) (W m) (within P n m l) in (
          o.0,
          family_grows rules (F n) (F m) g (suc n) (suc m) (omega arith) (root_chat root) o.0 o.1,
          in_begins c (run_of rules (F n) o.0).opened (run_of rules (F m) o.0).opened
              (run_grows rules (F n) (F m) g o.0).0 o.2,
        )

    -- two channels of rounds with an item in common are one, and it is the same item
    pub channels_apart : (m n : ℕ) (c d : Channel) (i j : ℕ) → IsOpenedIn rules root strict m c
        → IsOpenedIn rules root strict n d → i < c.items → j < d.items → item c i ≡ item d j → (c ≡ d) × (i ≡ j)
    channels_apart m n c d i j o p l k e =
        let r = m + n in
        let a = opened_later m r (omega arith) c o in
        let b = opened_later n r (omega arith) d p in
        let x = item_times r a.0 a.1 c a.2 i l in
        let y = item_times r b.0 b.1 d b.2 j k in
        let z : 1 ≤ times (item c i) (history P.rules (W r) (task_of b.0)).promises =
        subst (λ q. 1 ≤ times q (history P.rules (W r) (task_of b.0)).promises) (sym e) y in
        let s : a.0 ≡ b.0 = total_one (cell_times r (item c i)) (run_tasks r) (cell_once r (item c i)) a.0 b.0 a.1 b.1
        (omega arith) (omega arith) in
        let v = run_sound rules lawful (F r) (2 * suc (rules.left a.0.chatter)) a.0 (run_task_fit r a.0 a.1) in
        let w : IsIn d (run_of rules (F r) a.0).opened =
        subst (λ (t : ChatTask C). IsIn d (run_of rules (F r) t).opened) (sym s) b.2 in
        one_of_items c d i j
        (v.0.tidy.apart c d (v.0.tidy.opened_by c a.2).0 (v.0.tidy.opened_by d w).0) l k e

    -- no item has the name of a task
    pub item_no_task : (m n : ℕ) (c : Channel) (i : ℕ) → IsOpenedIn rules root strict m c → i < c.items
        → (t : ChatTask C) → IsIn t (run_tasks n) → ¬ (item c i ≡ t.name)
    item_no_task m n c i o l t j e =
        let r = m + n in
        let a = opened_later m r (omega arith) c o in
        let g = more_found (W n) (W r) (within P n r (omega arith)) in
        let u = family_grows rules (F n) (F r) g (suc n) (suc r) (omega arith) (root_chat root) t j in
        let x = item_times r a.0 a.1 c a.2 i l in
        let y = is_one (item c i) t.name e in
        let s : a.0 ≡ t = total_one (cell_times r (item c i)) (run_tasks r) (cell_once r (item c i)) a.0 t a.1 u
        (omega arith) (omega arith) in
        let z : is (item c i) a.0.name ≡ is (item c i) t.name = ap (λ (v : ChatTask C). is (item c i) v.name) s in
        let b = total_in (cell_times r (item c i)) a.0 (run_tasks r) a.1 in
        let d = cell_once r (item c i) in
        absurd (omega arith)
