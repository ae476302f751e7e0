-- What a word can't be at a moment at which a seat has such a view.
use Rattle.tj_words.proofs.Prelude.{InRounds, Some, ap, arith, at_map, map, own_at, owner_in, subst, suc, sym, word}
use Rattle.tj_words.proofs.Prelude.{zero, ℕ, ◌≡◌}
use Rattle.tj_words.specs.declared.view.About.{About}
use Rattle.tj_words.specs.declared.view.View.{View}
use Rattle.tj_words.proofs.Lemmas.{custody, list_owned}
use Rattle.tj_runs.specs.MomentLaws.{LiveCountsTokens, CountIsAbove, OwnerIsTheTask, OthersCountsCleared}
use Rattle.tj_runs.specs.MomentLaws.{NamesAreOfRounds, PhaseIsDone, StopStands}
use Rattle.tj_words.proofs.Seating.Merging.{begins_at}
use Rattle.tj_words.proofs.Meaning.RestingStates.{one_part}

module _ {B : Type 0} where
  pub live_counts : LiveCountsTokens B
  live_counts program key u id v at =
      let c = u.rule.law.live_count.counted in
      let p = one_part (map (λ (z : View B). z.tokens) u.now.views) id v.tokens
      (at_map (λ (z : View B). z.tokens) u.now.views id v at) in
      omega arith

  pub count_above : CountIsAbove B
  count_above program key u id v at c known =
      let h = (u.rule.law.names.knows id v.known (at_map (λ (z : View B). z.known) u.now.views id v at) c known).0 in
      omega arith

  pub names_are : NamesAreOfRounds B
  names_are program key u id v at c a x about is =
      subst (λ (y : About B). InRounds (program y.strict y.root) x.name) (sym ((u.rule.seats id v at).about a about))
      (u.rule.law.meaning.names c x (begins_at v.born u.rule.law.born
      (u.rule.law.meaning.begins id v.born (at_map (λ (z : View B). z.born) u.now.views id v at)) c x is))

  pub owner_is : OwnerIsTheTask B
  owner_is program key u id v at c t k held owned = by (word u.now.words (own_at c))
      (list_owned u.rule.law id t k (v.tasks, at_map (λ (z : View B). z.tasks) u.now.views id v at, held) c owned).1
    where
      by : (m : ℕ) → owner_in m ≡ Some t → m ≡ suc t
      by zero q = cc
      by (suc w) q = let d : w ≡ t = cc in ap suc d

  pub phase_is : PhaseIsDone B
  phase_is program key u id v at t k held =
      (custody u.rule.law id t k (v.tasks, at_map (λ (z : View B). z.tasks) u.now.views id v at, held)).does

  pub stop_stands : StopStands B
  stop_stands program key u id v at k i z =
      u.rule.law.stops.stands id v.stored (at_map (λ (y : View B). y.stored) u.now.views id v at) k i z

  pub others_count : OthersCountsCleared B
  others_count program key u id v at =
      let c = u.rule.law.facts.others_count in
      let p = one_part (map (λ (z : View B). z.cleared) u.now.views) id v.cleared
      (at_map (λ (z : View B). z.cleared) u.now.views id v at) in
      omega arith
