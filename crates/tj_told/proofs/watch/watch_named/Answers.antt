use Rattle.std.proofs.Common.{Option, Some, inl, inr, subst}
use Rattle.tj_body.specs.Programs.{program_of}
use Rattle.tj_embed.proofs.Outcomes.{outcome_named}
use Rattle.tj_embed.proofs.RestNames.{values_named}
use Rattle.tj_log.specs.Shown.{SeatShown}
use Rattle.tj_run.specs.Runs.{RestsAt}
use Rattle.tj_words.specs.AtRest.EndedRuns.{EndsRun}
use Rattle.tj_record.specs.declared.record.Rec.{Rec}
use Rattle.tj_words.specs.declared.view.View.{View}
use Rattle.tj_told.specs.EndedNews.{IsEarly}
use Rattle.tj_told.specs.SeenNews.{AreSeenBy}
use Rattle.tj_told.proofs.EndedRounds.{early_by, stood_at_rest}
use Rattle.tj_told.proofs.Hearings.{all_told}
use Rattle.tj_told.proofs.RunFaults.{first_hears, heard_until, of_ok, ok_no_stop}
use Rattle.tj_told.proofs.SeenRounds.{answered, became_named, of_outcome}
use Rattle.tj_told.specs.declared.fault.ToldFault.TheVariants as fault
use Rattle.tj_told.proofs.watch.watch_named.Goals as goal

pub value_named-requires-clause-values : goal.value_named-requires-clause-values
value_named-requires-clause-values g c κs within =
    let b = g.B.Body in let p = program_of b.places b.awaits b.left b.asks b.then in let x = c.args.options in
    let r = c.run_beside-rest in let rest = c.in-Ok-rest.rest in
    values_named p c.args.root x.cells x.strict rest
    (of_ok (RestsAt p c.args.root x.cells x.strict) r.result.0 rest c.in-Ok-rest.is r.ensures.rest)

pub returns-in-Err-rest-clause-early : goal.returns-in-Err-rest-clause-early
returns-in-Err-rest-clause-early g c =
    let b = g.B.Body in let p = program_of b.places b.awaits b.left b.asks b.then in let x = c.args.options in
    let t = c.new in let r = c.run_beside-rest in let w = c.in-Err-rest in let s = c.args.listener in
    let first = first_hears g.T.Listener.tells t.result.news s t.result.listener t.ensures.news t.ensures.listener in (
      r.result.1.news,
      heard_until g.T.Listener.tells r.result.1.news s r.result.1.listener r.result.0 w.why w.is
          (r.ensures.goes t.ensures.news s first) (r.ensures.stops t.ensures.news s first),
      subst (λ q. IsEarly p x.cells x.strict c.args.root (Some q) w.why r.result.1.news) c.in-Ok.ensures
          (early_by c.every_moment.ensures p x.cells x.strict c.args.root (Some c.in-Ok.copy) r.result.0 w.why w.is
          r.result.1.news (r.ensures.early t.ensures.news)),
    )

pub returns-in-Err-value_named-clause-early : goal.returns-in-Err-value_named-clause-early
returns-in-Err-value_named-clause-early g c =
    let b = g.B.Body in let p = program_of b.places b.awaits b.left b.asks b.then in let x = c.args.options in
    let t = c.new in let r = c.run_beside-rest in let rest = c.in-Ok-rest.rest in let root = c.args.root in
    let s = of_ok (λ z. (seat : SeatShown (Option (Rec g.row.B.Denot)) (View g.row.B.Denot))
    × EndsRun p x.cells x.strict root seat z.cells z.records × AreSeenBy (Some c.in-Ok.copy) seat r.result.1.news)
    r.result.0 rest c.in-Ok-rest.is (r.ensures.seen t.ensures.news) in (
      r.result.1.news,
      r.ensures.goes t.ensures.news c.args.listener (first_hears g.T.Listener.tells t.result.news c.args.listener
          t.result.listener t.ensures.news t.ensures.listener) (ok_no_stop r.result.0 rest c.in-Ok-rest.is),
      subst (λ q. IsEarly p x.cells x.strict root (Some q) fault.Oom r.result.1.news) c.in-Ok.ensures (inr (inl
          (stood_at_rest c.every_moment.ensures p x.cells x.strict root (Some c.in-Ok.copy) s.0 rest.cells rest.records s.1
          r.result.1.news s.2))),
    )

pub returns-in-Err-outcome_of-clause-early : goal.returns-in-Err-outcome_of-clause-early
returns-in-Err-outcome_of-clause-early g c =
    let b = g.B.Body in let p = program_of b.places b.awaits b.left b.asks b.then in let x = c.args.options in
    let t = c.new in let r = c.run_beside-rest in let rest = c.in-Ok-rest.rest in let root = c.args.root in
    let s = of_ok (λ z. (seat : SeatShown (Option (Rec g.row.B.Denot)) (View g.row.B.Denot))
    × EndsRun p x.cells x.strict root seat z.cells z.records × AreSeenBy (Some c.in-Ok.copy) seat r.result.1.news)
    r.result.0 rest c.in-Ok-rest.is (r.ensures.seen t.ensures.news) in (
      r.result.1.news,
      r.ensures.goes t.ensures.news c.args.listener (first_hears g.T.Listener.tells t.result.news c.args.listener
          t.result.listener t.ensures.news t.ensures.listener) (ok_no_stop r.result.0 rest c.in-Ok-rest.is),
      subst (λ q. IsEarly p x.cells x.strict root (Some q) fault.Oom r.result.1.news) c.in-Ok.ensures (inr (inl
          (stood_at_rest c.every_moment.ensures p x.cells x.strict root (Some c.in-Ok.copy) s.0 rest.cells rest.records s.1
          r.result.1.news s.2))),
    )

pub returns-in-Ok-tell_rest-clause-outcome : goal.returns-in-Ok-tell_rest-clause-outcome
returns-in-Ok-tell_rest-clause-outcome g c =
    let b = g.B.Body in let p = program_of b.places b.awaits b.left b.asks b.then in let x = c.args.options in
    let r = c.run_beside-rest in let o = c.in-Ok-outcome_of in
    outcome_named p c.args.root x.cells x.strict c.in-Ok-rest.rest o.outcome
    (of_ok (RestsAt p c.args.root x.cells x.strict) r.result.0 c.in-Ok-rest.rest c.in-Ok-rest.is r.ensures.rest)
    o.ensures.outcome

pub returns-in-Ok-tell_rest-clause-became : goal.returns-in-Ok-tell_rest-clause-became
returns-in-Ok-tell_rest-clause-became g c =
    let b = g.B.Body in let p = program_of b.places b.awaits b.left b.asks b.then in let x = c.args.options in
    let r = c.run_beside-rest in let v = c.in-Ok-value_named in
    became_named p c.args.root x.cells x.strict c.in-Ok-rest.rest c.args.name.now v.became
    (of_ok (RestsAt p c.args.root x.cells x.strict) r.result.0 c.in-Ok-rest.rest c.in-Ok-rest.is r.ensures.rest)
    v.ensures

pub returns-in-Ok-tell_rest-clause-told : goal.returns-in-Ok-tell_rest-clause-told
returns-in-Ok-tell_rest-clause-told g c =
    let b = g.B.Body in let p = program_of b.places b.awaits b.left b.asks b.then in let x = c.args.options in
    let t = c.new in let r = c.run_beside-rest in let rest = c.in-Ok-rest.rest in let root = c.args.root in
    let h = of_ok (RestsAt p root x.cells x.strict) r.result.0 rest c.in-Ok-rest.is r.ensures.rest in
    let s = of_ok (λ z. (seat : SeatShown (Option (Rec g.row.B.Denot)) (View g.row.B.Denot))
    × EndsRun p x.cells x.strict root seat z.cells z.records × AreSeenBy (Some c.in-Ok.copy) seat r.result.1.news)
    r.result.0 rest c.in-Ok-rest.is (r.ensures.seen t.ensures.news) in
    let seen = subst (λ q. AreSeenBy (Some q) s.0 r.result.1.news) c.in-Ok.ensures s.2 in
    let o = c.in-Ok-outcome_of in let k = c.in-Ok-tell_rest in let n = c.tell_rest.new.telling in
    let v = c.in-Ok-value_named in
    let is = outcome_named p root x.cells x.strict rest o.outcome h o.ensures.outcome in
    let of = of_outcome c.every_moment.ensures p x.cells x.strict root s.0 rest.cells rest.records s.1 h.meaning.0
    h.meaning.1 (Some c.args.name.now) (c.meaning_is_last.ensures x.strict root c.requires.root) o.outcome is
    r.result.1.news n.news seen c.tell_rest.ensures.only in (
      n.news,
      c.tell_rest.ensures.goes c.args.listener (r.ensures.goes t.ensures.news c.args.listener (first_hears
          g.T.Listener.tells t.result.news c.args.listener t.result.listener t.ensures.news t.ensures.listener)
          (ok_no_stop r.result.0 rest c.in-Ok-rest.is)) (ok_no_stop c.tell_rest.result tt k.is),
      all_told n.news o.outcome of.agree k.ensures.all,
      answered p x.cells x.strict root c.args.name.now v.became o.outcome n.news
          (became_named p root x.cells x.strict rest c.args.name.now v.became h v.ensures) of,
    )

pub returns-clause-early : goal.returns-clause-early
returns-clause-early g c =
    let b = g.B.Body in let p = program_of b.places b.awaits b.left b.asks b.then in let x = c.args.options in
    let t = c.new in let r = c.run_beside-rest in let rest = c.in-Ok-rest.rest in let root = c.args.root in
    let h = of_ok (RestsAt p root x.cells x.strict) r.result.0 rest c.in-Ok-rest.is r.ensures.rest in
    let s = of_ok (λ z. (seat : SeatShown (Option (Rec g.row.B.Denot)) (View g.row.B.Denot))
    × EndsRun p x.cells x.strict root seat z.cells z.records × AreSeenBy (Some c.in-Ok.copy) seat r.result.1.news)
    r.result.0 rest c.in-Ok-rest.is (r.ensures.seen t.ensures.news) in
    let seen = subst (λ q. AreSeenBy (Some q) s.0 r.result.1.news) c.in-Ok.ensures s.2 in
    let o = c.in-Ok-outcome_of in let w = c.in-Err-tell_rest in let n = c.tell_rest.new.telling in
    let is = outcome_named p root x.cells x.strict rest o.outcome h o.ensures.outcome in
    let heard = r.ensures.goes t.ensures.news c.args.listener (first_hears g.T.Listener.tells t.result.news
    c.args.listener t.result.listener t.ensures.news t.ensures.listener)
    (ok_no_stop r.result.0 rest c.in-Ok-rest.is) in (
      n.news,
      heard_until g.T.Listener.tells n.news c.args.listener n.listener c.tell_rest.result w.fault w.is
          (c.tell_rest.ensures.goes c.args.listener heard) (c.tell_rest.ensures.stops c.args.listener heard),
      inr (inr (
        o.outcome,
        of_outcome c.every_moment.ensures p x.cells x.strict root s.0 rest.cells rest.records s.1 h.meaning.0
            h.meaning.1 (Some c.args.name.now) (c.meaning_is_last.ensures x.strict root c.requires.root) o.outcome is
            r.result.1.news n.news seen c.tell_rest.ensures.only,
      )),
    )
