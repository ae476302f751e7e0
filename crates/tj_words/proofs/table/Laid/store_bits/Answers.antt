use Rattle.tj_words.proofs.CallTerms.{Store, arith, cell_at, is_logged, its_cell, program_of, refl, subst, told_step}
use Rattle.tj_words.proofs.CallTerms.{word}
use Rattle.tj_words.specs.Calls.EntryViews.{PutsBits, bits_store}
use Rattle.tj_words.proofs.SeatLoads.KnowLoads.{once_within}
use Rattle.tj_words.proofs.Stores.EntryStores.{bits_allowed}
use Rattle.tj_words.specs.declared.offsets.Once.TheVariants as once
use Rattle.tj_words.specs.CallLaws.StepCalls as call
use Rattle.tj_words.proofs.table.Laid.store_bits.Goals as goal

pub store-requires : goal.store-requires
store-requires g c = let a = c.args in let b = g.B.Body in
    let program = program_of b.places b.awaits b.left b.asks b.then in let e = a.self.now.key_cells in
    let w = once_within a.c.0 a.self.now.cells once.Bits c.requires.cell in (
      c.requires.table,
      omega (arith, a.self.now.words, w, c.once_at.ensures.word),
      bits_allowed _ _ _ _ _ a.c.0 c.once_at.result a.v (cell_at c.once_at.result) (omega (arith, e, c.requires.cell))
          c.once_at.ensures.word c.once_at.ensures.cell c.requires.may,
      told_step _ (call.puts_once a.c.0 once.Bits) Store a.v 0 refl c.once_at.ensures.word
          (omega (arith, e, w, c.once_at.ensures.word)) tt
          (λ s r at m t. (
            refl,
            (let h = its_cell (λ cells. bits_store program) a.v 0 {n = word s.words c.once_at.result} a.self.now.slots
                c.once_at.ensures.cell t in (c.requires.may, h.0, h.1)),
          )),
    )

pub returns-clause-view : goal.returns-clause-view
returns-clause-view g c = subst (λ d. PutsBits (program_of g.B.Body.places g.B.Body.awaits g.B.Body.left g.B.Body.asks
    g.B.Body.then) d c.args.v c.args.seat.now.me.0 c.store.new.seat.me.0) c.once_at.ensures.cell c.store.ensures.2.1

pub returns-clause-log : goal.returns-clause-log
returns-clause-log g c = is_logged c.once_at.ensures.word refl refl refl c.store.ensures.3 c.store.ensures.4
