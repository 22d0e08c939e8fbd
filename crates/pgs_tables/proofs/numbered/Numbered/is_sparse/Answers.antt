use Rattle.std.proofs.Common.{length, ap, arith}
use Rattle.std.proofs.lemmas.Bool.{ltb-false, ltb-true}
use Rattle.pgs_tables.proofs.Rows.{count-present, length-keys, rows-counted}
use Rattle.pgs_tables.proofs.numbered.Numbered.is_sparse.Goals as goal

pub overflow_sub-empty : goal.overflow_sub-empty
overflow_sub-empty g c =
    let most = count-present c.self.inside.slots.entries in
    omega (arith, c.self.invariant.counted, c.len.ensures.len)

pub returns-clause-sparse : goal.returns-clause-sparse
returns-clause-sparse g c is =
    let slots = c.self.inside.slots.entries in
    let less = ltb-true _ _ is in
    let rows = rows-counted g.met.K.Ord.total g.met.K.Ord.matches_eq slots c.self.invariant.distinct in
    let numbers = length-keys slots in
    let seen_rows = ap (λ s. length s.rows) c.self.view_is in
    let seen_numbers = ap (λ s. length s.numbers) c.self.view_is in
    omega (arith, c.self.invariant.counted, c.len.ensures.len)

pub returns-clause-dense : goal.returns-clause-dense
returns-clause-dense g c is =
    let slots = c.self.inside.slots.entries in
    let most = ltb-false _ _ is in
    let rows = rows-counted g.met.K.Ord.total g.met.K.Ord.matches_eq slots c.self.invariant.distinct in
    let numbers = length-keys slots in
    let seen_rows = ap (λ s. length s.rows) c.self.view_is in
    let seen_numbers = ap (λ s. length s.numbers) c.self.view_is in
    omega (arith, c.self.invariant.counted, c.len.ensures.len)
