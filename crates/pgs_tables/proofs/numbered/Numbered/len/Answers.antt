use Rattle.std.proofs.Common.{◌∙◌, length, sym, ap, subst, arith}
use Rattle.std.specs.List.Sorted.{IsStrictlySortedBy}
use Rattle.std.specs.Map.{keys_of}
use Rattle.pgs_tables.specs.Slots.{present}
use Rattle.pgs_tables.proofs.Rows.{rows-counted, count-present, ascending-by_key}
use Rattle.pgs_tables.proofs.numbered.Numbered.len.Goals as goal

pub returns-clause-value : goal.returns-clause-value
returns-clause-value g c =
    let slots = c.self.inside.slots.entries in
    c.self.invariant.counted ∙ sym (rows-counted g.met.K.Ord.total g.met.K.Ord.matches_eq slots c.self.invariant.distinct) ∙ ap (λ s. length s.rows) c.self.view_is

pub returns-clause-small : goal.returns-clause-small
returns-clause-small g c =
    let most = count-present c.self.inside.slots.entries in
    omega (arith, c.self.invariant.counted)

pub returns-clause-ascending : goal.returns-clause-ascending
returns-clause-ascending g c =
    subst (λ s. IsStrictlySortedBy g.K.Ord.cmp (keys_of s.rows)) c.self.view_is (ascending-by_key g.met.K.Ord.total (present c.self.inside.slots.entries))
