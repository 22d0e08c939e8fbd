use Rattle.std.proofs.Common.{rules}
use Rattle.pgs_tables.proofs.Placed.{kept_with_one, numbers_there, numbers_with_one}
use Rattle.pgs_tables.proofs.numbered.slot_of.Goals as goal

pub returns-in-Vacant-clause-kept : goal.returns-in-Vacant-clause-kept
returns-in-Vacant-clause-kept g c = kept_with_one g.K.PartialEq.eq c.args.slots.now c.args.id (search rules) _ (search rules)

pub returns-in-Vacant-clause-numbers : goal.returns-in-Vacant-clause-numbers
returns-in-Vacant-clause-numbers g c = numbers_with_one g.met.K.Ord.total g.met.K.Ord.matches_eq c.args.slots.now c.args.id (search rules) _ (search rules)

pub returns-in-Occupied-clause-numbers : goal.returns-in-Occupied-clause-numbers
returns-in-Occupied-clause-numbers g c = numbers_there g.met.K.Ord.total g.met.K.Ord.matches_eq c.args.slots.now.entries _ c.args.id (search rules) (search rules)
