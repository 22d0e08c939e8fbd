use Rattle.std.proofs.Common.{arith}
use Rattle.pgs_json.proofs.Rooms.{quoted_text, number_digits, date_length}
use Rattle.pgs_json.proofs.room.value_room.Goals as goal

pub returns-in-Text-clause-enough : goal.returns-in-Text-clause-enough
returns-in-Text-clause-enough c = rw (c.in-Text.is, c.text.ensures.text) (omega (arith, (quoted_text c.in-Text.text).1))

pub returns-in-Text-clause-bounded : goal.returns-in-Text-clause-bounded
returns-in-Text-clause-bounded c = rw (c.in-Text.is, c.text.ensures.text) (omega (arith, (quoted_text c.in-Text.text).0))

pub returns-in-Int-clause-enough : goal.returns-in-Int-clause-enough
returns-in-Int-clause-enough c = rw c.in-Int.is (number_digits c.in-Int.field-0 (rw c.in-Int.is at c.facts.ensures)).1

pub returns-in-Int-clause-bounded : goal.returns-in-Int-clause-bounded
returns-in-Int-clause-bounded c = rw c.in-Int.is (omega (arith, (number_digits c.in-Int.field-0 (rw c.in-Int.is at c.facts.ensures)).0))

pub returns-in-Date-clause-enough : goal.returns-in-Date-clause-enough
returns-in-Date-clause-enough c = rw c.in-Date.is (omega (arith, date_length c.in-Date.field-0 (rw c.in-Date.is at c.facts.ensures)))
