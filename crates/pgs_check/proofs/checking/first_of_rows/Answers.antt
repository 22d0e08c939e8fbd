use Rattle.std.proofs.Common.{sym, ◌∙◌}
use Rattle.pgs_check.specs.declared.rule.Rule.TheVariants as rules
use Rattle.pgs_check.specs.Rows.{first_if, first_found, first_several}
use Rattle.pgs_check.proofs.Chosen.{or_found}
use Rattle.pgs_check.proofs.checking.first_of_rows.Goals as goal

pub returns-in-Some-clause-first : goal.returns-in-Some-clause-first
returns-in-Some-clause-first g c = λ owner owns.
    let number = c.args.owners.now.number in
    let rows = c.args.rows.now in
    or_found (first_if c.args.asked.mandatory (first_found rules.Mandatory number rows)) (first_several c.args.asked number owner rows)
    c.in-Some.found (sym c.in_ok-missing.ensures ∙ c.in-Some.is)
