use Rattle.std.proofs.Common.{◌≡◌, IfOk, sym, ap, ◌∙◌, subst}
use Rattle.pgs_syntax.specs.declared.key.Key.{Key}
use Rattle.pgs_check.specs.Rows.{first_of_rows}
use Rattle.pgs_check.proofs.checking.first_of_changed.Goals as goal

pub first_of_rows-requires-clause-exclusive : goal.first_of_rows-requires-clause-exclusive
first_of_rows-requires-clause-exclusive g c = λ asked. c.requires.exclusive (ap (λ (k : Key). k.qualifiers.exclusive) (sym c.key.ensures) ∙ asked)

pub returns-clause-first : goal.returns-clause-first
returns-clause-first g c = λ owner owns.
    let asked = ap (λ (k : Key). k.qualifiers) c.key.ensures in
    subst (λ q. IfOk c.first_of_rows.result (λ found. found ≡ first_of_rows q c.args.number owner c.args.rows.now)) asked
    (c.first_of_rows.ensures.first owner (λ exclusive. owns (ap (λ (k : Key). k.qualifiers.exclusive) (sym c.key.ensures) ∙ exclusive)))
