use Rattle.std.proofs.Common.{◌≡◌, ◌++◌, subst}
use Rattle.std.specs.Prelude.{OnOk}
use Rattle.pgs_run_contain.proofs.Naming.{none_long, none_cut, names_cut}
use Rattle.pgs_run_contain.proofs.names.push_names_in.Goals as goal

pub returns-then-text-gt-TEXT_LIMIT : goal.returns-then-text-gt-TEXT_LIMIT
returns-then-text-gt-TEXT_LIMIT c = none_long c.args.text.now c.args.names.now.items c.if-text-gt-TEXT_LIMIT.true

pub returns-in-Ok : goal.returns-in-Ok
returns-in-Ok c =
    let same = names_cut c.args.text.now c.in-Ok.tokens c.if-text-gt-TEXT_LIMIT.false c.in-Ok.ensures.computed in
    subst (λ ns. OnOk c.push_names_of.result (c.push_names_of.new.names.items ≡ c.args.names.now.items ++ ns)) same c.push_names_of.ensures

pub returns-in-Err-Lex : goal.returns-in-Err-Lex
returns-in-Err-Lex c =
    none_cut c.args.text.now c.in-Err-Lex.field-0-0 c.args.names.now.items c.if-text-gt-TEXT_LIMIT.false
    (rw c.in-Err-Lex.field-0-is at c.in-Err-Lex.ensures.computed)
