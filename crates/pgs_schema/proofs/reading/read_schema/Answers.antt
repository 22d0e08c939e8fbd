use Rattle.std.proofs.Common.{rules, ◌≡◌, arith, true, ◌∙◌, ap}
use Rattle.std.proofs.lemmas.Result.{IfOk-weaker}
use Rattle.pgs_syntax.specs.Valid.{is_valid}
use Rattle.pgs_schema.proofs.Answered.{of_long, of_short, of_tokens, of_script, of_resolved, of_narrow}
use Rattle.pgs_schema.proofs.reading.read_schema.Goals as goal

pub returns-then-text-gt-TEXT_LIMIT-clause-refused : goal.returns-then-text-gt-TEXT_LIMIT-clause-refused
returns-then-text-gt-TEXT_LIMIT-clause-refused c = of_long c.args.text.now (omega arith)

pub returns-in_err-tokens-clause-refused : goal.returns-in_err-tokens-clause-refused
returns-in_err-tokens-clause-refused c =
    rw (of_short c.args.text.now (omega arith)) (search rules)

pub returns-in_err-script-clause-refused : goal.returns-in_err-script-clause-refused
returns-in_err-script-clause-refused c =
    rw (of_tokens c.args.text.now _ (omega arith) c.in_ok-tokens.ensures.tokens) (search rules)

pub returns-in_err-resolved-clause-refused : goal.returns-in_err-resolved-clause-refused
returns-in_err-resolved-clause-refused c =
    rw (of_script c.args.text.now _ _ (omega arith) c.in_ok-tokens.ensures.tokens c.in_ok-script.ensures.computed) (search rules)

pub returns-clause-schema : goal.returns-clause-schema
returns-clause-schema c =
    rw (of_resolved c.args.text.now _ _ _ (omega arith) c.in_ok-tokens.ensures.tokens c.in_ok-script.ensures.computed c.in_ok-resolved.ensures.schema)
    (search (rules, of_narrow))

pub returns-clause-valid : goal.returns-clause-valid
returns-clause-valid c =
    let valid = c.in_ok-resolved.ensures.valid _ c.in_ok-script.ensures.script in
    IfOk-weaker c.compiled_of.result (λ compiled. compiled ≡ c.in_ok-resolved.resolved) (λ compiled. is_valid compiled ≡ true) (λ compiled kept. ap is_valid kept ∙ valid) c.compiled_of.ensures.kept

pub returns-clause-refused : goal.returns-clause-refused
returns-clause-refused c =
    rw (of_resolved c.args.text.now _ _ _ (omega arith) c.in_ok-tokens.ensures.tokens c.in_ok-script.ensures.computed c.in_ok-resolved.ensures.schema)
    (search rules)
