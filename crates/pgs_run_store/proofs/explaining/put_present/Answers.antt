use Rattle.std.proofs.Common.{◌∙◌, ap₂}
use Rattle.pgs_run_lines.proofs.Together.{exits, stops_in, result_on}
use Rattle.pgs_run_store.specs.Explaining.{key_numbers, keys_lines, type_lines}
use Rattle.pgs_run_store.proofs.Tells.{told_there}
use Rattle.pgs_run_store.proofs.explaining.put_present.Goals as goal

pub returns-in_err-put_types-clause-puts : goal.returns-in_err-put_types-clause-puts
returns-in_err-put_types-clause-puts g c =
    let guard = c.args.store.now.guard in
    let same = ap₂ type_lines (c.resolved.ensures.same ∙ c.compiled.ensures) (c.as_slice.ensures ∙ c.in_ok-types.ensures) in
    rw (told_there guard.schema guard.graph c.args.elem c.requires, ← same)
    (exits c.from_residual-in_err-put_types.result c.from_residual-in_err-put_types.ensures.1
    (stops_in (keys_lines guard.schema guard.graph c.args.elem (key_numbers guard.schema)) c.in_err-put_types.ensures.puts))

pub returns-clause-puts : goal.returns-clause-puts
returns-clause-puts g c =
    let guard = c.args.store.now.guard in
    let same = ap₂ type_lines (c.resolved.ensures.same ∙ c.compiled.ensures) (c.as_slice.ensures ∙ c.in_ok-types.ensures) in
    rw (told_there guard.schema guard.graph c.args.elem c.requires, ← same)
    (result_on _ (keys_lines guard.schema guard.graph c.args.elem (key_numbers guard.schema)) c.put_keys.result c.in_ok-put_types.ensures.puts c.put_keys.ensures.puts)
