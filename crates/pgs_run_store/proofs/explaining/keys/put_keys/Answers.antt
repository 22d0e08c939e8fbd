use Rattle.std.proofs.Common.{◌+◌, ◌<◌, ◌∙◌, length, ap, subst, arith}
use Rattle.std.proofs.lemmas.List.{take_all}
use Rattle.std.proofs.lemmas.List.FromFn.{length-range_with_len}
use Rattle.pgs_run_lines.specs.Puts.{PutsAll}
use Rattle.pgs_run_lines.proofs.Together.{exits, item_on, item_stop}
use Rattle.pgs_syntax.specs.declared.resolved.Resolved.{Resolved}
use Rattle.pgs_run_store.specs.Explaining.{key_numbers, keys_lines}
use Rattle.pgs_run_store.proofs.Tells.{keys_lines-append, keys_lines_one, next_number}
use Rattle.pgs_run_store.proofs.explaining.keys.put_keys.Goals as goal

pub returns-in_err-put_key-clause-puts : goal.returns-in_err-put_key-clause-puts
returns-in_err-put_key-clause-puts g c =
    let guard = c.args.store.now.guard in
    let same = ap (λ (s : Resolved). length s.guard.keys) (c.resolved.ensures.same ∙ c.compiled.ensures) in
    let within : c.loop-place.place < length guard.schema.guard.keys = omega arith in
    exits c.from_residual.result c.from_residual.ensures.1
    (item_stop (keys_lines guard.schema guard.graph c.args.elem) (keys_lines-append guard.schema guard.graph c.args.elem) (key_numbers guard.schema) c.loop-place.place (c.loop-place.place + 1)
    (next_number guard.schema c.loop-place.place within) _ (keys_lines_one guard.schema guard.graph c.args.elem (c.loop-place.place + 1)) c.loop-place.invariant c.in_err-put_key.ensures.puts)

pub loop-place-preserved : goal.loop-place-preserved
loop-place-preserved g c =
    let guard = c.args.store.now.guard in
    let same = ap (λ (s : Resolved). length s.guard.keys) (c.resolved.ensures.same ∙ c.compiled.ensures) in
    let within : c.loop-place.place < length guard.schema.guard.keys = omega arith in
    item_on (keys_lines guard.schema guard.graph c.args.elem) (keys_lines-append guard.schema guard.graph c.args.elem) (key_numbers guard.schema) c.loop-place.place (c.loop-place.place + 1)
    (next_number guard.schema c.loop-place.place within) _ (keys_lines_one guard.schema guard.graph c.args.elem (c.loop-place.place + 1)) c.loop-place.invariant c.in_ok-put_key.ensures.puts

pub returns-clause-puts : goal.returns-clause-puts
returns-clause-puts g c =
    let guard = c.args.store.now.guard in
    let same = ap (λ (s : Resolved). length s.guard.keys) (c.resolved.ensures.same ∙ c.compiled.ensures) in
    let all = take_all c.loop-place.place (key_numbers guard.schema) (omega (arith, length-range_with_len 1 (length guard.schema.guard.keys))) in
    subst (λ numbers. PutsAll (g.W.World.view c.args.world.now) (keys_lines guard.schema guard.graph c.args.elem numbers) (g.W.World.view c.loop-place.world)) all c.loop-place.invariant
