use Rattle.std.proofs.Common.{◌≡◌, inr, sym, ◌∙◌, ap, Ok}
use Rattle.pgs_resolve_declared.specs.Declarations.{keys_of}
use Rattle.pgs_resolve.specs.Resolution.{refusals, resolution}
use Rattle.pgs_resolve.proofs.FirstBad.{all_sound, each_names_x}
use Rattle.pgs_resolve_declared.proofs.Firsts.{none_first}
use Rattle.pgs_resolve.proofs.Refusing.{is_refused, is_resolved, not_refused}
use Rattle.pgs_resolve.proofs.Valid.{schema_valid}
use Rattle.pgs_resolve.proofs.resolution.resolve.Goals as goal

pub returns-in-Some-clause-refusal : goal.returns-in-Some-clause-refusal
returns-in-Some-clause-refusal c = inr (is_refused c.args.script.now c.in-Some.fault (sym c.in-Some.is ∙ c.in_ok-fault.ensures))

pub resolution_of-requires : goal.resolution_of-requires
resolution_of-requires c =
    let script = c.args.script.now in
    let sound = not_refused script (none_first (refusals script) (sym c.in_default.is ∙ c.in_ok-fault.ensures)) in
    (script, (c.in_ok-declarations.ensures, each_names_x 1 (keys_of script) (all_sound 1 (keys_of script) sound.keys)))

pub returns-clause-schema : goal.returns-clause-schema
returns-clause-schema c =
    let script = c.args.script.now in
    is_resolved script (sym c.in_default.is ∙ c.in_ok-fault.ensures)
    ∙ ap Ok (sym (c.in_ok-resolution_of.ensures script c.in_ok-declarations.ensures))

pub returns-clause-valid : goal.returns-clause-valid
returns-clause-valid c tokens tree =
    let script = c.args.script.now in
    let answer : resolution script ≡ Ok c.in_ok-resolution_of.field-0 =
    is_resolved script (sym c.in_default.is ∙ c.in_ok-fault.ensures)
    ∙ ap Ok (sym (c.in_ok-resolution_of.ensures script c.in_ok-declarations.ensures)) in
    schema_valid script c.in_ok-resolution_of.field-0 tree.places answer
