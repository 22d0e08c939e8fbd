use Rattle.std.proofs.Common.{◌≡◌, map, ◌∙◌}
use Rattle.std.specs.List.{list_any}
use Rattle.pgs_advice.specs.Parts.{has_any_key, has_any_label}
use Rattle.pgs_advice.proofs.Gathered.{lent, some_through}
use Rattle.pgs_advice.proofs.words.Known.of.Goals as goal

pub returns : goal.returns
returns c =
    let parts = c.args.parts.now in
    let any_label : c.some_any_label-any_label.result ≡ list_any has_any_label (map lent parts) = c.some_any_label-any_label.ensures ∙ some_through lent has_any_label parts in
    let any_key : c.some_any_key-any_key.result ≡ list_any has_any_key (map lent parts) = c.some_any_key-any_key.ensures ∙ some_through lent has_any_key parts in
    let labels = c.in_ok-labels.ensures in
    let keys = c.in_ok-keys.ensures in
    cc
