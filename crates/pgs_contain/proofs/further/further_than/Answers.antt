use Rattle.std.proofs.Common.{◌∙◌, ap, ◌++◌, refl}
use Rattle.pgs_base.specs.Pair.{has_name}
use Rattle.pgs_contain.specs.Known.{labels_in_triples}
use Rattle.pgs_contain.proofs.Strangers.{all_lack}
use Rattle.pgs_contain.proofs.further.further_than.Goals as goal

pub returns : goal.returns
returns c =
    let lack =
    all_lack c.in_ok-name.name c.args.shapes.now c.args.triples.now c.new-labels.result.items c.push_labels.new.all.items c.as_slice.result.now
    c.new-labels.ensures.items c.in_ok-push_labels.ensures (c.as_slice.ensures.value ∙ c.in_ok-push_labels_of_triples.ensures) c.in_ok-name.ensures.0 in
    (refl, lack.0, lack.1)
