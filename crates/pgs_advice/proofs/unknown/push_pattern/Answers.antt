use Rattle.std.proofs.Common.{Bool, List, ap, ◌∙◌}
use Rattle.std.specs.List.{filter_map, fold}
use Rattle.pgs_advice.specs.Unknown.{unknown_in, with_word}
use Rattle.pgs_advice.proofs.Walks.{more_found, all_found}
use Rattle.pgs_advice.proofs.unknown.push_pattern.Goals as goal

pub loop-atom-preserved : goal.loop-atom-preserved
loop-atom-preserved c =
    more_found (unknown_in c.args.words.now c.as_slice-edge_vars.result.now) with_word c.args.found.now.items c.as_slice-atom-items.result.now c.loop-atom.atom-index
    c.atom-item.result c.loop-atom.found.items c.push_word.new.found.items c.in_ok-word.word c.loop-atom-test.true c.atom-item.is c.loop-atom.invariant c.in_ok-word.ensures
    c.in_ok-push_word.ensures

pub returns : goal.returns
returns c =
    all_found (unknown_in c.args.words.now c.as_slice-edge_vars.result.now) with_word c.args.found.now.items c.as_slice-atom-items.result.now c.args.pattern.now.atoms
    c.loop-atom.atom-index c.loop-atom.found.items c.loop-atom-test.false c.as_slice-atom-items.ensures c.loop-atom.invariant
    ∙ ap (λ (vars : List Bool). fold with_word c.args.found.now.items (filter_map (unknown_in c.args.words.now vars) c.args.pattern.now.atoms))
    c.as_slice-edge_vars.ensures
