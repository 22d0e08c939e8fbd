use Rattle.std.proofs.Common.{◌++◌, false, sym, ap, ◌∙◌, append-nil}
use Rattle.std.specs.Option.{option_map_or}
use Rattle.std.proofs.lemmas.Bool.{and_parts}
use Rattle.pgs_match.specs.Planned.{pattern_of}
use Rattle.pgs_match.specs.Tests.{own_passes}
use Rattle.pgs_match.proofs.Scopes.{side_valid}
use Rattle.pgs_check_affected.proofs.Passing.{reached_none}
use Rattle.pgs_check_affected.proofs.gathering.Sought.add_reached.Goals as goal

pub returns-else-passes-clause-elems : goal.returns-else-passes-clause-elems
returns-else-passes-clause-elems g c =
    let graph = g.G.GraphRead.meaning c.args.graph.now in
    let resolved = c.args.self.now.compiled.now in
    let key = c.args.self.now.key.now in
    let side = c.args.self.now.side in
    let valid = (and_parts _ _ (and_parts _ _ c.requires.typed).0).0 in
    let fails = ap (λ o. option_map_or (own_passes resolved (pattern_of side key) c.args.var c.args.elem) o false) (sym c.requires.own) ∙ sym c.passes.ensures ∙ c.if-passes.false in
    sym (ap (λ more. c.args.elems.now.items ++ more)
    (reached_none resolved graph (pattern_of side key) (side_valid side key valid) c.args.var c.requires.in_range c.args.elem fails)
    ∙ append-nil c.args.elems.now.items)
