use Rattle.std.proofs.Common.{◌≡◌, ◌++◌, List, OnOk, subst}
use Rattle.pgs_syntax.specs.declared.pattern.Atom.{Atom}
use Rattle.pgs_key_standing.proofs.Tables.{beside_one}
use Rattle.pgs_key_standing.proofs.joint.push_copies.Goals as goal

pub returns : goal.returns
returns c =
    subst (λ (atoms : List Atom). OnOk c.push_beside.result (c.push_beside.new.all.items ≡ c.args.all.now.items ++ atoms))
    (beside_one c.args.pattern.now.edge_vars c.args.pattern.now.atoms c.requires.speak) c.push_beside.ensures
