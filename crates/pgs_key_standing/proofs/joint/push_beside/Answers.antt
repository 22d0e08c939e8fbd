use Rattle.std.proofs.Common.{◌≡◌, ◌++◌, ℕ, List, map, slice_index, OnOk, ap, subst, ◌∙◌, arith}
use Rattle.pgs_syntax.specs.declared.pattern.Atom.{Atom}
use Rattle.pgs_key_standing.specs.Renamed.{renamed}
use Rattle.pgs_key_standing.proofs.Tables.{table_beside}
use Rattle.pgs_key_standing.proofs.joint.push_beside.Goals as goal

pub returns : goal.returns
returns c =
    subst (λ (atoms : List Atom). OnOk c.push_renamed.result (c.push_renamed.new.all.items ≡ c.args.all.now.items ++ atoms))
    (ap (λ (xs : List Atom). map (renamed (λ var. slice_index c.as_slice-2.result.now var)) xs) c.as_slice.ensures
    ∙ ap (λ (table : List ℕ). map (renamed (λ var. slice_index table var)) c.args.pattern.now.atoms) c.as_slice-2.ensures.value
    ∙ table_beside c.args.pattern.now.edge_vars c.args.count c.in_ok-table.table.items c.args.pattern.now.atoms c.requires.speak
    (λ var below. c.in_ok-table.ensures.numbers var (omega arith)))
    c.push_renamed.ensures
