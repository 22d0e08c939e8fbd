use Rattle.std.proofs.Common.{ℕ, List, take, sym, ◌∙◌, ap, subst, arith}
use Rattle.pgs_syntax.specs.Valid.{groups_after}
use Rattle.pgs_resolve_keys.specs.Groups.{Keep}
use Rattle.pgs_resolve_keys.proofs.Unions.{groups_push}
use Rattle.pgs_resolve_declared.proofs.Walks.{one_more}
use Rattle.pgs_resolve_keys.proofs.connected.unite_all.Goals as goal

pub loop-atom-preserved : goal.loop-atom-preserved
loop-atom-preserved c =
    let i = c.loop-atom.atom-index in
    let atoms = c.args.atoms.now in
    let atom = c.atom-item.result in
    record {
      count = omega arith;
      parents = c.unite_ends.ensures.parents;
      groups = λ groups keep.
          let P : List ℕ → Type 0 = λ after. Keep after c.unite_ends.new.parents in
          subst P (sym (ap (groups_after groups) (one_more atoms i atom (omega arith) c.atom-item.is) ∙ groups_push groups (take i atoms) atom))
          (c.unite_ends.ensures.groups (groups_after groups (take i atoms)) (c.loop-atom.invariant.groups groups keep));
    }
