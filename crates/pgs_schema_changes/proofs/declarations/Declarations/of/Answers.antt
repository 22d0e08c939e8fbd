use Rattle.std.proofs.Common.{List, sym, subst}
use Rattle.pgs_schema_changes.specs.declared.trees.Entry.{Entry}
use Rattle.pgs_schema_changes.specs.Numbers.{IsNumbered}
use Rattle.pgs_schema_changes.proofs.Numbering.{none_numbered}
use Rattle.pgs_schema_changes.proofs.Unfolding.{types_alike}
use Rattle.pgs_schema_changes.proofs.declarations.Declarations.of.Goals as goal

pub returns : goal.returns
returns c =
    let before = c.in_ok-before.ensures (subst (λ (entries : List Entry). IsNumbered entries) (sym c.new-trees.ensures) none_numbered) in
    let after = c.in_ok-after.ensures before.numbered in
    types_alike c.args.old.now c.args.new.now c.new-trees.result.entries.items c.number_types.new.trees.entries.items c.number_types-2.new.trees.entries.items
    (record { before = c.in_ok-before.before; after = c.in_ok-after.after }) before after
