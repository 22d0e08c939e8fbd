use Rattle.std.proofs.Common.{Ok, subst}
use Rattle.pgs_world_files.specs.Rewriting.IsByteRewritten.{not_read, rewritten}
use Rattle.pgs_world_files.proofs.store_file.rewrite_byte.Goals as goal

pub returns-in_default : goal.returns-in_default
returns-in_default g c = not_read c.in_default.ensures.gives tt

pub returns-then-count-eq1 : goal.returns-then-count-eq1
returns-then-count-eq1 g c =
    let read = subst (λ count. g.F.NamedFile.read_gives c.args.moment c.args.file.now c.args.at c.read_from.new.buf (Ok count) c.read_from.new.self) c.if-count-eq1.true c.in-Ok.ensures.gives in
    rewritten c.read_from.auto.buf read c.write_from-passed_over.ensures.gives

pub returns-else-count-eq1 : goal.returns-else-count-eq1
returns-else-count-eq1 g c = not_read c.in-Ok.ensures.gives c.if-count-eq1.false
