use Rattle.std.proofs.Common.{subst, arith}
use Rattle.std.proofs.lemmas.Grind.{div_ceil_times}
use Rattle.pgs_world_files.specs.Rewriting.{IsByteRewritten}
use Rattle.pgs_world_files.specs.Rewriting.HasRewritten.{no_block, one_more}
use Rattle.pgs_world_files.proofs.store_file.rewrite_blocks.Goals as goal

pub loop-block-init : goal.loop-block-init
loop-block-init g c = no_block

pub loop-block-preserved : goal.loop-block-preserved
loop-block-preserved g c = one_more c.loop-block.invariant (subst (λ at. IsByteRewritten (g.F.NamedFile.read_gives c.args.moment) (g.F.NamedFile.write_gives c.args.moment) c.loop-block.file at c.rewrite_byte.new.file) (grind (arith, div_ceil_times)) c.rewrite_byte.ensures)
