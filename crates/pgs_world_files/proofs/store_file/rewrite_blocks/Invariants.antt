use Rattle.pgs_world_files.specs.Rewriting.{HasRewritten}
use Rattle.pgs_world_files.proofs.store_file.rewrite_blocks.Given as goal

abbrev pub invariant-loop-block : goal.invariant-loop-block
invariant-loop-block g l = HasRewritten (g.F.NamedFile.read_gives l.moment) (g.F.NamedFile.write_gives l.moment) l.fn.file l.block l.file
