use Rattle.std.specs.Prelude.{string_bytes}
use Rattle.pgs_world_files.proofs.Admitted.{admitted_open}
use Rattle.pgs_world_files.proofs.system_opening.SystemOpeningOpening.open_area.Goals as goal

pub returns-in-Ok-clause-admitted : goal.returns-in-Ok-clause-admitted
returns-in-Ok-clause-admitted g c =
    admitted_open g.S.System.facts c.args.self.now.opened.items (string_bytes c.args.name) c.args.access c.in-Ok.file c.new-file.result c.new.result c.new-in-Ok.result.handle
    c.new-in-Ok.result.cause c.open_store_file.new.self.opened.items c.in-Ok.ensures.own c.new-file.ensures.file c.new.ensures.file c.new-in-Ok.ensures.handle
