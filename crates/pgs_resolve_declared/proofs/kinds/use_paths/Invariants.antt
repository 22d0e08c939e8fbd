use Rattle.std.proofs.Common.{◌≡◌, ◌++◌, take}
use Rattle.std.specs.List.{flat_map}
use Rattle.pgs_resolve_declared.specs.Refused.{uses_in_path}
use Rattle.pgs_resolve_declared.proofs.kinds.use_paths.Given as goal

abbrev pub invariant-loop-path : goal.invariant-loop-path
invariant-loop-path l = l.uses.items ≡ l.fn.uses.items ++ flat_map uses_in_path (take l.path-index l.paths)
