-- The words behind a name.
use Rattle.std.proofs.Common.{◌≡◌, List, ◌∷◌, ap, map}
use Rattle.std.specs.Prelude.{String, string_bytes}
use Rattle.std.specs.declared.alloc.Global.{Global}
use Rattle.pgs_world_streams.specs.ProgramWords.{words_behind}

pub behind_name : (all rest : List (String Global)) (name : String Global) → all ≡ name ∷ rest → words_behind all ≡ map string_bytes rest
behind_name all rest name is = ap words_behind is
