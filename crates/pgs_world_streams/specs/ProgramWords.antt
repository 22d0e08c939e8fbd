-- The words of a command line.
use Rattle.std.specs.Prelude.{ℕ, List, map, drop, string_bytes, String}
use Rattle.std.specs.declared.alloc.Global.{Global}

-- the words behind the program's name
abbrev pub words_behind : List (String Global) → List (List ℕ)
words_behind arguments = drop 1 (map string_bytes arguments)
