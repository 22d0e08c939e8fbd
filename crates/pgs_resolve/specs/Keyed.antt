-- Keys whose scope names a variable.
use Rattle.std.specs.Prelude.{◌≡◌, Bool, true, List, is_some}
use Rattle.std.specs.List.{list_all}
use Rattle.pgs_syntax.specs.declared.raw.RawKey.{RawKey}
use Rattle.pgs_syntax.specs.declared.script.Script.{Script}
use Rattle.pgs_resolve_declared.specs.declared.declarations.Declarations.{Declarations}
use Rattle.pgs_resolve_declared.specs.Declarations.{keys_of}
use Rattle.pgs_resolve_keys.specs.Patterns.{x_of}
use Rattle.pgs_resolve_declared.specs.Tables.{AreOf}

-- whether the scope of a key names a variable, and whether those of all keys do
abbrev pub names_x : RawKey → Bool
names_x key = is_some (x_of key)

abbrev pub EachNamesX : List RawKey → Type 0
EachNamesX keys = list_all names_x keys ≡ true

-- whether declarations are those of a script in which the scope of each key names a variable
abbrev pub AreKeyed : Declarations → Type 0
AreKeyed declarations = (script : Script) × (AreOf script declarations × EachNamesX (keys_of script))
