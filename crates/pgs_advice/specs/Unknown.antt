-- The words of a key that no type knows: labels and keys of its patterns, and keys that its expressions read.
use Rattle.std.specs.Prelude.{ℕ, Bool, false, List, [], ◌∷◌, ◌++◌, Option, Some, None, filter_map, if◌then◌else◌}
use Rattle.std.specs.List.{list_any, fold}
use Rattle.pgs_base.specs.Pair.{same_name}
use Rattle.pgs_syntax.specs.declared.key.Key.{Key}
use Rattle.pgs_syntax.specs.declared.pattern.Atom.{Atom}
use Rattle.pgs_syntax.specs.declared.pattern.Atom.TheVariants.{HasLabel, Equals}
use Rattle.pgs_syntax.specs.declared.pattern.Expr.{Expr}
use Rattle.pgs_syntax.specs.declared.pattern.Expr.TheVariants.{Property}
use Rattle.pgs_syntax.specs.declared.pattern.Pattern.{Pattern}
use Rattle.pgs_syntax.specs.Valid.{is_edge_var}
use Rattle.pgs_advice.specs.declared.unknown.Unknown.{Unknown}
use Rattle.pgs_advice.specs.declared.unknown.Unknown.TheVariants as unknowns
use Rattle.pgs_advice.specs.declared.words.Words.{Words}
use Rattle.pgs_advice.specs.Words.{known_at, knows_label, knows_key}

-- a label, or a key, of a variable that isn't known
abbrev pub unknown_label : Words → List Bool → ℕ → List ℕ → Option Unknown
unknown_label words edge_vars var label =
    if knows_label (known_at words (is_edge_var edge_vars var)) label then None else Some (unknowns.Label label)

abbrev pub unknown_key : Words → List Bool → ℕ → List ℕ → Option Unknown
unknown_key words edge_vars var key =
    if knows_key (known_at words (is_edge_var edge_vars var)) key then None else Some (unknowns.Key key)

-- of an atom, and of an expression
abbrev pub unknown_in : Words → List Bool → Atom → Option Unknown
unknown_in words edge_vars (HasLabel var label) = unknown_label words edge_vars var label
unknown_in words edge_vars (Equals var key value) = unknown_key words edge_vars var key
unknown_in words edge_vars _ = None

abbrev pub unknown_read : Words → List Bool → Expr → Option Unknown
unknown_read words edge_vars (Property var key) = unknown_key words edge_vars var key
unknown_read words edge_vars _ = None

-- words, each once, by their first places
abbrev pub is_same : Unknown → Unknown → Bool
is_same (unknowns.Label a) (unknowns.Label b) = same_name a b
is_same (unknowns.Key a) (unknowns.Key b) = same_name a b
is_same _ _ = false

abbrev pub with_word : List Unknown → Unknown → List Unknown
with_word found word = if list_any (is_same word) found then found else found ++ word ∷ []

-- of a pattern, and of expressions, behind those that were found
abbrev pub with_pattern : Words → List Unknown → Pattern → List Unknown
with_pattern words found pattern = fold with_word found (filter_map (unknown_in words pattern.edge_vars) pattern.atoms)

abbrev pub with_reads : Words → List Unknown → List Bool → List Expr → List Unknown
with_reads words found edge_vars exprs = fold with_word found (filter_map (unknown_read words edge_vars) exprs)

-- The words of a key that aren't known: of its scope, of its descriptor, and of what it reads, where that is asked for.
abbrev pub unknown_words : Words → (reads : Bool) → Key → List Unknown
unknown_words words reads key =
    let found = with_pattern words (with_pattern words [] key.scope) key.descriptor in
    if reads then with_reads words found key.descriptor.edge_vars key.exprs else found
