-- The lines that a check of a schema tells, each with its line feed.
use Rattle.std.specs.Prelude.{ℕ, Bool, true, false, List, ◌++◌, codes, decimal}
use Rattle.pgs_advice.specs.declared.unknown.Unknown.{Unknown}
use Rattle.pgs_advice.specs.declared.unknown.Unknown.TheVariants as unknowns

abbrev pub mode_text : Bool → List ℕ
mode_text true = codes " STRICT"
mode_text false = codes " LOOSE"

-- the guard: its name and mode, and how many types and keys it has
unfoldable pub guard_line : List ℕ → Bool → ℕ → ℕ → List ℕ
guard_line name strict types keys =
    codes "guard " ++ (name ++ (mode_text strict
    ++ (codes " types=" ++ (decimal types ++ (codes " keys=" ++ (decimal keys ++ codes "\n"))))))

-- a type, with the line of a transaction that adds an example of it, or of which nothing can stand
unfoldable pub type_line : List ℕ → List ℕ → List ℕ
type_line name line = codes "type " ++ (name ++ (codes " " ++ line))

unfoldable pub never_line : List ℕ → List ℕ
never_line name = codes "never " ++ (name ++ codes "\n")

-- a key of a number, from 1, and its text
unfoldable pub key_line : ℕ → List ℕ → List ℕ
key_line number text = codes "key " ++ (decimal number ++ (codes " " ++ (text ++ codes "\n")))

-- a key that reaches nothing: no graph has an element in its scope, or a value of one; and one that forbids its scope so
unfoldable pub never_reached_line : ℕ → List ℕ → List ℕ
never_reached_line number word = codes "never " ++ (decimal number ++ (codes " " ++ (word ++ codes "\n")))

unfoldable pub forbids_line : ℕ → List ℕ
forbids_line number = codes "forbids " ++ (decimal number ++ codes "\n")

-- a qualifier of a key that no graph breaks
unfoldable pub void_line : ℕ → List ℕ → List ℕ
void_line number word = codes "void " ++ (decimal number ++ (codes " " ++ (word ++ codes "\n")))

-- a subtype of a type that a key names, of which the key doesn't speak: the names of the type and of the subtype
unfoldable pub apart_line : ℕ → List ℕ → List ℕ → List ℕ
apart_line number base own = codes "apart " ++ (decimal number ++ (codes " " ++ (base ++ (codes " " ++ (own ++ codes "\n")))))

unfoldable pub nothing_line : List ℕ
nothing_line = codes "guards nothing\n"

-- an element type, and a graph type, that the guard doesn't use
unfoldable pub unused_line : List ℕ → List ℕ
unused_line name = codes "unused " ++ (name ++ codes "\n")

unfoldable pub unused_graph_line : List ℕ → List ℕ
unused_graph_line name = codes "unused graph " ++ (name ++ codes "\n")

-- a word of a key that no type knows: a key has a point before it
abbrev pub word_text : Unknown → List ℕ
word_text (unknowns.Label label) = label
word_text (unknowns.Key key) = codes "." ++ key

unfoldable pub unknown_line : ℕ → Unknown → List ℕ
unknown_line number word = codes "unknown " ++ (decimal number ++ (codes " " ++ (word_text word ++ codes "\n")))
