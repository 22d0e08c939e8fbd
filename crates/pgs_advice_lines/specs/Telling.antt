-- The lines of a schema, by the tokens and the script of its text.
use Rattle.std.specs.Prelude.{ℕ, ◌+◌, Bool, true, false, ◌&&◌, ◌==◌, not, List, [], ◌∷◌, ◌++◌, length, map, flat_map, slice_get, unwrap_or, option_map, if◌then◌else◌, codes}
use Rattle.std.specs.List.{enumerate_from}
use Rattle.std.specs.Option.{option_to_list, option_map_or}
use Rattle.pgs_syntax.specs.declared.element_type.NodeType.{NodeType}
use Rattle.pgs_syntax.specs.declared.element_type.EdgeType.{EdgeType}
use Rattle.pgs_syntax.specs.declared.key.Key.{Key}
use Rattle.pgs_syntax.specs.declared.resolved.Guarding.{Guarding}
use Rattle.pgs_syntax.specs.declared.resolved.Resolved.{Resolved}
use Rattle.pgs_syntax.specs.declared.resolved.TypeNo.{TypeNo}
use Rattle.pgs_syntax.specs.declared.resolved.TypeNo.TheVariants.{Node, Edge}
use Rattle.pgs_syntax.specs.declared.script.GraphType.{GraphType}
use Rattle.pgs_syntax.specs.declared.script.Script.{Script}
use Rattle.pgs_syntax.specs.declared.specification.Leaf.{Leaf}
use Rattle.pgs_lexer.specs.Token.{Lexeme}
use Rattle.pgs_resolve_declared.specs.Declarations.{graphs_of}
use Rattle.pgs_resolve_declared.specs.Imports.{last_of}
use Rattle.pgs_key_standing.specs.declared.reached.Reach.{Reach}
use Rattle.pgs_key_standing.specs.declared.reached.Reach.TheVariants as reaches
use Rattle.pgs_advice.specs.declared.subtypes.Subtype.{Subtype}
use Rattle.pgs_advice.specs.declared.unknown.Unknown.{Unknown}
use Rattle.pgs_advice.specs.declared.words.Words.{Words}
use Rattle.pgs_advice.specs.Unknown.{unknown_words}
use Rattle.pgs_advice.specs.Unused.{unused_graphs}
use Rattle.pgs_advice.specs.Used.{unused_types}
use Rattle.pgs_advice.specs.Void.{has_void_singleton, has_void_exclusive}
use Rattle.pgs_advice.specs.Words.{words_of}
use Rattle.pgs_schema_places.specs.KeyTexts.{guard_key_texts}
use Rattle.pgs_advice_lines.specs.declared.line.Line.{Line}
use Rattle.pgs_advice_lines.specs.Lines.{guard_line, key_line, never_reached_line, forbids_line, void_line, apart_line, nothing_line, unused_line, unused_graph_line, unknown_line}

-- a line that tells, and one that warns
abbrev pub tell : List ℕ → Line
tell text = record { text = text; warns = false }

abbrev pub warn : List ℕ → Line
warn text = record { text = text; warns = true }

-- the guard
abbrev pub guard_of : Guarding → GraphType → Line
guard_of guard type = tell (guard_line type.name guard.strict (length guard.types) (length guard.keys))

abbrev pub guard_lines : Script → Guarding → List Line
guard_lines script guard = option_to_list (option_map (guard_of guard) (last_of (graphs_of script)))

-- what the key of a place, from 0, reaches, and what is told of it; one that forbids its scope does so on purpose
abbrev pub reach_at : List Reach → ℕ → Reach
reach_at reached place = unwrap_or (slice_get reached place) reaches.Value

abbrev pub reach_lines : ℕ → Reach → List Line
reach_lines number reaches.NeverScope = warn (never_reached_line number (codes "scope")) ∷ []
reach_lines number reaches.NeverValue = warn (never_reached_line number (codes "value")) ∷ []
reach_lines number reaches.Forbids = tell (forbids_line number) ∷ []
reach_lines number reaches.Value = []

-- its qualifiers that no graph breaks
abbrev pub void_lines : ℕ → Key → List Line
void_lines number key =
    (if has_void_singleton key then warn (void_line number (codes "SINGLETON")) ∷ [] else [])
    ++ (if has_void_exclusive key then warn (void_line number (codes "EXCLUSIVE")) ∷ [] else [])

-- the subtypes that the key of a place, from 0, doesn't speak of
abbrev pub apart_at : List (List Subtype) → ℕ → List Subtype
apart_at apart place = unwrap_or (slice_get apart place) []

abbrev pub type_name : Resolved → TypeNo → List ℕ
type_name resolved (Node number) = option_map_or (λ (type : NodeType Leaf). type.name) (slice_get resolved.nodes number) []
type_name resolved (Edge number) = option_map_or (λ (type : EdgeType Leaf). type.name) (slice_get resolved.edges number) []

abbrev pub apart_lines : Resolved → ℕ → List Subtype → List Line
apart_lines resolved number subtypes =
    map (λ (type : Subtype). warn (apart_line number (type_name resolved type.base) (type_name resolved type.own))) subtypes

-- a key by its place: its text, what it reaches, these qualifiers, and these subtypes
abbrev pub key_lines : Resolved → List (List ℕ) → List Reach → List (List Subtype) → ℕ × Key → List Line
key_lines resolved texts reached apart key =
    tell (key_line (key.0 + 1) (unwrap_or (slice_get texts key.0) []))
    ∷ (reach_lines (key.0 + 1) (reach_at reached key.0)
    ++ (void_lines (key.0 + 1) key.1 ++ apart_lines resolved (key.0 + 1) (apart_at apart key.0)))

-- its words that no type knows; of what its expressions read, where it doesn't forbid its scope by that
abbrev pub is_forbids : Reach → Bool
is_forbids reaches.Forbids = true
is_forbids _ = false

abbrev pub unknown_lines : Words → List Reach → ℕ × Key → List Line
unknown_lines words reached key =
    map (λ (word : Unknown). warn (unknown_line (key.0 + 1) word)) (unknown_words words (not (is_forbids (reach_at reached key.0))) key.1)

-- a guard that lists types and asks nothing of them
abbrev pub guards_nothing : Guarding → Bool
guards_nothing guard = not guard.strict && not (length guard.types == 0) && length guard.keys == 0

abbrev pub nothing_lines : Guarding → List Line
nothing_lines guard = if guards_nothing guard then warn nothing_line ∷ [] else []

-- the element types, and the graph types, that the guard doesn't use
abbrev pub unused_type_lines : Script → Resolved → List Line
unused_type_lines script resolved = map (λ (name : List ℕ). warn (unused_line name)) (unused_types script resolved)

abbrev pub unused_graph_lines : Script → List Line
unused_graph_lines script = map (λ (type : GraphType). warn (unused_graph_line type.name)) (unused_graphs script)

-- the lines behind those of the types: of the keys, by what each reaches and doesn't speak of, and of what does nothing
abbrev pub advice_lines : List Lexeme → Script → Resolved → List Reach → List (List Subtype) → List Line
advice_lines tokens script resolved reached apart =
    flat_map (key_lines resolved (guard_key_texts tokens script) reached apart) (enumerate_from 0 resolved.guard.keys)
    ++ nothing_lines resolved.guard
    ++ unused_type_lines script resolved
    ++ unused_graph_lines script
    ++ flat_map (unknown_lines (words_of resolved) reached) (enumerate_from 0 resolved.guard.keys)

-- the lines of a schema, by the tokens and the script of its text, by the lines of the guard's types, and by what its keys reach and which
-- subtypes they don't speak of
abbrev pub lines_of : List Lexeme → Script → Resolved → (types : List Line) → (reached : List Reach) → (apart : List (List Subtype)) → List Line
lines_of tokens script resolved types reached apart =
    guard_lines script resolved.guard ++ (types ++ advice_lines tokens script resolved reached apart)
