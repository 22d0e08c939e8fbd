-- How differences are printed.
use Rattle.std.specs.Prelude.{ℕ, List, [], ◌∷◌, ◌++◌, Bool, map, flat_map, if◌then◌else◌, codes}
use Rattle.pgs_base.specs.declared.value.Kind.{Kind}
use Rattle.pgs_base.specs.declared.value.Kind.TheVariants as kinds
use Rattle.pgs_syntax.specs.declared.resolved.TypeNo.{TypeNo}
use Rattle.pgs_syntax.specs.declared.resolved.TypeNo.TheVariants.{Node, Edge}
use Rattle.pgs_conform.specs.declared.options.Options.{Options}
use Rattle.pgs_differences.specs.declared.difference.Difference.{Difference}
use Rattle.pgs_differences.specs.declared.near_type.NearType.{NearType}
use Rattle.pgs_differences.specs.declared.difference.Difference.TheVariants.{LacksLabel, FurtherLabel, LacksKey, OtherKind, FurtherKey}

-- the word of a kind in the schema language
abbrev pub kind_word : Kind → List ℕ
kind_word kinds.Text = codes "STRING"
kind_word kinds.Int = codes "INT"
kind_word kinds.Bool = codes "BOOL"
kind_word kinds.Date = codes "DATE"

abbrev pub one_where : Bool → Kind → List Kind
one_where may kind = if may then kind ∷ [] else []

-- the kinds that may stand at a key, in the order of kinds
abbrev pub kinds_of : Options → List Kind
kinds_of options =
    one_where options.text kinds.Text ++ (one_where options.int kinds.Int
    ++ (one_where options.boolean kinds.Bool ++ one_where options.date kinds.Date))

-- a kind that follows another
abbrev pub further_kind : Kind → List ℕ
further_kind kind = codes " or " ++ kind_word kind

-- kinds as `STRING or INT`
abbrev pub kinds_text : List Kind → List ℕ
kinds_text [] = []
kinds_text (kind ∷ kinds) = kind_word kind ++ flat_map further_kind kinds

abbrev pub difference_text : Difference → List ℕ
difference_text (LacksLabel label) = codes "lacks label " ++ label
difference_text (FurtherLabel label) = codes "label " ++ (label ++ codes " is not admitted")
difference_text (LacksKey key options) = codes "lacks " ++ (key ++ (codes " " ++ kinds_text (kinds_of options)))
difference_text (OtherKind key kind options) =
    key ++ (codes " is " ++ (kind_word kind ++ (codes ", not " ++ kinds_text (kinds_of options))))
difference_text (FurtherKey key) = key ++ codes " is not admitted"

-- a difference behind the word of the place where it is
abbrev pub placed_text : List ℕ → Difference → List ℕ
placed_text place difference = place ++ difference_text difference

-- the word of an element's own place: none of a node
abbrev pub own_place : TypeNo → List ℕ
own_place (Node number) = []
own_place (Edge number) = codes "edge "

-- the texts of a type's differences: of an edge those of its source, its own, and those of its target
unfoldable pub difference_texts : NearType → List (List ℕ)
difference_texts near =
    map (placed_text (codes "source ")) near.source
    ++ (map (placed_text (own_place near.type_no)) near.own ++ map (placed_text (codes "target ")) near.target)

-- a text that follows another
abbrev pub further_text : List ℕ → List ℕ
further_text text = codes "; " ++ text

abbrev pub separated : List (List ℕ) → List ℕ
separated [] = []
separated (text ∷ texts) = text ++ flat_map further_text texts

-- a type with its differences, as `NAME: lacks label Person; age is STRING, not INT`
unfoldable pub near_type_text : List ℕ → NearType → List ℕ
near_type_text name near = name ++ (codes ": " ++ separated (difference_texts near))
