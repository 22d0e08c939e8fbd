-- The lines that a run puts, each with its line feed. A parameter `text` is the number and the words of a refusal or violation.
use Rattle.std.specs.Prelude.{ℕ, Bool, true, false, List, ◌++◌, Some, None, codes, decimal}
use Rattle.pgs_base.specs.declared.element.Elem.{Elem}
use Rattle.pgs_base.specs.declared.part.Part.{Part}
use Rattle.pgs_base_text.specs.Text.{elem_text, tuple_text}
use Rattle.pgs_graph.specs.declared.operation.Txn.{Txn}
use Rattle.pgs_json.specs.Canonical.{text_of_txn}

unfoldable pub schema_refused_line : List ℕ → List ℕ
schema_refused_line text = codes "schema refused " ++ (text ++ codes "\n")

-- the same of the second of two schemas
unfoldable pub second_refused_line : List ℕ → List ℕ
second_refused_line text = codes "second schema refused " ++ (text ++ codes "\n")

abbrev pub store_refused_line : List ℕ → List ℕ
store_refused_line text = codes "store refused " ++ (text ++ codes "\n")

unfoldable pub words_refused_line : List ℕ
words_refused_line = codes "words refused 35\n"

unfoldable pub committed_line : ℕ → ℕ → List ℕ
committed_line line commit = decimal line ++ (codes " committed " ++ (decimal commit ++ codes "\n"))

unfoldable pub refused_line : ℕ → List ℕ → List ℕ
refused_line line text = decimal line ++ (codes " refused " ++ (text ++ codes "\n"))

abbrev pub violation_line : List ℕ → List ℕ
violation_line text = codes "violation " ++ (text ++ codes "\n")

abbrev pub loaded_line : ℕ → ℕ → List ℕ
loaded_line types keys = codes "loaded types=" ++ (decimal types ++ (codes " keys=" ++ (decimal keys ++ codes "\n")))

abbrev pub evolved_line : ℕ → ℕ → List ℕ
evolved_line types keys = codes "evolved types=" ++ (decimal types ++ (codes " keys=" ++ (decimal keys ++ codes "\n")))

abbrev pub evolve_refused_line : List ℕ → List ℕ
evolve_refused_line text = codes "evolve refused " ++ (text ++ codes "\n")

-- a feed that can't be followed further
unfoldable pub feed_refused_line : List ℕ → List ℕ
feed_refused_line text = codes "refused " ++ (text ++ codes "\n")

-- how many commits of a feed were followed, and how many bytes stand behind its last line feed
unfoldable pub followed_line : ℕ → ℕ → List ℕ
followed_line commits rest = codes "followed commits=" ++ (decimal commits ++ (codes " rest=" ++ (decimal rest ++ codes "\n")))

abbrev pub feeds_lost_line : ℕ → List ℕ
feeds_lost_line lost = codes "feeds lost=" ++ (decimal lost ++ codes "\n")

-- a committed transaction as the feeds get it, with the number of its commit
abbrev pub feed_line : Txn → ℕ → List ℕ
feed_line txn commit = text_of_txn txn (Some commit) ++ codes "\n"

-- a transaction as a dump has it
abbrev pub txn_line : Txn → List ℕ
txn_line txn = text_of_txn txn None ++ codes "\n"

abbrev pub schema_line : List ℕ → List ℕ
schema_line schema = schema ++ codes "\n"

abbrev pub separator_line : List ℕ
separator_line = codes "---\n"

-- an abstract type is told apart
abbrev pub type_line : Bool → List ℕ → List ℕ
type_line false name = codes "type " ++ (name ++ codes "\n")
type_line true name = codes "abstract " ++ (name ++ codes "\n")

abbrev pub key_scope_line : ℕ → List ℕ
key_scope_line key = codes "key " ++ (decimal key ++ codes " scope\n")

abbrev pub key_value_line : ℕ → List Part → List ℕ
key_value_line key tuple = codes "key " ++ (decimal key ++ (codes " value " ++ (tuple_text tuple ++ codes "\n")))

abbrev pub absent_line : Elem → List ℕ
absent_line elem = elem_text elem ++ codes " is not in the graph\n"

-- how many nodes and edges there are, and how many edges come in at node 1
abbrev pub graph_counts : ℕ → ℕ → ℕ → List ℕ
graph_counts nodes edges in1 = codes " nodes=" ++ (decimal nodes ++ (codes " edges=" ++ (decimal edges ++ (codes " in1=" ++ decimal in1))))

abbrev pub gen_line : ℕ → ℕ → ℕ → ℕ → ℕ → List ℕ
gen_line committed refused nodes edges in1 =
    codes "gen committed=" ++ (decimal committed ++ (codes " refused=" ++ (decimal refused ++ (graph_counts nodes edges in1 ++ codes "\n"))))

abbrev pub checkpoint_line : ℕ → ℕ → List ℕ
checkpoint_line epoch commits = codes "checkpoint epoch=" ++ (decimal epoch ++ (codes " commits=" ++ (decimal commits ++ codes "\n")))

-- a type that is contained in another schema, and one that isn't, with a transaction that adds what is outside
unfoldable pub contained_line : List ℕ → List ℕ
contained_line name = codes "contained " ++ (name ++ codes "\n")

unfoldable pub outside_line : List ℕ → Txn → List ℕ
outside_line name txn = codes "outside " ++ (name ++ (codes " " ++ (text_of_txn txn None ++ codes "\n")))
