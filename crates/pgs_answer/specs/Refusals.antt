-- The number and the words of each refusal and violation. Numbers are plain decimals.
use Rattle.std.specs.Prelude.{ℕ, List, ◌++◌, codes, decimal}
use Rattle.pgs_base.specs.declared.element.Elem.{Elem}
use Rattle.pgs_base.specs.declared.element.Elem.TheVariants.{Node, Edge}
use Rattle.pgs_base.specs.declared.limits.Limits.{Limits}
use Rattle.pgs_base.specs.declared.text_limit.TheConstants.{TEXT_LIMIT}
use Rattle.pgs_base_text.specs.Text.{elem_text, tuple_text}
use Rattle.pgs_syntax.specs.declared.key_cause.KeyCause.{KeyCause}
use Rattle.pgs_syntax.specs.declared.key_cause.KeyCause.TheVariants.{NoX, TwoKinds, Shared, Disconnected, UnknownVariable, TooLarge}
use Rattle.pgs_violation.specs.declared.structural.Cause.{Cause}
use Rattle.pgs_violation.specs.declared.structural.Cause.TheVariants.{AlreadyThere, NoNode, NoEdge, HasEdges}
use Rattle.pgs_violation.specs.declared.structural.Structural.{Structural}
use Rattle.pgs_violation.specs.declared.structural.Structural.TheVariants.{TooManyOps, BadOp, ElementTooLarge, TooManyElements}
use Rattle.pgs_violation.specs.declared.violation.Violation.{Violation}
use Rattle.pgs_violation.specs.declared.violation.Violation.TheVariants.{UntypedNode, UntypedEdge, Mandatory, Singleton, Exclusive, CountOutside}
use Rattle.pgs_violation.specs.declared.rejection.Rejection.{Rejection}
use Rattle.pgs_violation.specs.declared.rejection.Rejection.TheVariants.{Structural as ByStructure, Violation as ByViolation}

-- ---- of a schema

abbrev pub lex_text : ℕ → List ℕ
lex_text line = codes "10 line " ++ decimal line

abbrev pub syntax_text : ℕ → List ℕ
syntax_text statement = codes "11 statement " ++ decimal statement

abbrev pub no_graph_type_text : List ℕ
no_graph_type_text = codes "12 no graph type"

abbrev pub duplicate_text : List ℕ → List ℕ
duplicate_text name = codes "13 " ++ (name ++ codes " is declared twice")

abbrev pub unknown_text : List ℕ → List ℕ
unknown_text name = codes "14 " ++ (name ++ codes " is not declared")

abbrev pub kind_text : List ℕ → List ℕ
kind_text name = codes "15 " ++ (name ++ codes " has the wrong kind")

abbrev pub cycle_text : List ℕ → List ℕ
cycle_text name = codes "16 " ++ (name ++ codes " is on a cycle")

abbrev pub too_wide_text : List ℕ → List ℕ
too_wide_text name = codes "17 type " ++ (name ++ codes " is too wide")

abbrev pub key_cause_words : KeyCause → List ℕ
key_cause_words NoX = codes "no scope variable"
key_cause_words TwoKinds = codes "variable of two kinds"
key_cause_words Shared = codes "shared variable"
key_cause_words Disconnected = codes "disconnected pattern"
key_cause_words UnknownVariable = codes "unknown variable"
key_cause_words TooLarge = codes "pattern too large"

abbrev pub bad_key_text : ℕ → KeyCause → List ℕ
bad_key_text key cause = codes "18 key " ++ (decimal key ++ (codes ": " ++ key_cause_words cause))

abbrev pub too_long_text : List ℕ
too_long_text = codes "19 text is longer than " ++ (decimal TEXT_LIMIT ++ codes " bytes")

-- ---- of a transaction

abbrev pub unreadable_text : List ℕ
unreadable_text = codes "20 line is not a transaction"

abbrev pub line_too_long_text : List ℕ
line_too_long_text = codes "21 line is longer than " ++ (decimal TEXT_LIMIT ++ codes " bytes")

abbrev pub cause_words : Cause → List ℕ
cause_words (AlreadyThere elem) = elem_text elem ++ codes " is already there"
cause_words (NoNode node) = codes "no node " ++ elem_text (Node node)
cause_words (NoEdge edge) = codes "no edge " ++ elem_text (Edge edge)
cause_words (HasEdges node edge) = elem_text (Node node) ++ (codes " still has edge " ++ elem_text (Edge edge))

abbrev pub bad_op_text : ℕ → Cause → List ℕ
bad_op_text op cause = codes "23 op " ++ (decimal op ++ (codes ": " ++ cause_words cause))

abbrev pub too_large_text : ℕ → List ℕ
too_large_text op = codes "38 op " ++ (decimal op ++ codes ": more than 64 labels or 256 properties")

abbrev pub structural_text : Structural → Limits → List ℕ
structural_text (TooManyOps count) limits = codes "22 " ++ (decimal count ++ (codes " operations, at most " ++ decimal limits.ops))
structural_text (BadOp op cause) limits = bad_op_text op cause
structural_text (TooManyElements count) limits =
    codes "24 " ++ (decimal count ++ (codes " elements, at most " ++ decimal limits.elements))
structural_text (ElementTooLarge op) limits = too_large_text op

-- ---- of a graph

abbrev pub violation_text : Violation → List ℕ
violation_text (UntypedNode node) = codes "25 node " ++ (elem_text (Node node) ++ codes " fits no type")
violation_text (UntypedEdge edge) = codes "26 edge " ++ (elem_text (Edge edge) ++ codes " fits no type")
violation_text (Mandatory key elem) = codes "27 key " ++ (decimal key ++ (codes ": " ++ (elem_text elem ++ codes " has no key value")))
violation_text (Singleton key elem first second) =
    codes "28 key " ++ (decimal key ++ (codes ": " ++ (elem_text elem ++ (codes " has "
    ++ (tuple_text first ++ (codes " and " ++ tuple_text second))))))
violation_text (Exclusive key first second tuple) =
    codes "29 key " ++ (decimal key ++ (codes ": " ++ (elem_text first ++ (codes " and "
    ++ (elem_text second ++ (codes " share " ++ tuple_text tuple))))))
violation_text (CountOutside key elem count least most) =
    codes "39 key " ++ (decimal key ++ (codes ": " ++ (elem_text elem ++ (codes " has "
    ++ (decimal count ++ (codes " values, outside " ++ (decimal least ++ (codes ".." ++ decimal most))))))))

abbrev pub rejection_text : Rejection → Limits → List ℕ
rejection_text (ByStructure structural) limits = structural_text structural limits
rejection_text (ByViolation violation) limits = violation_text violation

-- ---- of a store

abbrev pub no_store_text : List ℕ
no_store_text = codes "30 no store"

abbrev pub already_store_text : List ℕ
already_store_text = codes "31 a store is there"

abbrev pub foreign_text : List ℕ
foreign_text = codes "32 another program's file"

abbrev pub bad_record_text : ℕ → List ℕ
bad_record_text number = codes "33 record " ++ (decimal number ++ codes " is damaged")

abbrev pub bad_history_text : ℕ → Rejection → Limits → List ℕ
bad_history_text number rejection limits = codes "34 record " ++ (decimal number ++ (codes ": " ++ rejection_text rejection limits))

abbrev pub epochs_spent_text : List ℕ
epochs_spent_text = codes "37 no epoch is left"

abbrev pub old_format_text : List ℕ
old_format_text = codes "41 format 1, make a checkpoint first"

-- ---- of an event of a session

abbrev pub already_open_text : ℕ → List ℕ
already_open_text session = codes "42 session " ++ (decimal session ++ codes " is open")

abbrev pub no_session_text : ℕ → List ℕ
no_session_text session = codes "43 no session " ++ decimal session

abbrev pub stale_text : Elem → ℕ → List ℕ
stale_text elem commit = codes "44 " ++ (elem_text elem ++ (codes " changed at commit " ++ decimal commit))

abbrev pub too_many_text : ℕ → List ℕ
too_many_text sessions = codes "45 " ++ (decimal sessions ++ codes " sessions are open")

abbrev pub no_event_text : List ℕ
no_event_text = codes "46 line is not an event"

-- ---- of a feed

abbrev pub line_too_long_at_text : ℕ → List ℕ
line_too_long_at_text line = codes "47 line " ++ (decimal line ++ codes " is too long")

abbrev pub not_a_commit_text : ℕ → List ℕ
not_a_commit_text line = codes "48 line " ++ (decimal line ++ codes " is not a commit")

abbrev pub gap_text : ℕ → ℕ → List ℕ
gap_text expected found = codes "49 expected " ++ (decimal expected ++ (codes ", found " ++ decimal found))

abbrev pub bad_commit_text : ℕ → Structural → Limits → List ℕ
bad_commit_text commit cause limits = codes "50 commit " ++ (decimal commit ++ (codes ": " ++ structural_text cause limits))
