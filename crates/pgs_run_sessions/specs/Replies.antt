-- The line of a reply, and whether it is a refusal. It begins with the number of the event's line.
use Rattle.std.specs.Prelude.{ℕ, Bool, true, false, List, [], ◌∷◌, ◌++◌, Option, Some, None, codes, decimal}
use Rattle.pgs_base.specs.declared.element.Elem.{Elem}
use Rattle.pgs_base.specs.declared.element.Elem.TheVariants as elems
use Rattle.pgs_graph.specs.declared.operation.Op.{Op}
use Rattle.pgs_graph.specs.declared.operation.Op.TheVariants.{AddNode, AddEdge}
use Rattle.pgs_answer.specs.Lines.{absent_line, committed_line, refused_line, txn_line}
use Rattle.pgs_answer.specs.Refusals.{already_open_text, no_session_text, rejection_text, stale_text, too_many_text}
use Rattle.pgs_run_input.specs.Session.{standard}
use Rattle.pgs_sessions_machine.specs.declared.event.Content.{Content}
use Rattle.pgs_sessions_machine.specs.declared.event.Content.TheVariants.{Node, Edge}
use Rattle.pgs_sessions_machine.specs.declared.event.Event.{Event}
use Rattle.pgs_sessions_machine.specs.declared.event.Event.TheVariants.{Begin, Read, Stage, Commit, Abort}
use Rattle.pgs_sessions_machine.specs.declared.event.Reply.{Reply}
use Rattle.pgs_sessions_machine.specs.declared.event.Reply.TheVariants as replies
use Rattle.pgs_sessions_machine.specs.Machine.{number_of}

-- a line of a word and a number
abbrev pub word_line : ℕ → List ℕ → ℕ → List ℕ
word_line line word number = decimal line ++ (word ++ (decimal number ++ codes "\n"))

-- the operation that adds an element, where there is one
abbrev pub adding : Elem → Content → Option Op
adding (elems.Node id) (Node row) = Some (AddNode id row.labels row.props)
adding (elems.Edge id) (Edge row) = Some (AddEdge id row.source row.target row.labels row.props)
adding elem content = None

-- an element that was read: the transaction that adds it, or that it is absent
abbrev pub read_text : Elem → Option Op → List ℕ
read_text elem None = absent_line elem
read_text elem (Some op) = txn_line (record { ops = op ∷ [] })

-- the content of the element that an event reads; no other event is answered with content
abbrev pub content_text : Option Elem → Content → List ℕ
content_text None content = codes "\n"
content_text (Some elem) content = read_text elem (adding elem content)

-- the element that an event reads
abbrev pub elem_read : Event → Option Elem
elem_read (Begin session) = None
elem_read (Read session elem) = Some elem
elem_read (Stage session txn) = None
elem_read (Commit session) = None
elem_read (Abort session) = None

-- the line of a reply to the event of a session
unfoldable pub reply_line : ℕ → ℕ → Option Elem → Reply → List ℕ
reply_line line session elem replies.Began = word_line line (codes " began ") session
reply_line line session elem (replies.Content content) = decimal line ++ (codes " " ++ content_text elem content)
reply_line line session elem (replies.Staged count) = word_line line (codes " staged ") count
reply_line line session elem (replies.Committed commit) = committed_line line commit
reply_line line session elem replies.Aborted = word_line line (codes " aborted ") session
reply_line line session elem (replies.Rejected rejection) = refused_line line (rejection_text rejection standard)
reply_line line session elem replies.AlreadyOpen = refused_line line (already_open_text session)
reply_line line session elem replies.NoSession = refused_line line (no_session_text session)
reply_line line session elem (replies.Stale changed commit) = refused_line line (stale_text changed commit)
reply_line line session elem replies.TooManySessions = refused_line line (too_many_text 1000)

-- the line of a reply to an event
abbrev pub line_of : ℕ → Event → Reply → List ℕ
line_of line event reply = reply_line line (number_of event) (elem_read event) reply

-- whether a reply is a refusal
abbrev pub is_refusal : Reply → Bool
is_refusal replies.Began = false
is_refusal (replies.Content content) = false
is_refusal (replies.Staged count) = false
is_refusal (replies.Committed commit) = false
is_refusal replies.Aborted = false
is_refusal (replies.Rejected rejection) = true
is_refusal replies.AlreadyOpen = true
is_refusal replies.NoSession = true
is_refusal (replies.Stale elem commit) = true
is_refusal replies.TooManySessions = true
