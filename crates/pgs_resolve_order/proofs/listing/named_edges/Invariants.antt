use Rattle.std.proofs.Common.{◌≡◌, filter, take}
use Rattle.pgs_syntax.specs.declared.script.Script.{Script}
use Rattle.pgs_resolve_declared.specs.Declarations.{is_edge_type}
use Rattle.pgs_resolve_declared.specs.Tables.{AreOf}
use Rattle.pgs_resolve_order.proofs.listing.named_edges.Given as goal

abbrev pub invariant-loop-word : goal.invariant-loop-word
invariant-loop-word l = (script : Script) → AreOf script l.declarations → l.names.items ≡ filter (is_edge_type script) (take l.word-index l.words)
