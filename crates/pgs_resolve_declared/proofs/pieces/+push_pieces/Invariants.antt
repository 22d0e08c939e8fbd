use Rattle.std.proofs.Common.{◌≡◌, ◌++◌, map, take}
use Rattle.std.specs.List.{flat_map}
use Rattle.pgs_resolve_declared.specs.Declarations.{pieces_of}
use Rattle.pgs_resolve_declared.proofs.pieces.+push_pieces.Given as goal

abbrev pub invariant-loop-part : goal.invariant-loop-part
invariant-loop-part l =
    map (λ piece. piece.now) l.pieces.items
    ≡ map (λ piece. piece.now) l.fn.pieces.items ++ flat_map pieces_of (take l.part-index l.part-items)
