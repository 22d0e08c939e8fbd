use Rattle.std.proofs.Common.{[], ◌∷◌, codes, map, refl}
use Rattle.pgs_parser.specs.Samples as texts
use Rattle.pgs_syntax.proofs.Members.{contains_first, contains_none}
use Rattle.pgs_resolve_declared.specs.Declarations.{nodes_of}
use Rattle.pgs_resolve_declared.specs.Order.{node_entry}
use Rattle.pgs_resolve.proofs.Listing.{next_at}
use Rattle.pgs_resolve.proofs.samples.lists.Goals as goal

pub returns-clause-first : goal.returns-clause-first
returns-clause-first c =
    next_at (map (node_entry texts.backwards_script) (nodes_of texts.backwards_script)) 3 [] (codes "a") (codes "b" ∷ codes "c" ∷ []) refl

pub returns-clause-last : goal.returns-clause-last
returns-clause-last c =
    next_at (map (node_entry texts.backwards_script) (nodes_of texts.backwards_script)) 3 (codes "a" ∷ codes "b" ∷ []) (codes "c") [] refl

pub returns-clause-not_before : goal.returns-clause-not_before
returns-clause-not_before c = λ can. contains_none (codes "a") (can.behind (codes "a") (contains_first (codes "a") []))
