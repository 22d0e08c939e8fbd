-- Items joined by commas, as they are written one after the other, and the pieces of a transaction's text.
use Rattle.std.proofs.Common.{◌≡◌, ℕ, List, [], ◌∷◌, ◌++◌, map, flat_map, Option, Some, None, decimal, refl, sym, ap, ◌∙◌, append_assoc, append-nil}
use Rattle.std.specs.Prelude.{codes}
use Rattle.std.specs.List.{join_with_byte}
use Rattle.pgs_base.specs.declared.value.Value.{Value}
use Rattle.pgs_base.specs.declared.element.NodeId.{NodeId}
use Rattle.pgs_base.specs.declared.element.EdgeId.{EdgeId}
use Rattle.pgs_base_text.specs.Text.{quoted}
use Rattle.pgs_graph.specs.declared.operation.Op.TheVariants.{AddNode, AddEdge, SetNode, SetEdge}
use Rattle.pgs_graph.specs.declared.operation.Txn.{Txn}
use Rattle.pgs_json.specs.Canonical.{member_text, pair_text, labels_text, props_text, value_text, op_text, ops_text, text_of_txn}
use Rattle.pgs_json.specs.Pieces.{further, listed, prop_text, pair_part, named_text, front_text}

joined_more : {A : Type 0} (text : A → List ℕ) (x : A) (xs : List A) → join_with_byte 44 (map text (x ∷ xs)) ≡ text x ++ flat_map (further text) xs
joined_more text x [] = sym (append-nil _)
joined_more text x (y ∷ xs) = ap (λ l. text x ++ 44 ∷ l) (joined_more text y xs)

pub joined : {A : Type 0} (text : A → List ℕ) (xs : List A) → join_with_byte 44 (map text xs) ≡ listed text xs
joined text [] = refl
joined text (x ∷ xs) = joined_more text x xs

pub labels_listed : (labels : List (List ℕ)) → labels_text labels ≡ codes "[" ++ (listed quoted labels ++ codes "]")
labels_listed labels = ap (λ l. codes "[" ++ (l ++ codes "]")) (joined quoted labels)

two_maps : (props : List (List ℕ × Value)) → map member_text (map pair_text props) ≡ map prop_text props
two_maps [] = refl
two_maps (p ∷ ps) = ap (λ l. prop_text p ∷ l) (two_maps ps)

pub props_listed : (props : List (List ℕ × Value)) → props_text props ≡ codes "{" ++ (listed prop_text props ++ codes "}")
props_listed props = ap (λ l. codes "{" ++ (l ++ codes "}")) (ap (join_with_byte 44) (two_maps props) ∙ joined prop_text props)

pub ops_listed : (txn : Txn) → ops_text txn ≡ codes "[" ++ (listed op_text txn.ops ++ codes "]")
ops_listed txn = ap (λ l. codes "[" ++ (l ++ codes "]")) (joined op_text txn.ops)

-- ---- pieces that are pushed one after the other

pub two_pieces : (old a b one two : List ℕ) → one ≡ old ++ a → two ≡ one ++ b → two ≡ old ++ (a ++ b)
two_pieces old a b one two e f = f ∙ ap (λ t. t ++ b) e ∙ append_assoc old a b

pub three_pieces : (old a b c one two three : List ℕ) → one ≡ old ++ a → two ≡ one ++ b → three ≡ two ++ c → three ≡ old ++ (a ++ (b ++ c))
three_pieces old a b c one two three e f g = two_pieces old (a) (b ++ c) one three e (two_pieces one b c two three f g)

pub four_pieces : (old a b c d one two three four : List ℕ) → one ≡ old ++ a → two ≡ one ++ b → three ≡ two ++ c → four ≡ three ++ d
    → four ≡ old ++ (a ++ (b ++ (c ++ d)))
four_pieces old a b c d one two three four e f g h =
    two_pieces old a (b ++ (c ++ d)) one four e (three_pieces one b c d two three four f g h)

pub five_pieces : (old a b c d e one two three four five : List ℕ) → one ≡ old ++ a → two ≡ one ++ b → three ≡ two ++ c → four ≡ three ++ d
    → five ≡ four ++ e → five ≡ old ++ (a ++ (b ++ (c ++ (d ++ e))))
five_pieces old a b c d e one two three four five p q r s t =
    two_pieces old a (b ++ (c ++ (d ++ e))) one five p (four_pieces one b c d e two three four five q r s t)

-- ---- the texts of operations by these pieces

pub add_node_text : (id : NodeId) (labels : List (List ℕ)) (props : List (List ℕ × Value))
    → (codes "{\"add_node\":" ++ decimal id.0) ++ (pair_part labels props ++ codes "}") ≡ op_text (AddNode id labels props)
unfolding quoted
add_node_text id labels props = ap (λ l. codes "{\"add_node\":" ++ l) (sym (append_assoc (decimal id.0) (pair_part labels props) (codes "}")))

edge_pieces : (d f s la L lp P lt t e : List ℕ)
    → d ++ ((f ++ s) ++ ((la ++ (L ++ (lp ++ P))) ++ ((lt ++ t) ++ e))) ≡ (d ++ (f ++ (s ++ (la ++ (L ++ (lp ++ (P ++ (lt ++ t)))))))) ++ e
edge_pieces d f s la L lp P lt t e = simp append_assoc

pub add_edge_text : (id : EdgeId) (source target : NodeId) (labels : List (List ℕ)) (props : List (List ℕ × Value))
    → (codes "{\"add_edge\":" ++ decimal id.0)
    ++ ((codes ",\"from\":" ++ decimal source.0) ++ (pair_part labels props ++ ((codes ",\"to\":" ++ decimal target.0) ++ codes "}")))
    ≡ op_text (AddEdge id source target labels props)
unfolding quoted
add_edge_text id source target labels props =
    ap (λ l. codes "{\"add_edge\":" ++ l)
    (edge_pieces (decimal id.0) (codes ",\"from\":") (decimal source.0) (codes ",\"labels\":") (labels_text labels) (codes ",\"props\":")
    (props_text props) (codes ",\"to\":") (decimal target.0) (codes "}"))

set_pieces : (q k d v w e : List ℕ) → (q ++ (k ++ d)) ++ (v ++ (w ++ e)) ≡ (q ++ (k ++ (d ++ (v ++ w)))) ++ e
set_pieces q k d v w e = simp append_assoc

pub set_node_text : (id : NodeId) (key : List ℕ) (value : Value)
    → named_text (codes "{\"key\":") key (codes ",\"set_node\":") id.0 ++ (codes ",\"value\":" ++ (value_text value ++ codes "}")) ≡ op_text (SetNode id key value)
unfolding quoted
set_node_text id key value =
    ap (λ l. codes "{\"key\":" ++ l)
    (set_pieces (quoted key) (codes ",\"set_node\":") (decimal id.0) (codes ",\"value\":") (value_text value) (codes "}"))

pub set_edge_text : (id : EdgeId) (key : List ℕ) (value : Value)
    → named_text (codes "{\"key\":") key (codes ",\"set_edge\":") id.0 ++ (codes ",\"value\":" ++ (value_text value ++ codes "}")) ≡ op_text (SetEdge id key value)
unfolding quoted
set_edge_text id key value =
    ap (λ l. codes "{\"key\":" ++ l)
    (set_pieces (quoted key) (codes ",\"set_edge\":") (decimal id.0) (codes ",\"value\":") (value_text value) (codes "}"))

commit_pieces : (d f ops e : List ℕ) → (d ++ f) ++ (ops ++ e) ≡ (d ++ (f ++ ops)) ++ e
commit_pieces d f ops e = simp append_assoc

pub txn_text : (txn : Txn) (commit : Option ℕ) → front_text commit ++ (ops_text txn ++ codes "}") ≡ text_of_txn txn commit
unfolding text_of_txn quoted
txn_text txn None = refl
txn_text txn (Some commit) =
    ap (λ l. codes "{\"commit\":" ++ l) (commit_pieces (decimal commit) (codes ",\"ops\":") (ops_text txn) (codes "}"))
