-- The lines of a dump's operations: each is one line, of at most TEXT_LIMIT bytes, and is read as its operation.
use Rattle.std.proofs.Common.{◌≡◌, ℕ, ◌^◌, ◌≤◌, Bool, true, false, ◌&&◌, leb, List, [], ◌∷◌, length, Ok, decimal, refl, arith}
use Rattle.std.specs.Prelude.{codes}
use Rattle.std.specs.List.{list_all}
use Rattle.std.proofs.lemmas.Bool.{and_parts, and_from, leb-true, le-ltb, ltb-true}
use Rattle.pgs_base.specs.declared.text_limit.TheConstants.{TEXT_LIMIT}
use Rattle.pgs_base.specs.Graph.{is_element_number}
use Rattle.pgs_base.specs.declared.value.Value.{Value}
use Rattle.pgs_base.specs.declared.value.Value.TheVariants as values
use Rattle.pgs_base.specs.Name.{is_name}
use Rattle.pgs_base.specs.Names.{are_names}
use Rattle.pgs_base.specs.Properties.{are_props}
use Rattle.pgs_base.specs.Pair.{is_pair, pair_of}
use Rattle.pgs_base.specs.Value.{is_value}
use Rattle.pgs_run_lines.specs.Input.{has_no_feed, is_blank}
use Rattle.pgs_base_text.specs.Text.{quoted}
use Rattle.pgs_graph.specs.declared.operation.Op.{Op}
use Rattle.pgs_graph.specs.declared.operation.Op.TheVariants.{AddNode, AddEdge, RemoveNode, DetachNode, RemoveEdge, SetNode, UnsetNode, LabelNode, UnlabelNode, SetEdge, UnsetEdge, LabelEdge, UnlabelEdge}
use Rattle.pgs_graph.specs.Operations.{is_well_formed_op}
use Rattle.pgs_json.specs.Canonical.{value_text, props_text, object_text, op_text, text_of_txn}
use Rattle.pgs_run_input.specs.Input.{is_skipped}
use Rattle.pgs_run_input.specs.Answers.{txn_answer}
use Rattle.pgs_run_laws.specs.DumpOps.{IsDumpOp, txn_of_op, line_of_op, AreReadBack}
use Rattle.pgs_run_laws.proofs.LineParts.{IsPart, longer, part_quoted, part_decimal, part_signed, part_day, part_truth, part_name, part_labels, part_between, part_member, part_next}

-- ---- what an operation has

part_id : (n : ℕ) → is_element_number n ≡ true → IsPart (decimal n) 20
part_id n h = part_decimal n (ltb-true n (2 ^ 64) h)

part_value : (value : Value) → is_value value ≡ true → IsPart (value_text value) 393212
part_value (values.Text text) h = part_quoted text 65535 (leb-true (length text) 65535 (and_parts _ (leb (length text) 65535) h).1)
part_value (values.Int number) h = longer 393212 (part_signed number h) (omega arith)
part_value (values.Bool truth) h = longer 393212 (part_truth truth) (omega arith)
part_value (values.Date day) h =
    longer 393212 (part_between 123 125 refl refl (part_member (codes "date") 4 (omega arith) (part_day day))) (omega arith)

part_no_props : (props : List (List ℕ × Value)) → props ≡ [] → IsPart (props_text props) 2
part_no_props props e = rw e (record { line = refl; short = omega arith })

labels_are_names : (labels : List (List ℕ)) (props : List (List ℕ × Value)) → is_pair (pair_of labels props) ≡ true → list_all is_name labels ≡ true
labels_are_names labels props h = (and_parts _ (list_all is_name labels) (and_parts (are_names labels) (are_props props) h).0).1

-- ---- operations

part_set : (key kind : List ℕ) (n : ℕ) (value : Value) → is_name key ≡ true → length kind ≤ 8 → is_element_number n ≡ true → is_value value ≡ true
    → IsPart (object_text ((codes "key", quoted key) ∷ (kind, decimal n) ∷ (codes "value", value_text value) ∷ [])) 400000
part_set key kind n value k short h v =
    longer 400000
    (part_between 123 125 refl refl
    (part_next (part_member (codes "key") 3 (omega arith) (part_name key k))
    (part_next (part_member kind 8 short (part_id n h)) (part_member (codes "value") 5 (omega arith) (part_value value v)))))
    (omega arith)

pub part_op : (op : Op) → IsDumpOp op → IsPart (op_text op) 400000
part_op (AddNode id labels props) is =
    let a = and_parts (is_element_number id.0) (is_pair (pair_of labels props)) is.well_formed in
    longer 400000
    (part_between 123 125 refl refl
    (part_next (part_member (codes "add_node") 8 (omega arith) (part_id id.0 a.0))
    (part_next (part_member (codes "labels") 6 (omega arith) (part_labels labels (labels_are_names labels props a.1) is.form.1))
    (part_member (codes "props") 5 (omega arith) (part_no_props props is.form.0)))))
    (omega arith)
part_op (AddEdge id source target labels props) is =
    let a = and_parts (is_element_number id.0 && is_element_number source.0 && is_element_number target.0) (is_pair (pair_of labels props)) is.well_formed in
    let b = and_parts (is_element_number id.0 && is_element_number source.0) (is_element_number target.0) a.0 in
    let c = and_parts (is_element_number id.0) (is_element_number source.0) b.0 in
    longer 400000
    (part_between 123 125 refl refl
    (part_next (part_member (codes "add_edge") 8 (omega arith) (part_id id.0 c.0))
    (part_next (part_member (codes "from") 4 (omega arith) (part_id source.0 c.1))
    (part_next (part_member (codes "labels") 6 (omega arith) (part_labels labels (labels_are_names labels props a.1) is.form.1))
    (part_next (part_member (codes "props") 5 (omega arith) (part_no_props props is.form.0))
    (part_member (codes "to") 2 (omega arith) (part_id target.0 b.1)))))))
    (omega arith)
part_op (SetNode id key value) is =
    let a = and_parts (is_element_number id.0 && is_name key) (is_value value) is.well_formed in
    let b = and_parts (is_element_number id.0) (is_name key) a.0 in
    part_set key (codes "set_node") id.0 value b.1 (omega arith) b.0 a.1
part_op (SetEdge id key value) is =
    let a = and_parts (is_element_number id.0 && is_name key) (is_value value) is.well_formed in
    let b = and_parts (is_element_number id.0) (is_name key) a.0 in
    part_set key (codes "set_edge") id.0 value b.1 (omega arith) b.0 a.1
part_op (RemoveNode id) is = absurd is.form
part_op (DetachNode id) is = absurd is.form
part_op (RemoveEdge id) is = absurd is.form
part_op (UnsetNode id key) is = absurd is.form
part_op (LabelNode id label) is = absurd is.form
part_op (UnlabelNode id label) is = absurd is.form
part_op (UnsetEdge id key) is = absurd is.form
part_op (LabelEdge id label) is = absurd is.form
part_op (UnlabelEdge id label) is = absurd is.form

-- ---- their lines

pub part_line : (op : Op) → IsDumpOp op → IsPart (line_of_op op) TEXT_LIMIT
unfolding text_of_txn
part_line op is =
    longer TEXT_LIMIT (part_between 123 125 refl refl (part_member (codes "ops") 3 (omega arith) (part_between 91 93 refl refl (part_op op is)))) (omega arith)

-- it is one line
pub op_has_no_feed : (op : Op) → IsDumpOp op → has_no_feed (line_of_op op) ≡ true
op_has_no_feed op is = (part_line op is).line

-- of no more bytes than a transaction line may have
pub op_is_short : (op : Op) → IsDumpOp op → length (line_of_op op) ≤ TEXT_LIMIT
op_is_short op is = (part_line op is).short

and_false : (test : Bool) → (test && false) ≡ false
and_false true = refl
and_false false = refl

-- it begins with a brace
pub op_not_skipped : (op : Op) → is_skipped (line_of_op op) ≡ false
unfolding is_blank text_of_txn
op_not_skipped op = and_false _

-- the empty rest behind the last line feed is skipped
pub rest_is_skipped : is_skipped [] ≡ true
unfolding is_blank
rest_is_skipped = refl

-- it is read as the transaction of its operation
pub op_is_answered : AreReadBack → (op : Op) → IsDumpOp op → txn_answer (line_of_op op) ≡ Ok (txn_of_op op)
unfolding txn_answer
op_is_answered reads op is =
    rw (le-ltb TEXT_LIMIT (length (line_of_op op)) (op_is_short op is), reads (txn_of_op op) (and_from (is_well_formed_op op) true is.well_formed refl)) refl
