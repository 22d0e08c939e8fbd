-- The commit of a line that is a text, and of one that isn't; and that the canonical text of a commit is read as this commit.
use Rattle.std.proofs.Common.{◌≡◌, ℕ, ◌^◌, ◌<◌, ◌≤◌, Bool, true, false, List, [], ◌∷◌, map, length, Some, None, Ok, decimal, option_and_then, refl, ◌∙◌, arith}
use Rattle.std.specs.Prelude.{codes}
use Rattle.std.specs.Str.{is_utf8, IsUtf8}
use Rattle.std.proofs.lemmas.Bool.{le-ltb, lt-ltb}
use Rattle.std.proofs.lemmas.Str.{is_utf8-from_IsUtf8, IsUtf8-from_is_utf8}
use Rattle.serde_json.specs.Data.{Data, object, member, no_members, array}
use Rattle.serde_json.specs.Read.{read}
use Rattle.serde_json.specs.View.{items_of}
use Rattle.pgs_graph.specs.declared.operation.Op.{Op}
use Rattle.pgs_graph.specs.declared.operation.Txn.{Txn}
use Rattle.pgs_graph.specs.Operations.{is_well_formed_txn}
use Rattle.pgs_json.specs.Canonical.{op_text, ops_text, text_of_txn}
use Rattle.pgs_json.specs.declared.commit.TheConstants.{COMMIT_LIMIT}
use Rattle.pgs_json.specs.Commit.{commit_form, commit_of, read_commit_line}
use Rattle.pgs_json.specs.Form.{ops_of}
use Rattle.pgs_json.proofs.Spelt.{Spelt, deeper, read_spelt, spelt_list}
use Rattle.pgs_json.proofs.Parts.{spelt_parts}
use Rattle.pgs_json.proofs.WrittenRead.{ascii, id_data, spelt_id, op_data, all_ops, ops_read}

-- ---- a line that is a text, and one that isn't

pub line_text : (line : List ℕ) → IsUtf8 line → commit_of line ≡ option_and_then commit_form (read line)
unfolding commit_of
line_text line utf8 = rw (is_utf8-from_IsUtf8 line utf8) refl

line_none_by : (line : List ℕ) (b : Bool) → is_utf8 line ≡ b → (IsUtf8 line → ⊥) → commit_of line ≡ None
unfolding commit_of
line_none_by line true e h = absurd (h (IsUtf8-from_is_utf8 line e))
line_none_by line false e h = rw e refl

pub line_none : (line : List ℕ) → (IsUtf8 line → ⊥) → commit_of line ≡ None
line_none line h = line_none_by line (is_utf8 line) refl h

-- ---- what was written is read

abbrev commit_data : ℕ → List Op → Data
commit_data n ops = object (member (codes "commit") (id_data n) (member (codes "ops") (array (items_of (map op_data ops))) no_members))

spelt_commit : (txn : Txn) (n : ℕ) → is_well_formed_txn txn ≡ true → n < 2 ^ 64 → Spelt (text_of_txn txn (Some n)) (commit_data n txn.ops) 5
unfolding text_of_txn
spelt_commit txn n h small =
    spelt_parts 4
    ((codes "commit", decimal n, id_data n) ∷ (codes "ops", ops_text txn, array (items_of (map op_data txn.ops))) ∷ []) (
      (ascii (codes "commit") refl, spelt_id 4 n small),
      ((ascii (codes "ops") refl, spelt_list op_text op_data 3 txn.ops (all_ops txn.ops h)), tt),
    )

form_read : (txn : Txn) (n : ℕ) → is_well_formed_txn txn ≡ true → 0 < n → commit_form (commit_data n txn.ops) ≡ Some (n, txn)
unfolding commit_form ops_of
form_read txn n h from_one = rw (lt-ltb 0 n from_one, ops_read txn.ops h) refl

commit_of_spelt : (text : List ℕ) (d : Data) → Spelt text d 5 → commit_of text ≡ commit_form d
unfolding commit_of
commit_of_spelt text d s = rw (is_utf8-from_IsUtf8 text s.utf8, read_spelt text d (deeper _ _ 5 127 s (omega arith))) refl

pub written_commit : (txn : Txn) (n : ℕ) → is_well_formed_txn txn ≡ true → 0 < n → n < 2 ^ 64 → commit_of (text_of_txn txn (Some n)) ≡ Some (n, txn)
written_commit txn n h from_one small =
    commit_of_spelt (text_of_txn txn (Some n)) (commit_data n txn.ops) (spelt_commit txn n h small) ∙ form_read txn n h from_one

pub written_commit_line : (txn : Txn) (n : ℕ) → is_well_formed_txn txn ≡ true → 0 < n → n < 2 ^ 64 → length (text_of_txn txn (Some n)) ≤ COMMIT_LIMIT →
    read_commit_line (text_of_txn txn (Some n)) ≡ Ok (n, txn)
unfolding read_commit_line
written_commit_line txn n h from_one small short =
    rw (le-ltb COMMIT_LIMIT (length (text_of_txn txn (Some n))) short, written_commit txn n h from_one small) refl
