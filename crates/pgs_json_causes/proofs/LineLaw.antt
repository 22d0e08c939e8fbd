-- A line has a cause exactly where it is no transaction.
use Rattle.std.proofs.Common.{◌≡◌, ℕ, Bool, true, false, not, cond, List, Option, Some, None, is_some, option_and_then, refl, sym, ap, subst, ◌∙◌}
use Rattle.std.specs.Str.{is_utf8, IsUtf8}
use Rattle.std.proofs.lemmas.Str.{is_utf8-from_IsUtf8, IsUtf8-from_is_utf8}
use Rattle.serde_json.specs.Data.{Data}
use Rattle.serde_json.specs.Read.{read}
use Rattle.pgs_json.specs.Form.{form}
use Rattle.pgs_json.specs.Line.{txn_of}
use Rattle.pgs_json_causes.specs.Byte.{IsByteCause}
use Rattle.pgs_json_causes.specs.LineCause.{value_in, IsCauseWith, IsLineCause}
use Rattle.pgs_json_causes.proofs.TreeLaw.{tree_law}

gated : (b : Bool) (o : Option Data) → cond b (option_and_then form o) None ≡ option_and_then form (cond b o None)
gated true o = refl
gated false o = refl

txn_in : (line : List ℕ) → txn_of line ≡ option_and_then form (value_in line)
unfolding txn_of value_in
txn_in line = gated (is_utf8 line) (read line)

told_with : (line : List ℕ) (value : Option Data) (found : Option (List ℕ)) → IsCauseWith line value found → is_some found ≡ not (is_some (option_and_then form value))
told_with line None found h = ap is_some h.1
told_with line (Some d) found h = ap is_some h ∙ tree_law d

pub told_line : (line : List ℕ) (found : Option (List ℕ)) → IsLineCause line found → is_some found ≡ not (is_some (txn_of line))
told_line line found h = told_with line (value_in line) found h ∙ ap (λ o. not (is_some o)) (sym (txn_in line))

-- the value of a line that is a text, and of one that isn't
pub value_in_text : (line : List ℕ) → IsUtf8 line → value_in line ≡ read line
unfolding value_in
value_in_text line utf8 = rw (is_utf8-from_IsUtf8 line utf8) refl

none_by : (line : List ℕ) (b : Bool) → is_utf8 line ≡ b → (IsUtf8 line → ⊥) → value_in line ≡ None
unfolding value_in
none_by line true e h = absurd (h (IsUtf8-from_is_utf8 line e))
none_by line false e h = rw e refl

pub value_in_none : (line : List ℕ) → (IsUtf8 line → ⊥) → value_in line ≡ None
value_in_none line h = none_by line (is_utf8 line) refl h

pub told_text : (line text : List ℕ) (found : Option (List ℕ)) → text ≡ line → IsUtf8 line → IsCauseWith text (read text) found → IsLineCause line found
told_text line text found same utf8 h =
    rw (value_in_text line utf8) (let P : List ℕ → Type 0 = λ bytes. IsCauseWith bytes (read bytes) found in subst P same h)

pub told_bytes : (line text : List ℕ) → (IsUtf8 line → ⊥) → IsByteCause line text → IsLineCause line (Some text)
told_bytes line text h told = rw (value_in_none line h) (text, refl, told)
