-- Names, and braces without OPEN.
use Rattle.std.proofs.Common.{◌≡◌, ℕ, Bool, true, false, ◌||◌, List, [], ◌∷◌, None, Some, refl, sym, ◌∙◌, ap, cond, true≢false}
use Rattle.std.specs.List.{list_all}
use Rattle.std.proofs.lemmas.Bool.{and_parts}
use Rattle.std.proofs.lemmas.Map.Text.{is_eq-slice_cmp}
use Rattle.std.proofs.lemmas.Slice.Eq.{bytes_eq-Decides}
use Rattle.pgs_base.specs.declared.value.Value.{Value}
use Rattle.pgs_base.specs.Pair.{same_name, value_at}
use Rattle.pgs_syntax.specs.declared.specification.Property.{Property}
use Rattle.pgs_syntax.specs.Fitting.{is_named_by}

pub one_name : (a b : List ℕ) → same_name a b ≡ true → a ≡ b
one_name a b same = (bytes_eq-Decides a b).0 (sym (is_eq-slice_cmp a b) ∙ same)

-- a key that no entry may have is absent
pub absent_unnamed : (properties : List Property) (key : List ℕ) (props : List (List ℕ × Value)) →
    list_all (λ (entry : List ℕ × Value). false || is_named_by properties entry.0) props ≡ true →
    is_named_by properties key ≡ false → value_at key props ≡ None
absent_unnamed properties key [] all unnamed = refl
absent_unnamed properties key (entry ∷ props) all unnamed =
    here (same_name key entry.0) refl (λ later. absent_unnamed properties key props later unnamed)
  where
    parts : (is_named_by properties entry.0 ≡ true) × (list_all (λ (later : List ℕ × Value). false || is_named_by properties later.0) props ≡ true)
    parts = and_parts _ _ all

    here : (b : Bool) → same_name key entry.0 ≡ b →
        (list_all (λ (later : List ℕ × Value). false || is_named_by properties later.0) props ≡ true → value_at key props ≡ None) →
        cond b (Some entry.1) (value_at key props) ≡ None
    here true same rest = absurd (true≢false (sym parts.0 ∙ ap (is_named_by properties) (sym (one_name key entry.0 same)) ∙ unnamed))
    here false other rest = rest parts.1
