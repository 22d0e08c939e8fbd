-- A JSON value has a cause exactly where it is no transaction.
use Rattle.std.proofs.Common.{◌≡◌, ℕ, suc, Bool, true, false, not, ◌&&◌, ◌||◌, cond, List, [], ◌∷◌, Option, Some, None, is_some, option_map, option_and_then, refl, sym, ap, ◌∙◌}
use Rattle.std.specs.Prelude.{codes, bytes_eq}
use Rattle.std.specs.List.{find, list_any, list_all}
use Rattle.std.specs.Option.{option_or}
use Rattle.serde_json.specs.Data.{Data, null, boolean, number, string, array, object, Items, no_items, item, Members, no_members, member}
use Rattle.serde_json.specs.Find.{as_array, as_object, get_member}
use Rattle.pgs_json.specs.declared.kind.Kind.{Kind}
use Rattle.pgs_json.specs.Form.{names_in, are_among, each_item, op_of, ops_of, form}
use Rattle.pgs_json.specs.Kinds.{kind_in, op_as, op_told}
use Rattle.pgs_json.proofs.ToldKinds.{op_of_told}
use Rattle.pgs_json_causes.specs.Cause.{op_cause, told_cause, object_cause, numbered, ops_cause, list_cause, ops_member_cause, is_not_ops, line_object_cause, cause_of}
use Rattle.pgs_json_causes.proofs.Somes.{or_false, not_and, some_or, some_map, some_bind, some_bind_last, some_find}
use Rattle.pgs_json_causes.proofs.KindLaw.{gate_joined, kind_law}

-- ---- operations

told_law : (name : List ℕ) (o : Option Kind) (ms : Members) → is_some (told_cause name o ms) ≡ not (is_some (option_and_then (λ kind. op_as kind (object ms)) o))
told_law name None ms = refl
told_law name (Some k) ms = kind_law k ms

op_told_law : (d : Data) → is_some (op_cause d) ≡ not (is_some (op_told d))
op_told_law null = refl
op_told_law (boolean b) = refl
op_told_law (number n) = refl
op_told_law (string s) = refl
op_told_law (array ds) = refl
op_told_law (object no_members) = refl
op_told_law (object (member name d ms)) = told_law name (kind_in (member name d ms)) (member name d ms)

pub op_law : (d : Data) → is_some (op_cause d) ≡ not (is_some (op_of d))
op_law d = op_told_law d ∙ ap (λ o. not (is_some o)) (sym (op_of_told d))

ops_step : (a b : Bool) → (not a || not b) ≡ not (a && b)
ops_step a b = sym (not_and a b)

pub ops_law : (n : ℕ) (ds : Items) → is_some (ops_cause n ds) ≡ not (is_some (each_item op_of ds))
ops_law n no_items = refl
ops_law n (item d ds) =
    some_or (option_map (numbered n) (op_cause d)) (ops_cause (suc n) ds)
    ∙ ap (λ b. b || is_some (ops_cause (suc n) ds)) (some_map (numbered n) (op_cause d) ∙ op_law d)
    ∙ ap (λ b. not (is_some (op_of d)) || b) (ops_law (suc n) ds)
    ∙ ops_step (is_some (op_of d)) (is_some (each_item op_of ds))
    ∙ ap not (sym (some_bind (op_of d) _ (is_some (each_item op_of ds)) (λ x. some_bind_last (each_item op_of ds) _)))

-- ---- transactions

list_law : (o : Option Items) → is_some (list_cause o) ≡ not (is_some (option_and_then (each_item op_of) o))
list_law None = refl
list_law (Some ds) = ops_law 1 ds

member_law : (o : Option Data) → is_some (ops_member_cause o) ≡ not (is_some (option_and_then ops_of o))
unfolding ops_of
member_law None = refl
member_law (Some d) = list_law (as_array d)

object_law : (ms : Members) → is_some (line_object_cause (Some ms)) ≡ not (is_some (form (object ms)))
unfolding form
object_law ms =
    some_or _ (ops_member_cause (get_member (codes "ops") ms))
    ∙ ap (λ b. b || is_some (ops_member_cause (get_member (codes "ops") ms))) (some_map _ (find is_not_ops (names_in ms))
    ∙ some_find is_not_ops (λ n. list_any (bytes_eq n) (codes "ops" ∷ [])) (λ n. ap not (sym (or_false (bytes_eq n (codes "ops"))))) (names_in ms))
    ∙ ap (λ b. not (are_among (codes "ops" ∷ []) (names_in ms)) || b) (member_law (get_member (codes "ops") ms))
    ∙ ops_step (are_among (codes "ops" ∷ []) (names_in ms)) (is_some (option_and_then ops_of (get_member (codes "ops") ms)))
    ∙ ap not (sym (gate_joined _ _ ∙ ap (λ b. are_among (codes "ops" ∷ []) (names_in ms) && b) (some_bind_last (option_and_then ops_of (get_member (codes "ops") ms)) _)))

pub tree_law : (d : Data) → is_some (cause_of d) ≡ not (is_some (form d))
unfolding cause_of form
tree_law null = refl
tree_law (boolean b) = refl
tree_law (number n) = refl
tree_law (string s) = refl
tree_law (array ds) = refl
tree_law (object ms) = object_law ms
