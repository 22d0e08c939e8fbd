-- What is made of items and members, one after the other.
use Rattle.std.proofs.Common.{◌≡◌, ℕ, List, [], ◌∷◌, ◌++◌, Option, Some, None, refl, sym, ap, ◌∙◌, append_assoc}
use Rattle.std.proofs.lemmas.List.{append-nil}
use Rattle.pgs_graph.specs.declared.operation.Op.{Op}
use Rattle.std.specs.Prelude.{fold}
use Rattle.serde_json.specs.Data.{Data, Items, Members}
use Rattle.pgs_base.specs.Options.{◌>>=◌}
use Rattle.pgs_json.specs.Form.{each_item, each_member, op_of}

-- what is there after the items, each put in
abbrev pub after_items : {A S : Type 0} → (Data → Option A) → (S → A → S) → S → Items → Option S
after_items form_of put s ds = each_item form_of ds >>= λ xs. Some (fold put s xs)

abbrev pub after_members : {A S : Type 0} → (List ℕ → Data → Option A) → (S → A → S) → S → Members → Option S
after_members form_of put s ms = each_member form_of ms >>= λ xs. Some (fold put s xs)

-- ---- operations

abbrev pub put_op : List Op → Op → List Op
put_op ops op = ops ++ op ∷ []

put_all : (ops more : List Op) → fold put_op ops more ≡ ops ++ more
put_all ops [] = sym (append-nil ops)
put_all ops (x ∷ xs) = put_all (ops ++ x ∷ []) xs ∙ append_assoc ops (x ∷ []) xs

put_each : (read : Option (List Op)) → (read >>= λ xs. Some (fold put_op [] xs)) ≡ read
put_each None = refl
put_each (Some xs) = ap (λ (ops : List Op). Some ops) (put_all [] xs)

-- operations that are put in one after the other stand in their order
pub ops_in_order : (ds : Items) → after_items op_of put_op [] ds ≡ each_item op_of ds
ops_in_order ds = put_each (each_item op_of ds)
