-- Atoms whose variables have other numbers hold where the variables have the elements of those numbers.
use Rattle.std.proofs.Common.{◌≡◌, ℕ, ◌<◌, Bool, true, false, ◌&&◌, List, [], ◌∷◌, length, map, Option, Some, None, slice_get, is_some, refl, sym, ◌∙◌, ap, not}
use Rattle.std.specs.Prelude.{option_and_then, nat_lt}
use Rattle.std.specs.Option.{option_map_or, option_map}
use Rattle.std.specs.List.{list_all}
use Rattle.std.proofs.lemmas.Bool.{true≢false, and_parts, ltb-true}
use Rattle.std.proofs.lemmas.Option.{slice_get_within}
use Rattle.pgs_base.specs.declared.element.Elem.{Elem}
use Rattle.pgs_base.specs.declared.part.Part.TheVariants as parts
use Rattle.pgs_base.specs.declared.row.NodeRow.{NodeRow}
use Rattle.pgs_base.specs.Graph.{Graph}
use Rattle.pgs_base.specs.Pair.{has_name, value_at}
use Rattle.pgs_syntax.specs.declared.pattern.Atom.{Atom}
use Rattle.pgs_syntax.specs.declared.pattern.Atom.TheVariants.{Ends, HasLabel, FitsNode, FitsEdge, Equals}
use Rattle.pgs_syntax.specs.declared.pattern.Expr.{Expr}
use Rattle.pgs_syntax.specs.declared.pattern.Expr.TheVariants.{Element, Property}
use Rattle.pgs_syntax.specs.declared.resolved.Resolved.{Resolved}
use Rattle.pgs_syntax.specs.KeyValues.{part_of}
use Rattle.pgs_syntax.specs.Matches.{carried, leads, holds, same_value, is_node_of_type, is_edge_of_type}
use Rattle.pgs_syntax.specs.Valid.{is_edge_var, is_node_var, speaks_of, read_var}
use Rattle.pgs_key_standing.specs.Renamed.{renamed, renamed_expr}

-- ---- variables in range, of their kinds

pub edge_kind : (kinds : List Bool) (var : ℕ) → is_edge_var kinds var ≡ true → slice_get kinds var ≡ Some true
edge_kind kinds var h = by (slice_get kinds var) refl h
  where
    by : (o : Option Bool) → slice_get kinds var ≡ o → option_map_or (λ is_edge. is_edge) o false ≡ true → slice_get kinds var ≡ Some true
    by None e h = absurd (true≢false (sym h))
    by (Some true) e h = e
    by (Some false) e h = absurd (true≢false (sym h))

pub node_kind : (kinds : List Bool) (var : ℕ) → is_node_var kinds var ≡ true → slice_get kinds var ≡ Some false
node_kind kinds var h = by (slice_get kinds var) refl h
  where
    by : (o : Option Bool) → slice_get kinds var ≡ o → option_map_or not o false ≡ true → slice_get kinds var ≡ Some false
    by None e h = absurd (true≢false (sym h))
    by (Some true) e h = absurd (true≢false (sym h))
    by (Some false) e h = e

pub edge_in : (kinds : List Bool) (var : ℕ) → is_edge_var kinds var ≡ true → var < length kinds
edge_in kinds var h = slice_get_within kinds var true (edge_kind kinds var h)

pub node_in : (kinds : List Bool) (var : ℕ) → is_node_var kinds var ≡ true → var < length kinds
node_in kinds var h = slice_get_within kinds var false (node_kind kinds var h)

pub record SpeaksOfEnds (kinds : List Bool) (edge source target : ℕ) : Type 0 where
  pub edge_is : slice_get kinds edge ≡ Some true
  pub source_is : slice_get kinds source ≡ Some false
  pub target_is : slice_get kinds target ≡ Some false

pub speaks_ends : (kinds : List Bool) (edge source target : ℕ) → speaks_of kinds (Ends edge source target) ≡ true → SpeaksOfEnds kinds edge source target
speaks_ends kinds edge source target h =
    let outer = and_parts (is_edge_var kinds edge && is_node_var kinds source) (is_node_var kinds target) h in
    let inner = and_parts (is_edge_var kinds edge) (is_node_var kinds source) outer.0 in
    record { edge_is = edge_kind kinds edge inner.0; source_is = node_kind kinds source inner.1; target_is = node_kind kinds target outer.1 }

-- ---- what holds

module _ (resolved : Resolved) (g : Graph) (kinds : List Bool) (f : ℕ → ℕ) (elems others : List Elem)
    (same : (v : ℕ) → v < length kinds → slice_get others v ≡ slice_get elems (f v)) where
  holds_renamed : (atom : Atom) → speaks_of kinds atom ≡ true → holds resolved g others atom ≡ holds resolved g elems (renamed f atom)
  holds_renamed (Ends edge source target) h =
      let of = speaks_ends kinds edge source target h in
      ap (λ o. leads g o (slice_get others source) (slice_get others target)) (same edge (slice_get_within kinds edge true of.edge_is))
      ∙ ap (λ o. leads g (slice_get elems (f edge)) o (slice_get others target)) (same source (slice_get_within kinds source false of.source_is))
      ∙ ap (λ o. leads g (slice_get elems (f edge)) (slice_get elems (f source)) o) (same target (slice_get_within kinds target false of.target_is))
  holds_renamed (HasLabel var label) h =
      ap (λ o. option_map_or (λ (own : NodeRow). has_name label own.labels) (option_and_then (carried g) o) false) (same var (ltb-true var (length kinds) h))
  holds_renamed (FitsNode var number) h = ap (λ o. option_map_or (is_node_of_type resolved g number) o false) (same var (node_in kinds var h))
  holds_renamed (FitsEdge var number) h = ap (λ o. option_map_or (is_edge_of_type resolved g number) o false) (same var (edge_in kinds var h))
  holds_renamed (Equals var key value) h =
      ap (λ o. option_map_or (λ (own : NodeRow). option_map_or (same_value value) (value_at key own.props) false) (option_and_then (carried g) o) false)
      (same var (ltb-true var (length kinds) h))

  pub all_renamed : (atoms : List Atom) → list_all (speaks_of kinds) atoms ≡ true →
      list_all (holds resolved g others) atoms ≡ list_all (holds resolved g elems) (map (renamed f) atoms)
  all_renamed [] h = refl
  all_renamed (atom ∷ atoms) h =
      let parts = and_parts (speaks_of kinds atom) (list_all (speaks_of kinds) atoms) h in
      ap (λ b. b && list_all (holds resolved g others) atoms) (holds_renamed atom parts.0)
      ∙ ap (λ b. holds resolved g elems (renamed f atom) && b) (all_renamed atoms parts.1)

  part_renamed : (expr : Expr) → nat_lt (read_var expr) (length kinds) ≡ true → part_of g others expr ≡ part_of g elems (renamed_expr f expr)
  part_renamed (Element var) h = ap (option_map parts.Elem) (same var (ltb-true var (length kinds) h))
  part_renamed (Property var key) h =
      ap (λ o. option_map parts.Value (option_and_then (λ (own : NodeRow). value_at key own.props) (option_and_then (carried g) o))) (same var (ltb-true var (length kinds) h))

  pub parts_renamed : (exprs : List Expr) → list_all (λ (expr : Expr). nat_lt (read_var expr) (length kinds)) exprs ≡ true →
      list_all (λ expr. is_some (part_of g others expr)) exprs ≡ list_all (λ expr. is_some (part_of g elems expr)) (map (renamed_expr f) exprs)
  parts_renamed [] h = refl
  parts_renamed (expr ∷ exprs) h =
      let parts = and_parts (nat_lt (read_var expr) (length kinds)) _ h in
      ap (λ o. is_some o && list_all (λ e. is_some (part_of g others e)) exprs) (part_renamed expr parts.0)
      ∙ ap (λ b. is_some (part_of g elems (renamed_expr f expr)) && b) (parts_renamed exprs parts.1)

-- ---- the same numbers, and atoms of some variables among more

pub renamed_same : (atoms : List Atom) → map (renamed (λ v. v)) atoms ≡ atoms
renamed_same [] = refl
renamed_same (Ends edge source target ∷ atoms) = ap (λ rest. Ends edge source target ∷ rest) (renamed_same atoms)
renamed_same (HasLabel var label ∷ atoms) = ap (λ rest. HasLabel var label ∷ rest) (renamed_same atoms)
renamed_same (FitsNode var number ∷ atoms) = ap (λ rest. FitsNode var number ∷ rest) (renamed_same atoms)
renamed_same (FitsEdge var number ∷ atoms) = ap (λ rest. FitsEdge var number ∷ rest) (renamed_same atoms)
renamed_same (Equals var key value ∷ atoms) = ap (λ rest. Equals var key value ∷ rest) (renamed_same atoms)

pub exprs_same : (exprs : List Expr) → map (renamed_expr (λ v. v)) exprs ≡ exprs
exprs_same [] = refl
exprs_same (Element var ∷ exprs) = ap (λ rest. Element var ∷ rest) (exprs_same exprs)
exprs_same (Property var key ∷ exprs) = ap (λ rest. Property var key ∷ rest) (exprs_same exprs)
