-- Two graphs that agree but for touched elements give one answer to all that is asked of the others, so that the laws hold of them.
use Rattle.std.proofs.Common.{◌≡◌, ℕ, Bool, true, false, ◌||◌, List, [], ◌∷◌, slice_get, Option, Some, None, refl, sym, ◌∙◌, ap}
use Rattle.std.specs.Prelude.{option_and_then, option_map}
use Rattle.std.specs.Option.{option_map_or}
use Rattle.std.specs.List.{list_any}
use Rattle.std.proofs.lemmas.Bool.{and_parts, or_parts}
use Rattle.pgs_base.specs.declared.element.EdgeId.{EdgeId}
use Rattle.pgs_base.specs.declared.element.Elem.{Elem}
use Rattle.pgs_base.specs.declared.element.Elem.TheVariants.{Node, Edge}
use Rattle.pgs_base.specs.declared.part.Part.TheVariants as parts
use Rattle.pgs_base.specs.declared.row.NodeRow.{NodeRow}
use Rattle.pgs_base.specs.declared.row.EdgeRow.{EdgeRow}
use Rattle.pgs_base.specs.Graph.{Graph, node_at, edge_at}
use Rattle.pgs_base.specs.Pair.{value_at, pair_of}
use Rattle.pgs_syntax.specs.declared.key.Key.{Key}
use Rattle.pgs_syntax.specs.declared.pattern.Expr.{Expr}
use Rattle.pgs_syntax.specs.declared.pattern.Expr.TheVariants.{Element, Property}
use Rattle.pgs_syntax.specs.declared.pattern.Pattern.{Pattern}
use Rattle.pgs_syntax.specs.declared.resolved.Resolved.{Resolved}
use Rattle.pgs_syntax.specs.Fitting.{fits_edge}
use Rattle.pgs_syntax.specs.KeyValues.{is_in_scope, part_of, tuple_of, key_values}
use Rattle.pgs_syntax.specs.Matches.{carried, is_match}
use Rattle.pgs_syntax.specs.Typed.{triple_at}
use Rattle.pgs_syntax.specs.Valid.{is_valid_pattern, is_valid_key}
use Rattle.pgs_match.specs.Tests.{own_passes}
use Rattle.pgs_check_affected.specs.Local.{AgreeBut, has_touched_end, may_differ, binds_touched}
use Rattle.pgs_check_affected.specs.Unseen.{ends_in, PassesAlike}
use Rattle.pgs_check_affected.proofs.Agreeing.{AgreesOn, GivesOneTuple, starts_same, values_alike}
use Rattle.pgs_check_affected.proofs.Agreeing as agreeing
use Rattle.pgs_check_affected.proofs.BoundEnds.{passes_none, none_touched}

pub patterns_valid : (key : Key) → is_valid_key key ≡ true → (is_valid_pattern key.scope ≡ true) × (is_valid_pattern key.descriptor ≡ true)
patterns_valid key valid = let parts = and_parts _ _ (and_parts _ _ (and_parts _ _ (and_parts _ _ valid).0).0).0 in (parts.0, parts.1)

pub turned : (touched : Elem → Bool) (g h : Graph) → AgreeBut touched g h → AgreeBut touched h g
turned touched g h agree = record { nodes = λ id out. sym (agree.nodes id out); edges = λ id out. sym (agree.edges id out) }

module _ (touched : Elem → Bool) (g h : Graph) (agree : AgreeBut touched g h) where
  -- ---- what is asked of an untouched element

  pub carried_same : (elem : Elem) → touched elem ≡ false → carried g elem ≡ carried h elem
  carried_same (Node id) out = agree.nodes id out
  carried_same (Edge id) out = ap (option_map (λ (row : EdgeRow). pair_of row.labels row.props)) (agree.edges id out)

  module _ (resolved : Resolved) where
    triple_same : (row : EdgeRow) → touched (Node row.source) ≡ false → touched (Node row.target) ≡ false → triple_at g row ≡ triple_at h row
    triple_same row source target =
        ap (λ o. option_and_then (λ (source : NodeRow). option_map (λ target. record { source = source; own = pair_of row.labels row.props; target = target }) (node_at g row.target)) o)
        (agree.nodes row.source source)
        ∙ ap (λ o. option_and_then (λ (source : NodeRow). option_map (λ target. record { source = source; own = pair_of row.labels row.props; target = target }) o) (node_at h row.source))
        (agree.nodes row.target target)

    pub type_same : (edge : EdgeId) → touched (Edge edge) ≡ false → has_touched_end touched g (Edge edge) ≡ false → (number : ℕ) →
        option_map_or (fits_edge resolved number) (option_and_then (triple_at g) (edge_at g edge)) false
        ≡ option_map_or (fits_edge resolved number) (option_and_then (triple_at h) (edge_at h edge)) false
    type_same edge out none number =
        by (edge_at g edge) none ∙ ap (λ o. option_map_or (fits_edge resolved number) (option_and_then (triple_at h) o) false) (agree.edges edge out)
      where
        by : (o : Option EdgeRow) → option_map_or (λ (row : EdgeRow). touched (Node row.source) || touched (Node row.target)) o false ≡ false →
            option_map_or (fits_edge resolved number) (option_and_then (triple_at g) o) false ≡ option_map_or (fits_edge resolved number) (option_and_then (triple_at h) o) false
        by None none = refl
        by (Some row) none =
            let ends = or_parts (touched (Node row.source)) _ none in ap (λ t. option_map_or (fits_edge resolved number) t false) (triple_same row ends.0 ends.1)

    pub agrees_on : (pattern : Pattern) → AgreesOn resolved touched g h pattern
    agrees_on pattern = record { ends = ends; passed = passed; fits = λ edge out none number asked. type_same edge out none number }
      where
        ends : (elem : Elem) → touched elem ≡ false → ends_in g elem ≡ ends_in h elem
        ends (Node id) out = refl
        ends (Edge id) out = ap (option_map (λ (row : EdgeRow). (row.source, row.target))) (agree.edges id out)

        passed : (elem : Elem) → touched elem ≡ false → PassesAlike resolved g h pattern elem
        passed elem out var below = ap (λ p. option_map_or (own_passes resolved pattern var elem) p false) (carried_same elem out)

  -- ---- tuples

  part_same : (elems : List Elem) → list_any touched elems ≡ false → (expr : Expr) → part_of g elems expr ≡ part_of h elems expr
  part_same elems out (Element var) = refl
  part_same elems out (Property var key) = by (slice_get elems var) refl
    where
      by : (o : Option Elem) → slice_get elems var ≡ o →
          option_map parts.Value (option_and_then (λ (own : NodeRow). value_at key own.props) (option_and_then (carried g) o))
          ≡ option_map parts.Value (option_and_then (λ (own : NodeRow). value_at key own.props) (option_and_then (carried h) o))
      by None at = refl
      by (Some elem) at =
          ap (λ p. option_map parts.Value (option_and_then (λ (own : NodeRow). value_at key own.props) p)) (carried_same elem (passes_none touched elems var elem out at))

  pub tuple_same : (exprs : List Expr) (elems : List Elem) → list_any touched elems ≡ false → tuple_of g exprs elems ≡ tuple_of h exprs elems
  tuple_same [] elems out = refl
  tuple_same (expr ∷ exprs) elems out =
      ap (λ o. option_and_then (λ part. option_map (λ rest. part ∷ rest) (tuple_of g exprs elems)) o) (part_same elems out expr)
      ∙ ap (λ rest. option_and_then (λ part. option_map (λ more. part ∷ more) rest) (part_of h elems expr)) (tuple_same exprs elems out)

-- ---- the laws

pub match_same : (resolved : Resolved) (touched : Elem → Bool) (g h : Graph) → AgreeBut touched g h → (pattern : Pattern) → is_valid_pattern pattern ≡ true → (elems : List Elem) →
    list_any (may_differ touched g pattern) elems ≡ false → is_match resolved g pattern elems ≡ is_match resolved h pattern elems
match_same resolved touched g h agree pattern valid elems out = agreeing.match_same resolved touched g h pattern (agrees_on touched g h agree resolved pattern) valid elems out

one_tuple : (resolved : Resolved) (touched : Elem → Bool) (g h : Graph) → AgreeBut touched g h → (key : Key) → is_valid_pattern key.descriptor ≡ true → GivesOneTuple resolved touched g h key
one_tuple resolved touched g h agree key valid elems out match = tuple_same touched g h agree key.exprs elems (none_touched touched g resolved key.descriptor valid elems out match)

module _ (resolved : Resolved) (touched : Elem → Bool) (g h : Graph) (agree : AgreeBut touched g h) (key : Key) (valid : is_valid_key key ≡ true) (elem : Elem) where
  pub place_same : (binds_touched resolved touched g key.scope elem || binds_touched resolved touched h key.scope elem) ≡ false →
      is_in_scope resolved g key elem ≡ is_in_scope resolved h key elem
  place_same none = starts_same resolved touched g h key.scope (agrees_on touched g h agree resolved key.scope) (patterns_valid key valid).0 elem none

  pub values_same : (binds_touched resolved touched g key.descriptor elem || binds_touched resolved touched h key.descriptor elem) ≡ false →
      key_values resolved g key elem ≡ key_values resolved h key elem
  values_same none =
      let good = (patterns_valid key valid).1 in
      values_alike resolved touched g h key (agrees_on touched g h agree resolved key.descriptor) good elem none (one_tuple resolved touched g h agree key good)
      (one_tuple resolved touched h g (turned touched g h agree) key good)
