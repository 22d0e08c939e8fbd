-- Pairs that look the same to types are one where their values are made plain, so they fit the same types.
use Rattle.std.proofs.Common.{◌≡◌, ℕ, true, ◌&&◌, nat_eq, List, [], ◌∷◌, map, refl, sym, ◌∙◌, ap, true≢false}
use Rattle.std.specs.Cmp.Lexicographic.{pointwise, bytes_decides}
use Rattle.std.proofs.lemmas.Bool.{and_parts, eqb-true}
use Rattle.pgs_base.specs.declared.row.NodeRow.{NodeRow}
use Rattle.pgs_base.specs.declared.value.Kind.{Kind}
use Rattle.pgs_base.specs.declared.value.Kind.TheVariants as kinds
use Rattle.pgs_base.specs.declared.value.Value.{Value}
use Rattle.pgs_base.specs.OrderLaws.{labels_eq_decides}
use Rattle.pgs_base.specs.Pair.{pair_of}
use Rattle.pgs_base.specs.Value.{kind_of, kind_rank}
use Rattle.pgs_syntax.specs.declared.resolved.Resolved.{Resolved}
use Rattle.pgs_syntax.specs.declared.resolved.TypeNo.{TypeNo}
use Rattle.pgs_syntax.specs.declared.resolved.TypeNo.TheVariants as numbers
use Rattle.pgs_syntax.specs.Fitting.{fits_node, fits_edge}
use Rattle.pgs_syntax.specs.Join.{PairTriple}
use Rattle.pgs_syntax.specs.Typed.{types_node, types_edge, is_typed_node, is_typed_triple, is_concrete_node_type, is_concrete_edge_type}
use Rattle.pgs_syntax.proofs.Halves.{any_same}
use Rattle.pgs_conform.specs.Kinds.{have_one_kind, looks_same, triple_looks_same}
use Rattle.pgs_conform.proofs.Plain.{plain_of, plain_entry, plain, plain_triple, node_plain, edge_plain}

one_kind : (a b : Kind) → kind_rank a ≡ kind_rank b → a ≡ b
one_kind kinds.Text kinds.Text h = refl
one_kind kinds.Int kinds.Int h = refl
one_kind kinds.Bool kinds.Bool h = refl
one_kind kinds.Date kinds.Date h = refl
one_kind a b h = cc

props_plain : (xs ys : List (List ℕ × Value)) → pointwise have_one_kind xs ys ≡ true → map plain_entry xs ≡ map plain_entry ys
props_plain [] [] h = refl
props_plain [] (y ∷ ys) h = absurd (true≢false (sym h))
props_plain (x ∷ xs) [] h = absurd (true≢false (sym h))
props_plain (x ∷ xs) (y ∷ ys) h =
    let parts = and_parts (have_one_kind x y) _ h in
    let first = and_parts (pointwise nat_eq x.0 y.0) _ parts.0 in
    let key = (bytes_decides x.0 y.0).0 first.0 in
    let kind = one_kind (kind_of x.1) (kind_of y.1) (eqb-true (kind_rank (kind_of x.1)) (kind_rank (kind_of y.1)) first.1) in
    let rest = props_plain xs ys parts.1 in
    λ i. (key i, plain_of (kind i)) ∷ rest i

pub one_plain : (p q : NodeRow) → looks_same p q ≡ true → plain p ≡ plain q
one_plain p q h =
    let parts = and_parts (pointwise (pointwise nat_eq) p.labels q.labels) _ h in
    let labels = (labels_eq_decides p.labels q.labels).0 parts.0 in
    let props = props_plain p.props q.props parts.1 in
    λ i. pair_of (labels i) (props i)

one_triple : (t u : PairTriple) → triple_looks_same t u ≡ true → plain_triple t ≡ plain_triple u
one_triple t u h =
    let outer = and_parts (looks_same t.source u.source && looks_same t.own u.own) _ h in
    let inner = and_parts (looks_same t.source u.source) _ outer.0 in
    let source = one_plain t.source u.source inner.0 in
    let own = one_plain t.own u.own inner.1 in
    let target = one_plain t.target u.target outer.1 in
    λ i. record { source = source i; own = own i; target = target i }

module _ (resolved : Resolved) where
  pub node_same : (p q : NodeRow) → looks_same p q ≡ true → (number : ℕ) → fits_node resolved number p ≡ fits_node resolved number q
  node_same p q h number = sym (node_plain resolved number p) ∙ ap (fits_node resolved number) (one_plain p q h) ∙ node_plain resolved number q

  pub edge_same : (t u : PairTriple) → triple_looks_same t u ≡ true → (number : ℕ) → fits_edge resolved number t ≡ fits_edge resolved number u
  edge_same t u h number = sym (edge_plain resolved number t) ∙ ap (fits_edge resolved number) (one_triple t u h) ∙ edge_plain resolved number u

  pub typed_node_same : (p q : NodeRow) → looks_same p q ≡ true → is_typed_node resolved p ≡ is_typed_node resolved q
  typed_node_same p q h = any_same (types_node resolved p) (types_node resolved q) by resolved.guard.types
    where
      by : (type : TypeNo) → types_node resolved p type ≡ types_node resolved q type
      by (numbers.Node number) = ap (λ b. is_concrete_node_type resolved number && b) (node_same p q h number)
      by (numbers.Edge number) = refl

  pub typed_by_plain : (t u : PairTriple) → plain_triple t ≡ plain_triple u → is_typed_triple resolved t ≡ is_typed_triple resolved u
  typed_by_plain t u same = any_same (types_edge resolved t) (types_edge resolved u) by resolved.guard.types
    where
      by : (type : TypeNo) → types_edge resolved t type ≡ types_edge resolved u type
      by (numbers.Node number) = refl
      by (numbers.Edge number) =
          ap (λ b. is_concrete_edge_type resolved number && b)
          (sym (edge_plain resolved number t) ∙ ap (fits_edge resolved number) same ∙ edge_plain resolved number u)

  pub typed_edge_same : (t u : PairTriple) → triple_looks_same t u ≡ true → is_typed_triple resolved t ≡ is_typed_triple resolved u
  typed_edge_same t u h = typed_by_plain t u (one_triple t u h)
