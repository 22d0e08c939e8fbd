-- Unfolded declarations: `same_tree` tells exactly whether two are one, and what is declared alike fits the same.
use Rattle.std.proofs.Common.{◌≡◌, ℕ, zero, suc, Bool, true, false, ◌&&◌, ◌||◌, ◌==◌, List, [], ◌∷◌, length, Option, Some, None, slice_get, refl, sym, subst, ◌∙◌, ap, ap₂}
use Rattle.std.specs.Cmp.{tied_itself}
use Rattle.std.specs.Cmp.Lexicographic.{pointwise, nat_list_cmp_total}
use Rattle.std.specs.Ordering.{is_eq}
use Rattle.std.specs.Option.{option_map_or}
use Rattle.std.proofs.lemmas.Bool.{and_parts, and_from, eqb-true, eq-eqb}
use Rattle.pgs_base.specs.declared.row.NodeRow.{NodeRow}
use Rattle.pgs_base.specs.declared.value.Kind.{Kind}
use Rattle.pgs_base.specs.declared.value.Kind.TheVariants as kinds
use Rattle.pgs_base.specs.Pair.{same_name}
use Rattle.pgs_base.specs.Value.{kind_rank}
use Rattle.pgs_syntax.specs.declared.element_type.EdgeType.{EdgeType}
use Rattle.pgs_syntax.specs.declared.resolved.Resolved.{Resolved}
use Rattle.pgs_syntax.specs.declared.specification.Braces.{Braces}
use Rattle.pgs_syntax.specs.declared.specification.Leaf.{Leaf}
use Rattle.pgs_syntax.specs.declared.specification.Leaf.TheVariants.{Label, Named}
use Rattle.pgs_syntax.specs.declared.specification.Property.{Property}
use Rattle.pgs_syntax.specs.declared.specification.Spec as specs
use Rattle.pgs_syntax.specs.declared.specification.Spec.{Spec, Empty, Word, OpenLabels, And', Or', Opt', Row_of-Spec, end_of-Spec, more_of-Spec}
use Rattle.pgs_syntax.specs.Fitting.{is_only, is_braced, suits, suits_each, suits_some, fits, fits_node, fits_node_type, fits_edge, fits_edge_type, has_ends_of}
use Rattle.pgs_syntax.specs.Join.{Joins, PairTriple, of_pairs, of_triples, joined, is_empty, is_empty_pair}
use Rattle.pgs_syntax.specs.Numbered.{passes_below}
use Rattle.pgs_syntax.specs.Valid.{are_one_kind}
use Rattle.pgs_syntax.proofs.Halves.{joined_same}
use Rattle.pgs_syntax.proofs.Parts.{one_name}
use Rattle.pgs_schema_changes.specs.declared.form.Form.{Form}
use Rattle.pgs_schema_changes.specs.declared.form.Form.TheVariants as forms
use Rattle.pgs_schema_changes.specs.Unfolded.{Tree, nothing, tree, unfolded, unfolded_parts, tree_below, node_tree_of, node_tree, edge_tree_of, edge_tree, same_property, same_braces, same_form, same_tree}

-- ---- what is told to be one is one

pub one_kind : (a b : Bool) → are_one_kind a b ≡ true → a ≡ b
one_kind true true same = refl
one_kind false false same = refl
one_kind a b same = cc

kind_itself : (a : Bool) → are_one_kind a a ≡ true
kind_itself true = refl
kind_itself false = refl

-- items that a test tells to be one pairwise are one list
pub one_by_one : {X : Type 0} (test : X → X → Bool) → ((a b : X) → test a b ≡ true → a ≡ b) → (xs ys : List X) → pointwise test xs ys ≡ true → xs ≡ ys
one_by_one test sound [] [] same = refl
one_by_one test sound [] (y ∷ ys) same = cc
one_by_one test sound (x ∷ xs) [] same = cc
one_by_one test sound (x ∷ xs) (y ∷ ys) same =
    let parts = and_parts _ _ same in ap₂ (λ a as'. a ∷ as') (sound x y parts.0) (one_by_one test sound xs ys parts.1)

each_itself : {X : Type 0} (test : X → X → Bool) → ((a : X) → test a a ≡ true) → (xs : List X) → pointwise test xs xs ≡ true
each_itself test itself [] = refl
each_itself test itself (x ∷ xs) = and_from _ _ (itself x) (each_itself test itself xs)

pub name_itself : (a : List ℕ) → same_name a a ≡ true
name_itself a = ap is_eq (tied_itself nat_list_cmp_total a)

one_rank : (a b : Kind) → kind_rank a ≡ kind_rank b → a ≡ b
one_rank kinds.Text kinds.Text same = refl
one_rank kinds.Int kinds.Int same = refl
one_rank kinds.Bool kinds.Bool same = refl
one_rank kinds.Date kinds.Date same = refl
one_rank a b same = cc

one_property : (a b : Property) → same_property a b ≡ true → a ≡ b
one_property a b same =
    let parts = and_parts _ _ same in
    let front = and_parts _ _ parts.0 in
    let key = one_name a.key b.key front.0 in
    let kind = one_rank a.kind b.kind (eqb-true (kind_rank a.kind) (kind_rank b.kind) front.1) in
    let optional = one_kind a.optional b.optional parts.1 in
    λ i. record { key = key i; kind = kind i; optional = optional i }

one_braces : (a b : Braces) → same_braces a b ≡ true → a ≡ b
one_braces a b same =
    let parts = and_parts _ _ same in
    let properties = one_by_one same_property one_property a.properties b.properties parts.0 in
    let more = one_kind a.more b.more parts.1 in
    λ i. record { properties = properties i; more = more i }

pub one_form : (a b : Form) → same_form a b ≡ true → a ≡ b
one_form forms.Empty forms.Empty same = refl
one_form (forms.Label a) (forms.Label b) same = ap forms.Label (one_name a b same)
one_form forms.OpenLabels forms.OpenLabels same = refl
one_form (forms.Braces a) (forms.Braces b) same = ap forms.Braces (one_braces a b same)
one_form forms.And forms.And same = refl
one_form forms.Or forms.Or same = refl
one_form forms.Opt forms.Opt same = refl
one_form forms.Parts forms.Parts same = refl
one_form forms.Edge forms.Edge same = refl
one_form forms.Ends forms.Ends same = refl
one_form a b same = cc

pub one_tree : (a b : Tree) → same_tree a b ≡ true → a ≡ b
one_tree nothing nothing same = refl
one_tree nothing (tree form first second) same = cc
one_tree (tree form first second) nothing same = cc
one_tree (tree a first second) (tree b third fourth) same =
    let parts = and_parts _ _ same in
    let front = and_parts _ _ parts.0 in
    let form = one_form a b front.0 in
    let left = one_tree first third front.1 in
    let right = one_tree second fourth parts.1 in
    cc

-- ---- and what is one is told to be one

rank_itself : (a : ℕ) → (a == a) ≡ true
rank_itself a = eq-eqb a a refl

property_itself : (a : Property) → same_property a a ≡ true
property_itself a = and_from _ _ (and_from _ _ (name_itself a.key) (rank_itself (kind_rank a.kind))) (kind_itself a.optional)

form_itself : (a : Form) → same_form a a ≡ true
form_itself forms.Empty = refl
form_itself (forms.Label a) = name_itself a
form_itself forms.OpenLabels = refl
form_itself (forms.Braces a) = and_from _ _ (each_itself same_property property_itself a.properties) (kind_itself a.more)
form_itself forms.And = refl
form_itself forms.Or = refl
form_itself forms.Opt = refl
form_itself forms.Parts = refl
form_itself forms.Edge = refl
form_itself forms.Ends = refl

tree_itself : (a : Tree) → same_tree a a ≡ true
tree_itself nothing = refl
tree_itself (tree form first second) = and_from _ _ (and_from _ _ (form_itself form) (tree_itself first)) (tree_itself second)

pub told_form : (a b : Form) → a ≡ b → same_form a b ≡ true
told_form a b same = subst (λ (f : Form). same_form a f ≡ true) same (form_itself a)

pub told_tree : (a b : Tree) → a ≡ b → same_tree a b ≡ true
told_tree a b same = subst (λ (t : Tree). same_tree a t ≡ true) same (tree_itself a)

-- ---- what an unfolded declaration means

-- whether a pair, or a triple, is what an unfolded declaration says: what it says of the ends of an edge is given
module _ {P : Type 0} (joins : Joins P) (ends : Tree → P → Bool) where
  abbrev mutual
    meant : Tree → P → Bool
    meant nothing p = false
    meant (tree forms.Empty first second) p = joins.asks is_empty_pair p
    meant (tree (forms.Label label) first second) p = joins.asks (is_only label) p
    meant (tree forms.OpenLabels first second) p = joins.asks (λ own. is_empty own.props) p
    meant (tree (forms.Braces braces) first second) p = joins.asks (is_braced braces) p
    meant (tree forms.And first second) p = meant_each first p
    meant (tree forms.Or first second) p = meant_some first p
    meant (tree forms.Opt first second) p = joins.asks is_empty_pair p || meant_some first p
    meant (tree forms.Edge first second) p = joined joins (ends first) (meant second) p
    meant (tree forms.Parts first second) p = false
    meant (tree forms.Ends first second) p = false

    meant_each : Tree → P → Bool
    meant_each nothing p = joins.asks is_empty_pair p
    meant_each (tree form first second) p = joined joins (meant first) (meant_each second) p

    meant_some : Tree → P → Bool
    meant_some nothing p = false
    meant_some (tree form first second) p = meant first p || meant_some second p

  module _ (named : ℕ → P → Bool) (trees : ℕ → Tree) (same : (number : ℕ) (p : P) → named number p ≡ meant (trees number) p) where
    mutual
      unfolded_meant : (spec : Spec Leaf) (p : P) → suits joins named spec p ≡ meant (unfolded trees spec) p
      unfolded_meant Empty p = refl
      unfolded_meant (Word (Label label)) p = refl
      unfolded_meant (Word (Named number)) p = same number p
      unfolded_meant OpenLabels p = refl
      unfolded_meant (specs.Braces braces) p = refl
      unfolded_meant (And' _ parts) p = each_meant parts p
      unfolded_meant (Or' _ parts) p = some_meant parts p
      unfolded_meant (Opt' _ part) p = ap (λ b. joins.asks is_empty_pair p || b) (some_meant part p)

      each_meant : {n : _} (parts : Row_of-Spec Leaf n) (p : P) → suits_each joins named parts p ≡ meant_each (unfolded_parts trees parts) p
      each_meant end_of-Spec p = refl
      each_meant (more_of-Spec part parts) p =
          joined_same joins (suits joins named part) (suits_each joins named parts) (meant (unfolded trees part)) (meant_each (unfolded_parts trees parts))
          (unfolded_meant part) (each_meant parts) p

      some_meant : {n : _} (parts : Row_of-Spec Leaf n) (p : P) → suits_some joins named parts p ≡ meant_some (unfolded_parts trees parts) p
      some_meant end_of-Spec p = refl
      some_meant (more_of-Spec part parts) p = ap₂ (λ a b. a || b) (unfolded_meant part p) (some_meant parts p)

  -- the types of numbers
  module _ {T : Type 0} (passes : (ℕ → P → Bool) → T → P → Bool) (tree_of : (ℕ → Tree) → T → Tree) (same : (named : ℕ → P → Bool) (trees : ℕ → Tree) → ((number : ℕ) (p : P) → named number p ≡ meant (trees number) p) → (type : T) (p : P) → passes named type p ≡ meant (tree_of trees type) p) (types : List T) where
    below_meant : (bound number : ℕ) (p : P) → passes_below passes types bound number p ≡ meant (tree_below tree_of types bound number) p
    below_meant zero number p = refl
    below_meant (suc bound) number p = by (number == bound) (below_meant bound)
      where
        here : (o : Option T) → ((k : ℕ) (q : P) → passes_below passes types bound k q ≡ meant (tree_below tree_of types bound k) q)
            → option_map_or (λ (type : T). passes (passes_below passes types bound) type p) o false ≡ meant (option_map_or (λ (type : T). tree_of (tree_below tree_of types bound) type) o nothing) p
        here None below = refl
        here (Some type) below = same (passes_below passes types bound) (tree_below tree_of types bound) below type p

        by : (b : Bool) → ((k : ℕ) (q : P) → passes_below passes types bound k q ≡ meant (tree_below tree_of types bound k) q) → (elim b [
          | true ↦ option_map_or (λ (type : T). passes (passes_below passes types bound) type p) (slice_get types bound) false
          | false ↦ passes_below passes types bound number p
        ]) ≡ meant (elim b [
          | true ↦ option_map_or (λ (type : T). tree_of (tree_below tree_of types bound) type) (slice_get types bound) nothing
          | false ↦ tree_below tree_of types bound number
        ]) p
        by true below = here (slice_get types bound) below
        by false below = below number p

-- a node has no ends
abbrev no_ends : Tree → NodeRow → Bool
no_ends ends p = false

node_meant : (resolved : Resolved) (number : ℕ) (p : NodeRow) → fits_node resolved number p ≡ meant of_pairs no_ends (node_tree resolved number) p
node_meant resolved number p =
    below_meant of_pairs no_ends fits_node_type node_tree_of
    (λ named trees same type q. unfolded_meant of_pairs no_ends named trees same type.spec q) resolved.nodes (length resolved.nodes) number p

-- what it says of the ends of a triple
abbrev ends_meant : Tree → PairTriple → Bool
ends_meant nothing t = false
ends_meant (tree form first second) t = meant of_pairs no_ends first t.source && is_empty_pair t.own && meant of_pairs no_ends second t.target

edge_meant : (resolved : Resolved) (number : ℕ) (t : PairTriple) → fits_edge resolved number t ≡ meant of_triples ends_meant (edge_tree resolved number) t
edge_meant resolved number t =
    below_meant of_triples ends_meant (fits_edge_type resolved) (edge_tree_of resolved) type_meant resolved.edges (length resolved.edges) number t
  where
    end_meant : (spec : Spec Leaf) (p : NodeRow) → fits resolved spec p ≡ meant of_pairs no_ends (unfolded (node_tree resolved) spec) p
    end_meant spec p = unfolded_meant of_pairs no_ends (fits_node resolved) (node_tree resolved) (node_meant resolved) spec p

    both_meant : (type : EdgeType Leaf) (u : PairTriple) → has_ends_of resolved type u ≡ ends_meant (tree forms.Ends (unfolded (node_tree resolved) type.source) (unfolded (node_tree resolved) type.target)) u
    both_meant type u = ap₂ (λ a b. a && is_empty_pair u.own && b) (end_meant type.source u.source) (end_meant type.target u.target)

    type_meant : (named : ℕ → PairTriple → Bool) (trees : ℕ → Tree) → ((number : ℕ) (u : PairTriple) → named number u ≡ meant of_triples ends_meant (trees number) u)
        → (type : EdgeType Leaf) (u : PairTriple) → fits_edge_type resolved named type u ≡ meant of_triples ends_meant (edge_tree_of resolved trees type) u
    type_meant named trees same type u =
        joined_same of_triples (has_ends_of resolved type) (suits of_triples named type.middle)
        (ends_meant (tree forms.Ends (unfolded (node_tree resolved) type.source) (unfolded (node_tree resolved) type.target)))
        (meant of_triples ends_meant (unfolded trees type.middle))
        (both_meant type) (unfolded_meant of_triples ends_meant named trees same type.middle) u

-- ---- what is declared alike fits the same

module _ (old new : Resolved) (own number : ℕ) where
  pub alike_nodes : same_tree (node_tree old own) (node_tree new number) ≡ true → (p : NodeRow) → fits_node new number p ≡ fits_node old own p
  alike_nodes alike p =
      node_meant new number p ∙ ap (λ (t : Tree). meant of_pairs no_ends t p) (sym (one_tree (node_tree old own) (node_tree new number) alike)) ∙ sym (node_meant old own p)

  pub alike_edges : same_tree (edge_tree old own) (edge_tree new number) ≡ true → (t : PairTriple) → fits_edge new number t ≡ fits_edge old own t
  alike_edges alike t =
      edge_meant new number t ∙ ap (λ (u : Tree). meant of_triples ends_meant u t) (sym (one_tree (edge_tree old own) (edge_tree new number) alike)) ∙ sym (edge_meant old own t)
