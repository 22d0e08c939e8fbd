-- A pair that fits a closed specification has no key that the specification doesn't name.
use Rattle.std.proofs.Common.{◌≡◌, ℕ, zero, suc, Bool, true, false, ◌&&◌, ◌||◌, ◌==◌, cond, ⊎_elim, List, [], ◌∷◌, Option, Some, None, length, slice_get, refl, sym, ◌∙◌, true≢false}
use Rattle.std.specs.List.{list_any, list_all}
use Rattle.std.specs.Option.{option_map_or}
use Rattle.std.proofs.lemmas.Bool.{and_parts, or_cases, or_parts, not-true}
use Rattle.pgs_base.specs.declared.row.NodeRow.{NodeRow}
use Rattle.pgs_base.specs.declared.value.Value.{Value}
use Rattle.pgs_base.specs.Pair.{same_name, value_at, pair_of}
use Rattle.pgs_syntax.specs.declared.element_type.NodeType.{NodeType}
use Rattle.pgs_syntax.specs.declared.element_type.EdgeType.{EdgeType}
use Rattle.pgs_syntax.specs.declared.resolved.Resolved.{Resolved}
use Rattle.pgs_syntax.specs.declared.specification.Braces.{Braces}
use Rattle.pgs_syntax.specs.declared.specification.Leaf.{Leaf}
use Rattle.pgs_syntax.specs.declared.specification.Leaf.TheVariants.{Label, Named}
use Rattle.pgs_syntax.specs.declared.specification.Spec as specs
use Rattle.pgs_syntax.specs.declared.specification.Spec.{Spec, Empty, Word, OpenLabels, And', Or', Opt', Row_of-Spec, end_of-Spec, more_of-Spec}
use Rattle.pgs_syntax.specs.Closed.{some_braces, some_braces_of, some_below, has_more, names, is_closed, names_key}
use Rattle.pgs_syntax.specs.Fitting.{suits, suits_each, suits_some, is_named_by, fits, fits_node, fits_below, fits_edge_type, fits_edge_below, has_ends_of}
use Rattle.pgs_syntax.specs.Join.{is_empty, is_empty_pair, halves, PairTriple, Joins, of_pairs, of_triples, joined}
use Rattle.pgs_syntax.proofs.Edges.{any_triple_halves}
use Rattle.pgs_syntax.proofs.Halves.{any_halves, joined_any}
use Rattle.pgs_syntax.proofs.Parts.{absent_unnamed}
use Rattle.pgs_syntax.proofs.Splits.{IsSplit, none, to_left, to_right, to_both, split_from_any}

abbrev Entries : Type 0
Entries = List (List ℕ × Value)

-- ---- a key that neither half has

no_entries : (key : List ℕ) (entries : Entries) → is_empty entries ≡ true → value_at key entries ≡ None
no_entries key [] h = refl
no_entries key (entry ∷ entries) h = absurd (true≢false (sym h))

absent_from_both : (key : List ℕ) (l r entries : Entries) → IsSplit l r entries → value_at key l ≡ None → value_at key r ≡ None → value_at key entries ≡ None
absent_from_both key _ _ _ none left right = refl
absent_from_both key _ _ _ (to_left {x} {l} {r} {xs} split) left right = by (same_name key x.0) left (λ rest. absent_from_both key l r xs split rest right)
  where
    by : (b : Bool) → cond b (Some x.1) (value_at key l) ≡ None → (value_at key l ≡ None → value_at key xs ≡ None) → cond b (Some x.1) (value_at key xs) ≡ None
    by true here rest = cc
    by false here rest = rest here
absent_from_both key _ _ _ (to_right {x} {l} {r} {xs} split) left right = by (same_name key x.0) right (λ rest. absent_from_both key l r xs split left rest)
  where
    by : (b : Bool) → cond b (Some x.1) (value_at key r) ≡ None → (value_at key r ≡ None → value_at key xs ≡ None) → cond b (Some x.1) (value_at key xs) ≡ None
    by true here rest = cc
    by false here rest = rest here
absent_from_both key _ _ _ (to_both {x} {l} {r} {xs} split) left right =
    by (same_name key x.0) left right (λ first second. absent_from_both key l r xs split first second)
  where
    by : (b : Bool) → cond b (Some x.1) (value_at key l) ≡ None → cond b (Some x.1) (value_at key r) ≡ None →
        (value_at key l ≡ None → value_at key r ≡ None → value_at key xs ≡ None) → cond b (Some x.1) (value_at key xs) ≡ None
    by true here other rest = cc
    by false here other rest = rest here other

-- a couple of halves that passes a test, with the split of the properties
found_halves : (c : NodeRow × NodeRow → Bool) (p : NodeRow) → list_any c (halves p) ≡ true →
    (first : NodeRow) × (second : NodeRow) × IsSplit first.props second.props p.props × (c (first, second) ≡ true)
found_halves c p h =
    let labels = split_from_any _ p.labels (sym (any_halves c p) ∙ h) in
    let props = split_from_any _ p.props labels.3 in
    (pair_of labels.0 props.0, pair_of labels.1 props.1, props.2, props.3)

found : {X : Type 0} (test : X → Bool) (xs : List X) → list_any test xs ≡ true → (x : X) × (test x ≡ true)
found test [] h = absurd (true≢false (sym h))
found test (x ∷ xs) h = ⊎_elim (λ here. (x, here)) (λ later. found test xs later) (or_cases _ _ h)

-- ---- specifications, of pairs and of triples

module _ (key : List ℕ) {P : Type 0} (joins : Joins P) (own : P → NodeRow)
    (asked : (test : NodeRow → Bool) (p : P) → joins.asks test p ≡ true → test (own p) ≡ true)
    (whole : (f g : P → Bool) → ((p : P) → f p ≡ true → value_at key (own p).props ≡ None) → ((p : P) → g p ≡ true → value_at key (own p).props ≡ None) →
    (p : P) → joined joins f g p ≡ true → value_at key (own p).props ≡ None)
    (more named : ℕ → Bool) (fits : ℕ → P → Bool)
    (given : (number : ℕ) → more number ≡ false → named number ≡ false → (p : P) → fits number p ≡ true → value_at key (own p).props ≡ None) where
  empty_absent : (p : P) → joins.asks is_empty_pair p ≡ true → value_at key (own p).props ≡ None
  empty_absent p h = no_entries key (own p).props (and_parts _ _ (asked is_empty_pair p h)).1

  mutual
    pub absent : (spec : Spec Leaf) → some_braces has_more more spec ≡ false → some_braces (names key) named spec ≡ false →
        (p : P) → suits joins fits spec p ≡ true → value_at key (own p).props ≡ None
    absent Empty closed unnamed p h = empty_absent p h
    absent (Word (Label label)) closed unnamed p h = no_entries key (own p).props (and_parts _ _ (asked _ p h)).1
    absent (Word (Named number)) closed unnamed p h = given number closed unnamed p h
    absent OpenLabels closed unnamed p h = no_entries key (own p).props (asked _ p h)
    absent (specs.Braces braces) closed unnamed p h =
        absent_unnamed braces.properties key (own p).props (by braces.more closed (and_parts _ _ (asked _ p h)).1) unnamed
      where
        by : (b : Bool) → b ≡ false → list_all (λ (entry : List ℕ × Value). b || is_named_by braces.properties entry.0) (own p).props ≡ true →
            list_all (λ (entry : List ℕ × Value). false || is_named_by braces.properties entry.0) (own p).props ≡ true
        by true e all = absurd (true≢false e)
        by false e all = all
    absent (And' _ parts) closed unnamed p h = each_absent parts closed unnamed p h
    absent (Or' _ parts) closed unnamed p h = some_absent parts closed unnamed p h
    absent (Opt' _ part) closed unnamed p h = ⊎_elim (λ none. empty_absent p none) (λ some. some_absent part closed unnamed p some) (or_cases _ _ h)

    each_absent : {n : _} (parts : Row_of-Spec Leaf n) → some_braces_of has_more more parts ≡ false → some_braces_of (names key) named parts ≡ false →
        (p : P) → suits_each joins fits parts p ≡ true → value_at key (own p).props ≡ None
    each_absent end_of-Spec closed unnamed p h = empty_absent p h
    each_absent (more_of-Spec part parts) closed unnamed p h =
        whole (suits joins fits part) (suits_each joins fits parts)
        (λ q fit. absent part (or_parts _ _ closed).0 (or_parts _ _ unnamed).0 q fit)
        (λ q fit. each_absent parts (or_parts _ _ closed).1 (or_parts _ _ unnamed).1 q fit) p h

    some_absent : {n : _} (parts : Row_of-Spec Leaf n) → some_braces_of has_more more parts ≡ false → some_braces_of (names key) named parts ≡ false →
        (p : P) → suits_some joins fits parts p ≡ true → value_at key (own p).props ≡ None
    some_absent end_of-Spec closed unnamed p h = absurd (true≢false (sym h))
    some_absent (more_of-Spec part parts) closed unnamed p h =
        ⊎_elim (λ first. absent part (or_parts _ _ closed).0 (or_parts _ _ unnamed).0 p first)
        (λ later. some_absent parts (or_parts _ _ closed).1 (or_parts _ _ unnamed).1 p later)
        (or_cases _ _ h)

-- ---- joins

module _ (key : List ℕ) where
  abbrev LacksAll : (NodeRow → Bool) → Type 0
  LacksAll f = (p : NodeRow) → f p ≡ true → value_at key p.props ≡ None

  pairs_joined : (f g : NodeRow → Bool) → LacksAll f → LacksAll g → LacksAll (joined of_pairs f g)
  pairs_joined f g first second p h =
      let s = found_halves _ p (sym (joined_any of_pairs f g p) ∙ h) in
      let parts = and_parts _ _ s.3 in
      absent_from_both key s.0.props s.1.props p.props s.2 (first s.0 parts.1) (second s.1 parts.0)

  abbrev LacksOwn : (PairTriple → Bool) → Type 0
  LacksOwn f = (t : PairTriple) → f t ≡ true → value_at key t.own.props ≡ None

  triples_joined : (f g : PairTriple → Bool) → LacksOwn f → LacksOwn g → LacksOwn (joined of_triples f g)
  triples_joined f g first second t h =
      let s = found _ (halves t.source) (sym (any_triple_halves (λ (u : PairTriple × PairTriple). g u.1 && f u.0) t) ∙ (sym (joined_any of_triples f g t) ∙ h)) in
      let m = found_halves _ t.own s.1 in
      let e = found _ (halves t.target) m.3 in
      let parts = and_parts _ _ e.1 in
      absent_from_both key m.0.props m.1.props t.own.props m.2 (first _ parts.1) (second _ parts.0)

  -- ---- the types of numbers

  abbrev node_spec : NodeType Leaf → Spec Leaf
  node_spec type = type.spec

  abbrev NodesLack : List (NodeType Leaf) → ℕ → Type 0
  NodesLack types bound = (number : ℕ) → some_below has_more node_spec types bound number ≡ false → some_below (names key) node_spec types bound number ≡ false →
      LacksAll (fits_below types bound number)

  module _ (types : List (NodeType Leaf)) (bound : ℕ) (before : NodesLack types bound) where
    abbrev in_node : (Braces → Bool) → NodeType Leaf → Bool
    in_node test type = some_braces test (some_below test node_spec types bound) (node_spec type)

    abbrev suits_node : NodeRow → NodeType Leaf → Bool
    suits_node p type = suits of_pairs (fits_below types bound) type.spec p

    node_step : NodesLack types (suc bound)
    node_step number = by (number == bound)
      where
        at : (o : Option (NodeType Leaf)) → option_map_or (in_node has_more) o false ≡ false → option_map_or (in_node (names key)) o false ≡ false →
            LacksAll (λ p. option_map_or (suits_node p) o false)
        at None closed unnamed p h = absurd (true≢false (sym h))
        at (Some type) closed unnamed p h =
            absent key of_pairs (λ q. q) (λ test q e. e) pairs_joined _ _ (fits_below types bound) before type.spec closed unnamed p h

        by : (b : Bool) →
            (elim b [ true ↦ option_map_or (in_node has_more) (slice_get types bound) false | false ↦ some_below has_more node_spec types bound number ]) ≡ false →
            (elim b [ true ↦ option_map_or (in_node (names key)) (slice_get types bound) false | false ↦ some_below (names key) node_spec types bound number ]) ≡ false →
            LacksAll (λ p. elim b [ true ↦ option_map_or (suits_node p) (slice_get types bound) false | false ↦ fits_below types bound number p ])
        by true closed unnamed p h = at (slice_get types bound) closed unnamed p h
        by false closed unnamed p h = before number closed unnamed p h

  node_absent : (types : List (NodeType Leaf)) (bound : ℕ) → NodesLack types bound
  node_absent types zero number closed unnamed p h = absurd (true≢false (sym h))
  node_absent types (suc bound) number closed unnamed p h = node_step types bound (node_absent types bound) number closed unnamed p h

  abbrev edge_spec : EdgeType Leaf → Spec Leaf
  edge_spec type = type.middle

  abbrev EdgesLack : Resolved → ℕ → Type 0
  EdgesLack resolved bound = (number : ℕ) → some_below has_more edge_spec resolved.edges bound number ≡ false →
      some_below (names key) edge_spec resolved.edges bound number ≡ false → LacksOwn (fits_edge_below resolved bound number)

  module _ (resolved : Resolved) (bound : ℕ) (before : EdgesLack resolved bound) where
    abbrev in_edge : (Braces → Bool) → EdgeType Leaf → Bool
    in_edge test type = some_braces test (some_below test edge_spec resolved.edges bound) (edge_spec type)

    abbrev suits_edge : PairTriple → EdgeType Leaf → Bool
    suits_edge t type = fits_edge_type resolved (fits_edge_below resolved bound) type t

    edge_step : EdgesLack resolved (suc bound)
    edge_step number = by (number == bound)
      where
        at : (o : Option (EdgeType Leaf)) → option_map_or (in_edge has_more) o false ≡ false → option_map_or (in_edge (names key)) o false ≡ false →
            LacksOwn (λ t. option_map_or (suits_edge t) o false)
        at None closed unnamed t h = absurd (true≢false (sym h))
        at (Some type) closed unnamed t h =
            triples_joined (has_ends_of resolved type) (suits of_triples (fits_edge_below resolved bound) type.middle)
            (λ u ends. no_entries key u.own.props (and_parts _ _ (and_parts _ _ (and_parts _ _ ends).0).1).1)
            (absent key of_triples (λ u. u.own) (λ test u e. (and_parts _ _ (and_parts _ _ e).0).1) triples_joined _ _
            (fits_edge_below resolved bound) before type.middle closed unnamed) t h

        by : (b : Bool) →
            (elim b [ true ↦ option_map_or (in_edge has_more) (slice_get resolved.edges bound) false | false ↦ some_below has_more edge_spec resolved.edges bound number ])
            ≡ false →
            (elim b [ true ↦ option_map_or (in_edge (names key)) (slice_get resolved.edges bound) false | false ↦ some_below (names key) edge_spec resolved.edges bound number ])
            ≡ false →
            LacksOwn (λ t. elim b [ true ↦ option_map_or (suits_edge t) (slice_get resolved.edges bound) false | false ↦ fits_edge_below resolved bound number t ])
        by true closed unnamed t h = at (slice_get resolved.edges bound) closed unnamed t h
        by false closed unnamed t h = before number closed unnamed t h

  pub edge_absent : (resolved : Resolved) (bound : ℕ) → EdgesLack resolved bound
  edge_absent resolved zero number closed unnamed t h = absurd (true≢false (sym h))
  edge_absent resolved (suc bound) number closed unnamed t h = edge_step resolved bound (edge_absent resolved bound) number closed unnamed t h

  -- ---- schemas

  pub spec_absent : (resolved : Resolved) (spec : Spec Leaf) → is_closed resolved spec ≡ true → names_key resolved spec key ≡ false → LacksAll (fits resolved spec)
  spec_absent resolved spec closed unnamed p h =
      absent key of_pairs (λ q. q) (λ test q e. e) pairs_joined _ _ (fits_node resolved) (node_absent resolved.nodes (length resolved.nodes)) spec
      (not-true _ closed) unnamed p h
