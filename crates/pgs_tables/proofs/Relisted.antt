-- The lists of edges at a node, edited for each change of an edge, are the edges at the node after the changes.
use Rattle.std.proofs.Common.{◌≡◌, ℕ, ◌==◌, Bool, true, false, cond, ◌||◌, ◌&&◌, List, [], ◌∷◌, Option, Some, None, is_some, unwrap_or, fold, refl, sym, ap, ◌∙◌, Less, is_eq, rules}
use Rattle.std.specs.Ordering.{nat_cmp}
use Rattle.std.specs.List.{AllByRecursion, list_any}
use Rattle.std.specs.List.Sorted.{IsStrictlySortedBy}
use Rattle.std.specs.Map.{keys_of, lookup}
use Rattle.std.specs.BTreeMap.{is_at}
use Rattle.pgs_base.specs.declared.element.NodeId.{NodeId}
use Rattle.pgs_base.specs.declared.element.EdgeId.{EdgeId}
use Rattle.pgs_base.specs.declared.row.EdgeRow.{EdgeRow}
use Rattle.pgs_base.specs.Graph.{node_cmp, edge_cmp}
use Rattle.pgs_graph.specs.declared.scan.End.TheVariants.{Source, Target}
use Rattle.pgs_graph.specs.Reads.{edges_with}
use Rattle.pgs_graph.specs.Changed.{entry_changed, entries_changed}
use Rattle.pgs_graph.specs.Lists.{list_edited, edited_with}
use Rattle.pgs_graph.proofs.Deltas.{edge_cmp_total, ascending-entry_changed}
use Rattle.pgs_graph.proofs.EdgeLists.{edited-changed}
use Rattle.pgs_tables.proofs.Rows.{lookup-changed}
use Rattle.pgs_tables.specs.declared.edit.Side.{Side}
use Rattle.pgs_tables.specs.declared.edit.Side.TheVariants.{Out, In}
use Rattle.pgs_tables.specs.declared.node_edges.NodeEdges.{NodeEdges}
use Rattle.pgs_tables.specs.Adjacency.{is_end_of}
use Rattle.pgs_tables.specs.Relists.{side_edited, relisted, relisted_ends, relisted_change}

nat_tied : (a b : ℕ) → is_eq (nat_cmp a b) ≡ (a == b)
nat_tied a b = search rules

-- the edges at a node, of a list of edges
abbrev pub edges_here : List (EdgeId × EdgeRow) → NodeId → NodeEdges
edges_here es q = record { outgoing = edges_with Source q es; incoming = edges_with Target q es }

-- an edit at both ends of an edge, where there is one
abbrev ends_edited : NodeId → Bool → EdgeId → Option EdgeRow → NodeEdges → NodeEdges
ends_edited q adds edge row edges = record {
  outgoing = edited_with Source q adds edge row edges.outgoing;
  incoming = edited_with Target q adds edge row edges.incoming;
}

shuffled : (a b c d : Bool) → (a || (b || (c || d))) ≡ (((c || b) || a) || d)
shuffled true true true d = refl
shuffled true true false d = refl
shuffled true false true d = refl
shuffled true false false d = refl
shuffled false true true d = refl
shuffled false true false d = refl
shuffled false false true d = refl
shuffled false false false d = refl

module _ (base : NodeEdges) (q : NodeId) where
  -- the edges that are made already, and else those that the node had
  abbrev pub current : Option NodeEdges → NodeEdges
  current made = unwrap_or made base

  current-relisted : (b : Bool) (side : Side) (adds : Bool) (edge : EdgeId) (made : Option NodeEdges) →
      current (cond (b && true) (Some (side_edited side adds edge (current made))) made) ≡ cond b (side_edited side adds edge (current made)) (current made)
  current-relisted true side adds edge made = refl
  current-relisted false side adds edge made = refl

  some-relisted : (b : Bool) (edges : NodeEdges) (made : Option NodeEdges) → is_some (cond (b && true) (Some edges) made) ≡ (b || is_some made)
  some-relisted true edges made = refl
  some-relisted false edges made = refl

  both_sides : (s t : Bool) (adds : Bool) (edge : EdgeId) (edges : NodeEdges) →
      cond t (side_edited In adds edge (cond s (side_edited Out adds edge edges) edges)) (cond s (side_edited Out adds edge edges) edges)
      ≡ record { outgoing = cond s (list_edited adds edge edges.outgoing) edges.outgoing; incoming = cond t (list_edited adds edge edges.incoming) edges.incoming }
  both_sides true true adds edge edges = refl
  both_sides true false adds edge edges = refl
  both_sides false true adds edge edges = refl
  both_sides false false adds edge edges = refl

  current-ends : (adds : Bool) (edge : EdgeId) (row : Option EdgeRow) (made : Option NodeEdges) →
      current (relisted_ends base true q adds edge row made) ≡ ends_edited q adds edge row (current made)
  current-ends adds edge None made = refl
  current-ends adds edge (Some row) made =
      let s = is_at (node_cmp row.source) q in
      let t = is_at (node_cmp row.target) q in
      let out = relisted base true q row.source Out adds edge made in
      current-relisted t In adds edge out
      ∙ ap (λ edges. cond t (side_edited In adds edge edges) edges) (current-relisted s Out adds edge made)
      ∙ both_sides s t adds edge (current made)
      ∙ ap (λ b. record {
        outgoing = cond b (list_edited adds edge (current made).outgoing) (current made).outgoing;
        incoming = cond t (list_edited adds edge (current made).incoming) (current made).incoming;
      }) (nat_tied row.source.0 q.0)
      ∙ ap (λ b. record {
        outgoing = cond (row.source.0 == q.0) (list_edited adds edge (current made).outgoing) (current made).outgoing;
        incoming = cond b (list_edited adds edge (current made).incoming) (current made).incoming;
      }) (nat_tied row.target.0 q.0)

  some-ends : (adds : Bool) (edge : EdgeId) (row : Option EdgeRow) (made : Option NodeEdges) →
      is_some (relisted_ends base true q adds edge row made) ≡ (is_end_of q row || is_some made)
  some-ends adds edge None made = refl
  some-ends adds edge (Some row) made =
      let s = is_at (node_cmp row.source) q in
      let t = is_at (node_cmp row.target) q in
      let out = relisted base true q row.source Out adds edge made in
      some-relisted t (side_edited In adds edge (current out)) out
      ∙ ap (λ b. t || b) (some-relisted s (side_edited Out adds edge (current made)) made)
      ∙ turned s t (is_some made)
      ∙ ap (λ b. (b || t) || is_some made) (nat_tied row.source.0 q.0)
      ∙ ap (λ b. ((row.source.0 == q.0) || b) || is_some made) (nat_tied row.target.0 q.0)
    where
      turned : (s t m : Bool) → (t || (s || m)) ≡ ((s || t) || m)
      turned true true m = refl
      turned true false m = refl
      turned false true m = refl
      turned false false m = refl

  module _ (old : EdgeId → Option EdgeRow) where
    step : Option NodeEdges → EdgeId × Option EdgeRow → Option NodeEdges
    step made change = relisted_change base true q old made change

    -- the rows of later edges stay
    later : (es : List (EdgeId × EdgeRow)) (edge : EdgeId) (new : Option EdgeRow) → IsStrictlySortedBy edge_cmp (keys_of es) → (ks : List EdgeId) →
        AllByRecursion (λ y. edge_cmp edge y ≡ Less) ks → AllByRecursion (λ k. old k ≡ lookup (is_at (edge_cmp k)) es) ks →
        AllByRecursion (λ k. old k ≡ lookup (is_at (edge_cmp k)) (entry_changed edge_cmp es edge new)) ks
    later es edge new sorted [] below stood = tt
    later es edge new sorted (k ∷ ks) below stood =
        let apart : is_at (edge_cmp edge) k ≡ false = ap is_eq below.0 in
        (stood.0 ∙ sym (lookup-changed edge_cmp_total k edge new es sorted ∙ ap (λ b. cond b new (lookup (is_at (edge_cmp k)) es)) apart), later es edge new sorted ks below.1 stood.1)

    -- after changes of ascending numbers the lists are those of the changed edges
    pub current-all : (es : List (EdgeId × EdgeRow)) (changes : List (EdgeId × Option EdgeRow)) (made : Option NodeEdges) → IsStrictlySortedBy edge_cmp (keys_of es) →
        IsStrictlySortedBy edge_cmp (keys_of changes) → AllByRecursion (λ k. old k ≡ lookup (is_at (edge_cmp k)) es) (keys_of changes) → current made ≡ edges_here es q →
        current (fold (relisted_change base true q old) made changes) ≡ edges_here (entries_changed edge_cmp es changes) q
    unfolding IsStrictlySortedBy
    current-all es [] made sorted ascending stood now = now
    current-all es (c ∷ cs) made sorted ascending stood now =
        current-all (entry_changed edge_cmp es c.0 c.1) cs (relisted_change base true q old made c) (ascending-entry_changed edge_cmp_total c.0 c.1 es sorted) ascending.1
        (later es c.0 c.1 sorted (keys_of cs) ascending.0 stood.1)
        (current-ends true c.0 c.1 (relisted_ends base true q false c.0 (old c.0) made)
        ∙ ap (ends_edited q true c.0 c.1) (current-ends false c.0 (old c.0) made)
        ∙ ap (λ o. ends_edited q true c.0 c.1 (ends_edited q false c.0 o (current made))) stood.0
        ∙ ap (λ edges. ends_edited q true c.0 c.1 (ends_edited q false c.0 (lookup (is_at (edge_cmp c.0)) es) edges)) now
        ∙ (λ i. record { outgoing = edited-changed Source q es c.0 sorted c.1 i; incoming = edited-changed Target q es c.0 sorted c.1 i }))

    -- there are such lists exactly where the node is an old or a new end of one of the edges
    pub some-all : (changes : List (EdgeId × Option EdgeRow)) (made : Option NodeEdges) →
        is_some (fold (relisted_change base true q old) made changes)
        ≡ (list_any (λ (c : EdgeId × Option EdgeRow). is_end_of q (old c.0) || is_end_of q c.1) changes || is_some made)
    some-all [] made = refl
    some-all (c ∷ cs) made =
        some-all cs (relisted_change base true q old made c)
        ∙ ap (λ b. list_any (λ (c : EdgeId × Option EdgeRow). is_end_of q (old c.0) || is_end_of q c.1) cs || b)
        (some-ends true c.0 c.1 (relisted_ends base true q false c.0 (old c.0) made) ∙ ap (λ b. is_end_of q c.1 || b) (some-ends false c.0 (old c.0) made))
        ∙ shuffled (list_any (λ (c : EdgeId × Option EdgeRow). is_end_of q (old c.0) || is_end_of q c.1) cs) (is_end_of q c.1) (is_end_of q (old c.0)) (is_some made)

    -- the lists of a node that is taken out are not made
    none-ends : (adds : Bool) (edge : EdgeId) (row : Option EdgeRow) (made : Option NodeEdges) → relisted_ends base false q adds edge row made ≡ made
    none-ends adds edge None made = refl
    none-ends adds edge (Some row) made = unmade (is_at (node_cmp row.target) q) _ _ ∙ unmade (is_at (node_cmp row.source) q) _ made
      where
        unmade : (b : Bool) (edges : NodeEdges) (made : Option NodeEdges) → cond (b && false) (Some edges) made ≡ made
        unmade true edges made = refl
        unmade false edges made = refl

    pub none-all : (changes : List (EdgeId × Option EdgeRow)) (made : Option NodeEdges) → fold (relisted_change base false q old) made changes ≡ made
    none-all [] made = refl
    none-all (c ∷ cs) made =
        none-all cs (relisted_change base false q old made c) ∙ none-ends true c.0 c.1 (relisted_ends base false q false c.0 (old c.0) made) ∙ none-ends false c.0 (old c.0) made
