-- Lists of edges by ascending numbers: those at a node, and the least of them.
use Rattle.std.proofs.Common.{◌≡◌, ℕ, zero, suc, ◌+◌, ◌<◌, ◌≤◌, Bool, true, false, cond, ◌||◌, ◌==◌, not, List, [], ◌∷◌, length, take, get_or, slice_get, Option, Some, None, is_some, Ok, Err, refl, sym, ◌∙◌, ap, subst, true≢false, arith, Less, is_eq, filter}
use Rattle.std.specs.Cmp.{ranks, tied_itself, Equal-is}
use Rattle.std.specs.Ordering.{MatchOrdering}
use Rattle.std.specs.List.{AllByRecursion, list_any, list_all}
use Rattle.std.specs.List.Sorted.{IsStrictlySortedBy}
use Rattle.std.specs.Map.{keys_of, lookup, remove_entry}
use Rattle.std.specs.BTreeMap.{is_at}
use Rattle.std.proofs.lemmas.Bool.{and_parts, and_from, or_left, or_right}
use Rattle.std.proofs.lemmas.List.Folds.{list_all_more}
use Rattle.std.proofs.lemmas.Option.{slice_get_within}
use Rattle.pgs_base.specs.declared.element.NodeId.{NodeId}
use Rattle.pgs_base.specs.declared.element.EdgeId.{EdgeId}
use Rattle.pgs_base.specs.declared.row.EdgeRow.{EdgeRow}
use Rattle.pgs_base.specs.Graph.{Graph, edge_cmp, is_end, without_node}
use Rattle.pgs_graph.specs.declared.scan.End.{End}
use Rattle.pgs_graph.specs.Reads.{end_of, ends_at, edges_with}
use Rattle.pgs_graph.proofs.Deltas.{edge_cmp_total, exact_edge, absent_below}
use Rattle.pgs_violation.specs.declared.structural.Cause.TheVariants.{HasEdges}
use Rattle.pgs_violation.specs.Staging.{Unable, lone_node_removed}
use Rattle.pgs_txn.specs.Looks.{first_number}
use Rattle.pgs_txn.specs.Rows.{has_end, IsLeast}

-- tests that agree have one least edge
pub least_same : (p q : EdgeId → Bool) → ((edge : EdgeId) → p edge ≡ q edge) → (o : Option EdgeId) → IsLeast p o → IsLeast q o
least_same p q same None none = λ edge. sym (same edge) ∙ none edge
least_same p q same (Some edge) least = (sym (same edge) ∙ least.0, λ other h. least.1 other (same other ∙ h))

tie : (a b : EdgeId) → is_at (edge_cmp a) b ≡ true → a ≡ b
tie a b h = exact_edge a b ((Equal-is (edge_cmp a b)).0 h)

below : (a b : EdgeId) → edge_cmp a b ≡ Less → a.0 < b.0
below a b less = subst (λ o. MatchOrdering o (a.0 < b.0) (a.0 ≡ b.0) (b.0 < a.0)) less (ranks a.0 b.0)

-- what is found among greater edges is greater
found_above : (k : EdgeId) (es : List (EdgeId × EdgeRow)) → AllByRecursion (λ y. edge_cmp k y ≡ Less) (keys_of es) → (edge : EdgeId) →
    is_some (lookup (is_at (edge_cmp edge)) es) ≡ true → k.0 < edge.0
found_above k [] above edge there = absurd (true≢false (sym there))
found_above k (e ∷ es) above edge there = by (found_above k es above.1 edge) (is_at (edge_cmp edge) e.0) refl there
  where
    by : (is_some (lookup (is_at (edge_cmp edge)) es) ≡ true → k.0 < edge.0) → (b : Bool) → is_at (edge_cmp edge) e.0 ≡ b →
        is_some (cond b (Some e.1) (lookup (is_at (edge_cmp edge)) es)) ≡ true → k.0 < edge.0
    by rest true same h = subst (λ (x : EdgeId). k.0 < x.0) (sym (tie edge e.0 same)) (below k e.0 above.0)
    by rest false other h = rest h

module _ (id : NodeId) where
  abbrev at_node : EdgeId × EdgeRow → Bool
  at_node edge = is_end id edge.1

  abbrev away : EdgeId × EdgeRow → Bool
  away edge = not (is_end id edge.1)

  abbrev is_among : List (EdgeId × EdgeRow) → EdgeId → Bool
  is_among es edge = has_end id (lookup (is_at (edge_cmp edge)) es)

  -- the first of the edges at a node is the least one
  pub first_is_least : (es : List (EdgeId × EdgeRow)) → IsStrictlySortedBy edge_cmp (keys_of es) → (o : Option EdgeId) → IsLeast (is_among es) o →
      first_number (filter at_node es) ≡ o
  unfolding IsStrictlySortedBy
  first_is_least [] sorted None least = refl
  first_is_least [] sorted (Some edge) least = absurd (true≢false (sym least.0))
  first_is_least (x ∷ xs) sorted o least = by (is_end id x.1) refl o least (first_is_least xs sorted.1)
    where
      at_first : is_among (x ∷ xs) x.0 ≡ is_end id x.1
      at_first = ap (λ b. has_end id (cond (is_eq b) (Some x.1) (lookup (is_at (edge_cmp x.0)) xs))) (tied_itself edge_cmp_total x.0)

      some_end : (o : Option EdgeRow) → has_end id o ≡ true → is_some o ≡ true
      some_end None h = h
      some_end (Some row) h = refl

      head : (edge : EdgeId) → is_among (x ∷ xs) edge ≡ true → edge.0 ≤ x.0.0 → (b : Bool) → is_at (edge_cmp edge) x.0 ≡ b → Some x.0 ≡ Some edge
      head edge there least true same = ap Some (sym (tie edge x.0 same))
      head edge there least false other =
          let later = ap (λ b. has_end id (cond b (Some x.1) (lookup (is_at (edge_cmp edge)) xs))) (sym other) ∙ there in
          let above = found_above x.0 xs sorted.0 edge (some_end (lookup (is_at (edge_cmp edge)) xs) later) in
          absurd (omega arith)

      same : is_end id x.1 ≡ false → (edge : EdgeId) (b : Bool) → is_at (edge_cmp edge) x.0 ≡ b →
          has_end id (cond b (Some x.1) (lookup (is_at (edge_cmp edge)) xs)) ≡ is_among xs edge
      same own edge true tied =
          own ∙ ap (has_end id) (sym (absent_below {W = EdgeRow} edge_cmp_total edge x.0 ((Equal-is (edge_cmp edge x.0)).0 tied) xs sorted.0))
      same own edge false other = refl

      by : (b : Bool) → is_end id x.1 ≡ b → (o : Option EdgeId) → IsLeast (is_among (x ∷ xs)) o → ((o : Option EdgeId) → IsLeast (is_among xs) o → first_number (filter at_node xs) ≡ o) →
          first_number (cond b (x ∷ filter at_node xs) (filter at_node xs)) ≡ o
      by true own None least rest = absurd (true≢false (sym own ∙ sym at_first ∙ least x.0))
      by true own (Some edge) least rest = head edge least.0 (least.1 x.0 (at_first ∙ own)) (is_at (edge_cmp edge) x.0) refl
      by false own o least rest = rest o (least_same (is_among (x ∷ xs)) (is_among xs) (λ edge. same own edge (is_at (edge_cmp edge) x.0) refl) o least)

  pub lone_from_first : (g : Graph) (es : List (EdgeId × EdgeRow)) → first_number es ≡ None → lone_node_removed g id es ≡ Ok (without_node g id)
  lone_from_first g [] none = refl
  lone_from_first g (e ∷ es) none = cc

  pub refused_from_first : (g : Graph) (es : List (EdgeId × EdgeRow)) (edge : EdgeId) → first_number es ≡ Some edge → lone_node_removed g id es ≡ Err (Unable (HasEdges id edge))
  refused_from_first g [] edge first = cc
  refused_from_first g (e ∷ es) edge first = let same : e.0 ≡ edge = cc in ap (λ x. Err (Unable (HasEdges id x))) same

  -- where no edge is at a node, all stay
  pub all_away : (es : List (EdgeId × EdgeRow)) → first_number (filter at_node es) ≡ None → filter away es ≡ es
  all_away [] none = refl
  all_away (x ∷ xs) none = by (is_end id x.1) none (all_away xs)
    where
      by : (b : Bool) → first_number (cond b (x ∷ filter at_node xs) (filter at_node xs)) ≡ None → (first_number (filter at_node xs) ≡ None → filter away xs ≡ xs) →
          cond (not b) (x ∷ filter away xs) (filter away xs) ≡ x ∷ xs
      by true h rest = cc
      by false h rest = ap (λ l. x ∷ l) (rest h)

  -- an edge at a node makes no difference to the other ones
  pub away_without : (edge : EdgeId) (es : List (EdgeId × EdgeRow)) → is_among es edge ≡ true → filter away (remove_entry (is_at (edge_cmp edge)) es) ≡ filter away es
  away_without edge [] there = refl
  away_without edge (x ∷ xs) there = by (is_at (edge_cmp edge) x.0) there (away_without edge xs)
    where
      by : (b : Bool) → has_end id (cond b (Some x.1) (lookup (is_at (edge_cmp edge)) xs)) ≡ true →
          (is_among xs edge ≡ true → filter away (remove_entry (is_at (edge_cmp edge)) xs) ≡ filter away xs) →
          filter away (cond b xs (x ∷ remove_entry (is_at (edge_cmp edge)) xs)) ≡ filter away (x ∷ xs)
      by true own rest = ap (λ b. cond (not b) (x ∷ filter away xs) (filter away xs)) (sym own)
      by false h rest = ap (λ l. cond (not (is_end id x.1)) (x ∷ l) l) (rest h)

-- ---- the edges with a node as one of their ends

module _ (end : End) (id : NodeId) where
  all_kept : (P : EdgeId → Type 0) (es : List (EdgeId × EdgeRow)) → AllByRecursion P (keys_of es) → AllByRecursion P (edges_with end id es)
  all_kept P [] all = tt
  all_kept P (e ∷ es) all = by (ends_at end id e) (all_kept P es all.1)
    where
      by : (b : Bool) → AllByRecursion P (edges_with end id es) → AllByRecursion P (keys_of (cond b (e ∷ filter (ends_at end id) es) (filter (ends_at end id) es)))
      by true rest = (all.0, rest)
      by false rest = rest

  pub ascending_with : (es : List (EdgeId × EdgeRow)) → IsStrictlySortedBy edge_cmp (keys_of es) → IsStrictlySortedBy edge_cmp (edges_with end id es)
  unfolding IsStrictlySortedBy
  ascending_with [] sorted = tt
  ascending_with (e ∷ es) sorted = by (ends_at end id e) (ascending_with es sorted.1)
    where
      by : (b : Bool) → IsStrictlySortedBy edge_cmp (edges_with end id es) →
          IsStrictlySortedBy edge_cmp (keys_of (cond b (e ∷ filter (ends_at end id) es) (filter (ends_at end id) es)))
      by true rest = (all_kept (λ y. edge_cmp e.0 y ≡ Less) es sorted.0, rest)
      by false rest = rest

  pub length_with : (es : List (EdgeId × EdgeRow)) → length (edges_with end id es) ≤ length es
  length_with [] = omega arith
  length_with (e ∷ es) = by (ends_at end id e) (length_with es)
    where
      by : (b : Bool) → length (edges_with end id es) ≤ length es → length (keys_of (cond b (e ∷ filter (ends_at end id) es) (filter (ends_at end id) es))) ≤ length (e ∷ es)
      by true rest = omega arith
      by false rest = omega arith

  abbrev ends_here : Option EdgeRow → Bool
  ends_here None = false
  ends_here (Some row) = (end_of end row).0 == id.0

  -- an edge that has the node as this end is among them
  pub with_has : (es : List (EdgeId × EdgeRow)) (edge : EdgeId) → ends_here (lookup (is_at (edge_cmp edge)) es) ≡ true → list_any (is_at (edge_cmp edge)) (edges_with end id es) ≡ true
  with_has [] edge there = there
  with_has (e ∷ es) edge there = by (is_at (edge_cmp edge) e.0) refl there (with_has es edge)
    where
      later : (c : Bool) → list_any (is_at (edge_cmp edge)) (edges_with end id es) ≡ true →
          list_any (is_at (edge_cmp edge)) (keys_of (cond c (e ∷ filter (ends_at end id) es) (filter (ends_at end id) es))) ≡ true
      later true h = or_right (is_at (edge_cmp edge) e.0) (list_any (is_at (edge_cmp edge)) (edges_with end id es)) h
      later false h = h

      here : (c : Bool) → c ≡ true → is_at (edge_cmp edge) e.0 ≡ true →
          list_any (is_at (edge_cmp edge)) (keys_of (cond c (e ∷ filter (ends_at end id) es) (filter (ends_at end id) es))) ≡ true
      here true h same = or_left (is_at (edge_cmp edge) e.0) (list_any (is_at (edge_cmp edge)) (edges_with end id es)) same
      here false h same = absurd (true≢false (sym h))

      by : (b : Bool) → is_at (edge_cmp edge) e.0 ≡ b → ends_here (cond b (Some e.1) (lookup (is_at (edge_cmp edge)) es)) ≡ true →
          (ends_here (lookup (is_at (edge_cmp edge)) es) ≡ true → list_any (is_at (edge_cmp edge)) (edges_with end id es) ≡ true) →
          list_any (is_at (edge_cmp edge)) (edges_with end id (e ∷ es)) ≡ true
      by true same h rest = here (ends_at end id e) h same
      by false other h rest = later (ends_at end id e) (rest h)

-- ---- a test that the first edges of a list pass

module _ (c : EdgeId → Bool) where
  pub any_passes : (xs : List EdgeId) → list_all c xs ≡ true → (edge : EdgeId) → list_any (is_at (edge_cmp edge)) xs ≡ true → c edge ≡ true
  any_passes [] all edge there = absurd (true≢false (sym there))
  any_passes (x ∷ xs) all edge there = by (any_passes xs (and_parts (c x) (list_all c xs) all).1 edge) (is_at (edge_cmp edge) x) refl there
    where
      by : (list_any (is_at (edge_cmp edge)) xs ≡ true → c edge ≡ true) → (b : Bool) → is_at (edge_cmp edge) x ≡ b →
          (b || list_any (is_at (edge_cmp edge)) xs) ≡ true → c edge ≡ true
      by rest true same h = ap c (tie edge x same) ∙ (and_parts (c x) (list_all c xs) all).0
      by rest false other h = rest h

  above_all : (x : EdgeId) (xs : List EdgeId) → AllByRecursion (λ y. edge_cmp x y ≡ Less) xs → (edge : EdgeId) → list_any (is_at (edge_cmp edge)) xs ≡ true → x.0 < edge.0
  above_all x [] above edge there = absurd (true≢false (sym there))
  above_all x (y ∷ ys) above edge there = by (above_all x ys above.1 edge) (is_at (edge_cmp edge) y) refl there
    where
      by : (list_any (is_at (edge_cmp edge)) ys ≡ true → x.0 < edge.0) → (b : Bool) → is_at (edge_cmp edge) y ≡ b →
          (b || list_any (is_at (edge_cmp edge)) ys) ≡ true → x.0 < edge.0
      by rest true same h = subst (λ (z : EdgeId). x.0 < z.0) (sym (tie edge y same)) (below x y above.0)
      by rest false other h = rest h

  -- where the edges before a place pass, and one after them doesn't, that one isn't less than the edge at the place
  pub none_less : (xs : List EdgeId) → IsStrictlySortedBy edge_cmp xs → (nth : ℕ) (edge : EdgeId) → slice_get xs nth ≡ Some edge → list_all c (take nth xs) ≡ true →
      (other : EdgeId) → list_any (is_at (edge_cmp other)) xs ≡ true → c other ≡ false → edge.0 ≤ other.0
  unfolding IsStrictlySortedBy
  none_less [] sorted nth edge at all other there fails = absurd (true≢false (sym there))
  none_less (x ∷ xs) sorted zero edge at all other there fails =
      let same : x ≡ edge = cc in subst (λ (e : EdgeId). e.0 ≤ other.0) same (by (is_at (edge_cmp other) x) refl there)
    where
      by : (b : Bool) → is_at (edge_cmp other) x ≡ b → (b || list_any (is_at (edge_cmp other)) xs) ≡ true → x.0 ≤ other.0
      by true same h = let e = ap (λ (e : EdgeId). e.0) (tie other x same) in omega arith
      by false apart h = let above = above_all x xs sorted.0 other h in omega arith
  none_less (x ∷ xs) sorted (suc nth) edge at all other there fails =
      by (λ h. none_less xs sorted.1 nth edge at (and_parts (c x) (list_all c (take nth xs)) all).1 other h fails) (is_at (edge_cmp other) x) refl there
    where
      by : (list_any (is_at (edge_cmp other)) xs ≡ true → edge.0 ≤ other.0) → (b : Bool) → is_at (edge_cmp other) x ≡ b →
          (b || list_any (is_at (edge_cmp other)) xs) ≡ true → edge.0 ≤ other.0
      by rest true same h = absurd (true≢false (sym (ap c (tie other x same) ∙ (and_parts (c x) (list_all c (take nth xs)) all).0) ∙ fails))
      by rest false apart h = rest h

  at_place : (xs : List EdgeId) (nth : ℕ) (edge : EdgeId) → slice_get xs nth ≡ Some edge → get_or xs nth edge ≡ edge
  at_place [] nth edge at = cc
  at_place (x ∷ xs) zero edge at = cc
  at_place (x ∷ xs) (suc nth) edge at = at_place xs nth edge at

  pub one_more_passes : (xs : List EdgeId) (nth : ℕ) (edge : EdgeId) → slice_get xs nth ≡ Some edge → list_all c (take nth xs) ≡ true → c edge ≡ true →
      list_all c (take (nth + 1) xs) ≡ true
  one_more_passes xs nth edge at all own =
      list_all_more c xs nth edge (slice_get_within xs nth edge at)
      ∙ and_from (list_all c (take nth xs)) (c (get_or xs nth edge)) all (ap c (at_place xs nth edge at) ∙ own)

pub all_weaker : (c d : EdgeId → Bool) → ((edge : EdgeId) → c edge ≡ true → d edge ≡ true) → (xs : List EdgeId) → list_all c xs ≡ true → list_all d xs ≡ true
all_weaker c d weaker [] all = refl
all_weaker c d weaker (x ∷ xs) all =
    let parts = and_parts (c x) (list_all c xs) all in and_from (d x) (list_all d xs) (weaker x parts.0) (all_weaker c d weaker xs parts.1)
