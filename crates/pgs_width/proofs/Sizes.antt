-- Types with their widths, one type after another.
use Rattle.std.proofs.Common.{◌≡◌, ℕ, suc, ◌+◌, ◌<◌, List, [], ◌∷◌, ◌++◌, length, map, take, drop, get_or, refl, sym, ◌∙◌, ap, arith, add-one, length-append}
use Rattle.std.proofs.lemmas.List.{append_assoc, map-append, take_more}
use Rattle.std.proofs.Math.Seq.{drop-cons}
use Rattle.pgs_syntax.specs.declared.element_type.NodeType.{NodeType}
use Rattle.pgs_syntax.specs.declared.element_type.EdgeType.{EdgeType}
use Rattle.pgs_syntax.specs.declared.specification.Leaf.{Leaf}
use Rattle.pgs_syntax.specs.Width.{Width, Sized, width_of, node_widths, edge_width, edge_widths, sized_nodes, sized_edges}
use Rattle.pgs_width.specs.declared.capped.CappedWidth.{CappedWidth}
use Rattle.pgs_width.specs.declared.sized.SizedType.{SizedType}
use Rattle.pgs_width.specs.Capped.{capped_width}
use Rattle.pgs_width.specs.First.{capped_type}

-- the items that are left
pub left : {X : Type 0} (xs : List X) (i : ℕ) (x : X) → i < length xs → x ≡ get_or xs i x → drop i xs ≡ x ∷ drop (i + 1) xs
left xs i x lt is = drop-cons xs i x lt ∙ ap (λ y. y ∷ drop (suc i) xs) (sym is) ∙ ap (λ n. x ∷ drop n xs) (sym (add-one i))

-- one more item of those that are taken
pub one_more : {X : Type 0} (xs : List X) (i : ℕ) (x : X) → i < length xs → x ≡ get_or xs i x → take (i + 1) xs ≡ take i xs ++ x ∷ []
one_more xs i x lt is = take_more xs i x lt ∙ ap (λ y. take i xs ++ y ∷ []) (sym is)

push_longer : {X Y : Type 0} (xs : List X) (ys : List Y) (x : X) (y : Y) → length xs ≡ length ys → length (xs ++ x ∷ []) ≡ length (ys ++ y ∷ [])
push_longer xs ys x y same = omega (arith, length-append xs (x ∷ []), length-append ys (y ∷ []))

-- ---- node types

pub node_widths_push : (before : List Width) (xs : List (NodeType Leaf)) (x : NodeType Leaf) →
    node_widths before (xs ++ x ∷ []) ≡ node_widths before xs ++ width_of (node_widths before xs) x.spec ∷ []
node_widths_push before [] x = refl
node_widths_push before (y ∷ ys) x = node_widths_push (before ++ width_of before y.spec ∷ []) ys x

pub node_widths_length : (before : List Width) (xs : List (NodeType Leaf)) → length (node_widths before xs) ≡ length before + length xs
node_widths_length before [] = omega arith
node_widths_length before (x ∷ xs) =
    let h = node_widths_length (before ++ width_of before x.spec ∷ []) xs in
    let e = length-append before (width_of before x.spec ∷ []) in omega (arith, h, e)

sized_nodes_push : (xs : List (NodeType Leaf)) (ws : List Width) (x : NodeType Leaf) (w : Width) → length ws ≡ length xs →
    sized_nodes (xs ++ x ∷ []) (ws ++ w ∷ []) ≡ sized_nodes xs ws ++ record { name = x.name; place = x.place; width = w } ∷ []
sized_nodes_push [] [] x w same = refl
sized_nodes_push [] (v ∷ ws) x w same = absurd (omega arith)
sized_nodes_push (y ∷ ys) [] x w same = absurd (omega arith)
sized_nodes_push (y ∷ ys) (v ∷ ws) x w same =
    ap (λ (rest : List Sized). record { name = y.name; place = y.place; width = v } ∷ rest) (sized_nodes_push ys ws x w (omega arith))

module _ (types : List (NodeType Leaf)) (i : ℕ) (type : NodeType Leaf) (width : CappedWidth) where
  abbrev known : List Width
  known = node_widths [] (take i types)

  after_is : i < length types → type ≡ get_or types i type → node_widths [] (take (i + 1) types) ≡ known ++ width_of known type.spec ∷ []
  after_is lt is = ap (node_widths []) (one_more types i type lt is) ∙ node_widths_push [] (take i types) type

  pub node_widths_more : (old new : List CappedWidth) → i < length types → type ≡ get_or types i type → old ≡ map capped_width known →
      width ≡ capped_width (width_of known type.spec) → new ≡ old ++ width ∷ [] → new ≡ map capped_width (node_widths [] (take (i + 1) types))
  node_widths_more old new lt is o w n =
      n ∙ ap (λ ws. ws ++ width ∷ []) o ∙ ap (λ v. map capped_width known ++ v ∷ []) w
      ∙ sym (map-append capped_width known (width_of known type.spec ∷ [])) ∙ ap (map capped_width) (sym (after_is lt is))

  pub sized_nodes_more : (start old new : List SizedType) → i < length types → type ≡ get_or types i type →
      old ≡ start ++ map capped_type (sized_nodes (take i types) known) → width ≡ capped_width (width_of known type.spec) →
      new ≡ old ++ record { name = type.name; place = type.place; width = width } ∷ [] →
      new ≡ start ++ map capped_type (sized_nodes (take (i + 1) types) (node_widths [] (take (i + 1) types)))
  sized_nodes_more start old new lt is o w n =
      let own : Sized = record { name = type.name; place = type.place; width = width_of known type.spec } in
      n ∙ ap (λ es. es ++ record { name = type.name; place = type.place; width = width } ∷ []) o
      ∙ ap (λ (v : CappedWidth). (start ++ map capped_type (sized_nodes (take i types) known)) ++ record { name = type.name; place = type.place; width = v } ∷ []) w
      ∙ append_assoc start _ (capped_type own ∷ []) ∙ ap (λ es. start ++ es) (sym (map-append capped_type (sized_nodes (take i types) known) (own ∷ [])))
      ∙ ap (λ es. start ++ map capped_type es) (sym (sized_nodes_push (take i types) known type (width_of known type.spec) (node_widths_length [] (take i types) ∙ omega arith)))
      ∙ ap (λ xs. start ++ map capped_type (sized_nodes xs (known ++ width_of known type.spec ∷ []))) (sym (one_more types i type lt is))
      ∙ ap (λ ws. start ++ map capped_type (sized_nodes (take (i + 1) types) ws)) (sym (after_is lt is))

-- ---- edge types

module _ (nodes : List Width) where
  pub edge_widths_push : (before : List Width) (xs : List (EdgeType Leaf)) (x : EdgeType Leaf) →
      edge_widths nodes before (xs ++ x ∷ []) ≡ edge_widths nodes before xs ++ edge_width nodes (edge_widths nodes before xs) x ∷ []
  edge_widths_push before [] x = refl
  edge_widths_push before (y ∷ ys) x = edge_widths_push (before ++ edge_width nodes before y ∷ []) ys x

  pub edge_widths_length : (before : List Width) (xs : List (EdgeType Leaf)) → length (edge_widths nodes before xs) ≡ length before + length xs
  edge_widths_length before [] = omega arith
  edge_widths_length before (x ∷ xs) =
      let h = edge_widths_length (before ++ edge_width nodes before x ∷ []) xs in
      let e = length-append before (edge_width nodes before x ∷ []) in omega (arith, h, e)

sized_edges_push : (xs : List (EdgeType Leaf)) (ws : List Width) (x : EdgeType Leaf) (w : Width) → length ws ≡ length xs →
    sized_edges (xs ++ x ∷ []) (ws ++ w ∷ []) ≡ sized_edges xs ws ++ record { name = x.name; place = x.place; width = w } ∷ []
sized_edges_push [] [] x w same = refl
sized_edges_push [] (v ∷ ws) x w same = absurd (omega arith)
sized_edges_push (y ∷ ys) [] x w same = absurd (omega arith)
sized_edges_push (y ∷ ys) (v ∷ ws) x w same =
    ap (λ (rest : List Sized). record { name = y.name; place = y.place; width = v } ∷ rest) (sized_edges_push ys ws x w (omega arith))

module _ (nodes : List Width) (types : List (EdgeType Leaf)) (i : ℕ) (type : EdgeType Leaf) (width : CappedWidth) where
  abbrev so_far : List Width
  so_far = edge_widths nodes [] (take i types)

  then_is : i < length types → type ≡ get_or types i type → edge_widths nodes [] (take (i + 1) types) ≡ so_far ++ edge_width nodes so_far type ∷ []
  then_is lt is = ap (edge_widths nodes []) (one_more types i type lt is) ∙ edge_widths_push nodes [] (take i types) type

  pub edge_widths_more : (old new : List CappedWidth) → i < length types → type ≡ get_or types i type → old ≡ map capped_width so_far →
      width ≡ capped_width (edge_width nodes so_far type) → new ≡ old ++ width ∷ [] → new ≡ map capped_width (edge_widths nodes [] (take (i + 1) types))
  edge_widths_more old new lt is o w n =
      n ∙ ap (λ ws. ws ++ width ∷ []) o ∙ ap (λ v. map capped_width so_far ++ v ∷ []) w
      ∙ sym (map-append capped_width so_far (edge_width nodes so_far type ∷ [])) ∙ ap (map capped_width) (sym (then_is lt is))

  pub sized_edges_more : (start old new : List SizedType) → i < length types → type ≡ get_or types i type →
      old ≡ start ++ map capped_type (sized_edges (take i types) so_far) → width ≡ capped_width (edge_width nodes so_far type) →
      new ≡ old ++ record { name = type.name; place = type.place; width = width } ∷ [] →
      new ≡ start ++ map capped_type (sized_edges (take (i + 1) types) (edge_widths nodes [] (take (i + 1) types)))
  sized_edges_more start old new lt is o w n =
      let own : Sized = record { name = type.name; place = type.place; width = edge_width nodes so_far type } in
      n ∙ ap (λ es. es ++ record { name = type.name; place = type.place; width = width } ∷ []) o
      ∙ ap (λ (v : CappedWidth). (start ++ map capped_type (sized_edges (take i types) so_far)) ++ record { name = type.name; place = type.place; width = v } ∷ []) w
      ∙ append_assoc start _ (capped_type own ∷ []) ∙ ap (λ es. start ++ es) (sym (map-append capped_type (sized_edges (take i types) so_far) (own ∷ [])))
      ∙ ap (λ es. start ++ map capped_type es) (sym (sized_edges_push (take i types) so_far type (edge_width nodes so_far type) (edge_widths_length nodes [] (take i types) ∙ omega arith)))
      ∙ ap (λ xs. start ++ map capped_type (sized_edges xs (so_far ++ edge_width nodes so_far type ∷ []))) (sym (one_more types i type lt is))
      ∙ ap (λ ws. start ++ map capped_type (sized_edges (take (i + 1) types) ws)) (sym (then_is lt is))
