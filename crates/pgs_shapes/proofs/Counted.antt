-- Lists within the widths of what they stand for: of a named type, of a join, of a union, of `?`, and of types one after another.
use Rattle.std.proofs.Common.{◌≡◌, ℕ, zero, suc, ◌+◌, ◌*◌, ◌<◌, ◌≤◌, List, [], ◌∷◌, ◌++◌, length, take, map, get_or, slice_get, Some, unwrap_or, sym, ◌∙◌, ap, subst, arith, length-append}
use Rattle.std.specs.List.{flat_map}
use Rattle.std.proofs.lemmas.Nat.{mul-le}
use Rattle.pgs_syntax.specs.declared.element_type.EdgeType.{EdgeType}
use Rattle.pgs_syntax.specs.declared.element_type.NodeType.{NodeType}
use Rattle.pgs_syntax.specs.declared.specification.Leaf.{Leaf}
use Rattle.pgs_syntax.specs.declared.specification.Leaf.TheVariants.{Named}
use Rattle.pgs_syntax.specs.declared.specification.Spec.{Spec, And, Or, Opt, Word}
use Rattle.pgs_syntax.specs.Width.{Width, one_form, width_of, node_widths, edge_width, edge_widths}
use Rattle.pgs_conform.specs.Counts.{AreWithin}
use Rattle.pgs_product.specs.Counts.{choices}
use Rattle.pgs_width.specs.Capped.{both_of, either_of}
use Rattle.pgs_width.proofs.Parts.{width_and, width_or, width_opt}
use Rattle.pgs_width.proofs.Sizes.{one_more, node_widths_push, edge_widths_push}
use Rattle.pgs_shapes.specs.Counts.{PartsWithin}
use Rattle.pgs_shapes.proofs.Forms.{zip_push}

module _ {S : Type 0} where
  -- ---- the forms of a specification

  named_within : (widths : List Width) (lists : List (List S)) (number : ℕ) (list : List S) → AreWithin widths lists →
      slice_get lists number ≡ Some list → length list ≤ (unwrap_or (slice_get widths number) (one_form 1)).count
  named_within [] [] number list h at = cc
  named_within [] (own ∷ lists) number list h at = absurd h
  named_within (width ∷ widths) [] number list h at = absurd h
  named_within (width ∷ widths) (own ∷ lists) zero list h at = let same : own ≡ list = cc in subst (λ one. length one ≤ width.count) same h.0
  named_within (width ∷ widths) (own ∷ lists) (suc number) list h at = named_within widths lists number list h.1 at

  module _ (widths : List Width) where
    both_within : (parts : List (Spec Leaf)) (lists : List (List S)) → PartsWithin widths parts lists →
        choices lists ≤ (both_of (map (width_of widths) parts)).count
    both_within [] [] h = omega arith
    both_within [] (list ∷ lists) h = absurd h
    both_within (part ∷ parts) [] h = absurd h
    both_within (part ∷ parts) (list ∷ lists) h = mul-le _ _ _ _ h.0 (both_within parts lists h.1)

    either_within : (parts : List (Spec Leaf)) (lists : List (List S)) → PartsWithin widths parts lists →
        length (flat_map (λ list. list) lists) ≤ (either_of (map (width_of widths) parts)).count
    either_within [] [] h = omega arith
    either_within [] (list ∷ lists) h = absurd h
    either_within (part ∷ parts) [] h = absurd h
    either_within (part ∷ parts) (list ∷ lists) h =
        let longer = length-append list (flat_map (λ other. other) lists) in
        let first = h.0 in
        let rest = either_within parts lists h.1 in omega (arith, longer, first, rest)

  -- where the lists of the types that a specification may name are within some widths
  module _ (Known : List Width → Type 0) (spec : Spec Leaf) where
    abbrev IsWithin : List S → Type 0
    IsWithin whole = (widths : List Width) → Known widths → length whole ≤ (width_of widths spec).count

    abbrev EachWithin : List (Spec Leaf) → List (List S) → Type 0
    EachWithin parts lists = (widths : List Width) → Known widths → PartsWithin widths parts lists

    pub and_within : (parts slice : List (Spec Leaf)) (lists lent : List (List S)) → spec ≡ And parts → slice ≡ parts → lent ≡ lists →
        EachWithin slice lists → (whole : List S) → length whole ≡ choices lent → IsWithin whole
    and_within parts slice lists lent is same lends each whole count widths known =
        let own = subst (λ ps. PartsWithin widths ps lists) same (each widths known) in
        let width = ap (width_of widths) is ∙ width_and widths parts in
        subst (λ (w : Width). length whole ≤ w.count) (sym width)
        (subst (λ n. n ≤ (both_of (map (width_of widths) parts)).count) (sym (count ∙ ap choices lends)) (both_within widths parts lists own))

    pub or_within : (parts slice : List (Spec Leaf)) (lists : List (List S)) → spec ≡ Or parts → slice ≡ parts →
        EachWithin slice lists → (whole : List S) → whole ≡ flat_map (λ list. list) lists → IsWithin whole
    or_within parts slice lists is same each whole flat widths known =
        let own = subst (λ ps. PartsWithin widths ps lists) same (each widths known) in
        let width = ap (width_of widths) is ∙ width_or widths parts in
        subst (λ (w : Width). length whole ≤ w.count) (sym width)
        (subst (λ n. n ≤ (either_of (map (width_of widths) parts)).count) (sym (ap length flat)) (either_within widths parts lists own))

    pub opt_within : (part lent : Spec Leaf) (list : List S) → spec ≡ Opt part → lent ≡ part →
        ((widths : List Width) → Known widths → length list ≤ (width_of widths lent).count) → (whole : List S) → length whole ≡ length list + 1 → IsWithin whole
    opt_within part lent list is same own whole longer widths known =
        let within = subst (λ s. length list ≤ (width_of widths s).count) same (own widths known) in
        let width = ap (width_of widths) is ∙ width_opt widths part in
        subst (λ (w : Width). length whole ≤ w.count) (sym width) (omega (arith, within, longer))

  -- the copies of the list of a named type
  pub copies_within : (leaf : Leaf) (lists : List (List S)) (number : ℕ) (list lent : List S) → leaf ≡ Named number → Some list ≡ slice_get lists number → lent ≡ list →
      (copies : List S) → length copies ≡ length lent → (widths : List Width) → AreWithin widths lists →
      length copies ≤ (width_of widths (Word leaf)).count
  copies_within leaf lists number list lent is at lends copies count widths all =
      subst (λ l. length copies ≤ (width_of widths (Word l)).count) (sym is)
      (subst (λ n. n ≤ (width_of widths (Word (Named number))).count) (sym (count ∙ ap length lends)) (named_within widths lists number list all (sym at)))

  -- ---- types one after another

  pub node_within : (types : List (NodeType Leaf)) (i : ℕ) (type : NodeType Leaf) (old new : List (List S)) (list : List S) → i < length types →
      type ≡ get_or types i type → AreWithin (node_widths [] (take i types)) old →
      length list ≤ (width_of (node_widths [] (take i types)) type.spec).count → new ≡ old ++ list ∷ [] →
      AreWithin (node_widths [] (take (i + 1) types)) new
  node_within types i type old new list lt is h own e =
      let known = node_widths [] (take i types) in
      let pushed : node_widths [] (take (i + 1) types) ≡ known ++ width_of known type.spec ∷ [] =
      ap (node_widths []) (one_more types i type lt is) ∙ node_widths_push [] (take i types) type in
      subst (λ widths. AreWithin widths new) (sym pushed)
      (subst (AreWithin (known ++ width_of known type.spec ∷ [])) (sym e) (zip_push _ known old (width_of known type.spec) list h own))

  pub edge_within : (nodes : List Width) (types : List (EdgeType Leaf)) (i : ℕ) (type : EdgeType Leaf) (old new : List (List S)) (list : List S) →
      i < length types → type ≡ get_or types i type → AreWithin (edge_widths nodes [] (take i types)) old →
      length list ≤ (edge_width nodes (edge_widths nodes [] (take i types)) type).count → new ≡ old ++ list ∷ [] →
      AreWithin (edge_widths nodes [] (take (i + 1) types)) new
  edge_within nodes types i type old new list lt is h own e =
      let known = edge_widths nodes [] (take i types) in
      let width = edge_width nodes known type in
      let pushed : edge_widths nodes [] (take (i + 1) types) ≡ known ++ width ∷ [] =
      ap (edge_widths nodes []) (one_more types i type lt is) ∙ edge_widths_push nodes [] (take i types) type in
      subst (λ widths. AreWithin widths new) (sym pushed)
      (subst (AreWithin (known ++ width ∷ [])) (sym e) (zip_push _ known old width list h own))

-- the triples of an edge type: of its ends and of its middle
pub product_within : (ends middles all source middle target : ℕ) → ends ≤ source * target → middles ≤ middle → all ≡ ends * middles →
    all ≤ source * (middle * target)
product_within ends middles all source middle target both own is =
    subst (λ n. n ≤ source * (middle * target)) (sym is)
    (let most = mul-le _ _ _ _ both own in
    let turned : source * target * middle ≡ source * (middle * target) = omega arith in omega (arith, most, turned))
