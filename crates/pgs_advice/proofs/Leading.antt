-- A walk finds the types to which types lead.
use Rattle.std.proofs.Common.{◌≡◌, ℕ, zero, suc, ◌+◌, ◌<◌, ◌≤◌, true, List, [], ◌∷◌, ◌++◌, length, map, sym, ap, subst, ◌∙◌, ⊎_elim, arith}
use Rattle.std.specs.List.{fold}
use Rattle.std.proofs.lemmas.Bool.{ltb-true, lt-ltb}
use Rattle.std.proofs.lemmas.List.Sums.{fold-append}
use Rattle.pgs_syntax.specs.declared.resolved.Resolved.{Resolved}
use Rattle.pgs_syntax.specs.declared.resolved.TypeNo.{TypeNo}
use Rattle.pgs_syntax.specs.declared.resolved.TypeNo.TheVariants.{Node, Edge}
use Rattle.pgs_syntax.specs.Valid.{is_valid, is_type}
use Rattle.pgs_advice.specs.Used.{named_by, is_among, LeadTo, first, named, numbers_below, edges_back, nodes_back, with_named, led_to}
use Rattle.pgs_advice.proofs.Using.{among_both, among_first, among_second, number_of, is_below, Descends, sound, whole}
use Rattle.pgs_advice.proofs.ValidTypes.{rank, lower}

module _ (resolved : Resolved) (valid : is_valid resolved ≡ true) where
  lower_rank : (x t : TypeNo) → is_among t (named_by resolved x) ≡ true → rank resolved t < rank resolved x
  lower_rank x t h = (lower resolved valid x t h).less

  abbrev order : List TypeNo
  order = edges_back resolved ++ nodes_back resolved

  one_walk : (types : List TypeNo) → led_to resolved types ≡ fold (with_named resolved) types order
  one_walk types = sym (fold-append (with_named resolved) types (edges_back resolved) (nodes_back resolved))

  nodes_descend : (n : ℕ) → Descends resolved (rank resolved) lower_rank (map Node (numbers_below n))
  nodes_descend zero = tt
  nodes_descend (suc n) = ((λ z h. let found = number_of Node n z h in subst (λ (y : TypeNo). rank resolved y < n) (sym found.1) found.2), nodes_descend n)

  below_edges : (n : ℕ) (z : TypeNo) → is_among z (map Edge (numbers_below n) ++ nodes_back resolved) ≡ true → rank resolved z < length resolved.nodes + n
  below_edges n z h =
      ⊎_elim
      (λ edge. let found = number_of Edge n z edge in let less = found.2 in subst (λ (y : TypeNo). rank resolved y < length resolved.nodes + n) (sym found.1) (omega (arith, less)))
      (λ node. let found = number_of Node (length resolved.nodes) z node in let less = found.2 in subst (λ (y : TypeNo). rank resolved y < length resolved.nodes + n) (sym found.1) (omega (arith, less)))
      (among_both z (map Edge (numbers_below n)) (nodes_back resolved) h)

  all_descend : (n : ℕ) → Descends resolved (rank resolved) lower_rank (map Edge (numbers_below n) ++ nodes_back resolved)
  all_descend zero = nodes_descend (length resolved.nodes)
  all_descend (suc n) = ((λ z h. below_edges n z h), all_descend n)

  in_order : (t : TypeNo) → is_type resolved t ≡ true → is_among t order ≡ true
  in_order (Node number) h = among_second (Node number) (edges_back resolved) (nodes_back resolved) (is_below Node (length resolved.nodes) number (ltb-true number (length resolved.nodes) h))
  in_order (Edge number) h = among_first (Edge number) (edges_back resolved) (nodes_back resolved) (is_below Edge (length resolved.edges) number (ltb-true number (length resolved.edges) h))

  -- from types that are there
  module _ (types : List TypeNo) (begins : (t : TypeNo) → is_among t types ≡ true → is_type resolved t ≡ true) where
    there : (t : TypeNo) → LeadTo resolved types t → is_type resolved t ≡ true
    there _ (first t h) = begins t h
    there _ (named by t is names) = (lower resolved valid by t names).there

    pub is_led_to : (t : TypeNo) → is_among t (led_to resolved types) ≡ true → LeadTo resolved types t
    is_led_to t h = sound resolved (rank resolved) lower_rank types order types (λ s is. first s is) t (sym (ap (is_among t) (one_walk types)) ∙ h)

    pub is_found : (t : TypeNo) → LeadTo resolved types t → is_among t (led_to resolved types) ≡ true
    is_found t is =
        ap (is_among t) (one_walk types)
        ∙ whole resolved (rank resolved) lower_rank types order types (all_descend (length resolved.edges)) (λ s leads. in_order s (there s leads)) (λ s at. at) t is
