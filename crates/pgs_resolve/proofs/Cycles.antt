-- The cycles of a script: where its names lead, and the least name on a cycle.
use Rattle.std.proofs.Common.{◌≡◌, ℕ, Bool, true, false, cond, ⊎_elim, ◌⊎◌, inl, inr, List, [], ◌∷◌, ◌++◌, map, Option, Some, None, is_some, refl, sym, ◌∙◌, ap, subst}
use Rattle.std.specs.Prelude.{Contains}
use Rattle.std.specs.List.{find}
use Rattle.std.specs.Option.{option_map_or}
use Rattle.std.specs.declared.cmp.Ordering.{Ordering}
use Rattle.std.specs.declared.cmp.Ordering.TheVariants.{Less, Equal, Greater}
use Rattle.std.specs.Ordering.{nat_cmp, is_lt, ordering_reverse}
use Rattle.std.specs.Cmp.Lexicographic.{slice_cmp, nat_list_cmp_total}
use Rattle.std.proofs.lemmas.Bool.{or_parts}
use Rattle.std.proofs.lemmas.List.Elements.{Contains-append_left, Contains-append_right, Contains-append_cases}
use Rattle.std.proofs.lemmas.List.Folds.{list_any-append}
use Rattle.std.proofs.lemmas.Map.Lookups.{exact_bytes}
use Rattle.pgs_base.specs.Pair.{same_name, has_name}
use Rattle.pgs_syntax.specs.declared.element_type.NodeType.{NodeType}
use Rattle.pgs_syntax.specs.declared.element_type.EdgeType.{EdgeType}
use Rattle.pgs_syntax.specs.declared.script.GraphType.{GraphType}
use Rattle.pgs_syntax.specs.declared.script.Script.{Script}
use Rattle.pgs_syntax.specs.Least.{IsLeast}
use Rattle.pgs_syntax.proofs.Members.{contains_first, contains_cases, contains_none, one_least}
use Rattle.pgs_resolve_declared.specs.Declarations.{words_of, nodes_of, edges_of, graphs_of, edge_named}
use Rattle.pgs_resolve_declared.specs.Refused.{named_by, imported_by, cyclic, lesser, least, cycle}
use Rattle.pgs_resolve_declared.proofs.Firsts.{some_found}
use Rattle.pgs_resolve.specs.Ways.{LeadsTo, IsOnCycle, type_names, graph_names}
use Rattle.pgs_resolve.proofs.Trails.{back_from, back_to}

-- ---- names that aren't declared lead nowhere

module _ {X : Type 0} (f : X → List (List ℕ)) (key : X → List ℕ) where
  nothing_of : (o : Option X) → is_some o ≡ false → option_map_or f o [] ≡ []
  nothing_of None e = refl
  nothing_of (Some x) e = cc

  nothing_named : (name : List ℕ) (types : List X) → has_name name (map key types) ≡ false →
      option_map_or f (find (λ x. same_name name (key x)) types) [] ≡ []
  nothing_named name types away = nothing_of (find (λ x. same_name name (key x)) types) (sym (some_found key (same_name name) types) ∙ away)

abbrev words_of_edge : EdgeType (List ℕ) → List (List ℕ)
words_of_edge type = words_of type.source ++ words_of type.middle ++ words_of type.target

module _ (script : Script) where
  pub types_closed : (name : List ℕ) → has_name name (type_names script) ≡ false → named_by script name ≡ []
  types_closed name away =
      let nodes = map (λ (type : NodeType (List ℕ)). type.name) (nodes_of script) in
      let edges = map (λ (type : EdgeType (List ℕ)). type.name) (edges_of script) in
      let both = or_parts (has_name name nodes) (has_name name edges) (sym (list_any-append (same_name name) nodes edges) ∙ away) in
      ap (λ (words : List (List ℕ)). words ++ option_map_or words_of_edge (edge_named script name) [])
      (nothing_named (λ (type : NodeType (List ℕ)). words_of type.spec) (λ (type : NodeType (List ℕ)). type.name) name (nodes_of script) both.0)
      ∙ nothing_named words_of_edge (λ (type : EdgeType (List ℕ)). type.name) name (edges_of script) both.1

  pub graphs_closed : (name : List ℕ) → has_name name (graph_names script) ≡ false → imported_by script name ≡ []
  graphs_closed name away = nothing_named (λ (type : GraphType). type.imports) (λ (type : GraphType). type.name) name (graphs_of script) away

-- ---- the least of names

abbrev cmp : List ℕ → List ℕ → Ordering
cmp = slice_cmp nat_cmp

no_least : (names : List (List ℕ)) → least names ≡ None → names ≡ []
no_least [] h = refl
no_least (name ∷ names) h = cc

least_is : (names : List (List ℕ)) (name : List ℕ) → least names ≡ Some name → IsLeast cmp (Contains names) name
least_is [] name h = cc
least_is (x ∷ xs) name h = by (least xs) refl h (least_is xs)
  where
    Goal : List ℕ → Type 0
    Goal found = IsLeast cmp (Contains (x ∷ xs)) found

    alone : least xs ≡ None → Goal x
    alone none = record {
      is = contains_first x xs;
      others_after = λ y i. ⊎_elim (λ same. inl (sym same))
          (λ later. absurd (contains_none y (subst (λ (all : List (List ℕ)). Contains all y) (no_least xs none) later))) (contains_cases x xs y i);
    }

    of_both : (z : List ℕ) → IsLeast cmp (Contains xs) z → (b : Bool) → is_lt (cmp z x) ≡ b → Goal (cond b z x)
    of_both z rest true e = record {
      is = Contains-append_right (x ∷ []) xs z rest.is;
      others_after = λ y i. ⊎_elim (λ same. inr (ap (cmp z) (sym same) ∙ is_less (cmp z x) e)) (λ later. rest.others_after y later) (contains_cases x xs y i);
    }
      where
        is_less : (o : Ordering) → is_lt o ≡ true → o ≡ Less
        is_less Less e = refl
        is_less Equal e = cc
        is_less Greater e = cc
    of_both z rest false e = record {
      is = contains_first x xs;
      others_after = λ y i. ⊎_elim (λ same. inl (sym same)) (λ later. after y (rest.others_after y later)) (contains_cases x xs y i);
    }
      where
        after_by : (y : List ℕ) → (y ≡ z) ⊎ (cmp z y ≡ Less) → (o p : Ordering) → cmp x z ≡ o → cmp z x ≡ p → p ≡ ordering_reverse o → (y ≡ x) ⊎ (cmp x y ≡ Less)
        after_by y (inl same) Less p f g k = inr (ap (cmp x) same ∙ f)
        after_by y (inr less) Less p f g k = inr (nat_list_cmp_total.trans x z y f less)
        after_by y (inl same) Equal p f g k = inl (same ∙ sym (exact_bytes x z f))
        after_by y (inr less) Equal p f g k = inr (ap (λ w. cmp w y) (exact_bytes x z f) ∙ less)
        after_by y way Greater p f g k = let less : is_lt (cmp z x) ≡ true = ap is_lt (g ∙ k) in cc

        after : (y : List ℕ) → (y ≡ z) ⊎ (cmp z y ≡ Less) → (y ≡ x) ⊎ (cmp x y ≡ Less)
        after y way =
            after_by y way (cmp x z) (cmp z x) refl refl (nat_list_cmp_total.antisymm z x)

    by : (o : Option (List ℕ)) → least xs ≡ o → Some (option_map_or (lesser x) o x) ≡ Some name →
        ((z : List ℕ) → least xs ≡ Some z → IsLeast cmp (Contains xs) z) → Goal name
    by None e found rest = let same : x ≡ name = cc in subst Goal same (alone e)
    by (Some z) e found rest = let same : lesser x z ≡ name = cc in subst Goal same (of_both z (rest z e) (is_lt (cmp z x)) refl)

-- the least is the least of those that a list contains, whatever else is said of them
module _ (names : List (List ℕ)) (Is : List ℕ → Type 0) (found : (name : List ℕ) → Contains names name → Is name)
    (given : (name : List ℕ) → Is name → Contains names name) where
  pub none_is : least names ≡ None → (name : List ℕ) → Is name → ⊥
  none_is none name is = contains_none name (subst (λ (all : List (List ℕ)). Contains all name) (no_least names none) (given name is))

  pub none_from : ((name : List ℕ) → Is name → ⊥) → least names ≡ None
  none_from none = by names found
    where
      by : (all : List (List ℕ)) → ((name : List ℕ) → Contains all name → Is name) → least all ≡ None
      by [] each = refl
      by (x ∷ xs) each = absurd (none x (each x (contains_first x xs)))

  pub some_is : (name : List ℕ) → least names ≡ Some name → IsLeast cmp Is name
  some_is name h =
      let it = least_is names name h in
      record { is = found name it.is; others_after = λ y is. it.others_after y (given y is) }

  pub some_from : (name : List ℕ) → IsLeast cmp Is name → least names ≡ Some name
  some_from name it = by (least names) refl
    where
      by : (o : Option (List ℕ)) → least names ≡ o → o ≡ Some name
      by None e = absurd (none_is e name it.is)
      by (Some other) e = ap Some (one_least nat_list_cmp_total other name (some_is other e) it)

-- ---- the cycles of a script

module _ (script : Script) where
  abbrev on_types : List (List ℕ)
  on_types = cyclic (named_by script) (type_names script)

  abbrev on_graphs : List (List ℕ)
  on_graphs = cyclic (imported_by script) (graph_names script)

  pub type_from : (name : List ℕ) → Contains on_types name → LeadsTo (named_by script) name name
  type_from = back_from (named_by script) (type_names script) (types_closed script)

  pub type_to : (name : List ℕ) → LeadsTo (named_by script) name name → Contains on_types name
  type_to = back_to (named_by script) (type_names script) (types_closed script)

  pub graph_from : (name : List ℕ) → Contains on_graphs name → LeadsTo (imported_by script) name name
  graph_from = back_from (imported_by script) (graph_names script) (graphs_closed script)

  pub graph_to : (name : List ℕ) → LeadsTo (imported_by script) name name → Contains on_graphs name
  graph_to = back_to (imported_by script) (graph_names script) (graphs_closed script)

  on_found : (name : List ℕ) → Contains (on_types ++ on_graphs) name → IsOnCycle script name
  on_found name h = ⊎_elim (λ type. inl (type_from name type)) (λ graph. inr (graph_from name graph)) (Contains-append_cases on_types on_graphs name h)

  on_given : (name : List ℕ) → IsOnCycle script name → Contains (on_types ++ on_graphs) name
  on_given name (inl type) = Contains-append_left on_types on_graphs name (type_to name type)
  on_given name (inr graph) = Contains-append_right on_types on_graphs name (graph_to name graph)

  pub cycle_none : cycle script ≡ None → (name : List ℕ) → IsOnCycle script name → ⊥
  cycle_none = none_is (on_types ++ on_graphs) (IsOnCycle script) on_found on_given

  pub none_cycle : ((name : List ℕ) → IsOnCycle script name → ⊥) → cycle script ≡ None
  none_cycle = none_from (on_types ++ on_graphs) (IsOnCycle script) on_found on_given

  pub cycle_some : (name : List ℕ) → cycle script ≡ Some name → IsLeast cmp (IsOnCycle script) name
  cycle_some = some_is (on_types ++ on_graphs) (IsOnCycle script) on_found on_given

  pub some_cycle : (name : List ℕ) → IsLeast cmp (IsOnCycle script) name → cycle script ≡ Some name
  some_cycle = some_from (on_types ++ on_graphs) (IsOnCycle script) on_found on_given
