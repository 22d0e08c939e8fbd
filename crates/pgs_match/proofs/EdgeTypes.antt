-- Where no edge type is asked of a variable each triple passes, and where one is, none that isn't there.
use Rattle.std.proofs.Common.{◌≡◌, ℕ, Bool, true, false, ◌&&◌, ◌||◌, ◌==◌, not, List, [], ◌∷◌, Option, Some, None, refl, sym, ◌∙◌, ap, true≢false}
use Rattle.std.specs.Prelude.{option_map, option_and_then}
use Rattle.std.specs.Option.{option_map_or}
use Rattle.std.specs.List.{list_any, list_all}
use Rattle.pgs_base.specs.declared.row.EdgeRow.{EdgeRow}
use Rattle.pgs_base.specs.declared.row.NodeRow.{NodeRow}
use Rattle.pgs_base.specs.Graph.{Graph, node_at}
use Rattle.pgs_base.specs.Pair.{pair_of}
use Rattle.pgs_syntax.specs.declared.pattern.Atom.{Atom}
use Rattle.pgs_syntax.specs.declared.pattern.Atom.TheVariants.{Ends, HasLabel, FitsNode, FitsEdge, Equals}
use Rattle.pgs_syntax.specs.declared.resolved.Resolved.{Resolved}
use Rattle.pgs_syntax.specs.Fitting.{fits_edge}
use Rattle.pgs_syntax.specs.Join.{PairTriple}
use Rattle.pgs_syntax.specs.Typed.{triple_at}
use Rattle.pgs_match.specs.Tests.{triple_meets}
use Rattle.pgs_match.specs.Asks.{asks_edge_type}

module _ (resolved : Resolved) (var : ℕ) where
  pub unasked : (triple : Option PairTriple) (atoms : List Atom) → list_any (asks_edge_type var) atoms ≡ false → list_all (triple_meets resolved var triple) atoms ≡ true
  unasked triple [] h = refl
  unasked triple (FitsEdge of number ∷ atoms) h = by (of == var) h (unasked triple atoms)
    where
      by : (b : Bool) → (b || list_any (asks_edge_type var) atoms) ≡ false → (list_any (asks_edge_type var) atoms ≡ false → list_all (triple_meets resolved var triple) atoms ≡ true) →
          ((not b || option_map_or (fits_edge resolved number) triple false) && list_all (triple_meets resolved var triple) atoms) ≡ true
      by true none rest = absurd (true≢false none)
      by false none rest = rest none
  unasked triple (Ends edge source target ∷ atoms) h = unasked triple atoms h
  unasked triple (HasLabel of label ∷ atoms) h = unasked triple atoms h
  unasked triple (FitsNode of number ∷ atoms) h = unasked triple atoms h
  unasked triple (Equals of key value ∷ atoms) h = unasked triple atoms h

  pub asked_of_none : (atoms : List Atom) → list_any (asks_edge_type var) atoms ≡ true → list_all (triple_meets resolved var None) atoms ≡ false
  asked_of_none [] h = absurd (true≢false (sym h))
  asked_of_none (FitsEdge of number ∷ atoms) h = by (of == var) h (asked_of_none atoms)
    where
      by : (b : Bool) → (b || list_any (asks_edge_type var) atoms) ≡ true → (list_any (asks_edge_type var) atoms ≡ true → list_all (triple_meets resolved var None) atoms ≡ false) →
          ((not b || false) && list_all (triple_meets resolved var None) atoms) ≡ false
      by true some rest = refl
      by false some rest = rest some
  asked_of_none (Ends edge source target ∷ atoms) h = asked_of_none atoms h
  asked_of_none (HasLabel of label ∷ atoms) h = asked_of_none atoms h
  asked_of_none (FitsNode of number ∷ atoms) h = asked_of_none atoms h
  asked_of_none (Equals of key value ∷ atoms) h = asked_of_none atoms h

-- an edge without its source, or without its target, has no triple, and so doesn't pass where an edge type is asked
module _ (resolved : Resolved) (g : Graph) (row : EdgeRow) (var : ℕ) (atoms : List Atom) (asks : Bool) (asked : asks ≡ list_any (asks_edge_type var) atoms) (is : asks ≡ true) where
  without : triple_at g row ≡ None → false ≡ list_all (triple_meets resolved var (triple_at g row)) atoms
  without none = sym (asked_of_none resolved var atoms (sym asked ∙ is)) ∙ ap (λ t. list_all (triple_meets resolved var t) atoms) (sym none)

  abbrev triple_from : Option NodeRow → Option NodeRow → Option PairTriple
  triple_from source target =
      option_and_then (λ source. option_map (λ target. record { source = source; own = pair_of row.labels row.props; target = target }) target) source

  pub without_source : None ≡ node_at g row.source → false ≡ list_all (triple_meets resolved var (triple_at g row)) atoms
  without_source none = without (ap (λ o. triple_from o (node_at g row.target)) (sym none))

  pub without_target : None ≡ node_at g row.target → false ≡ list_all (triple_meets resolved var (triple_at g row)) atoms
  without_target none = without (ap (λ o. triple_from (node_at g row.source) o) (sym none) ∙ by (node_at g row.source))
    where
      by : (o : Option NodeRow) → triple_from o None ≡ None
      by None = refl
      by (Some p) = refl
