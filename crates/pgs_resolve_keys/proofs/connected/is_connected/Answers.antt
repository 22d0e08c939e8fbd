use Rattle.std.proofs.Common.{◌≡◌, ℕ, ◌==◌, Bool, List, length, map, slice_index, sym, subst, ◌∙◌, ap, arith}
use Rattle.std.specs.List.{list_all, enumerate_from}
use Rattle.std.proofs.lemmas.List.{take-append-le, take_all}
use Rattle.pgs_syntax.specs.declared.pattern.Atom.{Atom}
use Rattle.pgs_syntax.specs.Valid.{groups_after}
use Rattle.pgs_resolve_keys.specs.Groups.{AreParents, Keep, has_ends_below}
use Rattle.pgs_resolve_keys.proofs.Unions.{numbers_count}
use Rattle.pgs_resolve_keys.proofs.connected.is_connected.Goals as goal

-- the groups of variables, and whether they are one
abbrev numbers : List Bool → List ℕ
numbers edge_vars = map (λ (place : ℕ × Bool). place.0) (enumerate_from 0 edge_vars)

abbrev are_joined : List Bool → List Atom → Bool
are_joined edge_vars atoms = let groups = groups_after (numbers edge_vars) atoms in list_all (λ group. group == slice_index groups 0) groups

pub unite_all-requires-clause-within : goal.unite_all-requires-clause-within
unite_all-requires-clause-within c =
    let edge_vars = c.args.pattern.now.edge_vars in
    let count : length c.in_ok-parents.parents.items ≡ length edge_vars = sym c.in_ok-parents.ensures.groups.count ∙ numbers_count c.as_slice.result.now ∙ ap length c.as_slice.ensures in
    ap (λ n. list_all (has_ends_below n) c.as_slice-2.result.now) (ap length c.deref_mut.ensures.value ∙ count)
    ∙ ap (list_all (has_ends_below (length edge_vars))) c.as_slice-2.ensures ∙ c.requires

pub unite_all-requires-clause-parents : goal.unite_all-requires-clause-parents
unite_all-requires-clause-parents c = subst AreParents (sym c.deref_mut.ensures.value) c.in_ok-parents.ensures.parents

pub are_one-requires : goal.are_one-requires
are_one-requires c =
    let after = c.unite_all.new.parents in
    let all : c.deref.result.now ≡ after = c.deref.ensures.value ∙ take-append-le c.in_ok-parents.parents.len after _ (omega arith) ∙ take_all c.in_ok-parents.parents.len after (omega arith) in
    subst AreParents (sym all) c.unite_all.ensures.parents

pub returns : goal.returns
returns c =
    let edge_vars = c.as_slice.result.now in
    let atoms = c.as_slice-2.result.now in
    let after = c.unite_all.new.parents in
    let all : c.deref.result.now ≡ after = c.deref.ensures.value ∙ take-append-le c.in_ok-parents.parents.len after _ (omega arith) ∙ take_all c.in_ok-parents.parents.len after (omega arith) in
    let before = subst (Keep (numbers edge_vars)) (sym c.deref_mut.ensures.value) c.in_ok-parents.ensures.groups in
    let groups = groups_after (numbers edge_vars) atoms in
    c.are_one.ensures groups (subst (Keep groups) (sym all) (c.unite_all.ensures.groups (numbers edge_vars) before))
    ∙ ap (λ vars. are_joined vars atoms) c.as_slice.ensures ∙ ap (are_joined c.args.pattern.now.edge_vars) c.as_slice-2.ensures
