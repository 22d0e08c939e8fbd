-- What is unused, of lists one after another: names of types, and what a test passes.
use Rattle.std.proofs.Common.{◌≡◌, ℕ, ◌+◌, ◌<◌, ◌≤◌, Bool, List, [], ◌∷◌, ◌++◌, length, map, take, get_or, sym, ◌∙◌, ap, append_assoc}
use Rattle.std.specs.Prelude.{filter}
use Rattle.std.specs.List.{flat_map}
use Rattle.std.proofs.lemmas.List.{map-append, flat_map_more, take_all}
use Rattle.std.proofs.lemmas.List.Elements.{filter-append}
use Rattle.pgs_syntax.specs.declared.script.Member.{Member}
use Rattle.pgs_syntax.specs.declared.script.Statement.{Statement}
use Rattle.pgs_resolve_declared.specs.Declarations.{is_declared, declared_in}
use Rattle.pgs_resolve_declared.proofs.Walks.{one_more}
use Rattle.pgs_advice.specs.Used.{is_unused, member_name, unused_names}

module _ (used : List (List ℕ)) where
  on : (xs ys : List Member) → unused_names used (xs ++ ys) ≡ unused_names used xs ++ unused_names used ys
  on xs ys = ap (filter (is_unused used)) (map-append member_name xs ys) ∙ filter-append (is_unused used) (map member_name xs) (map member_name ys)

  both : (old mid new : List (List ℕ)) (xs ys all : List Member) → mid ≡ old ++ unused_names used xs → new ≡ mid ++ unused_names used ys → xs ++ ys ≡ all → new ≡ old ++ unused_names used all
  both old mid new xs ys all before after is =
      after ∙ ap (λ ns. ns ++ unused_names used ys) before ∙ append_assoc old (unused_names used xs) (unused_names used ys)
      ∙ ap (λ ns. old ++ ns) (sym (on xs ys) ∙ ap (unused_names used) is)

  pub more_members : (old : List (List ℕ)) (members : List Member) (i : ℕ) (member : Member) (mid new : List (List ℕ)) → i < length members → member ≡ get_or members i member →
      mid ≡ old ++ unused_names used (filter is_declared (take i members)) → new ≡ mid ++ unused_names used (filter is_declared (member ∷ [])) →
      new ≡ old ++ unused_names used (filter is_declared (take (i + 1) members))
  more_members old members i member mid new h is before after =
      both old mid new (filter is_declared (take i members)) (filter is_declared (member ∷ [])) (filter is_declared (take (i + 1) members)) before after
      (sym (filter-append is_declared (take i members) (member ∷ [])) ∙ ap (filter is_declared) (sym (one_more members i member h is)))

  pub more_statements : (statements : List Statement) (i : ℕ) (statement : Statement) (mid new : List (List ℕ)) → i < length statements → statement ≡ get_or statements i statement →
      mid ≡ unused_names used (flat_map declared_in (take i statements)) → new ≡ mid ++ unused_names used (declared_in statement) →
      new ≡ unused_names used (flat_map declared_in (take (i + 1) statements))
  more_statements statements i statement mid new h is before after =
      both [] mid new (flat_map declared_in (take i statements)) (declared_in statement) (flat_map declared_in (take (i + 1) statements)) before after
      (flat_map_more declared_in [] (take i statements) statement ∙ ap (flat_map declared_in) (sym (one_more statements i statement h is)))

-- what a test passes of mapped items
module _ {X Y : Type 0} (f : X → Y) (test : Y → Bool) where
  pub more_passed : (xs : List X) (i : ℕ) (x : X) (mid new : List Y) → i < length xs → x ≡ get_or xs i x →
      mid ≡ filter test (map f (take i xs)) → new ≡ mid ++ filter test (f x ∷ []) → new ≡ filter test (map f (take (i + 1) xs))
  more_passed xs i x mid new h is before after =
      after ∙ ap (λ ys. ys ++ filter test (f x ∷ [])) before ∙ sym (filter-append test (map f (take i xs)) (f x ∷ []))
      ∙ ap (filter test) (sym (map-append f (take i xs) (x ∷ [])) ∙ ap (map f) (sym (one_more xs i x h is)))

  pub all_passed : (xs : List X) (i : ℕ) (new : List Y) → length xs ≤ i → new ≡ filter test (map f (take i xs)) → new ≡ filter test (map f xs)
  all_passed xs i new h before = before ∙ ap (λ ys. filter test (map f ys)) (take_all i xs h)
