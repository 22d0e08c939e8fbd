use Rattle.std.proofs.Common.{◌≡◌, ◌∙◌, ◌++◌, ℕ, ◌<◌, length, slice_get, Some, sym, ap, subst, arith}
use Rattle.std.specs.Option.{option_copied}
use Rattle.std.specs.List.Sorted.{IsStrictlySortedBy}
use Rattle.pgs_base.specs.Graph.{edge_cmp}
use Rattle.pgs_tables_edges.specs.Numbers.{number_at}
use Rattle.pgs_tables_edges.proofs.Searched.{key_between}
use Rattle.pgs_tables_edges.proofs.Behind.{ascending_first, above_behind, none_behind, found_behind, between_behind, searched_first, read_searched}
use Rattle.pgs_tables_edges.proofs.long.Long.search.Goals as goal
use Rattle.pgs_tables_edges.proofs.long.Long.search.Goals.{in_default-via-in-Some+else-first-id, in_default-via-in_default}

pub search-requires : goal.search-requires
search-requires c =
    let xs = c.as_chunks-body.result.now in
    let ys = c.deref.result.now in
    let all : xs ++ ys ≡ c.args.self.now = ap (λ l. l ++ ys) c.as_chunks-body.ensures ∙ ap (λ l. c.self.inside.body ++ l) c.deref.ensures.value ∙ c.self.view_is in
    let up = subst (IsStrictlySortedBy edge_cmp) (sym all) c.requires in
    ascending_first xs ys up

pub returns-in-Ok-clause-there : goal.returns-in-Ok-clause-there
returns-in-Ok-clause-there c =
    let xs = c.as_chunks-body.result.now in
    let ys = c.as_slice.result.now in
    let all : xs ++ ys ≡ c.args.self.now = ap (λ l. l ++ ys) c.as_chunks-body.ensures ∙ ap (λ l. c.self.inside.body ++ l) c.as_slice.ensures.value ∙ c.self.view_is in
    let up = subst (IsStrictlySortedBy edge_cmp) (sym all) c.requires in
    rw (← all, c.len-len.ensures) (found_behind xs ys c.args.id up c.in-Ok.place c.in-Ok.ensures.position).2

pub returns-in-Ok-clause-found : goal.returns-in-Ok-clause-found
returns-in-Ok-clause-found c =
    let xs = c.as_chunks-body.result.now in
    let ys = c.as_slice.result.now in
    let all : xs ++ ys ≡ c.args.self.now = ap (λ l. l ++ ys) c.as_chunks-body.ensures ∙ ap (λ l. c.self.inside.body ++ l) c.as_slice.ensures.value ∙ c.self.view_is in
    let up = subst (IsStrictlySortedBy edge_cmp) (sym all) c.requires in
    rw (← all, c.len-len.ensures) (found_behind xs ys c.args.id up c.in-Ok.place c.in-Ok.ensures.position).1

pub returns-in-Err-clause-there : goal.returns-in-Err-clause-there
returns-in-Err-clause-there c =
    let xs = c.as_chunks-body.result.now in
    let ys = c.as_slice.result.now in
    let all : xs ++ ys ≡ c.args.self.now = ap (λ l. l ++ ys) c.as_chunks-body.ensures ∙ ap (λ l. c.self.inside.body ++ l) c.as_slice.ensures.value ∙ c.self.view_is in
    let up = subst (IsStrictlySortedBy edge_cmp) (sym all) c.requires in
    let begins : slice_get ys 0 ≡ Some c.in-Some.first.now = ap (λ l. slice_get l 0) (c.as_slice.ensures.value ∙ sym c.deref.ensures.value) ∙ sym c.in-Some.ensures.value in
    rw (← all, c.len-len.ensures) (key_between c.args.id (xs ++ ys) _ up
    (between_behind xs ys c.args.id up c.in-Some.first.now begins (omega arith) c.in-Err.place c.in-Err.ensures.position))

pub returns-in_default-clause-there : goal.returns-in_default-clause-there
returns-in_default-clause-there c =
    let xs = c.as_chunks-body.result.now in
    let ys = c.deref.result.now in
    let all : xs ++ ys ≡ c.args.self.now = ap (λ l. l ++ ys) c.as_chunks-body.ensures ∙ ap (λ l. c.self.inside.body ++ l) c.deref.ensures.value ∙ c.self.view_is in
    let up = subst (IsStrictlySortedBy edge_cmp) (sym all) c.requires in
    let higher : (j : ℕ) → j < length ys → c.args.id.0 < number_at ys j =
    elim c.in_default.branch [
      | in_default-via-in-Some+else-first-id w ↦ above_behind xs ys c.args.id up w.in-Some.first.now (sym w.in-Some.ensures.value) (omega (arith, w.if-first-id.false))
      | in_default-via-in_default w ↦ none_behind xs ys c.args.id (sym c.first.ensures.value ∙ ap option_copied w.in_default.is)
    ] in
    rw (← all) (searched_first xs ys c.args.id up higher c.search.result c.search.ensures.found c.search.ensures.between)

pub returns-in_default-clause-found : goal.returns-in_default-clause-found
returns-in_default-clause-found c =
    let xs = c.as_chunks-body.result.now in
    let ys = c.deref.result.now in
    let all : xs ++ ys ≡ c.args.self.now = ap (λ l. l ++ ys) c.as_chunks-body.ensures ∙ ap (λ l. c.self.inside.body ++ l) c.deref.ensures.value ∙ c.self.view_is in
    let up = subst (IsStrictlySortedBy edge_cmp) (sym all) c.requires in
    rw (← all) (read_searched xs ys c.args.id c.search.result c.search.ensures.found)
