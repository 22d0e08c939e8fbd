use Rattle.std.proofs.Common.{◌≡◌, ◌+◌, suc, ◌++◌, take, drop, ◌∙◌, sym, ap, subst, arith}
use Rattle.std.specs.List.{remove}
use Rattle.std.specs.List.Sorted.{IsStrictlySortedBy}
use Rattle.std.specs.BTreeMap.{is_at}
use Rattle.std.specs.Set.{remove_key}
use Rattle.pgs_base.specs.Graph.{edge_cmp}
use Rattle.pgs_base.specs.Places.{IsKeyAt}
use Rattle.pgs_tables_edges.proofs.edge_list.EdgeList.without.Goals as goal

pub invariant_of-result : goal.invariant_of-result
invariant_of-result c =
    let ks = c.self.inside.ids in
    let place = c.in-Ok.place in
    let plus : place + 1 ≡ suc place = omega arith in
    let here : IsKeyAt edge_cmp c.args.id c.args.self.now place = c.in-Ok.ensures.there in
    let there = subst (λ l. IsKeyAt edge_cmp c.args.id l place) (sym c.self.view_is) here in
    let removed : c.in_ok-ids-in-Ok.ids ≡ remove ks place = c.in_ok-ids-in-Ok.ensures ∙ ap (λ n. take place ks ++ drop n ks) plus in
    subst (IsStrictlySortedBy edge_cmp) (sym removed) there.ascends

pub returns-in_ok-ids-in-Ok : goal.returns-in_ok-ids-in-Ok
returns-in_ok-ids-in-Ok c =
    let ks = c.self.inside.ids in
    let place = c.in-Ok.place in
    let plus : place + 1 ≡ suc place = omega arith in
    let here : IsKeyAt edge_cmp c.args.id c.args.self.now place = c.in-Ok.ensures.there in
    let there = subst (λ l. IsKeyAt edge_cmp c.args.id l place) (sym c.self.view_is) here in
    c.in_ok-ids-in-Ok.ensures ∙ ap (λ n. take place ks ++ drop n ks) plus ∙ there.removes ∙ ap (remove_key (is_at (edge_cmp c.args.id))) c.self.view_is
