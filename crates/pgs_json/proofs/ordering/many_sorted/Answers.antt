use Rattle.std.proofs.Common.{rules, ◌≡◌, List, [], ◌∷◌, length, refl, ap, sym, ◌∙◌, arith}
use Rattle.std.specs.Vec.Iter.{into_iter_items}
use Rattle.serde_json.specs.Data.{put}
use Rattle.pgs_json.specs.Tree.{view, members_view, put_all}
use Rattle.pgs_json.proofs.Trees.{members_view-insert_entry}
use Rattle.pgs_json.proofs.ordering.many_sorted.Goals as goal

nothing_left : {X : Type 0} (l : List X) → length l ≡ 0 → l ≡ []
nothing_left [] h = refl
nothing_left (x ∷ xs) h = absurd (omega arith)

pub loop-name-preserved : goal.loop-name-preserved
loop-name-preserved c =
    let at = c.loop-name in
    let next : into_iter_items at.name-iterator ≡ (c.in-Some.name, c.in-Some.part) ∷ into_iter_items c.next.new.self = c.in-Some.ensures.steps.0 in
    let inserted : members_view c.insert.new.self.entries ≡ put c.in-Some.name.now (view c.in-Some.part) (members_view at.found.entries) =
    ap members_view c.in_ok-insert.ensures.entries ∙ members_view-insert_entry at.found.entries c.in-Some.name c.in-Some.part in (
      ap (put_all (members_view (into_iter_items c.next.new.self))) inserted ∙ sym (ap (λ ms. put_all (members_view ms) (members_view at.found.entries)) next) ∙ at.invariant.0,
      let was = at.invariant.1 in
          let gone = c.in-Some.ensures.steps.1 in
          let short = ap length next in
          omega arith,
    )

pub returns : goal.returns
returns c =
    let at = c.loop-name in
    let none : into_iter_items at.name-iterator ≡ [] = nothing_left _ (sym at.invariant.1 ∙ c.in-None.ensures.steps.0) in
    let collected : c.in_ok-collect.field-0.items ≡ at.found.entries = search rules in
    ap members_view collected ∙ sym (ap (λ ms. put_all (members_view ms) (members_view at.found.entries)) none) ∙ at.invariant.0
