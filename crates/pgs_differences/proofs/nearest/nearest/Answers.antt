use Rattle.std.proofs.Common.{◌≡◌, ◌||◌, take, count_by, nat_le, sym, ap, ◌∙◌}
use Rattle.std.specs.List.{list_all}
use Rattle.std.proofs.lemmas.List.Elements.{filter_agree}
use Rattle.pgs_differences.specs.declared.near_type.NearType.{NearType}
use Rattle.pgs_differences.specs.Nearest.{is_of_label, by_measure, has_fitting_ends, is_eligible, is_eligible_by, nearest}
use Rattle.pgs_differences.proofs.nearest.nearest.Goals as goal

pub returns : goal.returns
unfolding nearest
returns c =
    let nears = c.args.nears.items in
    let fewest = c.fewest_in_labels-fewest.result in
    let same : (near : NearType) → is_eligible_by fewest near ≡ is_eligible nears near =
    λ near. ap (λ b. has_fitting_ends near || b)
    (sym (c.fewest_in_labels-fewest.ensures (count_by is_of_label near.own))
    ∙ ap (list_all (λ (other : NearType). nat_le (count_by is_of_label near.own) (count_by is_of_label other.own))) c.as_slice.ensures.value)
    in
    c.from_vec.ensures ∙ c.in_ok-told.ensures
    ∙ ap (λ kept. take 3 (by_measure kept)) (c.in_ok-kept.ensures ∙ filter_agree (is_eligible_by fewest) (is_eligible nears) same nears)
