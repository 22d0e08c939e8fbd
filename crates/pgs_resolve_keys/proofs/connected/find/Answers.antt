use Rattle.std.proofs.Common.{◌≡◌, get_or, sym, ◌∙◌, ap, arith}
use Rattle.std.proofs.lemmas.Bool.Decides.{nat_tests}
use Rattle.std.proofs.lemmas.List.{length-set}
use Rattle.pgs_resolve_keys.proofs.Unions.{elsewhere, halved, parents_stay, same_above}
use Rattle.pgs_resolve_keys.proofs.connected.find.Goals as goal

pub loop-parents-preserved : goal.loop-parents-preserved
loop-parents-preserved c =
    let parents = c.loop-parents.parents in
    let at = c.loop-parents.at in
    let kept = c.loop-parents.invariant in
    let first = kept.parents at kept.within in
    let second = kept.parents (get_or parents at 0) (omega (arith, first, kept.within)) in
    record {
      within = omega (arith, first, second, kept.within, length-set parents at (get_or parents (get_or parents at 0) 0));
      parents = parents_stay parents at (get_or parents (get_or parents at 0) 0) kept.within kept.parents (omega (arith, first, second));
      others = λ i own.
          elsewhere parents at (get_or parents (get_or parents at 0) 0) kept.within i
          (λ e. let own_at : get_or parents at 0 ≡ at = ap (λ k. get_or parents k 0) (sym e) ∙ kept.others i own ∙ e in absurd (grind (arith, nat_tests)))
          ∙ kept.others i own;
      groups = λ groups keep.
          let before = kept.groups groups keep in
          (halved groups parents before.0 kept.parents at kept.within, same_above groups parents before.0 kept.parents at kept.within ∙ before.1);
    }
