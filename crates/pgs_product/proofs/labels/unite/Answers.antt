use Rattle.std.proofs.Common.{sym, ◌∙◌, ap, subst}
use Rattle.std.specs.List.Sorted.{IsStrictlySortedBy}
use Rattle.pgs_base.proofs.Ascending.{ascends_decides}
use Rattle.pgs_product.specs.Merged.{united}
use Rattle.pgs_product.proofs.United.{name_cmp, ascends_united}
use Rattle.pgs_product.proofs.labels.unite.Goals as goal

pub from_vec-requires : goal.from_vec-requires
from_vec-requires c =
    let first = c.args.first.now in
    let second = c.args.second.now in
    let up = ascends_united first second ((ascends_decides name_cmp first).1 c.as_slice.ensures.ascending) ((ascends_decides name_cmp second).1 c.as_slice-2.ensures.ascending) in
    let is = c.in_ok-names.ensures ∙ ap (λ names. united names c.as_slice-2.result.now) c.as_slice.ensures.value ∙ ap (united first) c.as_slice-2.ensures.value in
    subst (IsStrictlySortedBy name_cmp) (sym is) ((ascends_decides name_cmp (united first second)).0 up)
