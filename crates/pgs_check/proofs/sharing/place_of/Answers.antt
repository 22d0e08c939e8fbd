use Rattle.std.proofs.Common.{Ordering, subst}
use Rattle.std.specs.List.Sorted.{IsBinarySearchResult}
use Rattle.pgs_base.specs.declared.element.Elem.{Elem}
use Rattle.pgs_base.specs.Order.{elem_cmp}
use Rattle.pgs_base.specs.OrderLaws.{elem_cmp_total}
use Rattle.pgs_base.proofs.Ascending.{ascends_decides}
use Rattle.pgs_base.proofs.Places.{key_searched}
use Rattle.pgs_check.proofs.ElemOrder.{cmp_same}
use Rattle.pgs_check.proofs.sharing.place_of.Goals as goal

pub returns : goal.returns
returns c =
    key_searched elem_cmp_total c.args.elem c.args.elems.now ((ascends_decides elem_cmp c.args.elems.now).0 c.requires) c.binary_search.result
    c.binary_search.ensures.bound
    (subst (λ (cmp : Elem → Elem → Ordering). IsBinarySearchResult (λ y. cmp y c.args.elem) c.args.elems.now c.binary_search.result) cmp_same c.binary_search.ensures.position)
