-- The order of elements that is derived is the one of the definitions.
use Rattle.std.proofs.Common.{◌≡◌, refl, Ordering}
use Rattle.pgs_base.specs.contracts.element.ElemOrd.TheImpl as elem_ord
use Rattle.pgs_base.specs.declared.element.Elem.{Elem}
use Rattle.pgs_base.specs.declared.element.Elem.TheVariants.{Node, Edge}
use Rattle.pgs_base.specs.Order.{elem_cmp}

cmp_is : (x y : Elem) → (elem_ord.ghosts).cmp x y ≡ elem_cmp x y
cmp_is (Node a) (Node b) = refl
cmp_is (Node a) (Edge b) = refl
cmp_is (Edge a) (Node b) = refl
cmp_is (Edge a) (Edge b) = refl

abbrev pub derived_cmp : Elem → Elem → Ordering
derived_cmp = (elem_ord.ghosts).cmp

pub cmp_same : derived_cmp ≡ elem_cmp
cmp_same = λ i x y. cmp_is x y i
