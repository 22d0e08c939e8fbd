-- Members and digests that compare `Equal` are equal, and the element of a member is found again.
use Rattle.std.proofs.Common.{◌≡◌, ℕ, cond, refl}
use Rattle.std.specs.Cmp.{IsTotalOrder, nat_cmp_total, bool_cmp_total, on_total, then_total}
use Rattle.std.proofs.lemmas.Map.Lookups.{CmpEqualImpliesEq, exact_unsigned}
use Rattle.pgs_base.specs.OrderLaws.{both_Equal, exact_bool}
use Rattle.pgs_base.specs.declared.element.Elem.{Elem}
use Rattle.pgs_base.specs.declared.element.Elem.TheVariants.{Node, Edge}
use Rattle.pgs_keyindex.specs.declared.digest.Digest.{Digest}
use Rattle.pgs_keyindex.specs.declared.member.Member.{Member}
use Rattle.pgs_keyindex.specs.Members.{member_of, member_cmp, digest_cmp}

pub exact_member : CmpEqualImpliesEq member_cmp
exact_member x y h =
    let key = both_Equal _ _ h in
    let edge = both_Equal _ _ key.1 in
    λ i. record { key = exact_unsigned x.key y.key key.0 i; edge = exact_bool x.edge y.edge edge.0 i; id = exact_unsigned x.id y.id edge.1 i }

pub exact_digest : CmpEqualImpliesEq digest_cmp
exact_digest x y h =
    let key = both_Equal _ _ h in
    λ i. record { key = exact_unsigned x.key y.key key.0 i; hash = exact_unsigned x.hash y.hash key.1 i }

pub elem_of : Member → Elem
elem_of member = cond member.edge (Edge (record { 0 = member.id })) (Node (record { 0 = member.id }))

pub found_again : (key : ℕ) (elem : Elem) → elem_of (member_of key elem) ≡ elem
unfolding elem_of
found_again key (Node id) = refl
found_again key (Edge id) = refl

pub key_found : (key : ℕ) (elem : Elem) → (member_of key elem).key ≡ key
key_found key (Node id) = refl
key_found key (Edge id) = refl

pub member_cmp_total : IsTotalOrder member_cmp
member_cmp_total =
    then_total (on_total (λ (m : Member). m.key) nat_cmp_total)
    (then_total (on_total (λ (m : Member). m.edge) bool_cmp_total) (on_total (λ (m : Member). m.id) nat_cmp_total))

pub digest_cmp_total : IsTotalOrder digest_cmp
digest_cmp_total = then_total (on_total (λ (d : Digest). d.key) nat_cmp_total) (on_total (λ (d : Digest). d.hash) nat_cmp_total)
