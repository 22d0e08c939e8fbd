-- An element as a member of the scope of a key, and how such members and digests of tuples go.
use Rattle.std.specs.Prelude.{ℕ, true, false}
use Rattle.std.specs.declared.cmp.Ordering.{Ordering}
use Rattle.std.specs.Ordering.{nat_cmp, bool_cmp, ordering_then}
use Rattle.pgs_base.specs.declared.element.Elem.{Elem}
use Rattle.pgs_base.specs.declared.element.Elem.TheVariants.{Node, Edge}
use Rattle.pgs_keyindex.specs.declared.member.Member.{Member}
use Rattle.pgs_keyindex.specs.declared.digest.Digest.{Digest}

-- the element as a member of the scope of the key of a number
abbrev pub member_of : ℕ → Elem → Member
member_of key (Node id) = record { key = key; edge = false; id = id.0 }
member_of key (Edge id) = record { key = key; edge = true; id = id.0 }

-- members go by key, and then as elements do: nodes before edges, and each kind by its numbers
abbrev pub member_cmp : Member → Member → Ordering
member_cmp a b = ordering_then (nat_cmp a.key b.key) (ordering_then (bool_cmp a.edge b.edge) (nat_cmp a.id b.id))

-- digests go by key, and then by their numbers
abbrev pub digest_cmp : Digest → Digest → Ordering
digest_cmp a b = ordering_then (nat_cmp a.key b.key) (nat_cmp a.hash b.hash)
