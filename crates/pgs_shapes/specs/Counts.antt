-- Lists of shapes for the parts of a specification: no list is longer than the width of its part counts forms.
use Rattle.std.specs.Prelude.{◌≤◌, List, length}
use Rattle.std.specs.List.{AllZip}
use Rattle.pgs_syntax.specs.declared.specification.Leaf.{Leaf}
use Rattle.pgs_syntax.specs.declared.specification.Spec.{Spec}
use Rattle.pgs_syntax.specs.Width.{Width, width_of}

-- where the widths of the types that the parts name are given
abbrev pub PartsWithin : {S : Type 0} → List Width → List (Spec Leaf) → List (List S) → Type 0
PartsWithin widths = AllZip (λ part list. length list ≤ (width_of widths part).count)
