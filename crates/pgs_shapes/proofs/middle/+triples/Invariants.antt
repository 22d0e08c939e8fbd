use Rattle.std.proofs.Common.{◌≡◌, ℕ, Bool, true, List, length, take}
use Rattle.std.specs.List.{list_all}
use Rattle.pgs_syntax.specs.Join.{PairTriple}
use Rattle.pgs_syntax.specs.Valid.{is_valid_spec}
use Rattle.pgs_syntax.specs.Width.{Width}
use Rattle.pgs_conform.specs.Counts.{AreWithin}
use Rattle.pgs_conform.specs.Standing.{EachDenotesTriples}
use Rattle.pgs_shapes.specs.Counts.{PartsWithin}
use Rattle.pgs_shapes.specs.Parts.{PartsDenoteTriples}
use Rattle.pgs_shapes.proofs.middle.+triples.Given as goal

abbrev pub invariant-triples_of_each-loop-part : goal.invariant-triples_of_each-loop-part
invariant-triples_of_each-loop-part l = record {
  denote : list_all (is_valid_spec (length l.named)) l.parts ≡ true → (test : ℕ → PairTriple → Bool) → EachDenotesTriples l.named test →
      PartsDenoteTriples test (take l.part-index l.parts) l.lists.items;
  within : (widths : List Width) → AreWithin widths l.named → PartsWithin widths (take l.part-index l.parts) l.lists.items;
}
