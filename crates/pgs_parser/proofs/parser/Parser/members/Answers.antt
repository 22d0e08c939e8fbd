use Rattle.std.proofs.Common.{length, flat_map, ap, arith}
use Rattle.pgs_parser.specs.Statements.{place_of_member}
use Rattle.pgs_parser.proofs.SoundStatements.{elements_if_sound}
use Rattle.pgs_parser.proofs.parser.Parser.members.Goals as goal

pub declared_by_all-requires : goal.declared_by_all-requires
declared_by_all-requires c =
    let enough = (elements_if_sound c.args.place c.args.self.now (c.in_ok-elements.elements, c.elements_if.new.self) c.in_ok-elements.ensures).2 in
    omega (arith, c.requires, ap (λ ms. length (flat_map place_of_member ms)) c.as_slice.ensures)

pub overflow_add-after : goal.overflow_add-after
overflow_add-after c =
    let enough = (elements_if_sound c.args.place c.args.self.now (c.in_ok-elements.elements, c.elements_if.new.self) c.in_ok-elements.ensures).2 in
    omega (arith, c.requires, c.declared_by_all.ensures.count, ap (λ ms. length (flat_map place_of_member ms)) c.as_slice.ensures)

pub keys_if-requires : goal.keys_if-requires
keys_if-requires c =
    let enough = (elements_if_sound c.args.place c.args.self.now (c.in_ok-elements.elements, c.elements_if.new.self) c.in_ok-elements.ensures).2 in
    omega (arith, c.requires, c.declared_by_all.ensures.count, ap (λ ms. length (flat_map place_of_member ms)) c.as_slice.ensures)
