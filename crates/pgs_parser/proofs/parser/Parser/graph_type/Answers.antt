use Rattle.std.proofs.Common.{arith}
use Rattle.pgs_parser.proofs.Chains.{sign_sound, keyword_sound, name_sound}
use Rattle.pgs_parser.proofs.SoundStatements.{mode_sound, imports_sound}
use Rattle.pgs_parser.proofs.parser.Parser.graph_type.Goals as goal

pub members-requires : goal.members-requires
members-requires c =
    let type = (keyword_sound "TYPE" c.args.self.now c.keyword.new.self c.in_ok-keyword.ensures).1 in
    let name = (name_sound c.keyword.new.self (c.in_ok-name.name, c.name.new.self) c.in_ok-name.ensures).1 in
    let mode = (mode_sound c.name.new.self (c.in_ok-strict.strict, c.mode.new.self) c.in_ok-strict.ensures).1 in
    let imports = (imports_sound c.mode.new.self (c.in_ok-imports.imports, c.imports.new.self) c.in_ok-imports.ensures).1 in
    let open_ = (sign_sound "{" c.imports.new.self c.sign.new.self c.in_ok-sign.ensures).1 in
    omega (arith, c.requires)
