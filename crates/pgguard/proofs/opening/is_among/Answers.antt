use Rattle.std.proofs.Common.{◌∙◌, sym}
use Rattle.pgguard.proofs.Names.{list_any-map}
use Rattle.std.specs.Str.{bytes_eq}
use Rattle.pgguard.proofs.opening.is_among.Goals as goal

pub returns : goal.returns
returns c = c.is_any.ensures ∙ sym (list_any-map (bytes_eq c.args.name.now) (λ other. other.now) c.args.names.now)
