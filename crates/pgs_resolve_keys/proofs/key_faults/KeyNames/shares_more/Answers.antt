use Rattle.std.proofs.Common.{[], not, ◌&&◌, sym, ap}
use Rattle.std.specs.List.{list_any}
use Rattle.std.specs.Option.{unwrap_or}
use Rattle.pgs_base.specs.Pair.{same_name, has_name}
use Rattle.pgs_resolve_keys.specs.KeyFaults.{within_of}
use Rattle.pgs_resolve_keys.specs.Patterns.{x_of, places_of, named_in}
use Rattle.pgs_resolve_declared.proofs.Firsts.{none_first}
use Rattle.pgs_resolve_keys.proofs.key_faults.KeyNames.shares_more.Goals as goal

pub returns-in-None : goal.returns-in-None
returns-in-None c key are =
    let x = unwrap_or (x_of key) [] in
    sym (ap (list_any (λ name. not (same_name x name) && has_name name (named_in (places_of (within_of key))))) (none_first (named_in (places_of key.scope)) (c.in-None.ensures key are)))
