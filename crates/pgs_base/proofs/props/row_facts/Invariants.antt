use Rattle.std.proofs.Common.{◌≡◌, true, take}
use Rattle.std.specs.List.{list_all}
use Rattle.std.specs.Map.{keys_of}
use Rattle.pgs_base.specs.Name.{is_name}
use Rattle.pgs_base.specs.Properties.{has_value}
use Rattle.pgs_base.proofs.props.row_facts.Given as goal

abbrev pub invariant-loop-row : goal.invariant-loop-row
invariant-loop-row l = record {
  names : list_all is_name (keys_of (take l.row-index l.rows)) ≡ true;
  values : list_all has_value (take l.row-index l.rows) ≡ true;
}
