-- What a call leaves of both areas, and the rule of a machine that only puts.
use Rattle.std.specs.Prelude.{true}
use Rattle.pgs_run_lines.specs.Machine.{Machine, Rule}
use Rattle.pgs_run_lines.specs.AreasKept.{KeepsAreas, keeps_none, keeps_on}

-- between and at all lines both areas are kept
abbrev pub keeps_areas : {E : Type 0} (m : Machine E) → Rule m
keeps_areas m = record {
  Kept = Unit {0};
  tells = true;
  holds = λ s view. Unit {0};
  allows = λ s lines extent old new. KeepsAreas old.view new.view;
  none = λ s scene timed holds. keeps_none scene.view timed;
  on = λ s t lines more extent old mid new leads holds p q. keeps_on old.view mid.view new.view p q;
}
