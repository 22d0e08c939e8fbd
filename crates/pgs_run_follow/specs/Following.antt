-- Following as a machine over lines.
use Rattle.std.specs.Prelude.{true, ◌≡◌, ◌<◌, ◌^◌, ◌+◌, ℕ, List, [], length, is_some, refl, if◌then◌else◌}
use Rattle.std.proofs.Common.{◌∙◌}
use Rattle.pgs_run_lines.specs.AreasKept.{KeepsAreas, keeps_none, keeps_on}
use Rattle.pgs_run_lines.specs.Machine.{Machine, Rule, Extent, Whole, Inside, AtEnd, Told, Going}
use Rattle.pgs_run_lines.specs.May.{MayPut}
use Rattle.pgs_run_lines.specs.Pieces.{Shown, shown_of}
use Rattle.pgs_follow.specs.Followed.{Followed, after_line, with_rest}
use Rattle.pgs_command.specs.declared.status.Status.{Status}
use Rattle.pgs_command.specs.declared.status.Status.TheVariants.{InputTooLong}
use Rattle.pgs_run_follow.specs.Texts.{standard}
use Rattle.pgs_run_follow.specs.Told.{told_of}

-- how many bytes of an unfinished line there are; none once there is a fault
abbrev pub rest_after : Followed → List ℕ → ℕ
rest_after f rest = if is_some f.fault then 0 else length rest

-- what the end of the input tells, behind this rest
abbrev pub told_last : Followed → List ℕ → Told Status
told_last f rest = told_of (with_rest f rest) (rest_after (with_rest f rest) rest)

-- lines tell nothing before the end
abbrev pub following : Machine Status
following = record {
  State = Followed;
  line = λ f line. record { pieces = []; next = Going (after_line standard f line) };
  rest = told_last;
  cut = λ f. InputTooLong;
  MayStop = MayPut;
  HasRoom = λ lines f. f.lines + lines < 2 ^ 64;
}

-- nothing is put before the end of the input
abbrev pub PutsLast : Extent Status → Shown → Shown → Type 0
PutsLast Whole old new = new ≡ old
PutsLast (Inside stop) old new = new ≡ old
PutsLast (AtEnd rest stop) old new = MayPut stop

pub puts_last_on : (extent : Extent Status) (old mid new : Shown) → mid ≡ old → PutsLast extent mid new → PutsLast extent old new
puts_last_on Whole old mid new p q = q ∙ p
puts_last_on (Inside stop) old mid new p q = q ∙ p
puts_last_on (AtEnd rest stop) old mid new p q = q

-- both areas are kept, and nothing is put before the end of the input
abbrev pub puts_last : Rule following
puts_last = record {
  Kept = Unit {0};
  tells = true;
  holds = λ s view. Unit {0};
  allows = λ s lines extent old new. KeepsAreas old.view new.view × PutsLast extent (shown_of old.view) (shown_of new.view);
  none = λ s scene timed holds. (keeps_none scene.view timed, refl);
  on = λ s t lines more extent old mid new leads holds p q.
      (keeps_on old.view mid.view new.view p.0 q.0, puts_last_on extent (shown_of old.view) (shown_of mid.view) (shown_of new.view) p.1 q.1);
}
