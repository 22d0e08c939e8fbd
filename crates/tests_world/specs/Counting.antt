-- A machine that counts lines.
use Rattle.std.specs.Prelude.{ℕ, ◌+◌, ◌<◌, ◌^◌, List, [], ◌∷◌, ◌++◌, codes, if◌then◌else◌}
use Rattle.std.specs.Cmp.Lexicographic.{pointwise}
use Rattle.std.specs.Bool.{◌==◌}
use Rattle.std.specs.Fmt.{decimal}
use Rattle.pgs_run_lines.specs.declared.stop.Stop.{Stop}
use Rattle.pgs_run_lines.specs.declared.stop.Stop.TheVariants as stops
use Rattle.pgs_run_lines.specs.Input.{is_blank}
use Rattle.pgs_run_lines.specs.Machine.{Machine, Step, Going, Ended}
use Rattle.tests_world.specs.declared.counting.CountEnd.{CountEnd}
use Rattle.tests_world.specs.declared.counting.CountEnd.TheVariants.{Counted, Cut, Point}

-- `lines=3`
unfoldable pub count_line : ℕ → List ℕ
count_line count = codes "lines=" ++ (decimal count ++ codes "\n")

-- a point ends the run; a blank line isn't counted
abbrev pub after_line : ℕ → List ℕ → Step ℕ CountEnd
after_line count line =
    if pointwise ◌==◌ line (codes ".") then record { pieces = codes "point\n" ∷ []; next = Ended Point }
    else (if is_blank 80 line then record { pieces = []; next = Going count } else record { pieces = []; next = Going (count + 1) })

-- no area is touched
abbrev pub MayStop : Stop CountEnd → Type 0
MayStop (stops.Ended status) = Unit {0}
MayStop stops.ReadFault = ⊥
MayStop stops.DiskFault = ⊥
MayStop stops.PutFault = Unit {0}
MayStop stops.Memory = Unit {0}

-- at the end it tells the count, and the rest that no line feed ended
abbrev pub counting : Machine CountEnd
counting = record {
  State = ℕ;
  line = after_line;
  rest = λ count rest. record { pieces = count_line count ∷ rest ∷ codes "\n" ∷ []; status = Counted };
  cut = λ count. Cut;
  MayStop = MayStop;
  HasRoom = λ lines count. count + lines < 2 ^ 64;
}
