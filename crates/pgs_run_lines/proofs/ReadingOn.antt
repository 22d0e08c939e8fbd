-- More of an input is read.
use Rattle.std.proofs.Common.{◌≡◌, ℕ, ◌+◌, ◌-◌, ◌≤◌, List, [], ◌++◌, length, Option, Some, None, Err, refl, sym, ap, ◌∙◌, append_assoc, length-append, arith}
use Rattle.std.specs.Option.{option_map}
use Rattle.pgs_world.specs.Source.{Takes}
use Rattle.pgs_run_lines.specs.declared.stop.Stop.{Stop}
use Rattle.pgs_run_lines.specs.declared.stop.Stop.TheVariants as stops
use Rattle.pgs_run_lines.specs.Driving.{Runs, StopsAt}
use Rattle.pgs_run_lines.specs.Ending.{faults_of, HasCause}
use Rattle.pgs_run_lines.specs.Input.{kept_of}
use Rattle.pgs_run_lines.specs.Machine.{Machine, Rule, Scene, HasRoomFor}
use Rattle.pgs_run_lines.specs.Reading.{StopsIn, Reads, ReadSoFar}
use Rattle.pgs_run_lines.proofs.Causes.{no_rise}
use Rattle.pgs_run_lines.proofs.Driven.{runs_more, stops_more, room_fewer}

pub none_taken : (left : Option (List ℕ)) → Takes left left []
none_taken None = refl
none_taken (Some rest) = refl

map_more : (left : Option (List ℕ)) (seen chunk : List ℕ) → option_map (λ (rest : List ℕ). seen ++ rest) (option_map (λ (rest : List ℕ). chunk ++ rest) left) ≡ option_map (λ (rest : List ℕ). (seen ++ chunk) ++ rest) left
map_more None seen chunk = refl
map_more (Some rest) seen chunk = ap Some (sym (append_assoc seen chunk rest))

pub takes_on : (before mid left : Option (List ℕ)) (seen chunk : List ℕ) → Takes before mid seen → Takes mid left chunk → Takes before left (seen ++ chunk)
takes_on before mid left seen chunk first second =
    first ∙ ap (λ o. option_map (λ (rest : List ℕ). seen ++ rest) o) second ∙ map_more left seen chunk

-- room after a read
pub room_read : {E : Type 0} (m : Machine E) (left count : ℕ) (chunk : List ℕ) (s t : m.State) → length chunk ≡ count → count ≤ left → ((more : ℕ) → HasRoomFor m (length chunk + more) s → HasRoomFor m more t) → HasRoomFor m (left + 1) s → HasRoomFor m (left - count + 1) t
room_read m left count chunk s t is within one has =
    one (left - count + 1) (room_fewer m (length chunk + (left - count + 1)) (left + 1) s (omega arith) has)

pub room_chunk : {E : Type 0} (m : Machine E) (left count : ℕ) (chunk : List ℕ) (s : m.State) → length chunk ≡ count → count ≤ left → HasRoomFor m (left + 1) s → HasRoomFor m (length chunk) s
room_chunk m left count chunk s is within has = room_fewer m (length chunk) (left + 1) s (omega arith) has

module _ {E : Type 0} (m : Machine E) (rule : Rule m) (limit : ℕ) where
  -- a stop of the taking is one of the reading
  stops_in : (s : m.State) (start : Scene rule.Kept) (seen : List ℕ) (state : m.State) (line : List ℕ) (stop : Stop E) (old now : Scene rule.Kept) → HasCause (faults_of 0 old.view) (faults_of 0 now.view) stop → StopsAt m rule s start (kept_of limit seen).ended stop now → StopsIn m rule limit s start seen state line stop now
  stops_in s start seen state line (stops.Ended status) old now cause stopped = stopped
  stops_in s start seen state line stops.ReadFault old now cause stopped = absurd (no_rise 0 cause.0 refl)
  stops_in s start seen state line stops.PutFault old now cause stopped = stopped
  stops_in s start seen state line stops.DiskFault old now cause stopped = stopped
  stops_in s start seen state line stops.Memory old now cause stopped = stopped

  -- before the first read
  pub read_none : (s : m.State) (start : Scene rule.Kept) (line : List ℕ) (budget : ℕ) (left : Option (List ℕ)) → Runs m rule limit s start [] s line start → ReadSoFar m rule limit s start budget budget left left s line start
  read_none s start line budget left runs = record {
    bytes = [];
    taken = none_taken left;
    counted = omega arith;
    runs = runs;
  }

  -- a read more
  pub read_on : (s state next : m.State) (start mid now : Scene rule.Kept) (line left chunk : List ℕ) (budget rest count : ℕ) (before src src_now : Option (List ℕ)) → length chunk ≡ count → count ≤ rest → ReadSoFar m rule limit s start budget rest before src state line mid → Takes src src_now chunk → Runs m rule limit state mid (line ++ chunk) next left now → ReadSoFar m rule limit s start budget (rest - count) before src_now next left now
  read_on s state next start mid now line left chunk budget rest count before src src_now is within p taken q = record {
    bytes = p.bytes ++ chunk;
    taken = takes_on before src src_now p.bytes chunk p.taken taken;
    counted = let e = length-append p.bytes chunk in let h = p.counted in omega arith;
    runs = runs_more m rule limit s state next start mid now p.bytes chunk line left p.runs q;
  }

  -- or a stop in what was read
  pub read_stops : (s state next : m.State) (start mid now : Scene rule.Kept) (line left chunk : List ℕ) (budget rest count : ℕ) (before src src_now : Option (List ℕ)) (stop : Stop E) → length chunk ≡ count → count ≤ rest → ReadSoFar m rule limit s start budget rest before src state line mid → Takes src src_now chunk → HasCause (faults_of 0 mid.view) (faults_of 0 now.view) stop → StopsAt m rule state mid (kept_of limit (line ++ chunk)).ended stop now → Reads m rule limit s start budget before src_now next left (Err stop) now
  read_stops s state next start mid now line left chunk budget rest count before src src_now stop is within p taken cause q = record {
    bytes = p.bytes ++ chunk;
    taken = takes_on before src src_now p.bytes chunk p.taken taken;
    ends = (
      (let e = length-append p.bytes chunk in let h = p.counted in omega arith),
      stops_in s start (p.bytes ++ chunk) next left stop mid now cause (stops_more m rule limit s state start mid now p.bytes chunk line stop p.runs q),
    );
  }
