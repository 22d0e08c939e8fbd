use Rattle.std.proofs.Common.{◌≡◌, true, false, refl}
use Rattle.pgs_journal.proofs.records.RecordReader.reaches.Goals as goal

pub returns-then-place-known-clause-asked : goal.returns-then-place-known-clause-asked
returns-then-place-known-clause-asked g c =
    record { asked = false; answered = refl; shown = λ told. tt; surely = λ out. absurd (let no : true ≡ false = out in cc) }

pub returns-clause-asked : goal.returns-clause-asked
returns-clause-asked g c =
    record { asked = true; answered = (c.len.new.self, c.in_ok-known.ensures.answered, refl); shown = λ told. (c.in_ok-known.ensures.length told, tt); surely = λ out. refl }
