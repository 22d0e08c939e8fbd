use Rattle.std.proofs.Common.{◌∙◌, ap, sym, arith}
use Rattle.byteorder.specs.Endian.{big_bytes}
use Rattle.pgs_journal.proofs.Stepping.{number_again_of}
use Rattle.pgs_journal.proofs.records.number_of.Goals as goal

pub returns-clause-bytes : goal.returns-clause-bytes
returns-clause-bytes c =
    number_again_of c.args.bytes.now c.requires (λ i. omega (arith, c.type_inv.bytes i)) ∙ ap (big_bytes 8) (sym c.read_u64.ensures)
