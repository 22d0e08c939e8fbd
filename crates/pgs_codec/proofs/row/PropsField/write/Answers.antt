use Rattle.std.proofs.Common.{refl}
use Rattle.pgs_codec.proofs.Lengths.{all_so}
use Rattle.pgs_codec.proofs.row.PropsField.write.Goals as goal

pub write_all-requires : goal.write_all-requires
write_all-requires c = all_so _ c.as_slice-rows.result.now (λ x. refl)
