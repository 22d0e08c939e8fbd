-- What bounds the look-ups of a check.
pub use Rattle.pgs_match.specs.Planned.{HaveEdgesWithin}
