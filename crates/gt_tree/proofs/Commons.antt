-- A union has one common structure.
pub use Rattle.gt_unions.proofs.OneCommon.{one-common}
