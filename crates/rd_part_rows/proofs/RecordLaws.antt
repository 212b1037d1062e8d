-- A move drops no more bytes than a queue can hold, so that the weight of its record can be counted.
pub use Rattle.rd_calls.proofs.Offered.{dropped_few}
