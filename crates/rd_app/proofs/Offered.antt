-- What the crates above cite.
pub use Rattle.rd_app.proofs.ProfileLaws.{few_cores_of}
