-- The laws of rd_bytes that the crates above stand on.
pub use Rattle.rd_bytes.proofs.EndLaws.{end_byte_of, end_short_of, end_word_of, end_long_of}
pub use Rattle.rd_bytes.proofs.EndLaws.{all_but_end, all_but_saved, bytes_before_end, length-all_but}
pub use Rattle.rd_bytes.proofs.EndLaws.{number_again}
pub use Rattle.rd_bytes.proofs.LayoutLaws.{ComesBack, laid_read}
