-- The laws of rd_queue_calls that crates above stand on. No other of its proofs is used there.
pub use Rattle.rd_queue_calls.proofs.QueueCallLaws.{IsConsistent-queue_call, IsConsistent-queue_set_call, queue_call-tick, queue_set_call-tick}
pub use Rattle.rd_queue_calls.proofs.HandleLaws.{handles_go_by_calls, handles_woken_all}
pub use Rattle.rd_queue_calls.proofs.EntryLaws.{EntriesStay-queue_call, EntriesStay-queue_set_call}
pub use Rattle.rd_queue_calls.proofs.SleepingLaws.{queue_call-sleeps, queue_set_call-sleeps}
pub use Rattle.rd_queue_calls.proofs.PostLaws.{IsConsistent-posted, post_wakes_the_first, posted-tick, waiting-put}
pub use Rattle.rd_queue_calls.proofs.QueueCallLaws.{queue_set_there}
pub use Rattle.rd_queue_calls.proofs.HandleLaws.{handles_of_posts}
pub use Rattle.rd_queue_calls.proofs.EntryLaws.{posted_stays}
pub use Rattle.rd_queue_calls.proofs.SleepingLaws.{Lies, Lies-items, posted_sleeps}
