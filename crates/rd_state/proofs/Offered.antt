-- The laws of rd_state that crates above stand on. No other of its proofs is used there.
pub use Rattle.rd_state.proofs.ObjectLaws.{group_count_shaped, group_in_sized, message_count_shaped, message_in_sized, queue_count_shaped, queue_set_count_shaped, stream_count_shaped, stream_in_sized}
pub use Rattle.rd_state.proofs.PlaceLaws.{IsSizedList-waiting_at, queue_sized}
pub use Rattle.rd_state.proofs.ScheduleLaws.{Rescheduled, Rescheduled-rotated, Rescheduled-settled, Rescheduled-then, one_if, times_in_list-cons}
pub use Rattle.rd_state.proofs.ScheduleLaws.{times_in_list-joined, times_on_cores-set}
pub use Rattle.rd_state.proofs.EndLaws.{scheduling_settles, settled-still, stays_settled}
pub use Rattle.rd_state.proofs.PackingLaws.{all_packed-changes_in, count-le, length-changes_in, weight_bounds_bytes, length-weight-le}
pub use Rattle.rd_state.proofs.SizeLaws.{length-joined}
