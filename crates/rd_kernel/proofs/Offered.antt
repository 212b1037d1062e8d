-- The laws of rd_kernel that crates above stand on. No other of its proofs is used there.
pub use Rattle.rd_kernel.proofs.ConsistentLaws.{ContentsChange, HoldersFitCall-objects, IsConsistent, IsConsistent-contents, IsConsistent-deadlines, IsConsistent-rescheduled}
pub use Rattle.rd_kernel.proofs.ConsistentLaws.{IsConsistent-valid, IsValid-consistent, all_have_time_left, both, map_same, place_there, read_same, task_now}
pub use Rattle.rd_kernel.proofs.WakingLaws.{AfterWaking, AfterWaking-woken_all, TimedOut, TimedOut-so_far, all_looked_at, any_deadline, first_tries_wait, timed_out-next}
pub use Rattle.rd_kernel.proofs.CallLaws.{IsConsistent-advanced, IsConsistent-returned_alone, IsConsistent-done, IsConsistent-failed}
pub use Rattle.rd_kernel.proofs.CallLaws.{IsConsistent-or_blocked, IsConsistent-returned, IsConsistent-stopped, IsConsistent-with_pc}
pub use Rattle.rd_kernel.proofs.CallLaws.{IsConsistent-with_values, IsCallDone, RunsInstr, due_idle, is_task_on_core, or_blocked-tick}
pub use Rattle.rd_kernel.proofs.CallLaws.{room_in_ready, runs_on_core, runs_outside_calls, waits_is_task, woken_first-tick}
pub use Rattle.rd_kernel.proofs.TaskListLaws.{first_is_listed, first_waits, other_none, same_one}
pub use Rattle.rd_kernel.proofs.CallLaws.{free_at}
pub use Rattle.rd_kernel.proofs.MovingLaws.{IsFree, IsFree-objects, free_in_call, free_in_run, true_if_one, none_is_some, runner_waits_nowhere}
pub use Rattle.rd_kernel.proofs.EntryLaws.{IsConsistent-told, IsConsistent-waiting_for_entry, IsConsistent-with_entry, StaysThere, StaysThere-told}
pub use Rattle.rd_kernel.proofs.EntryLaws.{StaysThere-with_entry, free_of_entry, told-tick}
pub use Rattle.rd_kernel.proofs.HoldingLaws.{IsOn, IsOn-come_back, IsOn-completed, IsOn-contents, IsOn-fails, IsOn-outside, IsOn-returns, IsOn-values}
pub use Rattle.rd_kernel.proofs.HoldingLaws.{IsOn-waits_held, NamesTasks, NamesTasks-sized, has_held_still}
pub use Rattle.rd_kernel.proofs.HeldStepLaws.{CanComplete-task, HasReceived, HasReceived-come_back, HasReceived-completed, HasReceived-waits_held, IsBeside}
pub use Rattle.rd_kernel.proofs.HeldStepLaws.{PcsStay, PcsStay-come_back, PcsStay-completed, PcsStay-waits_held, come_back-beside, come_back-tick}
pub use Rattle.rd_kernel.proofs.HeldStepLaws.{completed-beside, completed-tick, waits_held-beside, waits_held-tick}
pub use Rattle.rd_kernel.proofs.EntryLaws.{EntriesStay, EntriesStay-concluded, EntriesStay-task, EntriesStay-woken_all, EachStays, EachStays-task, entry_after, not_that}
pub use Rattle.rd_kernel.proofs.SleepingLaws.{IsBeside-message, IsBeside-stream, IsSleeper, IsSleeper-valid, Sleeps, Sleeps-come_back, Sleeps-completed}
pub use Rattle.rd_kernel.proofs.SleepingLaws.{Sleeps-concluded, Sleeps-notified, Sleeps-other, Sleeps-timed_out, Sleeps-waits_held, Sleeps-with_entry, Sleeps-woken_all}
pub use Rattle.rd_kernel.proofs.SleepingLaws.{Sleeps-woken_first, but_entries, concluded-objects, holder_there, named_before_call, read_anyway}
pub use Rattle.rd_kernel.proofs.SleepingLaws.{runner_is_another}
pub use Rattle.rd_kernel.proofs.GivingLaws.{IsConsistent-given, IsOn-given, IsOn-waits_in_group, room_for_all, waits_at_group}
pub use Rattle.rd_kernel.proofs.CallLaws.{room_in_list}
pub use Rattle.rd_kernel.proofs.EntryLaws.{EachStays-woken_all}
pub use Rattle.rd_kernel.proofs.CallLaws.{room_while_a_list_has_one, room_while_one_waits, who_waits_leaves_room}
pub use Rattle.rd_kernel.proofs.WakingLaws.{IsConsistent-woken_first}
