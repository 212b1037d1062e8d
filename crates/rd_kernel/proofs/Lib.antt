-- The files of lemmas of rd_kernel.
pub mod ConsistentLaws
pub mod TaskListLaws
pub mod HolderLaws
pub mod MovingLaws
pub mod WakingLaws
pub mod CallLaws
pub mod EntryLaws
pub mod HoldingLaws
pub mod HeldStepLaws
pub mod GivingLaws
pub mod SleepingLaws
pub mod Offered
