-- The files of lemmas of rd_state.
pub mod TaskLaws
pub mod ObjectLaws
pub mod UndoLaws
pub mod SizeLaws
pub mod EditLaws
pub mod TransferLaws
pub mod SettleLaws
pub mod ScheduleLaws
pub mod PlaceLaws
pub mod BootLaws
pub mod EndLaws
pub mod Offered
pub mod TaskPackingLaws
pub mod PackingLaws
