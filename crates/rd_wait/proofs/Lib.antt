-- The files of lemmas of rd_wait.
pub mod ListLaws
pub mod JoinedLaws
pub mod SizedListLaws
pub mod RemovalLaws
pub mod Offered
