-- The files of lemmas of rd_question.
pub mod AskedLaws
pub mod CallLaws
pub mod IsrLaws
pub mod LineLaws
pub mod SaidLaws
pub mod StatusLaws
pub mod TextLaws
pub mod WrongLaws
