-- The files of definitions of rd_origin.
pub mod Playing
pub mod RunView
pub mod RunInside
