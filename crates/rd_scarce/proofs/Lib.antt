-- The files of lemmas of rd_scarce.
mod AimLaws
