-- The rows of generated fabrics.
pub mod GeneratedRows
pub mod NodeRows
pub mod Places
pub mod Ranges
pub mod RegularRows
pub mod TerminalLists
