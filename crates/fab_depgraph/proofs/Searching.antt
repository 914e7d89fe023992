-- The search forward.
pub mod Found
pub mod Along
pub mod Going
