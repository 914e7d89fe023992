pub mod Faults
pub mod Shelf
pub mod Reading
pub mod Sink
pub mod MemoryShelf
pub mod MemorySink
