-- Worked examples.
mod Cuts
mod Engines
