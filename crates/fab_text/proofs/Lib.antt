pub mod Numbers
pub mod Written
pub mod Spelled
pub mod SpelledFields
pub mod LinesMet
pub mod Words
pub mod WordNumbers
pub mod Examples
