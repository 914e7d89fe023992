-- A plan has a certificate: the lanes, the dependencies, their levels and the numbers exist.
pub mod Listed
pub mod ByLevels
pub mod Collecting
pub mod Lanes
pub mod Numbers
pub mod Certificates
