-- Faults by their places, and the search for the first.
pub mod FaultSearch
pub mod FaultsDecided
pub mod FirstStarts
pub mod Firsts
pub mod HopFaults
pub mod HopsJudged
pub mod Judged
pub mod Reached
pub mod RouteFaults
pub mod SoughtFaults
pub mod StartFaults
pub mod StartsSorted
