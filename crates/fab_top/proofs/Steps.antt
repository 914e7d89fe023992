-- One file after the other: what is said of the files of a command, by the steps in which they are taken.
pub mod Concluding
pub mod Taking
pub mod WithoutFiles
pub mod OnFabric
pub mod OnBoth
pub mod OnTwoPlans
pub mod OnGroups
pub mod AfterFiles
pub mod AfterList
