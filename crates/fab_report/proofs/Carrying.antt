-- Terminals carried along the delivered routes to one LID.
pub mod WalkedRoutes
pub mod RouteWays
pub mod Marks
pub mod WalkSteps
pub mod LayingSteps
pub mod CarrySteps
