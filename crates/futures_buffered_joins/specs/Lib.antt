pub mod JoinRule
pub mod Outputs
pub mod Placed
pub mod Join
pub mod SlotsJoin
pub mod InFlightJoin
