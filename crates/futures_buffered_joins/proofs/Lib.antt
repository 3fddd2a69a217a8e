pub mod Common
pub mod OutputsLemmas
pub mod JoinLemmas
pub mod SlotsJoinLemmas
pub mod InFlightJoinLemmas
