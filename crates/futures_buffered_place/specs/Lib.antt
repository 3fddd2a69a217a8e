pub mod Place
pub mod PlaceInvariant
pub mod History
