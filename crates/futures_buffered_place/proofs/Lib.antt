pub mod Common
pub mod PlaceLemmas
pub mod ShapeLemmas
