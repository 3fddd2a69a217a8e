pub mod Common
pub mod OneshotPlaceLemmas
pub mod SpscLemmas
