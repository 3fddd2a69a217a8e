pub mod Common
pub mod SceneLemmas
pub mod HolderLemmas
pub mod SceneInvariantLemmas
pub mod PlaceLemmas
pub mod LostWakeLemmas
pub mod RunsLemmas
