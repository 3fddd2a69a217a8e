pub mod Agents
pub mod Scene
pub mod Runs
