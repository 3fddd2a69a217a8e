pub mod LinesLemmas
pub mod CommandLemmas
