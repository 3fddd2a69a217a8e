pub mod Common
pub mod ScriptLemmas
pub mod ThreadsLemmas
pub mod ProgramWordsLemmas
mod WakingThreadLemmas
