pub mod Common
pub mod NumberedLemmas
pub mod OrderedEntriesInvariantLemmas
pub mod OrderedEntriesLemmas
pub mod FuturesOrderedBoundedLemmas
pub mod FuturesOrderedLemmas
pub mod OrderedStreamLemmas
