pub mod Below
pub mod Numbered
pub mod OrderedEntries
pub mod OrderedEntriesInvariant
pub mod FuturesOrderedBounded
pub mod FuturesOrdered
