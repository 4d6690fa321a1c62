pub mod BigEndian
pub mod UpperDigits
pub mod CcwLemmas
pub mod GroupLemmas
pub mod StorageLemmas
pub mod Covering
pub mod Prefixes
