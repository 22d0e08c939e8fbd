pub mod Alone
pub mod Couple
pub mod Faulty
pub mod Matched
pub mod NoFlag
pub mod NumberOn
pub mod SlicesOn
pub mod Walks
