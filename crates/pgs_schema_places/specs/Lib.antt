pub mod KeyParts
pub mod KeyTexts
pub mod Because
