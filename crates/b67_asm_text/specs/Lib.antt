pub mod Records
pub mod Numbers
pub mod Names
pub mod Mnemonics
pub mod Operands
pub mod Phrases
pub mod Items
