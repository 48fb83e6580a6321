pub mod Tokens
pub mod Inclusions
pub mod Reader
pub mod PassedStatements
pub mod Alike
pub mod Replaced
pub mod SaidBefore
pub mod ShownTexts
