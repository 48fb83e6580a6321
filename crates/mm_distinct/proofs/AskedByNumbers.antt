-- The variables and pairs that `asked` lists, by numbers and by names.
pub mod ListedVariables
pub mod OrderedVariables
pub mod NamedVariables
