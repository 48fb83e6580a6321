-- The rules of meaning.
-- `ObeyedRules` first: what follows where no statement breaks a rule after those before it.
-- `SymbolLookups` tells what the rules ask of a symbol or label from what is known of its number,
-- `RepeatedSymbols` from the tokens of a statement; `RuleOrder` says which rule is the first one
-- that is broken. On these rests `rule` of `Book::take`; `some_verdict` on `DecidedStatements`.
pub mod DecidedStatements
pub mod ObeyedRules
pub mod RepeatedSymbols
pub mod SymbolLookups
pub mod RuleOrder
pub mod BreakingSymbols
