-- What a reader must believe, in this order.
pub mod Ahead
pub mod Tokens
pub mod Spans
pub mod Trees
pub mod PatternTrees
pub mod Starts
pub mod LastNew
pub mod Phrases
pub mod Grammar
pub mod Until
-- The rules as readers, which the contracts cite.
pub mod Reading
pub mod Rules
pub mod PatternRules
pub mod Levels
pub mod Nests
