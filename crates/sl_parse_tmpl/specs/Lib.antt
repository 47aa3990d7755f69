-- What a reader must believe, in this order.
pub mod Words
pub mod Trees
pub mod LastNew
pub mod Grammar
-- The rules as readers, which the contracts cite.
pub mod Rules
pub mod Faults
-- What a fault says of the tokens, in the words of the grammar.
pub mod Refusals
