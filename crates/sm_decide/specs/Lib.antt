-- For proofs only; what a reader must believe are the definitions of sm_rule.
pub mod Forms
