pub mod FieldParts
pub mod NoOperand
pub mod Spelled
