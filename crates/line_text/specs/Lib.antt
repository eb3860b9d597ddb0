pub mod AnswerText
pub mod EventText
pub mod FieldText
pub mod Fields
pub mod Keywords
pub mod Operands
pub mod internal
