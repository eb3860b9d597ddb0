pub mod Numbers
pub mod PageText
