pub mod DataText
pub mod PageText
