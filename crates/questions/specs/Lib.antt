pub mod Asking
pub mod WhyText
