pub mod Arms
pub mod Lending
pub mod Listed
pub mod Parts
pub mod Received
pub mod Steps
