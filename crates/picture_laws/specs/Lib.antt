pub mod DataRead
pub mod DataValue
pub mod EqualPages
pub mod EqualPictures
pub mod LaneChains
