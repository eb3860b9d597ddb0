pub mod OnChannel
pub mod StemsFrom
pub mod Table
pub mod Uses
pub mod internal
