pub mod RunStems
