pub mod PlaceLaws
pub mod CountLaws
