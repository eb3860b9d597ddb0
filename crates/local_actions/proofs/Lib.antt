pub mod public
mod PlaceOrder
