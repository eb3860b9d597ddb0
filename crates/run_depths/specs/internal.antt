pub mod Held
pub mod PlacesHeld
pub mod RacesSoFar
