pub mod SpotsSoFar
