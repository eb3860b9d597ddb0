mod ActingLines
mod ChildPlaces
