mod Blind
mod Ends
mod EveryKind
mod Parts
mod Sifted
