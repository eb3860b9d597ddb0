mod BlockLaws
mod LaneLaws
mod Nearest
mod Reading
mod Sweeping
mod Telling
mod Values
mod Writers
