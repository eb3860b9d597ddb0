pub mod public
mod StepLaws
mod Calling
