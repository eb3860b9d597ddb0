pub mod public
mod Heading
mod Numbered
mod Reading
