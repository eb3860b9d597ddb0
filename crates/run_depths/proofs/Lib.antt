pub mod public
mod ForkLaws
mod HeldLaws
mod RaceLaws
mod SinceLaws
