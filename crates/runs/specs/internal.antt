pub mod After
pub mod Agreement
pub mod AllowedEvents
pub mod Below
pub mod EventLaws
pub mod Made
pub mod StepOf
