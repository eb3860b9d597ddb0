mod Framing
mod Printing
mod Sending
mod Sessions
mod ShortEvents
mod ShortForms
