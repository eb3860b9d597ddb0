mod Handing
mod WordExamples
mod WordLemmas
