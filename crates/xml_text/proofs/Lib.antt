mod Quiet
mod Back
