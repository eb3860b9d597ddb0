mod EachStands
mod SpotLaws
mod WaitLaws
mod Whole
