mod Clashed
mod Greater
mod InLine
mod Marked
