mod Numbered
mod Searched
