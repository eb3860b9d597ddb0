mod Listed
mod Rows
