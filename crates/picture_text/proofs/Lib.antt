mod EventLine
mod PageParts
mod Rows
