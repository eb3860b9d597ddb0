mod Cutting
mod Naming
