mod ComesBack
mod Headers
