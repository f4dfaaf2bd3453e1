mod LineWords
mod Parts
mod Values
