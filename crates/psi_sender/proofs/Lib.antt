mod Numbers
mod Making
mod Listed
mod Coming
mod Going
pub mod Awaited
pub mod Serving
mod Owing
mod Honest
pub mod Within
