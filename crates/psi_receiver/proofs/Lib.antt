pub mod Gathering
pub mod RowCodes
pub mod Placed
pub mod Merging
pub mod Awaited
pub mod Hearing
pub mod Fronts
mod Honest
pub mod Marks
pub mod Shown
pub mod Unmarking
pub mod Hits
mod Coming
mod Going
mod Wires
mod Within
mod Kept
pub mod Received
mod Holding
mod Taking
pub mod Beginning
pub mod Marked
