pub mod Commands
pub mod HidingPromises
pub mod Receive
pub mod ReceivePromises
pub mod Send
pub mod SendPromises
