pub mod Heard
pub mod HidingLaws
pub mod HonestLaws
pub mod ReceiveLaws
pub mod ReceivePromise
pub mod SendLaws
pub mod StreamLists
