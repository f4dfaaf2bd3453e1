pub mod DealLaws
pub mod DealWords
pub mod RenewLaws
