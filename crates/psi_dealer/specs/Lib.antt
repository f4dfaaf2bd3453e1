pub mod Commands
pub mod Deal
pub mod Renew
pub mod RenewPromises
