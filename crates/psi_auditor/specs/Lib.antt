pub mod Audit
pub mod AuditPromises
pub mod Commands
