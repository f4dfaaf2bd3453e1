pub mod AuditLaws
pub mod CollisionLines
pub mod Verdicts
