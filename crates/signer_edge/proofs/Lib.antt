pub mod CertificateFacts
pub mod SealFacts
pub mod StatementFacts
