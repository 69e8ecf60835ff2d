pub mod Agreement
pub mod BadVersions
pub mod Cases
