pub mod FindingKinds
