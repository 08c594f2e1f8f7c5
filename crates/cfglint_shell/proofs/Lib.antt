pub mod RequestedArguments
pub mod FilesInTurn
pub mod KindsListed
