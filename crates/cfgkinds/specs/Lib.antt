pub mod YaccKinds
pub mod SameValues
pub mod ValueErrorTexts
pub mod Values
