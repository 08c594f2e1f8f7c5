mod KindLemmas
pub mod KindOffsets
mod SameLemmas
mod ValueKinds
mod ValueLemmas
pub mod ValueOffsets
