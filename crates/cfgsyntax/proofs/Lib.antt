mod After
pub mod ErrorOffsets
pub mod SelfNamedLemmas
pub mod OneReading
pub mod SoundLemmas
