pub mod CyclicGroups
pub mod Inner
pub mod StepLists
pub mod StepPaths
pub mod UnitSteps
