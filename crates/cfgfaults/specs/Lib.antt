pub mod FaultErrors
pub mod StartFaultTexts
