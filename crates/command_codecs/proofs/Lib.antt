pub mod CommandSteps
pub mod CursorSteps
pub mod Digits
pub mod MachineSteps
pub mod Sizes
