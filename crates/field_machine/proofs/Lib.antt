pub mod Fields
pub mod MachineSteps
pub mod Parts
mod ScanSteps
