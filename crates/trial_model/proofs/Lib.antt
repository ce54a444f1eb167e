pub mod AcquisitionRows
pub mod ConnectionRows
pub mod DeviceRows
pub mod FrameRows
pub mod Lines
