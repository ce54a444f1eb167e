pub mod CommandCursor
pub mod CursorLaws
pub mod Hearing
pub mod Machines
pub mod Places
pub mod Reading
pub mod Verdicts
pub mod Views
