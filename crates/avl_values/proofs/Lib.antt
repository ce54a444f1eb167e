pub mod NxLists
pub mod Places
