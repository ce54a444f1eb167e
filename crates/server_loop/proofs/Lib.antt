mod Passing
mod Going
mod Members
mod Closing
mod Turning
mod Joining
mod Staffing
