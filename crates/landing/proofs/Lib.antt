-- Laws of scans over rows, of the descendant's places among the target's rows, and of refusal 17.
pub mod Scans
pub mod Order
pub mod Absent
