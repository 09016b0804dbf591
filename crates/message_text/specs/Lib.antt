pub mod Faults
pub mod Messages
pub mod PlanLines
pub mod Statuses
