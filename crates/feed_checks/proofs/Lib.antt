mod Ranges
mod Found
mod Flows
