pub mod EventKinds
