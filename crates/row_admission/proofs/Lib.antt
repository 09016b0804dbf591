pub mod AdmitLemmas
