-- The words of this crate that others cite.
pub use Rattle.store_state.specs.Dataset.{Dataset, State, empty_state, versions_of, version_of, definition_of, definitions_of, dataset_of, flow_of, cursor_of, counts_of, after_payload, state_from, state_after}
pub use Rattle.store_state.specs.Versions.{Versions}
pub use Rattle.store_state.specs.Follows.{Fits, WithinVersions, IsAtLimit, IsNext, MayFollow}
