pub mod ReadEvents
pub mod Given
