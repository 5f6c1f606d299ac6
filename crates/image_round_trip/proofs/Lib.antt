pub mod FromWriter
pub mod FromReader
pub mod RoundTrip
