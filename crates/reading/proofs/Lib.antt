mod Outcomes
pub mod FitRecords
pub mod RoundTrip
