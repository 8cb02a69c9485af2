-- The journal's laws, from the bottom up.
pub mod RecordLaws
pub mod SpanLaws
pub mod Format
pub mod OpeningLaws
pub mod PlaceLaws
pub mod WalkLaws
pub mod ReplayLaws
pub mod Singly
pub mod ChargeLaws
pub mod ForecastLaws
pub mod HeadLaws
pub mod Forecasts
pub mod Lists
pub mod KnownJournals
pub mod KnownForecasts
pub mod KnownTasks
