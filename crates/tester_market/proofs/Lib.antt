pub mod Plans
pub mod QuotesPlan
