pub mod ReportLemmas
pub mod RunLemmas
pub mod QuoteLemmas
pub mod OneReport
