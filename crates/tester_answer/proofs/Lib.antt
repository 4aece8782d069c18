pub mod PlanLemmas
pub mod OneEnd
