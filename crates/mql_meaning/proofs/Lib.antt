pub mod Talks
pub mod Programs
mod NumberSamples
mod FlowSamples
mod StoreSamples
mod ObjectSamples
mod TextSamples
