mod Words
mod ValueSamples
mod StatementSamples
mod ProgramSamples
mod Declarations
mod Walks
mod Loops
