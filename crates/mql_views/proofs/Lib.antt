pub mod Stands
pub mod ValueForms
pub mod StatementForms
pub mod DeclarationForms
pub mod FunctionForms
pub mod ItemForms
