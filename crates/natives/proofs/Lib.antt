pub mod ConstantNames
pub mod FieldNames
pub mod NativeNames
pub mod Numbers
pub mod PredefinedNames
pub mod ShortNames
pub mod StructureFields
pub mod SuppliedNames
