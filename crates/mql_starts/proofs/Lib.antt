mod Beginnings
mod Declarations
