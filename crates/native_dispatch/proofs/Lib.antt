pub mod Chaptered
