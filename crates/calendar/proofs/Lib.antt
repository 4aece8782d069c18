mod Days
mod Instants
