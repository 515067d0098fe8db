mod Calling
mod PassedOn
