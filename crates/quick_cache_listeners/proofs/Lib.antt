mod Runs
mod Sums
mod Told
mod Written
