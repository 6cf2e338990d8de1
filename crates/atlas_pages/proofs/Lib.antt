mod Searching
mod Changing
mod Offering
mod Adding
