mod Bounds
mod Schedule
mod Strays
mod Trees
mod Lists
