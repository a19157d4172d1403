mod Enough
mod Parts
mod AnyGarbage
mod Runs
mod Lists
