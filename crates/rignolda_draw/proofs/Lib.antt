mod Going
mod Played
mod Taking
mod Writing
