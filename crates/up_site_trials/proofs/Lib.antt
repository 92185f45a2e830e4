mod Blocks
mod Kept
