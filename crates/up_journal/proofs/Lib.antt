pub mod PageRuns
pub mod Runs
