mod Aging
mod Joining
mod Lived
