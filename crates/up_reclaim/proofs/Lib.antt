pub mod EachPage
pub mod Borrows
pub mod PageLists
pub mod Vacates
